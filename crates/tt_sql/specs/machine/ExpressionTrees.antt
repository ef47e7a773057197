-- The tree that marks spell. A reader takes the marks of one tree and gives the tree and the marks behind it.
use Rattle.std.specs.Prelude.{ℕ, zero, suc, List, [], ◌∷◌, length, Option, Some, None, ℤ}
use Rattle.tt_value.specs.declared.name.Literal.{Literal}
use Rattle.tt_value.specs.declared.name.ColumnName.{ColumnName}
use Rattle.tt_value.specs.declared.value.Value.TheVariants.{Null, Int, Date, Text}
use Rattle.tt_value.specs.declared.expression.Sign.{Sign}
use Rattle.tt_value.specs.declared.expression.Sign.TheVariants.{Plus, Minus}
use Rattle.tt_value.specs.declared.expression.Expr.{Expr, roll-Expr}
use Rattle.tt_value.specs.declared.expression.Term.{Term, roll-Term}
use Rattle.tt_value.specs.declared.expression.Addend.{Addend, roll-Addend}
use Rattle.tt_value.specs.declared.expression.Factor.{Factor}
use Rattle.tt_value.specs.declared.expression.Factor.TheVariants as factor
use Rattle.tt_value.specs.calendar.Reading.{day_of}
use Rattle.tt_sql.specs.grammar.Grammar.{Mark, Way, At, Said, Prefix, Meant}

abbrev pub Reader : Type 0 → Type 0
Reader A = List Mark → Option (A × List Mark)

-- with what was read, on to what follows
abbrev pub go_on : {A B : Type 0} → Option (A × List Mark) → (A → Reader B) → Option (B × List Mark)
go_on None next = None
go_on (Some p) next = next p.0 p.1

abbrev pub first_of : {A : Type 0} → Option A → Option A → Option A
first_of None other = other
first_of (Some x) other = Some x

-- ---- lists

-- what is repeated, at most so often
abbrev pub marked_many : {A : Type 0} → Reader A → ℕ → Reader (List A)
marked_many r zero m = None
marked_many r (suc k) (Way zero ∷ m) = Some ([], m)
marked_many r (suc k) (Way (suc zero) ∷ m) = go_on (r m) (λ x later. go_on (marked_many r k later) (λ xs end. Some (x ∷ xs, end)))
marked_many r (suc k) m = None

abbrev pub marked_all : {A : Type 0} → Reader A → Reader (List A)
marked_all r m = marked_many r (length m) m

-- ---- names

-- a name alone, and one with another in front
abbrev pub marked_column : Reader ColumnName
marked_column (Said text place ∷ m) = Some (record { table = None; name = record { text = text; place = place } }, m)
marked_column (Prefix front here ∷ Said text place ∷ m) = Some (record { table = Some (record { text = front; place = here }); name = record { text = text; place = place } }, m)
marked_column m = None

-- ---- literals

abbrev pub dated : ℕ → List Mark → Option ℤ → Option (Literal × List Mark)
dated place m None = None
dated place m (Some day) = Some (record { value = Date day; place = place }, m)

abbrev pub marked_literal : Reader Literal
marked_literal (At place ∷ Way zero ∷ m) = Some (record { value = Null; place = place }, m)
marked_literal (Meant n place ∷ Way (suc zero) ∷ m) = Some (record { value = Int n; place = place }, m)
marked_literal (Said text place ∷ Way (suc (suc zero)) ∷ m) = Some (record { value = Text text; place = place }, m)
marked_literal (Said text place ∷ Way (suc (suc (suc zero))) ∷ m) = dated place m (day_of text)
marked_literal m = None

-- ---- expressions, given a reader of the factors within brackets

abbrev pub term_rest : Reader Factor → Factor → Reader Term
term_rest r f m = go_on (marked_all r m) (λ fs later. Some (roll-Term (record { first = f; others = fs }), later))

abbrev pub marked_term : Reader Factor → Reader Term
marked_term r m = go_on (r m) (term_rest r)

abbrev pub signed : Sign → Term → Reader Addend
signed sign t m = Some (roll-Addend (record { sign = sign; term = t }), m)

abbrev pub marked_addend : Reader Factor → Reader Addend
marked_addend r (Way zero ∷ m) = go_on (marked_term r m) (signed Plus)
marked_addend r (Way (suc zero) ∷ m) = go_on (marked_term r m) (signed Minus)
marked_addend r m = None

abbrev pub expr_rest_of : Reader Factor → Term → Reader Expr
expr_rest_of r t m = go_on (marked_all (marked_addend r) m) (λ xs later. Some (roll-Expr (record { first = t; others = xs }), later))

-- behind the first factor
abbrev pub expr_rest : Reader Factor → Factor → Reader Expr
expr_rest r f m = go_on (term_rest r f m) (expr_rest_of r)

abbrev pub marked_expr_by : Reader Factor → Reader Expr
marked_expr_by r m = go_on (r m) (expr_rest r)

abbrev pub literal_factor : Literal → Reader Factor
literal_factor l (Way zero ∷ m) = Some (factor.Literal l, m)
literal_factor l m = None

abbrev pub shut : ℕ → Expr → Reader Factor
shut place e (Way (suc (suc zero)) ∷ m) = Some (factor.Bracket place e, m)
shut place e m = None

-- behind a bracket or a minus and the factor that it begins with
abbrev pub behind : Reader Factor → ℕ → Factor → Reader Factor
behind r place f (Way (suc (suc (suc zero))) ∷ m) = Some (factor.Negated place f, m)
behind r place f m = go_on (expr_rest r f m) (shut place)

abbrev pub at_factor : Reader Factor → ℕ → Reader Factor
at_factor r place m = first_of (go_on (r m) (behind r place)) (go_on (marked_literal (At place ∷ m)) literal_factor)

abbrev pub factor_by : Reader Factor → Reader Factor
factor_by r (At place ∷ m) = at_factor r place m
factor_by r (Meant n place ∷ m) = go_on (marked_literal (Meant n place ∷ m)) literal_factor
factor_by r (Said text place ∷ Way (suc zero) ∷ m) = Some (factor.Column (record { table = None; name = record { text = text; place = place } }), m)
factor_by r (Said text place ∷ m) = go_on (marked_literal (Said text place ∷ m)) literal_factor
factor_by r (Prefix front here ∷ Said text place ∷ Way (suc zero) ∷ m) = Some (factor.Column (record { table = Some (record { text = front; place = here }); name = record { text = text; place = place } }), m)
factor_by r m = None

-- with at most so many levels
abbrev pub marked_factor : ℕ → Reader Factor
marked_factor zero m = None
marked_factor (suc n) m = factor_by (marked_factor n) m

abbrev pub marked_expr : ℕ → Reader Expr
marked_expr n m = marked_expr_by (marked_factor n) m
