-- Expressions are read again.
use Rattle.std.proofs.Common.{◌≡◌, Bool, false, arith, ℕ, zero, suc, List, [], ◌∷◌, ◌++◌, map, Option, Some, None, refl, sym, ap, subst}
use Rattle.std.specs.Prelude.{codes, pos, negsuc}
use Rattle.tt_value.specs.declared.name.Name.{Name}
use Rattle.tt_value.specs.declared.name.Number.{Number}
use Rattle.tt_value.specs.declared.name.Quoted.{Quoted}
use Rattle.tt_value.specs.declared.name.Literal.{Literal}
use Rattle.tt_value.specs.declared.name.ColumnName.{ColumnName}
use Rattle.tt_value.specs.declared.name.TableName.{TableName}
use Rattle.tt_value.specs.declared.value.Value.{Value}
use Rattle.tt_value.specs.declared.value.Value.TheVariants.{Null, Int, Date, Text}
use Rattle.tt_value.specs.declared.expression.Sign.{Sign}
use Rattle.tt_value.specs.declared.expression.Sign.TheVariants.{Plus, Minus}
use Rattle.tt_value.specs.declared.expression.Expr.{Expr, out-Expr, fold_out-Expr}
use Rattle.tt_value.specs.declared.expression.Term.{Term, out-Term, fold_out-Term}
use Rattle.tt_value.specs.declared.expression.Addend.{Addend, out-Addend, fold_out-Addend}
use Rattle.tt_value.specs.declared.expression.Factor.{Factor, out-Factor, roll-Factor, roll-out-Factor}
use Rattle.tt_value.specs.declared.expression.Factor.TheOpen.{Factor-F}
use Rattle.tt_value.specs.declared.expression.Factor.TheFolds.{fold-roll-Factor}
use Rattle.tt_sql.specs.grammar.Grammar.{Mark, Way, At, Said, Meant}
use Rattle.tt_sql.specs.grammar.Combinators.{◌▸◌, one, name, number, quoted}
use Rattle.tt_sql.specs.grammar.TokenKinds.{STAR, sign_kind}
use Rattle.tt_print.specs.text.Words.{Words, word_if, name_words, column_name_words, table_name_words, quoted_words, number_words, literal_words, value_words, words_if, front_words}
use Rattle.tt_print.specs.text.Expressions.{FactorWords, is_zero, told_factor, is_zero_factor, sign_word, expr_words, addend_words, term_words, factor_words, expr_level, addend_level, term_level, factor_level}
use Rattle.tt_sql.specs.marks.Expressions.{repeated, qualified, name_marks, column_marks, table_marks, quoted_marks, number_marks, value_marks, literal_marks, sign_marks, expr_marks, addend_marks, term_marks, factor_marks, factor_step, addend_step, expr_step, term_step}
use Rattle.tt_sql.specs.grammar.Written.{literal, other_literal, negated, factor, term, sign, expr}
use Rattle.tt_sql.specs.trees.Leaves.{IsNameText, IsWrittenValue}
use Rattle.tt_print.specs.places.Marks.{unplaced}
use Rattle.tt_print.specs.again.Spelling.{IsReadAs}
use Rattle.tt_sql.specs.trees.Expressions.{IsWrittenName, IsWrittenColumn, IsWrittenTable, IsWrittenNumber, IsWrittenQuoted, IsWrittenLiteral, IsNotPositive, MayBeNegated, TermHas, AddendHas, ExprHas, FactorHas, IsWrittenFactor, IsWrittenExpr}
use Rattle.tt_print.proofs.text.Expressions.{expr_words-out, term_words-out}
use Rattle.tt_print.proofs.again.Spelling.{here, later, named}
use Rattle.tt_print.proofs.again.Quoted.{numbered, text_quoted}
use Rattle.tt_print.proofs.again.Literals.{HasNoPlainNumber, minus_number, literal_spelled, other_spelled, value_tokens}
use Rattle.tt_print.proofs.again.Tokens.{fixed_token, name_token, number_token, quoted_token}
use Rattle.tt_print.proofs.again.Parts.{as_told, in_order, as_first, as_second, a_way, word_first, with_way, word_placed, all_more, in_production}

-- ---- names, numbers, texts and literals

pub name_read : (n : Name) → IsWrittenName n → IsReadAs name (name_words n) (name_marks n)
name_read n is = record { tokens = (name_token n.text is, tt); notes = λ at. Said n.text at ∷ []; alike = λ at. refl; spelled = λ at. named at n.text is }

alone_read : (front : Option Name) (n : Name) → front ≡ None → IsNameText n.text → IsReadAs name (words_if front_words front ++ name_words n) (qualified front n)
alone_read None n alone is = name_read n is
alone_read (Some front) n alone is = absurd cc

pub column_read : (c : ColumnName) → IsWrittenColumn c → IsReadAs name (column_name_words c) (column_marks c)
column_read c is = alone_read c.table c.name is.0 is.1

pub table_read : (t : TableName) → IsWrittenTable t → IsReadAs name (table_name_words t) (table_marks t)
table_read t is = alone_read t.schema t.name is.0 is.1

pub number_read : (n : Number) → IsWrittenNumber n → IsReadAs number (number_words n) (number_marks n)
number_read n is = record { tokens = (number_token n.value (omega (arith, is)), tt); notes = λ at. Meant (pos n.value) at ∷ []; alike = λ at. refl; spelled = λ at. numbered at n.value is }

pub quoted_read : (q : Quoted) → IsWrittenQuoted q → IsReadAs quoted (quoted_words q) (quoted_marks q)
quoted_read q is = record { tokens = (quoted_token q.text is, tt); notes = λ at. Said q.text at ∷ []; alike = λ at. refl; spelled = λ at. text_quoted at q.text }

value_alike : (v : Value) (at place : ℕ) → unplaced (value_marks v at) ≡ unplaced (value_marks v place)
value_alike Null at place = refl
value_alike (Int n) at place = refl
value_alike (Date day) at place = refl
value_alike (Text bytes) at place = refl

pub literal_read : (l : Literal) → IsWrittenLiteral l → IsReadAs literal (literal_words l) (literal_marks l)
literal_read l is = record { tokens = value_tokens l.value is; notes = value_marks l.value; alike = λ at. value_alike l.value at l.place; spelled = λ at. literal_spelled at l.value is }

other_read : (v : Value) (place : ℕ) → IsWrittenValue v → HasNoPlainNumber v → IsReadAs other_literal (value_words v) (value_marks v place)
other_read v place is other = record { tokens = value_tokens v is; notes = value_marks v; alike = λ at. value_alike v at place; spelled = λ at. other_spelled at v is other }

zero_read : (place : ℕ) → IsReadAs other_literal (codes "-" ∷ value_words (Int (pos 0))) (value_marks (Int (pos 0)) place)
zero_read place = record {
  tokens = (fixed_token (codes "-") refl, (number_token 0 (omega arith), tt));
  notes = value_marks (Int (pos 0));
  alike = λ at. refl;
  spelled = λ at. later (here (minus_number at 0 (omega arith)));
}

-- behind a minus a 0 has one of its own
bare_value : (v : Value) (place : ℕ) → IsWrittenValue v → IsNotPositive v → IsReadAs other_literal (word_if (is_zero v) (codes "-") ++ value_words v) (value_marks v place)
bare_value (Int (pos zero)) place is may = zero_read place
bare_value (Int (pos (suc n))) place is may = absurd may
bare_value (Int (negsuc n)) place is may = other_read (Int (negsuc n)) place is tt
bare_value Null place is may = other_read Null place is tt
bare_value (Date day) place is may = other_read (Date day) place is tt
bare_value (Text bytes) place is may = other_read (Text bytes) place is tt

-- ---- trees, given how their factors are read

pub signed_read : (s : Sign) → IsReadAs sign (sign_word s ∷ []) (sign_marks s)
unfolding sign_kind
signed_read Plus = as_first (word_first (codes "+") (λ at. refl) (a_way 0))
signed_read Minus = as_second (word_first (codes "-") (λ at. refl) (a_way 1))

abbrev M : Type 0
M = List Mark

pub term_marks-out : (t : Term) → term_marks t ≡ factor_marks (out-Term t).first ++ repeated (map factor_marks (out-Term t).others)
unfolding term_marks factor_marks
term_marks-out t = fold_out-Term M M M M factor_step addend_step expr_step term_step t

pub addend_marks-out : (a : Addend) → addend_marks a ≡ sign_marks (out-Addend a).sign ++ term_marks (out-Addend a).term
unfolding addend_marks term_marks
addend_marks-out a = fold_out-Addend M M M M factor_step addend_step expr_step term_step a

pub expr_marks-out : (e : Expr) → expr_marks e ≡ term_marks (out-Expr e).first ++ repeated (map addend_marks (out-Expr e).others)
unfolding expr_marks term_marks addend_marks
expr_marks-out e = fold_out-Expr M M M M factor_step addend_step expr_step term_step e

addend_words-out : (a : Addend) → addend_words a ≡ sign_word (out-Addend a).sign ∷ term_words (out-Addend a).term
addend_words-out a = fold_out-Addend FactorWords Words Words Words factor_level addend_level expr_level term_level a

abbrev IsFactorRead : ℕ → Factor → Type 0
IsFactorRead levels f = IsReadAs (factor levels) (factor_words f) (factor_marks f)

module _ (P : Factor → Type 0) (levels : ℕ) (good : (f : Factor) → P f → IsFactorRead levels f) where
  term_read : (t : Term) → TermHas P t → IsReadAs (term levels) (term_words t) (term_marks t)
  unfolding sign_kind
  term_read t has = as_told (term_words-out t) (term_marks-out t) (in_order (good _ has.0)
      (all_more (one STAR ▸ factor levels) (λ f. codes "*" ∷ factor_words f) factor_marks P (λ f is. word_first (codes "*") (λ at. refl) (good f is)) (out-Term t).others has.1))

  addend_read : (a : Addend) → AddendHas P a → IsReadAs (sign ▸ term levels) (addend_words a) (addend_marks a)
  addend_read a has = as_told (addend_words-out a) (addend_marks-out a) (in_order (signed_read (out-Addend a).sign) (term_read (out-Addend a).term has))

  pub expr_by_read : (e : Expr) → ExprHas P e → IsReadAs (expr levels) (expr_words e) (expr_marks e)
  expr_by_read e has = as_told (expr_words-out e) (expr_marks-out e) (in_order (term_read (out-Expr e).first has.0)
      (all_more (sign ▸ term levels) addend_words addend_marks (AddendHas P) addend_read (out-Expr e).others has.1))

-- ---- factors

abbrev pub words_of : Factor-F Factor Addend Expr Term → Words
words_of (Factor-F.Literal l) = literal_words l
words_of (Factor-F.Column c) = column_name_words c
words_of (Factor-F.Bracket place e) = codes "(" ∷ (expr_words e ++ (codes ")" ∷ []))
words_of (Factor-F.Negated place f) = codes "-" ∷ (word_if (is_zero_factor f) (codes "-") ++ factor_words f)

abbrev pub zero_of : Factor-F Factor Addend Expr Term → Bool
zero_of (Factor-F.Literal l) = is_zero l.value
zero_of (Factor-F.Column c) = false
zero_of (Factor-F.Bracket place e) = false
zero_of (Factor-F.Negated place f) = false

-- its words behind a minus
abbrev bare_of : Factor-F Factor Addend Expr Term → Words
bare_of y = word_if (zero_of y) (codes "-") ++ words_of y

abbrev pub marks_of : Factor-F Factor Addend Expr Term → List Mark
marks_of (Factor-F.Literal l) = literal_marks l ++ Way 0 ∷ []
marks_of (Factor-F.Column c) = column_marks c ++ Way 1 ∷ []
marks_of (Factor-F.Bracket place e) = At place ∷ (expr_marks e ++ Way 2 ∷ [])
marks_of (Factor-F.Negated place f) = At place ∷ (factor_marks f ++ Way 3 ∷ [])

pub told_are : (y : Factor-F Factor Addend Expr Term) → told_factor (roll-Factor y) ≡ record { words = words_of y; zero = zero_of y }
told_are (Factor-F.Literal l) = fold-roll-Factor FactorWords Words Words Words factor_level addend_level expr_level term_level _
told_are (Factor-F.Column c) = fold-roll-Factor FactorWords Words Words Words factor_level addend_level expr_level term_level _
told_are (Factor-F.Bracket place e) = fold-roll-Factor FactorWords Words Words Words factor_level addend_level expr_level term_level _
told_are (Factor-F.Negated place f) = fold-roll-Factor FactorWords Words Words Words factor_level addend_level expr_level term_level _

abbrev words_told : FactorWords → Words
words_told t = t.words

abbrev bare_told : FactorWords → Words
bare_told t = word_if t.zero (codes "-") ++ t.words

pub marks_are : (y : Factor-F Factor Addend Expr Term) → factor_marks (roll-Factor y) ≡ marks_of y
unfolding factor_marks expr_marks
marks_are (Factor-F.Literal l) = fold-roll-Factor M M M M factor_step addend_step expr_step term_step _
marks_are (Factor-F.Column c) = fold-roll-Factor M M M M factor_step addend_step expr_step term_step _
marks_are (Factor-F.Bracket place e) = fold-roll-Factor M M M M factor_step addend_step expr_step term_step _
marks_are (Factor-F.Negated place f) = fold-roll-Factor M M M M factor_step addend_step expr_step term_step _

-- a literal or a name, with levels left or none
negated_literal : (levels : ℕ) (l : Literal) → IsWrittenLiteral l → IsNotPositive l.value → IsReadAs (negated levels) (word_if (is_zero l.value) (codes "-") ++ literal_words l) (literal_marks l ++ Way 0 ∷ [])
unfolding negated
negated_literal zero l is other = as_first (with_way 0 (bare_value l.value l.place is other))
negated_literal (suc levels) l is other = as_first (with_way 0 (bare_value l.value l.place is other))

negated_column : (levels : ℕ) (c : ColumnName) → IsWrittenColumn c → IsReadAs (negated levels) (column_name_words c) (column_marks c ++ Way 1 ∷ [])
unfolding negated
negated_column zero c is = as_second (as_first (with_way 1 (column_read c is)))
negated_column (suc levels) c is = as_second (as_first (with_way 1 (column_read c is)))

innermost : (y : Factor-F Factor Addend Expr Term) → FactorHas (λ g. ⊥) y → MayBeNegated y → IsReadAs (negated zero) (bare_of y) (marks_of y)
innermost (Factor-F.Literal l) has may = negated_literal zero l has may
innermost (Factor-F.Column c) has may = negated_column zero c has
innermost (Factor-F.Bracket place e) has may = absurd has.0.0
innermost (Factor-F.Negated place f) has may = absurd has.0

-- a factor behind a minus
abbrev IsBareRead : ℕ → Factor → Type 0
IsBareRead levels f = IsReadAs (negated levels) (word_if (is_zero_factor f) (codes "-") ++ factor_words f) (factor_marks f)

module _ (P : Factor → Type 0) (levels : ℕ) (good : (f : Factor) → P f → IsFactorRead levels f) (bare : (f : Factor) → P f → MayBeNegated (out-Factor f) → IsBareRead levels f) where
  one_level : (y : Factor-F Factor Addend Expr Term) → FactorHas P y → MayBeNegated y → IsReadAs (negated (suc levels)) (bare_of y) (marks_of y)
  unfolding negated sign_kind
  one_level (Factor-F.Literal l) has may = negated_literal (suc levels) l has may
  one_level (Factor-F.Column c) has may = negated_column (suc levels) c has
  one_level (Factor-F.Bracket place e) has may = as_second (as_second (as_first (in_order (word_placed (codes "(") place (λ at. refl) (λ at. refl))
      (in_order (in_production (expr_by_read P levels good e has)) (word_first (codes ")") (λ at. refl) (a_way 2))))))
  one_level (Factor-F.Negated place f) has may = as_second (as_second (as_second (in_order (word_placed (codes "-") place (λ at. refl) (λ at. refl))
      (with_way 3 (in_production (bare f has.0 has.1))))))

-- a number without a minus, or another factor
number_or : (levels : ℕ) (v : Value) (place : ℕ) → IsWrittenValue v → (IsNotPositive v → IsReadAs (negated levels) (word_if (is_zero v) (codes "-") ++ value_words v) (value_marks v place ++ Way 0 ∷ []))
    → IsReadAs (factor levels) (value_words v) (value_marks v place ++ Way 0 ∷ [])
number_or levels (Int (pos n)) place is other = as_first (in_order (number_read (record { value = n; place = place }) is) (in_order (a_way 1) (a_way 0)))
number_or levels (Int (negsuc n)) place is other = as_second (other tt)
number_or levels Null place is other = as_second (other tt)
number_or levels (Date day) place is other = as_second (other tt)
number_or levels (Text bytes) place is other = as_second (other tt)

factor_layer : (P : Factor → Type 0) (levels : ℕ) (y : Factor-F Factor Addend Expr Term) → FactorHas P y → (MayBeNegated y → IsReadAs (negated levels) (bare_of y) (marks_of y)) → IsReadAs (factor levels) (words_of y) (marks_of y)
factor_layer P levels (Factor-F.Literal l) has other = number_or levels l.value l.place has other
factor_layer P levels (Factor-F.Column c) has other = as_second (other tt)
factor_layer P levels (Factor-F.Bracket place e) has other = as_second (other tt)
factor_layer P levels (Factor-F.Negated place f) has other = as_second (other tt)

-- ---- every level

bare_by_layer : (levels : ℕ) (f : Factor) → IsReadAs (negated levels) (bare_of (out-Factor f)) (marks_of (out-Factor f)) → IsBareRead levels f
bare_by_layer levels f is = subst (IsBareRead levels) (roll-out-Factor f) (as_told (ap bare_told (told_are (out-Factor f))) (marks_are (out-Factor f)) is)

to_layer : (levels : ℕ) (f : Factor) → IsBareRead levels f → IsReadAs (negated levels) (bare_of (out-Factor f)) (marks_of (out-Factor f))
to_layer levels f is = as_told (sym (ap bare_told (told_are (out-Factor f)))) (sym (marks_are (out-Factor f))) (subst (IsBareRead levels) (sym (roll-out-Factor f)) is)

abbrev AreBareRead : ℕ → Type 0
AreBareRead levels = (f : Factor) → IsWrittenFactor levels f → MayBeNegated (out-Factor f) → IsBareRead levels f

factor_by_bare : (P : Factor → Type 0) (levels : ℕ) (f : Factor) → FactorHas P (out-Factor f) → (MayBeNegated (out-Factor f) → IsBareRead levels f) → IsFactorRead levels f
factor_by_bare P levels f has other = subst (IsFactorRead levels) (roll-out-Factor f) (as_told (ap words_told (told_are (out-Factor f))) (marks_are (out-Factor f)) (factor_layer P levels (out-Factor f) has (λ may. to_layer levels f (other may))))

factor_of_bare : (levels : ℕ) → AreBareRead levels → (f : Factor) → IsWrittenFactor levels f → IsFactorRead levels f
unfolding IsWrittenFactor
factor_of_bare zero bare f has = factor_by_bare (λ g. ⊥) zero f has (bare f has)
factor_of_bare (suc levels) bare f has = factor_by_bare (IsWrittenFactor levels) (suc levels) f has (bare f has)

bare_read : (levels : ℕ) → AreBareRead levels
unfolding IsWrittenFactor
bare_read zero f has may = bare_by_layer zero f (innermost (out-Factor f) has may)
bare_read (suc levels) f has may = bare_by_layer (suc levels) f (one_level (IsWrittenFactor levels) levels (factor_of_bare levels (bare_read levels)) (bare_read levels) (out-Factor f) has may)

pub factor_read : (levels : ℕ) (f : Factor) → IsWrittenFactor levels f → IsFactorRead levels f
factor_read levels = factor_of_bare levels (bare_read levels)

pub expr_read : (levels : ℕ) (e : Expr) → IsWrittenExpr levels e → IsReadAs (expr levels) (expr_words e) (expr_marks e)
expr_read levels = expr_by_read (IsWrittenFactor levels) levels (factor_read levels)
