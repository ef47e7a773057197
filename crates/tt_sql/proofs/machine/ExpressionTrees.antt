-- Marks of an expression are read back as the expression.
use Rattle.std.proofs.Common.{◌≡◌, ℕ, zero, suc, ◌+◌, ◌<◌, ◌≤◌, List, [], ◌∷◌, ◌++◌, map, length, Option, Some, None, refl, sym, ap, ◌∙◌, subst, append_assoc, length-append, arith}
use Rattle.tt_value.specs.declared.name.Literal.{Literal}
use Rattle.tt_value.specs.declared.name.Name.{Name}
use Rattle.tt_value.specs.declared.name.ColumnName.{ColumnName}
use Rattle.tt_value.specs.declared.value.Value.{Value}
use Rattle.tt_value.specs.declared.value.Value.TheVariants.{Null, Int, Date, Text}
use Rattle.tt_value.specs.declared.expression.Sign.{Sign}
use Rattle.tt_value.specs.declared.expression.Sign.TheVariants.{Plus, Minus}
use Rattle.tt_value.specs.declared.expression.Expr.{Expr, roll-Expr, out-Expr, roll-out-Expr}
use Rattle.tt_value.specs.declared.expression.Term.{Term, roll-Term, out-Term, roll-out-Term}
use Rattle.tt_value.specs.declared.expression.Addend.{Addend, roll-Addend, out-Addend, roll-out-Addend}
use Rattle.tt_value.specs.declared.expression.Factor.{Factor, out-Factor, roll-Factor, roll-out-Factor}
use Rattle.tt_value.specs.declared.expression.Factor.TheVariants as factor
use Rattle.tt_value.specs.declared.expression.Factor.TheVariants.{rolls-Literal, rolls-Column, rolls-Bracket, rolls-Negated}
use Rattle.tt_value.specs.declared.expression.Factor.TheOpen.{Factor-F}
use Rattle.tt_value.specs.values.RowText.{IsPrintableValue}
use Rattle.tt_value.proofs.calendar.Dates.{day_of-written}
use Rattle.tt_sql.specs.grammar.Grammar.{Mark, Way, At}
use Rattle.tt_sql.specs.marks.Expressions.{repeated, qualified, value_marks, sign_marks, expr_marks, term_marks, addend_marks, factor_marks}
use Rattle.tt_sql.proofs.marks.Expressions.{marks-Literal, marks-Column, marks-Bracket, marks-Negated, marks-Addend, marks-Term, marks-Expr}
use Rattle.tt_sql.specs.trees.Lists.{Each}
use Rattle.tt_sql.specs.determined.Expressions.{AreGiven, joined, term_leaves, addend_leaves, factor_leaves, IsGivenFactor, IsGivenAddend, IsGivenTerm, IsGivenExpr}
use Rattle.tt_sql.proofs.determined.Expressions.{given_both, given_each, leaves-Literal, leaves-Bracket, leaves-Negated, leaves-Addend, leaves-Term, leaves-Expr}
use Rattle.tt_sql.specs.machine.ExpressionTrees.{Reader, go_on, first_of, marked_many, marked_all, dated, marked_literal, term_rest, marked_term, signed, marked_addend, expr_rest_of, expr_rest, marked_expr_by, literal_factor, shut, behind, at_factor, factor_by, marked_factor, marked_expr}

-- marks of trees that are shorter than n are read, whatever follows them
abbrev pub ReadsBack : {A : Type 0} → (A → List Mark) → (A → Type 0) → ℕ → Reader A → Type 0
ReadsBack {A} marks ok n r = (x : A) → ok x → length (marks x) < n → (rest : List Mark) → r (marks x ++ rest) ≡ Some (x, rest)

-- ---- lists

pub many_reads : {A : Type 0} (marks : A → List Mark) (ok : A → Type 0) (n : ℕ) (r : Reader A) → ReadsBack marks ok n r → (k : ℕ) (xs : List A) → Each ok xs → length (repeated (map marks xs)) < n → length (repeated (map marks xs)) ≤ k → (rest : List Mark) → marked_many r k (repeated (map marks xs) ++ rest) ≡ Some (xs, rest)
many_reads marks ok n r good zero [] each less enough rest = absurd (omega (arith, enough))
many_reads marks ok n r good zero (x ∷ xs) each less enough rest = absurd (omega (arith, enough))
many_reads marks ok n r good (suc k) [] each less enough rest = refl
many_reads {A} marks ok n r good (suc k) (x ∷ xs) each less enough rest =
    let size : length (marks x ++ repeated (map marks xs)) ≡ length (marks x) + length (repeated (map marks xs)) = length-append (marks x) (repeated (map marks xs)) in
    ap (λ (z : List Mark). go_on (r z) (λ y later. go_on (marked_many r k later) (λ ys end. Some (y ∷ ys, end)))) (append_assoc (marks x) (repeated (map marks xs)) rest)
    ∙ ap (λ (o : Option (A × List Mark)). go_on o (λ y later. go_on (marked_many r k later) (λ ys end. Some (y ∷ ys, end)))) (good x each.0 (omega (arith, size, less)) (repeated (map marks xs) ++ rest))
    ∙ ap (λ (o : Option (List A × List Mark)). go_on o (λ ys end. Some (x ∷ ys, end))) (many_reads marks ok n r good k xs each.1 (omega (arith, size, less)) (omega (arith, size, enough)) rest)

pub all_reads : {A : Type 0} (marks : A → List Mark) (ok : A → Type 0) (n : ℕ) (r : Reader A) → ReadsBack marks ok n r → (xs : List A) → Each ok xs → length (repeated (map marks xs)) < n → (rest : List Mark) → marked_all r (repeated (map marks xs) ++ rest) ≡ Some (xs, rest)
all_reads marks ok n r good xs each less rest = many_reads marks ok n r good (length (repeated (map marks xs) ++ rest)) xs each less (omega (arith, length-append (repeated (map marks xs)) rest)) rest

-- ---- literals

pub value_reads : (v : Value) (place : ℕ) → IsPrintableValue v → (rest : List Mark) → marked_literal (value_marks v place ++ rest) ≡ Some (record { value = v; place = place }, rest)
value_reads Null place g rest = refl
value_reads (Int n) place g rest = refl
value_reads (Text text) place g rest = refl
value_reads (Date day) place g rest = ap (dated place rest) (day_of-written day g)

-- ---- the shapes of trees

pub by_factor : (P : Factor → Type 0) → ((l : Literal) → P (factor.Literal l)) → ((c : ColumnName) → P (factor.Column c)) → ((place : ℕ) (e : Expr) → P (factor.Bracket place e)) → ((place : ℕ) (f : Factor) → P (factor.Negated place f)) → (f : Factor) → P f
by_factor P literal column bracket negated f = subst P (roll-out-Factor f) (by_layer (out-Factor f))
  where
    by_layer : (y : Factor-F Factor Addend Expr Term) → P (roll-Factor y)
    by_layer (Factor-F.Literal l) = subst P (sym (rolls-Literal l)) (literal l)
    by_layer (Factor-F.Column c) = subst P (sym (rolls-Column c)) (column c)
    by_layer (Factor-F.Bracket place e) = subst P (sym (rolls-Bracket place e)) (bracket place e)
    by_layer (Factor-F.Negated place g) = subst P (sym (rolls-Negated place g)) (negated place g)

pub by_term : (P : Term → Type 0) → ((f : Factor) (fs : List Factor) → P (roll-Term (record { first = f; others = fs }))) → (t : Term) → P t
by_term P h t = subst P (roll-out-Term t) (h (out-Term t).first (out-Term t).others)

pub by_addend : (P : Addend → Type 0) → ((sign : Sign) (t : Term) → P (roll-Addend (record { sign = sign; term = t }))) → (a : Addend) → P a
by_addend P h a = subst P (roll-out-Addend a) (h (out-Addend a).sign (out-Addend a).term)

pub by_expr : (P : Expr → Type 0) → ((t : Term) (xs : List Addend) → P (roll-Expr (record { first = t; others = xs }))) → (e : Expr) → P e
by_expr P h e = subst P (roll-out-Expr e) (h (out-Expr e).first (out-Expr e).others)

-- ---- terms and sums, given a reader of their factors

module _ (n : ℕ) (r : Reader Factor) (good : ReadsBack factor_marks IsGivenFactor n r) where
  term_rest_reads : (f : Factor) (fs : List Factor) → Each IsGivenFactor fs → length (repeated (map factor_marks fs)) < n → (rest : List Mark) → term_rest r f (repeated (map factor_marks fs) ++ rest) ≡ Some (roll-Term (record { first = f; others = fs }), rest)
  term_rest_reads f fs each less rest = ap (λ (o : Option (List Factor × List Mark)). go_on o (λ gs later. Some (roll-Term (record { first = f; others = gs }), later))) (all_reads factor_marks IsGivenFactor n r good fs each less rest)

  pub term_reads : ReadsBack term_marks IsGivenTerm n (marked_term r)
  term_reads = by_term (λ t. IsGivenTerm t → length (term_marks t) < n → (rest : List Mark) → marked_term r (term_marks t ++ rest) ≡ Some (t, rest)) (λ f fs given less rest.
      let parts = given_both (factor_leaves f) (joined (map factor_leaves fs)) (subst AreGiven (leaves-Term f fs) given) in
      let size : length (term_marks (roll-Term (record { first = f; others = fs }))) ≡ length (factor_marks f) + length (repeated (map factor_marks fs)) = ap length (marks-Term f fs) ∙ length-append (factor_marks f) (repeated (map factor_marks fs)) in
      ap (λ (z : List Mark). marked_term r (z ++ rest)) (marks-Term f fs)
      ∙ ap (marked_term r) (append_assoc (factor_marks f) (repeated (map factor_marks fs)) rest)
      ∙ ap (λ (o : Option (Factor × List Mark)). go_on o (term_rest r)) (good f parts.0 (omega (arith, size, less)) (repeated (map factor_marks fs) ++ rest))
      ∙ term_rest_reads f fs (given_each factor_leaves fs parts.1) (omega (arith, size, less)) rest)

  signed_reads : (sign : Sign) (t : Term) → IsGivenTerm t → length (term_marks t) < n → (rest : List Mark) → marked_addend r ((sign_marks sign ++ term_marks t) ++ rest) ≡ Some (roll-Addend (record { sign = sign; term = t }), rest)
  signed_reads Plus t given less rest = ap (λ (o : Option (Term × List Mark)). go_on o (signed Plus)) (term_reads t given less rest)
  signed_reads Minus t given less rest = ap (λ (o : Option (Term × List Mark)). go_on o (signed Minus)) (term_reads t given less rest)

  addend_reads : ReadsBack addend_marks IsGivenAddend n (marked_addend r)
  addend_reads = by_addend (λ a. IsGivenAddend a → length (addend_marks a) < n → (rest : List Mark) → marked_addend r (addend_marks a ++ rest) ≡ Some (a, rest)) (λ sign t given less rest.
      let size : length (addend_marks (roll-Addend (record { sign = sign; term = t }))) ≡ length (sign_marks sign) + length (term_marks t) = ap length (marks-Addend sign t) ∙ length-append (sign_marks sign) (term_marks t) in
      ap (λ (z : List Mark). marked_addend r (z ++ rest)) (marks-Addend sign t)
      ∙ signed_reads sign t (subst AreGiven (leaves-Addend sign t) given) (omega (arith, size, less)) rest)

  expr_rest_reads : (f : Factor) (fs : List Factor) (xs : List Addend) → Each IsGivenFactor fs → Each IsGivenAddend xs → length (repeated (map factor_marks fs)) < n → length (repeated (map addend_marks xs)) < n → (rest : List Mark) → expr_rest r f (repeated (map factor_marks fs) ++ (repeated (map addend_marks xs) ++ rest)) ≡ Some (roll-Expr (record { first = roll-Term (record { first = f; others = fs }); others = xs }), rest)
  expr_rest_reads f fs xs each every less fewer rest =
      ap (λ (o : Option (Term × List Mark)). go_on o (expr_rest_of r)) (term_rest_reads f fs each less (repeated (map addend_marks xs) ++ rest))
      ∙ ap (λ (o : Option (List Addend × List Mark)). go_on o (λ ys later. Some (roll-Expr (record { first = roll-Term (record { first = f; others = fs }); others = ys }), later))) (all_reads addend_marks IsGivenAddend n (marked_addend r) addend_reads xs every fewer rest)

  -- an expression by its first factor
  record Opened (e : Expr) : Type 0 where
    first : Factor
    others : List Factor
    addends : List Addend
    given : IsGivenFactor first
    each : Each IsGivenFactor others
    every : Each IsGivenAddend addends
    size : length (expr_marks e) ≡ length (factor_marks first) + (length (repeated (map factor_marks others)) + length (repeated (map addend_marks addends)))
    whole : (rest : List Mark) → expr_marks e ++ rest ≡ factor_marks first ++ (repeated (map factor_marks others) ++ (repeated (map addend_marks addends) ++ rest))
    made : roll-Expr (record { first = roll-Term (record { first = first; others = others }); others = addends }) ≡ e

  opened : (e : Expr) → IsGivenExpr e → Opened e
  opened = by_expr (λ e. IsGivenExpr e → Opened e) (λ t xs. by_term (λ t. IsGivenExpr (roll-Expr (record { first = t; others = xs })) → Opened (roll-Expr (record { first = t; others = xs }))) (λ f fs given.
      let t = roll-Term (record { first = f; others = fs }) in
      let parts = given_both (term_leaves t) (joined (map addend_leaves xs)) (subst AreGiven (leaves-Expr t xs) given) in
      let inner = given_both (factor_leaves f) (joined (map factor_leaves fs)) (subst AreGiven (leaves-Term f fs) parts.0) in
      let marks : expr_marks (roll-Expr (record { first = t; others = xs })) ≡ (factor_marks f ++ repeated (map factor_marks fs)) ++ repeated (map addend_marks xs) = marks-Expr t xs ∙ ap (λ (z : List Mark). z ++ repeated (map addend_marks xs)) (marks-Term f fs) in
      record {
        first = f;
        others = fs;
        addends = xs;
        given = inner.0;
        each = given_each factor_leaves fs inner.1;
        every = given_each addend_leaves xs parts.1;
        size = omega (arith, ap length marks, length-append (factor_marks f ++ repeated (map factor_marks fs)) (repeated (map addend_marks xs)), length-append (factor_marks f) (repeated (map factor_marks fs)));
        whole = λ rest. ap (λ (z : List Mark). z ++ rest) marks ∙ append_assoc (factor_marks f ++ repeated (map factor_marks fs)) (repeated (map addend_marks xs)) rest ∙ append_assoc (factor_marks f) (repeated (map factor_marks fs)) (repeated (map addend_marks xs) ++ rest);
        made = refl;
      }) t)

  rest_reads : (e : Expr) (o : Opened e) → length (expr_marks e) < n → (rest : List Mark) → expr_rest r o.first (repeated (map factor_marks o.others) ++ (repeated (map addend_marks o.addends) ++ rest)) ≡ Some (e, rest)
  rest_reads e o less rest = expr_rest_reads o.first o.others o.addends o.each o.every (omega (arith, o.size, less)) (omega (arith, o.size, less)) rest ∙ ap (λ (x : Expr). Some (x, rest)) o.made

  pub expr_by_reads : ReadsBack expr_marks IsGivenExpr n (marked_expr_by r)
  expr_by_reads e given less rest =
      let o = opened e given in
      ap (marked_expr_by r) (o.whole rest)
      ∙ ap (λ (z : Option (Factor × List Mark)). go_on z (expr_rest r)) (good o.first o.given (omega (arith, o.size, less)) (repeated (map factor_marks o.others) ++ (repeated (map addend_marks o.addends) ++ rest)))
      ∙ rest_reads e o less rest

  -- ---- factors

  literal_case : ((m : List Mark) → r (Way 0 ∷ m) ≡ None) → (v : Value) (place : ℕ) → IsPrintableValue v → (rest : List Mark) → factor_by r ((value_marks v place ++ Way 0 ∷ []) ++ rest) ≡ Some (factor.Literal (record { value = v; place = place }), rest)
  literal_case unread Null place given rest = ap (λ (o : Option (Factor × List Mark)). first_of (go_on o (behind r place)) (Some (factor.Literal (record { value = Null; place = place }), rest))) (unread (Way 0 ∷ rest))
  literal_case unread (Int i) place given rest = refl
  literal_case unread (Text text) place given rest = refl
  literal_case unread (Date day) place given rest = ap (λ (o : Option (Literal × List Mark)). go_on o literal_factor) (value_reads (Date day) place given (Way 0 ∷ rest))

  column_case : (table : Option Name) (name : Name) (rest : List Mark) → factor_by r ((qualified table name ++ Way 1 ∷ []) ++ rest) ≡ Some (factor.Column (record { table = table; name = name }), rest)
  column_case None name rest = refl
  column_case (Some front) name rest = refl

  behind_repeated : (place : ℕ) (f : Factor) (ms : List (List Mark)) (rest : List Mark) → behind r place f (repeated ms ++ rest) ≡ go_on (expr_rest r f (repeated ms ++ rest)) (shut place)
  behind_repeated place f [] rest = refl
  behind_repeated place f (m ∷ ms) rest = refl

  bracket_case : (place : ℕ) (e : Expr) → IsGivenExpr e → length (expr_marks e) < n → (rest : List Mark) → factor_by r ((At place ∷ (expr_marks e ++ Way 2 ∷ [])) ++ rest) ≡ Some (factor.Bracket place e, rest)
  bracket_case place e given less rest =
      let o = opened e given in
      let tail = repeated (map factor_marks o.others) ++ (repeated (map addend_marks o.addends) ++ (Way 2 ∷ rest)) in
      let other = λ (z : List Mark). go_on (marked_literal (At place ∷ z)) literal_factor in
      let z = factor_marks o.first ++ tail in
      ap (at_factor r place) (append_assoc (expr_marks e) (Way 2 ∷ []) rest ∙ o.whole (Way 2 ∷ rest))
      ∙ ap (λ (x : Option (Factor × List Mark)). first_of (go_on x (behind r place)) (other z)) (good o.first o.given (omega (arith, o.size, less)) tail)
      ∙ ap (λ (x : Option (Factor × List Mark)). first_of x (other z)) (behind_repeated place o.first (map factor_marks o.others) (repeated (map addend_marks o.addends) ++ (Way 2 ∷ rest)) ∙ ap (λ (x : Option (Expr × List Mark)). go_on x (shut place)) (rest_reads e o less (Way 2 ∷ rest)))

  negated_case : (place : ℕ) (f : Factor) → IsGivenFactor f → length (factor_marks f) < n → (rest : List Mark) → factor_by r ((At place ∷ (factor_marks f ++ Way 3 ∷ [])) ++ rest) ≡ Some (factor.Negated place f, rest)
  negated_case place f given less rest =
      let z = factor_marks f ++ (Way 3 ∷ rest) in
      ap (at_factor r place) (append_assoc (factor_marks f) (Way 3 ∷ []) rest)
      ∙ ap (λ (x : Option (Factor × List Mark)). first_of (go_on x (behind r place)) (go_on (marked_literal (At place ∷ z)) literal_factor)) (good f given less (Way 3 ∷ rest))

  pub factor_by_reads : ((m : List Mark) → r (Way 0 ∷ m) ≡ None) → ReadsBack factor_marks IsGivenFactor (suc n) (factor_by r)
  factor_by_reads unread = by_factor (λ f. IsGivenFactor f → length (factor_marks f) < suc n → (rest : List Mark) → factor_by r (factor_marks f ++ rest) ≡ Some (f, rest))
      (λ l given less rest. ap (λ (z : List Mark). factor_by r (z ++ rest)) (marks-Literal l) ∙ literal_case unread l.value l.place (subst AreGiven (leaves-Literal l) given).0 rest)
      (λ c given less rest. ap (λ (z : List Mark). factor_by r (z ++ rest)) (marks-Column c) ∙ column_case c.table c.name rest)
      (λ place e given less rest. ap (λ (z : List Mark). factor_by r (z ++ rest)) (marks-Bracket place e) ∙ bracket_case place e (subst AreGiven (leaves-Bracket place e) given) (omega (arith, ap length (marks-Bracket place e), length-append (expr_marks e) (Way 2 ∷ []), less)) rest)
      (λ place f given less rest. ap (λ (z : List Mark). factor_by r (z ++ rest)) (marks-Negated place f) ∙ negated_case place f (subst AreGiven (leaves-Negated place f) given) (omega (arith, ap length (marks-Negated place f), length-append (factor_marks f) (Way 3 ∷ []), less)) rest)

-- ---- every level

not_read : (n : ℕ) (m : List Mark) → marked_factor n (Way 0 ∷ m) ≡ None
not_read zero m = refl
not_read (suc n) m = refl

pub factor_reads : (n : ℕ) → ReadsBack factor_marks IsGivenFactor n (marked_factor n)
factor_reads zero f given less rest = absurd (omega (arith, less))
factor_reads (suc n) f given less rest = factor_by_reads n (marked_factor n) (factor_reads n) (not_read n) f given less rest

pub expr_reads : (n : ℕ) → ReadsBack expr_marks IsGivenExpr n (marked_expr n)
expr_reads n = expr_by_reads n (marked_factor n) (factor_reads n)

-- ---- the tree is determined

tree_or : {A : Type 0} → A → Option (A × List Mark) → A
tree_or x None = x
tree_or x (Some p) = p.0

pub one_tree : {A : Type 0} (marks : A → List Mark) (ok : A → Type 0) (r : ℕ → Reader A) → ((n : ℕ) → ReadsBack marks ok n (r n)) → (a b : A) → ok a → ok b → marks a ≡ marks b → a ≡ b
unfolding tree_or
one_tree marks ok r good a b given other e =
    let n = suc (length (marks a)) in
    ap (tree_or a) (sym (good n a given (omega arith) []) ∙ ap (λ (m : List Mark). r n (m ++ [])) e ∙ good n b other (omega (arith, ap length e)) [])

pub one_expr : (a b : Expr) → IsGivenExpr a → IsGivenExpr b → expr_marks a ≡ expr_marks b → a ≡ b
one_expr = one_tree expr_marks IsGivenExpr marked_expr expr_reads

pub one_term : (a b : Term) → IsGivenTerm a → IsGivenTerm b → term_marks a ≡ term_marks b → a ≡ b
one_term = one_tree term_marks IsGivenTerm (λ n. marked_term (marked_factor n)) (λ n. term_reads n (marked_factor n) (factor_reads n))

pub one_factor : (a b : Factor) → IsGivenFactor a → IsGivenFactor b → factor_marks a ≡ factor_marks b → a ≡ b
one_factor = one_tree factor_marks IsGivenFactor marked_factor factor_reads
