-- The tree of an expression's derivation.
use Rattle.std.proofs.Common.{◌≡◌, ℕ, zero, suc, List, [], ◌∷◌, ◌++◌, refl, sym, ap, ◌∙◌, subst}
use Rattle.std.specs.Prelude.{pos}
use Rattle.tt_value.specs.declared.name.Literal.{Literal}
use Rattle.tt_value.specs.declared.name.ColumnName.{ColumnName}
use Rattle.tt_value.specs.declared.value.Value.TheVariants.{Int}
use Rattle.tt_value.specs.declared.expression.Sign.{Sign}
use Rattle.tt_value.specs.declared.expression.Sign.TheVariants.{Plus, Minus}
use Rattle.tt_value.specs.declared.expression.Expr.{Expr, roll-Expr, out-roll-Expr}
use Rattle.tt_value.specs.declared.expression.Term.{Term, roll-Term, out-roll-Term}
use Rattle.tt_value.specs.declared.expression.Addend.{Addend, roll-Addend, out-roll-Addend}
use Rattle.tt_value.specs.declared.expression.Factor.{Factor, out-Factor, out-roll-Factor}
use Rattle.tt_value.specs.declared.expression.Factor.TheOpen.{Factor-F}
use Rattle.tt_value.specs.declared.expression.Factor.TheVariants.{rolls-Literal, rolls-Column, rolls-Bracket, rolls-Negated}
use Rattle.tt_value.specs.declared.expression.Factor.TheVariants as factors
use Rattle.tt_value.specs.calendar.Reading.{digits_value}
use Rattle.tt_sql.specs.grammar.Grammar.{Mark, Way, At, nowhere}
use Rattle.tt_sql.specs.grammar.TokenKinds.{STAR}
use Rattle.tt_sql.specs.grammar.Combinators.{◌▸◌, one}
use Rattle.tt_sql.specs.grammar.Written.{negated, factor, term, expr, sign}
use Rattle.tt_sql.specs.marks.Expressions.{literal_marks, column_marks, sign_marks, expr_marks, term_marks, addend_marks, factor_marks}
use Rattle.tt_sql.proofs.marks.Expressions.{marks-Literal, marks-Column, marks-Bracket, marks-Negated, marks-Addend, marks-Term, marks-Expr}
use Rattle.tt_sql.specs.trees.Lists.{Each}
use Rattle.tt_sql.specs.trees.Expressions.{IsWrittenLiteral, IsWrittenColumn, MayBeNegated, TermHas, AddendHas, ExprHas, FactorHas, IsWrittenFactor, IsWrittenExpr}
use Rattle.tt_sql.proofs.grammar.LexemeTexts.{has_number}
use Rattle.tt_sql.proofs.grammar.Derivations.{word, noted, pair, first, second, inside}
use Rattle.tt_sql.proofs.trees.Leaves.{Tree, HasTrees, IsAny, joined_marks, column_trees, IsOtherLiteral, other_literal_trees, behind_word, many_trees}

-- ---- what is written, level by level

out-literal : (l : Literal) → out-Factor (factors.Literal l) ≡ Factor-F.Literal l
out-literal l = ap out-Factor (sym (rolls-Literal l)) ∙ out-roll-Factor (Factor-F.Literal l)

out-column : (c : ColumnName) → out-Factor (factors.Column c) ≡ Factor-F.Column c
out-column c = ap out-Factor (sym (rolls-Column c)) ∙ out-roll-Factor (Factor-F.Column c)

out-bracket : (place : ℕ) (e : Expr) → out-Factor (factors.Bracket place e) ≡ Factor-F.Bracket place e
out-bracket place e = ap out-Factor (sym (rolls-Bracket place e)) ∙ out-roll-Factor (Factor-F.Bracket place e)

out-negated : (place : ℕ) (f : Factor) → out-Factor (factors.Negated place f) ≡ Factor-F.Negated place f
out-negated place f = ap out-Factor (sym (rolls-Negated place f)) ∙ out-roll-Factor (Factor-F.Negated place f)

literal_written : (levels : ℕ) (l : Literal) → IsWrittenLiteral l → IsWrittenFactor levels (factors.Literal l)
unfolding IsWrittenFactor
literal_written zero l is = subst (FactorHas (λ g. ⊥)) (sym (out-literal l)) is
literal_written (suc levels) l is = subst (FactorHas (IsWrittenFactor levels)) (sym (out-literal l)) is

column_written : (levels : ℕ) (c : ColumnName) → IsWrittenColumn c → IsWrittenFactor levels (factors.Column c)
unfolding IsWrittenFactor
column_written zero c is = subst (FactorHas (λ g. ⊥)) (sym (out-column c)) is
column_written (suc levels) c is = subst (FactorHas (IsWrittenFactor levels)) (sym (out-column c)) is

bracket_written : (levels place : ℕ) (e : Expr) → IsWrittenExpr levels e → IsWrittenFactor (suc levels) (factors.Bracket place e)
unfolding IsWrittenFactor
bracket_written levels place e is = subst (FactorHas (IsWrittenFactor levels)) (sym (out-bracket place e)) is

negated_written : (levels place : ℕ) (f : Factor) → IsWrittenFactor levels f → MayBeNegated (out-Factor f) → IsWrittenFactor (suc levels) (factors.Negated place f)
unfolding IsWrittenFactor
negated_written levels place f is may = subst (FactorHas (IsWrittenFactor levels)) (sym (out-negated place f)) (is, may)

-- ---- factors

-- a factor that a minus may stand in front of
abbrev pub IsBare : ℕ → Factor → Type 0
IsBare levels f = IsWrittenFactor levels f × MayBeNegated (out-Factor f)

literal_factor : (levels : ℕ) (m : List Mark) → Tree literal_marks IsOtherLiteral m → Tree factor_marks (IsBare levels) (m ++ Way 0 ∷ [])
literal_factor levels m l = record { tree = factors.Literal l.tree; given = (literal_written levels l.tree l.given.0, subst MayBeNegated (sym (out-literal l.tree)) l.given.1); same = marks-Literal l.tree ∙ ap (λ (x : List Mark). x ++ Way 0 ∷ []) l.same }

column_factor : (levels : ℕ) (m : List Mark) → Tree column_marks IsWrittenColumn m → Tree factor_marks (IsBare levels) (m ++ Way 1 ∷ [])
column_factor levels m c = record { tree = factors.Column c.tree; given = (column_written levels c.tree c.given, subst MayBeNegated (sym (out-column c.tree)) tt); same = marks-Column c.tree ∙ ap (λ (x : List Mark). x ++ Way 1 ∷ []) c.same }

bracket_factor : (levels place : ℕ) (m : List Mark) → Tree expr_marks (IsWrittenExpr levels) m → Tree factor_marks (IsBare (suc levels)) (At place ∷ (m ++ Way 2 ∷ []))
bracket_factor levels place m e = record { tree = factors.Bracket place e.tree; given = (bracket_written levels place e.tree e.given, subst MayBeNegated (sym (out-bracket place e.tree)) tt); same = marks-Bracket place e.tree ∙ ap (λ (x : List Mark). At place ∷ (x ++ Way 2 ∷ [])) e.same }

negated_factor : (levels place : ℕ) (m : List Mark) → Tree factor_marks (IsBare levels) m → Tree factor_marks (IsBare (suc levels)) (At place ∷ (m ++ Way 3 ∷ []))
negated_factor levels place m f = record { tree = factors.Negated place f.tree; given = (negated_written levels place f.tree f.given.0 f.given.1, subst MayBeNegated (sym (out-negated place f.tree)) tt); same = marks-Negated place f.tree ∙ ap (λ (x : List Mark). At place ∷ (x ++ Way 3 ∷ [])) f.same }

number_factor : (levels : ℕ) (m : List Mark) → Tree literal_marks IsWrittenLiteral m → Tree factor_marks (IsWrittenFactor levels) (m ++ Way 0 ∷ [])
number_factor levels m l = record { tree = factors.Literal l.tree; given = literal_written levels l.tree l.given; same = marks-Literal l.tree ∙ ap (λ (x : List Mark). x ++ Way 0 ∷ []) l.same }

-- a factor that may be a number without a minus
factor_trees_of : (levels : ℕ) → HasTrees (negated levels) factor_marks (IsBare levels) → HasTrees (factor levels) factor_marks (IsWrittenFactor levels)
factor_trees_of levels trees done m after (first (pair (pair (word {t = t} e is) noted) (pair noted noted))) = number_factor levels _ (record { tree = record { value = Int (pos (digits_value t.text)); place = t.place }; given = has_number t is e; same = refl })
factor_trees_of levels trees done m after (second p) = let f = trees done m after p in record { tree = f.tree; given = f.given.0; same = f.same }

-- ---- terms and sums, given their factors

-- of a tree that is put together
rolled_term : (P : Factor → Type 0) (f : Factor) (fs : List Factor) → P f → Each P fs → TermHas P (roll-Term (record { first = f; others = fs }))
rolled_term P f fs is each = subst (λ y. P y.first × Each P y.others) (sym (out-roll-Term (record { first = f; others = fs }))) (is, each)

rolled_addend : (P : Factor → Type 0) (s : Sign) (t : Term) → TermHas P t → AddendHas P (roll-Addend (record { sign = s; term = t }))
rolled_addend P s t has = subst (λ y. TermHas P y.term) (sym (out-roll-Addend (record { sign = s; term = t }))) has

rolled_expr : (P : Factor → Type 0) (t : Term) (xs : List Addend) → TermHas P t → Each (AddendHas P) xs → ExprHas P (roll-Expr (record { first = t; others = xs }))
rolled_expr P t xs has each = subst (λ y. TermHas P y.first × Each (AddendHas P) y.others) (sym (out-roll-Expr (record { first = t; others = xs }))) (has, each)

module _ (levels : ℕ) (P : Factor → Type 0) (factor_trees : HasTrees (factor levels) factor_marks P) where
  term_trees : HasTrees (term levels) term_marks (TermHas P)
  term_trees done m after (pair {between = between} {m = x} {n = y} p q) =
      let f = factor_trees done x between p in
      let fs = many_trees (one STAR ▸ factor levels) factor_marks P (behind_word STAR nowhere (factor levels) factor_marks P factor_trees) between y after q in
      record { tree = roll-Term (record { first = f.tree; others = fs.tree }); given = rolled_term P f.tree fs.tree f.given fs.given; same = marks-Term f.tree fs.tree ∙ joined_marks f.same fs.same }

  sign_trees : HasTrees sign sign_marks IsAny
  sign_trees done m after (first (pair (word e is) noted)) = record { tree = Plus; given = tt; same = refl }
  sign_trees done m after (second (pair (word e is) noted)) = record { tree = Minus; given = tt; same = refl }

  addend_trees : HasTrees (sign ▸ term levels) addend_marks (AddendHas P)
  addend_trees done m after (pair {between = between} {m = x} {n = y} p q) =
      let s = sign_trees done x between p in
      let t = term_trees between y after q in
      record { tree = roll-Addend (record { sign = s.tree; term = t.tree }); given = rolled_addend P s.tree t.tree t.given; same = marks-Addend s.tree t.tree ∙ joined_marks s.same t.same }

  pub expr_trees_of : HasTrees (expr levels) expr_marks (ExprHas P)
  expr_trees_of done m after (pair {between = between} {m = x} {n = y} p q) =
      let t = term_trees done x between p in
      let xs = many_trees (sign ▸ term levels) addend_marks (AddendHas P) addend_trees between y after q in
      record { tree = roll-Expr (record { first = t.tree; others = xs.tree }); given = rolled_expr P t.tree xs.tree t.given xs.given; same = marks-Expr t.tree xs.tree ∙ joined_marks t.same xs.same }

-- ---- every level

pub negated_trees : (levels : ℕ) → HasTrees (negated levels) factor_marks (IsBare levels)
unfolding negated
negated_trees zero done m after (first (pair {between = between} {m = x} p noted)) = literal_factor zero x (other_literal_trees done x between p)
negated_trees zero done m after (second (first (pair {between = between} {m = x} p noted))) = column_factor zero x (column_trees done x between p)
negated_trees zero done m after (second (second (pair p q))) = elim q [ ]
negated_trees (suc levels) done m after (first (pair {between = between} {m = x} p noted)) = literal_factor (suc levels) x (other_literal_trees done x between p)
negated_trees (suc levels) done m after (second (first (pair {between = between} {m = x} p noted))) = column_factor (suc levels) x (column_trees done x between p)
negated_trees (suc levels) done m after (second (second (first (pair (pair (word {t = t} e is) noted) (pair {between = between} {m = x} (inside p) (pair (word d was) noted)))))) = bracket_factor levels t.place x (expr_trees_of levels (IsWrittenFactor levels) (factor_trees_of levels (negated_trees levels)) (t ∷ done) x between p)
negated_trees (suc levels) done m after (second (second (second (pair (pair (word {t = t} e is) noted) (pair {between = between} {m = x} (inside p) noted))))) = negated_factor levels t.place x (negated_trees levels (t ∷ done) x between p)

pub expr_trees : (levels : ℕ) → HasTrees (expr levels) expr_marks (IsWrittenExpr levels)
expr_trees levels = expr_trees_of levels (IsWrittenFactor levels) (factor_trees_of levels (negated_trees levels))
