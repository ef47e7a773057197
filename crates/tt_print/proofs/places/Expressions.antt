-- An expression without its places is the same but for these.
use Rattle.std.proofs.Common.{◌≡◌, ℕ, zero, suc, false, List, [], ◌∷◌, ◌++◌, map, Option, Some, None, refl, sym, ap, ap₂, subst, ◌∙◌}
use Rattle.std.specs.Prelude.{codes}
use Rattle.std.specs.List.{flat_map}
use Rattle.tt_value.specs.declared.name.Name.{Name}
use Rattle.tt_value.specs.declared.name.Quoted.{Quoted}
use Rattle.tt_value.specs.declared.name.Literal.{Literal}
use Rattle.tt_value.specs.declared.name.ColumnName.{ColumnName}
use Rattle.tt_value.specs.declared.name.TableName.{TableName}
use Rattle.tt_value.specs.declared.value.Value.{Value}
use Rattle.tt_value.specs.declared.value.Value.TheVariants.{Null, Int, Date, Text}
use Rattle.tt_value.specs.declared.expression.Sign.{Sign}
use Rattle.tt_value.specs.declared.expression.Sign.TheVariants.{Plus, Minus}
use Rattle.tt_value.specs.declared.expression.Expr.{Expr, out-Expr, roll-Expr, out-roll-Expr, fold_out-Expr}
use Rattle.tt_value.specs.declared.expression.Term.{Term, out-Term, roll-Term, out-roll-Term, fold_out-Term}
use Rattle.tt_value.specs.declared.expression.Addend.{Addend, out-Addend, roll-Addend, out-roll-Addend, fold_out-Addend}
use Rattle.tt_value.specs.declared.expression.Factor.{Factor, out-Factor, roll-Factor, roll-out-Factor, out-roll-Factor}
use Rattle.tt_value.specs.declared.expression.Factor.TheOpen.{Factor-F}
use Rattle.tt_value.specs.declared.expression.Factor.TheFolds.{fold-roll-Factor, fold-roll-Term, fold-roll-Addend, fold-roll-Expr}
use Rattle.tt_sql.specs.trees.Lists.{Each}
use Rattle.tt_sql.specs.grammar.Grammar.{Mark, At}
use Rattle.tt_print.specs.text.Words.{Words, word_if, name_words, column_name_words, table_name_words, quoted_words, literal_words}
use Rattle.tt_print.specs.text.Expressions.{FactorWords, told_factor, sign_word, expr_words, addend_words, term_words, factor_words, expr_level, addend_level, term_level, factor_level}
use Rattle.tt_sql.specs.marks.Expressions.{name_marks, column_marks, table_marks, quoted_marks, value_marks, literal_marks, sign_marks, expr_marks, addend_marks, term_marks, factor_marks, factor_step, addend_step, expr_step, term_step}
use Rattle.tt_sql.specs.trees.Leaves.{IsNameText}
use Rattle.tt_print.specs.places.Marks.{unplaced}
use Rattle.tt_sql.specs.trees.Expressions.{IsWrittenName, IsWrittenColumn, IsWrittenTable, IsWrittenQuoted, IsWrittenLiteral, MayBeNegated, TermHas, AddendHas, ExprHas, FactorHas, IsWrittenFactor, IsWrittenExpr}
use Rattle.tt_print.specs.places.Trees.{unplaced_name, unplaced_quoted, unplaced_literal, unplaced_column, unplaced_table, factor_step as factor_bare, unplaced_factor, unplaced_term, unplaced_addend, unplaced_expr}
use Rattle.tt_print.proofs.again.Expressions.{words_of, zero_of, marks_of, told_are, marks_are}
use Rattle.tt_print.proofs.places.Parts.{IsKept, Kept, both_noted, way_noted, each_right, each_written, all_noted}

-- ---- names, numbers, texts and literals

pub name_kept : (n : Name) → IsWrittenName n → Kept IsWrittenName name_words name_marks unplaced_name n
name_kept n is = record { right = is; written = refl; noted = refl }

pub quoted_kept : (q : Quoted) → IsWrittenQuoted q → Kept IsWrittenQuoted quoted_words quoted_marks unplaced_quoted q
quoted_kept q is = record { right = is; written = refl; noted = refl }

value_noted : (v : Value) (place : ℕ) → value_marks v 0 ≡ unplaced (value_marks v place)
value_noted Null place = refl
value_noted (Int n) place = refl
value_noted (Date day) place = refl
value_noted (Text bytes) place = refl

pub literal_kept : (l : Literal) → IsWrittenLiteral l → Kept IsWrittenLiteral literal_words literal_marks unplaced_literal l
literal_kept l is = record { right = is; written = refl; noted = value_noted l.value l.place }

column_parts : (table : Option Name) (n : Name) → table ≡ None → IsNameText n.text → Kept IsWrittenColumn column_name_words column_marks unplaced_column (record { table = table; name = n })
column_parts None n alone is = record { right = (refl, is); written = refl; noted = refl }
column_parts (Some front) n alone is = absurd cc

pub column_kept : (c : ColumnName) → IsWrittenColumn c → Kept IsWrittenColumn column_name_words column_marks unplaced_column c
column_kept c is = column_parts c.table c.name is.0 is.1

table_parts : (schema : Option Name) (n : Name) → schema ≡ None → IsNameText n.text → Kept IsWrittenTable table_name_words table_marks unplaced_table (record { schema = schema; name = n })
table_parts None n alone is = record { right = (refl, is); written = refl; noted = refl }
table_parts (Some front) n alone is = absurd cc

pub table_kept : (t : TableName) → IsWrittenTable t → Kept IsWrittenTable table_name_words table_marks unplaced_table t
table_kept t is = table_parts t.schema t.name is.0 is.1

-- ---- terms and sums, given their factors

abbrev M : Type 0
M = List Mark

-- what is kept of a factor
pub record FactorKept (P : Factor → Type 0) (g f : Factor) : Type 0 where
  pub right : P g
  pub told : told_factor g ≡ told_factor f
  pub noted : factor_marks g ≡ unplaced (factor_marks f)
  pub bare : MayBeNegated (out-Factor f) → MayBeNegated (out-Factor g)

sign_noted : (s : Sign) → sign_marks s ≡ unplaced (sign_marks s)
sign_noted Plus = refl
sign_noted Minus = refl

term_without : (t : Term) → unplaced_term t ≡ roll-Term (record { first = unplaced_factor (out-Term t).first; others = map unplaced_factor (out-Term t).others })
unfolding unplaced_term unplaced_factor
term_without t = fold_out-Term Factor Addend Expr Term factor_bare roll-Addend roll-Expr roll-Term t

addend_without : (a : Addend) → unplaced_addend a ≡ roll-Addend (record { sign = (out-Addend a).sign; term = unplaced_term (out-Addend a).term })
unfolding unplaced_addend unplaced_term
addend_without a = fold_out-Addend Factor Addend Expr Term factor_bare roll-Addend roll-Expr roll-Term a

expr_without : (e : Expr) → unplaced_expr e ≡ roll-Expr (record { first = unplaced_term (out-Expr e).first; others = map unplaced_addend (out-Expr e).others })
unfolding unplaced_expr unplaced_term unplaced_addend
expr_without e = fold_out-Expr Factor Addend Expr Term factor_bare roll-Addend roll-Expr roll-Term e

abbrev term_told : FactorWords → List FactorWords → Words
term_told w ws = w.words ++ flat_map (λ factor. codes "*" ∷ factor.words) ws

abbrev expr_told : Words → List Words → Words
expr_told w ws = w ++ flat_map (λ addend. addend) ws

module _ (P : Factor → Type 0) (kept : (f : Factor) → P f → FactorKept P (unplaced_factor f) f) where
  as_kept : (f : Factor) → P f → Kept P factor_words factor_marks unplaced_factor f
  as_kept f is = let k = kept f is in record { right = k.right; written = ap (λ (t : FactorWords). t.words) k.told; noted = k.noted }

  told_each : (fs : List Factor) → Each P fs → map told_factor (map unplaced_factor fs) ≡ map told_factor fs
  told_each [] each = refl
  told_each (f ∷ fs) each = ap₂ (λ (w : FactorWords) (ws : List FactorWords). w ∷ ws) (kept f each.0).told (told_each fs each.1)

  term_kept : (t : Term) → TermHas P t → Kept (TermHas P) term_words term_marks unplaced_term t
  unfolding term_marks factor_marks
  term_kept t has =
      let y = out-Term t in
      let fs = map unplaced_factor y.others in
      subst (λ u. IsKept (TermHas P) term_words term_marks u t) (sym (term_without t)) (record {
        right = subst (λ z. P z.first × Each P z.others) (sym (out-roll-Term (record { first = unplaced_factor y.first; others = fs })))
            ((kept y.first has.0).right, each_right P factor_words factor_marks unplaced_factor as_kept y.others has.1);
        written = fold-roll-Term FactorWords Words Words Words factor_level addend_level expr_level term_level _
            ∙ ap₂ term_told (kept y.first has.0).told (told_each y.others has.1)
            ∙ sym (fold_out-Term FactorWords Words Words Words factor_level addend_level expr_level term_level t);
        noted = fold-roll-Term M M M M factor_step addend_step expr_step term_step _
            ∙ both_noted _ _ (kept y.first has.0).noted (all_noted P factor_words factor_marks unplaced_factor as_kept y.others has.1)
            ∙ ap unplaced (sym (fold_out-Term M M M M factor_step addend_step expr_step term_step t));
      })

  addend_kept : (a : Addend) → AddendHas P a → Kept (AddendHas P) addend_words addend_marks unplaced_addend a
  unfolding addend_marks term_marks
  addend_kept a has =
      let y = out-Addend a in
      let t = term_kept y.term has in
      subst (λ u. IsKept (AddendHas P) addend_words addend_marks u a) (sym (addend_without a)) (record {
        right = subst (λ z. TermHas P z.term) (sym (out-roll-Addend (record { sign = y.sign; term = unplaced_term y.term }))) t.right;
        written = fold-roll-Addend FactorWords Words Words Words factor_level addend_level expr_level term_level _
            ∙ ap (λ (w : Words). sign_word y.sign ∷ w) t.written
            ∙ sym (fold_out-Addend FactorWords Words Words Words factor_level addend_level expr_level term_level a);
        noted = fold-roll-Addend M M M M factor_step addend_step expr_step term_step _
            ∙ both_noted _ _ (sign_noted y.sign) t.noted
            ∙ ap unplaced (sym (fold_out-Addend M M M M factor_step addend_step expr_step term_step a));
      })

  pub expr_by_kept : (e : Expr) → ExprHas P e → Kept (ExprHas P) expr_words expr_marks unplaced_expr e
  unfolding expr_marks term_marks addend_marks
  expr_by_kept e has =
      let y = out-Expr e in
      let t = term_kept y.first has.0 in
      let xs = map unplaced_addend y.others in
      subst (λ u. IsKept (ExprHas P) expr_words expr_marks u e) (sym (expr_without e)) (record {
        right = subst (λ z. TermHas P z.first × Each (AddendHas P) z.others) (sym (out-roll-Expr (record { first = unplaced_term y.first; others = xs })))
            (t.right, each_right (AddendHas P) addend_words addend_marks unplaced_addend addend_kept y.others has.1);
        written = fold-roll-Expr FactorWords Words Words Words factor_level addend_level expr_level term_level _
            ∙ ap₂ expr_told t.written (each_written (AddendHas P) addend_words addend_marks unplaced_addend addend_kept y.others has.1)
            ∙ sym (fold_out-Expr FactorWords Words Words Words factor_level addend_level expr_level term_level e);
        noted = fold-roll-Expr M M M M factor_step addend_step expr_step term_step _
            ∙ both_noted _ _ t.noted (all_noted (AddendHas P) addend_words addend_marks unplaced_addend addend_kept y.others has.1)
            ∙ ap unplaced (sym (fold_out-Expr M M M M factor_step addend_step expr_step term_step e));
      })

-- ---- factors

abbrev Layer : Type 0
Layer = Factor-F Factor Addend Expr Term

abbrev told_of : Layer → FactorWords
told_of y = record { words = words_of y; zero = zero_of y }

layer_kept : (P : Factor → Type 0) (z y : Layer) → FactorHas P z → told_of z ≡ told_of y → marks_of z ≡ unplaced (marks_of y) → (MayBeNegated y → MayBeNegated z)
    → FactorKept (λ g. FactorHas P (out-Factor g)) (roll-Factor z) (roll-Factor y)
layer_kept P z y has told noted bare = record {
  right = subst (FactorHas P) (sym (out-roll-Factor z)) has;
  told = told_are z ∙ told ∙ sym (told_are y);
  noted = marks_are z ∙ noted ∙ ap unplaced (sym (marks_are y));
  bare = λ may. subst MayBeNegated (sym (out-roll-Factor z)) (bare (subst MayBeNegated (out-roll-Factor y) may));
}

module _ (P : Factor → Type 0) (kept : (f : Factor) → P f → FactorKept P (unplaced_factor f) f) where
  level_kept : (y : Layer) → FactorHas P y → FactorKept (λ g. FactorHas P (out-Factor g)) (unplaced_factor (roll-Factor y)) (roll-Factor y)
  unfolding unplaced_factor unplaced_expr
  level_kept (Factor-F.Literal l) has =
      subst (λ g. FactorKept (λ h. FactorHas P (out-Factor h)) g (roll-Factor (Factor-F.Literal l))) (sym (fold-roll-Factor Factor Addend Expr Term factor_bare roll-Addend roll-Expr roll-Term (Factor-F.Literal l)))
      (layer_kept P (Factor-F.Literal (unplaced_literal l)) (Factor-F.Literal l) has refl (way_noted _ 0 (literal_kept l has).noted) (λ may. may))
  level_kept (Factor-F.Column c) has =
      let k = column_kept c has in
      subst (λ g. FactorKept (λ h. FactorHas P (out-Factor h)) g (roll-Factor (Factor-F.Column c))) (sym (fold-roll-Factor Factor Addend Expr Term factor_bare roll-Addend roll-Expr roll-Term (Factor-F.Column c)))
      (layer_kept P (Factor-F.Column (unplaced_column c)) (Factor-F.Column c) k.right (ap (λ (w : Words). record { words = w; zero = false }) k.written) (way_noted _ 1 k.noted) (λ may. tt))
  level_kept (Factor-F.Bracket place e) has =
      let k = expr_by_kept P kept e has in
      subst (λ g. FactorKept (λ h. FactorHas P (out-Factor h)) g (roll-Factor (Factor-F.Bracket place e))) (sym (fold-roll-Factor Factor Addend Expr Term factor_bare roll-Addend roll-Expr roll-Term (Factor-F.Bracket place e)))
      (layer_kept P (Factor-F.Bracket 0 (unplaced_expr e)) (Factor-F.Bracket place e) k.right (ap (λ (w : Words). record { words = codes "(" ∷ (w ++ (codes ")" ∷ [])); zero = false }) k.written)
      (ap (λ (m : List Mark). At 0 ∷ m) (way_noted _ 2 k.noted)) (λ may. tt))
  level_kept (Factor-F.Negated place f) has =
      let k = kept f has.0 in
      subst (λ g. FactorKept (λ h. FactorHas P (out-Factor h)) g (roll-Factor (Factor-F.Negated place f))) (sym (fold-roll-Factor Factor Addend Expr Term factor_bare roll-Addend roll-Expr roll-Term (Factor-F.Negated place f)))
      (layer_kept P (Factor-F.Negated 0 (unplaced_factor f)) (Factor-F.Negated place f) (k.right, k.bare has.1)
      (ap (λ (t : FactorWords). record { words = codes "-" ∷ (word_if t.zero (codes "-") ++ t.words); zero = false }) k.told) (ap (λ (m : List Mark). At 0 ∷ m) (way_noted _ 3 k.noted)) (λ may. tt))

  of_level : (f : Factor) → FactorHas P (out-Factor f) → FactorKept (λ g. FactorHas P (out-Factor g)) (unplaced_factor f) f
  of_level f has = subst (λ g. FactorKept (λ h. FactorHas P (out-Factor h)) (unplaced_factor g) g) (roll-out-Factor f) (level_kept (out-Factor f) has)

pub factor_kept : (levels : ℕ) (f : Factor) → IsWrittenFactor levels f → FactorKept (IsWrittenFactor levels) (unplaced_factor f) f
unfolding IsWrittenFactor
factor_kept zero f has = of_level (λ g. ⊥) (λ g is. absurd is) f has
factor_kept (suc levels) f has = of_level (IsWrittenFactor levels) (factor_kept levels) f has

pub expr_kept : (levels : ℕ) (e : Expr) → IsWrittenExpr levels e → Kept (IsWrittenExpr levels) expr_words expr_marks unplaced_expr e
expr_kept levels = expr_by_kept (IsWrittenFactor levels) (factor_kept levels)
