-- A predicate without its places is the same but for these.
use Rattle.std.proofs.Common.{◌≡◌, ℕ, zero, suc, Bool, true, false, List, [], ◌∷◌, ◌++◌, map, refl, sym, ap, ap₂, subst, ◌∙◌}
use Rattle.std.specs.Prelude.{codes}
use Rattle.std.specs.List.{flat_map}
use Rattle.tt_value.specs.declared.predicate.Operand.{Operand}
use Rattle.tt_value.specs.declared.predicate.Operand.TheVariants as operand
use Rattle.tt_value.specs.declared.predicate.Comparison.{Comparison}
use Rattle.tt_value.specs.declared.predicate.Comparison.TheVariants.{Equal, NotEqual, Less, LessOrEqual, Greater, GreaterOrEqual}
use Rattle.tt_value.specs.declared.predicate.Predicate.{Predicate, out-Predicate, roll-Predicate, out-roll-Predicate, fold_out-Predicate}
use Rattle.tt_value.specs.declared.predicate.Conjunction.{Conjunction, out-Conjunction, roll-Conjunction, out-roll-Conjunction, fold_out-Conjunction}
use Rattle.tt_value.specs.declared.predicate.Unit.{Unit as Test, out-Unit, roll-Unit, roll-out-Unit, out-roll-Unit}
use Rattle.tt_value.specs.declared.predicate.Unit.TheOpen.{Unit-F}
use Rattle.tt_value.specs.declared.predicate.Unit.TheFolds.{fold-roll-Unit, fold-roll-Conjunction, fold-roll-Predicate}
use Rattle.tt_sql.specs.trees.Lists.{Each}
use Rattle.tt_sql.specs.grammar.Grammar.{Mark, Way}
use Rattle.tt_print.specs.text.Words.{Words, word_if, listed, literal_words, quoted_words}
use Rattle.tt_print.specs.text.Predicates.{comparison_word, operand_words, predicate_words, conjunction_words, unit_words, predicate_level, conjunction_level, unit_level, filter_words}
use Rattle.tt_sql.specs.marks.Expressions.{flag_marks, literal_marks, quoted_marks, operand_marks, comparison_marks, unit_marks, conjunction_marks, predicate_marks, unit_step, conjunction_step, predicate_step}
use Rattle.tt_print.specs.places.Marks.{unplaced}
use Rattle.tt_sql.specs.trees.Expressions.{IsWrittenLiteral, IsWrittenOperand, ConjunctionHas, PredicateHas, UnitHas, IsWrittenUnit, IsWrittenPredicate}
use Rattle.tt_print.specs.places.Trees.{unplaced_literal, unplaced_quoted, unplaced_column, unplaced_operand, unit_step as unit_bare, unplaced_unit, unplaced_conjunction, unplaced_predicate}
use Rattle.tt_print.proofs.again.Predicates.{words_of, marks_of, words_are, marks_are}
use Rattle.tt_print.proofs.places.Parts.{IsKept, Kept, both_noted, way_noted, each_right, each_written, all_noted, list_right, list_written, list_noted}
use Rattle.tt_print.proofs.places.Expressions.{literal_kept, quoted_kept, column_kept}

operand_kept : (a : Operand) → IsWrittenOperand a → Kept IsWrittenOperand operand_words operand_marks unplaced_operand a
operand_kept (operand.Column c) is = let k = column_kept c is in record { right = k.right; written = k.written; noted = way_noted _ 0 k.noted }
operand_kept (operand.Literal l) is = let k = literal_kept l is in record { right = k.right; written = k.written; noted = way_noted _ 1 k.noted }

comparison_noted : (c : Comparison) → comparison_marks c ≡ unplaced (comparison_marks c)
comparison_noted Equal = refl
comparison_noted NotEqual = refl
comparison_noted Less = refl
comparison_noted LessOrEqual = refl
comparison_noted Greater = refl
comparison_noted GreaterOrEqual = refl

pub flag_noted : (b : Bool) → flag_marks b ≡ unplaced (flag_marks b)
flag_noted true = refl
flag_noted false = refl

-- ---- trees, given their units

abbrev M : Type 0
M = List Mark

conjunction_without : (c : Conjunction) → unplaced_conjunction c ≡ roll-Conjunction (record { first = unplaced_unit (out-Conjunction c).first; others = map unplaced_unit (out-Conjunction c).others })
unfolding unplaced_conjunction unplaced_unit
conjunction_without c = fold_out-Conjunction Test Conjunction Predicate unit_bare roll-Conjunction roll-Predicate c

predicate_without : (p : Predicate) → unplaced_predicate p ≡ roll-Predicate (record { first = unplaced_conjunction (out-Predicate p).first; others = map unplaced_conjunction (out-Predicate p).others })
unfolding unplaced_predicate unplaced_conjunction
predicate_without p = fold_out-Predicate Test Conjunction Predicate unit_bare roll-Conjunction roll-Predicate p

abbrev conjunction_told : Words → List Words → Words
conjunction_told w ws = w ++ flat_map (λ part. codes "AND" ∷ part) ws

abbrev predicate_told : Words → List Words → Words
predicate_told w ws = w ++ flat_map (λ conjunction. codes "OR" ∷ conjunction) ws

module _ (P : Test → Type 0) (kept : (u : Test) → P u → Kept P unit_words unit_marks unplaced_unit u) where
  conjunction_kept : (c : Conjunction) → ConjunctionHas P c → Kept (ConjunctionHas P) conjunction_words conjunction_marks unplaced_conjunction c
  unfolding conjunction_marks unit_marks
  conjunction_kept c has =
      let y = out-Conjunction c in
      let first = kept y.first has.0 in
      let us = map unplaced_unit y.others in
      subst (λ u. IsKept (ConjunctionHas P) conjunction_words conjunction_marks u c) (sym (conjunction_without c)) (record {
        right = subst (λ z. P z.first × Each P z.others) (sym (out-roll-Conjunction (record { first = unplaced_unit y.first; others = us })))
            (first.right, each_right P unit_words unit_marks unplaced_unit kept y.others has.1);
        written = fold-roll-Conjunction Words Words Words unit_level conjunction_level predicate_level _
            ∙ ap₂ conjunction_told first.written (each_written P unit_words unit_marks unplaced_unit kept y.others has.1)
            ∙ sym (fold_out-Conjunction Words Words Words unit_level conjunction_level predicate_level c);
        noted = fold-roll-Conjunction M M M unit_step conjunction_step predicate_step _
            ∙ both_noted _ _ first.noted (all_noted P unit_words unit_marks unplaced_unit kept y.others has.1)
            ∙ ap unplaced (sym (fold_out-Conjunction M M M unit_step conjunction_step predicate_step c));
      })

  pub predicate_by_kept : (p : Predicate) → PredicateHas P p → Kept (PredicateHas P) predicate_words predicate_marks unplaced_predicate p
  unfolding predicate_marks conjunction_marks
  predicate_by_kept p has =
      let y = out-Predicate p in
      let first = conjunction_kept y.first has.0 in
      let cs = map unplaced_conjunction y.others in
      subst (λ u. IsKept (PredicateHas P) predicate_words predicate_marks u p) (sym (predicate_without p)) (record {
        right = subst (λ z. ConjunctionHas P z.first × Each (ConjunctionHas P) z.others) (sym (out-roll-Predicate (record { first = unplaced_conjunction y.first; others = cs })))
            (first.right, each_right (ConjunctionHas P) conjunction_words conjunction_marks unplaced_conjunction conjunction_kept y.others has.1);
        written = fold-roll-Predicate Words Words Words unit_level conjunction_level predicate_level _
            ∙ ap₂ predicate_told first.written (each_written (ConjunctionHas P) conjunction_words conjunction_marks unplaced_conjunction conjunction_kept y.others has.1)
            ∙ sym (fold_out-Predicate Words Words Words unit_level conjunction_level predicate_level p);
        noted = fold-roll-Predicate M M M unit_step conjunction_step predicate_step _
            ∙ both_noted _ _ first.noted (all_noted (ConjunctionHas P) conjunction_words conjunction_marks unplaced_conjunction conjunction_kept y.others has.1)
            ∙ ap unplaced (sym (fold_out-Predicate M M M unit_step conjunction_step predicate_step p));
      })

-- ---- units

abbrev Layer : Type 0
Layer = Unit-F Test Conjunction Predicate

abbrev HasLayer : (Test → Type 0) → Test → Type 0
HasLayer P u = UnitHas P (out-Unit u)

layer_kept : (P : Test → Type 0) (z y : Layer) → unplaced_unit (roll-Unit y) ≡ roll-Unit z → UnitHas P z → words_of z ≡ words_of y → marks_of z ≡ unplaced (marks_of y)
    → Kept (HasLayer P) unit_words unit_marks unplaced_unit (roll-Unit y)
layer_kept P z y without has written noted = subst (λ u. IsKept (HasLayer P) unit_words unit_marks u (roll-Unit y)) (sym without) (record {
  right = subst (UnitHas P) (sym (out-roll-Unit z)) has;
  written = words_are z ∙ written ∙ sym (words_are y);
  noted = marks_are z ∙ noted ∙ ap unplaced (sym (marks_are y));
})

module _ (P : Test → Type 0) (kept : (u : Test) → P u → Kept P unit_words unit_marks unplaced_unit u) where
  level_kept : (y : Layer) → UnitHas P y → Kept (HasLayer P) unit_words unit_marks unplaced_unit (roll-Unit y)
  unfolding unplaced_unit unplaced_predicate
  level_kept (Unit-F.Not u) has =
      let k = kept u has in
      layer_kept P (Unit-F.Not (unplaced_unit u)) (Unit-F.Not u) (fold-roll-Unit Test Conjunction Predicate unit_bare roll-Conjunction roll-Predicate _) k.right
      (ap (λ (w : Words). codes "NOT" ∷ w) k.written) (ap (λ (m : List Mark). Way 7 ∷ m) k.noted)
  level_kept (Unit-F.Bracket p) has =
      let k = predicate_by_kept P kept p has in
      layer_kept P (Unit-F.Bracket (unplaced_predicate p)) (Unit-F.Bracket p) (fold-roll-Unit Test Conjunction Predicate unit_bare roll-Conjunction roll-Predicate _) k.right
      (ap (λ (w : Words). codes "(" ∷ (w ++ (codes ")" ∷ []))) k.written) (ap (λ (m : List Mark). Way 8 ∷ m) k.noted)
  level_kept (Unit-F.Compare a c b) has =
      let k = operand_kept a has.0 in
      let l = operand_kept b has.1 in
      layer_kept P (Unit-F.Compare (unplaced_operand a) c (unplaced_operand b)) (Unit-F.Compare a c b) (fold-roll-Unit Test Conjunction Predicate unit_bare roll-Conjunction roll-Predicate _) (k.right, l.right)
      (ap₂ (λ (v : Words) (w : Words). v ++ (comparison_word c ∷ w)) k.written l.written) (both_noted _ _ k.noted (both_noted _ _ (comparison_noted c) (way_noted _ 2 l.noted)))
  level_kept (Unit-F.IsNull a negated) has =
      let k = operand_kept a has in
      layer_kept P (Unit-F.IsNull (unplaced_operand a) negated) (Unit-F.IsNull a negated) (fold-roll-Unit Test Conjunction Predicate unit_bare roll-Conjunction roll-Predicate _) k.right
      (ap (λ (w : Words). w ++ (codes "IS" ∷ (word_if negated (codes "NOT") ++ (codes "NULL" ∷ [])))) k.written) (both_noted _ _ k.noted (way_noted _ 3 (flag_noted negated)))
  level_kept (Unit-F.In a negated literals) has =
      let k = operand_kept a has.0 in
      layer_kept P (Unit-F.In (unplaced_operand a) negated (map unplaced_literal literals)) (Unit-F.In a negated literals) (fold-roll-Unit Test Conjunction Predicate unit_bare roll-Conjunction roll-Predicate _)
      (k.right, list_right IsWrittenLiteral literal_words literal_marks unplaced_literal literal_kept literals has.1)
      (ap₂ (λ (v : Words) (ws : List Words). v ++ (word_if negated (codes "NOT") ++ (codes "IN" ∷ (codes "(" ∷ (listed ws ++ (codes ")" ∷ [])))))) k.written
      (list_written IsWrittenLiteral literal_words literal_marks unplaced_literal literal_kept literals has.1))
      (both_noted _ _ k.noted (both_noted _ _ (flag_noted negated) (way_noted _ 4 (list_noted IsWrittenLiteral literal_words literal_marks unplaced_literal literal_kept literals has.1))))
  level_kept (Unit-F.Between a negated least greatest) has =
      let k = operand_kept a has.0 in
      layer_kept P (Unit-F.Between (unplaced_operand a) negated (unplaced_literal least) (unplaced_literal greatest)) (Unit-F.Between a negated least greatest)
      (fold-roll-Unit Test Conjunction Predicate unit_bare roll-Conjunction roll-Predicate _) (k.right, has.1, has.2)
      (ap (λ (w : Words). w ++ (word_if negated (codes "NOT") ++ (codes "BETWEEN" ∷ (literal_words least ++ (codes "AND" ∷ literal_words greatest))))) k.written)
      (both_noted _ _ k.noted (both_noted _ _ (flag_noted negated) (both_noted _ _ (literal_kept least has.1).noted (way_noted _ 5 (literal_kept greatest has.2).noted))))
  level_kept (Unit-F.StartsWith c front) has =
      let k = column_kept c has.0 in
      layer_kept P (Unit-F.StartsWith (unplaced_column c) (unplaced_quoted front)) (Unit-F.StartsWith c front) (fold-roll-Unit Test Conjunction Predicate unit_bare roll-Conjunction roll-Predicate _) (k.right, has.1)
      (ap (λ (w : Words). codes "STARTSWITH" ∷ (codes "(" ∷ (w ++ (codes "," ∷ (quoted_words front ++ (codes ")" ∷ [])))))) k.written)
      (both_noted _ _ k.noted (way_noted (quoted_marks front) 6 (quoted_kept front has.1).noted))

  of_level : (u : Test) → UnitHas P (out-Unit u) → Kept (HasLayer P) unit_words unit_marks unplaced_unit u
  of_level u has = subst (λ v. Kept (HasLayer P) unit_words unit_marks unplaced_unit v) (roll-out-Unit u) (level_kept (out-Unit u) has)

pub unit_kept : (levels : ℕ) (u : Test) → IsWrittenUnit levels u → Kept (IsWrittenUnit levels) unit_words unit_marks unplaced_unit u
unfolding IsWrittenUnit
unit_kept zero u has = of_level (λ v. ⊥) (λ v is. absurd is) u has
unit_kept (suc levels) u has = of_level (IsWrittenUnit levels) (unit_kept levels) u has

pub predicate_kept : (levels : ℕ) (p : Predicate) → IsWrittenPredicate levels p → Kept (IsWrittenPredicate levels) predicate_words predicate_marks unplaced_predicate p
predicate_kept levels = predicate_by_kept (IsWrittenUnit levels) (unit_kept levels)

pub filter_kept : (levels : ℕ) (p : Predicate) → IsWrittenPredicate levels p → Kept (IsWrittenPredicate levels) filter_words predicate_marks unplaced_predicate p
filter_kept levels p is = let k = predicate_kept levels p is in record { right = k.right; written = ap (λ (w : Words). codes "WHERE" ∷ w) k.written; noted = k.noted }
