use Rattle.std.proofs.Common.{◌≡◌, ◌∙◌, ◌-◌, suc, ◌∷◌, map, refl, ap, arith}
use Rattle.std.proofs.lemmas.Result.{err_from_is_err_and}
use Rattle.tt_sql.specs.grammar.Grammar.{Way}
use Rattle.tt_sql.specs.marks.Expressions.{conjunction_marks, predicate_marks, repeated, unit_marks}
use Rattle.tt_sql.proofs.marks.Expressions.{marks-Conjunction, marks-Group, marks-Not, marks-Predicate}
use Rattle.tt_phrase.proofs.Operands.{simple_passes, simple_stops, deeper_passes, deeper_stops}
use Rattle.tt_terminal.proofs.Exits.{passes_then, turns_right}
use Rattle.tt_terminal.proofs.Pairs.{pair_first, pair_holds, pair_reads}
use Rattle.tt_terminal.proofs.Steps.{collected_all, collected_fails, collected_push, error_as, marks_are, passes_again, passes_both, passes_left, passes_note, passes_right, passes_word, reads_as, stops_again, stops_first, stops_left, stops_note, stops_right, stops_second, stops_word, word_kind_is}
use Rattle.tt_sql.specs.trees.Lists.{Each}
use Rattle.tt_sql.specs.determined.Expressions.{IsGivenConjunction, IsGivenUnit}
use Rattle.tt_phrase.proofs.GivenTrees.{each_push, given_conjunction, given_group, given_not, given_predicate}
use Rattle.tt_phrase.proofs.predicate.+predicates.Goals as goal

pub predicate_of-returns-clause-reads : goal.predicate_of-returns-clause-reads
predicate_of-returns-clause-reads t c = rw (pair_first _ _ _ c.in_ok-head.ensures) (marks_are (marks-Predicate _ _) (passes_both c.in_ok-first.ensures.reads (pair_reads _ _ _ (λ x. repeated (map conjunction_marks x.0)) _ _ c.in_ok-head.ensures c.conjunctions_of.ensures.reads)))

pub predicate_of-returns-in_err-first-clause-reads : goal.predicate_of-returns-in_err-first-clause-reads
predicate_of-returns-in_err-first-clause-reads t c =
    let p = err_from_is_err_and c.from_residual.result c.from_residual.ensures.1 in
    rw (p.1, p.2) (error_as c.in_err-first.field-0.0 (λ at f. stops_first f) c.in_err-first.ensures.reads)

pub predicate_of-returns-in_err-head-clause-reads : goal.predicate_of-returns-in_err-head-clause-reads
predicate_of-returns-in_err-head-clause-reads t c =
    let p = err_from_is_err_and c.from_residual-in_err-head.result c.from_residual-in_err-head.ensures.1 in
    rw (p.1, p.2) (error_as c.in_err-head.field-0.0 (λ at f. stops_second c.in_ok-first.ensures.reads f) (pair_reads _ _ _ (λ x. repeated (map conjunction_marks x.0)) _ _ c.in_err-head.ensures c.conjunctions_of.ensures.reads))

pub conjunction_of-returns-clause-reads : goal.conjunction_of-returns-clause-reads
conjunction_of-returns-clause-reads t c = rw (pair_first _ _ _ c.in_ok-head.ensures) (marks_are (marks-Conjunction _ _) (passes_both c.in_ok-first.ensures.reads (pair_reads _ _ _ (λ x. repeated (map unit_marks x.0)) _ _ c.in_ok-head.ensures c.units_of.ensures.reads)))

pub conjunction_of-returns-in_err-first-clause-reads : goal.conjunction_of-returns-in_err-first-clause-reads
conjunction_of-returns-in_err-first-clause-reads t c =
    let p = err_from_is_err_and c.from_residual.result c.from_residual.ensures.1 in
    rw (p.1, p.2) (error_as c.in_err-first.field-0.0 (λ at f. stops_first f) c.in_err-first.ensures.reads)

pub conjunction_of-returns-in_err-head-clause-reads : goal.conjunction_of-returns-in_err-head-clause-reads
conjunction_of-returns-in_err-head-clause-reads t c =
    let p = err_from_is_err_and c.from_residual-in_err-head.result c.from_residual-in_err-head.ensures.1 in
    rw (p.1, p.2) (error_as c.in_err-head.field-0.0 (λ at f. stops_second c.in_ok-first.ensures.reads f) (pair_reads _ _ _ (λ x. repeated (map unit_marks x.0)) _ _ c.in_err-head.ensures c.units_of.ensures.reads))

pub conjunctions_of-returns-in_err-conjunction-clause-reads : goal.conjunctions_of-returns-in_err-conjunction-clause-reads
conjunctions_of-returns-in_err-conjunction-clause-reads t c =
    let p = err_from_is_err_and c.from_residual.result c.from_residual.ensures.1 in
    rw (p.1, p.2) (error_as c.in_err-conjunction.field-0.0 (λ at f. collected_fails c.loop-behind.invariant.reads (word_kind_is c.in-Some.ensures) refl refl (stops_word c.in-Some.ensures f)) c.in_err-conjunction.ensures.reads)

pub conjunctions_of-loop-behind-preserved : goal.conjunctions_of-loop-behind-preserved
conjunctions_of-loop-behind-preserved t c = record {
  reads = collected_push conjunction_marks c.loop-behind.conjunctions c.push.new.self c.in_ok-conjunction.conjunction c.in_ok-push.ensures.ok c.loop-behind.invariant.reads (word_kind_is c.in-Some.ensures) refl refl (passes_word c.in-Some.ensures c.in_ok-conjunction.ensures.reads);
  given = each_push IsGivenConjunction c.loop-behind.conjunctions c.push.new.self c.in_ok-conjunction.conjunction c.in_ok-push.ensures.ok c.loop-behind.invariant.given c.in_ok-conjunction.ensures.given;
}

pub conjunctions_of-returns-clause-reads : goal.conjunctions_of-returns-clause-reads
conjunctions_of-returns-clause-reads t c = collected_all c.loop-behind.invariant.reads (rw c.in_default.ensures refl)

pub units_of-returns-in_err-unit-clause-reads : goal.units_of-returns-in_err-unit-clause-reads
units_of-returns-in_err-unit-clause-reads t c =
    let p = err_from_is_err_and c.from_residual.result c.from_residual.ensures.1 in
    rw (p.1, p.2) (error_as c.in_err-unit.field-0.0 (λ at f. collected_fails c.loop-behind.invariant.reads (word_kind_is c.in-Some.ensures) refl refl (stops_word c.in-Some.ensures f)) c.in_err-unit.ensures.reads)

pub units_of-loop-behind-preserved : goal.units_of-loop-behind-preserved
units_of-loop-behind-preserved t c = record {
  reads = collected_push unit_marks c.loop-behind.units c.push.new.self c.in_ok-unit.unit c.in_ok-push.ensures.ok c.loop-behind.invariant.reads (word_kind_is c.in-Some.ensures) refl refl (passes_word c.in-Some.ensures c.in_ok-unit.ensures.reads);
  given = each_push IsGivenUnit c.loop-behind.units c.push.new.self c.in_ok-unit.unit c.in_ok-push.ensures.ok c.loop-behind.invariant.given c.in_ok-unit.ensures.given;
}

pub units_of-returns-clause-reads : goal.units_of-returns-clause-reads
units_of-returns-clause-reads t c = collected_all c.loop-behind.invariant.reads (rw c.in_default.ensures refl)

pub unit_of-returns-then-levels-eq0-clause-reads : goal.unit_of-returns-then-levels-eq0-clause-reads
unit_of-returns-then-levels-eq0-clause-reads t c = rw c.if-levels-eq0.true (reads_as (λ x. unit_marks x.0) (λ x. x.1) c.simple_of.result (λ m s p. simple_passes p) (λ at f. simple_stops f) c.simple_of.ensures.reads)

pub unit_of-returns-clause-reads : goal.unit_of-returns-clause-reads
unit_of-returns-clause-reads t c =
    let e : c.args.levels ≡ suc (c.args.levels - 1) = omega arith in
    rw e (reads_as (λ x. unit_marks x.0) (λ x. x.1) c.deeper_of.result (λ m s p. deeper_passes p) (λ at f. deeper_stops f) c.deeper_of.ensures.reads)

pub deeper_of-returns-in_err-unit-clause-reads : goal.deeper_of-returns-in_err-unit-clause-reads
deeper_of-returns-in_err-unit-clause-reads t c =
    let p = err_from_is_err_and c.from_residual.result c.from_residual.ensures.1 in
    rw (p.1, p.2) (error_as c.in_err-unit.field-0.0 (λ at f. stops_left (word_kind_is c.in-Some.ensures) refl refl (stops_word c.in-Some.ensures (stops_note (stops_again f)))) c.in_err-unit.ensures.reads)

pub deeper_of-returns-in-Some-clause-reads : goal.deeper_of-returns-in-Some-clause-reads
deeper_of-returns-in-Some-clause-reads t c = marks_are (marks-Not _ ∙ ap (λ x. Way 7 ∷ unit_marks x) c.in_ok-new.ensures)
    (passes_left (word_kind_is c.in-Some.ensures) refl refl (passes_word c.in-Some.ensures (passes_note (λ done. refl) (passes_again c.in_ok-unit.ensures.reads))))

pub deeper_of-returns-in_err-predicate-clause-reads : goal.deeper_of-returns-in_err-predicate-clause-reads
deeper_of-returns-in_err-predicate-clause-reads t c =
    let p = err_from_is_err_and c.from_residual-in_err-predicate.result c.from_residual-in_err-predicate.ensures.1 in
    rw (p.1, p.2) (error_as c.in_err-predicate.field-0.0 (λ at f. stops_right (rw c.in_default.ensures refl) refl (stops_left (word_kind_is c.in-Some-word.ensures) refl refl (stops_word c.in-Some-word.ensures (stops_note (stops_first (stops_again f)))))) c.in_err-predicate.ensures.reads)

pub deeper_of-returns-in_err-whole-clause-reads : goal.deeper_of-returns-in_err-whole-clause-reads
deeper_of-returns-in_err-whole-clause-reads t c =
    let p = err_from_is_err_and c.from_residual-in_err-whole.result c.from_residual-in_err-whole.ensures.1 in
    rw (p.1, p.2) (error_as c.in_err-whole.field-0.0 (λ at f. stops_right (rw c.in_default.ensures refl) refl (stops_left (word_kind_is c.in-Some-word.ensures) refl refl (stops_word c.in-Some-word.ensures (stops_note (stops_second (passes_again c.in_ok-predicate.ensures.reads) f))))) c.in_err-whole.ensures.reads)

pub deeper_of-returns-in-Some-word-clause-reads : goal.deeper_of-returns-in-Some-word-clause-reads
deeper_of-returns-in-Some-word-clause-reads t c = marks_are (marks-Group _ ∙ ap (λ x. Way 8 ∷ predicate_marks x) (c.in_ok-new-2.ensures ∙ c.in_ok-whole.ensures.kept))
    (passes_right (rw c.in_default.ensures refl) refl (passes_left (word_kind_is c.in-Some-word.ensures) refl refl (passes_word c.in-Some-word.ensures (passes_note (λ done. refl) (passes_then (passes_again c.in_ok-predicate.ensures.reads) c.in_ok-whole.ensures.reads)))))

pub deeper_of-returns-clause-reads : goal.deeper_of-returns-clause-reads
deeper_of-returns-clause-reads t c = turns_right _ _ _ _ _ _ c.simple_of.result (rw c.in_default.ensures refl) refl (turns_right _ _ _ _ _ _ c.simple_of.result (rw c.in_default-word.ensures refl) refl c.simple_of.ensures.reads)

-- ---- what is given

pub predicate_of-returns-clause-given : goal.predicate_of-returns-clause-given
predicate_of-returns-clause-given t c = rw (pair_first _ _ _ c.in_ok-head.ensures) (given_predicate _ _ c.in_ok-first.ensures.given (pair_holds _ _ _ (λ x. Each IsGivenConjunction x.0) c.in_ok-head.ensures c.conjunctions_of.ensures.given))

pub conjunction_of-returns-clause-given : goal.conjunction_of-returns-clause-given
conjunction_of-returns-clause-given t c = rw (pair_first _ _ _ c.in_ok-head.ensures) (given_conjunction _ _ c.in_ok-first.ensures.given (pair_holds _ _ _ (λ x. Each IsGivenUnit x.0) c.in_ok-head.ensures c.units_of.ensures.given))

pub deeper_of-returns-in-Some-clause-given : goal.deeper_of-returns-in-Some-clause-given
deeper_of-returns-in-Some-clause-given t c = given_not _ (rw c.in_ok-new.ensures c.in_ok-unit.ensures.given)

pub deeper_of-returns-in-Some-word-clause-given : goal.deeper_of-returns-in-Some-word-clause-given
deeper_of-returns-in-Some-word-clause-given t c = given_group _ (rw (c.in_ok-new-2.ensures, c.in_ok-whole.ensures.kept) c.in_ok-predicate.ensures.given)
