use Rattle.std.proofs.Common.{[], ◌∷◌, ◌++◌, refl}
use Rattle.tt_sql.specs.grammar.Grammar.{Way}
use Rattle.tt_sql.specs.determined.Expressions.{AreGiven, operand_leaves}
use Rattle.tt_sql.specs.marks.Expressions.{comparison_marks, flag_marks, operand_marks}
use Rattle.tt_sql.proofs.marks.Expressions.{marks-Compare, marks-IsNull}
use Rattle.tt_terminal.proofs.Exits.{within}
use Rattle.tt_terminal.proofs.Pairs.{pair_first, pair_holds, pair_reads}
use Rattle.tt_phrase.proofs.Operands.{completes_exit, completes_more}
use Rattle.tt_terminal.proofs.Steps.{passes_as, passes_both, passes_left, passes_note, passes_right, passes_word, stops_first, stops_left, stops_note, stops_right, stops_second, stops_word, word_kind_is}
use Rattle.tt_phrase.proofs.GivenTrees.{given_compare, given_is_null}
use Rattle.tt_phrase.proofs.unit.end_of.Goals as goal

pub returns-in_err-first-clause-reads : goal.returns-in_err-first-clause-reads
returns-in_err-first-clause-reads c = completes_exit _ _ _ _ _ _ c.from_residual.result c.from_residual.ensures.1
    (within (λ at f. stops_left c.in-Some.ensures.kind_is (rw c.in-Some.ensures.begins_here refl) refl (stops_second c.in-Some.ensures.passes (stops_first f))) _ (pair_reads _ _ _ (λ x. operand_marks x.0) _ _ c.in_err-first.ensures c.operand_of.ensures.reads))

pub returns-in-Some-clause-reads : goal.returns-in-Some-clause-reads
returns-in-Some-clause-reads c = rw (pair_first _ _ _ c.in_ok-first.ensures) (
  comparison_marks c.in-Some.comparison ++ (operand_marks c.in_ok-first.second ++ Way 2 ∷ []),
  marks-Compare _ _ _,
  passes_left c.in-Some.ensures.kind_is (rw c.in-Some.ensures.begins_here refl) refl
      (passes_both c.in-Some.ensures.passes (passes_as (pair_reads _ _ _ (λ x. operand_marks x.0) _ _ c.in_ok-first.ensures c.operand_of.ensures.reads))),
)

pub returns-in_err-tested-clause-reads : goal.returns-in_err-tested-clause-reads
returns-in_err-tested-clause-reads c = completes_exit _ _ _ _ _ _ c.from_residual-in_err-tested.result c.from_residual-in_err-tested.ensures.1
    (within (λ at f. stops_right (rw c.in_default.ensures refl) refl (stops_left (word_kind_is c.in-Some-word.ensures) refl refl (stops_word c.in-Some-word.ensures (stops_second c.flag_of-negated.ensures (stops_first f))))) _ c.in_err-tested.ensures.reads)

pub returns-in-Some-word-clause-reads : goal.returns-in-Some-word-clause-reads
returns-in-Some-word-clause-reads c = rw c.in_ok-tested.ensures.kept (
  flag_marks c.flag_of-negated.result.0 ++ Way 3 ∷ [],
  marks-IsNull _ _,
  passes_right (rw c.in_default.ensures refl) refl (passes_left (word_kind_is c.in-Some-word.ensures) refl refl (passes_word c.in-Some-word.ensures (passes_both c.flag_of-negated.ensures (passes_as c.in_ok-tested.ensures.reads)))),
)

pub returns-in-Some-word-2-clause-reads : goal.returns-in-Some-word-2-clause-reads
returns-in-Some-word-2-clause-reads c = completes_more _ _ (operand_marks c.args.operand) (Way 1 ∷ []) _ _ _ _ c.choice_of.result
    (λ m u p. passes_right (rw c.in_default.ensures refl) refl (passes_right (rw c.in_default-word.ensures refl) refl (passes_left (word_kind_is c.in-Some-word-2.ensures) refl refl (passes_word c.in-Some-word-2.ensures (passes_note (λ done. refl) p)))))
    (λ at f. stops_right (rw c.in_default.ensures refl) refl (stops_right (rw c.in_default-word.ensures refl) refl (stops_left (word_kind_is c.in-Some-word-2.ensures) refl refl (stops_word c.in-Some-word-2.ensures (stops_note f)))))
    c.choice_of.ensures.reads

pub returns-clause-reads : goal.returns-clause-reads
returns-clause-reads c = completes_more _ _ (operand_marks c.args.operand) (Way 0 ∷ []) _ _ _ _ c.choice_of-2.result
    (λ m u p. passes_right (rw c.in_default.ensures refl) refl (passes_right (rw c.in_default-word.ensures refl) refl (passes_right (rw c.in_default-word-2.ensures refl) refl (passes_note (λ done. refl) p))))
    (λ at f. stops_right (rw c.in_default.ensures refl) refl (stops_right (rw c.in_default-word.ensures refl) refl (stops_right (rw c.in_default-word-2.ensures refl) refl (stops_note f))))
    c.choice_of-2.ensures.reads

pub returns-in-Some-clause-given : goal.returns-in-Some-clause-given
returns-in-Some-clause-given c = rw (pair_first _ _ _ c.in_ok-first.ensures) (given_compare _ _ _ c.requires.given (pair_holds _ _ _ (λ x. AreGiven (operand_leaves x.0)) c.in_ok-first.ensures c.operand_of.ensures.given))

pub returns-in-Some-word-clause-given : goal.returns-in-Some-word-clause-given
returns-in-Some-word-clause-given c = rw c.in_ok-tested.ensures.kept (given_is_null _ _ c.requires.given)
