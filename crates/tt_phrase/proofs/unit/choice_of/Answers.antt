use Rattle.std.proofs.Common.{[], ◌∷◌, ◌++◌, map, refl, sym, ◌∙◌, append_assoc}
use Rattle.tt_sql.specs.grammar.Grammar.{Way}
use Rattle.tt_sql.specs.trees.Lists.{IsListed}
use Rattle.tt_value.specs.values.RowText.{IsPrintableValue}
use Rattle.tt_phrase.specs.Predicates.{bounds_marks}
use Rattle.tt_sql.specs.marks.Expressions.{flag_marks, listed_marks, literal_marks, operand_marks}
use Rattle.tt_sql.proofs.marks.Expressions.{marks-Between, marks-In}
use Rattle.tt_terminal.proofs.Exits.{within}
use Rattle.tt_terminal.proofs.Pairs.{pair_first, pair_holds, pair_reads}
use Rattle.tt_phrase.proofs.Operands.{completes_exit}
use Rattle.tt_terminal.proofs.Steps.{passes_as, passes_left, passes_right, passes_word, stops_first, stops_left, stops_right, stops_word, word_kind_is}
use Rattle.tt_phrase.proofs.GivenTrees.{given_between, given_in}
use Rattle.tt_phrase.proofs.unit.choice_of.Goals as goal

pub returns-in_err-tested-clause-reads : goal.returns-in_err-tested-clause-reads
returns-in_err-tested-clause-reads c = completes_exit _ _ _ _ _ _ c.from_residual.result c.from_residual.ensures.1
    (within (λ at f. stops_left (word_kind_is c.in-Some.ensures) refl refl (stops_word c.in-Some.ensures (stops_first f))) _ (pair_reads _ _ _ (λ x. listed_marks (map literal_marks x.0)) _ _ c.in_err-tested.ensures c.bracketed_literals.ensures.reads))

pub returns-in-Some-clause-reads : goal.returns-in-Some-clause-reads
returns-in-Some-clause-reads c =
    let a = operand_marks c.args.operand in
    let ls = listed_marks (map literal_marks c.in_ok-tested.literals) in
    rw (pair_first _ _ _ c.in_ok-tested.ensures) (
      ls ++ Way 4 ∷ [],
      marks-In _ _ _ ∙ sym (append_assoc a (flag_marks c.args.negated) (ls ++ Way 4 ∷ [])),
      passes_left (word_kind_is c.in-Some.ensures) refl refl (passes_word c.in-Some.ensures (passes_as (pair_reads _ _ _ (λ x. listed_marks (map literal_marks x.0)) _ _ c.in_ok-tested.ensures c.bracketed_literals.ensures.reads))),
    )

pub returns-in_err-tested-2-clause-reads : goal.returns-in_err-tested-2-clause-reads
returns-in_err-tested-2-clause-reads c = completes_exit _ _ _ _ _ _ c.from_residual-in_err-tested-2.result c.from_residual-in_err-tested-2.ensures.1
    (within (λ at f. stops_right (rw c.in_default.ensures refl) refl f) _ (pair_reads _ _ _ (λ x. bounds_marks x.0) _ _ c.in_err-tested-2.ensures c.bounds_of.ensures.reads))

pub returns-clause-reads : goal.returns-clause-reads
returns-clause-reads c =
    let a = operand_marks c.args.operand in
    let ends = bounds_marks c.in_ok-tested-2.bounds in
    rw (pair_first _ _ _ c.in_ok-tested-2.ensures) (
      ends,
      marks-Between _ _ _ _ ∙ sym (append_assoc a (flag_marks c.args.negated) ends),
      passes_right (rw c.in_default.ensures refl) refl (pair_reads _ _ _ (λ x. bounds_marks x.0) _ _ c.in_ok-tested-2.ensures c.bounds_of.ensures.reads),
    )

pub returns-in-Some-clause-given : goal.returns-in-Some-clause-given
returns-in-Some-clause-given c = rw (pair_first _ _ _ c.in_ok-tested.ensures) (given_in _ _ _ c.requires.given (pair_holds _ _ _ (λ x. IsListed (λ l. IsPrintableValue l.value) x.0) c.in_ok-tested.ensures c.bracketed_literals.ensures.given))

pub returns-clause-given : goal.returns-clause-given
returns-clause-given c = rw (pair_first _ _ _ c.in_ok-tested-2.ensures) (given_between _ _ _ _ c.requires.given
    (pair_holds _ _ _ (λ x. IsPrintableValue x.0.0.value) c.in_ok-tested-2.ensures c.bounds_of.ensures.least)
    (pair_holds _ _ _ (λ x. IsPrintableValue x.0.1.value) c.in_ok-tested-2.ensures c.bounds_of.ensures.greatest))
