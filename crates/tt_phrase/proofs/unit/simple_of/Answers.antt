use Rattle.std.proofs.Common.{length, refl, subst}
use Rattle.tt_sql.specs.grammar.Grammar.{nowhere}
use Rattle.tt_sql.specs.marks.Expressions.{operand_marks, unit_marks}
use Rattle.tt_sql.specs.machine.Factored.{read_operand, unit_end}
use Rattle.tt_sql.specs.grammar.TokenKinds.{OPEN}
use Rattle.tt_terminal.specs.declared.rest.Rest.{Rest}
use Rattle.tt_terminal.specs.Reading.{IsWord, seen}
use Rattle.tt_phrase.proofs.Alike.{alike_passes, alike_stops}
use Rattle.tt_terminal.proofs.Exits.{exits, goes_on, turns_left, within}
use Rattle.tt_phrase.proofs.Operands.{completed, simple_alike}
use Rattle.tt_terminal.proofs.Steps.{reads_as, stops_first, word_kind_is}
use Rattle.tt_phrase.proofs.unit.simple_of.Goals as goal

pub returns-in-Some-clause-reads : goal.returns-in-Some-clause-reads
returns-in-Some-clause-reads c =
    let f = c.in-Some.ensures in
    let bracket : IsWord OPEN f.0 c.in-Some.inside = subst (λ (x : Rest). IsWord OPEN f.0 x) f.2.2 f.2.1 in
    turns_left _ _ _ _ _ _ _ _ (word_kind_is f.1) refl refl (goes_on _ _ _ _ _ _ _ _ f.1 (turns_left _ _ _ _ _ _ _ _ (word_kind_is bracket) refl refl (goes_on _ _ _ _ _ _ _ _ bracket c.starts_with_of.ensures.reads)))

pub returns-in_err-operand-clause-reads : goal.returns-in_err-operand-clause-reads
returns-in_err-operand-clause-reads c = exits _ _ _ _ _ _ c.from_residual.result c.from_residual.ensures.1
    (within (λ at f. alike_stops (simple_alike (length c.args.rest.text.now) (seen c.args.rest) c.in_default.ensures) (stops_first f)) _ c.in_err-operand.ensures.reads)

pub returns-clause-reads : goal.returns-clause-reads
returns-clause-reads c =
    let alike = simple_alike (length c.args.rest.text.now) (seen c.args.rest) c.in_default.ensures in
    reads_as (λ x. unit_marks x.0) (λ x. x.1) c.end_of.result (λ m s p. alike_passes alike p) (λ at f. alike_stops alike f)
    (completed (λ x. unit_marks x.0) (λ x. x.1) (operand_marks c.in_ok-operand.operand) (read_operand nowhere) unit_end c.args.rest c.in_ok-operand.behind c.end_of.result c.in_ok-operand.ensures.reads c.end_of.ensures.reads)
