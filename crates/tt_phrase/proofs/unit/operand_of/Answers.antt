use Rattle.std.proofs.Common.{◌≡◌, false}
use Rattle.tt_sql.specs.grammar.Grammar.{is_of}
use Rattle.tt_sql.specs.grammar.TokenKinds.{NAME, is_name}
use Rattle.tt_terminal.specs.Reading.{IsName, first_kind}
use Rattle.tt_terminal.proofs.Exits.{exits, within}
use Rattle.tt_phrase.proofs.Operands.{no_operand, operand_column, operand_day, operand_literal}
use Rattle.tt_terminal.proofs.Steps.{stops_first}
use Rattle.tt_phrase.proofs.unit.operand_of.Goals as goal

pub returns-in-Some-clause-reads : goal.returns-in-Some-clause-reads
returns-in-Some-clause-reads c = operand_day c.in-Some.ensures

pub returns-in-Some-2-clause-reads : goal.returns-in-Some-2-clause-reads
returns-in-Some-2-clause-reads c =
    let is : IsName c.args.rest c.in-Some-2.name c.in-Some-2.behind = rw c.in-Some-2.is at c.in_ok-name.ensures in
    operand_column c.in_default.ensures is

pub returns-in_err-literal-clause-reads : goal.returns-in_err-literal-clause-reads
returns-in_err-literal-clause-reads c =
    let none : is_of NAME is_name (first_kind c.args.rest) ≡ false = rw c.in_default-2.is at c.in_ok-name.ensures in
    exits _ _ _ _ _ _ c.from_residual-in_err-literal.result c.from_residual-in_err-literal.ensures.1 (within (λ at f. no_operand none (stops_first f)) _ c.in_err-literal.ensures.reads)

pub returns-clause-reads : goal.returns-clause-reads
returns-clause-reads c =
    let none : is_of NAME is_name (first_kind c.args.rest) ≡ false = rw c.in_default-2.is at c.in_ok-name.ensures in
    operand_literal none c.in_ok-literal.ensures.reads

pub returns-in-Some-clause-given : goal.returns-in-Some-clause-given
returns-in-Some-clause-given c = (c.in-Some.ensures.given, tt)

pub returns-in-Some-2-clause-given : goal.returns-in-Some-2-clause-given
returns-in-Some-2-clause-given c = tt

pub returns-clause-given : goal.returns-clause-given
returns-clause-given c = (c.in_ok-literal.ensures.given, tt)
