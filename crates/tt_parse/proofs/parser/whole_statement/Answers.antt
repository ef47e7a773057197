use Rattle.std.proofs.Common.{◌≡◌, ◌==◌, ◌∙◌, List, [], length, map, Err, sym, ap, true≢false}
use Rattle.std.proofs.lemmas.Bool.{eqb-true}
use Rattle.std.proofs.lemmas.List.{nil_from_length}
use Rattle.tt_terminal.specs.declared.rest.Lexed.{Lexed}
use Rattle.tt_sql.specs.machine.Reading.{read_run}
use Rattle.tt_terminal.specs.Reading.{seen, first_place}
use Rattle.tt_parse.proofs.Statements.{says_exit, says_behind}
use Rattle.tt_parse.proofs.Whole.{says_goes}
use Rattle.tt_parse.proofs.parser.whole_statement.Goals as goal

pub returns-in_err-statement-clause-says : goal.returns-in_err-statement-clause-says
returns-in_err-statement-clause-says c = says_exit 256 c.args.rest _ c.from_residual.result c.from_residual.ensures.1 c.in_err-statement.ensures.reads

pub returns-then-is_empty-clause-says : goal.returns-then-is_empty-clause-says
returns-then-is_empty-clause-says c =
    let none : c.in_ok-statement.rest.tokens.now ≡ [] = nil_from_length c.in_ok-statement.rest.tokens.now (eqb-true (length c.in_ok-statement.rest.tokens.now) 0 (sym c.if-is_empty.ensures)) in
    says_goes c.in_ok-statement.ensures.reads (ap (map _) none)

pub returns-else-is_empty-clause-says : goal.returns-else-is_empty-clause-says
returns-else-is_empty-clause-says c =
    let at : read_run 256 (length c.args.rest.text.now) (seen c.args.rest) ≡ Err (first_place c.in_ok-statement.rest) = says_behind c.in_ok-statement.ensures.reads (λ e. true≢false (sym (ap (λ (ls : List Lexed). length ls == 0) e) ∙ sym c.if-is_empty.ensures)) in
    rw c.fault.ensures at
