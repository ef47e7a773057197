use Rattle.std.proofs.Common.{◌≡◌, ◌+◌, Some, ap, sym, subst}
use Rattle.tt_script.specs.declared.script.Script.{Script}
use Rattle.tt_script.specs.Program.{span_of, text_at}
use Rattle.std.specs.Option.{option_map}
use Rattle.tt_sql.specs.asked.Request.{as_read}
use Rattle.tt_run.proofs.Texts.{next_read}
use Rattle.tt_run.proofs.run.run_next.Goals as goal

pub run_statement-requires : goal.run_statement-requires
run_statement-requires c =
    next_read c.args.cat.now c.args.session c.args.place c.in-Some.text.now (as_read c.in_ok-read.read) c.requires.idle
    (subst (λ (p : Script). Some c.in-Some.text.now ≡ option_map (text_at p) (span_of p c.args.session c.args.place)) (sym c.requires.same) c.in-Some.ensures) c.in_ok-read.ensures
