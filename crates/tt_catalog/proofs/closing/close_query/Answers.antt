use Rattle.std.proofs.Common.{ap, ◌∙◌}
use Rattle.tt_state.specs.Moves.{with_ended}
use Rattle.tt_catalog.proofs.Refused.{unpinned_ready}
use Rattle.tt_catalog.proofs.closing.close_query.Goals as goal

pub end_statement-requires : goal.end_statement-requires
end_statement-requires c = unpinned_ready _ _ _ _ _ c.unpin.ensures c.requires

pub returns : goal.returns
returns c = c.end_statement.ensures ∙ ap (λ k. with_ended c.args.program.now k c.args.session c.args.index) c.unpin.ensures
