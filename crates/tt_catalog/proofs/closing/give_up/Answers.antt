use Rattle.std.proofs.Common.{ap, ◌∙◌}
use Rattle.tt_catalog.specs.Ends.{with_answered}
use Rattle.tt_catalog.proofs.Refused.{released_ready}
use Rattle.tt_catalog.proofs.closing.give_up.Goals as goal

pub close_query-requires : goal.close_query-requires
close_query-requires c = released_ready _ _ _ _ _ c.release.ensures c.requires

pub returns : goal.returns
returns c = c.close_query.ensures ∙ ap (λ k. with_answered c.args.program.now k c.args.session c.args.index) c.release.ensures
