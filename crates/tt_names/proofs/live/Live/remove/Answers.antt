use Rattle.std.proofs.Common.{ap, ◌∙◌}
use Rattle.std.specs.FinMap as finite
use Rattle.tt_names.proofs.Seen.{seen-remove_at}
use Rattle.tt_names.proofs.live.Live.remove.Goals as goal

pub returns : goal.returns
returns c =
    seen-remove_at (λ table. table) c.self.inside.tables c.remove.new.self c.as_str.result.now c.args.name.now
    c.as_str.ensures.value c.remove.ensures.updates
    ∙ ap (λ m. finite.remove m c.args.name.now) c.self.view_is
