use Rattle.std.proofs.Common.{ap, ◌∙◌}
use Rattle.std.specs.FinMap as finite
use Rattle.tt_names.proofs.Seen.{get-seen_plain}
use Rattle.tt_names.proofs.live.Live.get.Goals as goal

pub returns : goal.returns
returns c =
    c.copied.ensures ∙ c.get.ensures.value
    ∙ get-seen_plain c.self.inside.tables c.as_str.result.now c.args.name.now c.as_str.ensures.value
    ∙ ap (λ m. finite.get m c.args.name.now) c.self.view_is
