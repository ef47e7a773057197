use Rattle.std.proofs.Common.{ap, ◌∙◌}
use Rattle.tt_names.specs.ByName.{drops_of}
use Rattle.tt_names.proofs.Seen.{drops_at, drops_none}
use Rattle.tt_names.proofs.dropped.Dropped.get.Goals as goal

pub returns-in-Some : goal.returns-in-Some
returns-in-Some c =
    c.as_slice.ensures.value
    ∙ drops_at (λ list. list.items) c.self.inside.lists c.as_str.result.now c.args.name.now _ c.as_str.ensures.value c.in-Some.ensures.value
    ∙ ap (drops_of c.args.name.now) c.self.view_is

pub returns-in-None : goal.returns-in-None
returns-in-None c =
    drops_none (λ list. list.items) c.self.inside.lists c.as_str.result.now c.args.name.now c.as_str.ensures.value c.in-None.ensures.value
    ∙ ap (drops_of c.args.name.now) c.self.view_is
