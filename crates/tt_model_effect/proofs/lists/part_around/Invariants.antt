use Rattle.std.proofs.Common.{◌≡◌, filter}
use Rattle.tt_plain.specs.tally.Changes.{stands_before}
use Rattle.tt_model_effect.proofs.lists.part_around.Given as goal

abbrev pub invariant-loop-other : goal.invariant-loop-other
invariant-loop-other l =
    (l.parted.before.items ≡ filter (λ other. stands_before other l.lists) l.yielded)
    × (l.parted.behind.items ≡ filter (λ other. stands_before l.lists other) l.yielded)
