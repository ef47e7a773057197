use Rattle.std.proofs.Common.{◌≡◌, filter, not}
use Rattle.std.specs.Prelude.{◌==◌}
use Rattle.tt_plain.specs.declared.tally.TallyPending.{TallyPending}
use Rattle.tt_model_effect.proofs.lists.end_pending.Given as goal

abbrev pub invariant-loop-lists : goal.invariant-loop-lists
invariant-loop-lists l = l.kept.items ≡ filter (λ (lists : TallyPending). not (lists.session == l.session)) l.yielded
