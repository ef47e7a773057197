use Rattle.std.proofs.Common.{◌≡◌, ◌++◌, take}
use Rattle.std.specs.List.{flat_map}
use Rattle.tt_print.specs.text.Words.{spaced}
use Rattle.tt_print.specs.text.Queries.{join_words}
use Rattle.tt_print.proofs.queries.write_joins.Given as goal

abbrev pub invariant-loop-join : goal.invariant-loop-join
invariant-loop-join l = l.out.items ≡ l.initial.out.items ++ flat_map (λ join. spaced (join_words join)) (take l.join-index l.joins)
