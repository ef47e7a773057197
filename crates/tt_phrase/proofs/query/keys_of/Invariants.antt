use Rattle.std.proofs.Common.{length, map}
use Rattle.tt_sql.specs.grammar.Written.{key}
use Rattle.tt_sql.specs.marks.Queries.{key_marks}
use Rattle.tt_phrase.proofs.Lists.{Pending}
use Rattle.tt_phrase.proofs.query.keys_of.Given as goal

abbrev pub invariant-loop-keys : goal.invariant-loop-keys
invariant-loop-keys l = Pending key l.rest (map key_marks l.keys) l.left

abbrev pub decreases-loop-keys : goal.decreases-loop-keys
decreases-loop-keys l = length l.left.tokens.now
