-- What is built of a change.
use Rattle.std.specs.Prelude.{◌≡◌, ℕ, List, []}
use Rattle.tt_value.specs.declared.value.Kind.{Kind}
use Rattle.tt_value.specs.declared.value.Row.{Row}
use Rattle.tt_sql.specs.meaning.Changes.{Changed, Changes}
use Rattle.tt_partition.specs.Cuts.{cut}
use Rattle.tt_state.specs.declared.ticket.Built.{Built}

-- A change that only adds rows: no part goes, the rows come in their order, cut at the length, and each is counted.
pub record PutsIn (changed : Changed) (kinds : List Kind) (cap : ℕ) (built : Built) : Type 0 where
  pub rows : List Row
  pub change : changed ≡ Changes [] rows built.count
  pub gone : built.gone ≡ []
  pub added : built.added ≡ cut kinds cap rows
