-- What is built of rows that are put in.
use Rattle.std.proofs.Common.{◌≡◌, ℕ, List, [], length, ap, sym, ◌∙◌}
use Rattle.std.specs.Prelude.{IfOk, Result, Ok, Err}
use Rattle.tt_value.specs.declared.value.Kind.{Kind}
use Rattle.tt_value.specs.declared.value.Row.{Row}
use Rattle.tt_sql.specs.meaning.Changes.{Changed, Changes}
use Rattle.tt_partition.specs.Cuts.{cut}
use Rattle.tt_state.specs.declared.ticket.Built.{Built}
use Rattle.tt_change.specs.Builds.{PutsIn}

pub puts_in : {E : Type 0} (changed : Changed) (kinds : List Kind) (cap : ℕ) (rows : List Row) (result : Result Built E) → changed ≡ Changes [] rows (length rows) → IfOk result (λ built. built.gone ≡ []) → IfOk result (λ built. built.added ≡ cut kinds cap rows) → IfOk result (λ built. built.count ≡ length rows) → IfOk result (PutsIn changed kinds cap)
puts_in changed kinds cap rows (Ok built) is gone added count = record { rows = rows; change = is ∙ ap (Changes [] rows) (sym count); gone = gone; added = added }
puts_in changed kinds cap rows (Err e) is gone added count = tt
