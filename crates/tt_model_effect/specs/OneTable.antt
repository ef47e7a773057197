-- What a change is for one table, given that it makes none.
use Rattle.std.specs.Prelude.{Bool, None, Option, Some, ℕ, ◌==◌, true, if◌then◌else◌}
use Rattle.tt_plain.specs.declared.store.PlainTable.{PlainTable}
use Rattle.tt_retain.specs.Retention.{with_regime}
use Rattle.tt_plain.specs.effect.Apply.{renamed, with_version}
use Rattle.tt_plain.specs.effect.Effect.{Dropped, Made, NewKey, NewRegime, NewVersion, Renamed, Suspended, TableChange, Undropped}

-- the number of the one table that the change is on; none where it is on each
abbrev pub number_in : TableChange → Option ℕ
number_in (Made made) = None
number_in (Dropped number moment) = Some number
number_in (Undropped number) = Some number
number_in (Renamed names) = None
number_in (NewVersion number moment rows) = Some number
number_in (NewRegime number moment days) = Some number
number_in (NewKey number key) = Some number
number_in (Suspended number suspended) = Some number

abbrev pub is_of : Option ℕ → PlainTable → Bool
is_of None table = true
is_of (Some number) table = table.number == number

abbrev pub is_on : TableChange → PlainTable → Bool
is_on change table = is_of (number_in change) table

-- the table that the change is on, afterwards
abbrev pub changed_this : TableChange → PlainTable → PlainTable
changed_this (Made made) table = table
changed_this (Dropped number moment) table = record table { dropped = Some moment }
changed_this (Undropped number) table = record table { dropped = None }
changed_this (Renamed names) table = renamed names table
changed_this (NewVersion number moment rows) table = with_version moment rows table
changed_this (NewRegime number moment days) table = record table { regimes = with_regime table.regimes moment days }
changed_this (NewKey number key) table = record table { key = key }
changed_this (Suspended number suspended) table = record table { suspended = suspended }

abbrev pub changed_one : TableChange → PlainTable → PlainTable
changed_one change table = if is_on change table then changed_this change table else table
