-- The store after an effect.
use Rattle.std.specs.Prelude.{List, None, Option, Some, [], find, fold, if◌then◌else◌, map, slice_set, ℕ, ◌++◌, ◌==◌, ◌∷◌}
use Rattle.tt_value.specs.declared.value.Row.{Row}
use Rattle.tt_retain.specs.Retention.{with_regime}
use Rattle.tt_plain.specs.declared.store.Plain.{Plain}
use Rattle.tt_plain.specs.declared.store.PlainSession.{PlainSession}
use Rattle.tt_plain.specs.declared.store.PlainTable.{PlainTable}
use Rattle.tt_plain.specs.effect.Effect.{Dropped, Effect, Made, NewKey, NewRegime, NewVersion, Renamed, Suspended, TableChange, Undropped}
use Rattle.tt_plain.specs.tally.Changes.{changed_tally}

-- the table of a number changed
abbrev pub with_table : ℕ → (PlainTable → PlainTable) → List PlainTable → List PlainTable
with_table number f tables = map (λ (table : PlainTable). if table.number == number then f table else table) tables

abbrev pub with_version : ℕ → List Row → PlainTable → PlainTable
with_version moment rows table = record table { versions = table.versions ++ record { begun = moment; rows = rows } ∷ [] }

abbrev pub name_given : List ℕ → Option (ℕ × List ℕ) → List ℕ
name_given name None = name
name_given name (Some given) = given.1

-- the table with the name that is given for its number, if one is
abbrev pub renamed : List (ℕ × List ℕ) → PlainTable → PlainTable
renamed names table = record table { name = name_given table.name (find (λ given. given.0 == table.number) names) }

abbrev pub changed_table : List PlainTable → TableChange → List PlainTable
changed_table tables (Made table) = tables ++ table ∷ []
changed_table tables (Dropped number moment) = with_table number (λ table. record table { dropped = Some moment }) tables
changed_table tables (Undropped number) = with_table number (λ table. record table { dropped = None }) tables
changed_table tables (Renamed names) = map (renamed names) tables
changed_table tables (NewVersion number moment rows) = with_table number (with_version moment rows) tables
changed_table tables (NewRegime number moment days) = with_table number (λ table. record table { regimes = with_regime table.regimes moment days }) tables
changed_table tables (NewKey number key) = with_table number (λ table. record table { key = key }) tables
changed_table tables (Suspended number suspended) = with_table number (λ table. record table { suspended = suspended }) tables

abbrev pub changed_session : List PlainSession → Option (ℕ × PlainSession) → List PlainSession
changed_session sessions None = sessions
changed_session sessions (Some change) = slice_set sessions change.0 change.1

abbrev pub changed_point : List (Option ℕ) → ℕ × ℕ → List (Option ℕ)
changed_point points change = slice_set points change.0 (Some change.1)

unfoldable pub applied : Plain → Effect → Plain
applied store effect =
    record {
      moment = effect.moment;
      tables = fold changed_table store.tables effect.tables;
      sessions = changed_session store.sessions effect.session;
      points = fold changed_point store.points effect.points;
      tally = fold changed_tally store.tally effect.tally;
    }
