-- An effect whose changes are sound keeps the store sound.
use Rattle.std.specs.Prelude.{List, None, Option, Some, [], fold, if◌then◌else◌, length, map, refl, slice_get, ℕ, ◌++◌, ◌+◌, ◌<◌, ◌==◌, ◌^◌, ◌∷◌, ◌≡◌}
use Rattle.std.proofs.Common.{ap, arith, length-set, subst, sym, ◌∙◌}
use Rattle.std.proofs.lemmas.Bool.{false≢true}
use Rattle.std.proofs.lemmas.List.{length-map, length_push}
use Rattle.std.proofs.lemmas.Option.{same_Some}
use Rattle.tt_plain.proofs.law.change.Names.{IsQuiet, names-push, names-with, names_back}
use Rattle.tt_plain.proofs.law.change.Tables.{keeps_dropped, keeps_regime, keeps_renamed, keeps_suspended, keeps_version, keys-map, tables-map, tables-push, tables-with, tables_later}
use Rattle.tt_plain.proofs.law.change.TallyChanges.{tally_kept, tally_later}
use Rattle.tt_plain.specs.declared.store.PlainSession.{PlainSession}
use Rattle.tt_plain.specs.declared.store.PlainTable.{PlainTable}
use Rattle.tt_plain.specs.effect.Apply.{applied, changed_point, changed_session, changed_table, renamed, with_table, with_version}
use Rattle.tt_plain.specs.effect.Effect.{Dropped, Made, NewKey, NewRegime, NewVersion, Renamed, Suspended, TableChange, Undropped}
use Rattle.tt_plain.specs.law.Changes.{AreSoundTableChanges, IsSoundTableChange, SoundEffectsKeepSound}
use Rattle.tt_plain.specs.law.Sound.{AreSoundTables, HaveOwnNames, IsKeyOf, IsSoundTable}
use Rattle.tt_plain.specs.stored.Tables.{is_live}
use Rattle.tt_retain.specs.Retention.{with_regime}

-- ---- tables

abbrev pub Stand : ℕ → List PlainTable → Type 0
Stand moment tables = AreSoundTables moment (length tables) 1 tables × HaveOwnNames tables

stand-map : (moment : ℕ) (f : PlainTable → PlainTable) (tables : List PlainTable) → AreSoundTables moment (length tables) 1 (map f tables) → HaveOwnNames (map f tables) → Stand moment (map f tables)
stand-map moment f tables sound names = (subst (λ (n : ℕ). AreSoundTables moment n 1 (map f tables)) (sym (length-map tables f)) sound, names)

stand-with : (moment number : ℕ) (f : PlainTable → PlainTable) (tables : List PlainTable) → AreSoundTables moment (length tables) 1 (with_table number f tables) → HaveOwnNames (with_table number f tables) → Stand moment (with_table number f tables)
stand-with moment number f tables sound names = stand-map moment (λ (table : PlainTable). if table.number == number then f table else table) tables sound names

quiet : (f : PlainTable → PlainTable) → ((table : PlainTable) → (f table).name ≡ table.name) → ((table : PlainTable) → is_live (f table) ≡ is_live table) → IsQuiet f
quiet f name live = record { name = name; live = λ table e. sym (live table) ∙ e }

pub change_keeps : (moment : ℕ) (tables : List PlainTable) (change : TableChange) → moment < 2 ^ 62 → Stand moment tables → IsSoundTableChange moment tables change → Stand moment (changed_table tables change)
change_keeps moment tables (Made table) time stand ok = (
  subst (λ (n : ℕ). AreSoundTables moment n 1 (tables ++ table ∷ [])) (sym (length_push tables table))
      (tables-push moment (length tables + 1) 1 tables table (tables_later moment moment (length tables) (length tables + 1) 1 tables (omega arith) (omega arith) stand.0)
      (subst (λ (n : ℕ). IsSoundTable moment (length tables + 1) n table) (omega arith) ok.0)),
  names-push tables table ok.1 stand.1,
)
change_keeps moment tables (Dropped number dropped) time stand ok =
    stand-with moment number (λ (table : PlainTable). record table { dropped = Some dropped }) tables
    (tables-with moment (length tables) number (λ (table : PlainTable). record table { dropped = Some dropped }) tables (keeps_dropped moment (length tables) (Some dropped)) stand.0)
    (names-with number (λ (table : PlainTable). record table { dropped = Some dropped }) tables (record { name = λ table. refl; live = λ table e. absurd (false≢true e) }) stand.1)
change_keeps moment tables (Undropped number) time stand ok =
    stand-with moment number (λ (table : PlainTable). record table { dropped = None }) tables
    (tables-with moment (length tables) number (λ (table : PlainTable). record table { dropped = None }) tables (keeps_dropped moment (length tables) None) stand.0)
    (names_back moment (length tables) 1 number ok.table.name tables stand.0
    (λ table place at e. ap (λ (t : PlainTable). t.name) (same_Some table ok.table (sym at ∙ ap (slice_get tables) (omega (arith, e)) ∙ ok.table_is))) ok.so stand.1)
change_keeps moment tables (Renamed names) time stand ok =
    stand-map moment (renamed names) tables (tables-map moment (length tables) 1 (renamed names) tables (keeps_renamed moment (length tables) names) stand.0) ok
change_keeps moment tables (NewVersion number begun rows) time stand ok =
    subst (λ (m : ℕ). Stand moment (with_table number (with_version m rows) tables)) (sym ok.0)
    (stand-with moment number (with_version moment rows) tables
    (tables-with moment (length tables) number (with_version moment rows) tables (keeps_version moment (length tables) rows ok.1) stand.0)
    (names-with number (with_version moment rows) tables (quiet (with_version moment rows) (λ table. refl) (λ table. refl)) stand.1))
change_keeps moment tables (NewRegime number begun days) time stand ok =
    subst (λ (m : ℕ). Stand moment (with_table number (λ (table : PlainTable). record table { regimes = with_regime table.regimes m days }) tables)) (sym ok.0)
    (stand-with moment number (λ (table : PlainTable). record table { regimes = with_regime table.regimes moment days }) tables
    (tables-with moment (length tables) number (λ (table : PlainTable). record table { regimes = with_regime table.regimes moment days }) tables (keeps_regime moment (length tables) days time ok.1) stand.0)
    (names-with number (λ (table : PlainTable). record table { regimes = with_regime table.regimes moment days }) tables
    (quiet (λ (table : PlainTable). record table { regimes = with_regime table.regimes moment days }) (λ table. refl) (λ table. refl)) stand.1))
change_keeps moment tables (NewKey number key) time stand ok =
    stand-with moment number (λ (table : PlainTable). record table { key = key }) tables
    (keys-map moment (length tables) 1 number key tables stand.0
    (λ table place at e. subst (λ (t : PlainTable). IsKeyOf t.schema key) (same_Some ok.table table (sym ok.table_is ∙ ap (slice_get tables) (omega (arith, e)) ∙ at)) ok.so))
    (names-with number (λ (table : PlainTable). record table { key = key }) tables (quiet (λ (table : PlainTable). record table { key = key }) (λ table. refl) (λ table. refl)) stand.1)
change_keeps moment tables (Suspended number suspended) time stand ok =
    stand-with moment number (λ (table : PlainTable). record table { suspended = suspended }) tables
    (tables-with moment (length tables) number (λ (table : PlainTable). record table { suspended = suspended }) tables (keeps_suspended moment (length tables) suspended) stand.0)
    (names-with number (λ (table : PlainTable). record table { suspended = suspended }) tables (quiet (λ (table : PlainTable). record table { suspended = suspended }) (λ table. refl) (λ table. refl)) stand.1)

pub changes_keep : (moment : ℕ) (tables : List PlainTable) (changes : List TableChange) → moment < 2 ^ 62 → Stand moment tables → AreSoundTableChanges moment tables changes → Stand moment (fold changed_table tables changes)
changes_keep moment tables [] time stand ok = stand
changes_keep moment tables (change ∷ changes) time stand ok =
    changes_keep moment (changed_table tables change) changes time (change_keeps moment tables change time stand ok.0) ok.1

-- ---- sessions and points stay as many

pub length-changed_session : (sessions : List PlainSession) (change : Option (ℕ × PlainSession)) → length (changed_session sessions change) ≡ length sessions
length-changed_session sessions None = refl
length-changed_session sessions (Some change) = length-set sessions change.0 change.1

length-points : (points : List (Option ℕ)) (changes : List (ℕ × ℕ)) → length (fold changed_point points changes) ≡ length points
length-points points [] = refl
length-points points (change ∷ changes) = length-points (changed_point points change) changes ∙ length-set points change.0 (Some change.1)

-- ---- the store

pub effects_keep_sound : SoundEffectsKeepSound
unfolding applied
effects_keep_sound carried program store effect sound ok =
    let now : AreSoundTables effect.moment (length store.tables) 1 store.tables = tables_later store.moment effect.moment (length store.tables) (length store.tables) 1 store.tables (omega (arith, ok.later)) (omega arith) sound.tables in
    let stand : Stand effect.moment (fold changed_table store.tables effect.tables) = changes_keep effect.moment store.tables effect.tables ok.time (now, sound.names) ok.tables in
    record {
      tables = stand.0;
      names = stand.1;
      sessions = length-changed_session store.sessions effect.session ∙ sound.sessions;
      each = ok.each;
      holders = ok.holders;
      points = length-points store.points effect.points ∙ sound.points;
      layouts = ok.paired;
      tally = tally_kept effect.moment store.tally effect.tally (tally_later store.moment effect.moment store.tally (omega (arith, ok.later)) sound.tally) ok.tally;
    }
