-- What the facts of entries have to be, beside what makes them allowed: cuts at the length that is given, only parts with a
-- matching row replaced, and rounds as they are picked.
use Rattle.std.specs.List.{list_any}
use Rattle.std.specs.Prelude.{All, Bool, List, None, Option, Some, [], filter, flat_map, map, nat_le, true, unwrap_or, ℕ, ⊤, ◌&&◌, ◌++◌, ◌==◌, ◌∷◌, ◌≡◌}
use Rattle.tt_value.specs.declared.predicate.Predicate.{Predicate}
use Rattle.tt_value.specs.declared.value.Row.{Row}
use Rattle.tt_value.specs.declared.value.Schema.{Schema}
use Rattle.tt_value.specs.trees.Predicates.{takes}
use Rattle.tt_value.specs.trees.Scope.{Scope}
use Rattle.tt_script.specs.declared.script.Script.{Script}
use Rattle.tt_sql.specs.declared.change.Dml.{Dml}
use Rattle.tt_sql.specs.meaning.Scopes.{target_scope}
use Rattle.tt_history.specs.declared.history.Actor.{Actor}
use Rattle.tt_history.specs.declared.history.Added.{Added}
use Rattle.tt_history.specs.declared.history.Entry.{Entry}
use Rattle.tt_history.specs.declared.history.EntryKind.{EntryKind}
use Rattle.tt_plain.specs.declared.store.Plain.{Plain}
use Rattle.tt_plain.specs.declared.store.PlainOpen.{PlainOpen}
use Rattle.tt_plain.specs.declared.tally.Tally.{Tally}
use Rattle.tt_plain.specs.declared.tally.TallyPin.{TallyPin}
use Rattle.tt_plain.specs.Answers.{◌>>=◌}
use Rattle.tt_plain.specs.asked.Asked.{Asked, request_asked}
use Rattle.tt_plain.specs.asked.Carried.{Carried}
use Rattle.tt_plain.specs.asked.Request.{Request, Writes}
use Rattle.tt_plain.specs.asked.Turns.{open_asked}
use Rattle.tt_plain.specs.cluster.Wanted.{round_wanted}
use Rattle.tt_plain.specs.history.Contents.{contents_of, parts_added, rows_numbered}
use Rattle.tt_plain.specs.history.Replay.{store_after}
use Rattle.tt_plain.specs.meaning.Outcome.{schema_numbered}
use Rattle.tt_history.specs.declared.history.Actor.TheVariants as actor
use Rattle.tt_sql.specs.declared.change.Dml.TheVariants as dml
use Rattle.tt_history.specs.declared.history.EntryKind.TheVariants as kind

-- every part but the last has so many rows, and the last at most as many
abbrev pub is_cut_at : ℕ → List ℕ → Bool
is_cut_at cap [] = true
is_cut_at cap (rows ∷ []) = nat_le 1 rows && nat_le rows cap
is_cut_at cap (rows ∷ next ∷ lengths) = rows == cap && is_cut_at cap (next ∷ lengths)

abbrev pub is_entry_cut_at : ℕ → Entry → Bool
is_entry_cut_at cap entry = is_cut_at cap (map (λ (part : Added). part.rows) (parts_added entry.kind))

-- the parts that a session's open statement pins of a table
abbrev pub parts_pinned : Tally → (session table : ℕ) → List ℕ
parts_pinned tally session table =
    flat_map (λ (pin : TallyPin). pin.parts) (filter (λ (pin : TallyPin). pin.session == session && pin.table == table) tally.pins)

-- of the pinned parts those that hold a row which the statement takes
abbrev pub parts_touched : List (List Row) → Asked → ℕ → Scope → Option Predicate → List ℕ
parts_touched contents asked table scope wanted =
    filter (λ number. list_any (takes scope wanted) (rows_numbered contents number)) (parts_pinned asked.store.tally asked.session table)

abbrev pub parts_to_replace : List (List Row) → Asked → ℕ → Schema → Dml → List ℕ
parts_to_replace contents asked table schema (dml.Insert i) = []
parts_to_replace contents asked table schema (dml.Update u) = parts_touched contents asked table (target_scope u.table schema) u.filter
parts_to_replace contents asked table schema (dml.Delete d) = parts_touched contents asked table (target_scope d.table schema) d.filter
parts_to_replace contents asked table schema (dml.Copy c) = []

abbrev pub replaced_by : List (List Row) → Asked → PlainOpen → Request → Option (List ℕ)
replaced_by contents asked seen (Writes d) = do
  target ← seen.target
  schema ← schema_numbered asked.store target.0
  Some (parts_to_replace contents asked target.0 schema d)
replaced_by contents asked seen _ = None

-- the parts that the end of an open statement has to remove
abbrev pub parts_to_remove : Carried → Script → List (List Row) → Plain → Entry → Actor → Option (List ℕ)
parts_to_remove carried program contents store entry (actor.Session session) =
    open_asked carried program store session entry.index >>= λ found. replaced_by contents found.0 found.1 (request_asked found.0)
parts_to_remove carried program contents store entry actor.Recluster = None
parts_to_remove carried program contents store entry actor.Purge = None

-- an end of a change removes these parts, and no other
abbrev pub RemovesTouched : Carried → Script → List (List Row) → Plain → Entry → EntryKind → Type 0
RemovesTouched carried program contents store entry (kind.End gone added) =
    gone ≡ unwrap_or (parts_to_remove carried program contents store entry entry.actor) []
RemovesTouched carried program contents store entry _ = ⊤

-- a round takes what is picked
abbrev pub TakesPick : List (List Row) → Plain → EntryKind → Type 0
TakesPick contents store (kind.RecluStart table parts) = round_wanted contents store ≡ Some (table, parts)
TakesPick contents store _ = ⊤

-- each end of a change of the history removes just the parts that it touches
abbrev pub EachRemovesTouched : Carried → Script → List Entry → Type 0
EachRemovesTouched carried program history =
    (before : List Entry) (entry : Entry) (later : List Entry) → history ≡ before ++ entry ∷ later →
    RemovesTouched carried program (contents_of carried program before) (store_after carried program before) entry entry.kind

-- what is so of each entry, after those before it; what the bytes of parts and the numbers of reports are, images say
pub record HasTrueFacts (carried : Carried) (program : Script) (cap : ℕ) (history : List Entry) : Type 0 where
  pub cut : All (λ entry. is_entry_cut_at cap entry ≡ true) history
  pub removed : EachRemovesTouched carried program history
  pub picked : (before : List Entry) (entry : Entry) (later : List Entry) → history ≡ before ++ entry ∷ later →
      TakesPick (contents_of carried program before) (store_after carried program before) entry.kind
