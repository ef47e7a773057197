-- The rows of each part: those that the entry which added it gave, as many as its facts say.
use Rattle.std.specs.Prelude.{List, None, Option, Some, [], drop, flat_map, fold, if◌then◌else◌, map, option_to_list, slice_get, take, unwrap_or, ℕ, ◌++◌, ◌-◌, ◌∷◌}
use Rattle.tt_value.specs.declared.value.Row.{Row}
use Rattle.tt_value.specs.declared.value.Schema.{Schema}
use Rattle.tt_value.specs.trees.Predicates.{takes}
use Rattle.tt_value.specs.trees.Scope.{Scope}
use Rattle.tt_script.specs.declared.script.Script.{Script}
use Rattle.tt_sql.specs.declared.change.Delete.{Delete}
use Rattle.tt_sql.specs.declared.change.Dml.{Dml}
use Rattle.tt_sql.specs.declared.change.Update.{Update}
use Rattle.tt_sql.specs.meaning.Changes.{updated_row}
use Rattle.tt_sql.specs.meaning.Scopes.{target_scope}
use Rattle.tt_history.specs.declared.history.Actor.{Actor}
use Rattle.tt_history.specs.declared.history.Added.{Added}
use Rattle.tt_history.specs.declared.history.Entry.{Entry}
use Rattle.tt_history.specs.declared.history.EntryKind.{EntryKind}
use Rattle.tt_plain.specs.declared.store.Plain.{Plain}
use Rattle.tt_plain.specs.declared.store.PlainOpen.{PlainOpen}
use Rattle.tt_plain.specs.declared.tally.TallyRound.{TallyRound}
use Rattle.tt_plain.specs.Answers.{◌>>=◌}
use Rattle.tt_plain.specs.asked.Asked.{Asked, request_asked}
use Rattle.tt_plain.specs.asked.Carried.{Carried}
use Rattle.tt_plain.specs.asked.Request.{Request, Writes}
use Rattle.tt_plain.specs.asked.Turns.{open_asked}
use Rattle.tt_plain.specs.cluster.Rebuild.{rebuilt_rows}
use Rattle.tt_plain.specs.history.Replay.{pairs_of}
use Rattle.tt_plain.specs.meaning.Outcome.{Answers, Does, Fails, Outcome, outcome_of, schema_numbered}
use Rattle.tt_history.specs.declared.history.Actor.TheVariants as actor
use Rattle.tt_sql.specs.declared.change.Dml.TheVariants as dml
use Rattle.tt_history.specs.declared.history.EntryKind.TheVariants as kind

-- ---- the contents so far, by number

abbrev pub rows_numbered : List (List Row) → ℕ → List Row
rows_numbered contents number = unwrap_or (slice_get contents (number - 1)) []

-- the rows of some parts, part by part
abbrev pub rows_of_parts : List (List Row) → List ℕ → List Row
rows_of_parts contents numbers = flat_map (rows_numbered contents) numbers

-- rows cut into pieces of these lengths
abbrev pub pieces_of_lengths : List ℕ → List Row → List (List Row)
pieces_of_lengths [] rows = []
pieces_of_lengths (n ∷ lengths) rows = take n rows ∷ pieces_of_lengths lengths (drop n rows)

-- ---- the rows that an entry adds, in order

-- a row that the statement takes is replaced or left out, and any other stays
abbrev pub row_updated : Scope → Update → Row → List Row
row_updated scope u row = if takes scope u.filter row then option_to_list (updated_row scope u.sets row) else row ∷ []

abbrev pub row_deleted : Scope → Delete → Row → List Row
row_deleted scope d row = if takes scope d.filter row then [] else row ∷ []

abbrev pub added_by_outcome : Option Outcome → List Row
added_by_outcome None = []
added_by_outcome (Some (Answers rows)) = []
added_by_outcome (Some (Does table removed added count)) = added
added_by_outcome (Some (Fails refusal)) = []

-- An INSERT and a COPY give the rows that they add, in the order of the tuples, of the answer or of the records. An UPDATE and
-- a DELETE give the rows of the parts that are gone, in their order, with the changes in them.
abbrev pub rows_of_change : List (List Row) → Asked → PlainOpen → Schema → List ℕ → Dml → List Row
rows_of_change contents asked seen schema gone (dml.Insert i) = added_by_outcome (outcome_of asked seen)
rows_of_change contents asked seen schema gone (dml.Update u) = flat_map (row_updated (target_scope u.table schema) u) (rows_of_parts contents gone)
rows_of_change contents asked seen schema gone (dml.Delete d) = flat_map (row_deleted (target_scope d.table schema) d) (rows_of_parts contents gone)
rows_of_change contents asked seen schema gone (dml.Copy c) = added_by_outcome (outcome_of asked seen)

abbrev pub rows_of_end : List (List Row) → Asked → PlainOpen → List ℕ → Request → Option (List Row)
rows_of_end contents asked seen gone (Writes d) = do
  target ← seen.target
  schema ← schema_numbered asked.store target.0
  Some (rows_of_change contents asked seen schema gone d)
rows_of_end contents asked seen gone _ = None

-- the rows of the inputs, by key and then by whole row
abbrev pub rows_of_landing : List (List Row) → List ℕ → Option TallyRound → List Row
rows_of_landing contents gone None = []
rows_of_landing contents gone (Some round) = rebuilt_rows round.key (rows_of_parts contents gone)

abbrev pub rows_by_session : Carried → Script → List (List Row) → Plain → (session index : ℕ) → EntryKind → Option (List Row)
rows_by_session carried program contents store session index (kind.End gone added) =
    open_asked carried program store session index >>= λ found. rows_of_end contents found.0 found.1 gone (request_asked found.0)
rows_by_session carried program contents store session index _ = None

abbrev pub rows_by_round : List (List Row) → Plain → EntryKind → List Row
rows_by_round contents store (kind.RecluEnd table gone added) = rows_of_landing contents gone store.tally.round
rows_by_round contents store _ = []

abbrev pub rows_by_actor : Carried → Script → List (List Row) → Plain → Entry → Actor → List Row
rows_by_actor carried program contents store entry (actor.Session session) =
    unwrap_or (rows_by_session carried program contents store session entry.index entry.kind) []
rows_by_actor carried program contents store entry actor.Recluster = rows_by_round contents store entry.kind
rows_by_actor carried program contents store entry actor.Purge = []

-- ---- all contents

abbrev pub parts_added : EntryKind → List Added
parts_added (kind.End gone added) = added
parts_added (kind.RecluEnd table gone added) = added
parts_added _ = []

-- the contents after one more entry, given the store before it
unfoldable pub contents_with : Carried → Script → List (List Row) → Plain × Entry → List (List Row)
contents_with carried program contents pair =
    contents ++ pieces_of_lengths (map (λ (part : Added). part.rows) (parts_added pair.1.kind))
    (rows_by_actor carried program contents pair.0 pair.1 pair.1.actor)

-- the rows of each part that a history adds, in the order of the numbers
unfoldable pub contents_of : Carried → Script → List Entry → List (List Row)
contents_of carried program history = fold (contents_with carried program) [] (pairs_of carried program history)
