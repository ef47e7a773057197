-- The point of a clause: the moment at which a table is read.
use Rattle.std.specs.Int.{int_max}
use Rattle.std.specs.Prelude.{Bool, List, None, Option, Some, [], bytes_eq, filter_map, fold, if◌then◌else◌, map, neg_ℤ, option_and_then, option_map, pos, position, slice_get, ℕ, ℤ, ◌*ℤ◌, ◌*◌, ◌+ℤ◌, ◌-ℤ◌, ◌==◌, ◌∷◌}
use Rattle.tt_value.specs.declared.name.Number.{Number}
use Rattle.tt_script.specs.declared.script.Script.{Script}
use Rattle.tt_sql.specs.declared.change.Dml.{Dml}
use Rattle.tt_sql.specs.declared.change.InsertSource.{InsertSource}
use Rattle.tt_sql.specs.declared.query.Clause.{Clause}
use Rattle.tt_sql.specs.declared.query.Join.{Join}
use Rattle.tt_sql.specs.declared.query.Moment.{Moment}
use Rattle.tt_sql.specs.declared.query.Offset.{Offset}
use Rattle.tt_sql.specs.declared.query.Query.{Query}
use Rattle.tt_sql.specs.declared.query.Side.{Side}
use Rattle.tt_sql.specs.declared.query.Source.{Source}
use Rattle.tt_plain.specs.declared.store.PlainTable.{PlainTable}
use Rattle.tt_plain.specs.Answers.{◌>>=◌}
use Rattle.tt_plain.specs.asked.Asked.{Asked, request_asked, table_asked}
use Rattle.tt_plain.specs.asked.Request.{Clones, Defines, Explains, Reads, Request, Tells, Writes}
use Rattle.tt_plain.specs.stored.Points.{no_point_yet, query_ids}
use Rattle.tt_sql.specs.declared.change.Dml.TheVariants as dml
use Rattle.tt_sql.specs.declared.query.Moment.TheVariants as moment
use Rattle.tt_sql.specs.declared.query.Side.TheVariants as side
use Rattle.tt_sql.specs.declared.change.InsertSource.TheVariants as source

-- A statement's text may name no statement that has an entry, or one that has no point yet.
pub data Point : Type 0 where
  At : ℤ → Point
  NoStatement : Point
  NotEnded : Point

-- BEFORE asks for the moment before, and a point below 0 is -1
abbrev pub on_side : Side → ℤ → Point
on_side side.At x = At (int_max (neg_ℤ (pos 1)) x)
on_side side.Before x = At (int_max (neg_ℤ (pos 1)) (x -ℤ pos 1))

abbrev pub signed : (negative : Bool) → ℕ → ℤ
signed negative n = if negative then neg_ℤ (pos n) else pos n

-- in seconds
abbrev pub offset_of : Offset → ℤ
offset_of offset = signed offset.negative (fold (λ product (factor : Number). product * factor.value) 1 offset.factors)

-- what a statement's point is, of what stands at its place
abbrev pub point_at : Side → Option (Option ℕ) → Point
point_at s None = NoStatement
point_at s (Some None) = NoStatement
point_at s (Some (Some point)) = if point == no_point_yet then NotEnded else on_side s (pos point)

-- the point of the statement whose query id the text is
abbrev pub point_of_id : Script → List (Option ℕ) → Side → List ℕ → Point
point_of_id program points s text =
    point_at s (option_and_then (slice_get points) (position (λ id. bytes_eq id text) (query_ids program)))

abbrev pub point_of_moment : Asked → Side → Moment → Point
point_of_moment asked s (moment.Timestamp x) = on_side s x
point_of_moment asked s (moment.Offset offset) = on_side s (pos asked.moment +ℤ pos 1000 *ℤ offset_of offset)
point_of_moment asked s (moment.Statement id) = point_of_id asked.program asked.store.points s id.text

unfoldable pub point_of : Asked → Clause → Point
point_of asked clause = point_of_moment asked clause.side clause.moment

-- ---- the clauses of a statement

abbrev pub query_sources : Query → List Source
query_sources q = q.first ∷ map (λ (join : Join). join.source) q.joins

abbrev pub inserted_sources : InsertSource → List Source
inserted_sources (source.Values tuples) = []
inserted_sources (source.Query q) = query_sources q

abbrev pub change_sources : Dml → List Source
change_sources (dml.Insert i) = inserted_sources i.source
change_sources (dml.Update u) = []
change_sources (dml.Delete d) = []
change_sources (dml.Copy c) = []

-- the tables that are read, each with its clause if it has one
abbrev pub sources_in : Request → List Source
sources_in (Reads q) = query_sources q
sources_in (Writes d) = change_sources d
sources_in (Defines (Clones c)) = c.source ∷ []
sources_in (Tells (Explains q)) = query_sources q
sources_in _ = []

-- the points of all clauses, in order
abbrev pub points_asked : Asked → List Point
points_asked asked = filter_map (λ (s : Source). option_map (point_of asked) s.clause) (sources_in (request_asked asked))

abbrev pub moment_at : Point → Option ℤ
moment_at (At x) = Some x
moment_at NoStatement = None
moment_at NotEnded = None

-- a table that is read at a point
abbrev pub travel_of : Asked → Source → Option (PlainTable × ℤ)
travel_of asked s = do
  table ← table_asked asked s.table
  clause ← s.clause
  x ← moment_at (point_of asked clause)
  Some (table, x)

abbrev pub travels_asked : Asked → List (PlainTable × ℤ)
travels_asked asked = filter_map (travel_of asked) (sources_in (request_asked asked))
