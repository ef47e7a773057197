-- What holds of each store to which a legal history leads.
use Rattle.std.specs.List.{list_any}
use Rattle.std.specs.Prelude.{Bool, List, None, Option, Some, [], false, filter, length, not, option_map, option_to_list, slice_get, true, ℕ, ⊤, ◌&&◌, ◌+◌, ◌-◌, ◌<◌, ◌==◌, ◌^◌, ◌||◌, ◌∷◌, ◌≡◌, ◌≢◌, ◌≤◌}
use Rattle.tt_history.specs.declared.history.Entry.{Entry}
use Rattle.tt_layout.specs.Chain.{AreLayouts}
use Rattle.tt_layout.specs.Numbers.{IsAscending}
use Rattle.tt_plain.specs.ValueKinds.{IsFoundByName}
use Rattle.tt_plain.specs.asked.Carried.{Carried}
use Rattle.tt_plain.specs.asked.Request.{Reads, request_of}
use Rattle.tt_plain.specs.asked.Turns.{statement_read}
use Rattle.tt_plain.specs.declared.store.Plain.{Plain}
use Rattle.tt_plain.specs.declared.store.PlainMark.{PlainMark}
use Rattle.tt_plain.specs.declared.store.PlainOpen.{PlainOpen}
use Rattle.tt_plain.specs.declared.store.PlainPending.{PlainPending}
use Rattle.tt_plain.specs.declared.store.PlainSession.{PlainSession}
use Rattle.tt_plain.specs.declared.store.PlainTable.{PlainTable}
use Rattle.tt_plain.specs.declared.store.Version.{Version}
use Rattle.tt_plain.specs.declared.tally.Tally.{Tally}
use Rattle.tt_plain.specs.declared.tally.TallyPart.{TallyPart}
use Rattle.tt_plain.specs.declared.tally.TallyPending.{TallyPending}
use Rattle.tt_plain.specs.declared.tally.TallyPin.{TallyPin}
use Rattle.tt_plain.specs.history.Replay.{Run, replay_of}
use Rattle.tt_plain.specs.law.Lists.{EachTwo, Every}
use Rattle.tt_plain.specs.refusal.ClockEnd.{last_moment}
use Rattle.tt_plain.specs.stored.Points.{query_ids}
use Rattle.tt_plain.specs.stored.Sessions.{has_exclusive_mark}
use Rattle.tt_plain.specs.stored.Tables.{is_live}
use Rattle.tt_plain.specs.tally.Changes.{stands_before}
use Rattle.tt_plain.specs.tally.Facts.{round_parts}
use Rattle.tt_retain.specs.Retention.{IsRetention, last_begun, made_of}
use Rattle.tt_script.specs.declared.script.Script.{Script}
use Rattle.tt_sql.specs.declared.query.Query.{Query}
use Rattle.tt_value.specs.declared.value.Row.{Row}
use Rattle.tt_value.specs.declared.value.Schema.{Schema}
use Rattle.tt_value.specs.values.Bags.{IsBag}
use Rattle.tt_layout.specs.Chain as chain

-- ---- tables

-- versions are bags, begin one after the other, and none after the moment
abbrev pub FollowFrom : ℕ → ℕ → List Version → Type 0
FollowFrom begun moment [] = begun ≤ moment
FollowFrom begun moment (version ∷ versions) = (begun ≤ version.begun) × IsBag version.rows × FollowFrom version.begun moment versions

abbrev pub IsKeyOf : Schema → Option ℕ → Type 0
IsKeyOf schema None = ⊤
IsKeyOf schema (Some key) = key < length schema.columns

-- the regimes are in order, from the making on, and the last has begun
pub record AreRegimesOf (moment : ℕ) (table : PlainTable) : Type 0 where
  pub kind : table.regimes.transient ≡ table.transient
  pub made : made_of table.regimes ≡ table.made
  pub order : IsRetention table.regimes
  pub begun : last_begun table.regimes ≤ moment

pub record IsSoundTable (moment count number : ℕ) (table : PlainTable) : Type 0 where
  pub numbered : table.number ≡ number
  pub group : (1 ≤ table.group) × (table.group ≤ count)
  pub regimes : AreRegimesOf moment table
  pub columns : IsFoundByName table.schema
  pub key : IsKeyOf table.schema table.key
  pub versions : FollowFrom table.made moment table.versions
  pub some : table.versions ≢ []

abbrev pub AreSoundTables : (moment count number : ℕ) → List PlainTable → Type 0
AreSoundTables moment count number [] = ⊤
AreSoundTables moment count number (table ∷ tables) = IsSoundTable moment count number table × AreSoundTables moment count (number + 1) tables

-- no two live tables have one name
abbrev pub HaveOwnNames : List PlainTable → Type 0
HaveOwnNames tables = EachTwo (λ (a b : PlainTable). a.name ≢ b.name) (filter is_live tables)

-- ---- sessions

abbrev pub AscendBy : {A : Type 0} → (A → ℕ) → List A → Type 0
AscendBy key items = EachTwo (λ a b. key a < key b) items

-- the table of a number is there, and something holds of it
pub record IsThere (tables : List PlainTable) (number : ℕ) (P : PlainTable → Type 0) : Type 0 where
  pub table : PlainTable
  pub from_one : 1 ≤ number
  pub table_is : slice_get tables (number - 1) ≡ Some table
  pub so : P table

-- a marked table is live
abbrev pub IsSoundMark : List PlainTable → PlainMark → Type 0
IsSoundMark tables mark = IsThere tables mark.table (λ table. table.dropped ≡ None)

-- rows of one of so many tables are a bag
abbrev pub AreRowsOf : ℕ → ℕ × List Row → Type 0
AreRowsOf count seen = (1 ≤ seen.0) × (seen.0 ≤ count) × IsBag seen.1

abbrev pub IsSoundPending : ℕ → PlainPending → Type 0
IsSoundPending count pending = AreRowsOf count (pending.table, pending.gone) × IsBag pending.added

-- a mark that is at least as strong, on the same table
abbrev pub is_kept_by : PlainMark → PlainMark → Bool
is_kept_by mark other = other.table == mark.table && (other.exclusive || not mark.exclusive)

-- each of the earlier marks is among those now, or a stronger one
abbrev pub AreKept : List PlainMark → List PlainMark → Type 0
AreKept before marks = Every (λ (mark : PlainMark). list_any (is_kept_by mark) marks ≡ true) before

-- The open statement is the one behind those that are done, and sees bags of tables that there are. The marks before it are kept,
-- outside a transaction there were none, and a query puts none.
pub record IsSoundOpen (carried : Carried) (program : Script) (count session : ℕ) (state : PlainSession) (seen : PlainOpen) : Type 0 where
  pub counted : seen.index ≡ state.done + 1
  pub sources : Every (AreRowsOf count) seen.sources
  pub target : Every (AreRowsOf count) (option_to_list seen.target)
  pub before : AscendBy (λ (mark : PlainMark). mark.table) seen.marks_before
  pub kept : AreKept seen.marks_before state.marks
  pub alone : state.transaction ≡ false → seen.marks_before ≡ []
  pub query : (q : Query) → option_map request_of (statement_read carried program session seen.index) ≡ Some (Reads q) → state.marks ≡ seen.marks_before

pub record IsSoundSession (carried : Carried) (program : Script) (tables : List PlainTable) (session : ℕ) (state : PlainSession) : Type 0 where
  pub pending : AscendBy (λ (pending : PlainPending). pending.table) state.pending
  pub rows : Every (IsSoundPending (length tables)) state.pending
  pub marks : AscendBy (λ (mark : PlainMark). mark.table) state.marks
  pub marked : Every (IsSoundMark tables) state.marks
  pub running : (seen : PlainOpen) → state.running ≡ Some seen → IsSoundOpen carried program (length tables) session state seen
  pub closed : state.transaction ≡ false → state.pending ≡ []
  pub unmarked : state.transaction ≡ false → state.running ≡ None → state.marks ≡ []

abbrev pub AreSoundSessions : Carried → Script → List PlainTable → List PlainSession → Type 0
AreSoundSessions carried program tables sessions =
    (session : ℕ) (state : PlainSession) → slice_get sessions session ≡ Some state → IsSoundSession carried program tables session state

-- at most one session has an exclusive mark on a table
abbrev pub HaveOneHolder : List PlainSession → ℕ → Type 0
HaveOneHolder sessions table = (a b : ℕ) (first second : PlainSession) → slice_get sessions a ≡ Some first → slice_get sessions b ≡ Some second →
    has_exclusive_mark table first ≡ true → has_exclusive_mark table second ≡ true → a ≡ b

-- ---- the tally

abbrev pub AreNumberedParts : ℕ → List TallyPart → Type 0
AreNumberedParts number [] = ⊤
AreNumberedParts number (part ∷ parts) = (part.number ≡ number) × AreNumberedParts (number + 1) parts

-- a table's layouts are in order, and the last has begun
abbrev pub AreSoundLayouts : ℕ → List (ℕ × List ℕ) → Type 0
AreSoundLayouts moment layouts = AreLayouts layouts × (chain.last_begun layouts ≤ moment)

abbrev pub AreSoundLists : TallyPending → Type 0
AreSoundLists lists = IsAscending lists.gone × IsAscending lists.added

-- parts are numbered, and each list of part numbers ascends
pub record IsSoundTally (moment : ℕ) (tally : Tally) : Type 0 where
  pub numbered : AreNumberedParts 1 tally.parts
  pub layouts : Every (AreSoundLayouts moment) tally.layouts
  pub pending : EachTwo (λ (a b : TallyPending). stands_before a b ≡ true) tally.pending
  pub lists : Every AreSoundLists tally.pending
  pub pins : Every (λ (pin : TallyPin). IsAscending pin.parts) tally.pins
  pub round : IsAscending (round_parts tally.round)

-- ---- the store

pub record IsSound (carried : Carried) (program : Script) (store : Plain) : Type 0 where
  pub tables : AreSoundTables store.moment (length store.tables) 1 store.tables
  pub names : HaveOwnNames store.tables
  pub sessions : length store.sessions ≡ length program.sessions
  pub each : AreSoundSessions carried program store.tables store.sessions
  pub holders : (table : ℕ) → HaveOneHolder store.sessions table
  pub points : length store.points ≡ length (query_ids program)
  pub layouts : length store.tally.layouts ≡ length store.tables
  pub tally : IsSoundTally store.moment store.tally

-- A program begins within the calendar, and its history is not so long that a moment of it reaches 2 ^ 62, as no regime's may.
abbrev pub IsInTime : Script → List Entry → Type 0
IsInTime program history = (program.start ≤ last_moment) × (last_moment + length history < 2 ^ 62)

-- the law: a legal history leads to a sound store
abbrev pub LegalIsSound : Type 0
LegalIsSound = (carried : Carried) (program : Script) (history : List Entry) (run : Run) → IsInTime program history →
    replay_of carried program history ≡ Some run → IsSound carried program run.0

-- the clock stays within the days of the calendar, but for a millisecond for each entry
abbrev pub LegalStaysInTime : Type 0
LegalStaysInTime = (carried : Carried) (program : Script) (history : List Entry) (run : Run) → program.start ≤ last_moment →
    replay_of carried program history ≡ Some run → run.0.moment ≤ last_moment + length history
