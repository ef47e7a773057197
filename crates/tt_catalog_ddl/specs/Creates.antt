-- What a CREATE TABLE does to what is kept, and its entry.
use Rattle.std.specs.Prelude.{List, None, Option, Some, [], false, length, ℕ, ◌++◌, ◌+◌, ◌∷◌, ◌≡◌}
use Rattle.tt_sql.specs.declared.statement.Statement.{Statement}
use Rattle.tt_sql.specs.declared.table.CreatedTable.{CreatedTable}
use Rattle.tt_history.specs.Refusals.{refusal_number}
use Rattle.tt_history.specs.declared.history.Told.{Told}
use Rattle.tt_history.specs.declared.reply.Refusal.{Refusal}
use Rattle.tt_history.specs.declared.reply.Reply.{Reply}
use Rattle.tt_layout.specs.declared.facts.TableFacts.{TableFacts}
use Rattle.tt_names.specs.Changes.{bound}
use Rattle.tt_names.specs.Registry.{live_of}
use Rattle.tt_retain.specs.Retention.{first_retention}
use Rattle.tt_plain.specs.Places.{table_begin}
use Rattle.tt_plain.specs.TypingRefusal.{typing_refusal}
use Rattle.tt_plain.specs.definition.Create.{schema_made}
use Rattle.tt_state.specs.Chronicle.{Chronicle, MadeEntry, entry_at, store_of}
use Rattle.tt_state.specs.Kept.{Kept, live_kept}
use Rattle.tt_state.specs.declared.state.TableState.{TableState}
use Rattle.tt_history.specs.declared.history.EntryKind.TheVariants as kind
use Rattle.tt_history.specs.declared.history.Told.TheVariants as told
use Rattle.tt_history.specs.declared.reply.Refusal.TheVariants as refusal
use Rattle.tt_history.specs.declared.reply.Reply.TheVariants as reply
use Rattle.tt_sql.specs.declared.statement.Statement.TheVariants as tree

-- ---- the table

-- permanent, without parts, and with a day of the past
abbrev pub facts_made : ℕ → ℕ → CreatedTable → TableFacts
facts_made number moment c = record {
  number = number;
  name = c.table.name.text;
  group = number;
  made = moment;
  dropped = None;
  regimes = first_retention moment 1 false;
  layouts = (moment, []) ∷ [];
}

abbrev pub table_made : ℕ → ℕ → CreatedTable → TableState
table_made number moment c = record {
  facts = facts_made number moment c;
  schema = schema_made c.columns;
  transient = false;
  key = None;
  suspended = false;
}

-- one more table, under its name
abbrev pub with_table : Kept → TableState → Kept
with_table kept table = record kept {
  tables = kept.tables ++ table ∷ [];
  names = bound table.facts.name table.facts.number kept.names;
}

-- with the next number, from the next moment on
abbrev pub with_made : Kept → CreatedTable → Kept
with_made kept c = with_table kept (table_made (length kept.tables + 1) (kept.moment + 1) c)

-- a name that finds no table is no table's
abbrev pub NamesAreKnown : Kept → Type 0
NamesAreKnown kept = (name : List ℕ) → live_kept kept name ≡ None → live_of name kept.names ≡ None

-- ---- how it may go

abbrev pub refusal_beside : Option TableState → CreatedTable → Statement → Option Refusal
refusal_beside (Some table) c s = Some (refusal.TableExists (table_begin c.table))
refusal_beside None c s = typing_refusal [] s

-- a live table has the name, or the columns are refused
abbrev pub refusal_kept : Kept → CreatedTable → Statement → Option Refusal
refusal_kept kept c s = refusal_beside (live_kept kept c.table.name.text) c s

-- A table is made, or the statement is refused, or there is no memory; in the last two cases nothing is made.
abbrev pub Creates : Kept → CreatedTable → Kept → Told → Reply → Type 0
Creates old c new told.Done answer = (refusal_kept old c (tree.Create c) ≡ None) × (new ≡ with_made old c) × (answer ≡ reply.Ok)
Creates old c new (told.Refused number) answer = (why : Refusal) × (refusal_kept old c (tree.Create c) ≡ Some why) × (number ≡ refusal_number why) × (answer ≡ reply.Refused why) × (new ≡ old)
Creates old c new told.Memory answer = (answer ≡ reply.Memory) × (new ≡ old)

abbrev pub CarriesOut : Kept → Statement → Kept → Told → Reply → Type 0
CarriesOut old statement new t answer = (c : CreatedTable) × (statement ≡ tree.Create c) × Creates old c new t answer

-- ---- its entry

abbrev pub MadeDefine : Chronicle → Chronicle → ℕ → ℕ → Reply → Type 0
MadeDefine old new session index answer =
    (told : Told) × MadeEntry old new (entry_at (store_of old).moment session index (kind.Define told)) (Some answer)
