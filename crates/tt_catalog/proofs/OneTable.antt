-- Why a query and a change are refused: a table of theirs is not live, their columns and kinds do not fit, or another session has their target
-- for itself.
use Rattle.std.specs.Prelude.{List, None, Ok, Option, Some, [], filter_map, min, option_map, refl, ℕ, ℤ, ◌++◌, ◌+◌, ◌∷◌, ◌≡◌}
use Rattle.std.proofs.Common.{ap, ◌∙◌}
use Rattle.tt_value.specs.declared.name.TableName.{TableName}
use Rattle.tt_value.specs.declared.value.Schema.{Schema}
use Rattle.tt_script.specs.declared.script.Script.{Script}
use Rattle.tt_sql.specs.declared.change.Delete.{Delete}
use Rattle.tt_sql.specs.declared.change.Dml.TheVariants as dml
use Rattle.tt_sql.specs.declared.change.Insert.{Insert}
use Rattle.tt_sql.specs.declared.change.InsertSource.TheVariants as source
use Rattle.tt_sql.specs.declared.change.Tuple.{Tuple}
use Rattle.tt_sql.specs.declared.change.Update.{Update}
use Rattle.tt_sql.specs.declared.query.Join.{Join}
use Rattle.tt_sql.specs.declared.query.Query.{Query}
use Rattle.tt_sql.specs.declared.query.Source.{Source}
use Rattle.tt_sql.specs.declared.statement.Statement.{Statement}
use Rattle.tt_history.specs.declared.reply.Refusal.{Refusal}
use Rattle.tt_plain.specs.Answers.{◌>>=◌}
use Rattle.tt_plain.specs.NullsInNotNull.{nulls_in_not_null}
use Rattle.tt_plain.specs.Places.{if_there, leftmost, table_begin, where_none}
use Rattle.tt_plain.specs.TypeMismatches.{type_mismatches}
use Rattle.tt_plain.specs.TypingRefusal.{or_else, typing_refusal}
use Rattle.tt_plain.specs.UnknownColumns.{unknown_columns}
use Rattle.tt_plain.specs.WrongCounts.{wrong_counts}
use Rattle.tt_plain.specs.asked.Asked.{Asked, table_asked}
use Rattle.tt_plain.specs.asked.Turns.{asked_with}
use Rattle.tt_plain.specs.declared.store.Plain.{Plain}
use Rattle.tt_plain.specs.declared.store.PlainTable.{PlainTable}
use Rattle.tt_plain.specs.refusal.{at_leftmost, first_some, head_of}
use Rattle.tt_plain.specs.refusal.First.{refusal_of}
use Rattle.tt_plain.specs.refusal.NotYetMade.{made_later}
use Rattle.tt_plain.specs.refusal.OutsideRetention.{horizon_beyond}
use Rattle.tt_plain.specs.stored.Names.{table_named}
use Rattle.tt_plain.specs.stored.Sessions.{has_exclusive_mark, others_with}
use Rattle.tt_history.specs.declared.reply.Refusal.TheVariants as refusal
use Rattle.tt_sql.specs.declared.statement.Statement.TheVariants as tree
use Rattle.tt_state.proofs.Lists.{all_behind}

abbrev no : Option Refusal
no = None

-- the four refusals of typing, and of those behind them one that may stand
typed : (u w t n : Option ℕ) (lock : Option Refusal)
    → first_some (option_map refusal.UnknownColumn u ∷ option_map refusal.WrongCount w ∷ option_map refusal.TypeMismatch t ∷ option_map refusal.NullInNotNull n
    ∷ no ∷ no ∷ no ∷ no ∷ no ∷ no ∷ no ∷ no ∷ no ∷ lock ∷ no ∷ no ∷ [])
    ≡ first_some (or_else refusal.UnknownColumn u (or_else refusal.WrongCount w (or_else refusal.TypeMismatch t (or_else refusal.NullInNotNull n None))) ∷ lock ∷ [])
typed None None None None None = refl
typed None None None None (Some l) = refl
typed None None None (Some n) lock = refl
typed None None (Some t) n lock = refl
typed None (Some w) t n lock = refl
typed (Some u) w t n lock = refl

first_alone : (o : Option Refusal) → first_some (o ∷ no ∷ []) ≡ o
first_alone None = refl
first_alone (Some r) = refl

-- one table, as it is now
abbrev pub plain_query : Query → Query
plain_query q = record q { joins = []; first = record q.first { clause = None } }

-- such is each query that is carried out
pub query_is : (q : Query) → q.joins ≡ [] → q.first.clause ≡ None → q ≡ plain_query q
query_is q none now =
    ap (λ (joins : List Join). record q { joins = joins }) none ∙ ap (λ o. record q { joins = []; first = record q.first { clause = o } }) now

-- the table is not live, or the typing of the statement over it
abbrev pub table_over : TableName → Statement → Option PlainTable → Option Refusal
table_over name s None = Some (refusal.UnknownTable (table_begin name))
table_over name s (Some table) = typing_refusal (table.schema ∷ []) s

-- and of two tables
abbrev pub tables_over : TableName → TableName → Statement → Option PlainTable → Option PlainTable → Option Refusal
tables_over target from s None None = Some (refusal.UnknownTable (min (table_begin target) (table_begin from)))
tables_over target from s None (Some read) = Some (refusal.UnknownTable (table_begin target))
tables_over target from s (Some table) None = Some (refusal.UnknownTable (table_begin from))
tables_over target from s (Some table) (Some read) = typing_refusal (table.schema ∷ read.schema ∷ []) s

-- ---- what differs from one statement over one table to the next

module _ (name : TableName) (s : Statement) where
  abbrev schemas : Option PlainTable → List Schema
  schemas found = filter_map (λ (_ : TableName). option_map (λ (t : PlainTable). t.schema) found) (name ∷ [])

  abbrev places : Option PlainTable → List ℕ → Option Refusal → Option Refusal
  places found unknown lock =
      first_some (no ∷ at_leftmost refusal.UnknownTable (where_none (table_begin name) found ++ []) ∷ no ∷ at_leftmost refusal.UnknownColumn unknown
      ∷ at_leftmost refusal.WrongCount (wrong_counts (schemas found) s) ∷ at_leftmost refusal.TypeMismatch (type_mismatches (schemas found) s)
      ∷ at_leftmost refusal.NullInNotNull (nulls_in_not_null (schemas found) s)
      ∷ no ∷ no ∷ no ∷ no ∷ no ∷ no ∷ no ∷ no ∷ no ∷ lock ∷ no ∷ no ∷ [])

  placed : (found : Option PlainTable) (lock : Option Refusal) → places found (unknown_columns (schemas found) s ++ []) lock ≡ first_some (table_over name s found ∷ lock ∷ [])
  unfolding typing_refusal
  placed None lock = refl
  placed (Some table) lock =
      ap (λ (unknown : List ℕ). places (Some table) unknown lock) (all_behind (unknown_columns (table.schema ∷ []) s))
      ∙ typed (leftmost (unknown_columns (table.schema ∷ []) s)) (leftmost (wrong_counts (table.schema ∷ []) s))
      (leftmost (type_mismatches (table.schema ∷ []) s)) (leftmost (nulls_in_not_null (table.schema ∷ []) s)) lock

  placed_alone : (found : Option PlainTable) → places found (unknown_columns (schemas found) s ++ []) no ≡ table_over name s found
  placed_alone found = placed found no ∙ first_alone (table_over name s found)

-- no point is asked for, whichever table is found
abbrev travels : Source → Option PlainTable → List (PlainTable × ℤ)
travels read found = filter_map (λ (_ : Source). found >>= λ table. None) (read ∷ [])

abbrev not_made : Source → Option PlainTable → Option Refusal
not_made read found = option_map refusal.NotYetMade (head_of (filter_map made_later (travels read found)))

abbrev outside : Source → ℕ → Option PlainTable → Option Refusal
outside read moment found = option_map refusal.OutsideRetention (head_of (filter_map (horizon_beyond moment) (travels read found)))

-- ---- a query

module _ (program : Script) (store : Plain) (session index : ℕ) (q : Query) where
  abbrev query_asked : Asked
  query_asked = asked_with program store session index (Ok (tree.Query (plain_query q)))

  abbrev query_statement : Statement
  query_statement = tree.Query (plain_query q)

  abbrev query_places : Option PlainTable → Option Refusal
  query_places found =
      first_some (no ∷ at_leftmost refusal.UnknownTable (where_none (table_begin q.first.table) found ++ []) ∷ no
      ∷ at_leftmost refusal.UnknownColumn (unknown_columns (schemas q.first.table query_statement found) query_statement ++ [])
      ∷ at_leftmost refusal.WrongCount (wrong_counts (schemas q.first.table query_statement found) query_statement)
      ∷ at_leftmost refusal.TypeMismatch (type_mismatches (schemas q.first.table query_statement found) query_statement)
      ∷ at_leftmost refusal.NullInNotNull (nulls_in_not_null (schemas q.first.table query_statement found) query_statement)
      ∷ no ∷ no ∷ no ∷ no ∷ no ∷ no ∷ not_made q.first found ∷ outside q.first (store.moment + 1) found ∷ no ∷ no ∷ no ∷ no ∷ [])

  query_placed : (found : Option PlainTable) → query_places found ≡ table_over q.first.table query_statement found
  query_placed None = placed_alone q.first.table query_statement None
  query_placed (Some table) = placed_alone q.first.table query_statement (Some table)

  pub query_refusal : refusal_of query_asked ≡ table_over q.first.table query_statement (table_asked query_asked q.first.table)
  unfolding refusal_of
  query_refusal = query_placed (table_asked query_asked q.first.table)

-- ---- an INSERT of written rows

module _ (program : Script) (store : Plain) (session index : ℕ) (i : Insert) (tuples : List Tuple) where
  abbrev values_statement : Statement
  values_statement = tree.Dml (dml.Insert (record i { source = source.Values tuples }))

  abbrev values_asked : Asked
  values_asked = asked_with program store session index (Ok values_statement)

  pub values_refusal : refusal_of values_asked ≡ table_over i.table values_statement (table_asked values_asked i.table)
  unfolding refusal_of
  values_refusal = placed_alone i.table values_statement (table_asked values_asked i.table)

-- ---- an UPDATE and a DELETE

-- another session has the table for itself
abbrev pub lock_over : Plain → ℕ → Option PlainTable → Option Refusal
lock_over store session found = option_map refusal.LockHeld (head_of (if_there (λ (table : PlainTable). others_with (has_exclusive_mark table.number) store session) found))

abbrev pub taken_over : Plain → ℕ → TableName → Statement → Option PlainTable → Option Refusal
taken_over store session name s found = first_some (table_over name s found ∷ lock_over store session found ∷ [])

module _ (program : Script) (store : Plain) (session index : ℕ) where
  pub update_refusal : (u : Update) → refusal_of (asked_with program store session index (Ok (tree.Dml (dml.Update u))))
      ≡ taken_over store session u.table (tree.Dml (dml.Update u)) (table_named store session u.table)
  unfolding refusal_of
  update_refusal u = placed u.table (tree.Dml (dml.Update u)) (table_named store session u.table) (lock_over store session (table_named store session u.table))

  pub delete_refusal : (d : Delete) → refusal_of (asked_with program store session index (Ok (tree.Dml (dml.Delete d))))
      ≡ taken_over store session d.table (tree.Dml (dml.Delete d)) (table_named store session d.table)
  unfolding refusal_of
  delete_refusal d = placed d.table (tree.Dml (dml.Delete d)) (table_named store session d.table) (lock_over store session (table_named store session d.table))

-- ---- an INSERT with a query

module _ (program : Script) (store : Plain) (session index : ℕ) (i : Insert) (q : Query) where
  abbrev pub filled_statement : Statement
  filled_statement = tree.Dml (dml.Insert (record i { source = source.Query (plain_query q) }))

  abbrev pub filled_asked : Asked
  filled_asked = asked_with program store session index (Ok filled_statement)

  abbrev both_schemas : Option PlainTable → Option PlainTable → List Schema
  both_schemas a b = filter_map (λ (o : Option PlainTable). option_map (λ (t : PlainTable). t.schema) o) (a ∷ b ∷ [])

  abbrev filled_places : Option PlainTable → Option PlainTable → List ℕ → Option Refusal
  filled_places a b unknown =
      first_some (no ∷ at_leftmost refusal.UnknownTable (where_none (table_begin i.table) a ++ (where_none (table_begin q.first.table) b ++ [])) ∷ no
      ∷ at_leftmost refusal.UnknownColumn unknown
      ∷ at_leftmost refusal.WrongCount (wrong_counts (both_schemas a b) filled_statement)
      ∷ at_leftmost refusal.TypeMismatch (type_mismatches (both_schemas a b) filled_statement)
      ∷ at_leftmost refusal.NullInNotNull (nulls_in_not_null (both_schemas a b) filled_statement)
      ∷ no ∷ no ∷ no ∷ no ∷ no ∷ no ∷ not_made q.first b ∷ outside q.first (store.moment + 1) b ∷ no ∷ no ∷ no ∷ no ∷ [])

  filled_placed : (a b : Option PlainTable) → filled_places a b (unknown_columns (both_schemas a b) filled_statement ++ []) ≡ tables_over i.table q.first.table filled_statement a b
  unfolding typing_refusal
  filled_placed None None = refl
  filled_placed None (Some read) = refl
  filled_placed (Some table) None = refl
  filled_placed (Some table) (Some read) =
      ap (filled_places (Some table) (Some read)) (all_behind (unknown_columns (table.schema ∷ read.schema ∷ []) filled_statement))
      ∙ typed (leftmost (unknown_columns (table.schema ∷ read.schema ∷ []) filled_statement)) (leftmost (wrong_counts (table.schema ∷ read.schema ∷ []) filled_statement))
      (leftmost (type_mismatches (table.schema ∷ read.schema ∷ []) filled_statement)) (leftmost (nulls_in_not_null (table.schema ∷ read.schema ∷ []) filled_statement)) no
      ∙ first_alone (typing_refusal (table.schema ∷ read.schema ∷ []) filled_statement)

  pub filled_refusal : refusal_of filled_asked ≡ tables_over i.table q.first.table filled_statement (table_asked filled_asked i.table) (table_asked filled_asked q.first.table)
  unfolding refusal_of
  filled_refusal = filled_placed (table_asked filled_asked i.table) (table_asked filled_asked q.first.table)
