-- 2, UnknownTable: a table that the statement reads or changes is not live.
use Rattle.std.specs.Prelude.{List, Option, ℕ}
use Rattle.tt_value.specs.declared.name.TableName.{TableName}
use Rattle.tt_history.specs.declared.reply.Refusal.{Refusal}
use Rattle.tt_plain.specs.asked.Asked.{Asked, in_statement, table_asked}
use Rattle.tt_plain.specs.Places.{each, table_begin, where_none}
use Rattle.tt_plain.specs.refusal.{at_leftmost}
use Rattle.tt_plain.specs.Tables.{tables_of}
use Rattle.tt_history.specs.declared.reply.Refusal.TheVariants as refusal

abbrev pub unknown_name : Asked → TableName → List ℕ
unknown_name asked name = where_none (table_begin name) (table_asked asked name)

abbrev pub unknown_names : Asked → List ℕ
unknown_names asked = in_statement (λ s. each (unknown_name asked) (tables_of s)) asked.read

abbrev pub unknown_table : Asked → Option Refusal
unknown_table asked = at_leftmost refusal.UnknownTable (unknown_names asked)
