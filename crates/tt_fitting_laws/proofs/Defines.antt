-- Definitions keep rows fitting: CREATE TABLE and TRUNCATE bring none, and a clone has those that are seen of its source.
use Rattle.std.specs.Prelude.{Bool, List, None, Option, Some, [], false, map, option_map, option_to_list, true, ◌++◌, ◌∷◌, ◌≡◌}
use Rattle.std.proofs.Common.{subst, sym, ◌∙◌}
use Rattle.std.proofs.lemmas.Option.{same_Some}
use Rattle.tt_fitting_laws.proofs.Kept.{BringsFitting, Fits, KeepsFit}
use Rattle.tt_fitting_laws.proofs.Seen.{FitTable, named_there, seen_known}
use Rattle.tt_fitting_laws.proofs.Sessions.{done_fits, memory_keeps, new_fits, told_keeps}
use Rattle.tt_history.specs.declared.history.Told.{Told}
use Rattle.tt_plain.proofs.law.Gives.{Gives, gives_at, gives_bind, gives_map}
use Rattle.tt_plain.proofs.law.Lists.{every-append}
use Rattle.tt_plain.proofs.law.Turns.{due_gives}
use Rattle.tt_plain.proofs.law.session.Alone.{IsDue}
use Rattle.tt_plain.specs.asked.Asked.{Asked, request_asked, table_asked}
use Rattle.tt_plain.specs.asked.Carried.{Carried}
use Rattle.tt_plain.specs.asked.Request.{Alters, Clones, Creates, Defines, Definition, Drops, Request, Truncates, Undrops}
use Rattle.tt_plain.specs.declared.store.PlainTable.{PlainTable}
use Rattle.tt_plain.specs.definition.Alter.{alter_changes}
use Rattle.tt_plain.specs.definition.Changes.{definition_changes, tables_alone}
use Rattle.tt_plain.specs.definition.Clone.{clone_changes}
use Rattle.tt_plain.specs.definition.Create.{create_changes, replaced}
use Rattle.tt_plain.specs.definition.Drop.{drop_changes}
use Rattle.tt_plain.specs.definition.Swap.{swap_changes}
use Rattle.tt_plain.specs.definition.Truncate.{truncate_changes}
use Rattle.tt_plain.specs.definition.Undrop.{undrop_changes}
use Rattle.tt_plain.specs.effect.Define.{define_effect, defined, defined_by}
use Rattle.tt_plain.specs.effect.Effect.{Dropped, Effect, Made, NewVersion, TableChange}
use Rattle.tt_plain.specs.effect.Ending.{ended_with, memory_effect, session_done}
use Rattle.tt_plain.specs.law.Fitting.{HasFittingRows}
use Rattle.tt_plain.specs.law.Lists.{Every}
use Rattle.tt_plain.specs.opening.Seen.{rows_seen}
use Rattle.tt_plain.specs.refusal.NothingToUndrop.{table_to_undrop}
use Rattle.tt_plain.specs.tally.Changes.{TallyChange}
use Rattle.tt_plain.specs.tally.Layouts.{source_parts}
use Rattle.tt_sql.specs.declared.table.Change.{Change}
use Rattle.tt_sql.specs.declared.table.ClonedTable.{ClonedTable}
use Rattle.tt_value.specs.declared.name.TableName.{TableName}
use Rattle.tt_plain.specs.asked.Event as event
use Rattle.tt_sql.specs.declared.table.Change.TheVariants as change

module _ (carried : Carried) (asked : Asked) (due : IsDue carried asked) (fits : Fits carried asked.program asked.store) where
  abbrev KeepsAll : Effect → Type 0
  KeepsAll effect = KeepsFit carried asked.program asked.store effect

  abbrev KeepsDefined : List TableChange × List TallyChange → Type 0
  KeepsDefined changes = KeepsFit carried asked.program asked.store (defined asked changes)

  abbrev Brings : TableChange → Type 0
  Brings c = BringsFitting asked.store.tables c

  by_changes : (changes : List TableChange) (tally : List TallyChange) → Every Brings changes → KeepsDefined (changes, tally)
  unfolding ended_with
  by_changes changes tally brings = record { tables = brings; own = λ session new e. new_fits carried asked due fits (session_done asked) (done_fits carried asked due fits) session new e }

  replaced_quiet : (replaces : Bool) (name : TableName) → Every Brings (replaced asked replaces name)
  replaced_quiet false name = tt
  replaced_quiet true name = by (table_asked asked name)
    where
      by : (old : Option PlainTable) → Every Brings (map (λ (t : PlainTable). Dropped t.number asked.moment) (option_to_list old))
      by None = tt
      by (Some old) = (tt, tt)

  made_fits : (replaces : Bool) (name : TableName) (table : PlainTable) (tally : List TallyChange) → HasFittingRows table → KeepsDefined (replaced asked replaces name ++ Made table ∷ [], tally)
  made_fits replaces name table tally fit =
      by_changes (replaced asked replaces name ++ Made table ∷ []) tally (every-append Brings (replaced asked replaces name) (Made table ∷ []) (replaced_quiet replaces name) (fit, tt))

  clone_keeps : (c : ClonedTable) → Gives KeepsDefined (clone_changes asked c)
  unfolding clone_changes
  clone_keeps c =
      gives_bind KeepsDefined (table_asked asked c.source.table) _ (λ from_table there.
      gives_bind KeepsDefined (rows_seen asked c.source) _ (λ seen f.
      gives_bind KeepsDefined (source_parts asked c.source) _ (λ parts g.
      let known = seen_known carried asked due fits c.source seen f in
      let same : known.table ≡ from_table = same_Some known.table from_table (sym known.is ∙ there) in
      made_fits c.replaces c.table _ _ (record { fit = (subst (λ (t : PlainTable). FitTable carried asked due fits t seen.1) same known.rows, tt) }))))

  altered_keeps : (table : PlainTable) (c : Change) → Gives KeepsDefined (option_map tables_alone (alter_changes asked table c))
  altered_keeps table (change.RenameTo name) = by_changes _ _ (tt, tt)
  altered_keeps table (change.SwapWith name) = by (table_asked asked name)
    where
      by : (o : Option PlainTable) → Gives KeepsDefined (option_map tables_alone (option_map (swap_changes table) o))
      by None = tt
      by (Some second) = by_changes _ _ (tt, tt)
  altered_keeps table (change.SetRetention days) = by_changes _ _ (tt, tt)
  altered_keeps table (change.ClusterBy column) = by_changes _ _ (tt, tt)
  altered_keeps table change.DropClusteringKey = by_changes _ _ (tt, tt)
  altered_keeps table change.SuspendRecluster = by_changes _ _ (tt, tt)
  altered_keeps table change.ResumeRecluster = by_changes _ _ (tt, tt)

  truncate_keeps : (name : TableName) (table : PlainTable) → table_asked asked name ≡ Some table → KeepsDefined (truncate_changes asked table)
  truncate_keeps name table there =
      let has = named_there carried asked due fits name table there in
      by_changes (NewVersion table.number asked.moment [] ∷ []) _ (record { table = has.table; from_one = has.from_one; table_is = has.table_is; so = tt }, tt)

  definition_keeps : (d : Definition) → Gives KeepsDefined (definition_changes asked d)
  unfolding definition_changes create_changes
  definition_keeps (Creates c) = made_fits c.replaces c.table _ _ (record { fit = (tt, tt) })
  definition_keeps (Clones c) = clone_keeps c
  definition_keeps (Drops name) = gives_map KeepsDefined (drop_changes asked) (table_asked asked name) (λ table there. by_changes _ _ (tt, tt))
  definition_keeps (Undrops name) = gives_map KeepsDefined undrop_changes (table_to_undrop asked name) (λ table there. by_changes _ _ (tt, tt))
  definition_keeps (Truncates name) = gives_map KeepsDefined (truncate_changes asked) (table_asked asked name) (λ table there. truncate_keeps name table there)
  definition_keeps (Alters name c) = gives_bind KeepsDefined (table_asked asked name) _ (λ table there. altered_keeps table c)

  defined_keeps : (request : Request) → Gives KeepsAll (defined_by asked request)
  defined_keeps (Defines d) =
      gives_map KeepsAll (defined asked) (definition_changes asked d) (λ changes f. gives_at KeepsDefined (definition_changes asked d) changes (definition_keeps d) f)
  defined_keeps _ = tt

  pub define_keeps : (t : Told) → Gives KeepsAll (define_effect asked t)
  unfolding define_effect
  define_keeps t =
      due_gives KeepsAll event.Define asked _ (λ test.
      told_keeps carried asked due fits (defined_by asked (request_asked asked)) (memory_effect asked) t (λ free. defined_keeps (request_asked asked)) (memory_keeps carried asked due fits))
