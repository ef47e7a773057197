-- Definitions: only TRUNCATE begins a layout of a table that is there, and of none that another session has marked.
use Rattle.std.specs.Prelude.{List, Some, false, option_map, refl, true, ℕ, ◌≡◌}
use Rattle.std.proofs.Common.{arith, subst}
use Rattle.tt_history.specs.declared.history.Told.{Told}
use Rattle.tt_history.specs.declared.reply.Reply.TheVariants as reply
use Rattle.tt_plain.proofs.law.Free.{IsFree, is_free}
use Rattle.tt_plain.proofs.law.Gives.{Gives, gives_at, gives_bind, gives_map}
use Rattle.tt_plain.proofs.law.Turns.{due_gives}
use Rattle.tt_plain.proofs.law.session.Alone.{IsDue}
use Rattle.tt_plain.proofs.law.session.Marks.{others_free}
use Rattle.tt_plain.proofs.law.session.Views.{named}
use Rattle.tt_plain.specs.asked.Asked.{Asked, request_asked, state_asked, table_asked}
use Rattle.tt_plain.specs.asked.Carried.{Carried}
use Rattle.tt_plain.specs.asked.Event.{first_event, is_same_event}
use Rattle.tt_plain.specs.asked.Request.{Alters, Clones, Creates, Defines, Definition, Drops, Request, Truncates, Undrops}
use Rattle.tt_plain.specs.declared.store.PlainTable.{PlainTable}
use Rattle.tt_plain.specs.definition.Alter.{alter_changes}
use Rattle.tt_plain.specs.definition.Changes.{definition_changes, tables_alone}
use Rattle.tt_plain.specs.definition.Clone.{clone_changes}
use Rattle.tt_plain.specs.definition.Create.{create_changes}
use Rattle.tt_plain.specs.definition.Drop.{drop_changes}
use Rattle.tt_plain.specs.definition.Truncate.{truncate_changes}
use Rattle.tt_plain.specs.definition.Undrop.{undrop_changes}
use Rattle.tt_plain.specs.effect.Define.{define_effect, defined, defined_by}
use Rattle.tt_plain.specs.effect.Effect.{Effect, TableChange}
use Rattle.tt_plain.specs.effect.Ending.{ended_with, memory_effect, own_point_now, session_done}
use Rattle.tt_plain.specs.opening.Seen.{rows_seen}
use Rattle.tt_plain.specs.refusal.NothingToUndrop.{table_to_undrop}
use Rattle.tt_plain.specs.stored.Sessions.{has_exclusive_mark, has_mark}
use Rattle.tt_plain.specs.tally.Changes.{TallyChange}
use Rattle.tt_plain.specs.tally.Layouts.{source_parts}
use Rattle.tt_plain_laws.proofs.guard.Defines.{exclusive_is_mark, nobody_holds, none_open}
use Rattle.tt_plain_laws.specs.Guarded.{AreGuarded}
use Rattle.tt_sql.specs.declared.table.Change.{Change}
use Rattle.tt_sql.specs.declared.table.ClonedTable.{ClonedTable}
use Rattle.tt_target_laws.proofs.Sessions.{LeavesHere, SparesAll, apart_from, by_idle, memory_leaves, nothing_spares, told_leaves}
use Rattle.tt_value.specs.declared.name.TableName.{TableName}
use Rattle.tt_plain.specs.asked.Event as event

module _ (carried : Carried) (asked : Asked) (due : IsDue carried asked) (guarded : AreGuarded asked.store) where
  abbrev KeepsHere : Effect → Type 0
  KeepsHere effect = LeavesHere carried asked due effect

  abbrev SparesDefined : List TableChange × List TallyChange → Type 0
  SparesDefined changes = SparesAll carried asked due changes.1

  module _ (closed : (state_asked asked).transaction ≡ false) (free : IsFree asked) where
    clone_spares : (c : ClonedTable) → Gives SparesDefined (clone_changes asked c)
    unfolding clone_changes
    clone_spares c =
        gives_bind SparesDefined (table_asked asked c.source.table) _ (λ from_table there.
        gives_bind SparesDefined (rows_seen asked c.source) _ (λ seen f.
        gives_bind SparesDefined (source_parts asked c.source) _ (λ parts g other held_by at apart table first within held. (tt, tt))))

    truncate_spares : (name : TableName) (table : PlainTable) → request_asked asked ≡ Defines (Truncates name) → table_asked asked name ≡ Some table → SparesDefined (truncate_changes asked table)
    truncate_spares name table e there other held_by at apart number first within held = (
      (λ same.
          let one : number ≡ table.number = omega (arith, same, first, (named carried asked due name table there).is.from_one) in
          absurd (apart_from carried asked due other apart
          (others_free (has_mark table.number) asked.store asked.session other held_by (nobody_holds carried asked due guarded closed free name table e there) at
          (exclusive_is_mark table.number held_by.marks (subst (λ (n : ℕ). has_exclusive_mark n held_by ≡ true) one held))))),
      tt,
    )

    altered_spares : (table : PlainTable) (c : Change) → Gives SparesDefined (option_map tables_alone (alter_changes asked table c))
    altered_spares table c = gives_map SparesDefined tables_alone (alter_changes asked table c) (λ changes e. nothing_spares carried asked due)

    definition_spares : (d : Definition) → request_asked asked ≡ Defines d → Gives SparesDefined (definition_changes asked d)
    unfolding definition_changes create_changes
    definition_spares (Creates c) e = λ other held_by at apart table first within held. (tt, tt)
    definition_spares (Clones c) e = clone_spares c
    definition_spares (Drops name) e = gives_map SparesDefined (drop_changes asked) (table_asked asked name) (λ table there. nothing_spares carried asked due)
    definition_spares (Undrops name) e = gives_map SparesDefined undrop_changes (table_to_undrop asked name) (λ table there. nothing_spares carried asked due)
    definition_spares (Truncates name) e = gives_map SparesDefined (truncate_changes asked) (table_asked asked name) (λ table there. truncate_spares name table e there)
    definition_spares (Alters name c) e = gives_bind SparesDefined (table_asked asked name) _ (λ table there. altered_spares table c)

    defined_leaves : (d : Definition) → request_asked asked ≡ Defines d → Gives KeepsHere (defined_by asked (Defines d))
    unfolding ended_with
    defined_leaves d e =
        gives_map KeepsHere (defined asked) (definition_changes asked d) (λ changes f.
        by_idle carried asked due (session_done asked) changes.0 (own_point_now asked) changes.1 asked.moment (Some reply.Ok) refl (gives_at SparesDefined (definition_changes asked d) changes (definition_spares d e) f))

  due_defined : (request : Request) → request_asked asked ≡ request → is_same_event event.Define (first_event (state_asked asked).transaction request) ≡ true → IsFree asked → Gives KeepsHere (defined_by asked request)
  due_defined (Defines d) e test free = defined_leaves (none_open carried asked due guarded (state_asked asked).transaction test) free d e
  due_defined _ e test free = tt

  pub define_leaves : (t : Told) → Gives KeepsHere (define_effect asked t)
  unfolding define_effect
  define_leaves t =
      due_gives KeepsHere event.Define asked _ (λ test.
      told_leaves carried asked due (defined_by asked (request_asked asked)) (memory_effect asked) t (λ free. due_defined (request_asked asked) refl test (is_free asked free)) (memory_leaves carried asked due))
