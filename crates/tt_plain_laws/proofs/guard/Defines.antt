-- Definitions keep the guards: only TRUNCATE changes rows, and of no table that another session has marked.
use Rattle.std.specs.Prelude.{Bool, List, None, Option, Some, [], false, if◌then◌else◌, map, option_map, option_to_list, refl, slice_get, true, ℕ, ◌++◌, ◌==◌, ◌∷◌, ◌≡◌}
use Rattle.std.specs.List.{list_any}
use Rattle.std.proofs.Common.{ap, inl, inr, subst, sym, ◌∙◌}
use Rattle.std.proofs.Math.Bool.{or-true}
use Rattle.std.proofs.lemmas.Bool.{and_parts, false≢true, or_cases}
use Rattle.std.proofs.lemmas.Option.{none-some, same_Some}
use Rattle.tt_history.specs.declared.history.Told.{Told}
use Rattle.tt_plain.proofs.law.Free.{IsFree, is_free}
use Rattle.tt_plain.proofs.law.Gives.{Gives, gives_at, gives_bind, gives_map}
use Rattle.tt_plain.proofs.law.Lists.{every-append}
use Rattle.tt_plain.proofs.law.Turns.{due_gives}
use Rattle.tt_plain.proofs.law.session.Alone.{IsDue, state_sound}
use Rattle.tt_plain.proofs.law.session.Marks.{others_free}
use Rattle.tt_plain.specs.asked.Asked.{Asked, request_asked, state_asked, table_asked}
use Rattle.tt_plain.specs.asked.Carried.{Carried}
use Rattle.tt_plain.specs.asked.Event.{first_event, is_same_event}
use Rattle.tt_plain.specs.asked.Request.{Alters, Clones, Creates, Defines, Definition, Drops, Request, Truncates, Undrops}
use Rattle.tt_plain.specs.Places.{if_there}
use Rattle.tt_plain.specs.declared.store.PlainMark.{PlainMark}
use Rattle.tt_plain.specs.declared.store.PlainSession.{PlainSession}
use Rattle.tt_plain.specs.declared.store.PlainTable.{PlainTable}
use Rattle.tt_plain.specs.definition.Alter.{alter_changes}
use Rattle.tt_plain.specs.definition.Changes.{definition_changes, tables_alone}
use Rattle.tt_plain.specs.definition.Clone.{clone_changes}
use Rattle.tt_plain.specs.definition.Create.{create_changes, replaced}
use Rattle.tt_plain.specs.definition.Drop.{drop_changes}
use Rattle.tt_plain.specs.definition.Swap.{swap_changes}
use Rattle.tt_plain.specs.definition.Truncate.{truncate_changes}
use Rattle.tt_plain.specs.definition.Undrop.{undrop_changes}
use Rattle.tt_plain.specs.effect.Define.{define_effect, defined, defined_by}
use Rattle.tt_plain.specs.effect.Effect.{Dropped, Effect, Made, NewVersion, TableChange}
use Rattle.tt_plain.specs.effect.Ending.{ended_with, memory_effect, session_done}
use Rattle.tt_plain.specs.law.Lists.{Every}
use Rattle.tt_plain.specs.opening.Marks.{is_exclusive_on}
use Rattle.tt_plain.specs.opening.Seen.{rows_seen}
use Rattle.tt_plain.specs.refusal.{head_of}
use Rattle.tt_plain.specs.refusal.NothingToUndrop.{table_to_undrop}
use Rattle.tt_plain.specs.refusal.LockHeld.{holders_asked}
use Rattle.tt_plain.specs.stored.Sessions.{has_mark, others_with}
use Rattle.tt_plain.specs.tally.Changes.{TallyChange}
use Rattle.tt_plain.specs.tally.Layouts.{source_parts}
use Rattle.tt_sql.specs.declared.table.ClonedTable.{ClonedTable}
use Rattle.tt_sql.specs.declared.table.Change.{Change}
use Rattle.tt_value.specs.declared.name.TableName.{TableName}
use Rattle.tt_plain_laws.proofs.guard.Ends.{another}
use Rattle.tt_plain_laws.proofs.guard.Grown.{Spares}
use Rattle.tt_plain_laws.proofs.guard.Kept.{KeepsGuards, bare}
use Rattle.tt_plain_laws.proofs.guard.Sessions.{memory_keeps, told_keeps}
use Rattle.tt_plain_laws.specs.Guarded.{AreGuarded, IsGuarded}
use Rattle.tt_plain.specs.asked.Event as event
use Rattle.tt_sql.specs.declared.table.Change.TheVariants as change
use Rattle.tt_history.specs.declared.reply.Refusal.TheVariants as refusal

no_head : (xs : List ℕ) → option_map refusal.LockHeld (head_of xs) ≡ None → xs ≡ []
no_head [] e = refl
no_head (x ∷ xs) e = absurd (none-some (refusal.LockHeld x) (sym e))

pub exclusive_is_mark : (table : ℕ) (marks : List PlainMark) → list_any (is_exclusive_on table) marks ≡ true → list_any (λ (mark : PlainMark). mark.table == table) marks ≡ true
exclusive_is_mark table [] e = e
exclusive_is_mark table (mark ∷ marks) e = elim (or_cases (is_exclusive_on table mark) (list_any (is_exclusive_on table) marks) e) [
  | inl h ↦ rw (and_parts (mark.table == table) mark.exclusive h).0 refl
  | inr h ↦ rw (exclusive_is_mark table marks h) (or-true (mark.table == table))
]

module _ (carried : Carried) (asked : Asked) (due : IsDue carried asked) (guarded : AreGuarded asked.store) where
  abbrev KeepsAll : Effect → Type 0
  KeepsAll effect = KeepsGuards asked.store effect

  module _ (closed : (state_asked asked).transaction ≡ false) (free : IsFree asked) where
    abbrev KeepsDefined : List TableChange × List TallyChange → Type 0
    KeepsDefined changes = KeepsGuards asked.store (defined asked changes)

    by_spares : (changes : List TableChange) (tally : List TallyChange)
        → ((other : ℕ) (held_by : PlainSession) → slice_get asked.store.sessions other ≡ Some held_by → (other ≡ asked.session → ⊥) → Every (Spares asked.store.tables held_by) changes)
        → KeepsDefined (changes, tally)
    unfolding ended_with
    by_spares changes tally spares = record {
      own = λ session new e next is.
          subst (IsGuarded next) (ap (λ (c : ℕ × PlainSession). c.1) (same_Some (asked.session, session_done asked) (session, new) e)) (bare next (session_done asked) refl ((state_sound carried asked due).closed closed));
      others = λ other held_by at apart. spares other held_by at (another carried asked due guarded (session_done asked) other apart);
    }

    -- changes of which none begins a version
    by_quiet : (changes : List TableChange) (tally : List TallyChange) → ((held_by : PlainSession) → Every (Spares asked.store.tables held_by) changes) → KeepsDefined (changes, tally)
    by_quiet changes tally quiet = by_spares changes tally (λ other held_by at apart. quiet held_by)

    replaced_quiet : (replaces : Bool) (name : TableName) (held_by : PlainSession) → Every (Spares asked.store.tables held_by) (replaced asked replaces name)
    replaced_quiet false name held_by = tt
    replaced_quiet true name held_by = by (table_asked asked name)
      where
        by : (old : Option PlainTable) → Every (Spares asked.store.tables held_by) (map (λ (t : PlainTable). Dropped t.number asked.moment) (option_to_list old))
        by None = tt
        by (Some old) = (tt, tt)

    made_quiet : (replaces : Bool) (name : TableName) (table : PlainTable) (held_by : PlainSession) → Every (Spares asked.store.tables held_by) (replaced asked replaces name ++ Made table ∷ [])
    made_quiet replaces name table held_by = every-append (Spares asked.store.tables held_by) (replaced asked replaces name) (Made table ∷ []) (replaced_quiet replaces name held_by) (tt, tt)

    clone_keeps : (c : ClonedTable) → Gives KeepsDefined (clone_changes asked c)
    unfolding clone_changes
    clone_keeps c =
        gives_bind KeepsDefined (table_asked asked c.source.table) _ (λ from_table there.
        gives_bind KeepsDefined (rows_seen asked c.source) _ (λ seen f.
        gives_bind KeepsDefined (source_parts asked c.source) _ (λ parts g. by_quiet _ _ (made_quiet c.replaces c.table _))))

    -- ---- TRUNCATE

    pub nobody_holds : (name : TableName) (table : PlainTable) → request_asked asked ≡ Defines (Truncates name) → table_asked asked name ≡ Some table → others_with (has_mark table.number) asked.store asked.session ≡ []
    nobody_holds name table e there =
        sym (ap (if_there (λ (t : PlainTable). others_with (has_mark t.number) asked.store asked.session)) there)
        ∙ sym (ap (holders_asked asked) e) ∙ no_head (holders_asked asked (request_asked asked)) free.held

    truncate_keeps : (name : TableName) (table : PlainTable) → request_asked asked ≡ Defines (Truncates name) → table_asked asked name ≡ Some table → KeepsDefined (truncate_changes asked table)
    truncate_keeps name table e there =
        by_spares (NewVersion table.number asked.moment [] ∷ []) _ (λ other held_by at apart.
        ((λ old was held. absurd (apart (others_free (has_mark table.number) asked.store asked.session other held_by (nobody_holds name table e there) at (exclusive_is_mark table.number held_by.marks held)))), tt))

    -- ---- each

    altered_keeps : (table : PlainTable) (c : Change) → Gives KeepsDefined (option_map tables_alone (alter_changes asked table c))
    altered_keeps table (change.RenameTo name) = by_quiet _ _ (λ held_by. (tt, tt))
    altered_keeps table (change.SwapWith name) = by (table_asked asked name)
      where
        by : (o : Option PlainTable) → Gives KeepsDefined (option_map tables_alone (option_map (swap_changes table) o))
        by None = tt
        by (Some second) = by_quiet _ _ (λ held_by. (tt, tt))
    altered_keeps table (change.SetRetention days) = by_quiet _ _ (λ held_by. (tt, tt))
    altered_keeps table (change.ClusterBy column) = by_quiet _ _ (λ held_by. (tt, tt))
    altered_keeps table change.DropClusteringKey = by_quiet _ _ (λ held_by. (tt, tt))
    altered_keeps table change.SuspendRecluster = by_quiet _ _ (λ held_by. (tt, tt))
    altered_keeps table change.ResumeRecluster = by_quiet _ _ (λ held_by. (tt, tt))

    definition_keeps : (d : Definition) → request_asked asked ≡ Defines d → Gives KeepsDefined (definition_changes asked d)
    unfolding definition_changes create_changes
    definition_keeps (Creates c) e = by_quiet _ _ (made_quiet c.replaces c.table _)
    definition_keeps (Clones c) e = clone_keeps c
    definition_keeps (Drops name) e = gives_map KeepsDefined (drop_changes asked) (table_asked asked name) (λ table there. by_quiet _ _ (λ held_by. (tt, tt)))
    definition_keeps (Undrops name) e = gives_map KeepsDefined undrop_changes (table_to_undrop asked name) (λ table there. by_quiet _ _ (λ held_by. (tt, tt)))
    definition_keeps (Truncates name) e = gives_map KeepsDefined (truncate_changes asked) (table_asked asked name) (λ table there. truncate_keeps name table e there)
    definition_keeps (Alters name c) e = gives_bind KeepsDefined (table_asked asked name) _ (λ table there. altered_keeps table c)

    defined_keeps : (d : Definition) → request_asked asked ≡ Defines d → Gives KeepsAll (defined_by asked (Defines d))
    defined_keeps d e =
        gives_map KeepsAll (defined asked) (definition_changes asked d) (λ changes f. gives_at KeepsDefined (definition_changes asked d) changes (definition_keeps d e) f)

  -- ---- the entry

  -- in a transaction a commit comes first
  pub none_open : (open_now : Bool) → is_same_event event.Define (if open_now then event.Commit else event.Define) ≡ true → open_now ≡ false
  none_open true e = absurd (false≢true e)
  none_open false e = refl

  due_defined : (request : Request) → request_asked asked ≡ request → is_same_event event.Define (first_event (state_asked asked).transaction request) ≡ true → IsFree asked → Gives KeepsAll (defined_by asked request)
  due_defined (Defines d) e test free = defined_keeps (none_open (state_asked asked).transaction test) free d e
  due_defined _ e test free = tt

  pub define_keeps : (t : Told) → Gives KeepsAll (define_effect asked t)
  unfolding define_effect
  define_keeps t =
      due_gives KeepsAll event.Define asked _ (λ test.
      told_keeps carried asked due guarded (defined_by asked (request_asked asked)) (memory_effect asked) t (λ free. due_defined (request_asked asked) refl test (is_free asked free)) (memory_keeps carried asked due guarded))
