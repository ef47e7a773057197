-- Guards that are kept where tables only grow, and those of a session with no open statement.
use Rattle.std.specs.Prelude.{List, None, Option, Some, [], fold, length, option_to_list, refl, slice_get, slice_set, ℕ, ◌-◌, ◌∷◌, ◌≡◌}
use Rattle.std.proofs.Common.{ap, arith, inl, inr, subst, suc, sym, zero, ◌∙◌, ◌⊎◌}
use Rattle.std.proofs.lemmas.Option.{none-some, same_Some}
use Rattle.tt_plain.proofs.law.Lists.{every_at, every_from, every_on}
use Rattle.tt_plain.proofs.law.change.Tables.{table_at}
use Rattle.tt_plain.specs.asked.Carried.{Carried}
use Rattle.tt_plain.specs.declared.store.Plain.{Plain}
use Rattle.tt_plain.specs.declared.store.PlainMark.{PlainMark}
use Rattle.tt_plain.specs.declared.store.PlainOpen.{PlainOpen}
use Rattle.tt_plain.specs.declared.store.PlainPending.{PlainPending}
use Rattle.tt_plain.specs.declared.store.PlainSession.{PlainSession}
use Rattle.tt_plain.specs.declared.store.PlainTable.{PlainTable}
use Rattle.tt_plain.specs.effect.Apply.{applied, changed_session, changed_table}
use Rattle.tt_plain.specs.effect.Effect.{Effect}
use Rattle.tt_plain.specs.law.Isolated.{AreAmong, IsIsolatedPending, IsIsolatedTarget}
use Rattle.tt_plain.specs.law.Lists.{Every}
use Rattle.tt_plain.specs.law.Sound.{AreRowsOf, IsSound, IsSoundPending}
use Rattle.tt_plain.specs.opening.Seen.{changed_rows, pending_of, visible_rows}
use Rattle.tt_plain.specs.stored.Tables.{current_rows, table_numbered}
use Rattle.tt_script.specs.declared.script.Script.{Script}
use Rattle.tt_value.specs.declared.value.Row.{Row}
use Rattle.tt_value.specs.values.Bags.{bag_plus}
use Rattle.tt_plain_laws.proofs.guard.Among.{among_changed, among_plus, unless_none}
use Rattle.tt_plain_laws.proofs.guard.Grown.{AreNumbered, Grows, Spares, grows_by}
use Rattle.tt_plain_laws.specs.Guarded.{AreGuarded, IsGuarded, IsGuardedBy, lasting_marks, marks_lasting}

pub every_two : {A : Type 0} (P Q R : A → Type 0) (xs : List A) → ((x : A) → P x → Q x → R x) → Every P xs → Every Q xs → Every R xs
every_two P Q R [] on left right = tt
every_two P Q R (x ∷ xs) on left right = (on x left.0 right.0, every_two P Q R xs on left.1 right.1)

-- ---- a session with no open statement

-- what is pending is guarded by some marks, and what is gone is among the current rows and those that were added
abbrev pub IsAmongAll : Plain → PlainPending → Type 0
IsAmongAll store pending = (table : PlainTable) → table_numbered store pending.table ≡ Some table → AreAmong pending.gone (bag_plus (current_rows table) pending.added)

abbrev pub Rests : Plain → List PlainMark → PlainPending → Type 0
Rests store marks pending = IsGuardedBy marks pending × IsAmongAll store pending

pub rests_lasting : (store : Plain) (state : PlainSession) → IsGuarded store state → Every (Rests store (lasting_marks state)) state.pending
rests_lasting store state guarded =
    every_two (IsIsolatedPending store state) (IsGuardedBy (lasting_marks state)) (Rests store (lasting_marks state)) state.pending (λ pending isolated guard. (guard, isolated.among)) guarded.isolated.pending guarded.lasting

pub rests_now : (store : Plain) (state : PlainSession) → IsGuarded store state → Every (Rests store state.marks) state.pending
rests_now store state guarded =
    every_on (IsIsolatedPending store state) (Rests store state.marks) state.pending (λ pending isolated. ((isolated.marked, isolated.exclusive), isolated.among)) guarded.isolated.pending

pub rested : (store : Plain) (state : PlainSession) → state.running ≡ None → Every (Rests store state.marks) state.pending → IsGuarded store state
rested store state idle all = record {
  isolated = record {
    pending = every_on (Rests store state.marks) (IsIsolatedPending store state) state.pending (λ pending rests. record { marked = rests.0.0; exclusive = rests.0.1; among = rests.1 }) all;
    target = λ seen e. absurd (none-some seen (sym idle ∙ e));
  };
  lasting = subst (λ (marks : List PlainMark). Every (IsGuardedBy marks) state.pending) (sym (ap (marks_lasting state.marks) idle))
      (every_on (Rests store state.marks) (IsGuardedBy state.marks) state.pending (λ pending rests. rests.0) all);
}

-- a session without anything pending or open
pub bare : (store : Plain) (state : PlainSession) → state.running ≡ None → state.pending ≡ [] → IsGuarded store state
bare store state idle none = rested store state idle (subst (Every (Rests store state.marks)) (sym none) tt)

-- ---- over the same tables, and over tables that grow

module _ (store next : Plain) (state : PlainSession) where
  over_pending : next.tables ≡ store.tables → (pending : PlainPending) → IsIsolatedPending store state pending → IsIsolatedPending next state pending
  over_pending same pending isolated =
      record { marked = isolated.marked; exclusive = isolated.exclusive; among = λ table at. isolated.among table (sym (ap (λ (ts : List PlainTable). slice_get ts (pending.table - 1)) same) ∙ at) }

  over_target : next.tables ≡ store.tables → (target : ℕ × List Row) → IsIsolatedTarget store state target → IsIsolatedTarget next state target
  over_target same target isolated =
      record { marked = isolated.marked; exclusive = isolated.exclusive; among = λ table at. isolated.among table (sym (ap (λ (ts : List PlainTable). slice_get ts (target.0 - 1)) same) ∙ at) }

  pub guarded_over : next.tables ≡ store.tables → IsGuarded store state → IsGuarded next state
  guarded_over same guarded = record {
    isolated = record {
      pending = every_on (IsIsolatedPending store state) (IsIsolatedPending next state) state.pending (over_pending same) guarded.isolated.pending;
      target = λ seen e. every_on (IsIsolatedTarget store state) (IsIsolatedTarget next state) (option_to_list seen.target) (over_target same) (guarded.isolated.target seen e);
    };
    lasting = guarded.lasting;
  }

  grown_pending : Grows state store.tables next.tables → (pending : PlainPending) → IsSoundPending (length store.tables) pending → IsIsolatedPending store state pending → IsIsolatedPending next state pending
  grown_pending grows pending sound isolated = record {
    marked = isolated.marked;
    exclusive = isolated.exclusive;
    among = λ new at. unless_none pending.gone (bag_plus (current_rows new) pending.added) (λ some.
        let grown = grows.each pending.table new sound.0.0 sound.0.1 at in
        among_plus pending.gone (current_rows grown.old) (current_rows new) pending.added (isolated.among grown.old grown.was) (grown.more (isolated.exclusive some)));
  }

  more_visible : (old new : PlainTable) (rows : List Row) → new.number ≡ old.number → AreAmong (current_rows old) (current_rows new) → AreAmong rows (visible_rows state old) → AreAmong rows (visible_rows state new)
  unfolding visible_rows
  more_visible old new rows same more among =
      subst (λ (n : ℕ). AreAmong rows (changed_rows (current_rows new) (pending_of state n))) (sym same)
      (among_changed rows (current_rows old) (current_rows new) (pending_of state old.number) among more)

  grown_target : Grows state store.tables next.tables → (target : ℕ × List Row) → AreRowsOf (length store.tables) target → IsIsolatedTarget store state target → IsIsolatedTarget next state target
  grown_target grows target sound isolated = record {
    marked = isolated.marked;
    exclusive = isolated.exclusive;
    among = λ new at. unless_none target.1 (visible_rows state new) (λ some.
        let grown = grows.each target.0 new sound.0 sound.1 at in
        more_visible grown.old new target.1 grown.same (grown.more (isolated.exclusive some)) (isolated.among grown.old grown.was));
  }

  pub guarded_grown : Every (IsSoundPending (length store.tables)) state.pending → ((seen : PlainOpen) → state.running ≡ Some seen → Every (AreRowsOf (length store.tables)) (option_to_list seen.target))
      → Grows state store.tables next.tables → IsGuarded store state → IsGuarded next state
  guarded_grown rows targets grows guarded = record {
    isolated = record {
      pending = every_two (IsSoundPending (length store.tables)) (IsIsolatedPending store state) (IsIsolatedPending next state) state.pending (grown_pending grows) rows guarded.isolated.pending;
      target = λ seen e. every_two (AreRowsOf (length store.tables)) (IsIsolatedTarget store state) (IsIsolatedTarget next state) (option_to_list seen.target) (grown_target grows) (targets seen e)
          (guarded.isolated.target seen e);
    };
    lasting = guarded.lasting;
  }

-- ---- effects

-- The session that makes it is guarded afterwards, and no table that another has for itself loses a row.
pub record KeepsGuards (store : Plain) (effect : Effect) : Type 0 where
  pub own : (session : ℕ) (new : PlainSession) → effect.session ≡ Some (session, new) → (next : Plain) → next.tables ≡ fold changed_table store.tables effect.tables → IsGuarded next new
  pub others : (other : ℕ) (state : PlainSession) → slice_get store.sessions other ≡ Some state → ((new : PlainSession) → effect.session ≡ Some (other, new) → ⊥) → Every (Spares store.tables state) effect.tables

pub set_other : {A : Type 0} (xs : List A) (place : ℕ) (x : A) (k : ℕ) (y : A) → slice_get (slice_set xs place x) k ≡ Some y → ((k ≡ place) × (y ≡ x)) ⊎ ((k ≡ place → ⊥) × (slice_get xs k ≡ Some y))
set_other [] place x k y e = absurd (none-some y e)
set_other (z ∷ xs) zero x zero y e = inl (refl, sym (same_Some x y e))
set_other (z ∷ xs) zero x (suc k) y e = inr ((λ f. absurd (omega (arith, f))), e)
set_other (z ∷ xs) (suc place) x zero y e = inr ((λ f. absurd (omega (arith, f))), e)
set_other (z ∷ xs) (suc place) x (suc k) y e = elim (set_other xs place x k y e) [ inl h ↦ inl (ap suc h.0, h.1) | inr h ↦ inr ((λ f. h.0 (omega (arith, f))), h.1) ]

pub are_numbered : (carried : Carried) (program : Script) (store : Plain) → IsSound carried program store → AreNumbered store.tables
are_numbered carried program store sound place table at = (table_at store.moment (length store.tables) 1 place store.tables table sound.tables at).numbered ∙ omega arith

module _ (carried : Carried) (program : Script) (store : Plain) (effect : Effect) (sound : IsSound carried program store) (keeps : KeepsGuards store effect) (guarded : AreGuarded store) where
  other_guarded : (next : Plain) → next.tables ≡ fold changed_table store.tables effect.tables → (other : ℕ) (state : PlainSession) → slice_get store.sessions other ≡ Some state
      → ((new : PlainSession) → effect.session ≡ Some (other, new) → ⊥) → IsGuarded next state
  other_guarded next is other state at apart =
      let here = sound.each other state at in
      guarded_grown store next state here.rows (λ seen e. (here.running seen e).target)
      (subst (Grows state store.tables) (sym is) (grows_by state store.tables effect.tables (are_numbered carried program store sound) (keeps.others other state at apart)))
      (every_at (IsGuarded store) store.sessions other state guarded at)

  each_guarded : (next : Plain) → next.tables ≡ fold changed_table store.tables effect.tables → (change : Option (ℕ × PlainSession)) → effect.session ≡ change → (place : ℕ) (state : PlainSession)
      → slice_get (changed_session store.sessions change) place ≡ Some state → IsGuarded next state
  each_guarded next is None e place state at = other_guarded next is place state at (λ new f. none-some (place, new) (sym e ∙ f))
  each_guarded next is (Some change) e place state at = elim (set_other store.sessions change.0 change.1 place state at) [
    | inl h ↦ subst (IsGuarded next) (sym h.1) (keeps.own change.0 change.1 e next is)
    | inr h ↦ other_guarded next is place state h.1 (λ new f. h.0 (ap (λ (c : ℕ × PlainSession). c.0) (sym (same_Some change (place, new) (sym e ∙ f)))))
  ]

  pub effect_guarded : AreGuarded (applied store effect)
  unfolding applied
  effect_guarded =
      every_from (IsGuarded (applied store effect)) (changed_session store.sessions effect.session) (λ place state at. each_guarded (applied store effect) refl effect.session refl place state at)
