-- Effects that change no table: a session's, and a worker's.
use Rattle.std.specs.Prelude.{List, Option, Some, [], fold, length, refl, slice_get, slice_set, true, ℕ, ◌+◌, ◌<◌, ◌^◌, ◌∷◌, ◌≡◌, ◌≤◌}
use Rattle.std.proofs.Common.{ap, arith, inl, inr, subst, suc, sym, zero, ◌∙◌, ◌⊎◌}
use Rattle.std.proofs.lemmas.Option.{same_Some}
use Rattle.tt_history.specs.declared.reply.Reply.{Reply}
use Rattle.tt_plain.specs.asked.Asked.{Asked, state_asked}
use Rattle.tt_plain.specs.asked.Carried.{Carried}
use Rattle.tt_plain.specs.asked.Turns.{statement_read}
use Rattle.tt_plain.specs.declared.store.Plain.{Plain}
use Rattle.tt_plain.specs.declared.store.PlainSession.{PlainSession}
use Rattle.tt_plain.specs.effect.Apply.{applied}
use Rattle.tt_plain.specs.effect.End.{kept}
use Rattle.tt_plain.specs.effect.Round.{worker_effect}
use Rattle.tt_plain.specs.law.Changes.{AreSoundTallyChanges, IsSoundEffect}
use Rattle.tt_plain.specs.law.Sound.{HaveOneHolder, IsSound, IsSoundSession}
use Rattle.tt_plain.specs.stored.Sessions.{has_exclusive_mark}
use Rattle.tt_plain.specs.tally.Changes.{TallyChange, changed_tally}
use Rattle.tt_script.specs.declared.script.Script.{Script}

pub set_at : {A : Type 0} (xs : List A) (place : ℕ) (x : A) (k : ℕ) (y : A) → slice_get (slice_set xs place x) k ≡ Some y → ((k ≡ place) × (y ≡ x)) ⊎ (slice_get xs k ≡ Some y)
set_at [] place x k y e = inr e
set_at (z ∷ xs) zero x zero y e = inl (refl, sym (same_Some x y e))
set_at (z ∷ xs) zero x (suc k) y e = inr e
set_at (z ∷ xs) (suc place) x zero y e = inr e
set_at (z ∷ xs) (suc place) x (suc k) y e = elim (set_at xs place x k y e) [ inl h ↦ inl (ap suc h.0, h.1) | inr h ↦ inr h ]

-- a session's entry that is due: at the next moment of a sound store
pub record IsDue (carried : Carried) (asked : Asked) : Type 0 where
  pub sound : IsSound carried asked.program asked.store
  pub next : asked.moment ≡ asked.store.moment + 1
  pub at : slice_get asked.store.sessions asked.session ≡ Some (state_asked asked)

-- the statement that is asked is the one behind those that are done
pub record IsSaid (carried : Carried) (asked : Asked) : Type 0 where
  pub counted : asked.index ≡ (state_asked asked).done + 1
  pub said : statement_read carried asked.program asked.session asked.index ≡ Some asked.read

-- of no table another session has an exclusive mark beside one of these
abbrev pub StandsAlone : Asked → PlainSession → Type 0
StandsAlone asked new = (table other : ℕ) (state : PlainSession) → has_exclusive_mark table new ≡ true → slice_get asked.store.sessions other ≡ Some state →
    has_exclusive_mark table state ≡ true → other ≡ asked.session

module _ (carried : Carried) (asked : Asked) (due : IsDue carried asked) where
  -- the session as it is
  pub state_sound : IsSoundSession carried asked.program asked.store.tables asked.session (state_asked asked)
  state_sound = due.sound.each asked.session (state_asked asked) due.at

  -- no mark more than the session has
  pub no_more_marks : (new : PlainSession) → ((table : ℕ) → has_exclusive_mark table new ≡ true → has_exclusive_mark table (state_asked asked) ≡ true) → StandsAlone asked new
  no_more_marks new kept table other state marked there held =
      due.sound.holders table other asked.session state (state_asked asked) there due.at held (kept table marked)

  pub holders_set : (new : PlainSession) → StandsAlone asked new → (table : ℕ) → HaveOneHolder (slice_set asked.store.sessions asked.session new) table
  holders_set new alone table a b first second at there left right =
      elim (set_at asked.store.sessions asked.session new a first at) [
        | inl h ↦ elim (set_at asked.store.sessions asked.session new b second there) [
          | inl k ↦ h.0 ∙ sym k.0
          | inr k ↦ h.0 ∙ sym (alone table b second (subst (λ (s : PlainSession). has_exclusive_mark table s ≡ true) h.1 left) k right)
        ]
        | inr h ↦ elim (set_at asked.store.sessions asked.session new b second there) [
          | inl k ↦ alone table a first (subst (λ (s : PlainSession). has_exclusive_mark table s ≡ true) k.1 right) h left ∙ sym k.0
          | inr k ↦ due.sound.holders table a b first second h k left right
        ]
      ]

  -- an effect that changes no table and begins no layout
  pub alone_sound : (new : PlainSession) (points : List (ℕ × ℕ)) (tally : List TallyChange) (moment : ℕ) (reply : Option Reply)
      → asked.moment ≤ moment → moment < 2 ^ 62 → IsSoundSession carried asked.program asked.store.tables asked.session new → StandsAlone asked new
      → AreSoundTallyChanges moment asked.store.tally tally → (fold changed_tally asked.store.tally tally).layouts ≡ asked.store.tally.layouts
      → IsSoundEffect carried asked.program asked.store (record { session = Some (asked.session, new); tables = []; points = points; tally = tally; moment = moment; reply = reply })
  unfolding applied
  alone_sound new points tally moment reply later time sound alone changes layouts = record {
    later = omega (arith, later, due.next);
    time = time;
    tables = tt;
    tally = changes;
    paired = ap (λ (ls : List (List (ℕ × List ℕ))). length ls) layouts ∙ due.sound.layouts;
    each = λ session state at. elim (set_at asked.store.sessions asked.session new session state at) [
      | inl h ↦ subst (λ (s : PlainSession). IsSoundSession carried asked.program asked.store.tables session s) (sym h.1)
          (subst (λ (n : ℕ). IsSoundSession carried asked.program asked.store.tables n new) (sym h.0) sound)
      | inr h ↦ due.sound.each session state h
    ];
    holders = holders_set new alone;
  }

-- a worker's effect that changes no number of tables with layouts
pub worker_sound : (carried : Carried) (program : Script) (store : Plain) (tally : List TallyChange) → IsSound carried program store → store.moment + 1 < 2 ^ 62
    → AreSoundTallyChanges (store.moment + 1) store.tally tally → length (fold changed_tally store.tally tally).layouts ≡ length store.tally.layouts
    → IsSoundEffect carried program store (worker_effect store tally)
unfolding applied
worker_sound carried program store tally sound time changes layouts = record {
  later = omega arith;
  time = time;
  tables = tt;
  tally = changes;
  paired = layouts ∙ sound.layouts;
  each = sound.each;
  holders = sound.holders;
}
