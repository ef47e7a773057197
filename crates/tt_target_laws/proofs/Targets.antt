-- What each effect has to meet so that the targets of open changes stay.
use Rattle.std.specs.Prelude.{List, None, Option, Some, fold, length, option_map, refl, slice_get, true, ℕ, ◌≡◌, ◌≤◌}
use Rattle.std.proofs.Common.{ap, arith, inl, inr, subst, sym, ◌∙◌}
use Rattle.std.proofs.lemmas.Option.{none-some}
use Rattle.std.specs.Prelude.{option_to_list}
use Rattle.tt_plain.specs.asked.Carried.{Carried}
use Rattle.tt_plain.specs.asked.Request.{Writes, request_of}
use Rattle.tt_plain.specs.asked.Turns.{statement_read}
use Rattle.tt_plain.specs.declared.store.Plain.{Plain}
use Rattle.tt_plain.specs.declared.store.PlainOpen.{PlainOpen}
use Rattle.tt_plain.specs.declared.store.PlainSession.{PlainSession}
use Rattle.tt_plain.specs.declared.tally.Tally.{Tally}
use Rattle.tt_plain.specs.effect.Apply.{applied, changed_session}
use Rattle.tt_plain.specs.effect.Effect.{Effect}
use Rattle.tt_plain.specs.law.Lists.{Every}
use Rattle.tt_plain.specs.law.Sound.{AreRowsOf, IsSound}
use Rattle.tt_plain.specs.opening.Marks.{marks_exclusively}
use Rattle.tt_plain.specs.stored.Sessions.{has_exclusive_mark}
use Rattle.tt_plain.specs.tally.Changes.{TallyChange, changed_tally}
use Rattle.tt_plain_laws.proofs.guard.Kept.{set_other}
use Rattle.tt_script.specs.declared.script.Script.{Script}
use Rattle.tt_sql.specs.declared.change.Dml.{Dml}
use Rattle.tt_stock_laws.proofs.Supplied.{Stocks}
use Rattle.tt_target_laws.proofs.Spared.{Spares, spared_sees}
use Rattle.tt_target_laws.specs.Targets.{SeesPinned}
use Rattle.tt_value.specs.declared.value.Row.{Row}

-- an UPDATE or a DELETE that a session has open sees what it has pinned of its target
abbrev pub SeesTarget : Carried → Script → Tally → ℕ → PlainSession → Type 0
SeesTarget carried program tally session state =
    (seen : PlainOpen) (d : Dml) (target : ℕ × List Row) → state.running ≡ Some seen → option_map request_of (statement_read carried program session seen.index) ≡ Some (Writes d) →
    marks_exclusively d ≡ true → seen.target ≡ Some target → SeesPinned tally session target.0

abbrev pub SeeTargets : Carried → Script → Plain → Type 0
SeeTargets carried program store = (session : ℕ) (state : PlainSession) → slice_get store.sessions session ≡ Some state → SeesTarget carried program store.tally session state

pub idle_sees : (carried : Carried) (program : Script) (tally : Tally) (session : ℕ) (state : PlainSession) → state.running ≡ None → SeesTarget carried program tally session state
idle_sees carried program tally session state idle seen d target e said exclusive is = absurd (none-some seen (sym idle ∙ e))

-- changes that spare each table which a session, other than the one that makes them, has for itself
abbrev pub SparesOthers : Plain → Option ℕ → List TallyChange → Type 0
SparesOthers store by changes =
    (other : ℕ) (held_by : PlainSession) → slice_get store.sessions other ≡ Some held_by → (by ≡ Some other → ⊥) → (table : ℕ) → 1 ≤ table → table ≤ length store.tables → has_exclusive_mark table held_by ≡ true →
    Every (Spares store.tally other table) changes

pub record Leaves (carried : Carried) (program : Script) (store : Plain) (effect : Effect) : Type 0 where
  pub own : (session : ℕ) (new : PlainSession) → effect.session ≡ Some (session, new) → SeesTarget carried program (fold changed_tally store.tally effect.tally) session new
  pub others : SparesOthers store (option_map (λ (change : ℕ × PlainSession). change.0) effect.session) effect.tally

module _ (carried : Carried) (program : Script) (store : Plain) (effect : Effect) (sound : IsSound carried program store) (stocks : Stocks carried program store) (leaves : Leaves carried program store effect) (sees : SeeTargets carried program store) where
  other_sees : (other : ℕ) (held_by : PlainSession) → slice_get store.sessions other ≡ Some held_by → (option_map (λ (change : ℕ × PlainSession). change.0) effect.session ≡ Some other → ⊥)
      → SeesTarget carried program (fold changed_tally store.tally effect.tally) other held_by
  other_sees other held_by at apart seen d target running said exclusive is =
      let there : (1 ≤ target.0) × (target.0 ≤ length store.tables) =
      let rows = (subst (λ (o : Option (ℕ × List Row)). Every (AreRowsOf (length store.tables)) (option_to_list o)) is ((sound.each other held_by at).running seen running).target).0 in (rows.0, rows.1) in
      spared_sees store.tally other target.0 effect.tally (omega (arith, there.0, there.1, sound.layouts))
      (leaves.others other held_by at apart target.0 there.0 there.1 (stocks.held other held_by at seen d target running said is exclusive))
      (sees other held_by at seen d target running said exclusive is)

  each_sees : (change : Option (ℕ × PlainSession)) → effect.session ≡ change → (place : ℕ) (state : PlainSession) → slice_get (changed_session store.sessions change) place ≡ Some state
      → SeesTarget carried program (fold changed_tally store.tally effect.tally) place state
  each_sees None e place state at = other_sees place state at (λ f. none-some place (sym (ap (option_map (λ (change : ℕ × PlainSession). change.0)) e) ∙ f))
  each_sees (Some change) e place state at = elim (set_other store.sessions change.0 change.1 place state at) [
    | inl h ↦ subst (λ (n : ℕ). SeesTarget carried program (fold changed_tally store.tally effect.tally) n state) (sym h.0)
        (subst (SeesTarget carried program (fold changed_tally store.tally effect.tally) change.0) (sym h.1) (leaves.own change.0 change.1 e))
    | inr h ↦ other_sees place state h.1 (λ f. h.0 (same_place (sym (ap (option_map (λ (change : ℕ × PlainSession). change.0)) e) ∙ f)))
  ]
    where
      same_place : Some change.0 ≡ Some place → place ≡ change.0
      same_place f = cc

  pub effect_sees : SeeTargets carried program (applied store effect)
  unfolding applied
  effect_sees session state at = each_sees effect.session refl session state at
