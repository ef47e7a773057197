-- Rounds: where a session has a table for itself, none lands on it.
use Rattle.std.specs.Prelude.{List, None, Option, Some, [], filter, is_none, not, option_map, refl, slice_get, true, ℕ, ◌&&◌, ◌++◌, ◌+◌, ◌-◌, ◌==◌, ◌∷◌, ◌≡◌}
use Rattle.std.proofs.Common.{ap, arith, subst, sym, ◌∙◌}
use Rattle.std.proofs.lemmas.Bool.{and_parts}
use Rattle.std.proofs.lemmas.Option.{none-some}
use Rattle.tt_history.specs.declared.history.Added.{Added}
use Rattle.tt_history.specs.declared.history.EntryKind.{EntryKind}
use Rattle.tt_history.specs.declared.history.Miss.TheVariants as miss
use Rattle.tt_plain.proofs.Answers.{bind_some, only_if_some}
use Rattle.tt_plain.proofs.Tests.{none_is, same_number}
use Rattle.tt_plain.proofs.law.Gives.{Gives, gives_bind, gives_tested, gives_when}
use Rattle.tt_plain.proofs.law.Lists.{every-append}
use Rattle.tt_plain.proofs.law.session.Marks.{others_free}
use Rattle.tt_plain.specs.Answers.{◌>>=◌}
use Rattle.tt_plain.specs.asked.Carried.{Carried}
use Rattle.tt_plain.specs.declared.store.Plain.{Plain}
use Rattle.tt_plain.specs.declared.store.PlainSession.{PlainSession}
use Rattle.tt_plain.specs.declared.store.PlainTable.{PlainTable}
use Rattle.tt_plain.specs.declared.tally.Tally.{Tally}
use Rattle.tt_plain.specs.declared.tally.TallyRound.{TallyRound}
use Rattle.tt_plain.specs.effect.Effect.{Effect}
use Rattle.tt_plain.specs.effect.Landing.{lands_with, round_end_effect}
use Rattle.tt_plain.specs.effect.Miss.{may_miss, round_miss_effect}
use Rattle.tt_plain.specs.effect.Purge.{may_purge, purge_effect}
use Rattle.tt_plain.specs.effect.Round.{may_be_reclustered, miss_of, misses, round_of, worker_effect}
use Rattle.tt_plain.specs.effect.RoundStart.{may_take, round_start_effect}
use Rattle.tt_plain.specs.history.Step.{purge_entry, round_entry}
use Rattle.tt_plain.specs.law.Sound.{IsSound}
use Rattle.tt_plain.specs.refusal.{first_some, head_of}
use Rattle.tt_plain.specs.stored.Sessions.{has_exclusive_mark, sessions_with}
use Rattle.tt_plain.specs.stored.Tables.{table_numbered}
use Rattle.tt_plain.specs.tally.Changes.{AddsParts, EndsRound, StartsRound, TakesAway, TallyChange}
use Rattle.tt_plain.specs.tally.Parts.{numbers_added}
use Rattle.tt_plain.specs.tally.Pending.{layout_begun}
use Rattle.tt_plain_laws.proofs.entry.Starts.{nothing_first}
use Rattle.tt_plain_laws.proofs.guard.Kept.{are_numbered}
use Rattle.tt_plain_laws.proofs.parts.Added.{get_some}
use Rattle.tt_script.specs.declared.script.Script.{Script}
use Rattle.tt_target_laws.proofs.Spared.{Spares, begun_spares}
use Rattle.tt_target_laws.proofs.Targets.{Leaves, SparesOthers}
use Rattle.tt_history.specs.declared.history.EntryKind.TheVariants as kind

no_holder : (xs : List ℕ) → option_map miss.Held (head_of xs) ≡ None → xs ≡ []
no_holder [] e = refl
no_holder (x ∷ xs) e = absurd (none-some (miss.Held x) (sym e))

module _ (carried : Carried) (program : Script) (store : Plain) (sound : IsSound carried program store) where
  abbrev KeepsHere : Effect → Type 0
  KeepsHere effect = Leaves carried program store effect

  abbrev tally : Tally
  tally = store.tally

  worker_leaves : (changes : List TallyChange) → SparesOthers store None changes → KeepsHere (worker_effect store changes)
  worker_leaves changes spares = record { own = λ session new e. absurd (none-some (session, new) e); others = spares }

  nobody : (number : ℕ) → sessions_with (has_exclusive_mark number) store ≡ [] → (other : ℕ) (state : PlainSession) → slice_get store.sessions other ≡ Some state → has_exclusive_mark number state ≡ true → ⊥
  nobody number none other state at e =
      absurd (omega (arith, others_free (has_exclusive_mark number) store (other + 1) other state (ap (filter (λ n. not (n == other + 1))) none) at e))

  nobody_has : (round : TallyRound) (table : PlainTable) → miss_of store round ≡ None → table_numbered store round.table ≡ Some table → sessions_with (has_exclusive_mark table.number) store ≡ []
  unfolding miss_of
  nobody_has round table free at =
      no_holder (sessions_with (has_exclusive_mark table.number) store)
      (nothing_first (misses store round table) 2 _ (sym (ap (λ (o : Option PlainTable). o >>= λ table. first_some (misses store round table)) at) ∙ free) refl)

  landed_leaves : (round : TallyRound) (table : ℕ) → table ≡ round.table → (gone : List ℕ) (added : List Added) → miss_of store round ≡ None
      → KeepsHere (worker_effect store (AddsParts table added ∷ layout_begun tally (store.moment + 1) table gone (numbers_added added) ++ EndsRound ∷ []))
  landed_leaves round table is gone added free =
      worker_leaves (AddsParts table added ∷ layout_begun tally (store.moment + 1) table gone (numbers_added added) ++ EndsRound ∷ []) (λ other held_by at apart t first within held. (
        tt,
        every-append (Spares tally other t) (layout_begun tally (store.moment + 1) table gone (numbers_added added)) (EndsRound ∷ []) (begun_spares tally other t (store.moment + 1) table gone (numbers_added added) (λ same some.
            let there = get_some store.tables (t - 1) (omega (arith, first, within)) in
            let number : t ≡ there.0.number = omega (arith, are_numbered carried program store sound (t - 1) there.0 there.1, first) in
            let found : table_numbered store round.table ≡ Some there.0 = ap (table_numbered store) (sym is) ∙ ap (slice_get store.tables) same ∙ there.1 in
            nobody there.0.number (nobody_has round there.0 free found) other held_by at (subst (λ (n : ℕ). has_exclusive_mark n held_by ≡ true) number held))) (tt, tt),
      ))

  table_of_round : (index table : ℕ) (round : TallyRound) → round_of store index table ≡ Some round → table ≡ round.table
  table_of_round index table round e =
      let found = bind_some tally.round _ round e in
      let same = only_if_some (index == tally.rounds && table == found.0.table) found.0 round found.2 in
      subst (λ (r : TallyRound). table ≡ r.table) same.1 (same_number table found.0.table (and_parts (index == tally.rounds) (table == found.0.table) same.0).1)

  pub round_leaves : (index : ℕ) (k : EntryKind) → Gives KeepsHere (round_entry store index k)
  unfolding round_entry round_start_effect round_end_effect round_miss_effect
  round_leaves index (kind.RecluStart number parts) =
      gives_tested KeepsHere (is_none tally.round && index == tally.rounds + 1) index _ (λ next.
      gives_bind KeepsHere (table_numbered store number) _ (λ table there.
      gives_tested KeepsHere (may_be_reclustered store table && may_take tally number parts) table _ (λ free.
      gives_bind KeepsHere table.key _ (λ key has_key.
      worker_leaves (StartsRound (record { table = number; key = key; parts = parts }) ∷ []) (λ other held_by at apart t first within held. (tt, tt))))))
  round_leaves index (kind.RecluEnd table gone added) =
      gives_bind KeepsHere (round_of store index table) _ (λ round there.
      gives_tested KeepsHere (is_none (miss_of store round) && lands_with tally round gone added) round _ (λ lands.
      landed_leaves round table (table_of_round index table round there) gone added (none_is (miss_of store round) (and_parts (is_none (miss_of store round)) (lands_with tally round gone added) lands).0)))
  round_leaves index (kind.RecluMiss table why) =
      gives_bind KeepsHere (round_of store index table) _ (λ round there.
      gives_tested KeepsHere (may_miss (miss_of store round) why) round _ (λ missed. worker_leaves (EndsRound ∷ []) (λ other held_by at apart t first within held. (tt, tt))))
  round_leaves index _ = tt

  pub purge_leaves : (index : ℕ) (k : EntryKind) → Gives KeepsHere (purge_entry store index k)
  unfolding purge_entry purge_effect
  purge_leaves index (kind.Purge parts) =
      gives_when KeepsHere (index == tally.purges + 1 && may_purge store parts) _ (λ test. worker_leaves (TakesAway parts ∷ []) (λ other held_by at apart t first within held. (tt, tt)))
  purge_leaves index _ = tt
