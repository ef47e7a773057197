-- The entries of workers: rounds and purges.
use Rattle.std.specs.List.{range_with_len}
use Rattle.std.specs.Prelude.{List, None, Option, Some, [], bytes_eq, fold, is_none, length, nat_le, nat_lt, refl, slice_get, true, unwrap_or, ℕ, ◌&&◌, ◌++◌, ◌+◌, ◌-◌, ◌==◌, ◌∷◌, ◌≡◌, ◌≤◌}
use Rattle.std.proofs.Common.{arith, length-set, subst, suc, sym, zero, ◌∙◌}
use Rattle.std.proofs.lemmas.Bool.{and_parts, ltb-true}
use Rattle.tt_history.specs.declared.history.Added.{Added}
use Rattle.tt_history.specs.declared.history.Miss.{Miss}
use Rattle.tt_layout.proofs.Ascending.{ascends-changed}
use Rattle.tt_layout.proofs.ChainLaws.{current_ascends}
use Rattle.tt_layout.specs.Numbers.{AscendsFrom, IsAscending}
use Rattle.tt_plain.proofs.law.session.Alone.{worker_sound}
use Rattle.tt_plain.proofs.law.Gives.{Gives, gives_bind, gives_tested, gives_when}
use Rattle.tt_plain.proofs.law.Lists.{every_at}
use Rattle.tt_plain.proofs.law.entry.SessionAlone.{SoundIn}
use Rattle.tt_plain.proofs.law.change.TallyChanges.{next_numbers, tally_later}
use Rattle.tt_plain.specs.asked.Carried.{Carried}
use Rattle.tt_plain.specs.declared.store.Plain.{Plain}
use Rattle.tt_plain.specs.declared.tally.Tally.{Tally}
use Rattle.tt_plain.specs.effect.Effect.{Effect}
use Rattle.tt_plain.specs.effect.Landing.{lands_with, round_end_effect}
use Rattle.tt_plain.specs.effect.Miss.{may_miss, round_miss_effect}
use Rattle.tt_plain.specs.effect.Purge.{may_purge, purge_effect}
use Rattle.tt_plain.specs.effect.Round.{may_be_reclustered, miss_of, round_of, worker_effect}
use Rattle.tt_plain.specs.effect.RoundStart.{may_take, round_start_effect}
use Rattle.tt_plain.specs.law.Changes.{AreSoundTallyChanges}
use Rattle.tt_plain.specs.law.Lists.{Every}
use Rattle.tt_plain.specs.law.Sound.{AreSoundLayouts, IsSound, IsSoundTally}
use Rattle.tt_plain.specs.stored.Tables.{table_numbered}
use Rattle.tt_plain.specs.tally.Changes.{AddsParts, EndsRound, StartsRound, TakesAway, TallyChange, changed_tally}
use Rattle.tt_plain.specs.tally.Layouts.{current_parts, is_ascending}
use Rattle.tt_plain.specs.tally.Parts.{are_next_parts, numbers_added}
use Rattle.tt_plain.specs.tally.Pending.{layout_begun}
use Rattle.tt_script.specs.declared.script.Script.{Script}
use Rattle.tt_layout.specs.Chain as chain

-- a list that ascends by its test ascends from its least number
ascending_from : (numbers : List ℕ) (n low : ℕ) → low ≤ n → is_ascending (n ∷ numbers) ≡ true → AscendsFrom low (n ∷ numbers)
ascending_from [] n low le e = (le, tt)
ascending_from (m ∷ numbers) n low le e =
    let both = and_parts (nat_lt n m) (is_ascending (m ∷ numbers)) e in
    (le, ascending_from numbers m (n + 1) (omega (arith, ltb-true n m both.0)) both.1)

pub ascends : (numbers : List ℕ) → is_ascending numbers ≡ true → IsAscending numbers
ascends [] e = tt
ascends (n ∷ numbers) e = ascending_from numbers n 0 (omega arith) e

-- the numbers of parts that are added ascend
range_ascends : (number count low : ℕ) → low ≤ number → AscendsFrom low (range_with_len number count)
range_ascends number zero low le = tt
range_ascends number (suc count) low le = (le, range_ascends (number + 1) count (number + 1) (omega arith))

pub added_ascend : (tally : Tally) (added : List Added) → are_next_parts tally added ≡ true → IsAscending (numbers_added added)
added_ascend tally added e =
    subst IsAscending (sym (next_numbers tally added e)) (range_ascends (length tally.parts + 1) (length added) 0 (omega arith))

-- the current layout of a table ascends
current_up : (moment : ℕ) (layouts : List (List (ℕ × List ℕ))) (place : ℕ) → Every (AreSoundLayouts moment) layouts
    → (found : Option (List (ℕ × List ℕ))) → slice_get layouts place ≡ found → IsAscending (chain.current_of (unwrap_or found []))
current_up moment layouts place all None e = tt
current_up moment layouts place all (Some found) e = current_ascends found (every_at (AreSoundLayouts moment) layouts place found all e).0.1

pub current_parts_ascend : (moment : ℕ) (tally : Tally) (table : ℕ) → IsSoundTally moment tally → IsAscending (current_parts tally table)
current_parts_ascend moment tally table sound = current_up moment tally.layouts (table - 1) sound.layouts (slice_get tally.layouts (table - 1)) refl

-- a layout that begins is sound, and leaves as many tables with layouts
pub begun_sound : (moment : ℕ) (tally after : Tally) (table : ℕ) (gone added : List ℕ) (later : List TallyChange) → IsSoundTally moment tally → IsAscending added
    → ((t : Tally) → AreSoundTallyChanges moment t later) → AreSoundTallyChanges moment after (layout_begun tally moment table gone added ++ later)
begun_sound moment tally after table [] [] later sound up rest = rest after
begun_sound moment tally after table [] (n ∷ added) later sound up rest =
    ((refl, ascends-changed (current_parts tally table) [] (n ∷ added) (current_parts_ascend moment tally table sound) up), rest _)
begun_sound moment tally after table (n ∷ gone) added later sound up rest =
    ((refl, ascends-changed (current_parts tally table) (n ∷ gone) added (current_parts_ascend moment tally table sound) up), rest _)

pub same_many : (moment : ℕ) (tally after : Tally) (table : ℕ) (gone added : List ℕ) (later : List TallyChange)
    → ((t : Tally) → length (fold changed_tally t later).layouts ≡ length t.layouts) → length (fold changed_tally after (layout_begun tally moment table gone added ++ later)).layouts ≡ length after.layouts
same_many moment tally after table [] [] later rest = rest after
same_many moment tally after table [] (n ∷ added) later rest = rest _ ∙ length-set after.layouts (table - 1) _
same_many moment tally after table (n ∷ gone) added later rest = rest _ ∙ length-set after.layouts (table - 1) _

module _ (carried : Carried) (program : Script) (store : Plain) (sound : IsSound carried program store) where
  abbrev Sound : Effect → Type 0
  Sound effect = SoundIn carried program store effect

  at_next : IsSoundTally (store.moment + 1) store.tally
  at_next = tally_later store.moment (store.moment + 1) store.tally (omega arith) sound.tally

  pub round_start_sound : (index number : ℕ) (parts : List ℕ) → Gives Sound (round_start_effect store index number parts)
  unfolding round_start_effect
  round_start_sound index number parts =
      gives_tested Sound (is_none store.tally.round && index == store.tally.rounds + 1) index _ (λ next.
      gives_bind Sound (table_numbered store number) _ (λ table there.
      gives_tested Sound (may_be_reclustered store table && may_take store.tally number parts) table _ (λ free.
      gives_bind Sound table.key _ (λ key has_key. λ time.
      let taken = (and_parts (may_be_reclustered store table) (may_take store.tally number parts) free).1 in
      let counted = (and_parts (nat_le 1 number && is_ascending parts && nat_le 2 (length parts) && nat_le (length parts) 16) _ taken).0 in
      let up = and_parts (nat_le 1 number) (is_ascending parts) (and_parts (nat_le 1 number && is_ascending parts) _ (and_parts (nat_le 1 number && is_ascending parts && nat_le 2 (length parts)) _ counted).0).0 in
      worker_sound carried program store (StartsRound (record { table = number; key = key; parts = parts }) ∷ []) sound time (ascends parts up.1, tt) refl))))

  pub round_end_sound : (index table : ℕ) (gone : List ℕ) (added : List Added) → Gives Sound (round_end_effect store index table gone added)
  unfolding round_end_effect
  round_end_sound index table gone added =
      gives_bind Sound (round_of store index table) _ (λ round there.
      gives_tested Sound (is_none (miss_of store round) && lands_with store.tally round gone added) round _ (λ lands. λ time.
      let facts = and_parts (bytes_eq gone round.parts) _ (and_parts (bytes_eq gone round.parts && are_next_parts store.tally added) _ (and_parts (is_none (miss_of store round)) (lands_with store.tally round gone added) lands).1).0 in
      worker_sound carried program store (AddsParts table added ∷ layout_begun store.tally (store.moment + 1) table gone (numbers_added added) ++ EndsRound ∷ []) sound time
      (facts.1, begun_sound (store.moment + 1) store.tally _ table gone (numbers_added added) (EndsRound ∷ []) at_next (added_ascend store.tally added facts.1) (λ t. (tt, tt)))
      (same_many (store.moment + 1) store.tally _ table gone (numbers_added added) (EndsRound ∷ []) (λ t. refl))))

  pub round_miss_sound : (index table : ℕ) (why : Miss) → Gives Sound (round_miss_effect store index table why)
  unfolding round_miss_effect
  round_miss_sound index table why =
      gives_bind Sound (round_of store index table) _ (λ round there.
      gives_tested Sound (may_miss (miss_of store round) why) round _ (λ missed. λ time. worker_sound carried program store (EndsRound ∷ []) sound time (tt, tt) refl))

  pub purge_sound : (index : ℕ) (parts : List ℕ) → Gives Sound (purge_effect store index parts)
  unfolding purge_effect
  purge_sound index parts =
      gives_when Sound (index == store.tally.purges + 1 && may_purge store parts) (worker_effect store (TakesAway parts ∷ [])) (λ test. λ time.
      let up = and_parts (is_ascending parts) _ (and_parts (is_ascending parts && nat_lt 0 (length parts)) _ (and_parts (index == store.tally.purges + 1) (may_purge store parts) test).1).0 in
      worker_sound carried program store (TakesAway parts ∷ []) sound time (ascends parts up.0, tt) refl)
