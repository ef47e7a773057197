-- After each legal history the contents of the parts form the bags.
use Rattle.std.specs.Prelude.{List, None, Option, Some, [], fold, map, refl, slice_get, unwrap_or, ℕ, ◌++◌, ◌==◌, ◌∷◌, ◌≡◌}
use Rattle.std.proofs.Common.{ap, arith, subst, suc, sym, zero, ◌∙◌}
use Rattle.std.proofs.lemmas.Bool.{false≢true}
use Rattle.std.proofs.lemmas.Option.{none-some, same_Some}
use Rattle.tt_history.specs.declared.reply.Reply.{Reply}
use Rattle.tt_history.specs.declared.history.Actor.{Actor}
use Rattle.tt_history.specs.declared.history.Added.{Added}
use Rattle.tt_history.specs.declared.history.Entry.{Entry}
use Rattle.tt_history.specs.declared.history.EntryKind.{EntryKind}
use Rattle.tt_plain.proofs.Answers.{bind_some, only_if_some}
use Rattle.tt_plain.proofs.law.Gives.{Gives, gives_at}
use Rattle.tt_plain.proofs.law.Histories.{legal_sound}
use Rattle.tt_plain.specs.asked.Carried.{Carried}
use Rattle.tt_plain.specs.declared.store.Plain.{Plain}
use Rattle.tt_plain.specs.declared.store.PlainSession.{PlainSession}
use Rattle.tt_plain.specs.effect.Apply.{applied}
use Rattle.tt_plain.specs.effect.Effect.{Effect}
use Rattle.tt_plain.specs.history.Contents.{contents_of, contents_with, parts_added, pieces_of_lengths, rows_by_actor}
use Rattle.tt_plain.specs.history.Replay.{next_store, pairs_from, pairs_of, store_after, store_or}
use Rattle.tt_plain.specs.history.Step.{actor_entry, effect_of, step_of}
use Rattle.tt_plain.specs.history.TrueFacts.{RemovesTouched, parts_to_remove}
use Rattle.tt_plain.specs.law.Changes.{IsSoundEffect}
use Rattle.tt_plain.specs.law.Sound.{IsSound}
use Rattle.tt_plain.specs.stored.Empty.{empty_store}
use Rattle.tt_plain.specs.stored.Sessions.{new_session}
use Rattle.tt_script.specs.declared.script.Script.{Script}
use Rattle.tt_script.specs.declared.script.SessionText.{SessionText}
use Rattle.tt_value.specs.declared.value.Row.{Row}
use Rattle.tt_plain_laws.proofs.Inductions.{by_entries}
use Rattle.tt_plain_laws.proofs.guard.Entries.{entries_keep}
use Rattle.tt_plain_laws.proofs.guard.Histories.{empty_guarded}
use Rattle.tt_plain_laws.proofs.parts.Backed.{AreBacked, bags_formed}
use Rattle.tt_plain_laws.proofs.entry.Entries.{Touches, purge_backs, round_backs, session_backs}
use Rattle.tt_plain_laws.specs.Bags.{LegalFormsBags}
use Rattle.tt_plain_laws.specs.Guarded.{AreGuarded}
use Rattle.tt_history.specs.declared.history.Actor.TheVariants as actor
use Rattle.tt_history.specs.declared.history.EntryKind.TheVariants as kind

-- ---- whole entries

module _ (carried : Carried) (program : Script) (store : Plain) (contents : List (List Row)) (sound : IsSound carried program store) (backed : AreBacked carried program contents store) (guarded : AreGuarded store) where
  -- contents and store after an effect of an entry
  abbrev BacksEntry : Entry → Actor → Effect → Type 0
  BacksEntry entry who effect = IsSoundEffect carried program store effect →
      AreBacked carried program (contents ++ pieces_of_lengths (map (λ (part : Added). part.rows) (parts_added entry.kind)) (rows_by_actor carried program contents store entry who)) (applied store effect)

  touches : (entry : Entry) (session : ℕ) → entry.actor ≡ actor.Session session → (k : EntryKind) → RemovesTouched carried program contents store entry k → Touches carried program store contents sound backed guarded session entry.index k
  touches entry session who (kind.End gone added) removed = removed ∙ ap (λ (a : Actor). unwrap_or (parts_to_remove carried program contents store entry a) []) who
  touches entry session who (kind.Begin told) removed = tt
  touches entry session who (kind.Start told) removed = tt
  touches entry session who (kind.Abandon told) removed = tt
  touches entry session who (kind.Commit told) removed = tt
  touches entry session who kind.Rollback removed = tt
  touches entry session who (kind.Define told) removed = tt
  touches entry session who (kind.Wait told) removed = tt
  touches entry session who (kind.Report told numbers) removed = tt
  touches entry session who (kind.RecluStart table parts) removed = tt
  touches entry session who (kind.RecluEnd table gone added) removed = tt
  touches entry session who (kind.RecluMiss table why) removed = tt
  touches entry session who (kind.Purge parts) removed = tt
  touches entry session who kind.Close removed = tt

  actor_backs : (entry : Entry) (who : Actor) → entry.actor ≡ who → RemovesTouched carried program contents store entry entry.kind
      → Gives (BacksEntry entry who) (actor_entry carried program store who entry.index entry.kind)
  actor_backs entry (actor.Session session) is removed = session_backs carried program store contents sound backed guarded session entry.index entry.kind (touches entry session is entry.kind removed)
  actor_backs entry actor.Recluster is removed = round_backs carried program store contents sound backed guarded entry.index entry.kind
  actor_backs entry actor.Purge is removed = purge_backs carried program store contents sound backed guarded entry.index entry.kind

  pub entry_backs : (entry : Entry) (effect : Effect) → effect_of carried program store entry ≡ Some effect → IsSoundEffect carried program store effect
      → RemovesTouched carried program contents store entry entry.kind → AreBacked carried program (contents_with carried program contents (store, entry)) (applied store effect)
  unfolding effect_of contents_with
  entry_backs entry effect e good removed =
      let found = bind_some (actor_entry carried program store entry.actor entry.index entry.kind) _ effect e in
      let same = only_if_some (found.0.moment == entry.moment) found.0 effect found.2 in
      subst (BacksEntry entry entry.actor) same.1
      (gives_at (BacksEntry entry entry.actor) (actor_entry carried program store entry.actor entry.index entry.kind) found.0 (actor_backs entry entry.actor refl removed) found.1) good

-- ---- contents of one more entry

module _ (carried : Carried) (program : Script) where
  fold-append : {A B : Type 0} (f : B → A → B) (b : B) (xs ys : List A) → fold f b (xs ++ ys) ≡ fold f (fold f b xs) ys
  fold-append f b [] ys = refl
  fold-append f b (x ∷ xs) ys = fold-append f (f b x) xs ys

  pairs-push : (store : Plain) (before : List Entry) (entry : Entry) → pairs_from carried program store (before ++ entry ∷ []) ≡ pairs_from carried program store before ++ (fold (next_store carried program) store before, entry) ∷ []
  pairs-push store [] entry = refl
  pairs-push store (first ∷ before) entry = ap (λ ps. (store, first) ∷ ps) (pairs-push (next_store carried program store first) before entry)

  contents_next : (before : List Entry) (entry : Entry) → contents_of carried program (before ++ entry ∷ []) ≡ contents_with carried program (contents_of carried program before) (store_after carried program before, entry)
  unfolding contents_of pairs_of store_after
  contents_next before entry =
      ap (fold (contents_with carried program) []) (pairs-push (empty_store program) before entry)
      ∙ fold-append (contents_with carried program) [] (pairs_from carried program (empty_store program) before) ((fold (next_store carried program) (empty_store program) before, entry) ∷ [])

  store_next : (before : List Entry) (entry : Entry) (store : Plain) (next : Plain × Option Reply) → store_after carried program before ≡ store → step_of carried program store entry ≡ Some next → store_after carried program (before ++ entry ∷ []) ≡ next.0
  unfolding store_after next_store
  store_next before entry store next is stepped =
      fold-append (next_store carried program) (empty_store program) before (entry ∷ [])
      ∙ ap (λ (s : Plain). store_or s (step_of carried program s entry)) is ∙ ap (store_or store) stepped

-- ---- the beginning

empty_backed : (carried : Carried) (program : Script) → AreBacked carried program [] (empty_store program)
unfolding empty_store
empty_backed carried program = record {
  stored = refl;
  measured = λ k first within. absurd (omega (arith, first, within));
  known = record { layouts = tt; lists = tt; pins = tt };
  layouts = λ place table at. absurd (none-some table at);
  placed = tt;
  empty = λ session state at none table. refl;
  balanced = λ session state at table first within. absurd (omega (arith, first, within));
  round = λ round e. absurd (none-some round e);
  apart = λ a b table other k e. absurd (false≢true e);
  pinned = λ session state at seen read running said. absurd (none-some seen (sym (idle program.sessions session state at) ∙ running));
}
  where
    idle : (lines : List SessionText) (k : ℕ) (state : PlainSession) → slice_get (map (λ (_ : SessionText). new_session) lines) k ≡ Some state → state.running ≡ None
    idle [] k state e = absurd (none-some state e)
    idle (first ∷ lines) zero state e = ap (λ (s : PlainSession). s.running) (sym (same_Some new_session state e))
    idle (first ∷ lines) (suc k) state e = idle lines k state e

-- ---- the law

record IsKept (carried : Carried) (program : Script) (before : List Entry) (store : Plain) : Type 0 where
  guarded : AreGuarded store
  store_is : store_after carried program before ≡ store
  backed : AreBacked carried program (contents_of carried program before) store

pub legal_bags : LegalFormsBags
unfolding contents_of pairs_of store_after
legal_bags carried program history run time replayed removed =
    let kept : IsKept carried program history run.0 =
    by_entries carried program history time (IsKept carried program)
    (λ before store entry effect there holds.
    let touched : RemovesTouched carried program (contents_of carried program before) store entry entry.kind =
    subst (λ (s : Plain). RemovesTouched carried program (contents_of carried program before) s entry entry.kind) holds.store_is (removed before entry there.later there.whole) in
    let backed = entry_backs carried program store (contents_of carried program before) there.sound holds.backed holds.guarded entry effect there.effected there.good touched in
    record {
      guarded = entries_keep carried program store entry effect there.sound there.effected holds.guarded;
      store_is = store_next carried program before entry store (applied store effect, there.stepped.0) holds.store_is there.stepped.1;
      backed = subst (λ (c : List (List Row)). AreBacked carried program c (applied store effect))
          (sym (contents_next carried program before entry ∙ ap (λ (s : Plain). contents_with carried program (contents_of carried program before) (s, entry)) holds.store_is)) backed;
    }) run (record { guarded = empty_guarded program; store_is = refl; backed = empty_backed carried program }) replayed in
    bags_formed carried program (contents_of carried program history) run.0 (legal_sound carried program history run time replayed) kept.backed kept.guarded
