-- A run that goes session by session is walked: each turn takes the session's next entry, and none once it has finished.
use Rattle.std.specs.List.{range_with_len}
use Rattle.std.specs.Option.{option_or, option_and_then}
use Rattle.std.specs.Prelude.{Bool, Err, List, None, Option, Result, Some, [], false, flat_map, fold, if◌then◌else◌, is_none, length, not, option_map, refl, replicate, slice_get, true, unwrap_or, ℕ, ◌&&◌, ◌++◌, ◌+◌, ◌-◌, ◌<◌, ◌==◌, ◌∷◌, ◌≡◌, ◌≤◌}
use Rattle.std.proofs.Common.{ap, append_assoc, arith, length-append, subst, suc, sym, zero, ◌∙◌}
use Rattle.std.proofs.lemmas.Bool.{and_parts, false≢true, ne_eqb}
use Rattle.std.proofs.lemmas.Grind.{flat_map-append}
use Rattle.std.proofs.lemmas.List.Sums.{fold-append}
use Rattle.std.proofs.lemmas.Option.{none-some, same_Some, slice_get_within}
use Rattle.tt_value.specs.declared.value.Row.{Row}
use Rattle.tt_script.specs.declared.script.Script.{Script}
use Rattle.tt_script.specs.declared.script.SessionText.{SessionText}
use Rattle.tt_script.specs.declared.script.Turn.{Turn}
use Rattle.tt_script.specs.Program.{span_of, text_at}
use Rattle.tt_sql.specs.declared.statement.Statement.{Statement}
use Rattle.tt_sql.specs.text.StatementOf.{statement_of}
use Rattle.tt_history.specs.declared.history.Actor.{Actor}
use Rattle.tt_history.specs.declared.history.Entry.{Entry}
use Rattle.tt_history.specs.declared.history.EntryKind.{EntryKind}
use Rattle.tt_history.specs.declared.reply.Reply.{Reply}
use Rattle.tt_history.specs.Projection.{is_session}
use Rattle.tt_plain.proofs.Answers.{and_then_some, map_some}
use Rattle.tt_plain.proofs.Tests.{same_test}
use Rattle.tt_plain.proofs.law.Clock.{replay_none}
use Rattle.tt_plain.proofs.law.Gives.{Gives, gives_at, gives_bind, gives_or, gives_tested}
use Rattle.tt_plain.proofs.law.Turns.{IsTurn, next_gives, open_gives}
use Rattle.tt_script.specs.Lines.{only_if}
use Rattle.tt_plain.specs.Answers.{◌>>=◌}
use Rattle.tt_plain.specs.asked.Asked.{Asked}
use Rattle.tt_plain.specs.asked.Turns.{asked_with, carried_out, statement_read}
use Rattle.tt_plain.specs.declared.store.Plain.{Plain}
use Rattle.tt_plain.specs.declared.store.PlainOpen.{PlainOpen}
use Rattle.tt_plain.specs.declared.store.PlainSession.{PlainSession}
use Rattle.tt_plain.specs.effect.Effect.{Effect}
use Rattle.tt_plain.specs.effect.Rollback.{closing_effect, has_ended_statements, rollback_effect}
use Rattle.tt_plain.specs.history.Complete.{is_finished}
use Rattle.tt_plain.specs.history.Contents.{contents_of, contents_with}
use Rattle.tt_plain.specs.history.Replay.{IsLegal, Run, after, next_store, pairs_from, pairs_of, replay_from, replay_of, store_after, store_or}
use Rattle.tt_plain.specs.history.Step.{actor_entry, effect_of, of_next, of_open, session_entry, step_of}
use Rattle.tt_plain.specs.serial.Order.{IsSerialOrder, to_its_end, turns_of_sessions, walk_at_first, walk_of, walked}
use Rattle.tt_plain.specs.serial.Walk.{Walk, session_turn, turn_taken}
use Rattle.tt_plain.specs.stored.Empty.{empty_store}
use Rattle.tt_plain.specs.stored.Points.{count_in}
use Rattle.tt_plain.specs.stored.Sessions.{new_session, session_at}
use Rattle.tt_built.specs.Built.{built}
use Rattle.tt_history.specs.declared.history.Actor.TheVariants as actor
use Rattle.tt_history.specs.declared.history.EntryKind.TheVariants as kind
use Rattle.tt_script.specs.declared.script.Turn.TheVariants as turn
use Rattle.tt_run.specs.Sessions.{AreInOrder, AreOf, Behind, HasFinished}

append_nil : {A : Type 0} (xs : List A) → xs ++ [] ≡ xs
append_nil [] = refl
append_nil (x ∷ xs) = ap (λ ys. x ∷ ys) (append_nil xs)

last_fold : {A B : Type 0} (f : B → A → B) (b : B) (xs : List A) (x : A) → fold f b (xs ++ x ∷ []) ≡ f (fold f b xs) x
last_fold f b [] x = refl
last_fold f b (first ∷ xs) x = last_fold f (f b first) xs x

-- ---- an entry of a session is one of a session that has not finished

module _ (program : Script) (store : Plain) (session index : ℕ) where
  abbrev Unfinished : Type 0
  Unfinished = is_finished program session (session_at store session) ≡ false

  -- whatever an entry gives
  whatever : (found : Option Effect) → Unfinished → Gives (λ _. Unfinished) found
  whatever None fact = tt
  whatever (Some effect) fact = fact

  said_within : (read : Result Statement ℕ) → statement_read built program session index ≡ Some read
      → (lines : SessionText) × (slice_get program.sessions session ≡ Some lines) × (index - 1 < length lines.statements)
  unfolding statement_read
  said_within read e =
      let span = map_some (λ (span : ℕ × ℕ). carried_out built (statement_of (text_at program span))) (span_of program session (index - 1)) read e in
      let lines = and_then_some (λ (lines : SessionText). slice_get lines.statements (index - 1)) (slice_get program.sessions session) span.0 span.1 in
      (lines.0, lines.1, slice_get_within lines.0.statements (index - 1) span.0 lines.2)

  at_state : (state : PlainSession) → slice_get store.sessions session ≡ Some state → is_finished program session state ≡ false → Unfinished
  at_state state at fact = ap (λ (o : Option PlainSession). is_finished program session (unwrap_or o new_session)) at ∙ fact

  -- a statement is left
  left : (state : PlainSession) (read : Result Statement ℕ) → IsTurn built program store session index state read → Unfinished
  left state read is =
      let said = said_within read is.said in
      at_state state is.state_is
      (ap (λ b. (is_none state.running && b) && not state.transaction)
      (ap (λ o. state.done == count_in o) said.1 ∙ ne_eqb state.done (length said.0.statements) (λ e. omega (arith, e, is.counted, said.2)))
      ∙ no_more (is_none state.running) (not state.transaction))
    where
      no_more : (a b : Bool) → ((a && false) && b) ≡ false
      no_more true b = refl
      no_more false b = refl

  -- a statement is open
  opened : (state : PlainSession) (seen : PlainOpen) → slice_get store.sessions session ≡ Some state → state.running ≡ Some seen → Unfinished
  opened state seen at running =
      at_state state at (ap (λ (o : Option PlainOpen). (is_none o && state.done == count_in (slice_get program.sessions session)) && not state.transaction) running)

  next_left : (f : Asked → Option Effect) → Gives (λ _. Unfinished) (of_next built program store session index f)
  next_left f = next_gives built program store session index (λ _. Unfinished) f (λ state read is idle. whatever (f (asked_with program store session index read)) (left state read is))

  open_left : (f : Asked × PlainOpen → Option Effect) → Gives (λ _. Unfinished) (of_open built program store session index f)
  open_left f = open_gives built program store session index (λ _. Unfinished) f (λ state read seen at said running numbered. whatever (f (asked_with program store session index read, seen)) (opened state seen at running))

  in_transaction : (state : PlainSession) → state.transaction ≡ true → is_finished program session state ≡ false
  in_transaction state is = ap (λ b. has_ended_statements program session state && not b) is ∙ none (has_ended_statements program session state)
    where
      none : (b : Bool) → (b && false) ≡ false
      none true = refl
      none false = refl

  closing_left : Gives (λ _. Unfinished) (closing_effect program store session index)
  unfolding closing_effect
  closing_left =
      gives_bind (λ _. Unfinished) (slice_get store.sessions session) _ (λ state at.
      gives_tested (λ _. Unfinished) (has_ended_statements program session state && index == state.done + 1) state _ (λ ended.
      gives_tested (λ _. Unfinished) state.transaction state _ (λ is.
      at_state state at (in_transaction state is))))

  entry_left : (k : EntryKind) → Gives (λ _. Unfinished) (session_entry built program store session index k)
  unfolding session_entry
  entry_left (kind.Begin told) = next_left _
  entry_left (kind.Start told) = next_left _
  entry_left (kind.End gone added) = open_left _
  entry_left (kind.Abandon told) = open_left _
  entry_left (kind.Commit told) = next_left _
  entry_left kind.Rollback = gives_or (λ _. Unfinished) (of_next built program store session index rollback_effect) (closing_effect program store session index) (next_left _) closing_left
  entry_left (kind.Define told) = next_left _
  entry_left (kind.Wait told) = next_left _
  entry_left (kind.Report told numbers) = next_left _
  entry_left (kind.RecluStart table parts) = tt
  entry_left (kind.RecluEnd table gone added) = tt
  entry_left (kind.RecluMiss table why) = tt
  entry_left (kind.Purge parts) = tt
  entry_left kind.Close = tt

pub unfinished : (program : Script) (store : Plain) (entry : Entry) (session : ℕ) (next : Plain × Option Reply) → entry.actor ≡ actor.Session session → step_of built program store entry ≡ Some next
    → is_finished program session (session_at store session) ≡ false
unfolding step_of effect_of
unfinished program store entry session next is step =
    let found = map_some _ (actor_entry built program store entry.actor entry.index entry.kind >>= λ effect. only_if (effect.moment == entry.moment) effect) next step in
    gives_at (λ _. is_finished program session (session_at store session) ≡ false) _ found.0
    (gives_bind (λ _. is_finished program session (session_at store session) ≡ false) (actor_entry built program store entry.actor entry.index entry.kind) _ (λ effect e.
    whatever program store session entry.index _
    (gives_at (λ _. is_finished program session (session_at store session) ≡ false) (session_entry built program store session entry.index entry.kind) effect (entry_left program store session entry.index entry.kind)
    (sym (ap (λ a. actor_entry built program store a entry.index entry.kind) is) ∙ e))))
    found.1

-- ---- a history that is longer

module _ (program : Script) where
  replay_append : (run : Option Run) (first later : List Entry) → replay_from built program run (first ++ later) ≡ replay_from built program (replay_from built program run first) later
  unfolding replay_from
  replay_append run [] later = refl
  replay_append run (entry ∷ first) later = replay_append (after built program run entry) first later

  pairs_last : (store : Plain) (history : List Entry) (entry : Entry) → pairs_from built program store (history ++ entry ∷ []) ≡ pairs_from built program store history ++ (fold (next_store built program) store history, entry) ∷ []
  pairs_last store [] entry = refl
  pairs_last store (first ∷ history) entry = ap (λ pairs. (store, first) ∷ pairs) (pairs_last (next_store built program store first) history entry)

  contents_longer : (history : List Entry) (entry : Entry) → contents_of built program (history ++ entry ∷ []) ≡ contents_with built program (contents_of built program history) (store_after built program history, entry)
  unfolding contents_of pairs_of store_after
  contents_longer history entry =
      ap (fold (contents_with built program) []) (pairs_last (empty_store program) history entry)
      ∙ last_fold (contents_with built program) [] (pairs_from built program (empty_store program) history) (store_after built program history, entry)

  next_after : (history : List Entry) (entry : Entry) → store_after built program (history ++ entry ∷ []) ≡ next_store built program (store_after built program history) entry
  unfolding store_after
  next_after history entry = last_fold (next_store built program) (empty_store program) history entry

  store_of_run : (before run : Run) (entries : List Entry) → replay_from built program (Some before) entries ≡ Some run → fold (next_store built program) before.0 entries ≡ run.0
  unfolding replay_from next_store
  store_of_run before run [] e = ap (λ (r : Run). r.0) (same_Some before run e)
  store_of_run before run (entry ∷ entries) e = goes (λ next f. store_of_run next run entries f) (step_of built program before.0 entry) refl e
    where
      goes : ((next : Run) → replay_from built program (Some next) entries ≡ Some run → fold (next_store built program) next.0 entries ≡ run.0)
          → (step : Option (Plain × Option Reply)) → step_of built program before.0 entry ≡ step
          → replay_from built program (step >>= λ next. Some (next.0, before.1 ++ next.1 ∷ [])) entries ≡ Some run → fold (next_store built program) (store_or before.0 (step_of built program before.0 entry)) entries ≡ run.0
      goes behind None is f = absurd (none-some run (sym (replay_none built program entries) ∙ f))
      goes behind (Some next) is f =
          ap (λ (s : Plain). fold (next_store built program) s entries) (ap (store_or before.0) is) ∙ behind (next.0, before.1 ++ next.1 ∷ []) f

  store_is : (history : List Entry) (run : Run) → replay_of built program history ≡ Some run → store_after built program history ≡ run.0
  unfolding replay_of store_after
  store_is history run e = store_of_run (empty_store program, []) run history e

  -- ---- the walk

  -- so much of the history is taken, and these entries are still to come
  abbrev taken : List Entry → List Entry → Walk
  taken done entries = record { store = store_after built program done; contents = contents_of built program done; entries = entries; kept = None }

  step_walk : (store : Plain) (contents : List (List Row)) (entries : List Entry) (other : Plain) (others : List (List Row)) → store ≡ other → contents ≡ others
      → ◌≡◌ {A = Walk} (record { store = store; contents = contents; entries = entries; kept = None }) (record { store = other; contents = others; entries = entries; kept = None })
  step_walk store contents entries other others s c = rw (s, c) refl

  one_taken : (session : ℕ) (done : List Entry) (entry : Entry) (entries : List Entry) → entry.actor ≡ actor.Session session → is_finished program session (session_at (store_after built program done) session) ≡ false
      → session_turn built program session (taken done (entry ∷ entries)) ≡ Some (taken (done ++ entry ∷ []) entries)
  unfolding session_turn
  one_taken session done entry entries is unfinished =
      let next : Walk = record {
        store = next_store built program (store_after built program done) entry;
        contents = contents_with built program (contents_of built program done) (store_after built program done, entry);
        entries = entries;
        kept = None;
      } in
      ap (λ b. if b then Some (taken done (entry ∷ entries)) else only_if (is_session session entry.actor) next) unfinished
      ∙ ap (λ b. only_if b next) (ap (is_session session) is ∙ same_test session)
      ∙ ap Some (step_walk next.store next.contents entries (store_after built program (done ++ entry ∷ [])) (contents_of built program (done ++ entry ∷ [])) (sym (next_after done entry)) (sym (contents_longer done entry)))

  none_taken : (session : ℕ) (done entries : List Entry) → HasFinished program session done → session_turn built program session (taken done entries) ≡ Some (taken done entries)
  unfolding session_turn
  none_taken session done entries finished = rw finished refl

  idle_turns : (session m : ℕ) (done entries : List Entry) → HasFinished program session done → walked built program (Some (taken done entries)) (replicate m (turn.Session session)) ≡ Some (taken done entries)
  idle_turns session zero done entries finished = refl
  idle_turns session (suc m) done entries finished =
      ap (λ w. walked built program w (replicate m (turn.Session session))) (none_taken session done entries finished) ∙ idle_turns session m done entries finished

  -- a session's turns take its entries to its end
  all_taken : (session m : ℕ) (done own rest : List Entry) (now run : Run) → replay_of built program done ≡ Some now → replay_from built program (Some now) own ≡ Some run → AreOf session own → length own < m
      → HasFinished program session (done ++ own) → walked built program (Some (taken done (own ++ rest))) (replicate m (turn.Session session)) ≡ Some (taken (done ++ own) rest)
  unfolding replay_of replay_from
  all_taken session m done [] rest now run before e of less finished =
      let same = append_nil done in
      subst (λ (h : List Entry). walked built program (Some (taken done rest)) (replicate m (turn.Session session)) ≡ Some (taken h rest)) (sym same)
      (idle_turns session m done rest (subst (HasFinished program session) same finished))
  all_taken session zero done (entry ∷ own) rest now run before e of less finished = absurd (omega (arith, less))
  all_taken session (suc m) done (entry ∷ own) rest now run before e of less finished =
      goes (λ next there f. all_taken session m (done ++ entry ∷ []) own rest next run there f of.1 (omega (arith, less)) (subst (HasFinished program session) (sym (append_assoc done (entry ∷ []) own)) finished))
      (step_of built program now.0 entry) refl e
    where
      goes : ((next : Run) → replay_of built program (done ++ entry ∷ []) ≡ Some next → replay_from built program (Some next) own ≡ Some run
          → walked built program (Some (taken (done ++ entry ∷ []) (own ++ rest))) (replicate m (turn.Session session)) ≡ Some (taken ((done ++ entry ∷ []) ++ own) rest))
          → (step : Option (Plain × Option Reply)) → step_of built program now.0 entry ≡ step → replay_from built program (step >>= λ next. Some (next.0, now.1 ++ next.1 ∷ [])) own ≡ Some run
          → walked built program (session_turn built program session (taken done (entry ∷ (own ++ rest)))) (replicate m (turn.Session session)) ≡ Some (taken (done ++ entry ∷ own) rest)
      goes behind None f g = absurd (none-some run (sym (replay_none built program own) ∙ g))
      goes behind (Some next) f g =
          let store : store_after built program done ≡ now.0 = store_is done now before in
          let left = subst (λ (s : Plain). is_finished program session (session_at s session) ≡ false) (sym store) (unfinished program now.0 entry session next of.0 f) in
          let made : replay_of built program (done ++ entry ∷ []) ≡ Some (next.0, now.1 ++ next.1 ∷ []) =
          replay_append (Some (empty_store program, [])) done (entry ∷ []) ∙ ap (λ (r : Option Run). after built program r entry) before
          ∙ ap (λ (s : Option (Plain × Option Reply)). s >>= λ next. Some (next.0, now.1 ++ next.1 ∷ [])) f in
          ap (λ w. walked built program w (replicate m (turn.Session session))) (one_taken session done entry (own ++ rest) of.0 left)
          ∙ behind (next.0, now.1 ++ next.1 ∷ []) made g
          ∙ ap (λ (h : List Entry). Some (taken h rest)) (append_assoc done (entry ∷ []) own)

  -- ---- session by session

  last_number : (a n : ℕ) → range_with_len a (suc n) ≡ range_with_len a n ++ (a + n) ∷ []
  last_number a zero = ap (λ k. k ∷ []) (omega arith)
  last_number a (suc n) = ap (λ ks. a ∷ ks) (last_number (a + 1) n ∙ ap (λ k. range_with_len (a + 1) n ++ k ∷ []) (omega arith))

  abbrev turns_of : ℕ → ℕ → List Turn
  turns_of m sessions = flat_map (λ session. replicate m (turn.Session session)) (range_with_len 0 sessions)

  turns_more : (m sessions : ℕ) → turns_of m (suc sessions) ≡ turns_of m sessions ++ replicate m (turn.Session sessions)
  turns_more m sessions =
      ap (flat_map (λ session. replicate m (turn.Session session))) (last_number 0 sessions ∙ ap (λ k. range_with_len 0 sessions ++ k ∷ []) (omega arith))
      ∙ flat_map-append (λ session. replicate m (turn.Session session)) (range_with_len 0 sessions) (sessions ∷ [])
      ∙ ap (λ ts. turns_of m sessions ++ ts) (append_nil (replicate m (turn.Session sessions)))

  joined : (first later : List Entry) → replay_from built program (replay_of built program first) later ≡ replay_of built program (first ++ later)
  unfolding replay_of
  joined first later = sym (replay_append (Some (empty_store program, [])) first later)

  sessions_taken : (sessions m : ℕ) (history rest : List Entry) (run : Run) → replay_of built program history ≡ Some run → length history < m → AreInOrder program sessions history
      → walked built program (Some (taken [] (history ++ rest))) (turns_of m sessions) ≡ Some (taken history rest)
  sessions_taken zero m history rest run legal less order = rw order refl
  sessions_taken (suc session) m history rest run legal less order =
      let b = order.0 in
      by (λ now is few. sessions_taken session m b.before (b.own ++ rest) now is few b.first)
      (replay_of built program b.before) refl (joined b.before b.own ∙ ap (replay_of built program) (sym b.parts) ∙ legal)
    where
      by : ((now : Run) → replay_of built program order.0.before ≡ Some now → length order.0.before < m → walked built program (Some (taken [] (order.0.before ++ (order.0.own ++ rest)))) (turns_of m session) ≡ Some (taken order.0.before (order.0.own ++ rest)))
          → (front : Option Run) → replay_of built program order.0.before ≡ front → replay_from built program front order.0.own ≡ Some run
          → walked built program (Some (taken [] (history ++ rest))) (turns_of m (suc session)) ≡ Some (taken history rest)
      by first None is e = absurd (none-some run (sym (replay_none built program order.0.own) ∙ e))
      by first (Some now) is e =
          let b = order.0 in
          let few : length b.before + length b.own < m = omega (arith, less, ap (λ (h : List Entry). length h) b.parts, length-append b.before b.own) in
          let finished : HasFinished program session (b.before ++ b.own) = subst (HasFinished program session) b.parts order.1 in
          ap (λ (h : List Entry). walked built program (Some (taken [] (h ++ rest))) (turns_of m (suc session))) b.parts
          ∙ ap (λ (h : List Entry). walked built program (Some (taken [] h)) (turns_of m (suc session))) (append_assoc b.before b.own rest)
          ∙ ap (λ ts. walked built program (Some (taken [] (b.before ++ (b.own ++ rest)))) ts) (turns_more m session)
          ∙ fold-append (λ before turn. before >>= λ w. turn_taken built program w turn) (Some (taken [] (b.before ++ (b.own ++ rest)))) (turns_of m session) (replicate m (turn.Session session))
          ∙ ap (λ w. walked built program w (replicate m (turn.Session session))) (first now is (omega (arith, few)))
          ∙ all_taken session m b.before b.own rest now run is e b.of (omega (arith, few)) finished
          ∙ ap (λ (h : List Entry). Some (taken h rest)) (sym b.parts)

  -- the beginning
  at_first : (history : List Entry) → walk_at_first program history ≡ taken [] history
  unfolding store_after contents_of pairs_of
  at_first history = refl

pub walked_in_order : (program : Script) (history : List Entry) → IsLegal built program history → program.turns ≡ [] → AreInOrder program (length program.sessions) history → IsSerialOrder built program history
unfolding walk_of built
walked_in_order program history legal none order = record {
  walk = taken program history [];
  walks =
      ap (λ ts. walked built program (Some (walk_at_first program history)) (ts ++ turns_of program (length history + 1) (length program.sessions)) >>= λ w. Some (record w { kept = None })) none
      ∙ ap (λ (w : Walk). walked built program (Some w) (turns_of program (length history + 1) (length program.sessions)) >>= λ w. Some (record w { kept = None })) (at_first program history ∙ ap (taken program []) (sym (append_nil history)))
      ∙ ap (λ (o : Option Walk). o >>= λ w. Some (record w { kept = None })) (sessions_taken program (length program.sessions) (length history + 1) history [] legal.run legal.replayed (omega arith) order);
  spent = refl;
}
