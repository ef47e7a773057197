-- What an entry leaves of the sessions: its own has the statement begun or ended, and no other one moves.
use Rattle.std.specs.Prelude.{Bool, List, None, Option, Result, Some, [], false, if◌then◌else◌, is_none, is_some, length, option_map, refl, slice_get, slice_set, true, unwrap_or, ℕ, ◌&&◌, ◌==◌, ◌∷◌, ◌≡◌, ◌≢◌}
use Rattle.std.proofs.Common.{ap, subst, suc, sym, zero, ◌∙◌}
use Rattle.std.proofs.lemmas.Bool.{false≢true}
use Rattle.std.proofs.lemmas.Option.{none-some}
use Rattle.tt_value.specs.declared.value.Row.{Row}
use Rattle.tt_script.specs.declared.script.Script.{Script}
use Rattle.tt_history.specs.declared.history.Added.{Added}
use Rattle.tt_history.specs.declared.history.EntryKind.{EntryKind}
use Rattle.tt_history.specs.declared.history.Entry.{Entry}
use Rattle.tt_history.specs.declared.history.Told.{Told}
use Rattle.tt_history.specs.declared.reply.Refusal.{Refusal}
use Rattle.tt_history.specs.declared.reply.Reply.{Reply}
use Rattle.tt_sql.specs.declared.change.Dml.{Dml}
use Rattle.tt_sql.specs.declared.query.Query.{Query}
use Rattle.tt_sql.specs.declared.statement.Statement.{Statement}
use Rattle.tt_plain.proofs.Answers.{bind_some, map_some}
use Rattle.tt_plain.proofs.law.Gives.{Gives, gives_at, gives_bind, gives_if, gives_map, gives_tested, gives_when}
use Rattle.tt_plain.proofs.law.Turns.{IsTurn, due_gives, next_gives, open_gives}
use Rattle.tt_script.specs.Lines.{only_if}
use Rattle.tt_plain.specs.Answers.{◌>>=◌}
use Rattle.tt_plain.specs.asked.Asked.{Asked, request_asked, state_asked, table_asked}
use Rattle.tt_plain.specs.asked.Request.{Defines, Reads, Request, Writes}
use Rattle.tt_plain.specs.asked.Turns.{asked_with}
use Rattle.tt_plain.specs.declared.store.Plain.{Plain}
use Rattle.tt_plain.specs.declared.store.PlainOpen.{PlainOpen}
use Rattle.tt_plain.specs.declared.store.PlainPending.{PlainPending}
use Rattle.tt_plain.specs.declared.store.PlainSession.{PlainSession}
use Rattle.tt_plain.specs.definition.Changes.{definition_changes}
use Rattle.tt_plain.specs.effect.Abandon.{abandon_effect, failure, given_up}
use Rattle.tt_plain.specs.effect.Apply.{applied}
use Rattle.tt_plain.specs.effect.Define.{define_effect, defined_by}
use Rattle.tt_plain.specs.effect.Effect.{Effect}
use Rattle.tt_plain.specs.effect.End.{EntryFacts, answered, are_facts_of, changed_by, committed_alone, end_effect, ended_as, kept}
use Rattle.tt_plain.specs.effect.Ending.{ended_with, memory_effect, refused_effect, told_effect}
use Rattle.tt_plain.specs.effect.Start.{begun_by, start_effect}
use Rattle.tt_plain.specs.history.Step.{actor_entry, effect_of, of_next, of_open, session_entry, step_of}
use Rattle.tt_plain.specs.meaning.Outcome.{Answers, Does, Outcome, outcome_of}
use Rattle.tt_plain.specs.opening.Opened.{change_opened, query_opened, sources_seen, target_of}
use Rattle.tt_plain.specs.opening.Point.{change_sources, query_sources}
use Rattle.tt_plain.specs.refusal.First.{refusal_of}
use Rattle.tt_plain.specs.stored.Sessions.{new_session, session_at}
use Rattle.tt_plain.specs.text.RefusalTable.{refusal_number}
use Rattle.tt_built.specs.Built.{built}
use Rattle.tt_plain.specs.asked.Event as event
use Rattle.tt_history.specs.declared.history.Actor.TheVariants as actor
use Rattle.tt_history.specs.declared.history.EntryKind.TheVariants as kind
use Rattle.tt_history.specs.declared.history.Told.TheVariants as told
use Rattle.tt_history.specs.declared.reply.Reply.TheVariants as reply
use Rattle.tt_run.specs.Sessions.{IsIdle, IsSingle}

-- the effect of an entry on its session: a transaction is open as it was, and with a reply the statement has ended
record Leaves (asked : Asked) (effect : Effect) : Type 0 where
  state : PlainSession
  session : effect.session ≡ Some (asked.session, state)
  transaction : state.transaction ≡ (state_asked asked).transaction
  ended : is_some effect.reply ≡ true → (state.running ≡ None) × (state.done ≡ asked.index)

-- ---- effects by which a statement ends

ended_leaves : (asked : Asked) (r : Reply) → Leaves asked (ended_with asked r)
unfolding ended_with
ended_leaves asked r = record { state = record (state_asked asked) { done = asked.index; running = None }; session = refl; transaction = refl; ended = λ e. (refl, refl) }

refused_leaves : (asked : Asked) (given : Option Refusal) (number : ℕ) → Gives (Leaves asked) (refused_effect asked given number)
unfolding refused_effect
refused_leaves asked given number =
    gives_bind _ given _ (λ refusal e. gives_tested _ (refusal_number refusal == number) refusal _ (λ test. ended_leaves asked (reply.Refused refusal)))

told_leaves : (asked : Asked) (accepted starved : Option Effect) → Gives (Leaves asked) accepted → Gives (Leaves asked) starved → (t : Told) → Gives (Leaves asked) (told_effect asked t accepted starved)
unfolding told_effect
told_leaves asked accepted starved done memory told.Done = gives_if _ (is_none (refusal_of asked)) accepted (λ test. done)
told_leaves asked accepted starved done memory (told.Refused number) = refused_leaves asked (refusal_of asked) number
told_leaves asked accepted starved done memory told.Memory = memory

-- ---- the kinds of entries

-- the session's transaction as before
abbrev IsAsBefore : Asked → PlainSession → Type 0
IsAsBefore asked state = state.transaction ≡ (state_asked asked).transaction

query_state : (asked : Asked) (q : Query) → Gives (IsAsBefore asked) (query_opened asked q)
unfolding query_opened
query_state asked q = gives_bind (IsAsBefore asked) (sources_seen asked (query_sources q)) _ (λ sources e. refl)

change_state : (asked : Asked) (d : Dml) → Gives (IsAsBefore asked) (change_opened asked d)
unfolding change_opened
change_state asked d =
    gives_bind (IsAsBefore asked) (table_asked asked (target_of d)) _ (λ table e.
    gives_bind (IsAsBefore asked) (sources_seen asked (change_sources d)) _ (λ sources f. refl))

begun_leaves : (asked : Asked) (request : Request) → Gives (Leaves asked) (begun_by asked request)
begun_leaves asked (Reads q) = gives_map _ _ (query_opened asked q) (λ state e. record { state = state; session = refl; transaction = gives_at (IsAsBefore asked) (query_opened asked q) state (query_state asked q) e; ended = λ f. absurd (false≢true f) })
begun_leaves asked (Writes d) = gives_map _ _ (change_opened asked d) (λ state e. record { state = state; session = refl; transaction = gives_at (IsAsBefore asked) (change_opened asked d) state (change_state asked d) e; ended = λ f. absurd (false≢true f) })
begun_leaves asked _ = tt

start_leaves : (asked : Asked) (t : Told) → Gives (Leaves asked) (start_effect asked t)
unfolding start_effect
start_leaves asked t =
    due_gives _ event.Start asked _ (λ due. told_leaves asked (begun_by asked (request_asked asked)) (memory_effect asked) (begun_leaves asked (request_asked asked)) (ended_leaves asked reply.Memory) t)

kept_leaves : (asked : Asked) (pending : PlainPending) (table : ℕ) (facts : EntryFacts) (r : Reply) → Leaves asked (kept asked pending table facts r)
unfolding kept
kept_leaves asked pending table facts r = record { state = _; session = refl; transaction = refl; ended = λ e. (refl, refl) }

alone_leaves : (asked : Asked) (pending : PlainPending) (table : ℕ) (facts : EntryFacts) (r : Reply) → Leaves asked (committed_alone asked pending table facts r)
unfolding committed_alone
alone_leaves asked pending table facts r = record { state = _; session = refl; transaction = refl; ended = λ e. (refl, refl) }

either_leaves : (asked : Asked) (test : Bool) (a b : Effect) → Leaves asked a → Leaves asked b → Leaves asked (if test then a else b)
either_leaves asked true a b here there = here
either_leaves asked false a b here there = there

outcome_leaves : (asked : Asked) (request : Request) (outcome : Outcome) (facts : EntryFacts) → Gives (Leaves asked) (ended_as asked request outcome facts)
outcome_leaves asked (Reads q) (Answers rows) facts =
    gives_when (Leaves asked) (length facts.0 == 0 && length facts.1 == 0) (answered asked rows) (λ test. record { state = _; session = refl; transaction = refl; ended = λ e. (refl, refl) })
outcome_leaves asked (Writes d) (Does table removed added count) facts =
    gives_when _ (are_facts_of asked table d removed added facts) (changed_by asked d table removed added count facts) (λ test.
    either_leaves asked (state_asked asked).transaction _ _ (kept_leaves asked _ table facts _) (alone_leaves asked _ table facts _))
outcome_leaves asked _ _ facts = tt

end_leaves : (asked : Asked) (seen : PlainOpen) (gone : List ℕ) (added : List Added) → Gives (Leaves asked) (end_effect (asked, seen) gone added)
unfolding end_effect
end_leaves asked seen gone added = gives_bind _ (outcome_of asked seen) _ (λ outcome e. outcome_leaves asked (request_asked asked) outcome (gone, added))

given_up_leaves : (asked : Asked) (seen : PlainOpen) (effect : Effect) → Leaves asked (given_up (asked, seen) effect)
given_up_leaves asked seen effect = record { state = _; session = refl; transaction = refl; ended = λ e. (refl, refl) }

abandon_leaves : (asked : Asked) (seen : PlainOpen) (t : Told) → Gives (Leaves asked) (abandon_effect (asked, seen) t)
unfolding abandon_effect
abandon_leaves asked seen told.Done = tt
abandon_leaves asked seen (told.Refused number) =
    gives_bind _ (outcome_of asked seen) _ (λ outcome e.
    gives_bind _ (refused_effect asked (failure outcome) number) _ (λ effect f. given_up_leaves asked seen effect))
abandon_leaves asked seen told.Memory = given_up_leaves asked seen (ended_with asked reply.Memory)

defined_leaves : (asked : Asked) (request : Request) → Gives (Leaves asked) (defined_by asked request)
unfolding ended_with
defined_leaves asked (Defines d) = gives_map _ _ (definition_changes asked d) (λ changes e. record { state = _; session = refl; transaction = refl; ended = λ f. (refl, refl) })
defined_leaves asked _ = tt

define_leaves : (asked : Asked) (t : Told) → Gives (Leaves asked) (define_effect asked t)
unfolding define_effect
define_leaves asked t =
    due_gives _ event.Define asked _ (λ due. told_leaves asked (defined_by asked (request_asked asked)) (memory_effect asked) (defined_leaves asked (request_asked asked)) (ended_leaves asked reply.Memory) t)

-- ---- the store behind an entry

set_same : {A : Type 0} (xs : List A) (place : ℕ) (x y : A) → slice_get xs place ≡ Some y → slice_get (slice_set xs place x) place ≡ Some x
set_same [] place x y e = absurd (none-some y e)
set_same (first ∷ xs) zero x y e = refl
set_same (first ∷ xs) (suc place) x y e = set_same xs place x y e

set_other : {A : Type 0} (xs : List A) (place k : ℕ) (x : A) → k ≢ place → slice_get (slice_set xs place x) k ≡ slice_get xs k
set_other [] place k x ne = refl
set_other (first ∷ xs) zero zero x ne = absurd (ne refl)
set_other (first ∷ xs) zero (suc k) x ne = refl
set_other (first ∷ xs) (suc place) zero x ne = refl
set_other (first ∷ xs) (suc place) (suc k) x ne = set_other xs place k x (λ e. ne (ap suc e))

-- so much is known of the store before an entry of a session
module _ (program : Script) (store : Plain) (session index : ℕ) where
  record Left (effect : Effect) : Type 0 where
    before : PlainSession
    there : slice_get store.sessions session ≡ Some before
    state : PlainSession
    is : effect.session ≡ Some (session, state)
    transaction : state.transaction ≡ before.transaction
    ended : is_some effect.reply ≡ true → (state.running ≡ None) × (state.done ≡ index)

  left_by : (read : Result Statement ℕ) (before : PlainSession) (effect : Effect) → slice_get store.sessions session ≡ Some before → Leaves (asked_with program store session index read) effect → Left effect
  left_by read before effect there leaves = record {
    before = before;
    there = there;
    state = leaves.state;
    is = leaves.session;
    transaction = leaves.transaction ∙ ap (λ (o : Option PlainSession). (unwrap_or o new_session).transaction) there;
    ended = leaves.ended;
  }

  each_left : (read : Result Statement ℕ) (before : PlainSession) (found : Option Effect) → slice_get store.sessions session ≡ Some before → Gives (Leaves (asked_with program store session index read)) found → Gives Left found
  each_left read before None there leaves = tt
  each_left read before (Some effect) there leaves = left_by read before effect there leaves

  next_left : (f : Asked → Option Effect) → ((asked : Asked) → Gives (Leaves asked) (f asked)) → Gives Left (of_next built program store session index f)
  next_left f leaves = next_gives built program store session index Left f (λ state read is idle. each_left read state (f (asked_with program store session index read)) is.state_is (leaves (asked_with program store session index read)))

  open_left : (f : Asked × PlainOpen → Option Effect) → ((asked : Asked) (seen : PlainOpen) → Gives (Leaves asked) (f (asked, seen))) → Gives Left (of_open built program store session index f)
  open_left f leaves =
      open_gives built program store session index Left f (λ state read seen at said running numbered.
      each_left read state (f (asked_with program store session index read, seen)) at (leaves (asked_with program store session index read) seen))

  entry_left : (k : EntryKind) → IsSingle k → Gives Left (session_entry built program store session index k)
  unfolding session_entry
  entry_left (kind.Start told) single = next_left _ (λ asked. start_leaves asked told)
  entry_left (kind.End gone added) single = open_left _ (λ asked seen. end_leaves asked seen gone added)
  entry_left (kind.Abandon told) single = open_left _ (λ asked seen. abandon_leaves asked seen told)
  entry_left (kind.Define told) single = next_left _ (λ asked. define_leaves asked told)
  entry_left (kind.Begin told) single = absurd single
  entry_left (kind.Commit told) single = absurd single
  entry_left kind.Rollback single = absurd single
  entry_left (kind.Wait told) single = absurd single
  entry_left (kind.Report told numbers) single = absurd single
  entry_left (kind.RecluStart table parts) single = tt
  entry_left (kind.RecluEnd table gone added) single = tt
  entry_left (kind.RecluMiss table why) single = tt
  entry_left (kind.Purge parts) single = tt
  entry_left kind.Close single = tt

  -- the session of an entry
  pub record Stepped (new : Plain) (told : Option Reply) : Type 0 where
    pub before : PlainSession
    pub there : slice_get store.sessions session ≡ Some before
    pub state : PlainSession
    pub set : new.sessions ≡ slice_set store.sessions session state
    pub transaction : state.transaction ≡ before.transaction
    pub ended : is_some told ≡ true → (state.running ≡ None) × (state.done ≡ index)

  pub stepped : (moment : ℕ) (k : EntryKind) (new : Plain) (reply : Option Reply) → IsSingle k → step_of built program store (record { moment = moment; actor = actor.Session session; index = index; kind = k }) ≡ Some (new, reply) → Stepped new reply
  unfolding step_of effect_of applied
  stepped moment k new reply single step =
      let entry : Entry = record { moment = moment; actor = actor.Session session; index = index; kind = k } in
      let found = map_some (λ (effect : Effect). (applied store effect, effect.reply)) (session_entry built program store session index k >>= λ effect. only_if (effect.moment == entry.moment) effect) (new, reply) step in
      let effect = bind_some (session_entry built program store session index k) (λ effect. only_if (effect.moment == entry.moment) effect) found.0 found.1 in
      let left = gives_at Left (session_entry built program store session index k >>= λ effect. only_if (effect.moment == entry.moment) effect) found.0
      (gives_bind Left (session_entry built program store session index k) _ (λ x e. gives_when Left (x.moment == entry.moment) x (λ test. gives_at Left (session_entry built program store session index k) x (entry_left k single) e)))
      found.1 in
      record {
        before = left.before;
        there = left.there;
        state = left.state;
        set = ap (λ (n : Plain × Option Reply). n.0.sessions) (sym found.2) ∙ ap (λ (o : Option (ℕ × PlainSession)). sessions_set o) left.is;
        transaction = left.transaction;
        ended = λ e. left.ended (ap (λ (n : Plain × Option Reply). is_some n.1) found.2 ∙ e);
      }
    where
      sessions_set : Option (ℕ × PlainSession) → List PlainSession
      sessions_set None = store.sessions
      sessions_set (Some change) = slice_set store.sessions change.0 change.1

  -- with a reply the session is idle
  pub idle_behind : (moment : ℕ) (k : EntryKind) (new : Plain) (answer : Reply) → IsSingle k → (session_at store session).transaction ≡ false
      → step_of built program store (record { moment = moment; actor = actor.Session session; index = index; kind = k }) ≡ Some (new, Some answer) → IsIdle new session index
  idle_behind moment k new answer single alone step =
      let s = stepped moment k new (Some answer) single step in
      record {
        state = s.state;
        there = ap (λ (ss : List PlainSession). slice_get ss session) s.set ∙ set_same store.sessions session s.state s.before s.there;
        counted = (s.ended refl).1;
        running = (s.ended refl).0;
        transaction = s.transaction ∙ (sym (ap (λ (o : Option PlainSession). (unwrap_or o new_session).transaction) s.there) ∙ alone);
      }

  -- and no transaction begins
  pub alone_behind : (moment : ℕ) (k : EntryKind) (new : Plain) (reply : Option Reply) → IsSingle k → (session_at store session).transaction ≡ false
      → step_of built program store (record { moment = moment; actor = actor.Session session; index = index; kind = k }) ≡ Some (new, reply) → (session_at new session).transaction ≡ false
  alone_behind moment k new reply single alone step =
      let s = stepped moment k new reply single step in
      ap (λ (ss : List PlainSession). (session_at_list ss).transaction) s.set
      ∙ ap (λ (o : Option PlainSession). (unwrap_or o new_session).transaction) (set_same store.sessions session s.state s.before s.there)
      ∙ s.transaction ∙ (sym (ap (λ (o : Option PlainSession). (unwrap_or o new_session).transaction) s.there) ∙ alone)
    where
      session_at_list : List PlainSession → PlainSession
      session_at_list ss = unwrap_or (slice_get ss session) new_session

  pub others_behind : (moment : ℕ) (k : EntryKind) (new : Plain) (reply : Option Reply) → IsSingle k
      → step_of built program store (record { moment = moment; actor = actor.Session session; index = index; kind = k }) ≡ Some (new, reply)
      → (other : ℕ) → other ≢ session → slice_get new.sessions other ≡ slice_get store.sessions other
  others_behind moment k new reply single step other ne =
      let s = stepped moment k new reply single step in
      ap (λ (ss : List PlainSession). slice_get ss other) s.set ∙ set_other store.sessions session other s.state ne
