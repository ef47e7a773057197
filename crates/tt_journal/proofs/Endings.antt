-- Where a statement ends: in a run that leaves nothing to do, a commit ends its statement unless its session goes on with it.
use Rattle.std.specs.List.{enumerate_from, list_all}
use Rattle.std.specs.Prelude.{Bool, List, None, Option, Result, Some, [], false, if◌then◌else◌, is_none, is_some, not, option_and_then, option_map, refl, slice_get, true, ℕ, ◌&&◌, ◌++◌, ◌+◌, ◌-◌, ◌==◌, ◌∷◌, ◌≡◌}
use Rattle.std.proofs.Common.{ap, arith, inl, inr, subst, suc, sym, zero, ◌∙◌, ◌⊎◌}
use Rattle.std.proofs.lemmas.Bool.{and_parts, false≢true}
use Rattle.std.proofs.lemmas.Bool.Decides.{nat_tests}
use Rattle.std.proofs.lemmas.Option.{none-some, same_Some, slice_get_past}
use Rattle.tt_history.specs.declared.history.Actor.{Actor}
use Rattle.tt_history.specs.declared.history.Entry.{Entry}
use Rattle.tt_history.specs.declared.history.EntryKind.{EntryKind}
use Rattle.tt_history.specs.declared.reply.Reply.{Reply}
use Rattle.tt_plain.proofs.Answers.{bind_some, map_some, only_if_some}
use Rattle.tt_plain.proofs.Tests.{same_number, same_test}
use Rattle.tt_plain.proofs.law.Clock.{replay_none, replies_stand}
use Rattle.tt_plain.proofs.law.Gives.{Gives, gives_at, gives_bind, gives_or, gives_tested}
use Rattle.tt_plain.proofs.law.Turns.{due_gives, next_gives, open_gives}
use Rattle.tt_script.specs.Lines.{only_if}
use Rattle.tt_plain.specs.Answers.{◌>>=◌}
use Rattle.tt_plain.specs.asked.Asked.{Asked}
use Rattle.tt_plain.specs.asked.Carried.{Carried}
use Rattle.tt_plain.specs.asked.Request.{Commits, Defines, Request, request_of}
use Rattle.tt_plain.specs.asked.Turns.{asked_with, carried_out, statement_read}
use Rattle.tt_plain.specs.declared.store.Plain.{Plain}
use Rattle.tt_plain.specs.declared.store.PlainOpen.{PlainOpen}
use Rattle.tt_plain.specs.declared.store.PlainSession.{PlainSession}
use Rattle.tt_plain.specs.effect.Apply.{applied, changed_session}
use Rattle.tt_plain.specs.effect.Commit.{commit_effect, committed, committed_by}
use Rattle.tt_plain.specs.effect.Effect.{Effect}
use Rattle.tt_plain.specs.effect.Rollback.{closing_effect, has_ended_statements, rollback_effect}
use Rattle.tt_plain.specs.history.Complete.{all_finished, is_finished}
use Rattle.tt_plain.specs.history.Replay.{Run, replay_from}
use Rattle.tt_plain.specs.history.Replies.{carries_reply, ends_one_of, ends_statement, is_definition}
use Rattle.tt_plain.specs.history.Step.{actor_entry, effect_of, of_next, of_open, purge_entry, round_entry, session_entry, step_of}
use Rattle.tt_plain.specs.stored.Points.{count_in}
use Rattle.tt_script.specs.Program.{span_of, text_at}
use Rattle.tt_script.specs.declared.script.Script.{Script}
use Rattle.tt_script.specs.declared.script.SessionText.{SessionText}
use Rattle.tt_sql.specs.declared.statement.Statement.{Statement}
use Rattle.tt_sql.specs.text.StatementOf.{statement_of}
use Rattle.tt_journal.specs.Answered.{actor_ends, ends_here, goes_on, has_statement, is_of_session, kind_ends}
use Rattle.tt_journal.proofs.Own.{IsOwn, Touches, purge_none, round_none, session_own, set_apart, set_here}
use Rattle.tt_history.specs.declared.history.Actor.TheVariants as actor
use Rattle.tt_plain.specs.asked.Event as event
use Rattle.tt_history.specs.declared.history.EntryKind.TheVariants as kind
use Rattle.tt_history.specs.declared.history.Told.TheVariants as told

-- a session with no open statement, so many of which are done
pub record IsIdle (store : Plain) (session done : ℕ) : Type 0 where
  pub state : PlainSession
  pub at : slice_get store.sessions session ≡ Some state
  pub idle : state.running ≡ None
  pub counted : state.done ≡ done

-- what a step does, and the entry that it is by
stepped : (carried : Carried) (program : Script) (store : Plain) (entry : Entry) (next : Plain × Option Reply) → step_of carried program store entry ≡ Some next
    → (effect : Effect) × (actor_entry carried program store entry.actor entry.index entry.kind ≡ Some effect) × (applied store effect ≡ next.0)
unfolding step_of effect_of
stepped carried program store entry next e =
    let found = map_some (λ (effect : Effect). (applied store effect, effect.reply)) (actor_entry carried program store entry.actor entry.index entry.kind >>= λ effect. only_if (effect.moment == entry.moment) effect) next e in
    let by = bind_some (actor_entry carried program store entry.actor entry.index entry.kind) (λ effect. only_if (effect.moment == entry.moment) effect) found.0 found.1 in
    let same = only_if_some (by.0.moment == entry.moment) by.0 found.0 by.2 in
    (found.0, by.1 ∙ ap Some same.1, ap (λ (n : Plain × Option Reply). n.0) found.2)

-- ---- the next entry of an idle session

module _ (carried : Carried) (program : Script) (store : Plain) (session done : ℕ) (here : IsIdle store session done) where
  is_state : (state : PlainSession) → slice_get store.sessions session ≡ Some state → here.state ≡ state
  is_state state at = same_Some here.state state (sym here.at ∙ at)

  module _ (index : ℕ) where
    counted_by : (state : PlainSession) → slice_get store.sessions session ≡ Some state → index ≡ state.done + 1 → index ≡ done + 1
    counted_by state at e = e ∙ ap (λ (s : PlainSession). s.done + 1) (sym (is_state state at)) ∙ ap (λ (n : ℕ). n + 1) here.counted

    always : (o : Option Effect) → index ≡ done + 1 → Gives (λ (effect : Effect). index ≡ done + 1) o
    always None e = tt
    always (Some effect) e = e

    next_counted : (f : Asked → Option Effect) → Gives (λ (effect : Effect). index ≡ done + 1) (of_next carried program store session index f)
    next_counted f =
        next_gives carried program store session index (λ (effect : Effect). index ≡ done + 1) f (λ state read turn idle.
        always (f (asked_with program store session index read)) (counted_by state turn.state_is turn.counted))

    none_open : (f : Asked × PlainOpen → Option Effect) → Gives (λ (effect : Effect). index ≡ done + 1) (of_open carried program store session index f)
    none_open f =
        open_gives carried program store session index (λ (effect : Effect). index ≡ done + 1) f (λ state read seen at said running counted.
        absurd (none-some seen (sym here.idle ∙ (ap (λ (s : PlainSession). s.running) (is_state state at) ∙ running))))

    closing_counted : Gives (λ (effect : Effect). index ≡ done + 1) (closing_effect program store session index)
    unfolding closing_effect
    closing_counted =
        gives_bind _ (slice_get store.sessions session) _ (λ state at.
        gives_tested _ (has_ended_statements program session state && index == state.done + 1) state _ (λ test.
        gives_tested _ state.transaction state _ (λ in_transaction.
        let both = and_parts (has_ended_statements program session state) (index == state.done + 1) test in
        counted_by state at (same_number index (state.done + 1) both.1))))

    session_counted : (k : EntryKind) → Gives (λ (effect : Effect). index ≡ done + 1) (session_entry carried program store session index k)
    unfolding session_entry
    session_counted (kind.Begin t) = next_counted _
    session_counted (kind.Start t) = next_counted _
    session_counted (kind.End gone added) = none_open _
    session_counted (kind.Abandon t) = none_open _
    session_counted (kind.Commit t) = next_counted _
    session_counted kind.Rollback = gives_or _ (of_next carried program store session index rollback_effect) _ (next_counted rollback_effect) closing_counted
    session_counted (kind.Define t) = next_counted _
    session_counted (kind.Wait t) = next_counted _
    session_counted (kind.Report t numbers) = next_counted _
    session_counted (kind.RecluStart table parts) = tt
    session_counted (kind.RecluEnd table gone added) = tt
    session_counted (kind.RecluMiss table why) = tt
    session_counted (kind.Purge parts) = tt
    session_counted kind.Close = tt

    own_index : (k : EntryKind) (a : Actor) (effect : Effect) → is_of_session session a ≡ true → actor_entry carried program store a index k ≡ Some effect → index ≡ done + 1
    own_index k (actor.Session other) effect own e =
        gives_at (λ (effect : Effect). index ≡ done + 1) (session_entry carried program store session index k) effect (session_counted k)
        (subst (λ (n : ℕ). session_entry carried program store n index k ≡ Some effect) (same_number other session own) e)
    own_index k actor.Recluster effect own e = absurd (false≢true own)
    own_index k actor.Purge effect own e = absurd (false≢true own)

  -- an entry of another leaves it idle
  unmoved : (change : Option (ℕ × PlainSession)) → (other : ℕ) → (other == session) ≡ false → Touches other change → slice_get (changed_session store.sessions change) session ≡ Some here.state
  unmoved None other apart touches = here.at
  unmoved (Some change) other apart touches =
      set_apart store.sessions change.0 change.1 session here.state (λ same. grind (arith, nat_tests, apart, touches, same)) here.at

  still : (effect : Effect) (next : Plain) → applied store effect ≡ next → slice_get (changed_session store.sessions effect.session) session ≡ Some here.state → IsIdle next session done
  unfolding applied
  still effect next is at = record {
    state = here.state;
    at = subst (λ (s : Plain). slice_get s.sessions session ≡ Some here.state) is at;
    idle = here.idle;
    counted = here.counted;
  }

  others_at : (index : ℕ) (k : EntryKind) (a : Actor) (effect : Effect) → is_of_session session a ≡ false → actor_entry carried program store a index k ≡ Some effect
      → slice_get (changed_session store.sessions effect.session) session ≡ Some here.state
  others_at index k (actor.Session other) effect apart e =
      unmoved effect.session other apart (gives_at (IsOwn other) (session_entry carried program store other index k) effect (session_own carried program store other index k) e)
  others_at index k actor.Recluster effect apart e =
      ap (λ (change : Option (ℕ × PlainSession)). slice_get (changed_session store.sessions change) session)
      (gives_at (λ (f : Effect). f.session ≡ None) (round_entry store index k) effect (round_none store index k) e) ∙ here.at
  others_at index k actor.Purge effect apart e =
      ap (λ (change : Option (ℕ × PlainSession)). slice_get (changed_session store.sessions change) session)
      (gives_at (λ (f : Effect). f.session ≡ None) (purge_entry store index k) effect (purge_none store index k) e) ∙ here.at

-- Behind an idle session either its next entry is one of its next statement, or it has none and stays as it is.
abbrev NextIs : Plain → ℕ → ℕ → List Entry → Type 0
NextIs last session done entries =
    ((index : ℕ) → goes_on session index entries ≡ (done + 1 == index)) ⊎ (((index : ℕ) → goes_on session index entries ≡ false) × IsIdle last session done)

module _ (carried : Carried) (program : Script) (session done : ℕ) where
  next_is : (before run : Run) (entries : List Entry) → IsIdle before.0 session done → replay_from carried program (Some before) entries ≡ Some run → NextIs run.0 session done entries
  unfolding replay_from goes_on
  next_is before run [] here e = inr ((λ index. refl), subst (λ (r : Run). IsIdle r.0 session done) (same_Some before run e) here)
  next_is before run (entry ∷ entries) here e = goes (λ next at f. next_is next run entries at f) (step_of carried program before.0 entry) refl e
    where
      first : (own : Bool) → is_of_session session entry.actor ≡ own → (next : Plain × Option Reply) → step_of carried program before.0 entry ≡ Some next
          → (IsIdle next.0 session done → NextIs run.0 session done entries)
          → ((index : ℕ) → (if own then entry.index == index else goes_on session index entries) ≡ (done + 1 == index)) ⊎ (((index : ℕ) → (if own then entry.index == index else goes_on session index entries) ≡ false) × IsIdle run.0 session done)
      first true own next is behind =
          let by = stepped carried program before.0 entry next is in
          let counted = own_index carried program before.0 session done here entry.index entry.kind entry.actor by.0 own by.1 in
          inl (λ index. ap (λ (n : ℕ). n == index) counted)
      first false apart next is behind =
          let by = stepped carried program before.0 entry next is in
          behind (still carried program before.0 session done here by.0 next.0 by.2 (others_at carried program before.0 session done here entry.index entry.kind entry.actor by.0 apart by.1))

      goes : ((next : Run) → IsIdle next.0 session done → replay_from carried program (Some next) entries ≡ Some run → NextIs run.0 session done entries)
          → (step : Option (Plain × Option Reply)) → step_of carried program before.0 entry ≡ step
          → replay_from carried program (step >>= λ next. Some (next.0, before.1 ++ next.1 ∷ [])) entries ≡ Some run → NextIs run.0 session done (entry ∷ entries)
      goes behind None is f = absurd (none-some run (sym (replay_none carried program entries) ∙ f))
      goes behind (Some next) is f =
          first (is_of_session session entry.actor) refl next is (λ at. behind (next.0, before.1 ++ next.1 ∷ []) at f)

-- ---- what a commit that is done leaves

pub record IsLeft (carried : Carried) (program : Script) (store : Plain) (session index : ℕ) (effect : Effect) : Type 0 where
  pub state : PlainSession
  pub at : slice_get store.sessions session ≡ Some state
  pub read : Result Statement ℕ
  pub said : statement_read carried program session index ≡ Some read
  pub new : PlainSession
  pub session_is : effect.session ≡ Some (session, new)
  pub idle : new.running ≡ None
  pub counted : index ≡ (if is_definition (request_of read) then new.done + 1 else new.done)

module _ (carried : Carried) (program : Script) (store : Plain) (session index : ℕ) where
  committed_left : (state : PlainSession) (read : Result Statement ℕ) (request : Request) → request_of read ≡ request → slice_get store.sessions session ≡ Some state → index ≡ state.done + 1
      → statement_read carried program session index ≡ Some read → state.running ≡ None
      → Gives (IsLeft carried program store session index) (committed_by (asked_with program store session index read) request)
  unfolding committed
  committed_left state read Commits r at counted said idle = record {
    state = state;
    at = at;
    read = read;
    said = said;
    new = _;
    session_is = refl;
    idle = refl;
    counted = rw r refl;
  }
  committed_left state read (Defines d) r at counted said idle = record {
    state = state;
    at = at;
    read = read;
    said = said;
    new = _;
    session_is = refl;
    idle = rw at idle;
    counted = rw (r, at) counted;
  }
  committed_left state read _ r at counted said idle = tt

  commit_left : Gives (IsLeft carried program store session index) (session_entry carried program store session index (kind.Commit told.Done))
  unfolding session_entry commit_effect
  commit_left =
      next_gives carried program store session index (IsLeft carried program store session index) (λ asked. commit_effect asked told.Done) (λ state read turn idle.
      due_gives _ event.Commit (asked_with program store session index read) _ (λ due.
      committed_left state read (request_of read) refl turn.state_is turn.counted turn.said idle))

-- ---- a run that leaves nothing to do

all_at : (program : Script) (sessions : List PlainSession) (first k : ℕ) (state : PlainSession) → list_all (λ (found : ℕ × PlainSession). is_finished program found.0 found.1) (enumerate_from first sessions) ≡ true
    → slice_get sessions k ≡ Some state → is_finished program (first + k) state ≡ true
all_at program [] first k state all at = absurd (none-some state at)
all_at program (s ∷ sessions) first zero state all at =
    let both = and_parts (is_finished program first s) (list_all (λ (found : ℕ × PlainSession). is_finished program found.0 found.1) (enumerate_from (first + 1) sessions)) all in
    subst (λ (n : ℕ). is_finished program n state ≡ true) (omega arith) (subst (λ (t : PlainSession). is_finished program first t ≡ true) (same_Some s state at) both.0)
all_at program (s ∷ sessions) first (suc k) state all at =
    let both = and_parts (is_finished program first s) (list_all (λ (found : ℕ × PlainSession). is_finished program found.0 found.1) (enumerate_from (first + 1) sessions)) all in
    subst (λ (n : ℕ). is_finished program n state ≡ true) (omega arith) (all_at program sessions (first + 1) k state both.1 at)

-- a session that is idle at its end has done all its statements
done_all : (program : Script) (last : Plain) (session done : ℕ) → all_finished program last ≡ true → IsIdle last session done → done ≡ count_in (slice_get program.sessions session)
done_all program last session done finished at =
    let here : is_finished program session at.state ≡ true = subst (λ (n : ℕ). is_finished program n at.state ≡ true) (omega arith) (all_at program last.sessions 0 session at.state finished at.at) in
    let both = and_parts (has_ended_statements program session at.state) (not at.state.transaction) here in
    let ended = and_parts (is_none at.state.running) (at.state.done == count_in (slice_get program.sessions session)) both.0 in
    sym at.counted ∙ same_number at.state.done _ ended.1

-- behind the last statement there is none
none_there : (lines : Option SessionText) (place : ℕ) → place ≡ count_in lines → option_and_then (λ (l : SessionText). slice_get l.statements place) lines ≡ None
none_there None place e = refl
none_there (Some lines) place e = slice_get_past lines.statements place (omega (arith, e))

other_test : (n : ℕ) → (n + 1 == n) ≡ false
other_test n = grind (arith, nat_tests)

-- a commit that is done is one in front of a definition where the session goes on with the statement
commit_goes : (carried : Carried) (program : Script) (store : Plain) (session index : ℕ) (effect : Effect) (told_before : List (Option Reply)) (run : Run) (later : List Entry) (read : Result Statement ℕ)
    → session_entry carried program store session index (kind.Commit told.Done) ≡ Some effect → statement_read carried program session index ≡ Some read
    → replay_from carried program (Some (applied store effect, told_before)) later ≡ Some run → all_finished program run.0 ≡ true
    → is_definition (request_of read) ≡ goes_on session index later
unfolding applied statement_read
commit_goes carried program store session index effect told_before run later read e said replayed finished =
    by (is_definition (request_of read)) refl (next_is carried program session left.new.done (applied store effect, told_before) run later idle replayed)
  where
    left : IsLeft carried program store session index effect
    left = gives_at (IsLeft carried program store session index) (session_entry carried program store session index (kind.Commit told.Done)) effect (commit_left carried program store session index) e

    idle : IsIdle (applied store effect) session left.new.done
    idle = record {
      state = left.new;
      at = ap (λ (change : Option (ℕ × PlainSession)). slice_get (changed_session store.sessions change) session) left.session_is ∙ set_here store.sessions session left.new left.state left.at;
      idle = left.idle;
      counted = refl;
    }

    counted : index ≡ (if is_definition (request_of read) then left.new.done + 1 else left.new.done)
    counted = subst (λ (r : Result Statement ℕ). index ≡ (if is_definition (request_of r) then left.new.done + 1 else left.new.done)) (same_Some left.read read (sym left.said ∙ said)) left.counted

    by : (definition : Bool) → is_definition (request_of read) ≡ definition → NextIs run.0 session left.new.done later → definition ≡ goes_on session index later
    by true d (inl next) =
        let c : index ≡ left.new.done + 1 = subst (λ (b : Bool). index ≡ (if b then left.new.done + 1 else left.new.done)) d counted in
        sym (next index ∙ ap (λ (n : ℕ). left.new.done + 1 == n) c ∙ same_test (left.new.done + 1))
    by false d (inl next) =
        let c : index ≡ left.new.done = subst (λ (b : Bool). index ≡ (if b then left.new.done + 1 else left.new.done)) d counted in
        sym (next index ∙ ap (λ (n : ℕ). left.new.done + 1 == n) c ∙ other_test left.new.done)
    by true d (inr none) =
        let c : index ≡ left.new.done + 1 = subst (λ (b : Bool). index ≡ (if b then left.new.done + 1 else left.new.done)) d counted in
        let all = done_all program run.0 session left.new.done finished none.1 in
        let nothing : span_of program session (index - 1) ≡ None = none_there (slice_get program.sessions session) (index - 1) (omega (arith, c, all)) in
        absurd (none-some read (sym (ap (option_map (λ span. carried_out carried (statement_of (text_at program span)))) nothing) ∙ said))
    by false d (inr none) = sym (none.0 index)

-- ---- the rule of the writer

module _ (carried : Carried) (program : Script) (store : Plain) (session index : ℕ) (told_before : List (Option Reply)) (run : Run) (later : List Entry) where
  kind_is : (read : Result Statement ℕ) (k : EntryKind) (effect : Effect) → session_entry carried program store session index k ≡ Some effect → statement_read carried program session index ≡ Some read
      → replay_from carried program (Some (applied store effect, told_before)) later ≡ Some run → all_finished program run.0 ≡ true
      → ends_statement (request_of read) k ≡ kind_ends session index k later
  unfolding kind_ends
  kind_is read (kind.Begin t) effect e said replayed finished = refl
  kind_is read (kind.Start t) effect e said replayed finished = refl
  kind_is read (kind.End gone added) effect e said replayed finished = refl
  kind_is read (kind.Abandon t) effect e said replayed finished = refl
  kind_is read (kind.Commit told.Done) effect e said replayed finished =
      ap not (commit_goes carried program store session index effect told_before run later read e said replayed finished)
  kind_is read (kind.Commit (told.Refused number)) effect e said replayed finished = refl
  kind_is read (kind.Commit told.Memory) effect e said replayed finished = refl
  kind_is read kind.Rollback effect e said replayed finished = refl
  kind_is read (kind.Define t) effect e said replayed finished = refl
  kind_is read (kind.Wait t) effect e said replayed finished = refl
  kind_is read (kind.Report t numbers) effect e said replayed finished = refl
  kind_is read (kind.RecluStart table parts) effect e said replayed finished = refl
  kind_is read (kind.RecluEnd table gone added) effect e said replayed finished = refl
  kind_is read (kind.RecluMiss table why) effect e said replayed finished = refl
  kind_is read (kind.Purge parts) effect e said replayed finished = refl
  kind_is read kind.Close effect e said replayed finished = refl

  session_is : (k : EntryKind) (effect : Effect) → session_entry carried program store session index k ≡ Some effect
      → replay_from carried program (Some (applied store effect, told_before)) later ≡ Some run → all_finished program run.0 ≡ true
      → ends_one_of (statement_read carried program session index) k ≡ (has_statement program session index && kind_ends session index k later)
  unfolding statement_read
  session_is k effect e replayed finished = by (span_of program session (index - 1)) refl
    where
      by : (span : Option (ℕ × ℕ)) → span_of program session (index - 1) ≡ span
          → ends_one_of (option_map (λ s. carried_out carried (statement_of (text_at program s))) span) k ≡ (is_some span && kind_ends session index k later)
      by None s = refl
      by (Some span) s =
          kind_is (carried_out carried (statement_of (text_at program span))) k effect e (ap (option_map (λ t. carried_out carried (statement_of (text_at program t)))) s) replayed finished

-- In a run that leaves nothing to do an entry has a reply just where the writer finds that a statement ends.
pub ends_where_told : (carried : Carried) (program : Script) (store : Plain) (entry : Entry) (next : Plain × Option Reply) (told_before : List (Option Reply)) (run : Run) (later : List Entry)
    → step_of carried program store entry ≡ Some next → replay_from carried program (Some (next.0, told_before)) later ≡ Some run → all_finished program run.0 ≡ true
    → is_some next.1 ≡ ends_here program entry later
ends_where_told carried program store entry next told_before run later is replayed finished =
    replies_stand carried program store entry next is ∙ by entry.actor found.1
  where
    found : (effect : Effect) × (actor_entry carried program store entry.actor entry.index entry.kind ≡ Some effect) × (applied store effect ≡ next.0)
    found = stepped carried program store entry next is

    by : (a : Actor) → actor_entry carried program store a entry.index entry.kind ≡ Some found.0 → carries_reply carried program entry a ≡ actor_ends program a entry later
    by (actor.Session session) e =
        session_is carried program store session entry.index told_before run later entry.kind found.0 e
        (subst (λ (s : Plain). replay_from carried program (Some (s, told_before)) later ≡ Some run) (sym found.2) replayed) finished
    by actor.Recluster e = refl
    by actor.Purge e = refl
