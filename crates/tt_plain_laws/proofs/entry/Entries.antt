-- Each entry keeps the bags.
use Rattle.std.specs.Prelude.{Err, List, None, Option, Result, Some, [], filter, is_none, length, map, refl, slice_get, unwrap_or, ℕ, ⊤, ◌&&◌, ◌++◌, ◌+◌, ◌==◌, ◌∷◌, ◌<◌, ◌-◌, ◌≡◌}
use Rattle.std.proofs.Common.{arith, ap, subst, sym, ◌∙◌}
use Rattle.std.proofs.lemmas.Bool.{and_parts}
use Rattle.std.proofs.lemmas.Option.{none-some, same_Some, slice_get_within}
use Rattle.tt_history.specs.declared.history.Added.{Added}
use Rattle.tt_history.specs.declared.history.EntryKind.{EntryKind}
use Rattle.tt_plain.proofs.Answers.{bind_some, only_if_some}
use Rattle.tt_plain.proofs.Tests.{none_is, same_number}
use Rattle.tt_plain.proofs.law.Gives.{Gives, gives_bind, gives_on, gives_or, gives_tested, gives_when}
use Rattle.tt_plain.proofs.law.Turns.{next_gives, open_gives}
use Rattle.tt_plain.proofs.law.session.Alone.{IsDue, IsSaid}
use Rattle.tt_script.specs.Lines.{only_if}
use Rattle.tt_plain.specs.Answers.{◌>>=◌}
use Rattle.tt_plain.specs.asked.Asked.{Asked, request_asked}
use Rattle.tt_plain.specs.asked.Carried.{Carried}
use Rattle.tt_plain.specs.asked.Turns.{asked_with, open_asked, statement_read}
use Rattle.tt_plain.specs.declared.store.Plain.{Plain}
use Rattle.tt_plain.specs.declared.store.PlainOpen.{PlainOpen}
use Rattle.tt_plain.specs.declared.store.PlainSession.{PlainSession}
use Rattle.tt_plain.specs.declared.tally.TallyRound.{TallyRound}
use Rattle.tt_plain.specs.declared.tally.TallyPin.{TallyPin}
use Rattle.tt_plain_laws.proofs.entry.Landing.{landing_backs}
use Rattle.tt_plain.specs.effect.Apply.{applied}
use Rattle.tt_plain.specs.effect.Effect.{Effect}
use Rattle.tt_plain.specs.effect.End.{end_effect}
use Rattle.tt_plain.specs.effect.Miss.{may_miss, round_miss_effect}
use Rattle.tt_plain.specs.effect.Purge.{may_purge, purge_effect}
use Rattle.tt_plain.specs.effect.Rollback.{closing_effect, has_ended_statements, rollback_effect}
use Rattle.tt_plain.specs.effect.Round.{may_be_reclustered, miss_of, round_of, worker_effect}
use Rattle.tt_plain.specs.effect.RoundStart.{may_take, round_start_effect}
use Rattle.tt_plain.specs.history.Contents.{parts_added, pieces_of_lengths, rows_by_round, rows_by_session, rows_of_end}
use Rattle.tt_plain.specs.history.Step.{of_next, of_open, purge_entry, round_entry, session_entry}
use Rattle.tt_plain.specs.history.TrueFacts.{replaced_by}
use Rattle.tt_plain.specs.law.Changes.{IsSoundEffect}
use Rattle.tt_plain.specs.law.Sound.{IsSound}
use Rattle.tt_plain.specs.stored.Points.{count_in}
use Rattle.tt_plain.specs.stored.Sessions.{new_session, session_at}
use Rattle.tt_plain.specs.stored.Tables.{table_numbered}
use Rattle.tt_plain.specs.tally.Changes.{EndsRound, StartsRound, TakesAway, TallyChange, changed_tally}
use Rattle.tt_script.specs.declared.script.Script.{Script}
use Rattle.tt_sql.specs.declared.statement.Statement.{Statement}
use Rattle.tt_value.specs.declared.value.Row.{Row}
use Rattle.tt_plain_laws.proofs.parts.Added.{contents_added}
use Rattle.tt_plain_laws.proofs.parts.Backed.{AreBacked}
use Rattle.tt_plain_laws.proofs.entry.Changes.{end_backs}
use Rattle.tt_plain_laws.proofs.entry.Commits.{commit_backs, rollback_backs, rolled_backs}
use Rattle.tt_plain_laws.proofs.entry.Defines.{define_backs}
use Rattle.tt_plain_laws.proofs.parts.Known.{KnownChange}
use Rattle.tt_plain_laws.proofs.parts.Quiet.{IsQuietTally, quiet_backed, same_quiet, taken_quiet}
use Rattle.tt_plain_laws.proofs.entry.Sessions.{abandon_backs, begin_backs, report_backs, wait_backs}
use Rattle.tt_plain_laws.proofs.entry.Starts.{start_backs}
use Rattle.tt_plain_laws.specs.Guarded.{AreGuarded}
use Rattle.tt_history.specs.declared.history.EntryKind.TheVariants as kind

module _ (carried : Carried) (program : Script) (store : Plain) (contents : List (List Row)) (sound : IsSound carried program store) (backed : AreBacked carried program contents store) (guarded : AreGuarded store) where
  -- contents and store after an effect that adds these contents, if it is sound
  abbrev BacksBy : List (List Row) → Effect → Type 0
  BacksBy more effect = IsSoundEffect carried program store effect → AreBacked carried program (contents ++ more) (applied store effect)

  -- ---- workers

  worker_backs : (change : TallyChange) → IsQuietTally store.tally (changed_tally store.tally change) → KnownChange (length (contents ++ [])) change → (changed_tally store.tally change).pins ≡ store.tally.pins
      → ((round : TallyRound) → (changed_tally store.tally change).round ≡ Some round → round.table - 1 < length store.tables) → BacksBy [] (worker_effect store (change ∷ []))
  unfolding applied
  worker_backs change quiet known pins round good =
      quiet_backed carried program contents store (worker_effect store (change ∷ [])) sound backed (record {
        tables = tt;
        tally = quiet;
        known = (known, tt);
        own = λ session new e. absurd (none-some (session, new) e);
        pinned = λ session new e. absurd (none-some (session, new) e);
        round = round;
        others = λ other apart. ap (filter (λ (pin : TallyPin). pin.session == other)) pins;
      })

  pub round_backs : (index : ℕ) (k : EntryKind) → Gives (BacksBy (pieces_of_lengths (map (λ (part : Added). part.rows) (parts_added k)) (rows_by_round contents store k))) (round_entry store index k)
  unfolding round_entry round_start_effect round_miss_effect
  round_backs index (kind.RecluStart number parts) =
      gives_tested (BacksBy []) (is_none store.tally.round && index == store.tally.rounds + 1) index _ (λ next.
      gives_bind (BacksBy []) (table_numbered store number) _ (λ table there.
      gives_tested (BacksBy []) (may_be_reclustered store table && may_take store.tally number parts) table _ (λ free.
      gives_bind (BacksBy []) table.key _ (λ key has_key.
      worker_backs (StartsRound (record { table = number; key = key; parts = parts })) (same_quiet store.tally (changed_tally store.tally (StartsRound (record { table = number; key = key; parts = parts }))) refl refl refl) tt refl
      (λ round e. omega (arith, slice_get_within store.tables (number - 1) table there, ap (λ (r : TallyRound). r.table) (same_Some (record { table = number; key = key; parts = parts }) round e)))))))
  round_backs index (kind.RecluEnd table gone added) = landing_backs carried program store contents sound backed guarded index table gone added
  round_backs index (kind.RecluMiss table why) =
      gives_bind (BacksBy []) (round_of store index table) _ (λ round there.
      gives_tested (BacksBy []) (may_miss (miss_of store round) why) round _ (λ missed.
      worker_backs EndsRound (same_quiet store.tally (changed_tally store.tally EndsRound) refl refl refl) tt refl (λ round e. absurd (none-some round e))))
  round_backs index _ = tt

  pub purge_backs : (index : ℕ) (k : EntryKind) → Gives (BacksBy (pieces_of_lengths (map (λ (part : Added). part.rows) (parts_added k)) [])) (purge_entry store index k)
  unfolding purge_entry purge_effect
  purge_backs index (kind.Purge parts) =
      gives_when (BacksBy []) (index == store.tally.purges + 1 && may_purge store parts) _ (λ test. worker_backs (TakesAway parts) (taken_quiet store.tally parts) tt refl (λ round e. backed.round round e))
  purge_backs index _ = tt

  -- ---- sessions

  module _ (session index : ℕ) where
    abbrev here : Result Statement ℕ → Asked
    here read = asked_with program store session index read

    same_state : (state : PlainSession) → slice_get store.sessions session ≡ Some state → session_at store session ≡ state
    same_state state at = ap (λ (s : Option PlainSession). unwrap_or s new_session) at

    due_of : (state : PlainSession) (read : Result Statement ℕ) → slice_get store.sessions session ≡ Some state → IsDue carried (here read)
    due_of state read at = record { sound = sound; next = refl; at = at ∙ ap Some (sym (same_state state at)) }

    said_of : (state : PlainSession) (read : Result Statement ℕ) → slice_get store.sessions session ≡ Some state → index ≡ state.done + 1 → statement_read carried program session index ≡ Some read → IsSaid carried (here read)
    said_of state read at counted said = record { counted = counted ∙ ap (λ (s : PlainSession). s.done + 1) (sym (same_state state at)); said = said }

    next_backs : (f : Asked → Option Effect)
        → ((read : Result Statement ℕ) → IsDue carried (here read) → IsSaid carried (here read) → (session_at store session).running ≡ None → Gives (BacksBy []) (f (here read)))
        → Gives (BacksBy []) (of_next carried program store session index f)
    next_backs f gives =
        next_gives carried program store session index (BacksBy []) f (λ state read turn idle.
        gives read (due_of state read turn.state_is) (said_of state read turn.state_is turn.counted turn.said) (ap (λ (s : PlainSession). s.running) (same_state state turn.state_is) ∙ idle))

    quiet_in : {P : Effect → Type 0} (o : Option Effect) → ((effect : Effect) → P effect → AreBacked carried program (contents ++ []) (applied store effect)) → Gives P o → Gives (BacksBy []) o
    quiet_in {P} o on gives = gives_on P (BacksBy []) o (λ effect h good. on effect h) gives

    -- what is said of an open statement
    record IsOpened (found : Asked × PlainOpen) : Type 0 where
      state : PlainSession
      read : Result Statement ℕ
      at : slice_get store.sessions session ≡ Some state
      running : state.running ≡ Some found.1
      said : statement_read carried program session index ≡ Some read
      counted : found.1.index ≡ index
      is : found.0 ≡ here read

    opened : (found : Asked × PlainOpen) → open_asked carried program store session index ≡ Some found → IsOpened found
    unfolding open_asked
    opened found e =
        let at = bind_some (slice_get store.sessions session) _ found e in
        let open_now = bind_some at.0.running _ found at.2 in
        let same = bind_some (only_if (open_now.0.index == index) open_now.0) _ found open_now.2 in
        let test = only_if_some (open_now.0.index == index) open_now.0 same.0 same.1 in
        let read = bind_some (statement_read carried program session index) _ found same.2 in
        let is : ◌≡◌ {A = Asked × PlainOpen} (here read.0, same.0) found = same_Some (here read.0, same.0) found read.2 in
        let seen : open_now.0 ≡ found.1 = test.1 ∙ ap (λ (f : Asked × PlainOpen). f.1) is in
        record {
          state = at.0;
          read = read.0;
          at = at.1;
          running = open_now.1 ∙ ap Some seen;
          said = read.1;
          counted = ap (λ (s : PlainOpen). s.index) (sym seen) ∙ same_number open_now.0.index index test.0;
          is = ap (λ (f : Asked × PlainOpen). f.0) (sym is);
        }

    abbrev rows_of_open : List ℕ → Option (Asked × PlainOpen) → Option (List Row)
    rows_of_open gone o = o >>= λ found. rows_of_end contents found.0 found.1 gone (request_asked found.0)

    abbrev removed_of_open : Option (Asked × PlainOpen) → Option (List ℕ)
    removed_of_open o = o >>= λ found. replaced_by contents found.0 found.1 (request_asked found.0)

    ended_backs : (gone : List ℕ) (added : List Added) → gone ≡ unwrap_or (removed_of_open (open_asked carried program store session index)) []
        → Gives (BacksBy (pieces_of_lengths (map (λ (part : Added). part.rows) added) (unwrap_or (rows_of_open gone (open_asked carried program store session index)) []))) (of_open carried program store session index (λ found. end_effect found gone added))
    ended_backs gone added touches =
        gives_bind (BacksBy (pieces_of_lengths (map (λ (part : Added). part.rows) added) (unwrap_or (rows_of_open gone (open_asked carried program store session index)) []))) (open_asked carried program store session index) (λ found. end_effect found gone added)
        (λ found e. by found (opened found e) e (touches ∙ ap (λ (o : Option (Asked × PlainOpen)). unwrap_or (removed_of_open o) []) e))
      where
        by : (found : Asked × PlainOpen) → IsOpened found → open_asked carried program store session index ≡ Some found → gone ≡ unwrap_or (replaced_by contents found.0 found.1 (request_asked found.0)) []
            → Gives (BacksBy (pieces_of_lengths (map (λ (part : Added). part.rows) added) (unwrap_or (rows_of_open gone (open_asked carried program store session index)) []))) (end_effect found gone added)
        by (asked, seen) open_now e gone_is =
            let counted : index ≡ open_now.state.done + 1 = sym open_now.counted ∙ ((sound.each session open_now.state open_now.at).running seen open_now.running).counted in
            let due = due_of open_now.state open_now.read open_now.at in
            let said = said_of open_now.state open_now.read open_now.at counted open_now.said in
            let touched : gone ≡ unwrap_or (replaced_by contents (here open_now.read) seen (request_asked (here open_now.read))) [] = subst (λ (a : Asked). gone ≡ unwrap_or (replaced_by contents a seen (request_asked a)) []) open_now.is gone_is in
            let rows : unwrap_or (rows_of_open gone (open_asked carried program store session index)) [] ≡ unwrap_or (rows_of_end contents (here open_now.read) seen gone (request_asked (here open_now.read))) [] =
            ap (λ (o : Option (Asked × PlainOpen)). unwrap_or (rows_of_open gone o) []) e ∙ ap (λ (a : Asked). unwrap_or (rows_of_end contents a seen gone (request_asked a)) []) open_now.is in
            subst (λ (rs : List Row). Gives (BacksBy (contents_added added rs)) (end_effect (asked, seen) gone added)) (sym rows)
            (subst (λ (a : Asked). Gives (BacksBy (contents_added added (unwrap_or (rows_of_end contents (here open_now.read) seen gone (request_asked (here open_now.read))) []))) (end_effect (a, seen) gone added)) (sym open_now.is)
            (end_backs carried (here open_now.read) due said contents backed guarded seen (ap (λ (s : PlainSession). s.running) (same_state open_now.state open_now.at) ∙ open_now.running) gone added touched))

    closing_backs : Gives (BacksBy []) (closing_effect program store session index)
    unfolding closing_effect
    closing_backs =
        gives_bind (BacksBy []) (slice_get store.sessions session) _ (λ state at.
        gives_tested (BacksBy []) (has_ended_statements program session state && index == state.done + 1) state _ (λ test.
        gives_tested (BacksBy []) state.transaction state _ (λ in_transaction.
        let ended = and_parts (is_none state.running) (state.done == count_in (slice_get program.sessions session)) (and_parts (has_ended_statements program session state) (index == state.done + 1) test).0 in
        rolled_backs carried (here (Err 0)) (due_of state (Err 0) at) contents backed guarded state [] None (none_is state.running ended.0))))

    -- the parts that an end removes are those that it touches
    abbrev pub Touches : EntryKind → Type 0
    Touches (kind.End gone added) = gone ≡ unwrap_or (removed_of_open (open_asked carried program store session index)) []
    Touches _ = ⊤

    pub session_backs : (k : EntryKind) → Touches k → Gives (BacksBy (pieces_of_lengths (map (λ (part : Added). part.rows) (parts_added k)) (unwrap_or (rows_by_session carried program contents store session index k) []))) (session_entry carried program store session index k)
    unfolding session_entry
    session_backs (kind.Begin t) touches = next_backs _ (λ read due said idle. quiet_in _ (λ effect h. h) (begin_backs carried (here read) due contents backed t))
    session_backs (kind.Start t) touches = next_backs _ (λ read due said idle. quiet_in _ (λ effect h. h) (start_backs carried (here read) due said contents backed guarded t))
    session_backs (kind.End gone added) touches = ended_backs gone added touches
    session_backs (kind.Abandon t) touches =
        open_gives carried program store session index (BacksBy []) _ (λ state read seen at said running counted. quiet_in _ (λ effect h. h) (abandon_backs carried (here read) (due_of state read at) contents backed seen t))
    session_backs (kind.Commit t) touches = next_backs _ (λ read due said idle. commit_backs carried (here read) due contents backed guarded t idle)
    session_backs kind.Rollback touches =
        gives_or (BacksBy []) (of_next carried program store session index rollback_effect) (closing_effect program store session index)
        (next_backs rollback_effect (λ read due said idle. rollback_backs carried (here read) due contents backed guarded)) closing_backs
    session_backs (kind.Define t) touches = next_backs _ (λ read due said idle. define_backs carried (here read) due said contents backed guarded t)
    session_backs (kind.Wait t) touches = next_backs _ (λ read due said idle. quiet_in _ (λ effect h. h) (wait_backs carried (here read) due contents backed t))
    session_backs (kind.Report t numbers) touches = next_backs _ (λ read due said idle. quiet_in _ (λ effect h. h) (report_backs carried (here read) due contents backed t numbers))
    session_backs (kind.RecluStart table parts) touches = tt
    session_backs (kind.RecluEnd table gone added) touches = tt
    session_backs (kind.RecluMiss table why) touches = tt
    session_backs (kind.Purge parts) touches = tt
    session_backs kind.Close touches = tt
