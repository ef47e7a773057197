use Rattle.std.proofs.Common.{◌≡◌, ◌∙◌, ℕ, ◌<◌, Some, List, length, get_or, refl, ap, sym, subst, arith}
use Rattle.std.specs.Prelude.{slice_get}
use Rattle.std.proofs.lemmas.Option.{slice_get_read}
use Rattle.tt_script.specs.declared.script.Script.{Script}
use Rattle.tt_script.specs.declared.script.SessionText.{SessionText}
use Rattle.tt_history.specs.declared.reply.Reply.{Reply}
use Rattle.tt_state.proofs.Owed.{few_statements}
use Rattle.tt_state.specs.Chronicle.{store_of}
use Rattle.tt_run.specs.Turns.{HasReplies}
use Rattle.tt_run.proofs.RunLaws.{all_new, begun, few_statements_in, next_new, none_done, one_more_done, turn_begins, turn_ends}
use Rattle.tt_run.proofs.run.run_sessions.Goals as goal

pub loop-session-init : goal.loop-session-init
loop-session-init c =
    record {
      same_program = refl;
      same_cap = refl;
      replies = subst (λ (rs : List Reply). HasReplies c.args.cat.now rs) (sym c.new-replies.ensures.items) (begun c.args.cat.now c.requires.history);
      done = none_done c.args.program.now (store_of c.args.cat.now);
      new = all_new c.args.program.now c.args.cat.now c.requires.same c.requires.history;
      order = c.requires.history;
    }

-- the session at a place
session_at : (program script : Script) (sessions : List SessionText) (k : ℕ) (lines : SessionText) → sessions ≡ script.sessions → script ≡ program → k < length sessions → lines ≡ get_or sessions k lines → slice_get program.sessions k ≡ Some lines
session_at program script sessions k lines all same less is =
    subst (λ (s : List SessionText). slice_get s k ≡ Some lines) (all ∙ ap (λ (p : Script). p.sessions) same) (slice_get_read sessions (length sessions) k lines refl less is)

pub run_session-requires-clause-lines : goal.run_session-requires-clause-lines
run_session-requires-clause-lines c = session_at c.args.program.now c.script.result.now c.items-sessions.result.now c.loop-session.session c.index-sessions-session.result c.items-sessions.ensures c.script.ensures.value (omega arith) c.index-sessions-session.is

pub run_session-requires-clause-few : goal.run_session-requires-clause-few
run_session-requires-clause-few c =
    few_statements_in c.args.program.now c.loop-session.session c.index-sessions-session.result (session_at c.args.program.now c.script.result.now c.items-sessions.result.now c.loop-session.session c.index-sessions-session.result c.items-sessions.ensures c.script.ensures.value (omega arith) c.index-sessions-session.is) (few_statements c.args.program.now c.script.ensures.sound)

pub run_session-requires-clause-idle : goal.run_session-requires-clause-idle
run_session-requires-clause-idle c =
    c.loop-session.invariant.new c.loop-session.session (omega arith)
    (subst (λ (s : List SessionText). c.loop-session.session < length s) (c.items-sessions.ensures ∙ ap (λ (p : Script). p.sessions) c.script.ensures.value) c.loop-session-test.true)

pub run_session-requires-clause-turn : goal.run_session-requires-clause-turn
run_session-requires-clause-turn c = turn_begins c.args.program.now c.loop-session.cat c.loop-session.session (c.loop-session.invariant.same_program ∙ c.requires.same) c.loop-session.invariant.order

pub loop-session-preserved : goal.loop-session-preserved
loop-session-preserved c =
    let before = c.loop-session.invariant in
    let after = c.in_ok-run_session.ensures in
    let at = session_at c.args.program.now c.script.result.now c.items-sessions.result.now c.loop-session.session c.index-sessions-session.result c.items-sessions.ensures c.script.ensures.value (omega arith) c.index-sessions-session.is in
    record {
      same_program = after.program ∙ sym c.requires.same;
      same_cap = after.cap ∙ before.same_cap;
      replies = after.replies;
      done = one_more_done c.args.program.now (store_of c.loop-session.cat) (store_of c.run_session.new.cat) c.loop-session.session c.index-sessions-session.result at before.done after.others after.done;
      new = next_new c.args.program.now (store_of c.loop-session.cat) (store_of c.run_session.new.cat) c.loop-session.session before.new after.others;
      order = turn_ends c.args.program.now c.run_session.new.cat c.loop-session.session c.index-sessions-session.result after.program at after.turn after.done;
    }
