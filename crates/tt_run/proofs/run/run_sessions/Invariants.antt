use Rattle.std.proofs.Common.{◌≡◌}
use Rattle.tt_state.specs.Chronicle.{store_of}
use Rattle.tt_run.specs.Sessions.{AreInOrder}
use Rattle.tt_run.specs.Turns.{AreDone, AreNew, HasReplies}
use Rattle.tt_run.proofs.run.run_sessions.Given as goal

-- so many sessions are done, and the others have not begun
abbrev pub invariant-loop-session : goal.invariant-loop-session
invariant-loop-session l =
    record {
      same_program : l.cat.program ≡ l.fn.cat.program;
      same_cap : l.cat.cap ≡ l.fn.cat.cap;
      replies : HasReplies l.cat l.replies.items;
      done : AreDone l.program (store_of l.cat) l.session;
      new : AreNew l.program (store_of l.cat) l.session;
      order : AreInOrder l.program l.session l.cat.history;
    }
