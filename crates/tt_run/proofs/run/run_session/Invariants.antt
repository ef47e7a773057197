use Rattle.std.proofs.Common.{◌≡◌}
use Rattle.tt_state.specs.Chronicle.{store_of}
use Rattle.tt_run.specs.Sessions.{IsIdle}
use Rattle.tt_run.specs.Turns.{HasReplies, InTurn, KeepsOthers}
use Rattle.tt_run.proofs.run.run_session.Given as goal

-- the session has done so many statements, and no other one has moved
abbrev pub invariant-loop-place : goal.invariant-loop-place
invariant-loop-place l =
    record {
      same_program : l.cat.program ≡ l.fn.cat.program;
      same_cap : l.cat.cap ≡ l.fn.cat.cap;
      replies : HasReplies l.cat l.replies.items;
      turn : InTurn l.cat l.session;
      others : KeepsOthers (store_of l.fn.cat) (store_of l.cat) l.session;
      idle : IsIdle (store_of l.cat) l.session l.place;
    }
