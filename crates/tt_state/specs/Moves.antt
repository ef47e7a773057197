-- What a call does to what is kept.
use Rattle.std.specs.FinMap as finite
use Rattle.std.specs.Prelude.{None, Some, [], flat_map, length, map, slice_set, ℕ, ◌+◌, ◌-◌, ◌<◌, ◌^◌}
use Rattle.tt_script.specs.declared.script.Script.{Script}
use Rattle.tt_plain.specs.stored.Points.{no_point_yet, point_place}
use Rattle.tt_plain.specs.stored.Empty.{no_points}
use Rattle.tt_state.specs.declared.state.SessionState.{SessionState}
use Rattle.tt_state.specs.Kept.{Kept}

-- A statement that may make its entry: its session and its point are there, and the next moment fits.
pub record IsReady (program : Script) (kept : Kept) (session index : ℕ) : Type 0 where
  pub first : 0 < index
  pub known : session < length program.sessions
  pub present : session < length kept.sessions
  pub point : point_place program session index < length kept.points
  pub moment : kept.moment + 1 < 2 ^ 64

-- the session's statement has ended at the next moment, which is its point
abbrev pub with_ended : Script → Kept → ℕ → ℕ → Kept
with_ended program kept session index = record kept {
  moment = kept.moment + 1;
  sessions = slice_set kept.sessions session (record { done = index; running = None });
  points = slice_set kept.points (point_place program session index) (Some (kept.moment + 1));
}

-- it has begun, and has no point yet
abbrev pub with_begun : Script → Kept → ℕ → ℕ → Kept
with_begun program kept session index = record kept {
  moment = kept.moment + 1;
  sessions = slice_set kept.sessions session (record { done = index - 1; running = Some index });
  points = slice_set kept.points (point_place program session index) (Some no_point_yet);
}

-- ---- the beginning

abbrev pub no_session : SessionState
no_session = record { done = 0; running = None }

abbrev pub first_kept : Script → Kept
first_kept program = record {
  moment = program.start;
  tables = [];
  names = record { live = finite.empty; drops = finite.empty };
  marks = [];
  parts = [];
  pins = [];
  sessions = map (λ _. no_session) program.sessions;
  points = flat_map no_points program.sessions;
}
