-- The sessions of the store, and which of them have marks.
use Rattle.std.specs.List.{enumerate_from, list_any}
use Rattle.std.specs.Prelude.{Bool, List, None, [], false, filter, map, not, slice_get, unwrap_or, ℕ, ◌&&◌, ◌==◌}
use Rattle.tt_plain.specs.declared.store.Plain.{Plain}
use Rattle.tt_plain.specs.declared.store.PlainMark.{PlainMark}
use Rattle.tt_plain.specs.declared.store.PlainSession.{PlainSession}

-- a session before its first statement
abbrev pub new_session : PlainSession
new_session = record { done = 0; transaction = false; running = None; pending = []; marks = [] }

abbrev pub session_at : Plain → ℕ → PlainSession
session_at store session = unwrap_or (slice_get store.sessions session) new_session

-- a mark of either kind on the table of a number
abbrev pub has_mark : ℕ → PlainSession → Bool
has_mark table session = list_any (λ (mark : PlainMark). mark.table == table) session.marks

abbrev pub has_exclusive_mark : ℕ → PlainSession → Bool
has_exclusive_mark table session = list_any (λ (mark : PlainMark). mark.table == table && mark.exclusive) session.marks

-- the sessions for which a test holds, in the order of the script
abbrev pub sessions_with : (PlainSession → Bool) → Plain → List ℕ
sessions_with test store = map (λ found. found.0) (filter (λ found. test found.1) (enumerate_from 0 store.sessions))

abbrev pub others_with : (PlainSession → Bool) → Plain → ℕ → List ℕ
others_with test store session = filter (λ other. not (other == session)) (sessions_with test store)
