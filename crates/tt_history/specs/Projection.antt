-- The entries of a history that a session made.
use Rattle.std.specs.Prelude.{ℕ, Bool, false, ◌==◌, List, map, filter}
use Rattle.std.specs.List.{enumerate_from}
use Rattle.tt_history.specs.declared.history.Actor.{Actor}
use Rattle.tt_history.specs.declared.history.Actor.TheVariants.{Session, Recluster, Purge}
use Rattle.tt_history.specs.declared.history.Entry.{Entry}

abbrev pub is_session : ℕ → Actor → Bool
is_session session (Session other) = other == session
is_session session Recluster = false
is_session session Purge = false

-- the places of the session's entries, where the first entry has this place
abbrev pub places_from : ℕ → ℕ → List Entry → List ℕ
places_from session first entries = map (λ p. p.0) (filter (λ p. is_session session p.1.actor) (enumerate_from first entries))

-- the places, from 0, of the session's entries
abbrev pub places_of : ℕ → List Entry → List ℕ
places_of session history = places_from session 0 history
