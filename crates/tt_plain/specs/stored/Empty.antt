-- The store before the first entry.
use Rattle.std.specs.Prelude.{List, None, Option, [], flat_map, map, ℕ}
use Rattle.tt_script.specs.declared.script.Script.{Script}
use Rattle.tt_script.specs.declared.script.SessionText.{SessionText}
use Rattle.tt_plain.specs.declared.store.Plain.{Plain}
use Rattle.tt_plain.specs.declared.tally.Tally.{Tally}
use Rattle.tt_plain.specs.stored.Sessions.{new_session}

abbrev pub no_points : SessionText → List (Option ℕ)
no_points lines = map (λ _. None) lines.statements

abbrev pub empty_tally : Tally
empty_tally = record { parts = []; layouts = []; pending = []; pins = []; round = None; rounds = 0; purges = 0 }

-- at the program's start there is no table, and no statement has an entry
unfoldable pub empty_store : Script → Plain
empty_store program =
    record {
      moment = program.start;
      tables = [];
      sessions = map (λ _. new_session) program.sessions;
      points = flat_map no_points program.sessions;
      tally = empty_tally;
    }
