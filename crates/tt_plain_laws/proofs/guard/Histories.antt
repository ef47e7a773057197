-- After each legal history all sessions are isolated.
use Rattle.std.specs.Prelude.{List, [], map, refl, ◌∷◌}
use Rattle.tt_plain.proofs.law.Lists.{every_on}
use Rattle.tt_plain.specs.declared.store.Plain.{Plain}
use Rattle.tt_plain.specs.law.Isolated.{IsIsolated, LegalIsIsolated}
use Rattle.tt_plain.specs.law.Lists.{Every}
use Rattle.tt_plain.specs.stored.Empty.{empty_store}
use Rattle.tt_plain.specs.stored.Sessions.{new_session}
use Rattle.tt_script.specs.declared.script.Script.{Script}
use Rattle.tt_script.specs.declared.script.SessionText.{SessionText}
use Rattle.tt_plain_laws.proofs.Inductions.{by_entries}
use Rattle.tt_plain_laws.proofs.guard.Entries.{entries_keep}
use Rattle.tt_plain_laws.proofs.guard.Kept.{bare}
use Rattle.tt_plain_laws.specs.Guarded.{AreGuarded, IsGuarded}

pub empty_guarded : (program : Script) → AreGuarded (empty_store program)
unfolding empty_store
empty_guarded program = each_new (empty_store program) program.sessions
  where
    each_new : (store : Plain) (lines : List SessionText) → Every (IsGuarded store) (map (λ (_ : SessionText). new_session) lines)
    each_new store [] = tt
    each_new store (first ∷ lines) = (bare store new_session refl refl, each_new store lines)

pub legal_isolated : LegalIsIsolated
legal_isolated carried program history run time e =
    every_on (IsGuarded run.0) (IsIsolated run.0) run.0.sessions (λ state guarded. guarded.isolated)
    (by_entries carried program history time (λ before store. AreGuarded store)
    (λ before store entry effect there guarded. entries_keep carried program store entry effect there.sound there.effected guarded) run (empty_guarded program) e)
