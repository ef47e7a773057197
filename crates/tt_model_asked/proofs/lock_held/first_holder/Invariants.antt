use Rattle.tt_model_asked.proofs.Holders.{HasFirst}
use Rattle.tt_model_asked.proofs.lock_held.first_holder.Given as goal

abbrev pub invariant-loop-place : goal.invariant-loop-place
invariant-loop-place l = HasFirst l.exclusive l.table l.session l.sessions l.place
