use Rattle.std.proofs.Common.{refl}
use Rattle.tt_plain.specs.refusal.First.{refusal_of}
use Rattle.tt_model_asked.proofs.first.refusal_of.Goals as goal

pub returns-in-Fault : goal.returns-in-Fault
unfolding refusal_of
returns-in-Fault c = rw c.in-Fault.is refl
