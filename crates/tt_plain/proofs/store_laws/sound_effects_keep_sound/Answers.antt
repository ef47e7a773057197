use Rattle.tt_plain.proofs.law.change.Applied.{effects_keep_sound}
use Rattle.tt_plain.proofs.store_laws.sound_effects_keep_sound.Goals as goal

pub returns : goal.returns
returns c = effects_keep_sound
