use Rattle.tt_plain.proofs.law.Past.{keeps_horizons, keeps_past}
use Rattle.tt_plain.proofs.store_laws.sound_effects_keep_the_past.Goals as goal

pub returns-clause-past : goal.returns-clause-past
returns-clause-past c = keeps_past

pub returns-clause-horizons : goal.returns-clause-horizons
returns-clause-horizons c = keeps_horizons
