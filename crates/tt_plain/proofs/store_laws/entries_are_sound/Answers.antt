use Rattle.tt_plain.proofs.law.entry.Entries.{entries_sound}
use Rattle.tt_plain.proofs.store_laws.entries_are_sound.Goals as goal

pub returns : goal.returns
returns c = entries_sound
