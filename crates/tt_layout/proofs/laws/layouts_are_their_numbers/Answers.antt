use Rattle.tt_layout.proofs.Ascending.{same_numbers}
use Rattle.tt_layout.proofs.laws.layouts_are_their_numbers.Goals as goal

pub returns : goal.returns
returns c = λ ns ms left right same. same_numbers ns ms 0 left right same
