use Rattle.std.proofs.Common.{◌∙◌, sym}
use Rattle.tt_sweep.proofs.Finding.{found}
use Rattle.tt_sweep.proofs.numbers.has_number.Goals as goal

pub returns : goal.returns
returns c = c.is_ok.ensures.value ∙ sym (found c.args.numbers.now c.args.number c.binary_search.result c.binary_search.ensures.position c.requires)
