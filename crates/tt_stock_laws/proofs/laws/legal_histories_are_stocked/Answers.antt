use Rattle.tt_stock_laws.proofs.Histories.{legal_stocked}
use Rattle.tt_stock_laws.proofs.laws.legal_histories_are_stocked.Goals as goal

pub returns : goal.returns
returns c = legal_stocked
