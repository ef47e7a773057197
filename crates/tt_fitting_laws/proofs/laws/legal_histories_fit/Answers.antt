use Rattle.tt_fitting_laws.proofs.Entries.{legal_fits}
use Rattle.tt_fitting_laws.proofs.laws.legal_histories_fit.Goals as goal

pub returns : goal.returns
returns c = legal_fits
