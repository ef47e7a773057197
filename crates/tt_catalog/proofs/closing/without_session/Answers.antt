use Rattle.std.proofs.Common.{not, nat_eq, rules}
use Rattle.std.proofs.lemmas.Fn.{filter_same}
use Rattle.tt_catalog.proofs.closing.without_session.Goals as goal

pub returns : goal.returns
returns c = filter_same _ (λ d. not (nat_eq d.session c.args.session)) _ (λ x b f' k. search rules) _ _ c.retain.ensures.filtered
