use Rattle.std.proofs.Common.{rules, refl}
use Rattle.tt_terminal.proofs.rest.Rest.placed.Goals as goal

pub returns : goal.returns
returns c = record { word = record { first = c.in_ok-first.first; takes = c.in_ok-first.ensures; kind = search rules }; place_is = refl }
