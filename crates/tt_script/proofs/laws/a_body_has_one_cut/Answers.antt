use Rattle.std.proofs.Common.{ap}
use Rattle.std.specs.List.{slice_split}
use Rattle.tt_script.specs.Body.{is_cut, spans_from}
use Rattle.tt_script.proofs.Makeup.{pieces_kinds, made_of}
use Rattle.tt_script.proofs.laws.a_body_has_one_cut.Goals as goal

pub returns-clause-made_up : goal.returns-clause-made_up
returns-clause-made_up c = λ body. let made = made_of body in (made.pieces, made.whole, made.each)

pub returns-clause-kinds : goal.returns-clause-kinds
returns-clause-kinds c = pieces_kinds

pub returns-clause-statements : goal.returns-clause-statements
returns-clause-statements c = λ at pieces each. ap (λ kinds. spans_from at (slice_split is_cut kinds)) (pieces_kinds pieces each)
