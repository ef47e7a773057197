use Rattle.std.proofs.Common.{◌∷◌, []}
use Rattle.tt_terminal.proofs.Steps.{marks_are, passes_both, passes_as, stops_first, stops_second}
use Rattle.tt_terminal.proofs.Exits.{exits, within}
use Rattle.std.proofs.Common.{append_assoc, map}
use Rattle.tt_sql.specs.grammar.Grammar.{Way}
use Rattle.tt_sql.specs.marks.Expressions.{flag_marks, listed_marks, number_marks}
use Rattle.tt_phrase.proofs.moment.offset_of.Goals as goal

pub returns-in_err-factors-clause-reads : goal.returns-in_err-factors-clause-reads
returns-in_err-factors-clause-reads c = exits _ _ _ _ _ _ c.from_residual.result c.from_residual.ensures.1 (within (λ at f. stops_second c.flag_of-negative.ensures (stops_first f)) _ c.in_err-factors.ensures.reads)

pub returns-clause-reads : goal.returns-clause-reads
returns-clause-reads c = marks_are (append_assoc (flag_marks c.flag_of-negative.result.0) (listed_marks (map number_marks c.in_ok-factors.factors)) (Way 1 ∷ [])) (passes_both c.flag_of-negative.ensures (passes_as c.in_ok-factors.ensures.reads))
