use Rattle.std.proofs.Common.{refl}
use Rattle.tt_terminal.proofs.Steps.{passes_left, passes_right, passes_as, passes_word, passes_way, stops_first, stops_second, stops_left, stops_word, word_kind_is}
use Rattle.tt_terminal.proofs.Exits.{exits, within, passes_then}
use Rattle.tt_parse.proofs.change.optional_names.Goals as goal

pub returns-in_default-clause-reads : goal.returns-in_default-clause-reads
returns-in_default-clause-reads c = passes_right (rw c.in_default.ensures refl) refl (passes_way c.requires)

pub returns-in_err-list-clause-reads : goal.returns-in_err-list-clause-reads
returns-in_err-list-clause-reads c = exits _ _ _ _ _ _ c.from_residual.result c.from_residual.ensures.1 (within (λ at f. stops_left (word_kind_is c.in-Some.ensures) refl refl (stops_first (stops_word c.in-Some.ensures (stops_first f)))) _ c.in_err-list.ensures.reads)

pub returns-in_err-names-clause-reads : goal.returns-in_err-names-clause-reads
returns-in_err-names-clause-reads c = exits _ _ _ _ _ _ c.from_residual-in_err-names.result c.from_residual-in_err-names.ensures.1 (within (λ at f. stops_left (word_kind_is c.in-Some.ensures) refl refl (stops_first (stops_word c.in-Some.ensures (stops_second c.in_ok-list.ensures.reads f)))) _ c.in_err-names.ensures.reads)

pub returns-clause-reads : goal.returns-clause-reads
returns-clause-reads c = rw c.in_ok-names.ensures.kept (passes_left (word_kind_is c.in-Some.ensures) refl refl (passes_as (passes_word c.in-Some.ensures (passes_then c.in_ok-list.ensures.reads c.in_ok-names.ensures.reads))))

pub returns-clause-given : goal.returns-clause-given
returns-clause-given c = rw c.in_ok-names.ensures.kept c.in_ok-list.ensures.given
