use Rattle.std.proofs.Common.{refl}
use Rattle.tt_terminal.proofs.Steps.{marks_are, passes_left, passes_right, passes_as, stops_first, stops_left, stops_right, word_kind_is}
use Rattle.tt_terminal.proofs.Exits.{exits, within}
use Rattle.tt_terminal.specs.Reading.{seen}
use Rattle.tt_phrase.proofs.ItemReads.{IsPlain, item_passes, item_stops, bracket_passes, bracket_stops}
use Rattle.tt_phrase.proofs.item.item_of.Goals as goal

pub returns-in_err-column-clause-reads : goal.returns-in_err-column-clause-reads
returns-in_err-column-clause-reads c = exits _ _ _ _ _ _ c.from_residual.result c.from_residual.ensures.1 (within (λ at f. stops_left (word_kind_is c.in-Some.ensures.1.word) refl refl (bracket_stops c.in-Some.ensures.1 c.in-Some.ensures.2 f)) _ (c.in_err-column.ensures))

pub returns-in-Some-clause-reads : goal.returns-in-Some-clause-reads
returns-in-Some-clause-reads c = marks_are c.count_item.ensures.marks (passes_left (word_kind_is c.in-Some.ensures.1.word) refl refl (bracket_passes c.in-Some.ensures.1 c.in-Some.ensures.2 (c.in_ok-column.ensures)))

pub returns-in_err-column-2-clause-reads : goal.returns-in_err-column-2-clause-reads
returns-in_err-column-2-clause-reads c = exits _ _ _ _ _ _ c.from_residual-in_err-column-2.result c.from_residual-in_err-column-2.ensures.1 (within (λ at f. stops_right (rw (word_kind_is c.in-Some-bracket_behind.ensures.1.word) refl) refl (stops_left (word_kind_is c.in-Some-bracket_behind.ensures.1.word) refl refl (bracket_stops c.in-Some-bracket_behind.ensures.1 c.in-Some-bracket_behind.ensures.2 f))) _ (c.in_err-column-2.ensures 6))

pub returns-in-Some-bracket_behind-clause-reads : goal.returns-in-Some-bracket_behind-clause-reads
returns-in-Some-bracket_behind-clause-reads c = passes_right (rw (word_kind_is c.in-Some-bracket_behind.ensures.1.word) refl) refl (passes_left (word_kind_is c.in-Some-bracket_behind.ensures.1.word) refl refl (bracket_passes c.in-Some-bracket_behind.ensures.1 c.in-Some-bracket_behind.ensures.2 (c.in_ok-column-2.ensures 6)))

pub returns-in_err-column-3-clause-reads : goal.returns-in_err-column-3-clause-reads
returns-in_err-column-3-clause-reads c = exits _ _ _ _ _ _ c.from_residual-in_err-column-3.result c.from_residual-in_err-column-3.ensures.1 (within (λ at f. stops_right (rw (word_kind_is c.in-Some-bracket_behind-2.ensures.1.word) refl) refl (stops_right (rw (word_kind_is c.in-Some-bracket_behind-2.ensures.1.word) refl) refl (stops_left (word_kind_is c.in-Some-bracket_behind-2.ensures.1.word) refl refl (bracket_stops c.in-Some-bracket_behind-2.ensures.1 c.in-Some-bracket_behind-2.ensures.2 f)))) _ (c.in_err-column-3.ensures 7))

pub returns-in-Some-bracket_behind-2-clause-reads : goal.returns-in-Some-bracket_behind-2-clause-reads
returns-in-Some-bracket_behind-2-clause-reads c = passes_right (rw (word_kind_is c.in-Some-bracket_behind-2.ensures.1.word) refl) refl (passes_right (rw (word_kind_is c.in-Some-bracket_behind-2.ensures.1.word) refl) refl (passes_left (word_kind_is c.in-Some-bracket_behind-2.ensures.1.word) refl refl (bracket_passes c.in-Some-bracket_behind-2.ensures.1 c.in-Some-bracket_behind-2.ensures.2 (c.in_ok-column-3.ensures 7))))

pub returns-in_err-column-4-clause-reads : goal.returns-in_err-column-4-clause-reads
returns-in_err-column-4-clause-reads c = exits _ _ _ _ _ _ c.from_residual-in_err-column-4.result c.from_residual-in_err-column-4.ensures.1 (within (λ at f. stops_right (rw (word_kind_is c.in-Some-bracket_behind-3.ensures.1.word) refl) refl (stops_right (rw (word_kind_is c.in-Some-bracket_behind-3.ensures.1.word) refl) refl (stops_right (rw (word_kind_is c.in-Some-bracket_behind-3.ensures.1.word) refl) refl (stops_left (word_kind_is c.in-Some-bracket_behind-3.ensures.1.word) refl refl (bracket_stops c.in-Some-bracket_behind-3.ensures.1 c.in-Some-bracket_behind-3.ensures.2 f))))) _ (c.in_err-column-4.ensures 8))

pub returns-in-Some-bracket_behind-3-clause-reads : goal.returns-in-Some-bracket_behind-3-clause-reads
returns-in-Some-bracket_behind-3-clause-reads c = passes_right (rw (word_kind_is c.in-Some-bracket_behind-3.ensures.1.word) refl) refl (passes_right (rw (word_kind_is c.in-Some-bracket_behind-3.ensures.1.word) refl) refl (passes_right (rw (word_kind_is c.in-Some-bracket_behind-3.ensures.1.word) refl) refl (passes_left (word_kind_is c.in-Some-bracket_behind-3.ensures.1.word) refl refl (bracket_passes c.in-Some-bracket_behind-3.ensures.1 c.in-Some-bracket_behind-3.ensures.2 (c.in_ok-column-4.ensures 8)))))

pub returns-in_err-value-clause-reads : goal.returns-in_err-value-clause-reads
returns-in_err-value-clause-reads c =
    let plain : IsPlain (seen c.args.rest) = record { no_count = c.in_default.ensures; no_sum = c.in_default-bracket_behind.ensures; no_min = c.in_default-bracket_behind-2.ensures; no_max = c.in_default-bracket_behind-3.ensures } in
    exits _ _ _ _ _ _ c.from_residual-in_err-value.result c.from_residual-in_err-value.ensures.1 (within (λ at f. item_stops c.args.levels plain (stops_first f)) _ c.in_err-value.ensures.reads)

pub returns-clause-reads : goal.returns-clause-reads
returns-clause-reads c =
    let plain : IsPlain (seen c.args.rest) = record { no_count = c.in_default.ensures; no_sum = c.in_default-bracket_behind.ensures; no_min = c.in_default-bracket_behind-2.ensures; no_max = c.in_default-bracket_behind-3.ensures } in
    item_passes c.args.levels plain (passes_as c.in_ok-value.ensures.reads)
