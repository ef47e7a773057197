use Rattle.std.proofs.Common.{rules, ◌∷◌, [], refl, ap}
use Rattle.tt_terminal.proofs.Steps.{marks_are, passes_both, passes_left, passes_right, passes_as, passes_word, stops_first, stops_second, stops_here, stops_left, stops_right, stops_word, word_kind_is}
use Rattle.tt_terminal.proofs.Exits.{exits, within, gives, turns_left, turns_right, goes_on}
use Rattle.tt_terminal.specs.Reading.{Fails, first_place}
use Rattle.std.proofs.Common.{ℤ}
use Rattle.std.specs.Int.{w64}
use Rattle.std.specs.Int.RustNames.{FitsSigned}
use Rattle.std.proofs.lemmas.Int.{to_z-of_z}
use Rattle.tt_sql.specs.grammar.Grammar.{Meant, Way}
use Rattle.tt_sql.specs.grammar.Written.{moment}
use Rattle.tt_phrase.proofs.moment.moment_of.Goals as goal

pub returns-in_err-rest-clause-reads : goal.returns-in_err-rest-clause-reads
returns-in_err-rest-clause-reads c = exits _ _ _ _ _ _ c.from_residual.result c.from_residual.ensures.1 (within (λ at f. stops_left (word_kind_is c.in-Some.ensures) refl refl (stops_word c.in-Some.ensures (stops_first f))) _ c.in_err-rest.ensures)

pub returns-in_err-instant-clause-reads : goal.returns-in_err-instant-clause-reads
returns-in_err-instant-clause-reads c = exits _ _ _ _ _ _ c.from_residual-in_err-instant.result c.from_residual-in_err-instant.ensures.1 (within (λ at f. stops_left (word_kind_is c.in-Some.ensures) refl refl (stops_word c.in-Some.ensures (stops_second c.in_ok-rest.ensures (stops_first f)))) _ c.in_err-instant.ensures)

pub returns-in_err-rest-2-clause-reads : goal.returns-in_err-rest-2-clause-reads
returns-in_err-rest-2-clause-reads c = exits _ _ _ _ _ _ c.from_residual-in_err-rest-2.result c.from_residual-in_err-rest-2.ensures.1 (within (λ at f. stops_left (word_kind_is c.in-Some.ensures) refl refl (stops_word c.in-Some.ensures (stops_second c.in_ok-rest.ensures (stops_second c.in_ok-instant.ensures f)))) _ c.in_err-rest-2.ensures)

pub returns-in-Some-clause-reads : goal.returns-in-Some-clause-reads
returns-in-Some-clause-reads c = let fits : FitsSigned w64 c.in_ok-instant.instant = search rules in marks_are (ap (λ (n : ℤ). Meant n 0 ∷ Way 0 ∷ []) (to_z-of_z w64 c.in_ok-instant.instant fits)) (passes_left (word_kind_is c.in-Some.ensures) refl refl (passes_word c.in-Some.ensures (passes_both c.in_ok-rest.ensures (passes_both c.in_ok-instant.ensures c.in_ok-rest-2.ensures))))

pub returns-in_err-rest-3-clause-reads : goal.returns-in_err-rest-3-clause-reads
returns-in_err-rest-3-clause-reads c = exits _ _ _ _ _ _ c.from_residual-in_err-rest-3.result c.from_residual-in_err-rest-3.ensures.1 (within (λ at f. stops_right (rw c.in_default.ensures refl) refl (stops_left (word_kind_is c.in-Some-word.ensures) refl refl (stops_word c.in-Some-word.ensures (stops_first f)))) _ c.in_err-rest-3.ensures)

pub returns-in-Some-word-clause-reads : goal.returns-in-Some-word-clause-reads
returns-in-Some-word-clause-reads c = turns_right _ _ _ _ _ _ _ (rw c.in_default.ensures refl) refl (turns_left _ _ _ _ _ _ _ _ (word_kind_is c.in-Some-word.ensures) refl refl (goes_on _ _ _ _ _ _ _ _ c.in-Some-word.ensures (gives _ _ _ _ _ _ _ _ _ _ (λ x. refl) c.in_ok-rest-3.ensures c.offset_of.ensures.reads)))

pub returns-in_err-rest-4-clause-reads : goal.returns-in_err-rest-4-clause-reads
returns-in_err-rest-4-clause-reads c = exits _ _ _ _ _ _ c.from_residual-in_err-rest-4.result c.from_residual-in_err-rest-4.ensures.1 (within (λ at f. stops_right (rw c.in_default.ensures refl) refl (stops_right (rw c.in_default-word.ensures refl) refl (stops_word c.in-Some-word-2.ensures (stops_first f)))) _ c.in_err-rest-4.ensures)

pub returns-in_err-id-clause-reads : goal.returns-in_err-id-clause-reads
returns-in_err-id-clause-reads c = exits _ _ _ _ _ _ c.from_residual-in_err-id.result c.from_residual-in_err-id.ensures.1 (within (λ at f. stops_right (rw c.in_default.ensures refl) refl (stops_right (rw c.in_default-word.ensures refl) refl (stops_word c.in-Some-word-2.ensures (stops_second c.in_ok-rest-4.ensures (stops_first f))))) _ c.in_err-id.ensures)

pub returns-in-Some-word-2-clause-reads : goal.returns-in-Some-word-2-clause-reads
returns-in-Some-word-2-clause-reads c = passes_right (rw c.in_default.ensures refl) refl (passes_right (rw c.in_default-word.ensures refl) refl (passes_word c.in-Some-word-2.ensures (passes_both c.in_ok-rest-4.ensures (passes_as c.in_ok-id.ensures))))

pub returns-clause-reads : goal.returns-clause-reads
returns-clause-reads c =
    let fails : Fails [] moment c.args.rest (first_place c.args.rest) = stops_here (rw (c.in_default.ensures, c.in_default-word.ensures, c.in_default-word-2.ensures) refl) refl in
    rw c.fault.ensures fails
