use Rattle.std.proofs.Common.{◌∙◌, ℕ, ℤ, List, [], ◌∷◌, ◌++◌, refl, sym, ap}
use Rattle.tt_sql.specs.grammar.Grammar.{Meant, Way, Mark}
use Rattle.tt_sql.proofs.marks.Expressions.{marks-Literal}
use Rattle.tt_phrase.specs.Factors.{last_minus}
use Rattle.tt_terminal.specs.Reading.{Fails, first_place}
use Rattle.tt_terminal.proofs.Steps.{marks_are, passes_token, passes_left, passes_both, passes_ways, is_of_one, takes_kind, stops_here, stops_word, stops_token, stops_right, stops_deep_front, word_place}
use Rattle.tt_terminal.proofs.Numbers.{passes_negative}
use Rattle.tt_terminal.proofs.Literals.{same_negative}
use Rattle.tt_phrase.proofs.GivenTrees.{given_literal}
use Rattle.tt_phrase.proofs.expression.last_minus_of.Goals as goal

pub returns-in_default-clause-reads : goal.returns-in_default-clause-reads
returns-in_default-clause-reads c =
    let fails : Fails [] last_minus c.args.rest (first_place c.args.rest) = stops_here (rw c.in_default.ensures refl) refl in
    rw c.fault.ensures fails

pub returns-in-Some-optional_negative-clause-reads : goal.returns-in-Some-optional_negative-clause-reads
returns-in-Some-optional_negative-clause-reads c =
    marks_are (marks-Literal _ ∙ ap (λ (x : List Mark). x ++ Way 0 ∷ []) (c.int_literal.ensures.marks ∙ ap (λ (x : ℤ). Meant x c.in-Some.place ∷ Way 1 ∷ []) (same_negative c.in-Some-optional_negative.ensures)))
    (passes_token c.in-Some.ensures.word.takes (is_of_one c.in-Some.ensures.word.kind)
    (passes_left (takes_kind c.in-Some-optional_negative.ensures.takes) (rw c.in-Some-optional_negative.ensures.kind refl) refl
    (marks_are (ap (λ (x : ℕ). Meant c.in-Some-optional_negative.number x ∷ Way 1 ∷ Way 0 ∷ []) (sym c.in-Some.ensures.place_is))
    (passes_both (passes_negative c.in-Some-optional_negative.ensures) (passes_ways 1 0 c.in-Some-optional_negative.ensures.takes.known)))))

pub returns-then-begins_factor-clause-reads : goal.returns-then-begins_factor-clause-reads
returns-then-begins_factor-clause-reads c =
    let fails : Fails [] last_minus c.args.rest c.in-Some.ensures.word.first.token.start =
    stops_token c.in-Some.ensures.word.takes (is_of_one c.in-Some.ensures.word.kind) (stops_right (rw c.in_default-optional_negative.ensures refl) refl (stops_deep_front (sym c.if-begins_factor.ensures) refl)) in
    rw (c.fault-then-begins_factor.ensures, word_place c.in-Some.ensures.word) fails

pub returns-clause-reads : goal.returns-clause-reads
returns-clause-reads c =
    let fails : Fails [] last_minus c.args.rest (first_place c.in-Some.behind) =
    stops_word c.in-Some.ensures.word (stops_here (rw (c.in_default-optional_negative.ensures, sym c.if-begins_factor.ensures) refl) refl) in
    rw c.fault-2.ensures fails

pub returns-in-Some-optional_negative-clause-given : goal.returns-in-Some-optional_negative-clause-given
returns-in-Some-optional_negative-clause-given c = given_literal _ c.int_literal.ensures.given
