use Rattle.std.proofs.Common.{rules, ◌≡◌, ℕ, ℤ, false, List, [], ◌∷◌, refl, sym, ap, ◌∙◌, true≢false}
use Rattle.std.specs.Prelude.{is_some}
use Rattle.std.specs.Int.{w64}
use Rattle.std.specs.Int.RustNames.{FitsSigned}
use Rattle.std.proofs.lemmas.Int.{to_z-of_z}
use Rattle.tt_value.specs.calendar.Reading.{timestamp_of}
use Rattle.tt_sql.specs.grammar.Grammar.{Meant, is_of}
use Rattle.tt_sql.specs.grammar.TokenKinds.{OTHER_TEXT, is_quoted}
use Rattle.tt_sql.specs.grammar.Combinators.{quoted_moment}
use Rattle.tt_terminal.specs.Reading.{Fails, IsQuoted, first_kind, first_place}
use Rattle.tt_terminal.proofs.Steps.{stops_here, word_kind_is, marks_are}
use Rattle.tt_phrase.proofs.Instants.{is_instant, passes_instant}
use Rattle.tt_phrase.proofs.moment.instant_of.Goals as goal

pub returns-in_default : goal.returns-in_default
returns-in_default c =
    let fails : Fails [] quoted_moment c.args.rest (first_place c.args.rest) = stops_here (rw c.in_default.ensures refl) refl in
    rw c.fault.ensures fails

pub unreachable-requires : goal.unreachable-requires
unreachable-requires c =
    let none : is_of OTHER_TEXT is_quoted (first_kind c.args.rest) ≡ false = rw c.in_default-2.is at (c.in_ok-quoted.ensures) in
    true≢false (sym (ap (is_of OTHER_TEXT is_quoted) (word_kind_is c.in-Some.ensures)) ∙ none)

pub unreachable-requires-in-Err : goal.unreachable-requires-in-Err
unreachable-requires-in-Err c =
    let is : IsQuoted c.args.rest c.in-Some-2.quoted c.in-Some-2.behind = rw c.in-Some-2.is at (c.in_ok-quoted.ensures) in
    true≢false (sym (is_instant c.requires is (word_kind_is c.in-Some.ensures)) ∙ ap (λ (t : List ℕ). is_some (timestamp_of t)) (sym c.as_str.ensures.value) ∙ ap is_some (sym c.in-Err.ensures.value))

pub returns : goal.returns
returns c =
    let is : IsQuoted c.args.rest c.in-Some-2.quoted c.in-Some-2.behind = rw c.in-Some-2.is at (c.in_ok-quoted.ensures) in
    let fits : FitsSigned w64 c.in-Ok.instant = search rules in
    marks_are (ap (λ (n : ℤ). Meant n 0 ∷ []) (to_z-of_z w64 c.in-Ok.instant fits))
    (passes_instant c.in-Ok.instant is (word_kind_is c.in-Some.ensures) (ap timestamp_of (sym c.as_str.ensures.value) ∙ sym c.in-Ok.ensures.value))
