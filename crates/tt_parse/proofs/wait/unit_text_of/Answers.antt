use Rattle.std.proofs.Common.{◌≡◌, [], List, ℕ, false, refl, sym, ap, subst, ◌∙◌, true≢false, bytes_eq}
use Rattle.std.specs.List.{list_any}
use Rattle.tt_sql.specs.grammar.Grammar.{Note, is_of}
use Rattle.tt_sql.specs.grammar.TokenKinds.{OTHER_TEXT, UNIT_TEXT, is_quoted, unit_words, upper}
use Rattle.tt_sql.specs.grammar.Combinators.{as_unit, one, ◌▸◌}
use Rattle.tt_terminal.specs.Reading.{Fails, IsQuoted, first_kind, first_place}
use Rattle.tt_parse.specs.Tables.{IsUnit}
use Rattle.tt_terminal.proofs.Steps.{stops_here, word_kind_is}
use Rattle.tt_parse.proofs.Units.{is_unit, passes_unit}
use Rattle.tt_parse.proofs.wait.unit_text_of.Goals as goal

pub returns-in_default : goal.returns-in_default
returns-in_default c =
    let fails : Fails [] (one UNIT_TEXT ▸ Note as_unit) c.args.rest (first_place c.args.rest) = stops_here (rw c.in_default.ensures refl) refl in
    rw c.fault.ensures fails

pub unreachable-requires : goal.unreachable-requires
unreachable-requires c =
    let none : is_of OTHER_TEXT is_quoted (first_kind c.args.rest) ≡ false = rw c.in_default-2.is at (c.in_ok-quoted.ensures) in
    true≢false (sym (ap (is_of OTHER_TEXT is_quoted) (word_kind_is c.in-Some.ensures)) ∙ none)

pub unreachable-requires-in-None : goal.unreachable-requires-in-None
unreachable-requires-in-None c =
    let is : IsQuoted c.args.rest c.in-Some-2.quoted c.in-Some-2.behind = rw c.in-Some-2.is at (c.in_ok-quoted.ensures) in
    true≢false (sym (is_unit c.requires is (word_kind_is c.in-Some.ensures)) ∙ ap (λ (t : List ℕ). list_any (bytes_eq (upper t)) unit_words) (sym (c.as_bytes.ensures.value ∙ c.as_str.ensures.value)) ∙ c.in-None.ensures)

pub returns : goal.returns
returns c =
    let is : IsQuoted c.args.rest c.in-Some-2.quoted c.in-Some-2.behind = rw c.in-Some-2.is at (c.in_ok-quoted.ensures) in
    passes_unit c.in-Some-unit_of.unit is (word_kind_is c.in-Some.ensures) (subst (λ (t : List ℕ). IsUnit t c.in-Some-unit_of.unit) (c.as_bytes.ensures.value ∙ c.as_str.ensures.value) c.in-Some-unit_of.ensures)
