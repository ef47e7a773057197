use Rattle.std.proofs.Common.{◌≡◌, ◌≤◌, ◌∷◌, ◌∙◌, ℕ, false, List, [], length, All, refl, sym, ap, subst, true≢false}
use Rattle.tt_value.specs.values.Texts.{IsPrintableAscii}
use Rattle.tt_sql.specs.grammar.Grammar.{Said, is_of}
use Rattle.tt_sql.specs.grammar.Combinators.{quoted_name}
use Rattle.tt_sql.specs.grammar.TokenKinds.{OTHER_TEXT, is_quoted, upper}
use Rattle.tt_terminal.specs.Reading.{Fails, IsQuoted, first_kind, first_place}
use Rattle.tt_terminal.proofs.Steps.{marks_are, stops_here}
use Rattle.tt_parse.proofs.QuotedNames.{name_is_quoted, name_printable, passes_quoted_name}
use Rattle.tt_parse.proofs.select.quoted_table_of.Goals as goal

pub returns-in_default : goal.returns-in_default
returns-in_default c =
    let fails : Fails [] quoted_name c.args.rest (first_place c.args.rest) = stops_here (rw c.in_default.ensures refl) refl in
    rw c.fault.ensures fails

pub unreachable-requires : goal.unreachable-requires
unreachable-requires c =
    let none : is_of OTHER_TEXT is_quoted (first_kind c.args.rest) ≡ false = rw c.in_default-2.is at (c.in_ok-quoted.ensures) in
    true≢false (sym (name_is_quoted (first_kind c.args.rest) c.in-Some.ensures.0) ∙ none)

pub upper_text-requires-clause-plain : goal.upper_text-requires-clause-plain
upper_text-requires-clause-plain c =
    let is : IsQuoted c.args.rest c.in-Some-2.quoted c.in-Some-2.behind = rw c.in-Some-2.is at (c.in_ok-quoted.ensures) in
    subst (λ (x : List ℕ). All IsPrintableAscii (upper x)) (sym (c.as_bytes.ensures.value ∙ c.as_str.ensures.value)) (name_printable c.requires is c.in-Some.ensures.0)

pub upper_text-requires-clause-short : goal.upper_text-requires-clause-short
upper_text-requires-clause-short c = subst (λ (x : List ℕ). length x ≤ 65535) (sym (c.as_bytes.ensures.value ∙ c.as_str.ensures.value)) c.as_str.ensures.valid.short

pub returns : goal.returns
returns c =
    let is : IsQuoted c.args.rest c.in-Some-2.quoted c.in-Some-2.behind = rw c.in-Some-2.is at (c.in_ok-quoted.ensures) in
    marks_are (ap (λ (x : List ℕ). Said x c.in-Some-2.quoted.place ∷ []) (c.in_ok-text.ensures ∙ ap upper (c.as_bytes.ensures.value ∙ c.as_str.ensures.value)))
    (passes_quoted_name is c.in-Some.ensures.0)
