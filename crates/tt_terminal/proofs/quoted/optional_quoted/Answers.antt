use Rattle.std.proofs.Common.{◌≤◌, ℕ, List, length, subst, sym, ap, ◌∙◌, refl}
use Rattle.std.specs.Str.{IsUtf8}
use Rattle.tt_value.specs.values.Texts.{IsText}
use Rattle.tt_sql.specs.grammar.TokenKinds.{unquoted}
use Rattle.tt_terminal.proofs.Steps.{first_is_of}
use Rattle.tt_terminal.proofs.Quotes.{quoted_plain, quoted_length, quoted_valid, quoted_says}
use Rattle.tt_terminal.proofs.quoted.optional_quoted.Goals as goal

pub unquoted-requires-clause-quotes : goal.unquoted-requires-clause-quotes
unquoted-requires-clause-quotes c =
    subst (λ (x : List ℕ). 2 ≤ length x) (sym c.bytes_of.ensures)
    (quoted_length c.args.rest.text.now c.in-Some.first (first_is_of c.requires c.in-Some.ensures) (sym c.if-not-is_quoted.ensures))

pub unquoted-requires-clause-valid : goal.unquoted-requires-clause-valid
unquoted-requires-clause-valid c =
    subst (λ (x : List ℕ). IsUtf8 (unquoted x)) (sym c.bytes_of.ensures)
    (quoted_valid c.args.rest.text.now c.in-Some.first (first_is_of c.requires c.in-Some.ensures) (sym c.if-not-is_quoted.ensures))

pub unquoted-requires-clause-plain : goal.unquoted-requires-clause-plain
unquoted-requires-clause-plain c =
    subst (λ (x : List ℕ). IsText (unquoted x)) (sym c.bytes_of.ensures)
    (quoted_plain c.args.rest.text.now c.in-Some.first (first_is_of c.requires c.in-Some.ensures) (sym c.if-not-is_quoted.ensures))

pub returns : goal.returns
returns c = record {
  first = c.in-Some.first;
  takes = c.in-Some.ensures;
  kind = sym c.if-not-is_quoted.ensures;
  text_is = c.in_ok-text.ensures ∙ ap unquoted c.bytes_of.ensures ∙ sym (quoted_says c.args.rest.text.now c.in-Some.first (first_is_of c.requires c.in-Some.ensures) (sym c.if-not-is_quoted.ensures));
  place_is = refl;
}
