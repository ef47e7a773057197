use Rattle.std.proofs.Common.{◌≤◌, ℕ, List, length, All, subst, sym, ap, ◌∙◌, refl}
use Rattle.tt_value.specs.values.Texts.{IsPrintableAscii}
use Rattle.tt_sql.specs.grammar.TokenKinds.{upper}
use Rattle.tt_terminal.proofs.Steps.{first_is_of}
use Rattle.tt_terminal.proofs.Names.{name_printable, name_few, name_says}
use Rattle.tt_terminal.proofs.name.optional_name.Goals as goal

pub upper_text-requires-clause-plain : goal.upper_text-requires-clause-plain
upper_text-requires-clause-plain c =
    subst (λ (x : List ℕ). All IsPrintableAscii (upper x)) (sym c.bytes_of.ensures)
    (name_printable c.args.rest.text.now c.in-Some.first (first_is_of c.requires c.in-Some.ensures) (sym (c.if-not-is_name.ensures)))

pub upper_text-requires-clause-short : goal.upper_text-requires-clause-short
upper_text-requires-clause-short c =
    subst (λ (x : List ℕ). length x ≤ 65535) (sym c.bytes_of.ensures)
    (name_few c.args.rest.text.now c.in-Some.first (first_is_of c.requires c.in-Some.ensures) (sym (c.if-not-is_name.ensures)))

pub returns : goal.returns
returns c = record {
  first = c.in-Some.first;
  takes = c.in-Some.ensures;
  kind = sym (c.if-not-is_name.ensures);
  text_is = c.in_ok-text.ensures ∙ ap upper c.bytes_of.ensures ∙ sym (name_says c.args.rest.text.now c.in-Some.first (first_is_of c.requires c.in-Some.ensures) (sym (c.if-not-is_name.ensures)));
  place_is = refl;
}
