use Rattle.std.proofs.Common.{◌≡◌, ◌<◌, ◌+◌, ◌^◌, ℕ, true, min, List, subst, sym, ap, ◌∙◌, refl, arith}
use Rattle.std.specs.List.{list_all}
use Rattle.std.specs.Char.{is_ascii_digit}
use Rattle.tt_lex.specs.Lexis.{text_of}
use Rattle.tt_sql.specs.grammar.Grammar.{is_of}
use Rattle.tt_sql.specs.grammar.TokenKinds.{SHORT_NUMBER, is_negative}
use Rattle.tt_value.specs.calendar.Reading.{digits_value as number_of}
use Rattle.tt_terminal.specs.KindNumbers.{kind_number}
use Rattle.tt_terminal.specs.Reading.{IsOf}
use Rattle.tt_terminal.proofs.Steps.{first_is_of}
use Rattle.tt_terminal.proofs.Numbers.{number_digits, number_few, number_says, number_is_negative}
use Rattle.tt_terminal.proofs.name.optional_number.Goals as goal

pub value_of-value-requires : goal.value_of-value-requires
value_of-value-requires c =
    let is : IsOf c.args.rest.text.now c.in_ok-first.first = first_is_of c.requires c.in_ok-first.ensures in
    let e : is_of SHORT_NUMBER is_negative (kind_number c.in_ok-first.first.kind) ≡ true = number_is_negative (kind_number c.in_ok-first.first.kind) (sym c.if-not-is_number.ensures) in
    subst (λ (x : List ℕ). list_all is_ascii_digit x ≡ true) (sym c.bytes_of.ensures) (number_digits c.args.rest.text.now c.in_ok-first.first is e)

pub returns : goal.returns
returns c =
    let is : IsOf c.args.rest.text.now c.in_ok-first.first = first_is_of c.requires c.in_ok-first.ensures in
    let e : is_of SHORT_NUMBER is_negative (kind_number c.in_ok-first.first.kind) ≡ true = number_is_negative (kind_number c.in_ok-first.first.kind) (sym c.if-not-is_number.ensures) in
    let few : number_of (text_of c.args.rest.text.now c.in_ok-first.first.token) < 2 ^ 63 = number_few c.args.rest.text.now c.in_ok-first.first is e (sym c.if-not-is_number.ensures) in
    let value : c.value_of-value.result ≡ min (number_of (text_of c.args.rest.text.now c.in_ok-first.first.token)) (2 ^ 63 + 1) = c.value_of-value.ensures ∙ ap (λ (x : List ℕ). min (number_of x) (2 ^ 63 + 1)) c.bytes_of.ensures in
    let exact : c.value_of-value.result ≡ number_of (text_of c.args.rest.text.now c.in_ok-first.first.token) = omega arith in
    record {
      first = c.in_ok-first.first;
      takes = c.in_ok-first.ensures;
      kind = sym c.if-not-is_number.ensures;
      value_is = exact ∙ ap number_of (sym (number_says c.args.rest.text.now c.in_ok-first.first is e));
      place_is = refl;
      small = omega arith;
    }
