use Rattle.std.proofs.Common.{rules, ◌≡◌, ◌≤◌, ◌+◌, ◌^◌, ℕ, pos, neg_ℤ, true, min, List, subst, sym, ap, ◌∙◌, arith}
use Rattle.std.proofs.Common.{w64, FitsSigned}
use Rattle.std.proofs.lemmas.Int.{to_z-of_z, ints}
use Rattle.std.specs.List.{list_all}
use Rattle.std.specs.Char.{is_ascii_digit}
use Rattle.tt_lex.specs.Lexis.{text_of}
use Rattle.tt_sql.specs.grammar.Grammar.{is_of}
use Rattle.tt_sql.specs.grammar.TokenKinds.{SHORT_NUMBER, is_negative}
use Rattle.tt_value.specs.calendar.Reading.{digits_value as number_of}
use Rattle.tt_terminal.specs.KindNumbers.{kind_number}
use Rattle.tt_terminal.specs.Reading.{IsOf}
use Rattle.tt_terminal.proofs.Steps.{first_is_of}
use Rattle.tt_terminal.proofs.Numbers.{number_digits, negative_few, number_says}
use Rattle.tt_terminal.proofs.name.optional_negative.Goals as goal

pub value_of-value-requires : goal.value_of-value-requires
value_of-value-requires c =
    let is : IsOf c.args.rest.text.now c.in_ok-first.first = first_is_of c.requires c.in_ok-first.ensures in
    let e : is_of SHORT_NUMBER is_negative (kind_number c.in_ok-first.first.kind) ≡ true = sym c.if-not-is_negative.ensures in
    subst (λ (x : List ℕ). list_all is_ascii_digit x ≡ true) (sym c.bytes_of.ensures) (number_digits c.args.rest.text.now c.in_ok-first.first is e)

pub returns : goal.returns
returns c =
    let is : IsOf c.args.rest.text.now c.in_ok-first.first = first_is_of c.requires c.in_ok-first.ensures in
    let e : is_of SHORT_NUMBER is_negative (kind_number c.in_ok-first.first.kind) ≡ true = sym c.if-not-is_negative.ensures in
    let few : number_of (text_of c.args.rest.text.now c.in_ok-first.first.token) ≤ 2 ^ 63 = negative_few c.args.rest.text.now c.in_ok-first.first is e in
    let value : c.value_of-value.result ≡ min (number_of (text_of c.args.rest.text.now c.in_ok-first.first.token)) (2 ^ 63 + 1) = c.value_of-value.ensures ∙ ap (λ (x : List ℕ). min (number_of x) (2 ^ 63 + 1)) c.bytes_of.ensures in
    let exact : c.value_of-value.result ≡ number_of (text_of c.args.rest.text.now c.in_ok-first.first.token) = omega arith in
    let fits : FitsSigned w64 c.negated.result = search rules in
    record {
      first = c.in_ok-first.first;
      takes = c.in_ok-first.ensures;
      kind = sym c.if-not-is_negative.ensures;
      value_is = to_z-of_z w64 c.negated.result fits ∙ c.negated.ensures ∙ ap (λ (n : ℕ). neg_ℤ (pos n)) (exact ∙ ap number_of (sym (number_says c.args.rest.text.now c.in_ok-first.first is e)));
      low = rw (to_z-of_z w64 c.negated.result fits) (rw c.negated.ensures (omega (arith, ints)));
      high = rw (to_z-of_z w64 c.negated.result fits) (rw c.negated.ensures (omega (arith, ints)));
    }

pub negated-requires : goal.negated-requires
negated-requires c =
    let is : IsOf c.args.rest.text.now c.in_ok-first.first = first_is_of c.requires c.in_ok-first.ensures in
    let e : is_of SHORT_NUMBER is_negative (kind_number c.in_ok-first.first.kind) ≡ true = sym c.if-not-is_negative.ensures in
    let few : number_of (text_of c.args.rest.text.now c.in_ok-first.first.token) ≤ 2 ^ 63 = negative_few c.args.rest.text.now c.in_ok-first.first is e in
    let value : c.value_of-value.result ≡ min (number_of (text_of c.args.rest.text.now c.in_ok-first.first.token)) (2 ^ 63 + 1) = c.value_of-value.ensures ∙ ap (λ (x : List ℕ). min (number_of x) (2 ^ 63 + 1)) c.bytes_of.ensures in
    let exact : c.value_of-value.result ≡ number_of (text_of c.args.rest.text.now c.in_ok-first.first.token) = omega arith in
    omega arith
