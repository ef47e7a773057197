use Rattle.std.proofs.Common.{◌≡◌, ◌≤◌, ◌∙◌, ℕ, true, List, length, subst, sym, ap, refl, arith, FitsSigned, w32}
use Rattle.std.specs.Str.{IsUtf8}
use Rattle.std.proofs.lemmas.Int.{to_z-of_z, ints}
use Rattle.tt_value.specs.calendar.Calendar.{IsDay}
use Rattle.tt_sql.specs.grammar.Grammar.{is_of}
use Rattle.tt_sql.specs.grammar.TokenKinds.{OTHER_TEXT, DATE_TEXT, is_quoted, unquoted, text_kind}
use Rattle.tt_terminal.specs.KindNumbers.{kind_number}
use Rattle.tt_terminal.proofs.Steps.{first_is_of}
use Rattle.tt_terminal.proofs.Quotes.{quoted_length, quoted_valid, quoted_says, quoted_kind_is}
use Rattle.tt_terminal.proofs.quoted.optional_day.Goals as goal

pub day_of-requires-clause-quotes : goal.day_of-requires-clause-quotes
day_of-requires-clause-quotes c =
    let e : kind_number c.in_ok-first.first.kind ≡ DATE_TEXT = sym c.number.ensures ∙ c.if-number.false ∙ c.number-2.ensures in
    let q : is_of OTHER_TEXT is_quoted (kind_number c.in_ok-first.first.kind) ≡ true = rw e refl in
    subst (λ (x : List ℕ). 2 ≤ length x) (sym c.bytes_of.ensures) (quoted_length c.args.rest.text.now c.in_ok-first.first (first_is_of c.requires c.in_ok-first.ensures) q)

pub day_of-requires-clause-valid : goal.day_of-requires-clause-valid
day_of-requires-clause-valid c =
    let e : kind_number c.in_ok-first.first.kind ≡ DATE_TEXT = sym c.number.ensures ∙ c.if-number.false ∙ c.number-2.ensures in
    let q : is_of OTHER_TEXT is_quoted (kind_number c.in_ok-first.first.kind) ≡ true = rw e refl in
    subst (λ (x : List ℕ). IsUtf8 (unquoted x)) (sym c.bytes_of.ensures) (quoted_valid c.args.rest.text.now c.in_ok-first.first (first_is_of c.requires c.in_ok-first.ensures) q)

pub day_of-requires-clause-date : goal.day_of-requires-clause-date
day_of-requires-clause-date c =
    let e : kind_number c.in_ok-first.first.kind ≡ DATE_TEXT = sym c.number.ensures ∙ c.if-number.false ∙ c.number-2.ensures in
    let q : is_of OTHER_TEXT is_quoted (kind_number c.in_ok-first.first.kind) ≡ true = rw e refl in
    subst (λ (x : List ℕ). text_kind (unquoted x) ≡ DATE_TEXT) (sym c.bytes_of.ensures) (sym (quoted_kind_is c.args.rest.text.now c.in_ok-first.first (first_is_of c.requires c.in_ok-first.ensures) q) ∙ e)

pub returns : goal.returns
returns c =
    let e : kind_number c.in_ok-first.first.kind ≡ DATE_TEXT = sym c.number.ensures ∙ c.if-number.false ∙ c.number-2.ensures in
    let q : is_of OTHER_TEXT is_quoted (kind_number c.in_ok-first.first.kind) ≡ true = rw e refl in
    let is : IsDay c.day_of.result = c.day_of.ensures.day in
    let fits : FitsSigned w32 c.day_of.result = omega (arith, ints, is.0, is.1) in
    rw (to_z-of_z w32 c.day_of.result fits) (record {
      word = record { first = c.in_ok-first.first; takes = c.in_ok-first.ensures; kind = e };
      text_is = quoted_says c.args.rest.text.now c.in_ok-first.first (first_is_of c.requires c.in_ok-first.ensures) q ∙ ap unquoted (sym c.bytes_of.ensures) ∙ c.day_of.ensures.text;
      is_day = is;
    })
