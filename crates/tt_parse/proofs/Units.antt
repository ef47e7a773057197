-- The units of time in quotes.
use Rattle.std.proofs.Common.{◌≡◌, ℕ, Bool, true, false, List, [], ◌∷◌, if◌then◌else◌, bytes_eq, refl, sym, ap, ◌∙◌, arith}
use Rattle.std.specs.List.{list_any}
use Rattle.tt_lex.specs.Lexis.{text_of}
use Rattle.tt_value.specs.declared.name.Quoted.{Quoted}
use Rattle.tt_sql.specs.grammar.Grammar.{Way, Note}
use Rattle.tt_sql.specs.grammar.TokenKinds.{DATE_TEXT, TIME_TEXT, UNIT_TEXT, NAME_TEXT, OTHER_TEXT, unit_words, upper, place_in, text_kind, unquoted}
use Rattle.tt_sql.specs.grammar.Combinators.{as_unit, one, ◌▸◌}
use Rattle.tt_sql.specs.marks.Statements.{unit_number}
use Rattle.tt_sql.specs.declared.statement.TimeUnit.{TimeUnit}
use Rattle.tt_terminal.specs.declared.rest.Rest.{Rest}
use Rattle.tt_terminal.specs.Reading.{IsOf, IsKnown, IsQuoted, Passes, first_kind}
use Rattle.tt_parse.specs.Tables.{IsUnit}
use Rattle.tt_terminal.proofs.Quotes.{quoted_kind_is, quoted_says}
use Rattle.tt_terminal.proofs.Steps.{first_is_of, takes_kind, passes_token, passes_noted, is_of_one}

unit_of_kind : (a b c d : Bool) → (if a then DATE_TEXT else (if b then TIME_TEXT else (if c then UNIT_TEXT else (if d then NAME_TEXT else OTHER_TEXT)))) ≡ UNIT_TEXT → c ≡ true
unit_of_kind true b c d e = absurd (omega (arith, e))
unit_of_kind false true c d e = absurd (omega (arith, e))
unit_of_kind false false true d e = refl
unit_of_kind false false false true e = absurd (omega (arith, e))
unit_of_kind false false false false e = absurd (omega (arith, e))

names_unit : (text : List ℕ) → text_kind text ≡ UNIT_TEXT → list_any (bytes_eq (upper text)) unit_words ≡ true
unfolding text_kind
names_unit text e = unit_of_kind _ _ (list_any (bytes_eq (upper text)) unit_words) _ e

-- the text of such a token names a unit
pub is_unit : {r : Rest} {q : Quoted} {s : Rest} → IsKnown r → IsQuoted r q s → first_kind r ≡ UNIT_TEXT → list_any (bytes_eq (upper q.text)) unit_words ≡ true
is_unit {r = r} {q = q} {s = s} known is e =
    let of : IsOf r.text.now is.first = first_is_of known is.takes in
    let says : q.text ≡ unquoted (text_of r.text.now is.first.token) = is.text_is ∙ quoted_says r.text.now is.first of is.kind in
    names_unit q.text (ap text_kind says ∙ sym (quoted_kind_is r.text.now is.first of is.kind) ∙ sym (takes_kind is.takes) ∙ e)

pub passes_unit : {r : Rest} {q : Quoted} {s : Rest} (u : TimeUnit) → IsQuoted r q s → first_kind r ≡ UNIT_TEXT → IsUnit q.text u → Passes [] (one UNIT_TEXT ▸ Note as_unit) r (Way (unit_number u) ∷ []) s
passes_unit {r = r} {q = q} {s = s} u is e unit =
    passes_token is.takes (is_of_one (sym (takes_kind is.takes) ∙ e))
    (passes_noted is.takes.known (λ done. ap (λ (n : ℕ). Way n ∷ []) (sym (unit.place_is ∙ ap (λ (t : List ℕ). place_in unit_words (upper t)) is.text_is))))
