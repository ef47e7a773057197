-- The moments of timestamps in quotes.
use Rattle.std.proofs.Common.{◌≡◌, ℕ, ℤ, Bool, true, false, List, [], ◌∷◌, Some, if◌then◌else◌, refl, sym, ap, ◌∙◌, arith}
use Rattle.std.specs.Prelude.{is_some}
use Rattle.tt_lex.specs.Lexis.{text_of}
use Rattle.tt_value.specs.calendar.Reading.{timestamp_of}
use Rattle.tt_value.specs.declared.name.Quoted.{Quoted}
use Rattle.tt_sql.specs.grammar.Grammar.{Meant}
use Rattle.tt_sql.specs.grammar.TokenKinds.{DATE_TEXT, TIME_TEXT, UNIT_TEXT, NAME_TEXT, OTHER_TEXT, text_kind, unquoted, lexeme}
use Rattle.tt_sql.specs.grammar.Combinators.{quoted_moment, moment_mark}
use Rattle.tt_terminal.specs.declared.rest.Rest.{Rest}
use Rattle.tt_terminal.specs.KindNumbers.{kind_number}
use Rattle.tt_terminal.specs.Reading.{IsOf, IsKnown, IsQuoted, Passes, first_kind}
use Rattle.tt_terminal.proofs.Quotes.{quoted_token}
use Rattle.tt_terminal.proofs.Steps.{first_is_of, takes_kind, passes_token, passes_noted, is_of_one}

time_of_kind : (a b c d : Bool) → (if a then DATE_TEXT else (if b then TIME_TEXT else (if c then UNIT_TEXT else (if d then NAME_TEXT else OTHER_TEXT)))) ≡ TIME_TEXT → b ≡ true
time_of_kind true b c d e = absurd (omega (arith, e))
time_of_kind false true c d e = refl
time_of_kind false false true d e = absurd (omega (arith, e))
time_of_kind false false false true e = absurd (omega (arith, e))
time_of_kind false false false false e = absurd (omega (arith, e))

is_timestamp : (text : List ℕ) → text_kind text ≡ TIME_TEXT → is_some (timestamp_of text) ≡ true
unfolding text_kind
is_timestamp text e = time_of_kind _ (is_some (timestamp_of text)) _ _ e

-- the text of such a token is a timestamp
pub is_instant : {r : Rest} {q : Quoted} {s : Rest} → IsKnown r → IsQuoted r q s → first_kind r ≡ TIME_TEXT → is_some (timestamp_of q.text) ≡ true
is_instant {r = r} {q = q} {s = s} known is e =
    let of : IsOf r.text.now is.first = first_is_of known is.takes in
    let token = quoted_token r.text.now is.first of is.kind in
    let kind : kind_number is.first.kind ≡ text_kind (unquoted (text_of r.text.now is.first.token)) = of.right ∙ ap (λ k. (lexeme k (text_of r.text.now is.first.token) is.first.token.start).kind) token in
    let says : q.text ≡ unquoted (text_of r.text.now is.first.token) = is.text_is ∙ ap (λ k. (lexeme k (text_of r.text.now is.first.token) is.first.token.start).text) token in
    is_timestamp q.text (ap text_kind says ∙ sym kind ∙ sym (takes_kind is.takes) ∙ e)

pub passes_instant : {r : Rest} {q : Quoted} {s : Rest} (n : ℤ) → IsQuoted r q s → first_kind r ≡ TIME_TEXT → timestamp_of q.text ≡ Some n → Passes [] quoted_moment r (Meant n 0 ∷ []) s
passes_instant {r = r} {q = q} {s = s} n is e value =
    passes_token is.takes (is_of_one (sym (takes_kind is.takes) ∙ e))
    (passes_noted is.takes.known (λ done. ap moment_mark (ap timestamp_of (sym is.text_is) ∙ value)))
