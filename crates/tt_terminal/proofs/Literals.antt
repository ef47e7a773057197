-- Literals of which the parts have been read.
use Rattle.std.proofs.Common.{◌≡◌, ℕ, ℤ, List, [], ◌∷◌, sym, ap, ◌∙◌, arith, FitsSigned, w32, w64, to_z, of_z}
use Rattle.std.proofs.lemmas.Int.{to_z-of_z, ints}
use Rattle.tt_value.specs.calendar.Calendar.{day_text}
use Rattle.tt_sql.specs.grammar.Grammar.{Lexeme, Mark, Said, Meant, Gram, Tok, Note}
use Rattle.tt_sql.specs.grammar.TokenKinds.{MINUS, DATE, DATE_TEXT, SHORT_NUMBER, is_negative}
use Rattle.tt_sql.specs.grammar.Combinators.{one, as_negative, as_date, ◌▸◌}
use Rattle.tt_terminal.specs.declared.rest.Rest.{Rest}
use Rattle.tt_terminal.specs.Reading.{IsPlaced, IsNegative, IsDayText, Passes}
use Rattle.tt_terminal.proofs.Steps.{passes_token, passes_note, is_of_one}

-- a minus and a number, and what stands behind them
pub passes_minus : {before : List Lexeme} {g : Gram} {r : Rest} {place : ℕ} {s : Rest} {v : ℤ} {u : Rest} {m : List Mark} {w : Rest} → IsPlaced MINUS r place s → IsNegative s v u → ((front : List Lexeme) → Passes front g u m w) → Passes before (one MINUS ▸ Tok SHORT_NUMBER is_negative ▸ Note as_negative ▸ g) r (Meant v place ∷ m) w
passes_minus {before = before} {g = g} {r = r} {place = place} {s = s} {v = v} {u = u} {m = m} {w = w} minus is rest =
    passes_token minus.word.takes (is_of_one minus.word.kind)
    (passes_token is.takes is.kind
    (passes_note (λ done. ap (λ (x : ℤ). Meant x minus.word.first.token.start ∷ []) (sym is.value_is) ∙ ap (λ (x : ℕ). Meant v x ∷ []) minus.place_is) (rest _)))

-- the word DATE and its text, and what stands behind them
pub passes_date : {before : List Lexeme} {g : Gram} {r : Rest} {place : ℕ} {s : Rest} {day : ℤ} {u : Rest} {m : List Mark} {w : Rest} → IsPlaced DATE r place s → IsDayText s day u → ((front : List Lexeme) → Passes front g u m w) → Passes before (one DATE ▸ one DATE_TEXT ▸ Note as_date ▸ g) r (Said (day_text day) place ∷ m) w
passes_date {before = before} {g = g} {r = r} {place = place} {s = s} {day = day} {u = u} {m = m} {w = w} date is rest =
    passes_token date.word.takes (is_of_one date.word.kind)
    (passes_token is.word.takes (is_of_one is.word.kind)
    (passes_note (λ done. ap (λ (x : List ℕ). Said x date.word.first.token.start ∷ []) is.text_is ∙ ap (λ (x : ℕ). Said (day_text day) x ∷ []) date.place_is) (rest _)))

-- these fit their types
pub negative_fits : {r : Rest} {v : ℤ} {s : Rest} → IsNegative r v s → FitsSigned w64 v
negative_fits is = let l = is.low in let h = is.high in omega (arith, ints, l, h)

pub day_fits : {r : Rest} {day : ℤ} {s : Rest} → IsDayText r day s → FitsSigned w32 day
day_fits is = let d = is.is_day in omega (arith, ints, d.0, d.1)

pub same_negative : {r : Rest} {v : ℤ} {s : Rest} → IsNegative r v s → to_z w64 (of_z w64 v) ≡ v
same_negative {v = v} is = to_z-of_z w64 v (negative_fits is)

pub same_day : {r : Rest} {day : ℤ} {s : Rest} → IsDayText r day s → to_z w32 (of_z w32 day) ≡ day
same_day {day = day} is = to_z-of_z w32 day (day_fits is)
