-- Operands and units of which the parts have been read.
use Rattle.std.proofs.Common.{◌≡◌, ℕ, suc, Bool, true, false, ◌&&◌, ◌==◌, inl, inr, List, [], ◌∷◌, ◌++◌, length, Result, Ok, Err, refl, sym, ap, ◌∙◌, append_assoc, subst, true≢false}
use Rattle.std.specs.Result.{IsErrAnd}
use Rattle.tt_value.specs.calendar.Calendar.{day_text}
use Rattle.tt_value.specs.declared.name.Literal.{Literal}
use Rattle.tt_value.specs.declared.name.Name.{Name}
use Rattle.tt_sql.specs.grammar.Grammar.{Lexeme, Mark, Way, Said, Gram, Both, is_of, nowhere, Tok, Note}
use Rattle.tt_sql.proofs.machine.Items.{NextIsNot, simple_is_operand}
use Rattle.tt_sql.specs.marks.Expressions.{literal_marks, name_marks}
use Rattle.tt_sql.specs.grammar.Combinators.{◌▸◌, ◌∣◌, way, one, placed, number, quoted, as_negative, as_date, as_text}
use Rattle.tt_sql.specs.machine.Factored.{but, or_date, negative, plain_name, read_operand, read_rule, read_simple, read_unit, unit_end}
use Rattle.tt_sql.specs.grammar.Lexemes.{begins_with}
use Rattle.tt_sql.specs.grammar.TokenKinds.{DATE, DATE_TEXT, MINUS, NAME, NULL, OPEN, SHORT_NUMBER, STARTSWITH, is_name, is_negative}
use Rattle.tt_sql.specs.grammar.Written.{literal}
use Rattle.tt_terminal.specs.declared.error.ParseError.{ParseError}
use Rattle.tt_terminal.specs.declared.error.ParseError.TheVariants.{Syntax, Memory}
use Rattle.tt_terminal.specs.declared.rest.Rest.{Rest}
use Rattle.tt_phrase.specs.Factors.{IsDate, IsNoDate}
use Rattle.tt_terminal.specs.Fronts.{begins, front_kind}
use Rattle.tt_terminal.specs.KindNumbers.{kind_number}
use Rattle.tt_phrase.specs.Predicates.{Completes, deeper_unit}
use Rattle.tt_terminal.specs.Reading.{Errs, Fails, IsName, IsWord, Offers, Passes, ReadsBehind, first_kind, seen, seen_as}
use Rattle.tt_phrase.proofs.Alike.{Alike, alike_chains, alike_either, alike_passes, alike_right, alike_stops, alike_stuck}
use Rattle.tt_phrase.proofs.Factors.{no_date, no_plain, plain_is}
use Rattle.tt_terminal.proofs.Running.{run_both, run_fails}
use Rattle.tt_terminal.proofs.Steps.{is_of_one, marks_are, passes_as, passes_both, passes_left, passes_note, passes_noted, passes_right, passes_token, passes_way, passes_ways, placed_kind_is, same_behind, stops_second, takes_kind, word_kind_is, word_shorter}

-- ---- what may stand here, and does

pub offers_word : {g : Gram} {k : ℕ} {r s : Rest} {m : List Mark} → IsWord k r s → begins false g k ≡ true → Passes [] g r m s → Offers g r m s
offers_word {k = k} w b p = record { kind = k; kind_is = word_kind_is w; begins_here = b; shorter = word_shorter w; passes = p }

-- ---- operands

pub operand_day : {r : Rest} {l : Literal} {s : Rest} → (is : IsDate r l s) → Passes [] (read_operand nowhere) r (literal_marks l ++ Way 1 ∷ []) s
operand_day is = marks_are (ap (λ (x : List Mark). x ++ Way 1 ∷ []) is.marks)
    (passes_right (rw (placed_kind_is is.word) refl) refl (passes_right (rw (placed_kind_is is.word) refl) refl (passes_right (rw (placed_kind_is is.word) refl) refl
    (passes_right (rw (placed_kind_is is.word) refl) refl (passes_right (rw (placed_kind_is is.word) refl) refl
    (passes_token is.word.word.takes (is_of_one is.word.word.kind) (marks_are (ap (λ (x : ℕ). Said (day_text is.day) x ∷ Way 3 ∷ Way 1 ∷ []) (sym is.word.place_is))
    (passes_left (word_kind_is is.day_is.word) refl refl (passes_token is.day_is.word.takes (is_of_one is.day_is.word.kind)
    (passes_note (λ done. ap (λ (x : List ℕ). Said x is.word.word.first.token.start ∷ []) is.day_is.text_is) (passes_ways 3 1 is.day_is.word.takes.known)))))))))))

pub operand_column : {r : Rest} {n : Name} {s : Rest} → IsNoDate r → IsName r n s → Passes [] (read_operand nowhere) r (name_marks n ++ Way 0 ∷ []) s
operand_column {r = r} {n = name} (inl d) is =
    let k : first_kind r ≡ kind_number is.first.kind = takes_kind is.takes in
    let plain : is_of NAME (but (or_date nowhere)) (kind_number is.first.kind) ≡ true = plain_is (kind_number is.first.kind) is.kind (ap (λ (x : ℕ). x == DATE) (sym k) ∙ d) in
    passes_left k (rw plain refl) refl
    (passes_as {m = name_marks name} (passes_token is.takes plain (marks_are (rw (is.text_is, is.place_is) refl) (passes_noted {n = Said (seen_as r.text.now is.first).text is.first.token.start ∷ []} is.takes.known (λ done. refl)))))
operand_column {r = r} (inr d) is =
    passes_right (rw (word_kind_is d.1) refl) refl (passes_right (rw (word_kind_is d.1) refl) refl (passes_right (rw (word_kind_is d.1) refl) refl
    (passes_right (rw (word_kind_is d.1) refl) refl (passes_right (rw (word_kind_is d.1) refl) refl
    (passes_token is.takes (is_of_one (sym (takes_kind is.takes) ∙ word_kind_is d.1))
    (passes_right (rw (sym (same_behind d.1.takes is.takes)) (rw d.2 refl)) refl
    (marks_are (rw (is.text_is, is.place_is) refl) (passes_note (λ done. refl) (passes_way is.takes.known)))))))))

-- where no name begins, an operand is a literal
module _ (end : ℕ) (ts : List Lexeme) where
  abbrev date_end : Gram
  date_end = one DATE ▸ (one DATE_TEXT ▸ Note as_date ▸ way 3 ▸ way 1 ∣ Note as_text ▸ way 0)

  abbrev date_literal : Gram
  date_literal = one DATE ▸ one DATE_TEXT ▸ Note as_date ▸ way 3

  abbrev minus_literal : Gram
  minus_literal = one MINUS ▸ Tok SHORT_NUMBER is_negative ▸ Note as_negative ▸ way 1

  dates : (front_kind ts == DATE) ≡ false → Alike end ts date_end (date_literal ▸ way 1)
  dates e = alike_stuck end ts date_end (date_literal ▸ way 1) (rw e refl) refl (rw e refl) refl

  quotes : (front_kind ts == DATE) ≡ false → Alike end ts (quoted ▸ way 2 ▸ way 1 ∣ date_end) ((quoted ▸ way 2 ∣ date_literal) ▸ way 1)
  quotes e = alike_either end ts (quoted ▸ way 2 ▸ way 1) date_end (quoted ▸ way 2) date_literal (way 1) (begins true (quoted ▸ way 2) (front_kind ts))
      (record { may = refl; must = refl; ends = refl; takes = refl }) (record { may = refl; must = refl; ends = refl; takes = refl })
      (alike_chains end ts (quoted ▸ way 2 ▸ way 1) ((quoted ▸ way 2) ▸ way 1) refl) (dates e)

  numbers_behind : (front_kind ts == DATE) ≡ false → Alike end ts (one MINUS ▸ negative ▸ way 1 ▸ way 1 ∣ quoted ▸ way 2 ▸ way 1 ∣ date_end) ((minus_literal ∣ quoted ▸ way 2 ∣ date_literal) ▸ way 1)
  numbers_behind e = alike_either end ts (one MINUS ▸ negative ▸ way 1 ▸ way 1) (quoted ▸ way 2 ▸ way 1 ∣ date_end) minus_literal (quoted ▸ way 2 ∣ date_literal) (way 1) (begins true minus_literal (front_kind ts))
      (record { may = refl; must = refl; ends = refl; takes = refl }) (record { may = refl; must = refl; ends = refl; takes = refl })
      (alike_chains end ts (one MINUS ▸ negative ▸ way 1 ▸ way 1) (minus_literal ▸ way 1) refl) (quotes e)

  nulls : (front_kind ts == DATE) ≡ false → Alike end ts (placed NULL ▸ way 0 ▸ way 1 ∣ one MINUS ▸ negative ▸ way 1 ▸ way 1 ∣ quoted ▸ way 2 ▸ way 1 ∣ date_end) ((placed NULL ▸ way 0 ∣ minus_literal ∣ quoted ▸ way 2 ∣ date_literal) ▸ way 1)
  nulls e = alike_either end ts (placed NULL ▸ way 0 ▸ way 1) (one MINUS ▸ negative ▸ way 1 ▸ way 1 ∣ quoted ▸ way 2 ▸ way 1 ∣ date_end) (placed NULL ▸ way 0) (minus_literal ∣ quoted ▸ way 2 ∣ date_literal) (way 1) (begins true (placed NULL ▸ way 0) (front_kind ts))
      (record { may = refl; must = refl; ends = refl; takes = refl }) (record { may = refl; must = refl; ends = refl; takes = refl })
      (alike_chains end ts (placed NULL ▸ way 0 ▸ way 1) ((placed NULL ▸ way 0) ▸ way 1) refl) (numbers_behind e)

  abbrev other_operand : Gram
  other_operand = placed NULL ▸ way 0 ▸ way 1 ∣ one MINUS ▸ negative ▸ way 1 ▸ way 1 ∣ quoted ▸ way 2 ▸ way 1 ∣ date_end

  numbers : (front_kind ts == DATE) ≡ false → Alike end ts (number ▸ way 1 ▸ way 1 ∣ other_operand) (literal ▸ way 1)
  numbers e = alike_either end ts (number ▸ way 1 ▸ way 1) other_operand (number ▸ way 1) (placed NULL ▸ way 0 ∣ minus_literal ∣ quoted ▸ way 2 ∣ date_literal) (way 1) (begins true (number ▸ way 1) (front_kind ts))
      (record { may = refl; must = refl; ends = refl; takes = refl }) (record { may = refl; must = refl; ends = refl; takes = refl })
      (alike_chains end ts (number ▸ way 1 ▸ way 1) ((number ▸ way 1) ▸ way 1) refl) (nulls e)

  pub operand_is_literal : is_of NAME is_name (front_kind ts) ≡ false → Alike end ts (read_operand nowhere) (literal ▸ way 1)
  operand_is_literal e =
      let n = no_plain (front_kind ts) e in
      alike_right end ts (plain_name (or_date nowhere) ▸ way 0) (number ▸ way 1 ▸ way 1 ∣ other_operand) (literal ▸ way 1) (rw n refl) refl (numbers (no_date (front_kind ts) e))

pub operand_literal : {r : Rest} {m : List Mark} {s : Rest} → is_of NAME is_name (first_kind r) ≡ false → Passes [] literal r m s → Passes [] (read_operand nowhere) r (m ++ Way 1 ∷ []) s
operand_literal {r = r} e p = alike_passes (operand_is_literal (length r.text.now) (seen r) e) (passes_as p)

pub no_operand : {r : Rest} {at : ℕ} → is_of NAME is_name (first_kind r) ≡ false → Fails [] (literal ▸ way 1) r at → Fails [] (read_operand nowhere) r at
no_operand {r = r} e f = alike_stops (operand_is_literal (length r.text.now) (seen r) e) f

-- ---- units

bracket_no : (a b : Bool) → (a && (b && true)) ≡ false → a ≡ true → b ≡ false
bracket_no true true e p = e
bracket_no true false e p = refl
bracket_no false b e p = absurd (true≢false (sym p))

not_open : (t : Lexeme) (ts : List Lexeme) → begins_with (STARTSWITH ∷ OPEN ∷ []) (t ∷ ts) ≡ false → (t.kind == STARTSWITH) ≡ true → NextIsNot OPEN ts
not_open t [] e p = tt
not_open t (u ∷ us) e p = bracket_no (t.kind == STARTSWITH) (u.kind == OPEN) e p

-- a unit begins with an operand, unless STARTSWITH has a bracket behind it
pub simple_alike : (end : ℕ) (ts : List Lexeme) → begins_with (STARTSWITH ∷ OPEN ∷ []) ts ≡ false → Alike end ts read_simple (read_operand nowhere ▸ unit_end)
simple_alike end [] e done K = run_fails read_rule end done K read_simple [] refl refl ∙ sym (run_fails read_rule end done K (read_operand nowhere ▸ unit_end) [] refl refl)
simple_alike end (t ∷ ts) e done K = simple_is_operand end done K t ts (not_open t ts e) ∙ sym (run_both read_rule end done K (read_operand nowhere) unit_end (t ∷ ts))

-- ---- readers that are given the front of a tree

module _ {T : Type 0} (marks : T → List Mark) (rest : T → Rest) where
  -- an exit by `?`
  pub completes_exit : (front : List Mark) (g : Gram) (r : Rest) (e : ParseError) (result : Result T ParseError) → IsErrAnd result (λ y. y ≡ e) → Errs [] g r e → Completes marks rest front g r result
  completes_exit front g r e (Ok x) h f = absurd h
  completes_exit front g r e (Err y) h f = subst (λ z. Errs [] g r z) (sym h) f

  -- the front was read too
  pub completed : (front : List Mark) (g h : Gram) (r s : Rest) (result : Result T ParseError) → Passes [] g r front s → Completes marks rest front h s result → ReadsBehind [] marks rest (Both g h) r result
  completed front g h r s (Ok x) p c = marks_are c.1 (passes_both p c.2)
  completed front g h r s (Err (Syntax y)) p f = stops_second p f
  completed front g h r s (Err Memory) p f = tt

  -- a longer front was given
  pub completes_more : (front n : List Mark) (g h : Gram) (r s : Rest) (result : Result T ParseError) → ((m : List Mark) (u : Rest) → Passes [] g s m u → Passes [] h r (n ++ m) u) → ((at : ℕ) → Fails [] g s at → Fails [] h r at) → Completes marks rest (front ++ n) g s result → Completes marks rest front h r result
  completes_more front n g h r s (Ok x) p f c = (n ++ c.0, c.1 ∙ append_assoc front n c.0, p c.0 (rest x) c.2)
  completes_more front n g h r s (Err (Syntax y)) p f a = f y.place a
  completes_more front n g h r s (Err Memory) p f a = tt

-- ---- levels

module _ {r : Rest} where
  pub simple_passes : {m : List Mark} {s : Rest} → Passes [] read_simple r m s → Passes [] (read_unit 0) r m s
  unfolding read_unit
  simple_passes p = p

  pub simple_stops : {at : ℕ} → Fails [] read_simple r at → Fails [] (read_unit 0) r at
  unfolding read_unit
  simple_stops f = f

  pub deeper_passes : {levels : ℕ} {m : List Mark} {s : Rest} → Passes [] (deeper_unit levels) r m s → Passes [] (read_unit (suc levels)) r m s
  unfolding read_unit
  deeper_passes p = p

  pub deeper_stops : {levels : ℕ} {at : ℕ} → Fails [] (deeper_unit levels) r at → Fails [] (read_unit (suc levels)) r at
  unfolding read_unit
  deeper_stops f = f
