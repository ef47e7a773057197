-- Factors of which the parts have been read.
use Rattle.std.proofs.Common.{◌≡◌, ℕ, zero, suc, true, false, ◌==◌, inl, inr, List, [], ◌∷◌, ◌++◌, refl, sym, ap, ◌∙◌, arith}
use Rattle.std.proofs.lemmas.Bool.Decides.{nat_tests}
use Rattle.tt_value.specs.calendar.Calendar.{day_text}
use Rattle.tt_value.specs.declared.name.Literal.{Literal}
use Rattle.tt_value.specs.declared.name.Name.{Name}
use Rattle.tt_value.specs.declared.name.Quoted.{Quoted}
use Rattle.tt_sql.specs.grammar.Grammar.{Mark, Way, At, Said, Gram, is_of, nowhere}
use Rattle.tt_sql.specs.grammar.TokenKinds.{NULL, DATE, NAME, OTHER_TEXT, is_name, is_quoted}
use Rattle.tt_sql.specs.machine.Factored.{or_date, but, read_other}
use Rattle.tt_sql.specs.marks.Expressions.{name_marks, quoted_marks}
use Rattle.tt_terminal.specs.declared.rest.Rest.{Rest}
use Rattle.tt_terminal.specs.KindNumbers.{kind_number}
use Rattle.tt_terminal.specs.Reading.{IsPlaced, IsName, IsQuoted, Passes, Fails, seen_as, first_kind}
use Rattle.tt_phrase.specs.Factors.{simple_with, nested, last_minus, IsDate, IsNoDate, IsNoSimple}
use Rattle.tt_terminal.proofs.Steps.{passes_token, passes_note, passes_noted, passes_both, passes_left, passes_right, passes_as, passes_at, passes_way, passes_ways, stops_right, marks_are, word_kind_is, placed_kind_is, takes_kind, is_of_one, same_behind}
use Rattle.tt_terminal.proofs.Quotes.{passes_quoted}

pub plain_is : (k : ℕ) → is_of NAME is_name k ≡ true → (k == DATE) ≡ false → is_of NAME (but (or_date nowhere)) k ≡ true
plain_is k e d = grind (arith, nat_tests)

pub no_plain : (k : ℕ) → is_of NAME is_name k ≡ false → is_of NAME (but (or_date nowhere)) k ≡ false
no_plain k e = grind (arith, nat_tests)

pub no_date : (k : ℕ) → is_of NAME is_name k ≡ false → (k == DATE) ≡ false
no_date k e = grind (arith, nat_tests)

pub passes_null : {r : Rest} {place : ℕ} {s : Rest} → IsPlaced NULL r place s → (tail : Gram) → Passes [] (simple_with tail) r (At place ∷ Way 0 ∷ Way 0 ∷ []) s
passes_null p tail = passes_left (placed_kind_is p) refl refl (passes_both (passes_at p) (passes_ways 0 0 p.word.takes.known))

pub passes_text : {r : Rest} {q : Quoted} {s : Rest} → (first_kind r == NULL) ≡ false → IsQuoted r q s → (tail : Gram) → Passes [] (simple_with tail) r (quoted_marks q ++ Way 2 ∷ Way 0 ∷ []) s
passes_text n is tail = passes_right (rw n refl) refl (passes_left (takes_kind is.takes) (rw is.kind refl) refl (passes_both (passes_quoted is) (passes_ways 2 0 is.takes.known)))

pub passes_day : {r : Rest} {l : Literal} {s : Rest} → (first_kind r == NULL) ≡ false → is_of OTHER_TEXT is_quoted (first_kind r) ≡ false → (is : IsDate r l s) → (tail : Gram) → Passes [] (simple_with tail) r (Said (day_text is.day) is.place ∷ Way 3 ∷ Way 0 ∷ []) s
passes_day n q is tail = passes_right (rw n refl) refl (passes_right (rw q refl) refl (passes_left (placed_kind_is is.word) refl refl
    (passes_token is.word.word.takes (is_of_one is.word.word.kind) (marks_are (ap (λ (x : ℕ). Said (day_text is.day) x ∷ Way 3 ∷ Way 0 ∷ []) (sym is.word.place_is))
    (passes_left (word_kind_is is.day_is.word) refl refl (passes_token is.day_is.word.takes (is_of_one is.day_is.word.kind)
    (passes_note (λ done. ap (λ (x : List ℕ). Said x is.word.word.first.token.start ∷ []) is.day_is.text_is) (passes_ways 3 0 is.day_is.word.takes.known))))))))

pub passes_column : {r : Rest} {n : Name} {s : Rest} → (first_kind r == NULL) ≡ false → is_of OTHER_TEXT is_quoted (first_kind r) ≡ false → IsNoDate r → IsName r n s → (tail : Gram) → Passes [] (simple_with tail) r (name_marks n ++ Way 1 ∷ []) s
passes_column {r = r} {n = name} n q (inl d) is tail =
    let k : first_kind r ≡ kind_number is.first.kind = takes_kind is.takes in
    let plain : is_of NAME (but (or_date nowhere)) (kind_number is.first.kind) ≡ true = plain_is (kind_number is.first.kind) is.kind (ap (λ (x : ℕ). x == DATE) (sym k) ∙ d) in
    passes_right (rw n refl) refl (passes_right (rw q refl) refl (passes_right (rw d refl) refl (passes_left k (rw plain refl) refl
    (passes_as {m = name_marks name} (passes_token is.takes plain (marks_are (rw (is.text_is, is.place_is) refl) (passes_noted {n = Said (seen_as r.text.now is.first).text is.first.token.start ∷ []} is.takes.known (λ done. refl))))))))
passes_column {r = r} n q (inr d) is tail =
    passes_right (rw n refl) refl (passes_right (rw q refl) refl (passes_left (word_kind_is d.1) refl refl
    (passes_token is.takes (is_of_one (sym (takes_kind is.takes) ∙ word_kind_is d.1))
    (passes_right (rw (sym (same_behind d.1.takes is.takes)) (rw d.2 refl)) refl
    (marks_are (rw (is.text_is, is.place_is) refl) (passes_note (λ done. refl) (passes_way is.takes.known)))))))

-- ---- the whole part

module _ {r : Rest} where
  pub other_simple : {m : List Mark} {s : Rest} (d : ℕ) → ((tail : Gram) → Passes [] (simple_with tail) r m s) → Passes [] (read_other nowhere d) r m s
  unfolding read_other
  other_simple zero p = p last_minus
  other_simple (suc d) p = p (nested d)

  tail_passes : {tail : Gram} {m : List Mark} {s : Rest} → IsNoSimple r → Passes [] tail r m s → Passes [] (simple_with tail) r m s
  tail_passes is p =
      let n = no_plain (first_kind r) is.name in
      let d = no_date (first_kind r) is.name in
      passes_right (rw is.null refl) refl (passes_right (rw is.quoted_text refl) refl (passes_right (rw d refl) refl (passes_right (rw n refl) refl p)))

  tail_stops : {tail : Gram} {at : ℕ} → IsNoSimple r → Fails [] tail r at → Fails [] (simple_with tail) r at
  tail_stops is p =
      let n = no_plain (first_kind r) is.name in
      let d = no_date (first_kind r) is.name in
      stops_right (rw is.null refl) refl (stops_right (rw is.quoted_text refl) refl (stops_right (rw d refl) refl (stops_right (rw n refl) refl p)))

  pub other_last : {m : List Mark} {s : Rest} → IsNoSimple r → Passes [] last_minus r m s → Passes [] (read_other nowhere 0) r m s
  unfolding read_other
  other_last is p = tail_passes is p

  pub stops_last : {at : ℕ} → IsNoSimple r → Fails [] last_minus r at → Fails [] (read_other nowhere 0) r at
  unfolding read_other
  stops_last is p = tail_stops is p

  pub other_nested : {m : List Mark} {s : Rest} {d : ℕ} → IsNoSimple r → Passes [] (nested d) r m s → Passes [] (read_other nowhere (suc d)) r m s
  unfolding read_other
  other_nested is p = tail_passes is p

  pub stops_nested : {at : ℕ} {d : ℕ} → IsNoSimple r → Fails [] (nested d) r at → Fails [] (read_other nowhere (suc d)) r at
  unfolding read_other
  stops_nested is p = tail_stops is p
