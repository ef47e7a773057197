-- The same steps for what is left of a text.
use Rattle.std.proofs.Common.{◌≡◌, ℕ, ◌<◌, Bool, true, false, ◌==◌, List, [], ◌∷◌, ◌++◌, length, map, All, Result, Ok, Err, refl, sym, ap, ◌∙◌, subst, arith, eq-eqb}
use Rattle.tt_sql.specs.grammar.Grammar.{Lexeme, Mark, Way, At, Rule, Gram, Tok, Deep, Note, Both, Either, Many, Again, is_of, nowhere}
use Rattle.tt_sql.specs.machine.Factored.{read_rule}
use Rattle.tt_sql.specs.grammar.TokenKinds.{kind_count}
use Rattle.tt_sql.specs.grammar.Combinators.{one, way, placed, as_place}
use Rattle.tt_sql.specs.marks.Expressions.{repeated}
use Rattle.tt_terminal.specs.declared.rest.Lexed.{Lexed}
use Rattle.tt_terminal.specs.declared.rest.Rest.{Rest}
use Rattle.tt_terminal.specs.declared.error.ParseError.{ParseError}
use Rattle.tt_terminal.specs.declared.error.ParseError.TheVariants.{Syntax, Memory}
use Rattle.tt_terminal.specs.KindNumbers.{kind_number}
use Rattle.tt_terminal.specs.Fronts.{begins, solid, front_kind, front_place}
use Rattle.std.proofs.lemmas.List.{map-append}
use Rattle.std.proofs.lemmas.List.Elements.{All-head}
use Rattle.tt_terminal.specs.Reading.{ReadsBehind, Errs, Collected, repeated_then, IsOf, Goes, Halts, Passes, Fails, Takes, IsWord, IsPlaced, IsKnown, seen, seen_as, first_kind, first_place}
use Rattle.tt_terminal.proofs.Tools.{goes_both, fails_first, fails_second, goes_left, fails_left, goes_right, fails_right, stuck_here, goes_token, behind_token, fails_behind, noted, behind_note, fails_note, on_more, on_done, on_fault, on_later, goes_again, fails_again, too_deep, deep_front, anywhere, anywhere_halts}

-- ---- the token that stands here

abbrev pub first_token : Rest → Lexed → Lexeme
first_token r first = seen_as r.text.now first

pub seen_takes : {r : Rest} {first : Lexed} {s : Rest} → Takes r first s → seen r ≡ first_token r first ∷ seen s
seen_takes {r = r} {first = first} {s = s} t = ap (map (seen_as r.text.now)) t.parts ∙ ap (λ (x : List ℕ). first_token r first ∷ map (seen_as x) s.tokens.now) (sym t.same)

pub takes_kind : {r : Rest} {first : Lexed} {s : Rest} → Takes r first s → first_kind r ≡ kind_number first.kind
takes_kind {r = r} {first = first} {s = s} t = ap front_kind (seen_takes t)

pub word_kind_is : {k : ℕ} {r s : Rest} → IsWord k r s → first_kind r ≡ k
word_kind_is {k = k} {r = r} {s = s} w = takes_kind w.takes ∙ w.kind

-- ---- one part behind another

pub passes_both : {before : List Lexeme} {g h : Gram} {r : Rest} {m : List Mark} {s : Rest} {n : List Mark} {u : Rest} → Passes before g r m s → Passes [] h s n u → Passes before (Both g h) r (m ++ n) u
passes_both {before = before} {g = g} {h = h} {r = r} {m = m} {s = s} {n = n} {u = u} a b = record {
  same = b.same ∙ a.same;
  known = b.known;
  shorter = omega arith;
  goes = goes_both (length r.text.now) before g h (seen r) m (seen s) n (seen u) a.goes (subst (λ x. Goes (length x) [] h (seen s) n (seen u)) a.same b.goes);
}

pub stops_first : {before : List Lexeme} {g h : Gram} {r : Rest} {at : ℕ} → Fails before g r at → Fails before (Both g h) r at
stops_first {before = before} {g = g} {h = h} {r = r} {at = at} a = record { halts = fails_first (length r.text.now) before g h (seen r) at a.halts }

pub stops_second : {before : List Lexeme} {g h : Gram} {r : Rest} {m : List Mark} {s : Rest} {at : ℕ} → Passes before g r m s → Fails [] h s at → Fails before (Both g h) r at
stops_second {before = before} {g = g} {h = h} {r = r} {m = m} {s = s} {at = at} a b = record { halts = fails_second (length r.text.now) before g h (seen r) m (seen s) at a.goes (subst (λ x. Halts (length x) [] h (seen s) at) a.same b.halts) }

-- ---- one of two

pub passes_left : {before : List Lexeme} {k : ℕ} {g h : Gram} {r : Rest} {m : List Mark} {s : Rest} → first_kind r ≡ k → begins false g k ≡ true → begins false g kind_count ≡ false → Passes before g r m s → Passes before (Either g h) r m s
passes_left {before = before} {k = k} {g = g} {h = h} {r = r} {m = m} {s = s} i e n a = record { same = a.same; known = a.known; shorter = a.shorter; goes = goes_left (length r.text.now) before g h (seen r) m (seen s) (ap (begins false g) i ∙ e) n a.goes }

pub stops_left : {before : List Lexeme} {k : ℕ} {g h : Gram} {r : Rest} {at : ℕ} → first_kind r ≡ k → begins false g k ≡ true → begins false g kind_count ≡ false → Fails before g r at → Fails before (Either g h) r at
stops_left {before = before} {k = k} {g = g} {h = h} {r = r} {at = at} i e n a = record { halts = fails_left (length r.text.now) before g h (seen r) at (ap (begins false g) i ∙ e) n a.halts }

pub passes_right : {before : List Lexeme} {g h : Gram} {r : Rest} {m : List Mark} {s : Rest} → begins true g (first_kind r) ≡ false → solid g ≡ true → Passes before h r m s → Passes before (Either g h) r m s
passes_right {before = before} {g = g} {h = h} {r = r} {m = m} {s = s} e n a = record { same = a.same; known = a.known; shorter = a.shorter; goes = goes_right (length r.text.now) before g h (seen r) m (seen s) e n a.goes }

pub stops_right : {before : List Lexeme} {g h : Gram} {r : Rest} {at : ℕ} → begins true g (first_kind r) ≡ false → solid g ≡ true → Fails before h r at → Fails before (Either g h) r at
stops_right {before = before} {g = g} {h = h} {r = r} {at = at} e n a = record { halts = fails_right (length r.text.now) before g h (seen r) at e n a.halts }

-- nothing goes on here
pub stops_here : {before : List Lexeme} {g : Gram} {r : Rest} → begins true g (first_kind r) ≡ false → solid g ≡ true → Fails before g r (first_place r)
stops_here {before = before} {g = g} {r = r} e n = record { halts = stuck_here (length r.text.now) before g (seen r) e n }

-- ---- tokens

-- a token, and what stands behind it and may look at it
pub passes_token : {before : List Lexeme} {k : ℕ} {more : ℕ → Bool} {g : Gram} {r : Rest} {first : Lexed} {s : Rest} {m : List Mark} {u : Rest} → Takes r first s → is_of k more (kind_number first.kind) ≡ true → Passes (first_token r first ∷ before) g s m u → Passes before (Both (Tok k more) g) r m u
passes_token {before = before} {k = k} {more = more} {g = g} {r = r} {first = first} {s = s} {m = m} {u = u} t e a = record {
  same = a.same ∙ t.same;
  known = a.known;
  shorter = let p : length r.tokens.now ≡ length (first ∷ s.tokens.now) = ap length t.parts in omega (arith, p);
  goes = subst (λ x. Goes (length r.text.now) before (Both (Tok k more) g) x m (seen u)) (sym (seen_takes t))
      (behind_token (length r.text.now) before k more g (first_token r first) (seen s) m (seen u) e (subst (λ x. Goes (length x) (first_token r first ∷ before) g (seen s) m (seen u)) t.same a.goes));
}

pub stops_token : {before : List Lexeme} {k : ℕ} {more : ℕ → Bool} {g : Gram} {r : Rest} {first : Lexed} {s : Rest} {at : ℕ} → Takes r first s → is_of k more (kind_number first.kind) ≡ true → Fails (first_token r first ∷ before) g s at → Fails before (Both (Tok k more) g) r at
stops_token {before = before} {k = k} {more = more} {g = g} {r = r} {first = first} {s = s} {at = at} t e a = record {
  halts = subst (λ x. Halts (length r.text.now) before (Both (Tok k more) g) x at) (sym (seen_takes t))
      (fails_behind (length r.text.now) before k more g (first_token r first) (seen s) at e (subst (λ x. Halts (length x) (first_token r first ∷ before) g (seen s) at) t.same a.halts));
}

pub passes_one : {before : List Lexeme} {k : ℕ} {more : ℕ → Bool} {r : Rest} {first : Lexed} {s : Rest} → Takes r first s → is_of k more (kind_number first.kind) ≡ true → Passes before (Tok k more) r [] s
passes_one {before = before} {k = k} {more = more} {r = r} {first = first} {s = s} t e = record {
  same = t.same;
  known = t.known;
  shorter = let p : length r.tokens.now ≡ length (first ∷ s.tokens.now) = ap length t.parts in omega (arith, p);
  goes = subst (λ x. Goes (length r.text.now) before (Tok k more) x [] (seen s)) (sym (seen_takes t)) (goes_token (length r.text.now) before k more (first_token r first) (seen s) e);
}

-- it does not matter what stands in front of what does not look at it
pub passes_anywhere : {before : List Lexeme} {g : Gram} {r : Rest} {m : List Mark} {s : Rest} → Passes [] g r m s → Passes before g r m s
passes_anywhere {before = before} {g = g} {r = r} {m = m} {s = s} a = record { same = a.same; known = a.known; shorter = a.shorter; goes = anywhere (length r.text.now) before g (seen r) m (seen s) a.goes }

pub stops_anywhere : {before : List Lexeme} {g : Gram} {r : Rest} {at : ℕ} → Fails [] g r at → Fails before g r at
stops_anywhere {before = before} {g = g} {r = r} {at = at} a = record { halts = anywhere_halts (length r.text.now) before g (seen r) at a.halts }

-- ---- fixed words and signs

pub is_of_one : {j k : ℕ} → j ≡ k → is_of k nowhere j ≡ true
is_of_one {j = j} {k = k} e = rw (eq-eqb j k e) refl

-- a word, and what stands behind it
pub passes_word : {before : List Lexeme} {k : ℕ} {g : Gram} {r s : Rest} {m : List Mark} {u : Rest} → IsWord k r s → Passes [] g s m u → Passes before (Both (one k) g) r m u
passes_word {before = before} {k = k} {g = g} {r = r} {s = s} {m = m} {u = u} w a = passes_token w.takes (is_of_one w.kind) (passes_anywhere a)

pub stops_word : {before : List Lexeme} {k : ℕ} {g : Gram} {r s : Rest} {at : ℕ} → IsWord k r s → Fails [] g s at → Fails before (Both (one k) g) r at
stops_word {before = before} {k = k} {g = g} {r = r} {s = s} {at = at} w a = stops_token w.takes (is_of_one w.kind) (stops_anywhere a)

-- a word alone
pub passes_last_word : {before : List Lexeme} {k : ℕ} {r s : Rest} → IsWord k r s → Passes before (one k) r [] s
passes_last_word {before = before} {k = k} {r = r} {s = s} w = passes_one w.takes (is_of_one w.kind)

-- the word is wanting
pub no_word : {before : List Lexeme} {k : ℕ} {g : Gram} {r : Rest} → (first_kind r == k) ≡ false → Fails before (Both (one k) g) r (first_place r)
no_word {before = before} {k = k} {g = g} {r = r} e = stops_here (rw e refl) refl

pub no_last_word : {before : List Lexeme} {k : ℕ} {r : Rest} → (first_kind r == k) ≡ false → Fails before (one k) r (first_place r)
no_last_word {before = before} {k = k} {r = r} e = stops_here (rw e refl) refl

-- a word whose place is kept
pub passes_placed : {before : List Lexeme} {k : ℕ} {r s : Rest} (w : IsWord k r s) → Passes before (placed k) r (At w.first.token.start ∷ []) s
passes_placed {before = before} {k = k} {r = r} {s = s} w = passes_token w.takes (is_of_one w.kind) (record {
  same = refl;
  known = w.takes.known;
  shorter = omega arith;
  goes = noted (length s.text.now) (first_token r w.first ∷ before) as_place (seen s) (At w.first.token.start ∷ []) (λ done. refl);
})

-- ---- notes

pub passes_noted : {before : List Lexeme} {f : List Lexeme → List Mark} {r : Rest} {n : List Mark} → IsKnown r → ((done : List Lexeme) → f (before ++ done) ≡ n) → Passes before (Note f) r n r
passes_noted {before = before} {f = f} {r = r} {n = n} known e = record { same = refl; known = known; shorter = omega arith; goes = noted (length r.text.now) before f (seen r) n e }

-- a note on the tokens in front, and what stands behind it
pub passes_note : {before : List Lexeme} {f : List Lexeme → List Mark} {g : Gram} {r : Rest} {n m : List Mark} {s : Rest} → ((done : List Lexeme) → f (before ++ done) ≡ n) → Passes before g r m s → Passes before (Both (Note f) g) r (n ++ m) s
passes_note {before = before} {f = f} {g = g} {r = r} {n = n} {m = m} {s = s} e a = record { same = a.same; known = a.known; shorter = a.shorter; goes = behind_note (length r.text.now) before f g (seen r) n m (seen s) e a.goes }

pub stops_note : {before : List Lexeme} {f : List Lexeme → List Mark} {g : Gram} {r : Rest} {at : ℕ} → Fails before g r at → Fails before (Both (Note f) g) r at
stops_note {before = before} {f = f} {g = g} {r = r} {at = at} a = record { halts = fails_note (length r.text.now) before f g (seen r) at a.halts }

-- the number of an alternative, at its end
pub passes_way : {before : List Lexeme} {n : ℕ} {r : Rest} → IsKnown r → Passes before (way n) r (Way n ∷ []) r
passes_way {before = before} {n = n} {r = r} known = passes_noted known (λ done. refl)

-- a part and the number of its alternative
pub passes_as : {before : List Lexeme} {n : ℕ} {g : Gram} {r : Rest} {m : List Mark} {s : Rest} → Passes before g r m s → Passes before (Both g (way n)) r (m ++ Way n ∷ []) s
passes_as {before = before} {n = n} {g = g} {r = r} {m = m} {s = s} a = passes_both a (passes_way a.known)

-- ---- what is repeated

pub passes_more : {k : ℕ} {g : Gram} {r : Rest} {m : List Mark} {s : Rest} {n : List Mark} {u : Rest} → first_kind r ≡ k → begins false g k ≡ true → begins false g kind_count ≡ false → Passes [] g r m s → Passes [] (Many g) s n u → Passes [] (Many g) r (Way 1 ∷ (m ++ n)) u
passes_more {k = k} {g = g} {r = r} {m = m} {s = s} {n = n} {u = u} i e f a b = record {
  same = b.same ∙ a.same;
  known = b.known;
  shorter = omega arith;
  goes = on_more (length r.text.now) g (seen r) m (seen s) n (seen u) (ap (begins false g) i ∙ e) f a.goes (subst (λ x. Goes (length x) [] (Many g) (seen s) n (seen u)) a.same b.goes);
}

pub passes_enough : {g : Gram} {r : Rest} → IsKnown r → begins true g (first_kind r) ≡ false → Passes [] (Many g) r (Way 0 ∷ []) r
passes_enough {g = g} {r = r} known e = record { same = refl; known = known; shorter = omega arith; goes = on_done (length r.text.now) g (seen r) e }

pub stops_more : {k : ℕ} {g : Gram} {r : Rest} {at : ℕ} → first_kind r ≡ k → begins false g k ≡ true → begins false g kind_count ≡ false → Fails [] g r at → Fails [] (Many g) r at
stops_more {k = k} {g = g} {r = r} {at = at} i e f a = record { halts = on_fault (length r.text.now) g (seen r) at (ap (begins false g) i ∙ e) f a.halts }

pub stops_later : {k : ℕ} {g : Gram} {r : Rest} {m : List Mark} {s : Rest} {at : ℕ} → first_kind r ≡ k → begins false g k ≡ true → begins false g kind_count ≡ false → Passes [] g r m s → Fails [] (Many g) s at → Fails [] (Many g) r at
stops_later {k = k} {g = g} {r = r} {m = m} {s = s} {at = at} i e f a b = record { halts = on_later (length r.text.now) g (seen r) m (seen s) at (ap (begins false g) i ∙ e) f a.goes (subst (λ x. Halts (length x) [] (Many g) (seen s) at) a.same b.halts) }

-- ---- productions that contain themselves

pub passes_again : {before : List Lexeme} {q : Rule} {d : ℕ} {r : Rest} {m : List Mark} {s : Rest} → Passes before (read_rule q d) r m s → Passes before (Again q d) r m s
passes_again {before = before} {q = q} {d = d} {r = r} {m = m} {s = s} a = record { same = a.same; known = a.known; shorter = a.shorter; goes = goes_again (length r.text.now) before q d (seen r) m (seen s) a.goes }

pub stops_again : {before : List Lexeme} {q : Rule} {d : ℕ} {r : Rest} {at : ℕ} → Fails before (read_rule q d) r at → Fails before (Again q d) r at
stops_again {before = before} {q = q} {d = d} {r = r} {at = at} a = record { halts = fails_again (length r.text.now) before q d (seen r) at a.halts }

-- behind a token that opens a level too many
pub stops_deep : {t : Lexeme} {before : List Lexeme} {kinds : ℕ → Bool} {r : Rest} {first : Lexed} {s : Rest} → Takes r first s → kinds (kind_number first.kind) ≡ true → Fails (t ∷ before) (Deep kinds) r t.place
stops_deep {t = t} {before = before} {kinds = kinds} {r = r} {first = first} {s = s} takes e = record { halts = subst (λ x. Halts (length r.text.now) (t ∷ before) (Deep kinds) x t.place) (sym (seen_takes takes)) (too_deep (length r.text.now) t before kinds (first_token r first) (seen s) e) }

-- ---- names and numbers

-- what is known of the token that stands here
pub first_is_of : {r : Rest} {first : Lexed} {s : Rest} → IsKnown r → Takes r first s → IsOf r.text.now first
first_is_of {r = r} {first = first} {s = s} known t = All-head (IsOf r.text.now) first s.tokens.now (subst (All (IsOf r.text.now)) t.parts known.each)

-- the same marks in other words
pub marks_are : {before : List Lexeme} {g : Gram} {r : Rest} {m n : List Mark} {s : Rest} → m ≡ n → Passes before g r n s → Passes before g r m s
marks_are {before = before} {g = g} {r = r} {m = m} {n = n} {s = s} e p = subst (λ x. Passes before g r x s) (sym e) p

-- a word whose place is kept
pub passes_at : {before : List Lexeme} {k : ℕ} {r : Rest} {place : ℕ} {s : Rest} → IsPlaced k r place s → Passes before (placed k) r (At place ∷ []) s
passes_at p = marks_are (ap (λ (x : ℕ). At x ∷ []) (sym p.place_is)) (passes_placed p.word)

-- a word whose place is kept, and what stands behind it
pub passes_at_both : {before : List Lexeme} {k : ℕ} {g : Gram} {r : Rest} {place : ℕ} {s : Rest} {m : List Mark} {u : Rest} → IsPlaced k r place s → Passes [] g s m u → Passes before (Both (placed k) g) r (At place ∷ m) u
passes_at_both p a = passes_both (passes_at p) a

-- two notes of ways at the end
pub passes_ways : {before : List Lexeme} (n m : ℕ) {r : Rest} → IsKnown r → Passes before (Both (way n) (way m)) r (Way n ∷ Way m ∷ []) r
passes_ways {before = before} n m {r = r} known = passes_note (λ done. refl) (passes_way known)

pub placed_kind_is : {k : ℕ} {r : Rest} {place : ℕ} {s : Rest} → IsPlaced k r place s → first_kind r ≡ k
placed_kind_is p = word_kind_is p.word

-- ---- loops

pub collected_none : {g : Gram} {r : Rest} → IsKnown r → Collected g r [] r
collected_none {g = g} {r = r} known = record { known = known; goes = λ n u p. p; fails = λ at f. f }

then_one : (ms : List (List Mark)) (m n : List Mark) → repeated_then (ms ++ m ∷ []) n ≡ repeated_then ms (Way 1 ∷ (m ++ n))
then_one [] m n = refl
then_one (l ∷ ms) m n = ap (λ (x : List Mark). Way 1 ∷ (l ++ x)) (then_one ms m n)

then_none : (ms : List (List Mark)) → repeated_then ms (Way 0 ∷ []) ≡ repeated ms
then_none [] = refl
then_none (m ∷ ms) = ap (λ (x : List Mark). Way 1 ∷ (m ++ x)) (then_none ms)

pub collected_more : {g : Gram} {r : Rest} {ms : List (List Mark)} {s : Rest} {k : ℕ} {m : List Mark} {u : Rest} → Collected g r ms s → first_kind s ≡ k → begins false g k ≡ true → begins false g kind_count ≡ false → Passes [] g s m u → Collected g r (ms ++ m ∷ []) u
collected_more {g = g} {r = r} {ms = ms} {s = s} {k = k} {m = m} {u = u} c i e f p = record {
  known = p.known;
  goes = λ n v q. marks_are (then_one ms m n) (c.goes (Way 1 ∷ (m ++ n)) v (passes_more i e f p q));
  fails = λ at q. c.fails at (stops_later i e f p q);
}

pub collected_all : {g : Gram} {r : Rest} {ms : List (List Mark)} {s : Rest} → Collected g r ms s → begins true g (first_kind s) ≡ false → Passes [] (Many g) r (repeated ms) s
collected_all {g = g} {r = r} {ms = ms} {s = s} c e = marks_are (sym (then_none ms)) (c.goes (Way 0 ∷ []) s (passes_enough c.known e))

pub collected_fails : {g : Gram} {r : Rest} {ms : List (List Mark)} {s : Rest} {k : ℕ} {at : ℕ} → Collected g r ms s → first_kind s ≡ k → begins false g k ≡ true → begins false g kind_count ≡ false → Fails [] g s at → Fails [] (Many g) r at
collected_fails {at = at} c i e f q = c.fails at (stops_more i e f q)

-- what is read as one part is read as another
pub reads_as : {T : Type 0} (marks : T → List Mark) (rest : T → Rest) {g h : Gram} {r : Rest} (result : Result T ParseError) → ((m : List Mark) (s : Rest) → Passes [] g r m s → Passes [] h r m s) → ((at : ℕ) → Fails [] g r at → Fails [] h r at) → ReadsBehind [] marks rest g r result → ReadsBehind [] marks rest h r result
reads_as marks rest (Ok x) p q a = p (marks x) (rest x) a
reads_as marks rest (Err (Syntax s)) p q a = q s.place a
reads_as marks rest (Err Memory) p q a = tt

-- a fault of one part is a fault of another
pub error_as : {g h : Gram} {r s : Rest} (e : ParseError) → ((at : ℕ) → Fails [] g r at → Fails [] h s at) → Errs [] g r e → Errs [] h s e
error_as (Syntax x) q a = q x.place a
error_as Memory q a = tt

-- two tokens that lie between are one
pub same_behind : {r : Rest} {first : Lexed} {s : Rest} {other : Lexed} {u : Rest} → Takes r first s → Takes r other u → first_kind s ≡ first_kind u
same_behind a b = let e = sym (seen_takes a) ∙ seen_takes b in ap (λ x. front_kind (behind x)) e
  where
    behind : List Lexeme → List Lexeme
    behind [] = []
    behind (t ∷ ts) = ts

-- one more item of a loop
pub collected_push : {A : Type 0} (f : A → List Mark) (xs ys : List A) (x : A) {g : Gram} {r s : Rest} {k : ℕ} {u : Rest} → ys ≡ xs ++ x ∷ [] → Collected g r (map f xs) s → first_kind s ≡ k → begins false g k ≡ true → begins false g kind_count ≡ false → Passes [] g s (f x) u → Collected g r (map f ys) u
collected_push f xs ys x {g = g} {r = r} {s = s} {u = u} e c i b n p =
    subst (λ y. Collected g r (map f y) u) (sym e) (subst (λ y. Collected g r y u) (sym (map-append f xs (x ∷ []))) (collected_more c i b n p))

pub stops_deep_front : {t : Lexeme} {before : List Lexeme} {kinds : ℕ → Bool} {r : Rest} → kinds (first_kind r) ≡ true → kinds kind_count ≡ false → Fails (t ∷ before) (Deep kinds) r t.place
stops_deep_front {t = t} {before = before} {kinds = kinds} {r = r} e n = record { halts = deep_front (length r.text.now) t before kinds (seen r) e n }

pub word_shorter : {k : ℕ} {r s : Rest} → IsWord k r s → length s.tokens.now < length r.tokens.now
word_shorter {r = r} {s = s} w = let p : length r.tokens.now ≡ length (w.first ∷ s.tokens.now) = ap length w.takes.parts in omega (arith, p)

pub word_place : {k : ℕ} {r s : Rest} (w : IsWord k r s) → first_place r ≡ w.first.token.start
word_place {r = r} w = ap (front_place (length r.text.now)) (seen_takes w.takes)
