-- The machine is exact for the grammar of statements as it is written.
use Rattle.std.proofs.Common.{◌≡◌, ℕ, suc, ◌+◌, ◌<◌, ◌≤◌, Bool, true, false, nat_lt, nat_le, if◌then◌else◌, ◌⊎◌, inl, inr, List, [], ◌∷◌, ◌++◌, length, Result, Ok, Err, bytes_eq, refl, sym, ap, ◌∙◌, arith, ltb-true}
use Rattle.tt_lex.specs.declared.Token.{Token}
use Rattle.tt_lex.specs.declared.TokenKind.{TokenKind}
use Rattle.tt_lex.specs.declared.TokenKind.TheVariants as kinds
use Rattle.tt_lex.specs.Lexis.{text_of}
use Rattle.tt_sql.specs.grammar.Grammar.{Lexeme, Mark, Spells, last_place, Viable, Stops, nowhere}
use Rattle.tt_sql.specs.grammar.Statements.{IsStatement, HasFaultAt}
use Rattle.tt_sql.specs.machine.Reading.{read_run}
use Rattle.tt_sql.specs.grammar.Lexemes.{AreKinds}
use Rattle.tt_sql.proofs.machine.Decisions.{firsts, tests}
use Rattle.tt_sql.proofs.grammar.Carries.{nothing_same}
use Rattle.tt_sql.proofs.grammar.Statements.{statement_there, statement_back}
use Rattle.tt_sql.proofs.machine.Sound.{run_ok}
use Rattle.tt_sql.proofs.machine.Complete.{Fits}
use Rattle.tt_sql.proofs.machine.Runs.{Ready, run_only, run_err}
use Rattle.tt_sql.proofs.grammar.Faults.{one_fault, no_fault}
use Rattle.tt_sql.proofs.machine.Table.{table, statement_fits, statement_ready}
use Rattle.tt_sql.specs.grammar.TokenKinds.{kind_count, place_in, word_kind, number_kind, text_kind, sign_kind, reserved_words, other_words, unquoted, upper, lexeme, lexemes, NAME, LONG_NAME, OPEN, UNEQUAL, SHORT_NUMBER, NUMBER, LEAST_NUMBER, LARGE_NUMBER, DATE_TEXT, TIME_TEXT, UNIT_TEXT, NAME_TEXT, OTHER_TEXT, signs}
use Rattle.tt_sql.specs.grammar.Written.{statement, written_rule}
use Rattle.tt_sql.specs.machine.Factored.{read_rule, read_statement}

-- ---- statements

there : (lifted : Bool) (levels : ℕ) (m : List Mark) (ts : List Lexeme) → Spells written_rule lifted [] (statement levels ∷ []) m ts → Spells read_rule lifted [] (read_statement levels ∷ []) m ts
there lifted levels m ts d = statement_there lifted levels (suc (length ts)) [] [] (nothing_same written_rule read_rule lifted (suc (length ts))) [] m ts (omega arith) d

back : (lifted : Bool) (levels : ℕ) (m : List Mark) (ts : List Lexeme) → Spells read_rule lifted [] (read_statement levels ∷ []) m ts → Spells written_rule lifted [] (statement levels ∷ []) m ts
back lifted levels m ts d = statement_back lifted levels (suc (length ts)) [] [] (nothing_same read_rule written_rule lifted (suc (length ts))) [] m ts (omega arith) d

stack_fits : (levels : ℕ) → Fits tests (read_statement levels ∷ [])
unfolding firsts
stack_fits levels = (nowhere, statement_fits levels, (λ k less e. e), tt)

stack_ready : (levels : ℕ) → Ready (read_statement levels ∷ [])
stack_ready levels = ((statement_ready levels).0, (statement_ready levels).1, tt)

-- what the machine reads is a statement
pub statement_ok : (levels end : ℕ) (ts : List Lexeme) (m : List Mark) → read_run levels end ts ≡ Ok m → IsStatement levels m ts
statement_ok levels end ts m e = back false levels m ts (run_ok read_rule end [] (read_statement levels ∷ []) ts m e)

-- each statement is read
pub statement_only : (levels end : ℕ) (ts : List Lexeme) (m : List Mark) → AreKinds kind_count ts → IsStatement levels m ts → read_run levels end ts ≡ Ok m
statement_only levels end ts m known d = run_only tests read_rule table end [] (read_statement levels ∷ []) ts m (stack_fits levels) known (there false levels m ts d)

marks_of : Result (List Mark) ℕ → List Mark
marks_of (Ok m) = m
marks_of (Err at) = []

same_ok : (m n : List Mark) (r : Result (List Mark) ℕ) → r ≡ Ok m → r ≡ Ok n → m ≡ n
unfolding marks_of
same_ok m n r p q = sym (ap marks_of p) ∙ ap marks_of q

-- its derivation is the only one
pub one_statement : (levels : ℕ) (ts : List Lexeme) (m n : List Mark) → AreKinds kind_count ts → IsStatement levels m ts → IsStatement levels n ts → m ≡ n
one_statement levels ts m n known d e = same_ok m n (read_run levels 0 ts) (statement_only levels 0 ts m known d) (statement_only levels 0 ts n known e)

viable_back : (lifted : Bool) (levels : ℕ) (ts : List Lexeme) → Viable read_rule lifted [] (read_statement levels ∷ []) ts → Viable written_rule lifted [] (statement levels ∷ []) ts
viable_back lifted levels ts v = (v.0, v.1, back lifted levels v.1 (ts ++ v.0) v.2)

viable_there : (lifted : Bool) (levels : ℕ) (ts : List Lexeme) → Viable written_rule lifted [] (statement levels ∷ []) ts → Viable read_rule lifted [] (read_statement levels ∷ []) ts
viable_there lifted levels ts v = (v.0, v.1, there lifted levels v.1 (ts ++ v.0) v.2)

stops_back : (levels end : ℕ) (front rest : List Lexeme) (at : ℕ) → Stops read_rule [] (read_statement levels ∷ []) end front rest at → Stops written_rule [] (statement levels ∷ []) end front rest at
stops_back levels end front [] at s = (s.0, λ m d. s.1 m (there false levels m front d))
stops_back levels end front (t ∷ rest) at s = ((λ v. s.0 (viable_there false levels (front ++ t ∷ []) v)), places s.1)
  where
    places : (((at ≡ t.place) × (Viable read_rule true [] (read_statement levels ∷ []) (front ++ t ∷ []) → ⊥)) ⊎ ((at ≡ last_place [] front) × Viable read_rule true [] (read_statement levels ∷ []) (front ++ t ∷ [])))
        → (((at ≡ t.place) × (Viable written_rule true [] (statement levels ∷ []) (front ++ t ∷ []) → ⊥)) ⊎ ((at ≡ last_place [] front) × Viable written_rule true [] (statement levels ∷ []) (front ++ t ∷ [])))
    places (inl p) = inl (p.0, λ v. p.1 (viable_there true levels (front ++ t ∷ []) v))
    places (inr p) = inr (p.0, viable_back true levels (front ++ t ∷ []) p.1)

-- the place at which the machine stops is that of the fault
pub statement_err : (levels end : ℕ) (ts : List Lexeme) (at : ℕ) → AreKinds kind_count ts → read_run levels end ts ≡ Err at → HasFaultAt levels end ts at
statement_err levels end ts at known e =
    let f = run_err tests read_rule table end [] (read_statement levels ∷ []) ts at (stack_fits levels) (stack_ready levels) known e in
    record { front = f.front; rest = f.rest; whole = f.whole; goes_on = viable_back false levels f.front f.goes_on; stops = stops_back levels end f.front f.rest at f.stops }

-- and each fault is found
pub statement_err_only : (levels end : ℕ) (ts : List Lexeme) (at : ℕ) → AreKinds kind_count ts → HasFaultAt levels end ts at → read_run levels end ts ≡ Err at
statement_err_only levels end ts at known f = found (read_run levels end ts) refl
  where
    found : (r : Result (List Mark) ℕ) → read_run levels end ts ≡ r → read_run levels end ts ≡ Err at
    found (Ok m) e = absurd (no_fault written_rule [] (statement levels ∷ []) end ts at m f (statement_ok levels end ts m e))
    found (Err x) e = e ∙ ap (λ (y : ℕ). Err y) (one_fault written_rule [] (statement levels ∷ []) end ts x at (statement_err levels end ts x known e) f)

-- ---- the tokens of a text

places_within : (words : List (List ℕ)) (word : List ℕ) → place_in words word ≤ length words
places_within [] word = omega arith
places_within (first ∷ words) word = one_more (bytes_eq first word) (places_within words word)
  where
    one_more : (b : Bool) → place_in words word ≤ length words → (if b then 0 else 1 + place_in words word) ≤ suc (length words)
    one_more true less = omega arith
    one_more false less = omega arith

word_known : (word : List ℕ) → word_kind word < kind_count
unfolding word_kind
word_known word = in_words (nat_lt (place_in (reserved_words ++ other_words) word) NAME) refl (nat_le (length word) 64)
  where
    in_words : (b : Bool) → nat_lt (place_in (reserved_words ++ other_words) word) NAME ≡ b → (c : Bool) → (if b then place_in (reserved_words ++ other_words) word else (if c then NAME else LONG_NAME)) < kind_count
    in_words true e c = let less : place_in (reserved_words ++ other_words) word < NAME = ltb-true (place_in (reserved_words ++ other_words) word) NAME e in omega arith
    in_words false e true = omega arith
    in_words false e false = omega arith

of_four : (a b c : Bool) (i j k l : ℕ) → i < kind_count → j < kind_count → k < kind_count → l < kind_count → (if a then i else (if b then j else (if c then k else l))) < kind_count
of_four true b c i j k l p q r s = p
of_four false true c i j k l p q r s = q
of_four false false true i j k l p q r s = r
of_four false false false i j k l p q r s = s

of_two : (a : Bool) (i j : ℕ) → i < kind_count → j < kind_count → (if a then i else j) < kind_count
of_two true i j p q = p
of_two false i j p q = q

number_known : (digits : List ℕ) → number_kind digits < kind_count
unfolding number_kind
number_known digits = of_four _ _ _ SHORT_NUMBER NUMBER LEAST_NUMBER LARGE_NUMBER (omega arith) (omega arith) (omega arith) (omega arith)

text_known : (text : List ℕ) → text_kind text < kind_count
unfolding text_kind
text_known text = of_four _ _ _ DATE_TEXT TIME_TEXT UNIT_TEXT _ (omega arith) (omega arith) (omega arith) (of_two _ NAME_TEXT OTHER_TEXT (omega arith) (omega arith))

sign_known : (sign : List ℕ) → sign_kind sign < kind_count
unfolding sign_kind
sign_known sign = of_two _ UNEQUAL (OPEN + place_in signs sign) (omega arith) (omega (arith, places_within signs sign))

pub lexeme_known : (kind : TokenKind) (bytes : List ℕ) (place : ℕ) → (lexeme kind bytes place).kind < kind_count
lexeme_known kinds.Word bytes place = word_known (upper bytes)
lexeme_known kinds.Number bytes place = number_known bytes
lexeme_known kinds.Quoted bytes place = text_known (unquoted bytes)
lexeme_known kinds.Sign bytes place = sign_known bytes

-- the tokens of a text are of the kinds that there are
pub lexemes_known : (text : List ℕ) (tokens : List Token) → AreKinds kind_count (lexemes text tokens)
unfolding AreKinds
lexemes_known text [] = tt
lexemes_known text (t ∷ tokens) = (lexeme_known t.kind (text_of text t) t.start, lexemes_known text tokens)
