-- How a reader ends: with the answer of its last part, or with a fault of one of its parts.
use Rattle.std.proofs.Common.{◌≡◌, ℕ, true, false, List, [], ◌++◌, Result, Ok, Err, sym, ap, ◌∙◌, subst, append-nil, append_assoc}
use Rattle.std.specs.Result.{IsErrAnd}
use Rattle.tt_sql.specs.grammar.Grammar.{Lexeme, Mark, Gram, Both, Either}
use Rattle.tt_sql.specs.grammar.TokenKinds.{kind_count}
use Rattle.tt_sql.specs.grammar.Combinators.{one}
use Rattle.tt_terminal.specs.declared.error.ParseError.{ParseError}
use Rattle.tt_terminal.specs.declared.error.ParseError.TheVariants.{Syntax, Memory}
use Rattle.tt_terminal.specs.declared.rest.Rest.{Rest}
use Rattle.tt_terminal.specs.Reading.{Passes, Fails, Errs, ReadsBehind, IsWord, first_kind}
use Rattle.tt_terminal.specs.Fronts.{begins, solid}
use Rattle.tt_terminal.proofs.Steps.{marks_are, passes_both, passes_left, passes_right, passes_word, stops_second, stops_left, stops_right, stops_word}

-- a fault of a part is one of the whole
pub within : {before : List Lexeme} {g : Gram} {r : Rest} {front : List Lexeme} {h : Gram} {s : Rest} → ((at : ℕ) → Fails before g r at → Fails front h s at) → (e : ParseError) → Errs before g r e → Errs front h s e
within f (Syntax s) a = f s.place a
within f Memory a = tt

-- an exit by `?`
pub exits : {T : Type 0} (marks : T → List Mark) (rest : T → Rest) (before : List Lexeme) (g : Gram) (r : Rest) (e : ParseError) (result : Result T ParseError) → IsErrAnd result (λ y. y ≡ e) → Errs before g r e → ReadsBehind before marks rest g r result
exits marks rest before g r e (Ok x) h f = absurd h
exits marks rest before g r e (Err y) h f = subst (λ z. Errs before g r z) (sym h) f

-- the answer of a last part
pub gives : {T : Type 0} (marks : T → List Mark) (rest : T → Rest) (before : List Lexeme) (g h : Gram) (r s : Rest) (m : List Mark) (all : T → List Mark) (result : Result T ParseError) → ((x : T) → m ++ marks x ≡ all x) → Passes before g r m s → ReadsBehind [] marks rest h s result → ReadsBehind before all rest (Both g h) r result
gives marks rest before g h r s m all (Ok x) same p a = subst (λ z. Passes before (Both g h) r z (rest x)) (same x) (passes_both p a)
gives marks rest before g h r s m all (Err (Syntax y)) same p a = stops_second p a
gives marks rest before g h r s m all (Err Memory) same p a = tt

-- the answer of one of two alternatives
pub turns_left : {T : Type 0} (marks : T → List Mark) (rest : T → Rest) (before : List Lexeme) (k : ℕ) (g h : Gram) (r : Rest) (result : Result T ParseError) → first_kind r ≡ k → begins false g k ≡ true → begins false g kind_count ≡ false → ReadsBehind before marks rest g r result → ReadsBehind before marks rest (Either g h) r result
turns_left marks rest before k g h r (Ok x) i e n a = passes_left i e n a
turns_left marks rest before k g h r (Err (Syntax s)) i e n a = stops_left i e n a
turns_left marks rest before k g h r (Err Memory) i e n a = tt

pub turns_right : {T : Type 0} (marks : T → List Mark) (rest : T → Rest) (before : List Lexeme) (g h : Gram) (r : Rest) (result : Result T ParseError) → begins true g (first_kind r) ≡ false → solid g ≡ true → ReadsBehind before marks rest h r result → ReadsBehind before marks rest (Either g h) r result
turns_right marks rest before g h r (Ok x) e n a = passes_right e n a
turns_right marks rest before g h r (Err (Syntax s)) e n a = stops_right e n a
turns_right marks rest before g h r (Err Memory) e n a = tt

-- the answer of what stands behind a word
pub goes_on : {T : Type 0} (marks : T → List Mark) (rest : T → Rest) (before : List Lexeme) (k : ℕ) (g : Gram) (r s : Rest) (result : Result T ParseError) → IsWord k r s → ReadsBehind [] marks rest g s result → ReadsBehind before marks rest (Both (one k) g) r result
goes_on marks rest before k g r s (Ok x) w a = passes_word w a
goes_on marks rest before k g r s (Err (Syntax y)) w a = stops_word w a
goes_on marks rest before k g r s (Err Memory) w a = tt

-- a part, and one behind it that notes nothing
pub passes_then : {before : List Lexeme} {g h : Gram} {r : Rest} {m : List Mark} {s t : Rest} → Passes before g r m s → Passes [] h s [] t → Passes before (Both g h) r m t
passes_then {before = before} {g = g} {h = h} {r = r} {m = m} {s = s} {t = t} p q = marks_are (sym (append-nil m)) (passes_both p q)

-- marks that are joined in another order
pub regroup : (a b c d : List Mark) → (a ++ (b ++ c)) ++ d ≡ a ++ (b ++ (c ++ d))
regroup a b c d = append_assoc a (b ++ c) d ∙ ap (λ (x : List Mark). a ++ x) (append_assoc b c d)
