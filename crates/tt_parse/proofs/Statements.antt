-- From the parts of statements to whole texts.
use Rattle.std.proofs.Common.{◌≡◌, ℕ, List, [], ◌∷◌, length, map, Result, Ok, Err, refl, sym, ap, ◌∙◌, subst}
use Rattle.std.specs.Result.{IsErrAnd}
use Rattle.tt_sql.specs.declared.statement.Statement.{Statement}
use Rattle.tt_sql.specs.grammar.Grammar.{Lexeme, Mark, Gram}
use Rattle.tt_sql.specs.machine.Factored.{read_statement}
use Rattle.tt_sql.specs.machine.Reading.{read_run}
use Rattle.tt_terminal.specs.declared.error.ParseError.{ParseError}
use Rattle.tt_terminal.specs.declared.error.ParseError.TheVariants.{Syntax, Memory}
use Rattle.tt_terminal.specs.declared.rest.Lexed.{Lexed}
use Rattle.tt_terminal.specs.declared.rest.Rest.{Rest}
use Rattle.tt_terminal.specs.Fronts.{front_place}
use Rattle.tt_terminal.specs.Reading.{Passes, Errs, ReadsBehind, seen, seen_as, first_place}
use Rattle.tt_parse.specs.Choices.{Skips}
use Rattle.tt_parse.specs.Parsed.{Says}
use Rattle.tt_parse.proofs.Whole.{says_more, says_fault}

-- what the other alternatives say, where none of these begins
pub skips_to : {T : Type 0} (marks : T → List Mark) (rest : T → Rest) (part : Gram → Gram) (others : Gram) (r : Rest) (result : Result T ParseError) → Skips part r → ReadsBehind [] marks rest others r result → ReadsBehind [] marks rest (part others) r result
skips_to marks rest part others r (Ok x) s a = s.goes others (marks x) (rest x) a
skips_to marks rest part others r (Err (Syntax y)) s a = s.halts others y.place a
skips_to marks rest part others r (Err Memory) s a = tt

-- an exit by `?`
pub says_exit : (levels : ℕ) (r : Rest) (e : ParseError) (result : Result Statement ParseError) → IsErrAnd result (λ y. y ≡ e) → Errs [] (read_statement levels) r e → Says levels (length r.text.now) (seen r) result
says_exit levels r e (Ok x) h f = absurd h
says_exit levels r (Syntax s) (Err y) h f = subst (λ z. Says levels (length r.text.now) (seen r) (Err z)) (sym h) (says_fault f)
says_exit levels r Memory (Err y) h f = subst (λ z. Says levels (length r.text.now) (seen r) (Err z)) (sym h) tt

-- tokens stand behind the statement
pub says_behind : {levels : ℕ} {r : Rest} {m : List Mark} {s : Rest} → Passes [] (read_statement levels) r m s → (s.tokens.now ≡ [] → ⊥) → read_run levels (length r.text.now) (seen r) ≡ Err (first_place s)
says_behind {levels = levels} {r = r} {s = s} p some = of_tokens s.tokens.now refl
  where
    of_tokens : (ls : List Lexed) → s.tokens.now ≡ ls → read_run levels (length r.text.now) (seen r) ≡ Err (first_place s)
    of_tokens [] e = absurd (some e)
    of_tokens (l ∷ ls) e =
        let parts : seen s ≡ seen_as s.text.now l ∷ map (seen_as s.text.now) ls = ap (map (seen_as s.text.now)) e in
        says_more (seen_as s.text.now l) (map (seen_as s.text.now) ls) p parts ∙ ap (λ (ts : List Lexeme). Err (front_place (length s.text.now) ts)) (sym parts)
