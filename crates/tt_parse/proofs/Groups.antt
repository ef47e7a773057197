-- How readers of some of the alternatives of a choice are put together.
use Rattle.std.proofs.Common.{◌≡◌, true, false, List, [], Option, Result, Ok, Err, sym, subst}
use Rattle.std.specs.Result.{IsErrAnd}
use Rattle.tt_sql.specs.grammar.Grammar.{Mark, Gram, Either}
use Rattle.tt_terminal.specs.declared.error.ParseError.{ParseError}
use Rattle.tt_terminal.specs.declared.rest.Rest.{Rest}
use Rattle.tt_terminal.specs.Fronts.{begins, solid}
use Rattle.tt_terminal.specs.Reading.{Errs, first_kind}
use Rattle.tt_parse.specs.Choices.{Skips, Chooses}
use Rattle.tt_terminal.proofs.Steps.{passes_right, stops_right}

-- none is left
pub skips_none : {r : Rest} → Skips (λ others. others) r
skips_none = record { goes = λ others m s p. p; halts = λ others at f. f }

-- the first one does not begin here
pub skips_first : {g : Gram} {part : Gram → Gram} {r : Rest} → begins true g (first_kind r) ≡ false → solid g ≡ true → Skips part r → Skips (λ others. Either g (part others)) r
skips_first e n p = record { goes = λ others m s a. passes_right e n (p.goes others m s a); halts = λ others at f. stops_right e n (p.halts others at f) }

-- an exit by `?`
pub chooses_exit : {T : Type 0} (marks : T → List Mark) (rest : T → Rest) (part : Gram → Gram) (r : Rest) (e : ParseError) (result : Result (Option T) ParseError) → IsErrAnd result (λ y. y ≡ e) → ((others : Gram) → Errs [] (part others) r e) → Chooses marks rest part r result
chooses_exit marks rest part r e (Ok x) h f = absurd h
chooses_exit marks rest part r e (Err y) h f = λ others. subst (λ z. Errs [] (part others) r z) (sym h) (f others)
