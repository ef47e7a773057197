-- The parts of a predicate as they are read.
use Rattle.std.specs.Prelude.{◌≡◌, ℕ, true, false, Option, MatchOption, List, [], ◌∷◌, ◌++◌, Result, Ok, Err}
use Rattle.tt_value.specs.declared.name.Literal.{Literal}
use Rattle.tt_value.specs.declared.predicate.Unit.{Unit as Test}
use Rattle.tt_sql.specs.grammar.Grammar.{Mark, Way, Gram, Many, Again, Predicate, Unit}
use Rattle.tt_sql.specs.grammar.Combinators.{◌▸◌, ◌∣◌, name, one, quoted, way}
use Rattle.tt_sql.specs.marks.Expressions.{literal_marks, unit_marks}
use Rattle.tt_sql.specs.machine.Factored.{read_conj, read_simple, read_unit}
use Rattle.tt_sql.specs.grammar.TokenKinds.{AND, BETWEEN, CLOSE, COMMA, NOT, OPEN, OR, STARTSWITH}
use Rattle.tt_sql.specs.grammar.Written.{literal}
use Rattle.tt_terminal.specs.declared.error.ParseError.{ParseError}
use Rattle.tt_terminal.specs.declared.rest.Rest.{Rest}
use Rattle.tt_terminal.specs.Reading.{Passes, Errs, Offers, first_kind}
use Rattle.tt_terminal.specs.Fronts.{begins}

-- What a reader says that was given the front of a tree, with these marks: what it reads are the marks behind them.
abbrev pub Completes : {T : Type 0} → (T → List Mark) → (T → Rest) → List Mark → Gram → Rest → Result T ParseError → Type 0
Completes marks rest front g r (Ok x) = (m : List Mark) × (marks x ≡ front ++ m) × Passes [] g r m (rest x)
Completes marks rest front g r (Err e) = Errs [] g r e

-- the same of a unit, with what is left behind it
abbrev pub CompletesUnit : List Mark → Gram → Rest → Result (Test × Rest) ParseError → Type 0
CompletesUnit front g r result = Completes (λ (x : Test × Rest). unit_marks x.0) (λ (x : Test × Rest). x.1) front g r result

-- a part that may be left out lies between, with the marks of what was read, or does not begin here
abbrev pub OffersOrNone : {T : Type 0} → Gram → (T → List Mark) → Rest → Option (T × Rest) → Type 0
OffersOrNone g marks r found = MatchOption found (begins true g (first_kind r) ≡ false) (λ x. Offers g r (marks x.0) x.1)

-- further conjunctions, and further units
abbrev pub more_conjunctions : ℕ → Gram
more_conjunctions levels = Many (one OR ▸ read_conj levels)

abbrev pub more_units : ℕ → Gram
more_units levels = Many (one AND ▸ read_unit levels)

-- STARTSWITH and its bracket, and what stands behind them
abbrev pub starts_with_kinds : List ℕ
starts_with_kinds = STARTSWITH ∷ OPEN ∷ []

abbrev pub starts_with_end : Gram
starts_with_end = name ▸ one COMMA ▸ quoted ▸ one CLOSE ▸ way 6

-- a unit, where so many levels are left behind NOT and in brackets
abbrev pub deeper_unit : ℕ → Gram
deeper_unit levels = one NOT ▸ way 7 ▸ Again Unit levels ∣ one OPEN ▸ way 8 ▸ Again Predicate levels ▸ one CLOSE ∣ read_simple

-- BETWEEN with its bounds
abbrev pub bounds : Gram
bounds = one BETWEEN ▸ literal ▸ one AND ▸ literal ▸ way 5

abbrev pub bounds_marks : Literal × Literal → List Mark
bounds_marks b = literal_marks b.0 ++ (literal_marks b.1 ++ Way 5 ∷ [])
