-- What else than a query may begin with SELECT.
use Rattle.std.specs.Prelude.{◌≡◌, ℕ, false, MatchOption, List, [], ◌∷◌, ◌++◌, Option, Some, None, Result, Ok, Err}
use Rattle.tt_value.specs.declared.name.TableName.{TableName}
use Rattle.tt_sql.specs.marks.Expressions.{table_marks}
use Rattle.tt_sql.specs.grammar.Grammar.{Mark, Way}
use Rattle.tt_sql.specs.machine.Factored.{read_select}
use Rattle.tt_sql.specs.grammar.Lexemes.{begins_with}
use Rattle.tt_sql.specs.grammar.TokenKinds.{DOT, FROM, INFORMATION_SCHEMA, OPEN, SELECT, STAR, SYSTEM_CLUSTERING_DEPTH}
use Rattle.tt_terminal.specs.declared.error.ParseError.{ParseError}
use Rattle.tt_terminal.specs.declared.rest.Rest.{Rest}
use Rattle.tt_terminal.specs.Reading.{Passes, Errs, IsWord, seen}

-- tokens of these kinds lie between
abbrev pub Follow : List ℕ → Rest → Rest → Type 0
Follow [] r s = r ≡ s
Follow (k ∷ kinds) r s = (t : Rest) × IsWord k r t × Follow kinds t s

-- or one of them does not stand here
abbrev pub FollowOrNone : List ℕ → Rest → Option Rest → Type 0
FollowOrNone kinds r found = MatchOption found (begins_with kinds (seen r) ≡ false) (λ s. Follow kinds r s)

-- the view of storage, up to its dot
abbrev pub view_kinds : List ℕ
view_kinds = SELECT ∷ STAR ∷ FROM ∷ INFORMATION_SCHEMA ∷ DOT ∷ []

-- the depth of a table, up to its bracket
abbrev pub depth_kinds : List ℕ
depth_kinds = SELECT ∷ SYSTEM_CLUSTERING_DEPTH ∷ OPEN ∷ []

abbrev pub view_marks : List Mark
view_marks = Way 17 ∷ []

abbrev pub depth_marks : TableName → List Mark
depth_marks table = table_marks table ++ Way 18 ∷ []

-- What the reader of a statement answers that begins with tokens of these kinds, which is none where they do not
-- stand there.
abbrev pub ReadsIf : {T : Type 0} → List ℕ → (T → List Mark) → (T → Rest) → Rest → Result (Option T) ParseError → Type 0
ReadsIf kinds marks rest r (Ok (Some x)) = (levels : ℕ) → Passes [] (read_select levels) r (marks x) (rest x)
ReadsIf kinds marks rest r (Ok None) = begins_with kinds (seen r) ≡ false
ReadsIf kinds marks rest r (Err e) = (levels : ℕ) → Errs [] (read_select levels) r e
