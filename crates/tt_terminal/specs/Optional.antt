-- What lies between if it stands here, or that it does not.
use Rattle.std.specs.Prelude.{◌≡◌, ℕ, ℤ, true, false, ◌||◌, ◌==◌, [], Option, MatchOption}
use Rattle.tt_value.specs.declared.name.Name.{Name}
use Rattle.tt_value.specs.declared.name.Number.{Number}
use Rattle.tt_value.specs.declared.name.Quoted.{Quoted}
use Rattle.tt_sql.specs.grammar.Grammar.{Gram, Tok, is_of}
use Rattle.tt_sql.specs.grammar.TokenKinds.{kind_count, NAME, SHORT_NUMBER, OTHER_TEXT, DATE_TEXT, is_name, is_quoted, is_number, is_negative}
use Rattle.tt_terminal.specs.declared.rest.Lexed.{Lexed}
use Rattle.tt_terminal.specs.declared.rest.Rest.{Rest}
use Rattle.tt_terminal.specs.Reading.{Passes, Takes, IsWord, IsPlaced, IsName, IsNumber, IsNegative, IsQuoted, IsDayText, first_kind}

-- ---- one token

-- any token, or the end
abbrev pub TakesOrEnds : Rest → Option (Lexed × Rest) → Type 0
TakesOrEnds r found = MatchOption found (first_kind r ≡ kind_count) (λ x. Takes r x.0 x.1)

abbrev pub IsWordOrNone : ℕ → Rest → Option Rest → Type 0
IsWordOrNone k r found = MatchOption found ((first_kind r == k) ≡ false) (λ rest. IsWord k r rest)

abbrev pub IsPlacedOrNone : ℕ → Rest → Option (ℕ × Rest) → Type 0
IsPlacedOrNone k r found = MatchOption found ((first_kind r == k) ≡ false) (λ x. IsPlaced k r x.0 x.1)

abbrev pub IsNameOrNone : Rest → Option (Name × Rest) → Type 0
IsNameOrNone r found = MatchOption found (is_of NAME is_name (first_kind r) ≡ false) (λ x. IsName r x.0 x.1)

abbrev pub IsNumberOrNone : Rest → Option (Number × Rest) → Type 0
IsNumberOrNone r found = MatchOption found (is_of SHORT_NUMBER is_number (first_kind r) ≡ false) (λ x. IsNumber r x.0 x.1)

-- a number that a minus stands in front of
abbrev pub IsNegativeOrNone : Rest → Option (ℤ × Rest) → Type 0
IsNegativeOrNone r found = MatchOption found (is_of SHORT_NUMBER is_negative (first_kind r) ≡ false) (λ x. IsNegative r x.0 x.1)

abbrev pub IsQuotedOrNone : Rest → Option (Quoted × Rest) → Type 0
IsQuotedOrNone r found = MatchOption found (is_of OTHER_TEXT is_quoted (first_kind r) ≡ false) (λ x. IsQuoted r x.0 x.1)

abbrev pub IsDayTextOrNone : Rest → Option (ℤ × Rest) → Type 0
IsDayTextOrNone r found = MatchOption found ((first_kind r == DATE_TEXT) ≡ false) (λ x. IsDayText r x.0 x.1)

-- ---- one of several words

-- one of two, and one of three
abbrev pub either_token : ℕ → ℕ → Gram
either_token a b = Tok a (λ k. k == b)

abbrev pub any_token : ℕ → ℕ → ℕ → Gram
any_token a b d = Tok a (λ k. k == b || k == d)

abbrev pub IsEither : ℕ → ℕ → Rest → Rest → Type 0
IsEither a b r s = (is_of a (λ k. k == b) (first_kind r) ≡ true) × Passes [] (either_token a b) r [] s

abbrev pub IsEitherOrNone : ℕ → ℕ → Rest → Option Rest → Type 0
IsEitherOrNone a b r found = MatchOption found (is_of a (λ k. k == b) (first_kind r) ≡ false) (λ s. IsEither a b r s)

abbrev pub IsAny : ℕ → ℕ → ℕ → Rest → Rest → Type 0
IsAny a b d r s = (is_of a (λ k. k == b || k == d) (first_kind r) ≡ true) × Passes [] (any_token a b d) r [] s

abbrev pub IsAnyOrNone : ℕ → ℕ → ℕ → Rest → Option Rest → Type 0
IsAnyOrNone a b d r found = MatchOption found (is_of a (λ k. k == b || k == d) (first_kind r) ≡ false) (λ s. IsAny a b d r s)
