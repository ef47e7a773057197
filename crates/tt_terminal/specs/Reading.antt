-- What a reader of the code has to do with the machine.
use Rattle.std.specs.Prelude.{◌≡◌, ℕ, ℤ, pos, neg_ℤ, ◌≤ℤ◌, ◌≤◌, ◌<◌, ◌^◌, true, false, List, [], ◌∷◌, ◌++◌, length, map, All, Result, Ok, Err}
use Rattle.tt_lex.specs.Lexis.{IsSpelled, text_of}
use Rattle.tt_lex.specs.declared.TokenKind.TheVariants.{Quoted}
use Rattle.std.specs.Str.{IsUtf8}
use Rattle.tt_value.specs.declared.name.Name.{Name}
use Rattle.tt_value.specs.declared.name.Number.{Number}
use Rattle.tt_value.specs.declared.name.Quoted.{Quoted as QuotedText}
use Rattle.tt_value.specs.calendar.Calendar.{day_text, IsDay}
use Rattle.tt_sql.specs.grammar.Grammar.{Lexeme, Mark, Way, Gram, Many, is_of}
use Rattle.tt_sql.specs.machine.Machine.{run, with_marks}
use Rattle.tt_sql.specs.grammar.TokenKinds.{lexeme_of, unquoted, NAME, SHORT_NUMBER, OTHER_TEXT, DATE_TEXT, is_name, is_quoted, is_number, is_negative}
use Rattle.tt_value.specs.calendar.Reading.{digits_value as number_of}
use Rattle.tt_sql.specs.machine.Factored.{read_rule}
use Rattle.tt_terminal.specs.declared.error.ParseError.{ParseError}
use Rattle.tt_terminal.specs.declared.error.ParseError.TheVariants.{Syntax, Memory}
use Rattle.tt_terminal.specs.declared.rest.Lexed.{Lexed}
use Rattle.tt_terminal.specs.declared.rest.Rest.{Rest}
use Rattle.tt_terminal.specs.KindNumbers.{kind_number}
use Rattle.tt_terminal.specs.Fronts.{begins, front_kind, front_place}

-- ---- tokens

-- a token as the grammar sees it
abbrev pub seen_as : List ℕ → Lexed → Lexeme
seen_as text l = record { kind = kind_number l.kind; place = l.token.start; text = (lexeme_of text l.token).text }

abbrev pub seen : Rest → List Lexeme
seen r = map (seen_as r.text.now) r.tokens.now

-- a token of the text, with its kind
pub record IsOf (text : List ℕ) (l : Lexed) : Type 0 where
  pub low : l.token.start < l.token.«end»
  pub high : l.token.«end» ≤ length text
  pub right : kind_number l.kind ≡ (lexeme_of text l.token).kind
  pub spelled : IsSpelled text l.token
  pub valid : l.token.kind ≡ Quoted → IsUtf8 (unquoted (text_of text l.token))

pub record IsKnown (r : Rest) : Type 0 where
  pub short : length r.text.now < 2 ^ 32
  pub each : All (IsOf r.text.now) r.tokens.now

-- the kind of the token that stands here, and its place, or where the text ends
abbrev pub first_kind : Rest → ℕ
first_kind r = front_kind (seen r)

abbrev pub first_place : Rest → ℕ
first_place r = front_place (length r.text.now) (seen r)

-- this token lies between
pub record Takes (r : Rest) (first : Lexed) (rest : Rest) : Type 0 where
  pub same : rest.text.now ≡ r.text.now
  pub parts : r.tokens.now ≡ first ∷ rest.tokens.now
  pub known : IsKnown rest

-- a token of this kind lies between
pub record IsWord (k : ℕ) (r rest : Rest) : Type 0 where
  pub first : Lexed
  pub takes : Takes r first rest
  pub kind : kind_number first.kind ≡ k

-- and it stands at this place
pub record IsPlaced (k : ℕ) (r : Rest) (place : ℕ) (rest : Rest) : Type 0 where
  pub word : IsWord k r rest
  pub place_is : word.first.token.start ≡ place

-- a name lies between, and this is what it says
pub record IsName (r : Rest) (name : Name) (rest : Rest) : Type 0 where
  pub first : Lexed
  pub takes : Takes r first rest
  pub kind : is_of NAME is_name (kind_number first.kind) ≡ true
  pub text_is : name.text ≡ (seen_as r.text.now first).text
  pub place_is : name.place ≡ first.token.start

pub record IsNumber (r : Rest) (number : Number) (rest : Rest) : Type 0 where
  pub first : Lexed
  pub takes : Takes r first rest
  pub kind : is_of SHORT_NUMBER is_number (kind_number first.kind) ≡ true
  pub value_is : number.value ≡ number_of (seen_as r.text.now first).text
  pub place_is : number.place ≡ first.token.start
  pub small : number.value < 2 ^ 63

-- the same behind a minus
pub record IsNegative (r : Rest) (value : ℤ) (rest : Rest) : Type 0 where
  pub first : Lexed
  pub takes : Takes r first rest
  pub kind : is_of SHORT_NUMBER is_negative (kind_number first.kind) ≡ true
  pub value_is : value ≡ neg_ℤ (pos (number_of (seen_as r.text.now first).text))
  pub low : neg_ℤ (pos (2 ^ 63)) ≤ℤ value
  pub high : value ≤ℤ pos 0

-- a quoted text lies between, and this is what is meant
pub record IsQuoted (r : Rest) (quoted : QuotedText) (rest : Rest) : Type 0 where
  pub first : Lexed
  pub takes : Takes r first rest
  pub kind : is_of OTHER_TEXT is_quoted (kind_number first.kind) ≡ true
  pub text_is : quoted.text ≡ (seen_as r.text.now first).text
  pub place_is : quoted.place ≡ first.token.start

-- the text of a date lies between, and this is the day
pub record IsDayText (r : Rest) (day : ℤ) (rest : Rest) : Type 0 where
  pub word : IsWord DATE_TEXT r rest
  pub text_is : (seen_as r.text.now word.first).text ≡ day_text day
  pub is_day : IsDay day

-- ---- readers

-- Behind the tokens `before`, the last one first, the machine reads this part from these tokens on: it notes
-- these marks and goes on with the rest, whatever stands further in front and whatever is to follow.
pub record Goes (end : ℕ) (before : List Lexeme) (g : Gram) (ts : List Lexeme) (m : List Mark) (rest : List Lexeme) : Type 0 where
  pub gone : List Lexeme → List Lexeme
  pub on : (done : List Lexeme) (K : List Gram) → run read_rule end (before ++ done) (g ∷ K) ts ≡ with_marks m (run read_rule end (gone done) K rest)

-- it finds a fault at this place
pub record Halts (end : ℕ) (before : List Lexeme) (g : Gram) (ts : List Lexeme) (at : ℕ) : Type 0 where
  pub on : (done : List Lexeme) (K : List Gram) → run read_rule end (before ++ done) (g ∷ K) ts ≡ Err at

-- what a reader of a part leaves
pub record Passes (before : List Lexeme) (g : Gram) (r : Rest) (m : List Mark) (rest : Rest) : Type 0 where
  pub same : rest.text.now ≡ r.text.now
  pub known : IsKnown rest
  pub shorter : length rest.tokens.now ≤ length r.tokens.now
  pub goes : Goes (length r.text.now) before g (seen r) m (seen rest)

-- what a reader says that finds a fault
pub record Fails (before : List Lexeme) (g : Gram) (r : Rest) (at : ℕ) : Type 0 where
  pub halts : Halts (length r.text.now) before g (seen r) at

-- a fault where one is told, and nothing of want of memory
abbrev pub Errs : List Lexeme → Gram → Rest → ParseError → Type 0
Errs before g r (Syntax s) = Fails before g r s.place
Errs before g r Memory = Unit {0}

-- a reader of a part, where tokens may stand in front that it looks at
abbrev pub ReadsBehind : {T : Type 0} → List Lexeme → (T → List Mark) → (T → Rest) → Gram → Rest → Result T ParseError → Type 0
ReadsBehind before marks rest g r (Ok x) = Passes before g r (marks x) (rest x)
ReadsBehind before marks rest g r (Err e) = Errs before g r e

abbrev pub Reads : {T : Type 0} → (T → List Mark) → (T → Rest) → Gram → Rest → Result T ParseError → Type 0
Reads marks rest g r result = ReadsBehind [] marks rest g r result

-- a part that may be left out begins here, and is read
pub record Offers (g : Gram) (r : Rest) (m : List Mark) (rest : Rest) : Type 0 where
  pub kind : ℕ
  pub kind_is : first_kind r ≡ kind
  pub begins_here : begins false g kind ≡ true
  pub shorter : length rest.tokens.now < length r.tokens.now
  pub passes : Passes [] g r m rest

-- ---- loops

-- what is repeated, before further marks
abbrev pub repeated_then : List (List Mark) → List Mark → List Mark
repeated_then [] n = n
repeated_then (m ∷ ms) n = Way 1 ∷ (m ++ repeated_then ms n)

-- from r on the part was read as often as there are marks, up to the rest s: whatever s gives, r gives with these in front
pub record Collected (g : Gram) (r : Rest) (ms : List (List Mark)) (s : Rest) : Type 0 where
  pub known : IsKnown s
  pub goes : (n : List Mark) (u : Rest) → Passes [] (Many g) s n u → Passes [] (Many g) r (repeated_then ms n) u
  pub fails : (at : ℕ) → Fails [] (Many g) s at → Fails [] (Many g) r at
