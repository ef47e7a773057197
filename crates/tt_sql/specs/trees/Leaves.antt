-- Names, literals, moments and quoted texts that stand in statements.
use Rattle.std.specs.Prelude.{◌≡◌, true, ℕ, suc, ◌<◌, ◌≤◌, ◌^◌, List, ℤ, pos, negsuc, neg_ℤ, ◌≤ℤ◌}
use Rattle.tt_lex.specs.Lexis.{Quoted, IsPiece}
use Rattle.tt_value.specs.calendar.Calendar.{IsDay}
use Rattle.tt_sql.specs.grammar.TokenKinds.{upper, is_word, is_name, word_kind}
use Rattle.tt_value.specs.declared.value.Value.{Value}
use Rattle.tt_value.specs.declared.value.Value.TheVariants.{Null, Int, Date, Text}

-- no byte that may not stand in quotes, and not too many
abbrev pub IsWrittenText : List ℕ → Type 0
IsWrittenText text = IsPiece (Quoted text)

-- an integer of 64 bits, a day of the years 1 to 9999, or a text that may stand in quotes
abbrev pub IsWrittenValue : Value → Type 0
IsWrittenValue Null = Unit {0}
IsWrittenValue (Int (pos n)) = n < 2 ^ 63
IsWrittenValue (Int (negsuc n)) = suc n ≤ 2 ^ 63
IsWrittenValue (Date day) = IsDay day
IsWrittenValue (Text bytes) = IsWrittenText bytes

-- A name as a tree has it: a word in upper case, not reserved and not too long.
pub record IsNameText (text : List ℕ) : Type 0 where
  pub word : is_word text ≡ true
  pub high : upper text ≡ text
  pub free : is_name (word_kind text) ≡ true

-- a moment of the years 1 to 9999, in milliseconds from 1970 on
abbrev pub IsMoment : ℤ → Type 0
IsMoment moment = (neg_ℤ (pos 62135596800000) ≤ℤ moment) × (moment ≤ℤ pos 253402300799999)
