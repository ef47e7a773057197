-- A machine that reads tokens one by one, with the parts that are pending on a stack.
use Rattle.std.specs.Prelude.{ℕ, Bool, true, false, List, [], ◌∷◌, ◌++◌, Option, Some, None, Result, Ok, Err, if◌then◌else◌}
use Rattle.tt_sql.specs.grammar.Grammar.{Lexeme, Mark, Way, Rule, Gram, Tok, Deep, Note, Both, Either, Many, Again, is_of, latest_place}

-- How a part takes a token: it notes marks and leaves parts pending, where the flag says that the limit on
-- levels is passed; or it lets the token pass by, and notes marks; or it is stuck.
pub data Entry : Type 0 where
  Into : Bool → List Mark → List Gram → Entry
  Pass : List Mark → Entry
  Stuck : Entry

abbrev pub front_marks : List Mark → Entry → Entry
front_marks m (Into deep n parts) = Into deep (m ++ n) parts
front_marks m (Pass n) = Pass (m ++ n)
front_marks m Stuck = Stuck

abbrev pub enter_both : Entry → Gram → Entry → Entry
enter_both (Into deep m parts) h e = Into deep m (parts ++ h ∷ [])
enter_both (Pass m) h e = front_marks m e
enter_both Stuck h e = Stuck

abbrev pub if_into : List Mark → Entry → Entry
if_into m (Into deep n parts) = Into deep n parts
if_into m (Pass n) = Pass m
if_into m Stuck = Pass m

abbrev pub enter_either : Entry → Entry → Entry
enter_either (Into deep m parts) e = Into deep m parts
enter_either (Pass m) e = if_into m e
enter_either Stuck e = e

abbrev pub enter_many : Entry → Gram → Entry
enter_many (Into deep m parts) g = Into deep (Way 1 ∷ m) (parts ++ Many g ∷ [])
enter_many (Pass m) g = Pass (Way 0 ∷ [])
enter_many Stuck g = Pass (Way 0 ∷ [])

-- how a part takes a token, where `again` says how a production does
unfoldable pub enter : (Rule → ℕ → Entry) → List Lexeme → Lexeme → Gram → Entry
enter again done t (Tok k more) = if is_of k more t.kind then Into false [] [] else Stuck
enter again done t (Deep kinds) = if kinds t.kind then Into true [] [] else Stuck
enter again done t (Note f) = Pass (f done)
enter again done t (Both g h) = enter_both (enter again done t g) h (enter again done t h)
enter again done t (Either g h) = enter_either (enter again done t g) (enter again done t h)
enter again done t (Many g) = enter_many (enter again done t g) g
enter again done t (Again r d) = again r d

-- no production stands in front within a production
abbrev pub enter_within : List Lexeme → Lexeme → Gram → Entry
enter_within done t g = enter (λ r d. Stuck) done t g

abbrev pub enter_part : (Rule → ℕ → Gram) → List Lexeme → Lexeme → Gram → Entry
enter_part rule done t g = enter (λ r d. enter_within done t (rule r d)) done t g

pub data Step : Type 0 where
  Next : Bool → List Mark → List Gram → Step
  Halt : Step

abbrev pub front_step : List Mark → Step → Step
front_step m (Next deep n K) = Next deep (m ++ n) K
front_step m Halt = Halt

abbrev pub step_from : Entry → List Gram → Step → Step
step_from (Into deep m parts) K s = Next deep m (parts ++ K)
step_from (Pass m) K s = front_step m s
step_from Stuck K s = Halt

-- one token
unfoldable pub step : (Rule → ℕ → Gram) → List Lexeme → Lexeme → List Gram → Step
step rule done t [] = Halt
step rule done t (g ∷ K) = step_from (enter_part rule done t g) K (step rule done t K)

-- what is noted where the tokens end
abbrev pub both_marks : Option (List Mark) → Option (List Mark) → Option (List Mark)
both_marks (Some m) (Some n) = Some (m ++ n)
both_marks (Some m) None = None
both_marks None n = None

abbrev pub first_marks : Option (List Mark) → Option (List Mark) → Option (List Mark)
first_marks (Some m) n = Some m
first_marks None n = n

unfoldable pub close_part : List Lexeme → Gram → Option (List Mark)
close_part done (Tok k more) = None
close_part done (Deep kinds) = None
close_part done (Note f) = Some (f done)
close_part done (Both g h) = both_marks (close_part done g) (close_part done h)
close_part done (Either g h) = first_marks (close_part done g) (close_part done h)
close_part done (Many g) = Some (Way 0 ∷ [])
close_part done (Again r d) = None

unfoldable pub close : List Lexeme → List Gram → Option (List Mark)
close done [] = Some []
close done (g ∷ K) = both_marks (close_part done g) (close done K)

abbrev pub closed : ℕ → Option (List Mark) → Result (List Mark) ℕ
closed end (Some m) = Ok m
closed end None = Err end

abbrev pub with_marks : List Mark → Result (List Mark) ℕ → Result (List Mark) ℕ
with_marks m (Ok n) = Ok (m ++ n)
with_marks m (Err at) = Err at

-- what comes after a step, where a fault is at this token or at the one in front of it
abbrev pub go_on : Step → ℕ → ℕ → (List Gram → Result (List Mark) ℕ) → Result (List Mark) ℕ
go_on (Next false m K) here before after = with_marks m (after K)
go_on (Next true m K) here before after = Err before
go_on Halt here before after = Err here

-- The marks of the tokens, or the place of their fault.
unfoldable pub run : (Rule → ℕ → Gram) → ℕ → List Lexeme → List Gram → List Lexeme → Result (List Mark) ℕ
run rule end done K [] = closed end (close done K)
run rule end done K (t ∷ ts) = go_on (step rule done t K) t.place (latest_place done) (λ after. run rule end (t ∷ done) after ts)
