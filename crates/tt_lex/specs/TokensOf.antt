-- The tokens of a text, or its first fault, as a function: each text has the one or the other, and not both.
use Rattle.std.specs.Prelude.{◌≡◌, ℕ, List, Result, Ok, Err}
use Rattle.std.proofs.Common.{inl, inr}
use Rattle.std.specs.Global.{Vec}
use Rattle.tt_lex.specs.declared.Token.{Token}
use Rattle.tt_lex.specs.declared.LexFault.{LexFault}
use Rattle.tt_lex.specs.declared.TokensError.{TokensError}
use Rattle.tt_lex.specs.declared.TokensError.TheVariants.{Lex, Memory}
use Rattle.tt_lex.specs.answer.WholeTexts.{Answer, answer}

abbrev pub answered : {text : List ℕ} → Answer text → Result (List Token) LexFault
answered (inl found) = Ok found.0
answered (inr fault) = Err fault.0

unfoldable pub tokens_of : List ℕ → Result (List Token) LexFault
tokens_of text = answered (answer text)

-- what a call returns is this, unless memory ran out
abbrev pub Gives : Result (List Token) LexFault → Result (Vec Token) TokensError → Type 0
Gives read (Ok given) = read ≡ Ok given.items
Gives read (Err (Lex fault)) = read ≡ Err fault
Gives read (Err Memory) = Unit {0}
