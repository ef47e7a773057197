-- The function gives exactly the tokens of a text, or its first fault.
use Rattle.std.proofs.Common.{◌≡◌, ℕ, List, Result, Ok, Err, ap, subst, inl, inr, ◌↔◌}
use Rattle.std.specs.Prelude.{IfOk}
use Rattle.std.specs.Global.{Vec}
use Rattle.tt_lex.specs.declared.Token.{Token}
use Rattle.tt_lex.specs.declared.LexFault.{LexFault}
use Rattle.tt_lex.specs.declared.TokensError.{TokensError}
use Rattle.tt_lex.specs.declared.TokensError.TheVariants.{Lex, Memory}
use Rattle.tt_lex.specs.Lexis.{HasTokens, HasFault, IfFault}
use Rattle.tt_lex.specs.answer.WholeTexts.{Answer, answer}
use Rattle.tt_lex.specs.TokensOf.{tokens_of, answered, Gives}
use Rattle.tt_lex.proofs.OneWay.{same_tokens, same_fault, not_both}

given_tokens : (text : List ℕ) (tokens : List Token) (a : Answer text) → answered a ≡ Ok tokens → HasTokens text tokens
given_tokens text tokens (inl found) e = (let same : found.0 ≡ tokens = cc in subst (HasTokens text) same found.1)
given_tokens text tokens (inr fault) e = absurd cc

given_fault : (text : List ℕ) (f : LexFault) (a : Answer text) → answered a ≡ Err f → HasFault text f
given_fault text f (inl found) e = absurd cc
given_fault text f (inr fault) e = (let same : fault.0 ≡ f = cc in subst (HasFault text) same fault.1)

are_given : (text : List ℕ) (tokens : List Token) (a : Answer text) → HasTokens text tokens → answered a ≡ Ok tokens
are_given text tokens (inl found) has = ap Ok (same_tokens text found.0 tokens found.1 has)
are_given text tokens (inr fault) has = absurd (not_both text tokens fault.0 has fault.1)

is_given : (text : List ℕ) (f : LexFault) (a : Answer text) → HasFault text f → answered a ≡ Err f
is_given text f (inl found) has = absurd (not_both text found.0 f found.1 has)
is_given text f (inr fault) has = ap Err (same_fault text fault.0 f fault.1 has)

pub tokens_law : (text : List ℕ) (tokens : List Token) → (tokens_of text ≡ Ok tokens) ↔ HasTokens text tokens
unfolding tokens_of
tokens_law text tokens = (given_tokens text tokens (answer text), are_given text tokens (answer text))

pub fault_law : (text : List ℕ) (f : LexFault) → (tokens_of text ≡ Err f) ↔ HasFault text f
unfolding tokens_of
fault_law text f = (given_fault text f (answer text), is_given text f (answer text))

-- what the lexer returns
pub gives : (text : List ℕ) (result : Result (Vec Token) TokensError) → IfOk result (λ tokens. HasTokens text tokens.items) → IfFault result (HasFault text) → Gives (tokens_of text) result
gives text (Ok given) found fault = (tokens_law text given.items).1 found
gives text (Err (Lex f)) found fault = (fault_law text f).1 fault
gives text (Err Memory) found fault = tt
