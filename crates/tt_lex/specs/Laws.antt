-- What the laws of a text's tokens say, and what a call gives of each list of tokens and of each fault.
use Rattle.std.specs.Prelude.{◌≡◌, ℕ, List, Result, Ok, Err, ◌↔◌, ◌⊎◌}
use Rattle.std.specs.Global.{Vec}
use Rattle.std.specs.Str.{IsUtf8}
use Rattle.tt_lex.specs.declared.Token.{Token}
use Rattle.tt_lex.specs.declared.LexFault.{LexFault}
use Rattle.tt_lex.specs.declared.TokensError.{TokensError}
use Rattle.tt_lex.specs.Lexis.{HasTokens, HasFault, GivesTokens, GivesFault}

-- this holds of each text and its tokens
abbrev pub TokensAre : (List ℕ → List Token → Type 0) → Type 0
TokensAre P = (text : List ℕ) (tokens : List Token) → HasTokens text tokens → P text tokens

-- the same of each text in UTF-8
abbrev pub TokensInUtf8Are : (List ℕ → List Token → Type 0) → Type 0
TokensInUtf8Are P = (text : List ℕ) (tokens : List Token) → IsUtf8 text → HasTokens text tokens → P text tokens

-- a text has tokens or a fault
abbrev pub HasAnswer : List ℕ → Type 0
HasAnswer text = ((tokens : List Token) × HasTokens text tokens) ⊎ ((fault : LexFault) × HasFault text fault)

-- and not both
abbrev pub HasNotBoth : List ℕ → Type 0
HasNotBoth text = (tokens : List Token) (fault : LexFault) → HasTokens text tokens → ¬ (HasFault text fault)

-- this holds of one value at most
abbrev pub HoldsOfOne : {A : Type 0} → (A → Type 0) → Type 0
HoldsOfOne {A} P = (x y : A) → P x → P y → x ≡ y

-- it is an `Ok`, or an `Err`, exactly of what this holds of
abbrev pub IsOkExactly : {A E : Type 0} → Result A E → (A → Type 0) → Type 0
IsOkExactly {A} result P = (x : A) → (result ≡ Ok x) ↔ P x

abbrev pub IsErrExactly : {A E : Type 0} → Result A E → (E → Type 0) → Type 0
IsErrExactly {A} {E} result P = (e : E) → (result ≡ Err e) ↔ P e

-- the text's tokens, or its first fault, unless memory ran out
abbrev pub GivesTokensOf : List ℕ → Result (Vec Token) TokensError → Type 0
GivesTokensOf text result = (tokens : List Token) → HasTokens text tokens → GivesTokens tokens result

abbrev pub GivesFaultOf : List ℕ → Result (Vec Token) TokensError → Type 0
GivesFaultOf text result = (fault : LexFault) → HasFault text fault → GivesFault fault result
