-- What is meant between quotes is what the grammar sees of a quoted text.
use Rattle.std.proofs.Common.{◌≡◌, ℕ, ◌-◌, Bool, true, false, if◌then◌else◌, List, [], ◌∷◌, ◌++◌, length, take, refl, ap, ◌∙◌, arith}
use Rattle.std.proofs.lemmas.List.{length-append}
use Rattle.tt_lex.specs.Lexis.{Quoted, is_quote, doubled, spelling}
use Rattle.tt_sql.specs.grammar.TokenKinds.{undoubled, unquoted}

undoubled-doubled : (text : List ℕ) → undoubled false (doubled text) ≡ text
unfolding undoubled
undoubled-doubled [] = refl
undoubled-doubled (b ∷ text) = by_byte (is_quote b) refl (undoubled-doubled text)
  where
    by_byte : (q : Bool) → is_quote b ≡ q → undoubled false (doubled text) ≡ text → undoubled false ((if q then b ∷ b ∷ [] else b ∷ []) ++ doubled text) ≡ b ∷ text
    by_byte true e ih = rw e (ap (λ (x : List ℕ). b ∷ x) ih)
    by_byte false e ih = rw e (ap (λ (x : List ℕ). b ∷ x) ih)

take_front : (a b : List ℕ) → take (length a) (a ++ b) ≡ a
take_front [] b = refl
take_front (x ∷ a) b = ap (λ (y : List ℕ). x ∷ y) (take_front a b)

pub unquoted-spelling : (text : List ℕ) → unquoted (spelling (Quoted text)) ≡ text
unquoted-spelling text =
    let long : length (spelling (Quoted text)) - 2 ≡ length (doubled text) = omega (arith, length-append (doubled text) (39 ∷ [])) in
    ap (λ (n : ℕ). undoubled false (take n (doubled text ++ 39 ∷ []))) long ∙ ap (undoubled false) (take_front (doubled text) (39 ∷ [])) ∙ undoubled-doubled text
