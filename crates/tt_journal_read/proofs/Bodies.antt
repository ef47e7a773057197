-- What stands in front of the line feed at the end of a line.
use Rattle.std.specs.Prelude.{Bool, List, None, Some, [], false, if◌then◌else◌, length, option_map, refl, true, ℕ, ◌++◌, ◌==◌, ◌∷◌, ◌≡◌, ◌≢◌}
use Rattle.std.proofs.Common.{ap, arith, subst, sym, ◌∙◌}
use Rattle.std.proofs.lemmas.Bool.{ne_eqb}
use Rattle.std.proofs.lemmas.Option.{none-some, same_Some}
use Rattle.tt_plain.proofs.Answers.{map_some}
use Rattle.tt_plain.proofs.Tests.{same_number}
use Rattle.tt_journal_read.specs.steps.Reading.{body_of}

-- the body where the last byte is a line feed
body_by : (body : List ℕ) (last : ℕ) → body_of (body ++ last ∷ []) ≡ (if last == 10 then Some body else None)
unfolding body_of
body_by [] last = refl
body_by (byte ∷ []) last = more (last == 10)
  where
    more : (feed : Bool) → option_map (λ (b : List ℕ). byte ∷ b) (if feed then Some [] else None) ≡ (if feed then Some (byte ∷ []) else None)
    more true = refl
    more false = refl
body_by (byte ∷ next ∷ body) last = ap (option_map (λ (b : List ℕ). byte ∷ b)) (body_by (next ∷ body) last) ∙ more (last == 10)
  where
    more : (feed : Bool) → option_map (λ (b : List ℕ). byte ∷ b) (if feed then Some (next ∷ body) else None) ≡ (if feed then Some (byte ∷ next ∷ body) else None)
    more true = refl
    more false = refl

pub body_written : (body : List ℕ) → body_of (body ++ 10 ∷ []) ≡ Some body
body_written body = body_by body 10

pub body_is : (line body : List ℕ) (last : ℕ) → line ≡ body ++ last ∷ [] → last ≡ 10 → Some body ≡ body_of line
body_is line body last e feed = sym (ap body_of e ∙ ap (λ (n : ℕ). body_of (body ++ n ∷ [])) feed ∙ body_written body)

pub no_body : (line body : List ℕ) (last : ℕ) → line ≡ body ++ last ∷ [] → last ≢ 10 → None ≡ body_of line
no_body line body last e other =
    sym (ap body_of e ∙ body_by body last ∙ ap (λ (b : Bool). if b then Some body else None) (ne_eqb last 10 other))

pub no_bytes : (line : List ℕ) → length line ≡ 0 → None ≡ body_of line
unfolding body_of
no_bytes [] e = refl
no_bytes (byte ∷ line) e = absurd (omega (arith, e))

pub body_read : (line body : List ℕ) → body_of line ≡ Some body → body ++ 10 ∷ [] ≡ line
unfolding body_of
body_read [] body e = absurd (none-some body e)
body_read (byte ∷ []) body e = by (byte == 10) refl e
  where
    by : (feed : Bool) → (byte == 10) ≡ feed → (if feed then Some [] else None) ≡ Some body → body ++ 10 ∷ [] ≡ byte ∷ []
    by true feed f = subst (λ (b : List ℕ). b ++ 10 ∷ [] ≡ byte ∷ []) (same_Some [] body f) (ap (λ (n : ℕ). n ∷ []) (sym (same_number byte 10 feed)))
    by false feed f = absurd (none-some body f)
body_read (byte ∷ next ∷ line) body e =
    let found = map_some (λ (b : List ℕ). byte ∷ b) (body_of (next ∷ line)) body e in
    subst (λ (b : List ℕ). b ++ 10 ∷ [] ≡ byte ∷ next ∷ line) found.2 (ap (λ (l : List ℕ). byte ∷ l) (body_read (next ∷ line) found.0 found.1))
