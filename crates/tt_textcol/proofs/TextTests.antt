-- Which bytes are a text that a column may hold.
use Rattle.std.proofs.Common.{◌≡◌, ℕ, ◌≤◌, Bool, true, false, ◌&&◌, List, length, Option, Some, None, refl, sym, ap, ◌∙◌}
use Rattle.std.specs.Prelude.{is_none}
use Rattle.std.specs.List.{position}
use Rattle.std.specs.Str.{IsUtf8, is_utf8}
use Rattle.std.proofs.lemmas.Str.{IsUtf8-from_is_utf8, is_utf8-from_IsUtf8}
use Rattle.tt_value.specs.values.Texts.{IsText, is_control}
use Rattle.tt_textcol.specs.TextBody.{IsValue}
use Rattle.tt_textcol.specs.TextReading.{is_text}

and_false : (b : Bool) → (b && false) ≡ false
and_false true = refl
and_false false = refl

pub no_utf8 : (bs : List ℕ) → (IsUtf8 bs → ⊥) → is_text bs ≡ false
no_utf8 bs none = go (is_utf8 bs) refl
  where
    go : (b : Bool) → is_utf8 bs ≡ b → (b && is_none (position is_control bs)) ≡ false
    go true e = absurd (none (IsUtf8-from_is_utf8 bs e))
    go false e = refl

pub has_control : (bs : List ℕ) (place : ℕ) → Some place ≡ position is_control bs → is_text bs ≡ false
has_control bs place e = ap (λ o. is_utf8 bs && is_none o) (sym e) ∙ and_false (is_utf8 bs)

pub no_control : (bs : List ℕ) → IsUtf8 bs → None ≡ position is_control bs → is_text bs ≡ true
no_control bs utf8 e = ap (λ o. is_utf8 bs && is_none o) (sym e) ∙ ap (λ b. b && true) (is_utf8-from_IsUtf8 bs utf8)

pub valid_text : (t bs : List ℕ) → t ≡ bs → length bs ≤ 65535 → None ≡ position is_control bs → IsText t
valid_text t bs same short e = rw same (record { short = short; plain = sym e })

pub value_tested : (v : List ℕ) → IsValue v → is_text v ≡ true
value_tested v valid = no_control v valid.0 (sym valid.1.plain)

pub tested_value : (v : List ℕ) → is_text v ≡ true → length v ≤ 65535 → IsValue v
tested_value v e short = go (is_utf8 v) refl (position is_control v) refl e
  where
    go : (b : Bool) → is_utf8 v ≡ b → (o : Option ℕ) → position is_control v ≡ o → (b && is_none o) ≡ true → IsValue v
    go true b-is None o-is h = (IsUtf8-from_is_utf8 v b-is, record { short = short; plain = o-is })
    go true b-is (Some place) o-is h = absurd cc
    go false b-is o o-is h = absurd cc
