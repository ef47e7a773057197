-- The text of a row as a loop writes it, and what stands where a write fails.
use Rattle.std.proofs.Common.{◌≡◌, ℕ, ◌<◌, ◌≤◌, All, length, get_or, take, subst, List, [], ◌∷◌, ◌++◌, map, Result, Ok, Err, refl, ap, sym, ◌∙◌, append_assoc, OnErr}
use Rattle.std.specs.List.{flat_map, join_with_byte}
use Rattle.std.proofs.lemmas.List.{take_all}
use Rattle.std.proofs.lemmas.List.Elements.{All-tail}
use Rattle.tt_value.specs.values.RowText.{Extends, IsPrintableValue, value_text}
use Rattle.tt_value.specs.declared.value.Value.{Value}

append_none : (bytes : List ℕ) → bytes ++ [] ≡ bytes
append_none [] = refl
append_none (b ∷ bytes) = ap (λ l. b ∷ l) (append_none bytes)

-- the first text, and each other with the byte before it
pub join_is : (byte : ℕ) (value : Value) (others : List Value) → join_with_byte byte (map value_text (value ∷ others)) ≡ value_text value ++ flat_map (λ v. byte ∷ value_text v) others
join_is byte value [] = sym (append_none (value_text value))
join_is byte value (next ∷ others) = ap (λ rest. value_text value ++ (byte ∷ rest)) (join_is byte next others)

pub Extends-more : (old middle new more : List ℕ) → Extends old middle → new ≡ middle ++ more → Extends old new
Extends-more old middle new more before e =
    (before.0 ++ more, e ∙ (ap (λ l. l ++ more) before.1 ∙ append_assoc old before.0 more))

pub OnErr-from : {T E P : Type 0} (r : Result T E) → P → OnErr r P
OnErr-from (Ok x) p = tt
OnErr-from (Err e) p = p

-- a write that failed after others leaves what they wrote
pub OnErr-extends : {T E : Type 0} (r : Result T E) (old first middle new one more : List ℕ) → first ≡ old ++ one → middle ≡ first ++ more → new ≡ middle → OnErr r (Extends old new)
OnErr-extends r old first middle new one more a b e =
    OnErr-from r (Extends-more old first new more (one, a) (e ∙ b))

-- each value after the first can be written where each value can
pub printable_at : (items values others : List Value) (first value : Value) (place : ℕ) → items ≡ values → items ≡ first ∷ others → All IsPrintableValue values → value ≡ get_or others place value → place < length others → IsPrintableValue value
printable_at items values others first value place a b all e below =
    let P : List Value → Type 0 = λ l. All IsPrintableValue l in
    subst IsPrintableValue (sym e) (All-tail IsPrintableValue first others (subst P (sym a ∙ b) all) place value below)

-- once every other value is written, the row is
pub row_written : (old start out : List ℕ) (items values others : List Value) (first : Value) (place : ℕ) → items ≡ values → items ≡ first ∷ others → start ≡ old ++ value_text first → length others ≤ place → out ≡ start ++ flat_map (λ v. 44 ∷ value_text v) (take place others) → out ≡ old ++ join_with_byte 44 (map value_text values)
row_written old start out items values others first place a b s over e =
    e ∙ (ap (λ l. start ++ flat_map (λ v. 44 ∷ value_text v) l) (take_all place others over) ∙ (ap (λ l. l ++ flat_map (λ v. 44 ∷ value_text v) others) s ∙ (append_assoc old (value_text first) (flat_map (λ v. 44 ∷ value_text v) others) ∙ (ap (λ l. old ++ l) (sym (join_is 44 first others)) ∙ ap (λ l. old ++ join_with_byte 44 (map value_text l)) (sym b ∙ a)))))
