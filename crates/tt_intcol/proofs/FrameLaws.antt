-- A frame is read as its parts are.
use Rattle.std.proofs.Common.{◌≡◌, ℕ, ℤ, pos, ◌+ℤ◌, ◌-◌, ◌*◌, ◌<◌, ◌^◌, Bool, true, false, cond, ltb, ◌&&◌, List, length, take, drop, map, Result, Ok, Err, refl, ap, ◌∙◌, arith}
use Rattle.std.specs.Prelude.{◌==◌}
use Rattle.std.specs.List.{list_any, list_all}
use Rattle.std.specs.Int.{w8}
use Rattle.std.proofs.lemmas.Bool.Decides.{nat_tests}
use Rattle.tt_value.specs.declared.value.Kind.{Kind}
use Rattle.tt_value.specs.columns.Packing.{joined, digits, width_of, bytes_for}
use Rattle.tt_value.specs.columns.Reading.{◌>>=◌, checked, number_at, packed_at}
use Rattle.tt_value.proofs.columns.Packing.{width_le}
use Rattle.tt_intcol.specs.IntBody.{greatest_of}
use Rattle.tt_intcol.specs.IntReading.{value_at, frame_at, is_frame, is_within}

and_false : (a b : Bool) → ((a && false) && b) ≡ false
and_false true b = refl
and_false false b = refl

wide_is_none : (kind : Kind) (low : ℤ) (width : ℕ) (ns : List ℕ) → 64 < width → is_frame kind low width ns ≡ false
wide_is_none kind low width ns lt =
    let le = width_le (greatest_of ns) in
    let e : (width_of (greatest_of ns) == width) ≡ false = grind (arith, nat_tests) in
    ap (λ b. (list_any (λ n. n == 0) ns && b) && list_all (is_within kind low) ns) e ∙ and_false (list_any (λ n. n == 0) ns) (list_all (is_within kind low) ns)

short_or : {A B : Type 0} (b : Bool) (end place : ℕ) (r : Result A ℕ) (f : A → Result B ℕ) → (r >>= f) ≡ Err place → (cond b (Err end) r >>= f) ≡ Err (cond b end place)
short_or true end place r f e = refl
short_or false end place r f e = e

fault_either : {A B : Type 0} (b : Bool) (place : ℕ) (x : A) (f : A → Result B ℕ) → f x ≡ Err place → (checked b place x >>= f) ≡ Err place
fault_either true place x f e = e
fault_either false place x f e = refl

pub frame_wide : (kind : Kind) (end count : ℕ) (bytes : List ℕ) (low : ℤ) (rest : List ℕ) (width : ℕ) (behind : List ℕ) → value_at kind end bytes ≡ Ok (low, rest) → number_at w8 end rest ≡ Ok (width, behind) → 64 < width
    → frame_at kind end count bytes ≡ Err (cond (ltb (length behind) (bytes_for (count * width))) end (end - length behind))
unfolding frame_at packed_at
frame_wide kind end count bytes low rest width behind e f lt =
    let size : ℕ = bytes_for (count * width) in
    let number : ℕ = joined 8 (take size behind) in
    let place : ℕ = end - length behind in
    let x : List ℕ × List ℕ = (digits width count number, drop size behind) in
    let g : List ℕ × List ℕ → Result (List ℤ × List ℕ) ℕ = λ ns. checked (is_frame kind low width ns.0) place (map (λ n. low +ℤ pos n) ns.0, ns.1) in
    let none : g x ≡ Err place = ap (λ b. checked b place (map (λ n. low +ℤ pos n) x.0, x.1)) (wide_is_none kind low width x.0 lt) in
    rw (e, f) (short_or (ltb (length behind) size) end place (checked (ltb number (2 ^ (count * width))) place x) g (fault_either (ltb number (2 ^ (count * width))) place x g none))

pub frame_read : (kind : Kind) (end count : ℕ) (bytes : List ℕ) (low : ℤ) (rest : List ℕ) (width : ℕ) (behind ns after : List ℕ) → value_at kind end bytes ≡ Ok (low, rest) → number_at w8 end rest ≡ Ok (width, behind) → packed_at end width count behind ≡ Ok (ns, after)
    → frame_at kind end count bytes ≡ checked (is_frame kind low width ns) (end - length behind) (map (λ n. low +ℤ pos n) ns, after)
unfolding frame_at
frame_read kind end count bytes low rest width behind ns after e f g = rw (e, f, g) refl
