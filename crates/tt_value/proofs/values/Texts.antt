-- Printable ASCII is UTF-8 and has no control character.
use Rattle.std.proofs.Common.{◌≡◌, ℕ, ◌<◌, ◌≤◌, false, cond, List, length, get_or, nat_lt, None, Some, All, ap, ◌∙◌, arith}
use Rattle.std.specs.List.{position, position_or_len}
use Rattle.std.specs.Str.{IsUtf8}
use Rattle.std.proofs.lemmas.List.Sums.{position_or_len_is}
use Rattle.std.proofs.lemmas.List.Elements.{All-weaker}
use Rattle.std.proofs.lemmas.Str.{IsUtf8-from_ascii}
use Rattle.std.proofs.lemmas.Str.Ascii.{IsAscii-from_all}
use Rattle.std.proofs.lemmas.Bool.Decides.{nat_tests}
use Rattle.tt_value.specs.values.Texts.{IsText, IsPrintableAscii, is_control}

printable_is_plain : (byte : ℕ) → IsPrintableAscii byte → is_control byte ≡ false
printable_is_plain byte h = grind (arith, nat_tests)

not_below_itself : (n : ℕ) → nat_lt n n ≡ false
not_below_itself n = grind (arith, nat_tests)

pub IsUtf8-from_printable : (bytes : List ℕ) → All IsPrintableAscii bytes → IsUtf8 bytes
IsUtf8-from_printable bytes h =
    IsUtf8-from_ascii bytes (IsAscii-from_all bytes (All-weaker IsPrintableAscii (λ b. b < 128) (λ b p. omega (arith, p.1)) bytes h))

pub plain_from_printable : (bytes : List ℕ) → All IsPrintableAscii bytes → position is_control bytes ≡ None
plain_from_printable bytes h =
    let all : position_or_len is_control bytes ≡ length bytes =
    position_or_len_is is_control bytes (length bytes) 0 (omega arith) (λ k below. printable_is_plain (get_or bytes k 0) (h k 0 below)) (λ below. absurd (omega arith)) in
    ap (λ n. cond (nat_lt n (length bytes)) (Some n) None) all ∙ ap (λ b. cond b (Some (length bytes)) None) (not_below_itself (length bytes))

pub IsText-from_printable : (bytes : List ℕ) → All IsPrintableAscii bytes → length bytes ≤ 65535 → IsText bytes
IsText-from_printable bytes h short = record { short = short; plain = plain_from_printable bytes h }
