-- A number for each text, by which distinct texts are told apart without comparing them. Two texts may have the same.
use Rattle.std.specs.Prelude.{ℕ, ◌+◌, ◌*◌, ◌/◌, ◌%◌, ◌^◌, List}
use Rattle.std.specs.List.{fold}

abbrev pub with_byte : ℕ → ℕ → ℕ
with_byte number byte = (number * 1099511628211 % 2 ^ 64 + byte) % 2 ^ 64

abbrev pub text_number : List ℕ → ℕ
text_number text = fold with_byte 0 text

-- a number below a size
abbrev pub number_in : ℕ → List ℕ → ℕ
number_in size text = text_number text * 11400714819323198485 % 2 ^ 64 * size / 2 ^ 64
