-- A number below a size for each value, by which distinct values are told apart without comparing them. Two values may have the same.
use Rattle.std.specs.Prelude.{ℕ, ℤ, ◌*◌, ◌/◌, ◌%◌, ◌^◌}
use Rattle.std.specs.Int.{w64, cast_unsigned}

abbrev pub mixed : ℤ → ℕ
mixed value = cast_unsigned w64 value * 11400714819323198485 % 2 ^ 64

abbrev pub number_in : ℕ → ℤ → ℕ
number_in size value = mixed value * size / 2 ^ 64
