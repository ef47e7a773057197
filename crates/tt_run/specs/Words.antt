-- The words of the command line: `replay`, and behind it at most once the option `--partition-rows` with its number.
use Rattle.std.specs.Prelude.{ℕ, Bool, ◌&&◌, nat_eq, nat_le, if◌then◌else◌, List, [], ◌∷◌, length, take, drop, Option, Some, None, is_some, codes}
use Rattle.std.specs.List.{list_all}
use Rattle.std.specs.Cmp.Lexicographic.{pointwise}
use Rattle.tt_script.specs.Bytes.{is_digit}
use Rattle.tt_script.specs.Lines.{only_if, decimal_value}

abbrev pub is_word : List ℕ → List ℕ → Bool
is_word expected word = pointwise nat_eq word expected

-- 1 to 5 digits, of a number from 1 to 65,536
abbrev pub is_rows : List ℕ → Bool
is_rows digits = nat_le 1 (length digits) && nat_le (length digits) 5 && list_all is_digit digits && nat_le 1 (decimal_value digits) && nat_le (decimal_value digits) 65536

unfoldable pub rows_said : List ℕ → Option ℕ
rows_said digits = only_if (is_rows digits) (decimal_value digits)

-- the number behind `--partition-rows=`
abbrev pub rows_joined : List ℕ → Option ℕ
rows_joined word = if is_word (codes "--partition-rows=") (take 17 word) then rows_said (drop 17 word) else None

-- the number that is the next word behind `--partition-rows`
abbrev pub rows_parted : List ℕ → List ℕ → Option ℕ
rows_parted word number = if is_word (codes "--partition-rows") word then rows_said number else None

abbrev pub rows_behind : List ℕ → List (List ℕ) → Option ℕ
rows_behind word [] = rows_joined word
rows_behind word (number ∷ []) = rows_parted word number
rows_behind word (number ∷ other ∷ words) = None

-- the rows of a partition that the words behind `replay` ask for
abbrev pub rows_asked : List (List ℕ) → Option ℕ
rows_asked [] = Some 4096
rows_asked (word ∷ numbers) = rows_behind word numbers

-- the rows of a partition that the words ask for, if they are words of `replay`
abbrev pub partition_rows_of : List (List ℕ) → Option ℕ
partition_rows_of [] = None
partition_rows_of (word ∷ words) = if is_word (codes "replay") word then rows_asked words else None

abbrev pub are_replay_words : List (List ℕ) → Bool
are_replay_words words = is_some (partition_rows_of words)
