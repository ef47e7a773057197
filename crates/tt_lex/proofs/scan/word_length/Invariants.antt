use Rattle.std.proofs.Common.{◌≡◌, ℕ, ◌<◌, true, get_or}
use Rattle.tt_lex.specs.Lexis.{is_word_part}
use Rattle.tt_lex.proofs.scan.word_length.Given as goal

-- each byte passed so far passes the test
abbrev pub invariant-loop-i : goal.invariant-loop-i
invariant-loop-i l = (k : ℕ) → k < l.i → is_word_part (get_or l.bytes k 0) ≡ true
