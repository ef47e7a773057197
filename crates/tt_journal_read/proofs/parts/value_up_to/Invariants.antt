use Rattle.std.proofs.Common.{◌≡◌, ◌≤◌, true, take, fold}
use Rattle.std.specs.List.{list_all}
use Rattle.tt_script.specs.Bytes.{is_digit}
use Rattle.tt_journal_read.proofs.Numerals.{step}
use Rattle.tt_journal_read.proofs.parts.value_up_to.Given as goal

abbrev pub invariant-loop-digit : goal.invariant-loop-digit
invariant-loop-digit l = record {
  digits : list_all is_digit (take l.digit-index l.digits) ≡ true;
  value : l.value ≡ fold step 0 (take l.digit-index l.digits);
  fits : l.value ≤ 18446744073709551615;
}
