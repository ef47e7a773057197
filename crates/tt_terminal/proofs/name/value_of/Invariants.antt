use Rattle.std.proofs.Common.{◌≡◌, ◌+◌, ◌^◌, true, min, take}
use Rattle.std.specs.List.{list_all}
use Rattle.std.specs.Char.{is_ascii_digit}
use Rattle.tt_value.specs.calendar.Reading.{digits_value as number_of}
use Rattle.tt_terminal.proofs.name.value_of.Given as goal

abbrev pub invariant-loop-digit : goal.invariant-loop-digit
invariant-loop-digit l = record {
  value_is : l.value ≡ min (number_of (take l.digit-index l.digits)) (2 ^ 63 + 1);
  digits : list_all is_ascii_digit l.digits ≡ true;
}
