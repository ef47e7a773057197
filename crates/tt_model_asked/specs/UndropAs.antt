-- The one that was dropped last, so far.
use Rattle.std.specs.Prelude.{None, Option, Some}
use Rattle.tt_plain.specs.declared.store.PlainTable.{PlainTable}
use Rattle.tt_plain.specs.refusal.NothingToUndrop.{later_dropped}

abbrev pub later_of : Option PlainTable → PlainTable → PlainTable
later_of None table = table
later_of (Some other) table = later_dropped other table
