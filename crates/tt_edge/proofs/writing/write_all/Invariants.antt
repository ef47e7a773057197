-- What was written so far is the front of the bytes, and each turn wrote at least one of them.
use Rattle.std.proofs.Common.{◌≡◌, ◌+◌, ◌≤◌, length, take}
use Rattle.std.specs.Io.KnownBytes.{Appends}
use Rattle.tt_edge.proofs.writing.write_all.Given as goal

abbrev pub invariant-loop-turn : goal.invariant-loop-turn
invariant-loop-turn g l = record {
  within : l.written ≤ length l.bytes;
  turns : l._turn ≤ l.written;
  appended : Appends (g.K.Sink.holds l.initial.sink) (g.K.Sink.holds l.sink) (take l.written l.bytes);
  counted : g.K.Sink.received l.sink ≡ g.K.Sink.received l.initial.sink + l.written;
  later : g.K.Sink.faults l.initial.sink ≤ g.K.Sink.faults l.sink;
}
