-- The bytes read so far are those that the source lost, at most as many as asked for, and each turn read at least one.
use Rattle.std.proofs.Common.{◌≡◌, ◌+◌, ◌≤◌, take, vec_len}
use Rattle.std.specs.Io.KnownBytes.{Consumes}
use Rattle.tt_edge.proofs.reading.read_all.Given as goal

abbrev pub invariant-loop-turn : goal.invariant-loop-turn
invariant-loop-turn g l = record {
  held : l.filled ≤ vec_len l.bytes;
  within : l.filled ≤ l.limit;
  turns : l._turn ≤ l.filled;
  taken : Consumes (g.S.Source.left l.initial.source) (g.S.Source.left l.source) (take l.filled l.bytes.items);
  counted : g.S.Source.given l.source ≡ g.S.Source.given l.initial.source + l.filled;
  later : g.S.Source.faults l.initial.source ≤ g.S.Source.faults l.source;
}
