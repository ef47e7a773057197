use Rattle.std.proofs.Common.{◌≡◌, ◌++◌, false, drop}
use Rattle.tt_sql.specs.grammar.TokenKinds.{undoubled}
use Rattle.tt_terminal.proofs.quoted.undoubled.Given as goal

abbrev pub invariant-loop-byte : goal.invariant-loop-byte
invariant-loop-byte l = l.single.items ++ undoubled l.second (drop l.byte-index l.bytes) ≡ undoubled false l.bytes
