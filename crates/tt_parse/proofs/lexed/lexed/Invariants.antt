use Rattle.std.proofs.Common.{◌≡◌, take, map, All}
use Rattle.tt_terminal.specs.Reading.{IsOf}
use Rattle.tt_terminal.specs.declared.rest.Lexed.{Lexed}
use Rattle.tt_parse.proofs.lexed.lexed.Given as goal

abbrev pub invariant-loop-token : goal.invariant-loop-token
invariant-loop-token l = record {
  tokens : map (λ (x : Lexed). x.token) l.list.items ≡ take l.token-index l.tokens;
  kinds : All (IsOf l.text) l.list.items;
}
