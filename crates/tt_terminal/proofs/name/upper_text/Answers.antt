use Rattle.std.proofs.Common.{rules, ◌≡◌, All, subst, sym}
use Rattle.tt_value.specs.values.Texts.{IsPrintableAscii}
use Rattle.tt_sql.specs.grammar.TokenKinds.{upper}
use Rattle.tt_terminal.proofs.name.upper_text.Goals as goal

pub from_ascii-requires-clause-plain : goal.from_ascii-requires-clause-plain
from_ascii-requires-clause-plain c =
    let is : c.deref.result.now ≡ upper c.args.bytes.now = search rules in
    subst (All IsPrintableAscii) (sym is) c.requires.plain
