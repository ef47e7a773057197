use Rattle.std.proofs.Common.{ℕ, List, sym, subst}
use Rattle.tt_value.specs.values.Texts.{IsText}
use Rattle.tt_sql.specs.grammar.TokenKinds.{unquoted}
use Rattle.tt_terminal.proofs.Quotes.{text_plain}
use Rattle.tt_parse.proofs.lexed.lexed_of.Goals as goal

pub quoted_kind_of-requires-clause-plain : goal.quoted_kind_of-requires-clause-plain
quoted_kind_of-requires-clause-plain c = subst (λ (x : List ℕ). IsText (unquoted x)) (sym c.bytes_of-bytes.ensures) (text_plain c.args.text.now c.args.token c.requires.spelled c.in-Quoted.is)
