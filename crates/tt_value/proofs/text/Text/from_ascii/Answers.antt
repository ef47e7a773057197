use Rattle.std.proofs.Common.{subst, sym, ◌∙◌}
use Rattle.tt_value.specs.values.Texts.{IsText}
use Rattle.tt_value.proofs.values.Texts.{IsUtf8-from_printable, IsText-from_printable}
use Rattle.tt_value.proofs.text.Text.from_ascii.Goals as goal

pub unreachable-requires : goal.unreachable-requires
unreachable-requires c = c.in_default.ensures.cases.0 (IsUtf8-from_printable c.args.bytes.now c.requires.plain)

pub invariant_of-result : goal.invariant_of-result
invariant_of-result c =
    let valid = IsText-from_printable c.args.bytes.now c.requires.plain c.requires.short in
    subst IsText (sym (c.in_ok-from_str.ensures.ok ∙ c.in-Ok.ensures.cases.0)) valid
