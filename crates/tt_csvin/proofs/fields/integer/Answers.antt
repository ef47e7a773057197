use Rattle.std.proofs.Common.{◌∙◌, List, ℕ, get_or, ap, arith}
use Rattle.std.specs.Prelude.{option_map}
use Rattle.tt_value.specs.declared.value.Value.TheVariants.{Int}
use Rattle.tt_csvin.proofs.Numbers.{told_integer}
use Rattle.tt_csvin.proofs.fields.integer.Goals as goal
use Rattle.tt_csvin.proofs.fields.integer.Goals.{in_default-via-in-Some+else-first-eq43, in_default-via-in_default}

pub returns-in_default : goal.returns-in_default
returns-in_default c =
    ap (option_map Int) c.ok.ensures.value
    ∙ told_integer c.args.field.now c.parse.result c.parse.ensures.value.0
    (λ plus. elim c.in_default.branch [
      | in_default-via-in-Some+else-first-eq43 w ↦ w.if-first-eq43.false (w.in-Some.ensures.item.3.1 0 ∙ ap (λ (l : List ℕ). get_or l 0 0) c.as_bytes.ensures.value ∙ plus)
      | in_default-via-in_default w ↦ omega (arith, w.in_default.ensures.item.4 (omega arith) 0, ap (λ (l : List ℕ). get_or l 0 0) c.as_bytes.ensures.value, plus)
    ])
