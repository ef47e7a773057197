use Rattle.std.proofs.Common.{Bool, cond, ap, sym, ◌∙◌}
use Rattle.tt_owner.proofs.Totals.{same_class}
use Rattle.tt_owner.proofs.rows.counted.Goals as goal

pub returns-then-eq : goal.returns-then-eq
returns-then-eq c =
    sym (ap (λ (b : Bool). cond b c.args.part.bytes 0) (sym (same_class c.args.part.class c.args.class) ∙ sym c.eq.ensures ∙ c.if-eq.true))

pub returns-else-eq : goal.returns-else-eq
returns-else-eq c =
    sym (ap (λ (b : Bool). cond b c.args.part.bytes 0) (sym (same_class c.args.part.class c.args.class) ∙ sym c.eq.ensures ∙ c.if-eq.false))
