use Rattle.std.proofs.Common.{◌≡◌, not, List, length, filter, ap, sym, subst, ◌∙◌, arith}
use Rattle.std.proofs.lemmas.List.{take_all}
use Rattle.tt_layout.specs.declared.facts.PartFacts.{PartFacts}
use Rattle.tt_layout.specs.Holds.{is_named}
use Rattle.tt_layout.specs.Numbers.{IsAscending}
use Rattle.tt_layout.proofs.Ascending.{ascends-filter}
use Rattle.tt_sweep.specs.Doomed.{numbers_of, unnamed_parts}
use Rattle.tt_sweep.proofs.sweep.doomed.Goals as goal

pub returns-clause-by_number : goal.returns-clause-by_number
returns-clause-by_number c = λ up.
    let all : c.loop-part.parts.items ≡ unnamed_parts c.args.facts.now =
    c.loop-part.invariant
    ∙ ap (λ (parts : List PartFacts). filter (λ number. not (is_named c.args.facts.now number)) (numbers_of parts))
    (take_all c.loop-part.part-index c.args.facts.now.parts (omega (arith, c.loop-part-test.false, ap length c.items-part-items.ensures))) in
    subst IsAscending (sym all) (ascends-filter (λ number. not (is_named c.args.facts.now number)) (numbers_of c.args.facts.now.parts) 0 up)
