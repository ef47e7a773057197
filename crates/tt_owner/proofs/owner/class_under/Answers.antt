use Rattle.std.proofs.Common.{List, length, map, ap, ◌∙◌, arith}
use Rattle.std.proofs.lemmas.List.{take_all}
use Rattle.tt_layout.specs.declared.facts.TableFacts.{TableFacts}
use Rattle.tt_owner.specs.Holders.{holder_at, seen_of, class_seen}
use Rattle.tt_owner.proofs.Owning.{class_is}
use Rattle.tt_owner.proofs.owner.class_under.Goals as goal

pub loop-table-init : goal.loop-table-init
loop-table-init c = c.unseen-seen.ensures c.args.owner

pub returns : goal.returns
returns c =
    c.class_seen.ensures
    ∙ ap class_seen (c.loop-table.invariant
    ∙ ap (λ (tables : List TableFacts). seen_of c.args.owner (map (holder_at c.args.facts.now.at c.args.part.now.number) tables))
    (take_all c.loop-table.table-index c.args.facts.now.tables (omega (arith, c.loop-table-test.false, ap length c.items-table-items.ensures))))
    ∙ class_is c.args.facts.now c.args.part.now c.args.owner
