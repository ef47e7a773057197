use Rattle.std.proofs.Common.{◌≡◌, List, length, map, filter, refl, ap, sym, subst, ◌∙◌, arith}
use Rattle.std.specs.List.Sorted.{IsPermutation, IsNonDecreasingBy}
use Rattle.std.proofs.lemmas.List.{take_all}
use Rattle.tt_layout.specs.declared.facts.TableFacts.{TableFacts}
use Rattle.tt_plain.specs.report.Metrics.{is_measured}
use Rattle.tt_owner.specs.declared.owned.Owned.{Owned}
use Rattle.tt_owner.specs.Owned.{owned_of}
use Rattle.tt_owner.specs.Rows.{metric_of}
use Rattle.tt_owner.proofs.Lists.{mapped_more}
use Rattle.tt_owner.proofs.Totals.{all_replied}
use Rattle.tt_owner.proofs.Sharing.{all_add_up}
use Rattle.tt_owner.proofs.rows.metrics.Goals as goal

pub push_row-requires-clause-order : goal.push_row-requires-clause-order
push_row-requires-clause-order c =
    subst (IsNonDecreasingBy (λ (part : Owned). part.owner)) (sym c.deref.ensures.value) c.in_ok-owned.ensures.order

pub loop-table-preserved : goal.loop-table-preserved
loop-table-preserved c =
    mapped_more (metric_of c.args.facts.now) (is_measured c.args.facts.now) c.items-table-items.result.now c.args.facts.now.tables c.loop-table.table-index c.table-item.result
    c.loop-table.rows.items c.push_row.new.rows.items c.items-table-items.ensures c.table-item.is c.loop-table-test.true
    (c.in_ok-push_row.ensures c.args.facts.now refl
    (subst (IsPermutation (map (owned_of c.args.facts.now) c.args.facts.now.parts)) (sym c.deref.ensures.value) c.in_ok-owned.ensures.parts))
    c.loop-table.invariant

all : (c : goal.After-drop-owned-2) → c.loop-table.rows.items ≡ map (metric_of c.args.facts.now) (filter (is_measured c.args.facts.now) c.args.facts.now.tables)
all c =
    c.loop-table.invariant
    ∙ ap (λ (tables : List TableFacts). map (metric_of c.args.facts.now) (filter (is_measured c.args.facts.now) tables))
    (take_all c.loop-table.table-index c.args.facts.now.tables (omega (arith, c.loop-table-test.false, ap length c.items-table-items.ensures)))

pub returns-clause-rows : goal.returns-clause-rows
returns-clause-rows c = all c

pub returns-clause-reply : goal.returns-clause-reply
returns-clause-reply c = all_replied c.args.facts.now c.loop-table.rows.items (all c)

pub returns-clause-totals : goal.returns-clause-totals
returns-clause-totals c = λ known. all_add_up c.args.facts.now c.loop-table.rows.items known (all c)
