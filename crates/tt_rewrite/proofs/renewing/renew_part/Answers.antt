use Rattle.std.proofs.Common.{◌+◌, ◌∙◌, ap, sym, arith}
use Rattle.tt_value.specs.trees.Predicates.{takes}
use Rattle.tt_value.specs.trees.Scope.{table_scope}
use Rattle.tt_rewrite.specs.Left.{count_set}
use Rattle.tt_rewrite.specs.Sets.{becomes}
use Rattle.tt_rewrite.proofs.Bits.{count_bits}
use Rattle.tt_rewrite.proofs.Parts.{count_filtered}
use Rattle.tt_rewrite.proofs.Renews.{if_ok, part_goes, renews_untouched}
use Rattle.tt_rewrite.proofs.Zones.{none_may}
use Rattle.tt_rewrite.proofs.renewing.renew_part.Goals as goal

pub returns-then-not-may_take : goal.returns-then-not-may_take
returns-then-not-may_take c =
    let schema = c.args.setting.now.schema.now in
    let taken = takes (table_scope schema) c.args.filter.now in
    renews_untouched taken (becomes c.args.setting.now) schema (c.args.number, c.args.partition.now) c.args.renewed.now
    (count_filtered taken c.args.partition.now.rows (none_may schema c.args.filter.now c.args.partition.now c.requires.kinds (sym c.may_take.ensures ∙ c.if-not-may_take.true)))

pub returns-then-count-eq0 : goal.returns-then-count-eq0
returns-then-count-eq0 c =
    let schema = c.args.setting.now.schema.now in
    let taken = takes (table_scope schema) c.args.filter.now in
    renews_untouched taken (becomes c.args.setting.now) schema (c.args.number, c.args.partition.now) c.args.renewed.now
    (sym (count_bits taken c.args.partition.now.rows) ∙ ap count_set (sym c.in_ok-bits.ensures) ∙ sym c.count-count.ensures ∙ c.if-count-eq0.true)

pub returns : goal.returns
returns c =
    let schema = c.args.setting.now.schema.now in
    let taken = takes (table_scope schema) c.args.filter.now in
    let counted = c.count-count.ensures ∙ ap count_set c.in_ok-bits.ensures ∙ count_bits taken c.args.partition.now.rows in
    if_ok c.renew_found.result (λ within goes.
    part_goes taken (becomes c.args.setting.now) schema (c.args.number, c.args.partition.now) c.args.renewed.now _ within (omega (arith, counted, c.if-count-eq0.false)) c.in_ok-push.ensures.ok
    (c.in_ok-renewed.ensures ∙ ap (λ n. c.args.renewed.now.left.count + n) counted) (goes taken c.in_ok-bits.ensures))
    c.renew_found.ensures
