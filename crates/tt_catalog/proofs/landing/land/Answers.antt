use Rattle.std.proofs.Common.{List, length, map, ◌++◌, ◌+◌, ap, arith, sym, ◌∙◌}
use Rattle.tt_state.specs.Kept.{kept_of}
use Rattle.tt_state.specs.declared.part.StoredPart.{StoredPart}
use Rattle.tt_catalog.proofs.MayLand.{landed_is, may_begin, told_as}
use Rattle.tt_catalog.proofs.Numbered.{length-stored}
use Rattle.tt_catalog.specs.Changes.{stored_from}
use Rattle.tt_catalog.specs.Landing.{added_as}
use Rattle.tt_catalog.proofs.landing.land.Goals as goal

pub add_to_layout-requires : goal.add_to_layout-requires
add_to_layout-requires c =
    let count = c.len-2.ensures ∙ c.reserve.ensures.len ∙ c.args.state.now.parts.ok.0 in
    may_begin (kept_of c.args.state.now) c.args.table c.args.gone.now c.args.added c.deref-2.result.now
    (c.deref-2.ensures.value ∙ c.in_ok-parts.ensures.stored ∙ ap (λ n. stored_from c.args.table (n + 1) c.args.added) count) c.requires

pub unreachable-requires : goal.unreachable-requires
unreachable-requires c =
    let many = c.in_ok-parts.parts.ok.0 ∙ ap (λ (ps : List StoredPart). length ps) c.in_ok-parts.ensures.stored ∙ length-stored c.args.table (c.len-2.result + 1) c.args.added in
    omega (arith, c.in_default.ensures.full, c.in_ok-reserve.ensures.ok, many, c.len.ensures)

pub returns-clause-ok : goal.returns-clause-ok
returns-clause-ok c =
    let count = c.len-2.ensures ∙ c.reserve.ensures.len ∙ c.args.state.now.parts.ok.0 in
    let stored = c.deref-2.ensures.value ∙ c.in_ok-parts.ensures.stored ∙ ap (λ n. stored_from c.args.table (n + 1) c.args.added) count in
    landed_is (kept_of c.args.state.now) c.args.table c.args.gone.now c.args.added c.deref-2.result.now c.add_to_layout.new.tables.items c.append.new.self.items stored c.in_ok-add_to_layout.ensures.ok
    (c.in-Ok.ensures.items ∙ ap (λ (ps : List StoredPart). ps ++ c.in_ok-parts.parts.items) c.reserve.ensures.items
    ∙ ap (λ (ps : List StoredPart). c.args.state.now.parts.items ++ ps) (sym c.deref-2.ensures.value))

pub returns-clause-facts : goal.returns-clause-facts
returns-clause-facts c =
    let count = c.len-2.ensures ∙ c.reserve.ensures.len ∙ c.args.state.now.parts.ok.0 in
    c.in_ok-facts.ensures ∙ ap (map added_as) (c.deref.ensures.value ∙ c.in_ok-parts.ensures.stored ∙ ap (λ n. stored_from c.args.table (n + 1) c.args.added) count)
    ∙ told_as c.args.table (length c.args.state.now.parts.items + 1) c.args.added
