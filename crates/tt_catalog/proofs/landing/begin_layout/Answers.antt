use Rattle.std.proofs.Common.{◌≡◌, ◌-◌, ◌∙◌}
use Rattle.std.proofs.lemmas.Option.{get_or_from_slice_get}
use Rattle.tt_catalog.proofs.MayLand.{kept_at, put_at}
use Rattle.tt_catalog.specs.Changes.{table_after}
use Rattle.tt_catalog.proofs.landing.begin_layout.Goals as goal

pub returns-clause-ok : goal.returns-clause-ok
returns-clause-ok c =
    let at = kept_at c.args.tables.now.items c.args.table c.requires.changed c.requires.is in
    let old : c.index_mut.result.now ≡ c.requires.changed = c.index_mut.ensures.value ∙ get_or_from_slice_get c.args.tables.now.items (c.args.table - 1) c.requires.changed c.index_mut.result.now at.1 in
    put_at c.change_layout.result (table_after c.args.moment c.args.gone.now c.args.added.now) c.args.tables.now.items (c.args.table - 1) c.requires.changed c.index_mut.result.now c.change_layout.new.table at.1 old c.change_layout.ensures.ok
