use Rattle.std.proofs.Common.{◌∙◌, sym, refl}
use Rattle.std.proofs.lemmas.List.{length-map}
use Rattle.tt_value.specs.declared.value.Column.{Column}
use Rattle.tt_partition.specs.Table.{Table}
use Rattle.tt_partition.specs.Cuts.{kinds_of}
use Rattle.tt_partition.proofs.ImageLaws.{built_one, table_in_is}
use Rattle.tt_partition.proofs.partition.build_one.Goals as goal

pub invariant_of-result : goal.invariant_of-result
invariant_of-result c =
    let table : Table = record { kinds = kinds_of c.args.schema.now; rows = c.args.rows.now } in
    built_one c.in_ok-image.image.items table c.in_ok-zones.zones.items c.len.result _ c.requires c.in_ok-image.ensures c.in_ok-zones.ensures
    (c.len.ensures ∙ sym (length-map c.args.schema.now.columns (λ (column : Column). column.kind))) refl

pub returns : goal.returns
returns c = table_in_is c.in_ok-image.image.items (record { kinds = kinds_of c.args.schema.now; rows = c.args.rows.now }) c.requires c.in_ok-image.ensures
