use Rattle.std.proofs.Common.{◌≡◌, ◌∙◌, List, ◌++◌, length, ap, sym, arith}
use Rattle.std.proofs.lemmas.List.{take_all}
use Rattle.tt_value.specs.declared.value.Column.{Column}
use Rattle.tt_value.specs.declared.value.Value.{Value}
use Rattle.tt_value.specs.declared.value.Kind.{Kind}
use Rattle.std.proofs.lemmas.List.{length-map}
use Rattle.tt_partition.specs.Table.{columns_of}
use Rattle.tt_partition.specs.Image.{columns_bytes}
use Rattle.tt_partition.specs.Cuts.{kinds_of}
use Rattle.tt_partition.proofs.TableLaws.{columns_count}
use Rattle.tt_partition.proofs.ColumnPlaces.{values_fit, column_pushed}
use Rattle.tt_partition.proofs.writing.push_columns.Goals as goal

pub push_column_at-requires-clause-values : goal.push_column_at-requires-clause-values
push_column_at-requires-clause-values c = values_fit c.args.schema.now c.items-columns.result.now c.loop-place.place c.index-columns-place.result c.args.rows.now c.items-columns.ensures c.loop-place-test.true c.requires

pub loop-place-preserved : goal.loop-place-preserved
loop-place-preserved c = column_pushed c.args.schema.now c.items-columns.result.now c.loop-place.place c.index-columns-place.result c.args.rows.now c.args.out.now.items c.loop-place.out.items c.push_column_at.new.out.items c.items-columns.ensures c.loop-place-test.true c.loop-place.invariant c.in_ok-push_column_at.ensures

pub returns : goal.returns
returns c =
    let cs : List (Kind × List Value) = columns_of (record { kinds = kinds_of c.args.schema.now; rows = c.args.rows.now }) in
    let count : length cs ≡ length c.items-columns.result.now = columns_count (record { kinds = kinds_of c.args.schema.now; rows = c.args.rows.now }) ∙ length-map c.args.schema.now.columns (λ (column : Column). column.kind) ∙ ap length (sym c.items-columns.ensures) in
    let past = c.loop-place-test.false in
    c.loop-place.invariant ∙ ap (λ (t : List (Kind × List Value)). c.args.out.now.items ++ columns_bytes t) (take_all c.loop-place.place cs (omega (arith, count, past)))
