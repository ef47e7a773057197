use Rattle.std.proofs.Common.{◌≡◌, ◌∙◌, ℤ, List, Option, length, map, ap, sym, subst, arith}
use Rattle.std.specs.Prelude.{All}
use Rattle.std.specs.List.{AllByRecursion}
use Rattle.std.proofs.lemmas.List.{length-map}
use Rattle.std.proofs.lemmas.List.Elements.{All-from_recursion}
use Rattle.tt_value.specs.declared.value.Kind.{Kind}
use Rattle.tt_value.specs.declared.value.Value.{Value}
use Rattle.tt_value.specs.declared.value.Row.{Row}
use Rattle.tt_value.specs.trees.Scope.{value_or_null}
use Rattle.std.specs.Prelude.{slice_get}
use Rattle.tt_value.specs.columns.Body.{present}
use Rattle.tt_intcol.specs.IntBody.{IsDay}
use Rattle.tt_zone.specs.Zones.{column_at}
use Rattle.tt_partition.specs.Table.{IsOf}
use Rattle.tt_partition.specs.Image.{number_in}
use Rattle.tt_partition.proofs.ColumnsAgain.{days_present}
use Rattle.tt_partition.proofs.writing.push_column_at.Goals as goal

pub push_numbers-requires : goal.push_numbers-requires
push_numbers-requires c =
    let vs : List Value = column_at c.args.place c.args.rows.now in
    let same : c.deref-in_default.result.now ≡ map number_in vs = c.deref-in_default.ensures.value ∙ c.in_ok-numbers-in_default.ensures in
    let len : length c.deref-in_default.result.now ≡ length c.args.rows.now = ap length same ∙ length-map vs number_in ∙ length-map c.args.rows.now (λ (row : Row). value_or_null (slice_get row.values c.args.place)) in
    let few = c.requires.few in
    record {
      kind = c.in_default.not-Varchar;
      few = omega (arith, len, few);
      days = λ e. subst (λ (ns : List (Option ℤ)). All IsDay (present ns)) (sym same) (All-from_recursion IsDay (present (map number_in vs)) (days_present vs (subst (λ (k : Kind). AllByRecursion (IsOf k) vs) e c.requires.values)));
    }
