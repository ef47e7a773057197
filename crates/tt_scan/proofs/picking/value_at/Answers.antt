use Rattle.std.proofs.Common.{◌≡◌, ◌∙◌, ℤ, List, Option, map, ap, sym, subst}
use Rattle.std.specs.Prelude.{slice_get}
use Rattle.std.specs.List.{AllByRecursion}
use Rattle.tt_value.specs.declared.value.Kind.TheVariants as kinds
use Rattle.tt_partition.specs.Table.{IsOf}
use Rattle.tt_partition.specs.ImageReading.{number_value}
use Rattle.tt_partition.specs.ColumnView.{joined, IsValues}
use Rattle.tt_partition.proofs.Picks.{date_is}
use Rattle.tt_scan.proofs.picking.value_at.Goals as goal

pub date_value-requires : goal.date_value-requires
date_value-requires c =
    let days : List (Option ℤ) = c.in-Dates.days in
    let all : AllByRecursion (IsOf kinds.Date) (map (number_value kinds.Date) days) = subst IsValues c.in-Dates.is c.requires in
    let read : c.number_at-in-Dates.result ≡ joined (slice_get days c.args.at) = c.number_at-in-Dates.ensures ∙ ap (λ (t : List (Option ℤ)). joined (slice_get t c.args.at)) c.items-in-Dates.ensures in
    subst (λ (o : Option ℤ). IsOf kinds.Date (number_value kinds.Date o)) (sym read) (date_is days c.args.at all)
