-- Rows that have a property, through bags and versions.
use Rattle.std.specs.List.{last_or}
use Rattle.std.specs.Prelude.{Bool, List, None, Option, Some, [], false, filter, if◌then◌else◌, true, ℕ, ◌++◌, ◌∷◌}
use Rattle.tt_plain.proofs.law.Lists.{every-append, every-filter}
use Rattle.tt_plain.specs.declared.store.PlainPending.{PlainPending}
use Rattle.tt_plain.specs.declared.store.PlainTable.{PlainTable}
use Rattle.tt_plain.specs.declared.store.Version.{Version}
use Rattle.tt_plain.specs.law.Lists.{Every}
use Rattle.tt_plain.specs.opening.Seen.{rows_with}
use Rattle.tt_plain.specs.stored.Tables.{current_rows, is_begun_at, rows_at, rows_of}
use Rattle.tt_value.specs.declared.value.Row.{Row}
use Rattle.tt_value.specs.values.Bags.{bag_minus, bag_of, bag_plus, insert_row, without_one}
use Rattle.tt_value.specs.values.Order.{is_above, is_same_row}

-- ---- bags

module _ (P : Row → Type 0) where
  every_either : (test : Bool) (a b : List Row) → Every P a → Every P b → Every P (if test then a else b)
  every_either true a b left right = left
  every_either false a b left right = right

  every-insert : (row : Row) (rows : List Row) → P row → Every P rows → Every P (insert_row row rows)
  every-insert row [] here all = (here, tt)
  every-insert row (r ∷ rows) here all =
      every_either (is_above row r) (r ∷ insert_row row rows) (row ∷ r ∷ rows) (all.0, every-insert row rows here all.1) (here, all)

  every-bag : (rows : List Row) → Every P rows → Every P (bag_of rows)
  every-bag [] all = tt
  every-bag (row ∷ rows) all = every-insert row (bag_of rows) all.0 (every-bag rows all.1)

  pub every-plus : (a b : List Row) → Every P a → Every P b → Every P (bag_plus a b)
  every-plus a b left right = every-bag (a ++ b) (every-append P a b left right)

  every-without : (row : Row) (rows : List Row) → Every P rows → Every P (without_one row rows)
  every-without row [] all = tt
  every-without row (r ∷ rows) all = every_either (is_same_row row r) rows (r ∷ without_one row rows) all.1 (all.0, every-without row rows all.1)

  every-minus : (rows gone : List Row) → Every P rows → Every P (bag_minus rows gone)
  every-minus rows [] all = all
  every-minus rows (row ∷ gone) all = every-minus (without_one row rows) gone (every-without row rows all)

  pub every-with : (rows : List Row) (pending : PlainPending) → Every P rows → Every P pending.added → Every P (rows_with rows pending)
  every-with rows pending all added = every-minus (bag_plus rows pending.added) pending.gone (every-plus rows pending.added all added)

  -- ---- versions

  abbrev IsVersion : Version → Type 0
  IsVersion version = Every P version.rows

  every-last : (before : Option Version) (versions : List Version) → Every P (rows_of before) → Every IsVersion versions → Every P (rows_of (last_or before versions))
  every-last before [] here all = here
  every-last before (version ∷ versions) here all = every-last (Some version) versions all.0 all.1

  pub every-current : (table : PlainTable) → Every (λ (version : Version). Every P version.rows) table.versions → Every P (current_rows table)
  every-current table all = every-last None table.versions tt all

  pub every-at : (table : PlainTable) (moment : ℕ) → Every (λ (version : Version). Every P version.rows) table.versions → Every P (rows_at table moment)
  unfolding rows_at
  every-at table moment all =
      every-last None (filter (is_begun_at moment) table.versions) tt (every-filter IsVersion (is_begun_at moment) table.versions all)
