-- What a statement sees of a table fits it.
use Rattle.std.specs.Prelude.{List, None, Option, Some, nat_abs, refl, slice_get, ℕ, ◌-◌, ◌==◌, ◌≡◌}
use Rattle.std.proofs.Common.{ap, subst, sym, ◌∙◌}
use Rattle.std.proofs.lemmas.Option.{same_Some}
use Rattle.tt_fitting_laws.proofs.Kept.{Fits, HasSchema, RowsFit}
use Rattle.tt_fitting_laws.proofs.Rows.{every-at, every-current, every-with}
use Rattle.tt_fitting_laws.proofs.Sessions.{PendingFits, own_fits}
use Rattle.tt_plain.proofs.Answers.{bind_some}
use Rattle.tt_plain.proofs.Tests.{same_number}
use Rattle.tt_plain.proofs.law.Gives.{Gives, gives_at}
use Rattle.tt_plain.proofs.law.Lists.{every_at}
use Rattle.tt_plain.proofs.law.session.Alone.{IsDue}
use Rattle.tt_plain.proofs.law.session.Views.{every_found, named}
use Rattle.tt_plain.specs.ValueKinds.{IsRowOf}
use Rattle.tt_plain.specs.asked.Asked.{Asked, state_asked, table_asked}
use Rattle.tt_plain.specs.asked.Carried.{Carried}
use Rattle.tt_plain.specs.declared.store.PlainPending.{PlainPending}
use Rattle.tt_plain.specs.declared.store.PlainTable.{PlainTable}
use Rattle.tt_plain.specs.law.Fitting.{HasFittingRows}
use Rattle.tt_plain.specs.law.Lists.{Every}
use Rattle.tt_plain.specs.opening.Point.{At, NoStatement, NotEnded, Point, point_of}
use Rattle.tt_plain.specs.opening.Seen.{changed_rows, pending_of, rows_at_point, rows_by_clause, rows_seen, visible_rows}
use Rattle.tt_plain.specs.stored.Tables.{current_rows}
use Rattle.tt_plain_laws.proofs.guard.Ends.{found_passes}
use Rattle.tt_sql.specs.declared.query.Clause.{Clause}
use Rattle.tt_sql.specs.declared.query.Source.{Source}
use Rattle.tt_value.specs.declared.name.TableName.{TableName}
use Rattle.tt_value.specs.declared.value.Row.{Row}

module _ (carried : Carried) (asked : Asked) (due : IsDue carried asked) (fits : Fits carried asked.program asked.store) where
  abbrev pub FitTable : PlainTable → List Row → Type 0
  FitTable table rows = Every (IsRowOf table.schema) rows

  pub table_fits : (place : ℕ) (table : PlainTable) → slice_get asked.store.tables place ≡ Some table → HasFittingRows table
  table_fits place table at = every_at HasFittingRows asked.store.tables place table fits.tables at

  pub current_fits : (place : ℕ) (table : PlainTable) → slice_get asked.store.tables place ≡ Some table → FitTable table (current_rows table)
  current_fits place table at = every-current (IsRowOf table.schema) table (table_fits place table at).fit

  -- the rows that fit the table of a number fit the table that is found there
  pub of_table : (number : ℕ) (rows : List Row) (table : PlainTable) → RowsFit asked.store.tables number rows → slice_get asked.store.tables (number - 1) ≡ Some table → FitTable table rows
  of_table number rows table there at = subst (λ (t : PlainTable). FitTable t rows) (same_Some there.table table (sym there.table_is ∙ at)) there.so

  pub visible_fits : (table : PlainTable) → slice_get asked.store.tables (table.number - 1) ≡ Some table → FitTable table (visible_rows (state_asked asked) table)
  unfolding visible_rows
  visible_fits table at = by (pending_of (state_asked asked) table.number) refl
    where
      by : (found : Option PlainPending) → pending_of (state_asked asked) table.number ≡ found → FitTable table (changed_rows (current_rows table) found)
      by None e = current_fits (table.number - 1) table at
      by (Some pending) e =
          let same : pending.table ≡ table.number = same_number pending.table table.number (found_passes (λ (p : PlainPending). p.table == table.number) (state_asked asked).pending pending e) in
          let there : RowsFit asked.store.tables pending.table pending.added =
          every_found (PendingFits carried asked due fits) (λ (p : PlainPending). p.table == table.number) (state_asked asked).pending pending (own_fits carried asked due fits).pending e in
          every-with (IsRowOf table.schema) (current_rows table) pending (current_fits (table.number - 1) table at)
          (of_table pending.table pending.added table there (ap (λ (n : ℕ). slice_get asked.store.tables (n - 1)) same ∙ at))

  point_fits : (table : PlainTable) (point : Point) → slice_get asked.store.tables (table.number - 1) ≡ Some table → Gives (FitTable table) (rows_at_point table point)
  point_fits table (At x) at = every-at (IsRowOf table.schema) table (nat_abs x) (table_fits (table.number - 1) table at).fit
  point_fits table NoStatement at = tt
  point_fits table NotEnded at = tt

  clause_fits : (table : PlainTable) (clause : Option Clause) → slice_get asked.store.tables (table.number - 1) ≡ Some table → Gives (FitTable table) (rows_by_clause asked table clause)
  clause_fits table None at = visible_fits table at
  clause_fits table (Some clause) at = point_fits table (point_of asked clause) at

  -- ---- tables that are named

  pub named_there : (name : TableName) (table : PlainTable) → table_asked asked name ≡ Some table → HasSchema asked.store.tables table.number table.schema
  named_there name table e =
      let is = (named carried asked due name table e).is in
      record { table = table; from_one = is.from_one; table_is = is.there; so = refl }

  pub record IsKnown (s : Source) (seen : ℕ × List Row) : Type 0 where
    pub table : PlainTable
    pub is : table_asked asked s.table ≡ Some table
    pub has : HasSchema asked.store.tables seen.0 table.schema
    pub rows : FitTable table seen.1

  pub seen_known : (s : Source) (seen : ℕ × List Row) → rows_seen asked s ≡ Some seen → IsKnown s seen
  unfolding rows_seen
  seen_known s seen e =
      let found = bind_some (table_asked asked s.table) _ seen e in
      let rows = bind_some (rows_by_clause asked found.0 s.clause) _ seen found.2 in
      let at = (named carried asked due s.table found.0 found.1).is.there in
      subst (IsKnown s) (same_Some (found.0.number, rows.0) seen rows.2)
      (record { table = found.0; is = found.1; has = named_there s.table found.0 found.1; rows = gives_at (FitTable found.0) (rows_by_clause asked found.0 s.clause) rows.0 (clause_fits found.0 s.clause at) rows.1 })
