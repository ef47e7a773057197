-- What an INSERT of written rows does, where it is not refused: it adds the rows of its tuples, which fit the table.
use Rattle.std.proofs.Common.{◌≡◌, ℕ, Bool, true, false, List, [], ◌∷◌, ◌++◌, length, map, All, None, refl, ap, sym, ◌∙◌, subst, arith}
use Rattle.std.specs.Prelude.{◌==◌, if◌then◌else◌}
use Rattle.std.specs.Option.{option_map}
use Rattle.std.specs.List.{AllByRecursion}
use Rattle.std.proofs.lemmas.Bool.Decides.{nat_tests}
use Rattle.std.proofs.lemmas.List.Elements.{All-nil, All-cons, recursion_from_All}
use Rattle.tt_value.specs.declared.value.Value.{Value}
use Rattle.tt_value.specs.declared.value.Value.TheVariants.{Null, Int, Date, Text}
use Rattle.tt_value.specs.declared.value.Schema.{Schema}
use Rattle.tt_value.specs.declared.value.Row.{Row}
use Rattle.tt_value.specs.declared.name.Literal.{Literal}
use Rattle.tt_value.specs.values.RowText.{IsPrintable, IsPrintableValue}
use Rattle.tt_sql.specs.declared.change.Dml.TheVariants as dml
use Rattle.tt_sql.specs.declared.change.Insert.{Insert}
use Rattle.tt_sql.specs.declared.change.InsertSource.{InsertSource}
use Rattle.tt_sql.specs.declared.change.InsertSource.TheVariants as source
use Rattle.tt_sql.specs.declared.change.Tuple.{Tuple}
use Rattle.tt_sql.specs.declared.statement.Statement.TheVariants as statement
use Rattle.tt_sql.specs.meaning.Changes.{Changed, Changes, Records, adds, change_of, first_missing, insert_change, inserted_values, stored_row, stores, tuple_values}
use Rattle.tt_sql.specs.text.StatementOf.{most_levels}
use Rattle.tt_sql.specs.trees.Expressions.{IsWrittenLiteral}
use Rattle.tt_sql.specs.trees.Leaves.{IsWrittenValue}
use Rattle.tt_sql.specs.trees.Lists.{Each, IsListed}
use Rattle.tt_sql.specs.trees.Statements.{IsWrittenInsertSource, IsWrittenTuple}
use Rattle.tt_plain.proofs.Lists.{nil_both}
use Rattle.tt_plain.proofs.PrintableRows.{tuples_printable}
use Rattle.tt_plain.specs.Places.{each, if_there, table_begin}
use Rattle.tt_plain.specs.PrintableRows.{CanBeWritten}
use Rattle.tt_plain.specs.TypingRefusal.{IsWellTyped}
use Rattle.tt_plain.specs.ChangeKinds.{SourceHasKinds}
use Rattle.tt_plain.specs.ValueKinds.{IsRowOf}
use Rattle.tt_plain.specs.WrongCounts.{miscounted_source, miscounted_tuple, named_again, unless_equal, width}
use Rattle.tt_typer.proofs.Accepted.{well_typed}
use Rattle.tt_typer.proofs.ChangedRows.{change_adds}
use Rattle.tt_partition.specs.Fits.{FitSchema}
use Rattle.tt_change.specs.Accepted.{IsAccepted}
use Rattle.tt_change.specs.Cells.{stored_tuples}
use Rattle.tt_change.proofs.FittingRows.{rows_fit}
use Rattle.tt_change.proofs.NoneMissing.{left_accepted, none_missing, tuples_accepted}
use Rattle.tt_change.proofs.TupleCells.{written_twice}

-- an INSERT of written rows reads no table
pub reads_nothing : (schema : Schema) (sources : List Schema) (read : List Row) (insert : Insert) (tuples : List Tuple) → insert.source ≡ source.Values tuples → insert_change schema sources read insert ≡ insert_change schema [] [] insert
reads_nothing schema sources read insert tuples are =
    let over : List Schema → List Row → InsertSource → Changed = λ ss rows s. adds schema (option_map (map (stored_row schema insert.columns)) (inserted_values ss rows s)) in
    ap (over sources read) are ∙ sym (ap (over [] []) are)

equal_counts : (place a b : ℕ) → unless_equal place a b ≡ [] → a ≡ b
equal_counts place a b none = by (a == b) refl none
  where
    by : (test : Bool) → (a == b) ≡ test → (if test then [] else place ∷ []) ≡ [] → a ≡ b
    by true same none = grind (arith, nat_tests)
    by false differ none = absurd cc

all_counted : (wanted : ℕ) (tuples : List Tuple) → each (miscounted_tuple wanted) tuples ≡ [] → All (λ (t : Tuple). length t.values ≡ wanted) tuples
all_counted wanted [] none = All-nil (λ (t : Tuple). length t.values ≡ wanted)
all_counted wanted (t ∷ tuples) none =
    let parts = nil_both (miscounted_tuple wanted t) (each (miscounted_tuple wanted) tuples) none in
    All-cons (λ (t : Tuple). length t.values ≡ wanted) t tuples (equal_counts t.place (length t.values) wanted parts.0) (all_counted wanted tuples parts.1)

-- ---- values that can be written

written_printable : (v : Value) → IsWrittenValue v → IsPrintableValue v
written_printable Null is = tt
written_printable (Int n) is = tt
written_printable (Date day) is = is
written_printable (Text bytes) is = tt

literals_printable : (literals : List Literal) → Each IsWrittenLiteral literals → Each (λ (l : Literal). IsPrintableValue l.value) literals
literals_printable [] all = tt
literals_printable (l ∷ literals) all = (written_printable l.value all.0, literals_printable literals all.1)

listed_printable : (literals : List Literal) → IsListed IsWrittenLiteral literals → Each (λ (l : Literal). IsPrintableValue l.value) literals
listed_printable [] is = absurd is
listed_printable (l ∷ literals) is = (written_printable l.value is.0, literals_printable literals is.1)

each_printable : (tuples : List Tuple) → Each IsWrittenTuple tuples → Each CanBeWritten tuples
each_printable [] all = tt
each_printable (t ∷ tuples) all = (listed_printable t.values all.0, each_printable tuples all.1)

tuples_written : (tuples : List Tuple) → IsListed IsWrittenTuple tuples → Each CanBeWritten tuples
tuples_written [] is = absurd is
tuples_written (t ∷ tuples) is = (listed_printable t.values is.0, each_printable tuples is.1)

-- ---- an INSERT that is not refused

module _ (schema : Schema) (insert : Insert) (is : IsAccepted schema insert) (tuples : List Tuple) (are : insert.source ≡ source.Values tuples) where
  typed : IsWellTyped (schema ∷ []) (statement.Dml (dml.Insert insert))
  typed = well_typed (schema ∷ []) (statement.Dml (dml.Insert insert)) is.typed

  pub counted : All (λ (t : Tuple). length t.values ≡ width schema insert.columns) tuples
  counted =
      all_counted (width schema insert.columns) tuples
      (nil_both (if_there (named_again schema) insert.columns) (each (miscounted_tuple (width schema insert.columns)) tuples)
      (subst (λ s. if_there (named_again schema) insert.columns ++ miscounted_source [] (width schema insert.columns) s ≡ []) are typed.counts)).1

  -- the rows of the tuples, and nothing else
  pub adds_them : insert_change schema [] [] insert ≡ Changes [] (stored_tuples schema insert.columns tuples) (length (stored_tuples schema insert.columns tuples))
  adds_them =
      let rows = map (stored_row schema insert.columns) (map tuple_values tuples) in
      let filled : first_missing schema rows ≡ None =
      none_missing schema insert.columns (table_begin insert.table) tuples is.named (tuples_accepted schema insert tuples are typed) (left_accepted schema insert tuples are typed) in
      ap (λ (s : InsertSource). adds schema (option_map (map (stored_row schema insert.columns)) (inserted_values [] [] s))) are
      ∙ ap (stores [] rows (length rows)) filled
      ∙ ap (λ (rows : List Row). Changes [] rows (length rows)) (written_twice schema insert.columns tuples)

  own_kinds : AllByRecursion (IsRowOf schema) (stored_tuples schema insert.columns tuples)
  unfolding change_of
  own_kinds =
      let rows = stored_tuples schema insert.columns tuples in
      change_adds schema [] [] [] (Records []) (dml.Insert insert) is.named typed (All-nil (IsRowOf schema)) (subst (SourceHasKinds [] []) (sym are) tt) (All-nil (IsRowOf schema)) [] rows (length rows) adds_them

  printable : All IsPrintable (stored_tuples schema insert.columns tuples)
  printable =
      subst (All IsPrintable) (written_twice schema insert.columns tuples)
      (tuples_printable schema insert.columns tuples (tuples_written tuples (subst (IsWrittenInsertSource most_levels) are is.written)))

  pub fit : FitSchema schema (stored_tuples schema insert.columns tuples)
  fit =
      let rows = stored_tuples schema insert.columns tuples in
      rows_fit schema rows own_kinds (recursion_from_All IsPrintable rows printable)
