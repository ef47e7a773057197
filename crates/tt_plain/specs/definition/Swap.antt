-- ALTER TABLE SWAP WITH: the names of two tables are exchanged at once. The tables keep all else, and a table may be swapped with itself.
use Rattle.std.specs.Prelude.{List, [], ◌∷◌}
use Rattle.tt_plain.specs.declared.store.PlainTable.{PlainTable}
use Rattle.tt_plain.specs.effect.Effect.{Renamed, TableChange}

abbrev pub swap_changes : PlainTable → PlainTable → List TableChange
swap_changes a b = Renamed ((a.number, b.name) ∷ (b.number, a.name) ∷ []) ∷ []
