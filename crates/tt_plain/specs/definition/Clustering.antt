-- ALTER TABLE on clustering: the key, and whether reclustering is suspended, which a new key leaves as it is.
use Rattle.std.specs.Prelude.{Bool, List, Option, [], ℕ, ◌∷◌}
use Rattle.tt_plain.specs.declared.store.PlainTable.{PlainTable}
use Rattle.tt_plain.specs.effect.Effect.{NewKey, Suspended, TableChange}

abbrev pub key_changes : PlainTable → Option ℕ → List TableChange
key_changes table key = NewKey table.number key ∷ []

abbrev pub suspension_changes : PlainTable → (suspended : Bool) → List TableChange
suspension_changes table suspended = Suspended table.number suspended ∷ []
