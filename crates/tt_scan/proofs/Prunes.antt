-- What the zones of a part say of the rows that a predicate takes.
use Rattle.std.proofs.Common.{◌≡◌, Bool, true, false, List, [], ◌∷◌, length, map, Some, None, refl, ap, sym, ◌∙◌, inl, inr}
use Rattle.std.specs.Prelude.{not, ◌&&◌}
use Rattle.std.specs.List.{filter, range_with_len}
use Rattle.std.proofs.lemmas.List.{length-map}
use Rattle.std.proofs.lemmas.Bool.{false≢true}
use Rattle.tt_value.specs.declared.value.Column.{Column}
use Rattle.tt_value.specs.declared.value.Row.{Row}
use Rattle.tt_value.specs.declared.value.Schema.{Schema}
use Rattle.tt_value.specs.declared.predicate.Predicate.{Predicate}
use Rattle.tt_value.specs.declared.predicate.Truth.{Truth}
use Rattle.tt_value.specs.declared.predicate.Truth.TheVariants.{True, False, Unknown}
use Rattle.tt_value.specs.trees.Predicates.{takes, truth_of}
use Rattle.tt_value.specs.trees.Scope.{table_scope}
use Rattle.tt_value.specs.trees.Truths.{is_true}
use Rattle.tt_zone.specs.declared.truth_set.TruthSet.{TruthSet}
use Rattle.tt_zone.specs.Possible.{possible, may_match}
use Rattle.tt_zone.specs.TruthSets.{has}
use Rattle.tt_zone.specs.Zones.{zone_of, column_at, zones_of}
use Rattle.tt_zone.proofs.TrueZones.{Has, has_to}
use Rattle.tt_zone.proofs.PossibleLaws.{table_leaves, table_prunes}
use Rattle.tt_partition.specs.Cuts.{kinds_of}
use Rattle.tt_partition.specs.Table as parts
use Rattle.tt_partition.specs.Table.{Table}
use Rattle.tt_scan.specs.Held.{is_sure, rows_taken}

pub none_pass : (test : Row → Bool) (rows : List Row) → ((row : Row) → Has rows row → test row ≡ false) → filter test rows ≡ []
none_pass test [] each = refl
none_pass test (row ∷ rows) each = rw (each row (inl refl)) (none_pass test rows (λ other there. each other (inr there)))

pub all_pass : (test : Row → Bool) (rows : List Row) → ((row : Row) → Has rows row → test row ≡ true) → filter test rows ≡ rows
all_pass test [] each = refl
all_pass test (row ∷ rows) each = rw (each row (inl refl)) (ap (λ xs. row ∷ xs) (all_pass test rows (λ other there. each other (inr there))))

-- without a predicate each row is taken
pub all_taken : (schema : Schema) (rows : List Row) → rows_taken schema None rows ≡ rows
all_taken schema rows = all_pass (takes (table_scope schema) None) rows (λ row there. refl)

-- the zones of a part of the schema's columns
part_zones : (schema : Schema) (table : Table) → table.kinds ≡ kinds_of schema → parts.zones_of table ≡ zones_of schema table.rows
part_zones schema table kinds =
    ap (λ n. map (λ k. zone_of (column_at k table.rows)) (range_with_len 0 n)) (ap length kinds ∙ length-map schema.columns (λ (column : Column). column.kind))

-- where none may match, none is taken
pub pruned : (schema : Schema) (table : Table) (p : Predicate) → table.kinds ≡ kinds_of schema → may_match schema (parts.zones_of table) p ≡ false → rows_taken schema (Some p) table.rows ≡ []
pruned schema table p kinds none =
    none_pass (takes (table_scope schema) (Some p)) table.rows (λ row there. table_prunes schema table.rows p (ap (λ zs. may_match schema zs p) (sym (part_zones schema table kinds)) ∙ none) row (has_to table.rows row there))

pub not_false : (b : Bool) → not b ≡ true → b ≡ false
not_false true is = absurd (false≢true is)
not_false false is = refl

only_true : (set : TruthSet) (t : Truth) → has set t ≡ true → is_sure set ≡ true → is_true t ≡ true
only_true set True h sure = refl
only_true set False h sure = absurd (false≢true (sym (ap (λ b. not b && not set.has_unknown) h) ∙ sure))
only_true set Unknown h sure = absurd (false≢true (sym (both_false (not set.has_false) ∙ refl) ∙ (sym (ap (λ b. not set.has_false && not b) h) ∙ sure)))
  where
    both_false : (b : Bool) → (b && false) ≡ false
    both_false true = refl
    both_false false = refl

-- where each one must match, each is taken
pub each_taken : (schema : Schema) (table : Table) (p : Predicate) → table.kinds ≡ kinds_of schema → is_sure (possible (table_scope schema) (parts.zones_of table) p) ≡ true → rows_taken schema (Some p) table.rows ≡ table.rows
each_taken schema table p kinds sure =
    all_pass (takes (table_scope schema) (Some p)) table.rows (λ row there.
    only_true (possible (table_scope schema) (parts.zones_of table) p) (truth_of (table_scope schema) row p)
    (ap (λ zs. has (possible (table_scope schema) zs p) (truth_of (table_scope schema) row p)) (part_zones schema table kinds) ∙ table_leaves schema table.rows p row (has_to table.rows row there))
    sure)
