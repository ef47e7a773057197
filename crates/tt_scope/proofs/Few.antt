-- Tables of few columns have few columns together.
use Rattle.std.proofs.Common.{◌≡◌, ◌*◌, ◌≤◌, List, [], ◌∷◌, length, arith, refl, All}
use Rattle.std.specs.List.{zip}
use Rattle.std.proofs.lemmas.List.{length-append}
use Rattle.std.proofs.lemmas.List.Elements.{All-head, All-tail}
use Rattle.tt_value.specs.declared.value.Schema.{Schema}
use Rattle.tt_value.specs.declared.name.TableName.{TableName}
use Rattle.tt_sql.specs.declared.query.Query.{Query}
use Rattle.tt_sql.specs.declared.query.Join.{Join}
use Rattle.tt_sql.specs.meaning.Scopes.{query_tables}
use Rattle.tt_scope.specs.Places.{HasPlaces, joined_tables, columns_of}

abbrev IsNarrow : Schema → Type 0
IsNarrow schema = length schema.columns ≤ 65536

few : (tables : List TableName) (schemas : List Schema) → All IsNarrow schemas → length (columns_of (zip tables schemas)) ≤ 65536 * length schemas
few [] schemas narrow = omega arith
few (table ∷ tables) [] narrow = omega arith
few (table ∷ tables) (schema ∷ schemas) narrow =
    let first : IsNarrow schema = All-head IsNarrow schema schemas narrow in
    omega (arith, length-append schema.columns (columns_of (zip tables schemas)), first, few tables schemas (All-tail IsNarrow schema schemas narrow))

pub few-places : (schemas : List Schema) (query : Query) → length schemas ≤ 65536 → All IsNarrow schemas → HasPlaces schemas query
few-places schemas query short narrow = omega (arith, few (query_tables query) schemas narrow)

-- no more tables, no more columns
pub no_joins : (joins : List Join) (schemas : List Schema) → length joins ≡ 0 → length (columns_of (joined_tables joins schemas)) ≡ 0
no_joins [] schemas none = refl
no_joins (join ∷ joins) schemas none = absurd (omega (arith, none))

pub no_schemas : (joins : List Join) (schemas : List Schema) → length schemas ≡ 0 → length (columns_of (joined_tables joins schemas)) ≡ 0
no_schemas [] schemas none = refl
no_schemas (join ∷ joins) [] none = refl
no_schemas (join ∷ joins) (schema ∷ schemas) none = absurd (omega (arith, none))
