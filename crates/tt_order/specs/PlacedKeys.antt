-- The keys of an order whose places in the rows are known.
use Rattle.std.specs.Prelude.{List, [], ◌∷◌, map, if◌then◌else◌}
use Rattle.std.specs.Ordering.{then_cmp, ordering_reverse}
use Rattle.std.specs.declared.cmp.Ordering.{Ordering}
use Rattle.tt_value.specs.declared.value.Row.{Row}
use Rattle.tt_value.specs.values.Order.{value_cmp, row_cmp}
use Rattle.tt_value.specs.trees.Scope.{Scope}
use Rattle.tt_sql.specs.declared.query.Key.{Key}
use Rattle.tt_sql.specs.declared.query.Query.{Query}
use Rattle.tt_sql.specs.declared.query.Selection.{Selection}
use Rattle.tt_sql.specs.meaning.Queries.{key_place, value_at}
use Rattle.tt_order.specs.declared.keys.PlacedKey.{PlacedKey}

abbrev pub placed : Scope → Selection → Key → PlacedKey
placed scope selection key = record { place = key_place scope selection key.by; descending = key.descending }

abbrev pub placed_keys : Scope → Query → List PlacedKey
placed_keys scope query = map (placed scope query.selection) query.order

-- DESC reverses one key, NULL included
abbrev pub by_key : PlacedKey → Row → Row → Ordering
by_key key a b =
    let ascending = value_cmp (value_at key.place a) (value_at key.place b) in
    if key.descending then ordering_reverse ascending else ascending

-- by the keys, and what ties by whole rows
abbrev pub by_keys : List PlacedKey → Row → Row → Ordering
by_keys [] = row_cmp
by_keys (key ∷ keys) = then_cmp (by_key key) (by_keys keys)
