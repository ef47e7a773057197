-- Two lists with one bag are each other in another order.
use Rattle.std.specs.Prelude.{Bool, List, [], false, true, ◌∷◌, ◌≡◌}
use Rattle.std.proofs.Common.{cond, subst}
use Rattle.tt_query_laws.proofs.Rearranged.{Rearranges, backwards, chains, exchanges, itself, keeps}
use Rattle.tt_value.specs.declared.value.Row.{Row}
use Rattle.tt_value.specs.values.Bags.{bag_of, insert_row}
use Rattle.tt_value.specs.values.Order.{is_above}

inserted_if : (test : Bool) (x r : Row) (rows : List Row) → Rearranges (x ∷ rows) (insert_row x rows) → Rearranges (x ∷ r ∷ rows) (cond test (r ∷ insert_row x rows) (x ∷ r ∷ rows))
inserted_if true x r rows later = chains (x ∷ r ∷ rows) (r ∷ x ∷ rows) (r ∷ insert_row x rows) (exchanges x r rows) (keeps r (x ∷ rows) (insert_row x rows) later)
inserted_if false x r rows later = itself (x ∷ r ∷ rows)

inserted : (x : Row) (rows : List Row) → Rearranges (x ∷ rows) (insert_row x rows)
inserted x [] = itself (x ∷ [])
inserted x (r ∷ rows) = inserted_if (is_above x r) x r rows (inserted x rows)

in_bag : (rows : List Row) → Rearranges rows (bag_of rows)
in_bag [] = itself []
in_bag (row ∷ rows) = chains (row ∷ rows) (row ∷ bag_of rows) (bag_of (row ∷ rows)) (keeps row rows (bag_of rows) (in_bag rows)) (inserted row (bag_of rows))

pub rearranged_bag : (rows others : List Row) → bag_of rows ≡ bag_of others → Rearranges rows others
rearranged_bag rows others same =
    chains rows (bag_of others) others (subst (λ bag. Rearranges rows bag) same (in_bag rows)) (backwards others (bag_of others) (in_bag others))
