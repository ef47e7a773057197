-- What an UPDATE or a DELETE does is alike on rows in another order.
use Rattle.std.specs.List.{list_any, position, prefix_len, range_with_len}
use Rattle.std.specs.Prelude.{Bool, List, None, Option, Some, [], false, filter, length, map, nat_lt, not, refl, true, ℕ, ◌+◌, ◌||◌, ◌∷◌, ◌≡◌}
use Rattle.std.proofs.Common.{ap, cond, sym, ◌∙◌}
use Rattle.tt_value.specs.declared.value.Row.{Row}
use Rattle.tt_value.specs.declared.value.Schema.{Schema}
use Rattle.tt_value.specs.trees.Predicates.{takes}
use Rattle.tt_value.specs.values.Bags.{bag_of}
use Rattle.tt_sql.specs.declared.change.Delete.{Delete}
use Rattle.tt_sql.specs.declared.change.Update.{Update}
use Rattle.tt_sql.specs.meaning.Changes.{Changes, delete_change, first_missing, is_missing_at, replaces, stores, update_change, updated_row}
use Rattle.tt_sql.specs.meaning.Queries.{all_some}
use Rattle.tt_sql.specs.meaning.Scopes.{target_scope}
use Rattle.tt_query_laws.proofs.Bags.{rearranged_bag}
use Rattle.tt_query_laws.proofs.Groups.{all_same}
use Rattle.tt_query_laws.proofs.Rearranged.{BothRearrange, Rearranges, both, chains, exchanges, keeps, neither, nothing, rearranged_filter, rearranged_length, rearranged_map}
use Rattle.tt_query_laws.specs.Changes.{AreAlike}

-- ---- a test of any row

exchanged_tests : (p q r : Bool) → (p || (q || r)) ≡ (q || (p || r))
exchanged_tests true true r = refl
exchanged_tests true false r = refl
exchanged_tests false true r = refl
exchanged_tests false false r = refl

rearranged_any : {A : Type 0} (test : A → Bool) (xs ys : List A) → Rearranges xs ys → list_any test xs ≡ list_any test ys
rearranged_any test _ _ nothing = refl
rearranged_any test _ _ (keeps x xs ys r) = ap (λ b. test x || b) (rearranged_any test xs ys r)
rearranged_any test _ _ (exchanges x y xs) = exchanged_tests (test x) (test y) (list_any test xs)
rearranged_any test _ _ (chains xs ys zs r s) = rearranged_any test xs ys r ∙ rearranged_any test ys zs s

-- ---- the first place that passes a test

same_prefix : {A : Type 0} (f g : A → Bool) (xs : List A) → ((x : A) → f x ≡ g x) → prefix_len f xs ≡ prefix_len g xs
same_prefix f g [] same = refl
same_prefix f g (x ∷ xs) same = ap (λ b. cond b (1 + prefix_len f xs) 0) (same x) ∙ ap (λ n. cond (g x) (1 + n) 0) (same_prefix f g xs same)

same_places : {A : Type 0} (f g : A → Bool) (xs : List A) → ((x : A) → f x ≡ g x) → position f xs ≡ position g xs
same_places f g xs same =
    ap (λ n. cond (nat_lt n (length xs)) (Some n) None) (same_prefix (λ x. not (f x)) (λ x. not (g x)) xs (λ x. ap not (same x)))

-- ---- NULLs that may not be there

missing_same : (schema : Schema) (rows others : List Row) → Rearranges rows others → first_missing schema rows ≡ first_missing schema others
missing_same schema rows others r =
    same_places (λ place. list_any (is_missing_at schema place) rows) (λ place. list_any (is_missing_at schema place) others) (range_with_len 0 (length schema.columns))
    (λ place. rearranged_any (is_missing_at schema place) rows others r)

-- ---- changes

stored_alike : (removed gone added more : List Row) (count : ℕ) (place : Option ℕ) → AreAlike (stores removed added count place) (stores gone more count place)
stored_alike removed gone added more count None = (gone, more, refl)
stored_alike removed gone added more count (Some place) = refl

replaced_alike : (schema : Schema) (removed gone : List Row) (added more : Option (List Row)) → length removed ≡ length gone → BothRearrange added more → AreAlike (replaces schema removed added) (replaces schema gone more)
replaced_alike schema removed gone _ _ counts neither = refl
replaced_alike schema removed gone _ _ counts (both xs ys r) =
    by (length removed) (length gone) counts (first_missing schema xs) (first_missing schema ys) (missing_same schema xs ys r)
  where
    by : (n m : ℕ) → n ≡ m → (p q : Option ℕ) → p ≡ q → AreAlike (stores removed xs n p) (stores gone ys m q)
    by n m e p q f = rw (sym e) (rw (sym f) (stored_alike removed gone xs ys n p))

pub update_alike : (schema : Schema) (rows others : List Row) (update : Update) → bag_of rows ≡ bag_of others → AreAlike (update_change schema rows update) (update_change schema others update)
update_alike schema rows others update same =
    let scope = target_scope update.table schema in
    let kept = rearranged_filter (takes scope update.filter) rows others (rearranged_bag rows others same) in
    replaced_alike schema (filter (takes scope update.filter) rows) (filter (takes scope update.filter) others)
    (all_some (map (updated_row scope update.sets) (filter (takes scope update.filter) rows))) (all_some (map (updated_row scope update.sets) (filter (takes scope update.filter) others)))
    (rearranged_length _ _ kept)
    (all_same _ _ (rearranged_map (updated_row scope update.sets) _ _ kept))

pub delete_alike : (schema : Schema) (rows others : List Row) (delete : Delete) → bag_of rows ≡ bag_of others → AreAlike (delete_change schema rows delete) (delete_change schema others delete)
delete_alike schema rows others delete same =
    let test = takes (target_scope delete.table schema) delete.filter in (
      filter test others,
      [],
      ap (λ n. Changes (filter test others) [] n) (sym (rearranged_length (filter test rows) (filter test others) (rearranged_filter test rows others (rearranged_bag rows others same)))),
    )
