-- The rows that a query selects, in another order where its rows are in another order.
use Rattle.std.specs.Prelude.{Bool, List, None, Option, Some, [], false, filter, if◌then◌else◌, length, map, not, option_and_then, option_map, refl, true, ℕ, ◌++◌, ◌==◌, ◌∷◌, ◌≡◌}
use Rattle.std.proofs.Common.{ap, arith, subst, sym, ◌∙◌}
use Rattle.std.proofs.lemmas.Bool.{false≢true, ne_eqb}
use Rattle.tt_plain.proofs.law.Lists.{every_kept}
use Rattle.tt_plain.specs.TypeMismatches.{is_grouped, misfit_in_query, misfit_in_selection, ungrouped_in_query, ungrouped_selection, misfit_in_predicate}
use Rattle.tt_plain.specs.Places.{if_there}
use Rattle.tt_query_laws.proofs.Items.{HaveKey, selected_same}
use Rattle.tt_query_laws.proofs.Rearranged.{BothRearrange, Rearranges, both, chains, exchanges, itself, keeps, neither, nothing, rearranged_filter, rearranged_map}
use Rattle.tt_query_laws.proofs.Sorting.{answer_ties, answer_total, sorted_same}
use Rattle.tt_sql.specs.declared.query.Query.{Query}
use Rattle.tt_sql.specs.declared.query.Selection.{Selection}
use Rattle.tt_sql.specs.meaning.Queries.{all_some, answer_cmp, answer_of, arranged, each_once, group_key, grouped, groups_of, has_aggregate, limited, selected, selected_rows, taken_rows}
use Rattle.tt_value.proofs.values.Bags.{same_is, same_itself}
use Rattle.tt_value.specs.declared.name.ColumnName.{ColumnName}
use Rattle.tt_value.specs.declared.value.Row.{Row}
use Rattle.tt_value.specs.trees.Predicates.{takes}
use Rattle.tt_value.specs.trees.Scope.{Scope}
use Rattle.tt_value.specs.values.Order.{is_same_row}

-- ---- each row once

passes : {A : Type 0} (p : A → Bool) (x : A) (xs : List A) → p x ≡ true → filter p (x ∷ xs) ≡ x ∷ filter p xs
passes p x xs e = rw e refl

fails : {A : Type 0} (p : A → Bool) (x : A) (xs : List A) → p x ≡ false → filter p (x ∷ xs) ≡ filter p xs
fails p x xs e = rw e refl

filters_if : {A : Type 0} (p q : A → Bool) (x : A) (xs : List A) → (a b : Bool) → p x ≡ a → q x ≡ b → filter p (filter q xs) ≡ filter q (filter p xs) → filter p (filter q (x ∷ xs)) ≡ filter q (filter p (x ∷ xs))
filters_if p q x xs true true e f later =
    ap (filter p) (passes q x xs f) ∙ passes p x (filter q xs) e ∙ ap (λ zs. x ∷ zs) later
    ∙ sym (ap (filter q) (passes p x xs e) ∙ passes q x (filter p xs) f)
filters_if p q x xs true false e f later = ap (filter p) (fails q x xs f) ∙ later ∙ sym (ap (filter q) (passes p x xs e) ∙ fails q x (filter p xs) f)
filters_if p q x xs false true e f later = ap (filter p) (passes q x xs f) ∙ fails p x (filter q xs) e ∙ later ∙ sym (ap (filter q) (fails p x xs e))
filters_if p q x xs false false e f later = ap (filter p) (fails q x xs f) ∙ later ∙ sym (ap (filter q) (fails p x xs e))

filters_commute : {A : Type 0} (p q : A → Bool) (xs : List A) → filter p (filter q xs) ≡ filter q (filter p xs)
filters_commute p q [] = refl
filters_commute p q (x ∷ xs) = filters_if p q x xs (p x) (q x) refl refl (filters_commute p q xs)

abbrev differs : Row → Row → Bool
differs row other = not (is_same_row row other)

two_once : (x y : Row) (xs : List Row) → is_same_row x y ≡ false → each_once (x ∷ y ∷ xs) ≡ x ∷ y ∷ filter (differs x) (filter (differs y) (each_once xs))
two_once x y xs e = rw e refl

turned : (x y : Row) → is_same_row x y ≡ false → (b : Bool) → is_same_row y x ≡ b → is_same_row y x ≡ false
turned x y e true f = absurd (false≢true (sym e ∙ subst (λ z. is_same_row x z ≡ true) (sym (same_is y x f)) (same_itself x)))
turned x y e false f = f

exchanged_once : (x y : Row) (xs : List Row) (b : Bool) → is_same_row x y ≡ b → Rearranges (each_once (x ∷ y ∷ xs)) (each_once (y ∷ x ∷ xs))
exchanged_once x y xs true e = subst (λ z. Rearranges (each_once (x ∷ z ∷ xs)) (each_once (z ∷ x ∷ xs))) (same_is x y e) (itself (each_once (x ∷ x ∷ xs)))
exchanged_once x y xs false e =
    let f = turned x y e (is_same_row y x) refl in
    let rest = filters_commute (differs y) (differs x) (each_once xs) in
    subst (λ zs. Rearranges zs (each_once (y ∷ x ∷ xs))) (sym (two_once x y xs e))
    (subst (λ zs. Rearranges (x ∷ y ∷ filter (differs x) (filter (differs y) (each_once xs))) zs) (sym (two_once y x xs f))
    (subst (λ zs. Rearranges (x ∷ y ∷ filter (differs x) (filter (differs y) (each_once xs))) (y ∷ x ∷ zs)) (sym rest)
    (exchanges x y (filter (differs x) (filter (differs y) (each_once xs))))))

once_same : (xs ys : List Row) → Rearranges xs ys → Rearranges (each_once xs) (each_once ys)
once_same _ _ nothing = nothing
once_same _ _ (keeps x xs ys r) = keeps x (filter (differs x) (each_once xs)) (filter (differs x) (each_once ys)) (rearranged_filter (differs x) (each_once xs) (each_once ys) (once_same xs ys r))
once_same _ _ (exchanges x y xs) = exchanged_once x y xs (is_same_row x y) refl
once_same _ _ (chains xs ys zs r s) = chains (each_once xs) (each_once ys) (each_once zs) (once_same xs ys r) (once_same ys zs s)

-- ---- groups

maps_same : {A B C : Type 0} (f : B → C) (g h : A → B) → ((x : A) → f (g x) ≡ f (h x)) → (xs : List A) → map f (map g xs) ≡ map f (map h xs)
maps_same f g h same [] = refl
maps_same f g h same (x ∷ xs) = ap (λ y. y ∷ map f (map g xs)) (same x) ∙ ap (λ ys. f (h x) ∷ ys) (maps_same f g h same xs)

module _ (scope : Scope) (s : Selection) (columns : List ColumnName) where
  abbrev key_of : Row → Row
  key_of row = group_key scope columns row

  abbrev group_in : List Row → Row → List Row
  group_in rows k = filter (λ row. is_same_row k (key_of row)) rows

  group_same : (xs ys : List Row) → ungrouped_selection scope columns s ≡ [] → Rearranges xs ys → (k : Row) → selected scope s (group_in xs k) ≡ selected scope s (group_in ys k)
  group_same xs ys none r k =
      selected_same scope columns k s (group_in xs k) (group_in ys k) none
      (every_kept (λ row. is_same_row k (key_of row)) xs) (every_kept (λ row. is_same_row k (key_of row)) ys)
      (rearranged_filter (λ row. is_same_row k (key_of row)) xs ys r)

  groups_same : (xs ys : List Row) → ungrouped_selection scope columns s ≡ [] → Rearranges xs ys → Rearranges (map (selected scope s) (grouped key_of xs)) (map (selected scope s) (grouped key_of ys))
  groups_same xs ys none r =
      let keys = once_same (map key_of xs) (map key_of ys) (rearranged_map key_of xs ys r) in
      let same = maps_same (selected scope s) (group_in xs) (group_in ys) (group_same xs ys none r) (each_once (map key_of xs)) in
      subst (λ zs. Rearranges zs (map (selected scope s) (grouped key_of ys))) (sym same)
      (rearranged_map (selected scope s) (map (group_in ys) (each_once (map key_of xs))) (map (group_in ys) (each_once (map key_of ys)))
      (rearranged_map (group_in ys) (each_once (map key_of xs)) (each_once (map key_of ys)) keys))

no_key : (scope : Scope) (rows : List Row) → HaveKey scope [] (record { values = [] }) rows
no_key scope [] = tt
no_key scope (row ∷ rows) = (same_itself (record { values = [] }), no_key scope rows)

-- all rows as one group, or each by itself
whole_same : (scope : Scope) (s : Selection) (xs ys : List Row) (b : Bool) → (if b then ungrouped_selection scope [] s else []) ≡ [] → Rearranges xs ys →
    Rearranges (map (selected scope s) (if b then xs ∷ [] else map (λ row. row ∷ []) xs)) (map (selected scope s) (if b then ys ∷ [] else map (λ row. row ∷ []) ys))
whole_same scope s xs ys true none r =
    subst (λ o. Rearranges (selected scope s xs ∷ []) (o ∷ [])) (selected_same scope [] (record { values = [] }) s xs ys none (no_key scope xs) (no_key scope ys) r) (itself (selected scope s xs ∷ []))
whole_same scope s xs ys false none r = rearranged_map (selected scope s) (map (λ row. row ∷ []) xs) (map (λ row. row ∷ []) ys) (rearranged_map (λ row. row ∷ []) xs ys r)

abbrev groups_in : Scope → Selection → List ColumnName → List Row → List (List Row)
groups_in scope s columns rows =
    if length columns == 0 then (if has_aggregate s then rows ∷ [] else map (λ row. row ∷ []) rows)
    else grouped (group_key scope columns) rows

grouped_in : (scope : Scope) (s : Selection) (c : ColumnName) (columns : List ColumnName) (rows : List Row) → groups_in scope s (c ∷ columns) rows ≡ grouped (group_key scope (c ∷ columns)) rows
grouped_in scope s c columns rows = rw (ne_eqb (length (c ∷ columns)) 0 (λ e. absurd (omega (arith, e)))) refl

selections_same : (scope : Scope) (s : Selection) (columns : List ColumnName) (xs ys : List Row) → (if is_grouped s columns then ungrouped_selection scope columns s else []) ≡ [] → Rearranges xs ys →
    Rearranges (map (selected scope s) (groups_in scope s columns xs)) (map (selected scope s) (groups_in scope s columns ys))
selections_same scope s [] xs ys none r = whole_same scope s xs ys (has_aggregate s) none r
selections_same scope s (c ∷ columns) xs ys none r =
    subst (λ gs. Rearranges (map (selected scope s) gs) (map (selected scope s) (groups_in scope s (c ∷ columns) ys))) (sym (grouped_in scope s c columns xs))
    (subst (λ gs. Rearranges (map (selected scope s) (grouped (group_key scope (c ∷ columns)) xs)) (map (selected scope s) gs)) (sym (grouped_in scope s c columns ys))
    (groups_same scope s (c ∷ columns) xs ys none r))

-- ---- all of them, or none

joined : {A : Type 0} (o : Option A) (a b : Option (List A)) → BothRearrange a b → BothRearrange (option_and_then (λ first. option_map (λ others. first ∷ others) a) o) (option_and_then (λ first. option_map (λ others. first ∷ others) b) o)
joined None _ _ r = neither
joined (Some x) _ _ neither = neither
joined (Some x) _ _ (both xs ys r) = both (x ∷ xs) (x ∷ ys) (keeps x xs ys r)

exchanged : {A : Type 0} (o p : Option A) (a : Option (List A)) →
    BothRearrange (option_and_then (λ first. option_map (λ others. first ∷ others) (option_and_then (λ first. option_map (λ others. first ∷ others) a) p)) o)
    (option_and_then (λ first. option_map (λ others. first ∷ others) (option_and_then (λ first. option_map (λ others. first ∷ others) a) o)) p)
exchanged None None a = neither
exchanged None (Some y) a = neither
exchanged (Some x) None a = neither
exchanged (Some x) (Some y) None = neither
exchanged (Some x) (Some y) (Some xs) = both (x ∷ y ∷ xs) (y ∷ x ∷ xs) (exchanges x y xs)

both_on : {A : Type 0} (a b c : Option (List A)) → BothRearrange a b → BothRearrange b c → BothRearrange a c
both_on _ _ _ neither neither = neither
both_on _ _ _ (both xs ys r) (both _ zs s) = both xs zs (chains xs ys zs r s)

pub all_same : {A : Type 0} (os ps : List (Option A)) → Rearranges os ps → BothRearrange (all_some os) (all_some ps)
all_same _ _ nothing = both [] [] nothing
all_same _ _ (keeps o os ps r) = joined o (all_some os) (all_some ps) (all_same os ps r)
all_same _ _ (exchanges o p os) = exchanged o p (all_some os)
all_same _ _ (chains os ps qs r s) = both_on (all_some os) (all_some ps) (all_some qs) (all_same os ps r) (all_same ps qs s)

-- ---- the answer

arranged_same : (scope : Scope) (q : Query) (xs ys : List Row) → Rearranges xs ys → arranged scope q xs ≡ arranged scope q ys
unfolding arranged
arranged_same scope q xs ys r =
    ap (limited q.limit) (sorted_same (answer_cmp scope q.selection q.order) (answer_total scope q.selection q.order) (answer_ties scope q.selection q.order) xs ys r)

answers_same : (scope : Scope) (q : Query) (a b : Option (List Row)) → BothRearrange a b → option_map (arranged scope q) a ≡ option_map (arranged scope q) b
answers_same scope q _ _ neither = refl
answers_same scope q _ _ (both xs ys r) = ap Some (arranged_same scope q xs ys r)

none_first : (xs ys : List ℕ) → xs ++ ys ≡ [] → xs ≡ []
none_first [] ys e = refl
none_first (x ∷ xs) ys e = cc

ungrouped_none : (scope : Scope) (q : Query) → misfit_in_query scope q ≡ [] → ungrouped_in_query scope q ≡ []
unfolding misfit_in_query
ungrouped_none scope q e = none_first (ungrouped_in_query scope q) (misfit_in_selection scope q.selection ++ if_there (misfit_in_predicate scope) q.filter) e

pub answer_same : (scope : Scope) (q : Query) (rows others : List Row) → misfit_in_query scope q ≡ [] → Rearranges rows others → answer_of scope q rows ≡ answer_of scope q others
unfolding answer_of selected_rows
answer_same scope q rows others fits r =
    let taken = rearranged_filter (takes scope q.filter) rows others r in
    let chosen = selections_same scope q.selection q.group (taken_rows scope q rows) (taken_rows scope q others) (ungrouped_none scope q fits) taken in
    answers_same scope q (selected_rows scope q (taken_rows scope q rows)) (selected_rows scope q (taken_rows scope q others))
    (all_same (map (selected scope q.selection) (groups_of scope q (taken_rows scope q rows))) (map (selected scope q.selection) (groups_of scope q (taken_rows scope q others))) chosen)
