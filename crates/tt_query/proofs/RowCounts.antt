-- What a query selects that only asks how many rows there are.
use Rattle.std.proofs.Common.{◌≡◌, ℕ, zero, suc, ◌+◌, pos, Bool, true, false, ◌&&◌, List, [], ◌∷◌, ◌++◌, length, map, replicate, Option, Some, None, refl, ap, sym, ◌∙◌, arith}
use Rattle.std.specs.Prelude.{not, ◌==◌, if◌then◌else◌}
use Rattle.std.specs.Option.{option_map}
use Rattle.std.specs.List.{list_all, list_any}
use Rattle.std.proofs.lemmas.Bool.{and_parts, false≢true}
use Rattle.std.proofs.lemmas.Option.{same_Some}
use Rattle.tt_value.specs.declared.value.Row.{Row}
use Rattle.tt_value.specs.declared.value.Value.{Value}
use Rattle.tt_value.specs.declared.value.Value.TheVariants.{Int}
use Rattle.tt_value.specs.trees.Scope.{Scope}
use Rattle.tt_sql.specs.declared.query.Item.{Item}
use Rattle.tt_sql.specs.declared.query.Item.TheVariants as item
use Rattle.tt_sql.specs.declared.query.Query.{Query}
use Rattle.tt_sql.specs.declared.query.Selection.{Selection}
use Rattle.tt_sql.specs.declared.query.Selection.TheVariants.{All, Listed}
use Rattle.tt_sql.specs.meaning.Queries.{all_some, has_aggregate, is_aggregate, item_value, selected, selected_rows}
use Rattle.tt_plain.specs.asked.Reach.{is_star}
use Rattle.tt_query.specs.Counts.{is_count, count_items, counts_in}

pub one_more : {A : Type 0} (x : A) (n : ℕ) → replicate n x ++ x ∷ [] ≡ replicate (n + 1) x
one_more x zero = refl
one_more x (suc n) = let next : suc n + 1 ≡ suc (n + 1) = omega arith in ap (λ xs. x ∷ xs) (one_more x n) ∙ ap (λ k. replicate k x) (sym next)

-- one item
counted : (scope : Scope) (rows : List Row) (i : Item) → is_count i ≡ true → item_value scope rows i ≡ Some (Int (pos (length rows)))
counted scope rows (item.CountAll place) is = refl
counted scope rows (item.Expr e) is = absurd (false≢true is)
counted scope rows (item.Count place c) is = absurd (false≢true is)
counted scope rows (item.Sum place c) is = absurd (false≢true is)
counted scope rows (item.Min place c) is = absurd (false≢true is)
counted scope rows (item.Max place c) is = absurd (false≢true is)

aggregate : (i : Item) → is_count i ≡ true → is_aggregate i ≡ true
aggregate (item.CountAll place) is = refl
aggregate (item.Expr e) is = absurd (false≢true is)
aggregate (item.Count place c) is = refl
aggregate (item.Sum place c) is = refl
aggregate (item.Min place c) is = refl
aggregate (item.Max place c) is = refl

-- all items
all_counted : (scope : Scope) (rows : List Row) (items : List Item) → list_all is_count items ≡ true → all_some (map (item_value scope rows) items) ≡ Some (replicate (length items) (Int (pos (length rows))))
all_counted scope rows [] all = refl
all_counted scope rows (i ∷ items) all =
    let parts = and_parts (is_count i) (list_all is_count items) all in
    rw (counted scope rows i parts.0, all_counted scope rows items parts.1) refl

some_aggregate : (items : List Item) → not (length items == 0) ≡ true → list_all is_count items ≡ true → list_any is_aggregate items ≡ true
some_aggregate [] some all = absurd (false≢true some)
some_aggregate (i ∷ items) some all = rw (aggregate i (and_parts (is_count i) (list_all is_count items) all).0) refl

when : {A : Type 0} (b : Bool) (x y : A) → (if b then Some x else None) ≡ Some y → (b ≡ true) × (x ≡ y)
when true x y is = (refl, same_Some x y is)
when false x y is = absurd cc

when_more : {A : Type 0} (b : Bool) (o : Option A) (y : A) → (if b then o else None) ≡ Some y → (b ≡ true) × (o ≡ Some y)
when_more true o y is = (refl, is)
when_more false o y is = absurd cc

-- the selection has so many items
pub record Counts (query : Query) (count : ℕ) : Type 0 where
  pub alone : (length query.group == 0) ≡ true
  pub items : List Item
  pub listed : query.selection ≡ Listed items
  pub some : not (length items == 0) ≡ true
  pub all : list_all is_count items ≡ true
  pub many : length items ≡ count

pub counts_are : (query : Query) (count : ℕ) → counts_in query ≡ Some count → Counts query count
counts_are query count is = by query.selection refl parts.1
  where
    parts : ((length query.group == 0) ≡ true) × (count_items query.selection ≡ Some count)
    parts = when_more (length query.group == 0) (count_items query.selection) count is

    by : (selection : Selection) → query.selection ≡ selection → count_items selection ≡ Some count → Counts query count
    by (All place) e told = absurd cc
    by (Listed items) e told =
        let there = when (not (length items == 0) && list_all is_count items) (length items) count told in
        let both = and_parts (not (length items == 0)) (list_all is_count items) there.0 in
        record { alone = parts.0; items = items; listed = e; some = both.0; all = both.1; many = there.1 }

pub not_star : (query : Query) (count : ℕ) → Counts query count → is_star query.selection ≡ true → false ≡ true
not_star query count is star = ap is_star (sym is.listed) ∙ star

selects : (scope : Scope) (selection : Selection) (items : List Item) (rows : List Row) (count : ℕ) → selection ≡ Listed items → list_all is_count items ≡ true → length items ≡ count → selected scope selection rows ≡ Some (record { values = replicate count (Int (pos (length rows))) })
selects scope selection items rows count e all many =
    ap (λ s. selected scope s rows) e
    ∙ ap (option_map (λ (vs : List Value). record { values = vs })) (all_counted scope rows items all)
    ∙ ap (λ n. Some (record { values = replicate n (Int (pos (length rows))) })) many

abbrev pub counts_row : ℕ → ℕ → Row
counts_row items count = record { values = replicate items (Int (pos count)) }

pub counts_selected : (scope : Scope) (query : Query) (count : ℕ) (rows : List Row) → counts_in query ≡ Some count → selected_rows scope query rows ≡ Some (record { values = replicate count (Int (pos (length rows))) } ∷ [])
unfolding selected_rows
counts_selected scope query count rows counts =
    let is = counts_are query count counts in
    let aggregates : has_aggregate query.selection ≡ true = ap has_aggregate is.listed ∙ some_aggregate is.items is.some is.all in
    rw (is.alone, aggregates, selects scope query.selection is.items rows count is.listed is.all is.many) refl
