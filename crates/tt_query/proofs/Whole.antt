-- The answer of a query of a whole table: the bag of the rows that it reads, whatever their order.
use Rattle.std.specs.Prelude.{List, None, Some, [], filter, is_none, length, map, option_map, refl, true, ℕ, ◌&&◌, ◌==◌, ◌∷◌, ◌≡◌}
use Rattle.std.proofs.Common.{ap, arith, sym, ◌∙◌}
use Rattle.std.proofs.lemmas.Bool.{and_parts, false≢true}
use Rattle.std.proofs.lemmas.Bool.Decides.{nat_tests}
use Rattle.tt_value.proofs.values.Bags.{IsBag-bag_of, bag_of-bag}
use Rattle.tt_value.specs.declared.value.Row.{Row}
use Rattle.tt_value.specs.trees.Predicates.{takes}
use Rattle.tt_value.specs.trees.Scope.{Scope}
use Rattle.tt_value.specs.values.Bags.{bag_of, insert_row}
use Rattle.tt_value.specs.values.Order.{row_cmp}
use Rattle.tt_sql.specs.declared.query.Query.{Query}
use Rattle.tt_sql.specs.declared.query.Selection.{Selection}
use Rattle.tt_sql.specs.declared.query.Selection.TheVariants.{All, Listed}
use Rattle.tt_sql.specs.meaning.Queries.{all_some, answer_of, arranged, insert_by, selected, selected_rows, sorted_by, taken_rows}
use Rattle.tt_plain.proofs.Tests.{none_is}
use Rattle.tt_plain.specs.UnknownColumns.{unknown_in_query}
use Rattle.tt_plain.specs.asked.Reach.{is_star, is_whole_table}
use Rattle.tt_built.specs.Built.{is_plain_query}

-- ---- the parts of such a query

pub record IsWhole (query : Query) : Type 0 where
  pub star : is_star query.selection ≡ true
  pub filter_is : query.filter ≡ None
  pub joins_are : query.joins ≡ []
  pub group_is : query.group ≡ []
  pub order_is : query.order ≡ []
  pub limit_is : query.limit ≡ None

nil_is : {A : Type 0} (xs : List A) → (length xs == 0) ≡ true → xs ≡ []
nil_is [] e = refl
nil_is (x ∷ xs) e = let none : length (x ∷ xs) ≡ 0 = grind (arith, nat_tests) in absurd (omega (arith, none))

pub is_whole : (query : Query) → is_plain_query query ≡ true → IsWhole query
is_whole query e =
    let whole = (and_parts (is_whole_table query) (is_none query.first.clause) e).0 in
    let behind = and_parts (is_star query.selection && is_none query.filter && (length query.joins == 0 && length query.group == 0)) (length query.order == 0 && is_none query.limit) whole in
    let lists = and_parts (is_star query.selection && is_none query.filter) (length query.joins == 0 && length query.group == 0) behind.0 in
    let front = and_parts (is_star query.selection) (is_none query.filter) lists.0 in
    let groups = and_parts (length query.joins == 0) (length query.group == 0) lists.1 in
    let last = and_parts (length query.order == 0) (is_none query.limit) behind.1 in
    record {
      star = front.0;
      filter_is = none_is query.filter front.1;
      joins_are = nil_is query.joins groups.0;
      group_is = nil_is query.group groups.1;
      order_is = nil_is query.order last.0;
      limit_is = none_is query.limit last.1;
    }

-- ---- it names no column

pub knows_names : (scope : Scope) (query : Query) → IsWhole query → unknown_in_query scope query ≡ []
unfolding unknown_in_query
knows_names scope query whole = by query.selection refl whole.star
  where
    by : (selection : Selection) → query.selection ≡ selection → is_star selection ≡ true → unknown_in_query scope query ≡ []
    by (All place) is star = rw (is, whole.filter_is, whole.group_is, whole.order_is) refl
    by (Listed items) is star = absurd (false≢true star)

-- ---- each row is taken, and gives itself

pub all_taken : (scope : Scope) (rows : List Row) → filter (takes scope None) rows ≡ rows
all_taken scope [] = refl
all_taken scope (row ∷ rows) = ap (λ (l : List Row). row ∷ l) (all_taken scope rows)

each_selected : (scope : Scope) (place : ℕ) (rows : List Row) → all_some (map (selected scope (All place)) (map (λ row. row ∷ []) rows)) ≡ Some rows
each_selected scope place [] = refl
each_selected scope place (row ∷ rows) = rw (each_selected scope place rows) refl

all_selected : (scope : Scope) (query : Query) (selection : Selection) (rows : List Row) → is_star selection ≡ true → query.group ≡ [] → query.selection ≡ selection → selected_rows scope query rows ≡ Some rows
unfolding selected_rows
all_selected scope query (All place) rows star alone is = rw (is, alone) (each_selected scope place rows)
all_selected scope query (Listed items) rows star alone is = absurd (false≢true star)

-- ---- and the rows are put in order

put_same : (row : Row) (rows : List Row) → insert_by row_cmp row rows ≡ insert_row row rows
put_same row [] = refl
put_same row (r ∷ rows) = rw (put_same row rows) refl

in_order : (rows : List Row) → sorted_by row_cmp rows ≡ bag_of rows
in_order [] = refl
in_order (row ∷ rows) = ap (insert_by row_cmp row) (in_order rows) ∙ put_same row (bag_of rows)

all_arranged : (scope : Scope) (query : Query) (rows : List Row) → query.order ≡ [] → query.limit ≡ None → arranged scope query rows ≡ bag_of rows
unfolding arranged
all_arranged scope query rows order limit = rw (order, limit) (in_order rows)

pub whole_answer : (scope : Scope) (query : Query) (rows : List Row) → IsWhole query → answer_of scope query rows ≡ Some (bag_of rows)
unfolding answer_of
whole_answer scope query rows whole =
    let taken : taken_rows scope query rows ≡ rows = ap (λ f. filter (takes scope f) rows) whole.filter_is ∙ all_taken scope rows in
    ap (λ l. option_map (arranged scope query) (selected_rows scope query l)) taken
    ∙ ap (option_map (arranged scope query)) (all_selected scope query query.selection rows whole.star whole.group_is refl)
    ∙ ap Some (all_arranged scope query rows whole.order_is whole.limit_is)

-- over another order of the same rows it is the same
pub same_answer : (scope other : Scope) (query : Query) (rows bag : List Row) → IsWhole query → bag_of rows ≡ bag → answer_of other query bag ≡ answer_of scope query rows
same_answer scope other query rows bag whole same =
    whole_answer other query bag whole
    ∙ ap Some (ap bag_of (sym same) ∙ bag_of-bag (bag_of rows) (IsBag-bag_of rows))
    ∙ sym (whole_answer scope query rows whole)
