-- What a group gives does not depend on the order of its rows, where each item is an aggregate or a column by which it is made.
use Rattle.std.specs.List.{list_any}
use Rattle.std.specs.Prelude.{Bool, List, None, Option, Some, [], false, fold, length, map, not, option_and_then, option_map, pos, refl, true, ℕ, ◌&&◌, ◌++◌, ◌==◌, ◌||◌, ◌*ℤ◌, ◌∷◌, ◌≡◌}
use Rattle.std.proofs.Common.{ap, arith, cond, sym, ◌∙◌}
use Rattle.std.proofs.lemmas.Bool.{and_parts, eqb-true, false≢true}
use Rattle.std.proofs.lemmas.Option.{none-some, same_Some}
use Rattle.tt_plain.specs.Places.{each}
use Rattle.tt_plain.specs.Kinds.{unless}
use Rattle.tt_plain.specs.TypeMismatches.{is_group_item, ungrouped_item, ungrouped_selection}
use Rattle.tt_plain.specs.law.Lists.{Every}
use Rattle.tt_query_laws.proofs.Best.{greatest_same, least_same, sum_same}
use Rattle.tt_query_laws.proofs.Rearranged.{Rearranges, rearranged_filter, rearranged_length, rearranged_map}
use Rattle.tt_sql.proofs.machine.ExpressionTrees.{by_factor}
use Rattle.tt_sql.specs.declared.query.Item.TheVariants as item
use Rattle.tt_sql.specs.declared.query.Item.{Item}
use Rattle.tt_sql.specs.declared.query.Selection.TheVariants as selection
use Rattle.tt_sql.specs.declared.query.Selection.{Selection}
use Rattle.tt_sql.specs.meaning.Queries.{all_some, column_values, first_value, group_key, is_item_of, item_value, plain_column, plain_factor, same_place, selected}
use Rattle.tt_typer.proofs.ValueFolds.{of_column, of_expr_out, of_factor, of_term, of_term_out}
use Rattle.tt_value.proofs.values.Bags.{same_is}
use Rattle.tt_value.specs.declared.expression.Addend.{Addend}
use Rattle.tt_value.specs.declared.expression.Expr.{Expr, out-Expr}
use Rattle.tt_value.specs.declared.expression.Factor.TheVariants as factor
use Rattle.tt_value.specs.declared.expression.Factor.{Factor}
use Rattle.tt_value.specs.declared.expression.Sign.{Sign}
use Rattle.tt_value.specs.declared.expression.Term.{Term, out-Term}
use Rattle.tt_value.specs.declared.name.ColumnName.{ColumnName}
use Rattle.tt_value.specs.declared.value.Row.{Row}
use Rattle.tt_value.specs.declared.value.Value.TheVariants.{Int}
use Rattle.tt_value.specs.declared.value.Value.{Value}
use Rattle.tt_value.specs.trees.Expressions.{add_signed, factor_value, on_numbers, then_both, value_of}
use Rattle.tt_value.specs.trees.Predicates.{is_null}
use Rattle.tt_value.specs.trees.Scope.{Scope, column_value, value_or_null}
use Rattle.tt_value.specs.values.Order.{is_same_row}
use Rattle.std.specs.Prelude.{slice_get}

-- ---- an expression that is one column

no_items : {A : Type 0} (xs : List A) → (length xs == 0) ≡ true → xs ≡ []
no_items [] is = refl
no_items (x ∷ xs) is = absurd (omega (arith, eqb-true (length (x ∷ xs)) 0 is))

factor_is : (f : Factor) (c : ColumnName) → plain_factor f ≡ Some c → f ≡ factor.Column c
factor_is f c = by_factor (λ f. plain_factor f ≡ Some c → f ≡ factor.Column c)
    (λ l is. absurd (none-some c is))
    (λ d is. ap factor.Column (same_Some d c is))
    (λ place e is. absurd (none-some c is))
    (λ place g is. absurd (none-some c is))
    f

record IsColumn (e : Expr) (c : ColumnName) : Type 0 where
  pub one_term : (out-Expr e).others ≡ []
  pub one_factor : (out-Term (out-Expr e).first).others ≡ []
  pub column : (out-Term (out-Expr e).first).first ≡ factor.Column c

some_if : (b : Bool) (o : Option ColumnName) (c : ColumnName) → cond b o None ≡ Some c → (b ≡ true) × (o ≡ Some c)
some_if true o c is = (refl, is)
some_if false o c is = absurd (none-some c is)

column_is : (e : Expr) (c : ColumnName) → plain_column e ≡ Some c → IsColumn e c
column_is e c is =
    let sum = out-Expr e in
    let product = out-Term sum.first in
    let both = some_if (length sum.others == 0 && length product.others == 0) (plain_factor product.first) c is in
    let none = and_parts (length sum.others == 0) (length product.others == 0) both.0 in
    record { one_term = no_items sum.others none.0; one_factor = no_items product.others none.1; column = factor_is product.first c both.1 }

module _ (scope : Scope) (row : Row) where
  abbrev add : Sign → Option Value → Option Value → Option Value
  add sign a b = then_both (add_signed sign) a b

  abbrev times : Option Value → Option Value → Option Value
  times a b = then_both (on_numbers (λ x y. x *ℤ y)) a b

  abbrev value_term : Term → Option Value
  value_term = of_term (Option Value) (factor_value scope row) add times

  abbrev value_factor : Factor → Option Value
  value_factor = of_factor (Option Value) (factor_value scope row) add times

  value_of_column : (e : Expr) (c : ColumnName) → plain_column e ≡ Some c → value_of scope row e ≡ Some (column_value scope row c)
  unfolding value_of
  value_of_column e c is =
      let lone = column_is e c is in
      of_expr_out (Option Value) (factor_value scope row) add times e
      ∙ ap (fold (λ so_far (a : Addend). add a.sign so_far (value_term a.term)) (value_term (out-Expr e).first)) lone.one_term
      ∙ of_term_out (Option Value) (factor_value scope row) add times (out-Expr e).first
      ∙ ap (fold (λ so_far f. times so_far (value_factor f)) (value_factor (out-Expr e).first.first)) lone.one_factor
      ∙ ap value_factor lone.column
      ∙ of_column (Option Value) (factor_value scope row) add times c

-- ---- a column of the group

same_places : (a b : Option ℕ) → same_place a b ≡ true → a ≡ b
same_places None None e = refl
same_places None (Some b) e = absurd (false≢true e)
same_places (Some a) None e = absurd (false≢true e)
same_places (Some a) (Some b) e = ap Some (eqb-true a b e)

-- the column that an expression is, where it is one
record IsPlaced (scope : Scope) (c : ColumnName) (e : Expr) : Type 0 where
  pub name : ColumnName
  pub plain : plain_column e ≡ Some name
  pub place : scope.place_of c ≡ scope.place_of name

no_place : (a : Option ℕ) → same_place a None ≡ true → false ≡ true
no_place None e = e
no_place (Some a) e = e

placed_by : (scope : Scope) (c : ColumnName) (e : Expr) (o : Option ColumnName) → plain_column e ≡ o → same_place (scope.place_of c) (option_and_then scope.place_of o) ≡ true → IsPlaced scope c e
placed_by scope c e (Some name) is same = record { name = name; plain = is; place = same_places (scope.place_of c) (scope.place_of name) same }
placed_by scope c e None is same = absurd (false≢true (no_place (scope.place_of c) same))

placed : (scope : Scope) (c : ColumnName) (e : Expr) → is_item_of scope c (item.Expr e) ≡ true → IsPlaced scope c e
placed scope c e is = placed_by scope c e (plain_column e) refl is

value_placed : (scope : Scope) (row : Row) (c d : ColumnName) → scope.place_of c ≡ scope.place_of d → column_value scope row d ≡ column_value scope row c
value_placed scope row c d same = ap (λ place. value_or_null (option_and_then (λ k. slice_get row.values k) place)) (sym same)

column_same : (scope : Scope) (a b : Row) (c : ColumnName) (e : Expr) → is_item_of scope c (item.Expr e) ≡ true → column_value scope a c ≡ column_value scope b c → value_of scope a e ≡ value_of scope b e
column_same scope a b c e is same =
    let p = placed scope c e is in
    value_of_column scope a e p.name p.plain
    ∙ ap Some (value_placed scope a c p.name p.place ∙ same ∙ sym (value_placed scope b c p.name p.place))
    ∙ sym (value_of_column scope b e p.name p.plain)

first_of : {A : Type 0} (x y : A) (xs ys : List A) → x ∷ xs ≡ y ∷ ys → (x ≡ y) × (xs ≡ ys)
first_of x y xs ys e = (cc, cc)

any_if : (test later : Bool) → (test || later) ≡ true → (later ≡ true → test ≡ true) → test ≡ true
any_if true later e on = refl
any_if false later e on = on e

module _ (scope : Scope) (e : Expr) (a b : Row) where
  value_same_by : (c : ColumnName) (columns : List ColumnName) → map (column_value scope a) (c ∷ columns) ≡ map (column_value scope b) (c ∷ columns) → (later : list_any (λ c. is_item_of scope c (item.Expr e)) columns ≡ true → value_of scope a e ≡ value_of scope b e) → (test : Bool) → is_item_of scope c (item.Expr e) ≡ test → list_any (λ c. is_item_of scope c (item.Expr e)) (c ∷ columns) ≡ true → value_of scope a e ≡ value_of scope b e
  value_same_by c columns keys later true is any = column_same scope a b c e is ((first_of (column_value scope a c) (column_value scope b c) (map (column_value scope a) columns) (map (column_value scope b) columns) keys).0)
  value_same_by c columns keys later false is any = later (sym (ap (λ test. test || list_any (λ c. is_item_of scope c (item.Expr e)) columns) is) ∙ any)

  -- rows of one group have one value of a column by which it is made
  value_same : (columns : List ColumnName) → list_any (λ c. is_item_of scope c (item.Expr e)) columns ≡ true → map (column_value scope a) columns ≡ map (column_value scope b) columns → value_of scope a e ≡ value_of scope b e
  value_same [] any keys = absurd (false≢true any)
  value_same (c ∷ columns) any keys =
      value_same_by c columns keys (λ more. value_same columns more ((first_of (column_value scope a c) (column_value scope b c) (map (column_value scope a) columns) (map (column_value scope b) columns) keys).1)) (is_item_of scope c (item.Expr e)) refl any

-- ---- items over a group

module _ (scope : Scope) (columns : List ColumnName) (k : Row) where
  -- each row of the group has its key
  abbrev pub HaveKey : List Row → Type 0
  HaveKey rows = Every (λ row. is_same_row k (group_key scope columns row) ≡ true) rows

  one_key : (a b : Row) → is_same_row k (group_key scope columns a) ≡ true → is_same_row k (group_key scope columns b) ≡ true → map (column_value scope a) columns ≡ map (column_value scope b) columns
  one_key a b e f = ap (λ (row : Row). row.values) (sym (same_is k (group_key scope columns a) e) ∙ same_is k (group_key scope columns b) f)

  first_same : (e : Expr) (xs ys : List Row) → is_group_item scope columns (item.Expr e) ≡ true → HaveKey xs → HaveKey ys → Rearranges xs ys → first_value scope e xs ≡ first_value scope e ys
  first_same e [] [] any left right r = refl
  first_same e [] (y ∷ ys) any left right r = absurd (omega (arith, rearranged_length [] (y ∷ ys) r))
  first_same e (x ∷ xs) [] any left right r = absurd (omega (arith, rearranged_length (x ∷ xs) [] r))
  first_same e (x ∷ xs) (y ∷ ys) any left right r = value_same scope e x y columns any (one_key x y left.0 right.0)

  values_same : (c : ColumnName) (xs ys : List Row) → Rearranges xs ys → Rearranges (column_values scope c xs) (column_values scope c ys)
  values_same c xs ys r =
      rearranged_filter (λ v. not (is_null v)) (map (λ row. column_value scope row c) xs) (map (λ row. column_value scope row c) ys)
      (rearranged_map (λ row. column_value scope row c) xs ys r)

  unless_is : (b : Bool) (place : ℕ) → unless b place ≡ [] → b ≡ true
  unless_is true place e = refl
  unless_is false place e = cc

  item_same : (i : Item) (xs ys : List Row) → ungrouped_item scope columns i ≡ [] → HaveKey xs → HaveKey ys → Rearranges xs ys → item_value scope xs i ≡ item_value scope ys i
  item_same (item.Expr e) xs ys none left right r = first_same e xs ys (unless_is (is_group_item scope columns (item.Expr e)) _ none) left right r
  item_same (item.CountAll place) xs ys none left right r = ap (λ n. Some (Int (pos n))) (rearranged_length xs ys r)
  item_same (item.Count place c) xs ys none left right r = ap (λ n. Some (Int (pos n))) (rearranged_length (column_values scope c xs) (column_values scope c ys) (values_same c xs ys r))
  item_same (item.Sum place c) xs ys none left right r = sum_same (column_values scope c xs) (column_values scope c ys) (values_same c xs ys r)
  item_same (item.Min place c) xs ys none left right r = ap Some (least_same (column_values scope c xs) (column_values scope c ys) (values_same c xs ys r))
  item_same (item.Max place c) xs ys none left right r = ap Some (greatest_same (column_values scope c xs) (column_values scope c ys) (values_same c xs ys r))

  none_left : (xs ys : List ℕ) → xs ++ ys ≡ [] → (xs ≡ []) × (ys ≡ [])
  none_left [] ys e = (refl, e)
  none_left (x ∷ xs) ys e = absurd (cc)

  items_same : (items : List Item) (xs ys : List Row) → each (ungrouped_item scope columns) items ≡ [] → HaveKey xs → HaveKey ys → Rearranges xs ys → map (item_value scope xs) items ≡ map (item_value scope ys) items
  items_same [] xs ys none left right r = refl
  items_same (i ∷ items) xs ys none left right r =
      let parts = none_left (ungrouped_item scope columns i) (each (ungrouped_item scope columns) items) none in
      ap (λ v. v ∷ map (item_value scope xs) items) (item_same i xs ys parts.0 left right r)
      ∙ ap (λ vs. item_value scope ys i ∷ vs) (items_same items xs ys parts.1 left right r)

  pub selected_same : (s : Selection) (xs ys : List Row) → ungrouped_selection scope columns s ≡ [] → HaveKey xs → HaveKey ys → Rearranges xs ys → selected scope s xs ≡ selected scope s ys
  selected_same (selection.All place) xs ys none left right r = absurd (cc)
  selected_same (selection.Listed items) xs ys none left right r = ap (λ vs. option_map (λ vs. record { values = vs }) (all_some vs)) (items_same items xs ys none left right r)
