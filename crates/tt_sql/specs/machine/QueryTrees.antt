-- The query that marks spell.
use Rattle.std.specs.Prelude.{ℕ, zero, suc, Bool, true, false, List, [], ◌∷◌, length, Option, Some, None, pos}
use Rattle.tt_value.specs.declared.name.Name.{Name}
use Rattle.tt_value.specs.declared.name.Number.{Number}
use Rattle.tt_value.specs.declared.name.Quoted.{Quoted}
use Rattle.tt_value.specs.declared.name.ColumnName.{ColumnName}
use Rattle.tt_value.specs.declared.name.TableName.{TableName}
use Rattle.tt_value.specs.declared.expression.Expr.{Expr}
use Rattle.tt_value.specs.declared.predicate.Predicate.{Predicate}
use Rattle.tt_sql.specs.declared.query.Clause.{Clause}
use Rattle.tt_sql.specs.declared.query.Item.{Item}
use Rattle.tt_sql.specs.declared.query.Item.TheVariants as item
use Rattle.tt_sql.specs.declared.query.Join.{Join}
use Rattle.tt_sql.specs.declared.query.Key.{Key}
use Rattle.tt_sql.specs.declared.query.KeyColumn.{KeyColumn}
use Rattle.tt_sql.specs.declared.query.KeyColumn.TheVariants as key
use Rattle.tt_sql.specs.declared.query.Moment.{Moment}
use Rattle.tt_sql.specs.declared.query.Moment.TheVariants as moment
use Rattle.tt_sql.specs.declared.query.Pair.{Pair}
use Rattle.tt_sql.specs.declared.query.Query.{Query}
use Rattle.tt_sql.specs.declared.query.Selection.{Selection}
use Rattle.tt_sql.specs.declared.query.Selection.TheVariants as selection
use Rattle.tt_sql.specs.declared.query.Source.{Source}
use Rattle.tt_sql.specs.declared.query.Side.{Side}
use Rattle.tt_sql.specs.declared.query.Side.TheVariants as side
use Rattle.tt_sql.specs.grammar.Grammar.{Way, At, Said, Prefix, Meant}
use Rattle.tt_sql.specs.machine.ExpressionTrees.{Reader, go_on, first_of, marked_all, marked_column, marked_expr}
use Rattle.tt_sql.specs.machine.PredicateTrees.{marked_predicate}

-- ---- small parts

abbrev pub marked_name : Reader Name
marked_name (Said text place ∷ m) = Some (record { text = text; place = place }, m)
marked_name m = None

abbrev pub marked_number : Reader Number
marked_number (Meant (pos n) place ∷ m) = Some (record { value = n; place = place }, m)
marked_number m = None

abbrev pub marked_quoted : Reader Quoted
marked_quoted (Said text place ∷ m) = Some (record { text = text; place = place }, m)
marked_quoted m = None

-- a name alone, and one with another in front
abbrev pub marked_table : Reader TableName
marked_table (Said text place ∷ m) = Some (record { schema = None; name = record { text = text; place = place } }, m)
marked_table (Prefix front here ∷ Said text place ∷ m) = Some (record { schema = Some (record { text = front; place = here }); name = record { text = text; place = place } }, m)
marked_table m = None

abbrev pub marked_flag : Reader Bool
marked_flag (Way zero ∷ m) = Some (false, m)
marked_flag (Way (suc zero) ∷ m) = Some (true, m)
marked_flag m = None

-- one, and then more
abbrev pub marked_listed : {A : Type 0} → Reader A → Reader (List A)
marked_listed r m = go_on (r m) (λ x later. go_on (marked_all r later) (λ xs end. Some (x ∷ xs, end)))

abbrev pub present : {A B : Type 0} → (A → B) → A → Reader B
present f x (Way (suc zero) ∷ m) = Some (f x, m)
present f x m = None

-- what may be left out
abbrev pub marked_maybe : {A : Type 0} → Reader A → Reader (Option A)
marked_maybe r (Way zero ∷ m) = Some (None, m)
marked_maybe r m = go_on (r m) (present (λ x. Some x))

abbrev pub marked_maybe_listed : {A : Type 0} → Reader A → Reader (List A)
marked_maybe_listed r (Way zero ∷ m) = Some ([], m)
marked_maybe_listed r m = go_on (marked_listed r m) (present (λ xs. xs))

-- an expression and a predicate have no more levels than marks
abbrev pub marked_sum : Reader Expr
marked_sum m = marked_expr (suc (length m)) m

abbrev pub marked_test : Reader Predicate
marked_test m = marked_predicate (suc (length m)) m

-- ---- items

abbrev pub expr_item : Expr → Reader Item
expr_item e (Way zero ∷ m) = Some (item.Expr e, m)
expr_item e m = None

abbrev pub marked_aggregate : Reader Item
marked_aggregate (At place ∷ Way (suc (suc (suc (suc zero)))) ∷ m) = Some (item.CountAll place, m)
marked_aggregate (At place ∷ Said text here ∷ Way (suc (suc (suc (suc (suc zero))))) ∷ m) = Some (item.Count place (record { table = None; name = record { text = text; place = here } }), m)
marked_aggregate (At place ∷ Said text here ∷ Way (suc (suc (suc (suc (suc (suc zero)))))) ∷ m) = Some (item.Sum place (record { table = None; name = record { text = text; place = here } }), m)
marked_aggregate (At place ∷ Said text here ∷ Way (suc (suc (suc (suc (suc (suc (suc zero))))))) ∷ m) = Some (item.Min place (record { table = None; name = record { text = text; place = here } }), m)
marked_aggregate (At place ∷ Said text here ∷ Way (suc (suc (suc (suc (suc (suc (suc (suc zero)))))))) ∷ m) = Some (item.Max place (record { table = None; name = record { text = text; place = here } }), m)
marked_aggregate (At place ∷ Prefix front there ∷ Said text here ∷ Way (suc (suc (suc (suc (suc zero))))) ∷ m) = Some (item.Count place (record { table = Some (record { text = front; place = there }); name = record { text = text; place = here } }), m)
marked_aggregate (At place ∷ Prefix front there ∷ Said text here ∷ Way (suc (suc (suc (suc (suc (suc zero)))))) ∷ m) = Some (item.Sum place (record { table = Some (record { text = front; place = there }); name = record { text = text; place = here } }), m)
marked_aggregate (At place ∷ Prefix front there ∷ Said text here ∷ Way (suc (suc (suc (suc (suc (suc (suc zero))))))) ∷ m) = Some (item.Min place (record { table = Some (record { text = front; place = there }); name = record { text = text; place = here } }), m)
marked_aggregate (At place ∷ Prefix front there ∷ Said text here ∷ Way (suc (suc (suc (suc (suc (suc (suc (suc zero)))))))) ∷ m) = Some (item.Max place (record { table = Some (record { text = front; place = there }); name = record { text = text; place = here } }), m)
marked_aggregate m = None

abbrev pub marked_item : Reader Item
marked_item m = first_of (go_on (marked_sum m) expr_item) (marked_aggregate m)

abbrev pub all_star : Reader Selection
all_star (At place ∷ Way zero ∷ m) = Some (selection.All place, m)
all_star m = None

abbrev pub marked_selection : Reader Selection
marked_selection m = first_of (go_on (marked_listed marked_item m) (present selection.Listed)) (all_star m)

-- ---- moments

abbrev pub offset_of : Bool → List Number → Reader Moment
offset_of negative factors (Way (suc zero) ∷ m) = Some (moment.Offset (record { negative = negative; factors = factors }), m)
offset_of negative factors m = None

abbrev pub marked_moment : Reader Moment
marked_moment (Meant n place ∷ Way zero ∷ m) = Some (moment.Timestamp n, m)
marked_moment (Said text place ∷ Way (suc (suc zero)) ∷ m) = Some (moment.Statement (record { text = text; place = place }), m)
marked_moment m = go_on (marked_flag m) (λ negative later. go_on (marked_listed marked_number later) (offset_of negative))

abbrev pub clause_at : Side → Moment → Reader Clause
clause_at side moment m = Some (record { side = side; moment = moment }, m)

abbrev pub marked_clause : Reader Clause
marked_clause (Way (suc zero) ∷ m) = go_on (marked_moment m) (clause_at side.At)
marked_clause (Way (suc (suc zero)) ∷ m) = go_on (marked_moment m) (clause_at side.Before)
marked_clause m = None

-- ---- queries

abbrev pub key_by : KeyColumn → Reader Key
key_by by m = go_on (marked_flag m) (λ descending later. Some (record { by = by; descending = descending }, later))

abbrev pub marked_key : Reader Key
marked_key (Said text place ∷ Way zero ∷ m) = key_by (key.Column (record { table = None; name = record { text = text; place = place } })) m
marked_key (Prefix front here ∷ Said text place ∷ Way zero ∷ m) = key_by (key.Column (record { table = Some (record { text = front; place = here }); name = record { text = text; place = place } })) m
marked_key (Meant (pos n) place ∷ Way (suc zero) ∷ m) = key_by (key.Position (record { value = n; place = place })) m
marked_key m = None

abbrev pub made_source : TableName → Option Clause → Reader Source
made_source table clause m = Some (record { table = table; clause = clause }, m)

abbrev pub source_behind : TableName → Reader Source
source_behind table m = go_on (marked_maybe marked_clause m) (made_source table)

abbrev pub marked_source : Reader Source
marked_source m = go_on (marked_table m) source_behind

abbrev pub made_pair : ColumnName → ColumnName → Reader Pair
made_pair left right m = Some (record { left = left; right = right }, m)

abbrev pub pair_behind : ColumnName → Reader Pair
pair_behind left m = go_on (marked_column m) (made_pair left)

abbrev pub marked_pair : Reader Pair
marked_pair m = go_on (marked_column m) pair_behind

abbrev pub made_join : Source → List Pair → Reader Join
made_join source pairs m = Some (record { source = source; pairs = pairs }, m)

abbrev pub join_behind : Source → Reader Join
join_behind source m = go_on (marked_listed marked_pair m) (made_join source)

abbrev pub marked_join : Reader Join
marked_join m = go_on (marked_source m) join_behind

abbrev pub made : ℕ → Selection → Source → List Join → Option Predicate → List ColumnName → List Key → Option Number → Reader Query
made place selection source joins filter group order limit m =
    Some (record { place = place; selection = selection; first = source; joins = joins; filter = filter; group = group; order = order; limit = limit }, m)

abbrev pub behind_order : ℕ → Selection → Source → List Join → Option Predicate → List ColumnName → List Key → Reader Query
behind_order place selection source joins filter group order m = go_on (marked_maybe marked_number m) (made place selection source joins filter group order)

abbrev pub behind_group : ℕ → Selection → Source → List Join → Option Predicate → List ColumnName → Reader Query
behind_group place selection source joins filter group m = go_on (marked_maybe_listed marked_key m) (behind_order place selection source joins filter group)

abbrev pub behind_filter : ℕ → Selection → Source → List Join → Option Predicate → Reader Query
behind_filter place selection source joins filter m = go_on (marked_maybe_listed marked_column m) (behind_group place selection source joins filter)

abbrev pub behind_joins : ℕ → Selection → Source → List Join → Reader Query
behind_joins place selection source joins m = go_on (marked_maybe marked_test m) (behind_filter place selection source joins)

abbrev pub behind_clause : ℕ → Selection → TableName → Option Clause → Reader Query
behind_clause place selection table clause m = go_on (marked_all marked_join m) (behind_joins place selection (record { table = table; clause = clause }))

abbrev pub behind_table : ℕ → Selection → TableName → Reader Query
behind_table place selection table m = go_on (marked_maybe marked_clause m) (behind_clause place selection table)

abbrev pub behind_selection : ℕ → Selection → Reader Query
behind_selection place selection m = go_on (marked_table m) (behind_table place selection)

abbrev pub marked_query : Reader Query
marked_query (At place ∷ m) = go_on (marked_selection m) (behind_selection place)
marked_query m = None
