-- The predicate that marks spell.
use Rattle.std.specs.Prelude.{ℕ, zero, suc, Bool, true, false, List, [], ◌∷◌, Some, None}
use Rattle.tt_value.specs.declared.name.Literal.{Literal}
use Rattle.tt_value.specs.declared.predicate.Operand.{Operand}
use Rattle.tt_value.specs.declared.predicate.Operand.TheVariants as operand
use Rattle.tt_value.specs.declared.predicate.Comparison.{Comparison}
use Rattle.tt_value.specs.declared.predicate.Comparison.TheVariants.{Equal, NotEqual, Less, LessOrEqual, Greater, GreaterOrEqual}
use Rattle.tt_value.specs.declared.predicate.Predicate.{Predicate, roll-Predicate}
use Rattle.tt_value.specs.declared.predicate.Conjunction.{Conjunction, roll-Conjunction}
use Rattle.tt_value.specs.declared.predicate.Unit.{Unit as Test}
use Rattle.tt_value.specs.declared.predicate.Unit.TheVariants as unit
use Rattle.tt_sql.specs.grammar.Grammar.{Way, Said, Prefix}
use Rattle.tt_sql.specs.machine.ExpressionTrees.{Reader, go_on, marked_all, marked_literal}

abbrev pub flag_of : ℕ → Bool
flag_of zero = false
flag_of (suc n) = true

abbrev pub comparison_of : ℕ → Comparison
comparison_of zero = Equal
comparison_of (suc zero) = NotEqual
comparison_of (suc (suc zero)) = Less
comparison_of (suc (suc (suc zero))) = LessOrEqual
comparison_of (suc (suc (suc (suc zero)))) = Greater
comparison_of (suc (suc (suc (suc (suc n))))) = GreaterOrEqual

-- ---- units without a unit inside

abbrev pub literal_operand : Literal → Reader Operand
literal_operand l (Way (suc zero) ∷ m) = Some (operand.Literal l, m)
literal_operand l m = None

abbrev pub marked_operand : Reader Operand
marked_operand (Said text place ∷ Way zero ∷ m) = Some (operand.Column (record { table = None; name = record { text = text; place = place } }), m)
marked_operand (Prefix front here ∷ Said text place ∷ Way zero ∷ m) = Some (operand.Column (record { table = Some (record { text = front; place = here }); name = record { text = text; place = place } }), m)
marked_operand m = go_on (marked_literal m) literal_operand

abbrev pub with_operand : Operand → ℕ → Operand → Reader Test
with_operand a c b (Way (suc (suc zero)) ∷ m) = Some (unit.Compare a (comparison_of c) b, m)
with_operand a c b m = None

abbrev pub with_list : Operand → ℕ → Literal → List Literal → Reader Test
with_list a c l literals (Way (suc (suc (suc (suc zero)))) ∷ m) = Some (unit.In a (flag_of c) (l ∷ literals), m)
with_list a c l literals m = None

abbrev pub with_greatest : Operand → ℕ → Literal → Literal → Reader Test
with_greatest a c least greatest (Way (suc (suc (suc (suc (suc zero))))) ∷ m) = Some (unit.Between a (flag_of c) least greatest, m)
with_greatest a c least greatest m = None

-- behind an operand, a way and a literal
abbrev pub with_literal : Operand → ℕ → Literal → Reader Test
with_literal a c l (Way (suc zero) ∷ Way (suc (suc zero)) ∷ m) = Some (unit.Compare a (comparison_of c) (operand.Literal l), m)
with_literal a c l (Way n ∷ m) = go_on (marked_all marked_literal (Way n ∷ m)) (with_list a c l)
with_literal a c l m = go_on (marked_literal m) (with_greatest a c l)

-- behind an operand and a way: that of the comparison, or whether NOT stands there
abbrev pub with_way : Operand → ℕ → Reader Test
with_way a c (Way (suc (suc (suc zero))) ∷ m) = Some (unit.IsNull a (flag_of c), m)
with_way a c (Way zero ∷ Way (suc (suc (suc (suc zero)))) ∷ m) = Some (unit.In a (flag_of c) [], m)
with_way a c (Said text place ∷ Way zero ∷ m) = with_operand a c (operand.Column (record { table = None; name = record { text = text; place = place } })) m
with_way a c (Prefix front here ∷ Said text place ∷ Way zero ∷ m) = with_operand a c (operand.Column (record { table = Some (record { text = front; place = here }); name = record { text = text; place = place } })) m
with_way a c m = go_on (marked_literal m) (with_literal a c)

abbrev pub behind_operand : Operand → Reader Test
behind_operand a (Way c ∷ m) = with_way a c m
behind_operand a m = None

abbrev pub marked_simple : Reader Test
marked_simple (Said column here ∷ Said front there ∷ Way (suc (suc (suc (suc (suc (suc zero)))))) ∷ m) =
    Some (unit.StartsWith (record { table = None; name = record { text = column; place = here } }) (record { text = front; place = there }), m)
marked_simple (Prefix table at ∷ Said column here ∷ Said front there ∷ Way (suc (suc (suc (suc (suc (suc zero)))))) ∷ m) =
    Some (unit.StartsWith (record { table = Some (record { text = table; place = at }); name = record { text = column; place = here } }) (record { text = front; place = there }), m)
marked_simple m = go_on (marked_operand m) behind_operand

-- ---- predicates, given a reader of the units within brackets

abbrev pub conjunction_rest : Reader Test → Test → Reader Conjunction
conjunction_rest r u m = go_on (marked_all r m) (λ others later. Some (roll-Conjunction (record { first = u; others = others }), later))

abbrev pub marked_conjunction_by : Reader Test → Reader Conjunction
marked_conjunction_by r m = go_on (r m) (conjunction_rest r)

abbrev pub predicate_rest : Reader Test → Conjunction → Reader Predicate
predicate_rest r c m = go_on (marked_all (marked_conjunction_by r) m) (λ others later. Some (roll-Predicate (record { first = c; others = others }), later))

abbrev pub marked_predicate_by : Reader Test → Reader Predicate
marked_predicate_by r m = go_on (marked_conjunction_by r m) (predicate_rest r)

abbrev pub unit_by : Reader Test → Reader Test
unit_by r (Way (suc (suc (suc (suc (suc (suc (suc zero))))))) ∷ m) = go_on (r m) (λ u later. Some (unit.Not u, later))
unit_by r (Way (suc (suc (suc (suc (suc (suc (suc (suc zero)))))))) ∷ m) = go_on (marked_predicate_by r m) (λ p later. Some (unit.Bracket p, later))
unit_by r m = marked_simple m

-- with at most so many levels
abbrev pub marked_unit : ℕ → Reader Test
marked_unit zero m = None
marked_unit (suc n) m = unit_by (marked_unit n) m

abbrev pub marked_predicate : ℕ → Reader Predicate
marked_predicate n m = marked_predicate_by (marked_unit n) m
