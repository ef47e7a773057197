-- The tree of a predicate's derivation.
use Rattle.std.proofs.Common.{◌≡◌, ℕ, zero, suc, List, [], ◌∷◌, ◌++◌, map, refl, sym, ap, ◌∙◌, subst}
use Rattle.tt_value.specs.declared.name.Literal.{Literal}
use Rattle.tt_value.specs.declared.predicate.Operand.TheVariants as operands
use Rattle.tt_value.specs.declared.predicate.Comparison.TheVariants.{Equal, NotEqual, Less, LessOrEqual, Greater, GreaterOrEqual}
use Rattle.tt_value.specs.declared.predicate.Predicate.{Predicate, roll-Predicate, out-roll-Predicate}
use Rattle.tt_value.specs.declared.predicate.Conjunction.{Conjunction, roll-Conjunction, out-roll-Conjunction}
use Rattle.tt_value.specs.declared.predicate.Unit.{Unit as Test, out-Unit, roll-Unit, out-roll-Unit}
use Rattle.tt_value.specs.declared.predicate.Unit.TheOpen.{Unit-F}
use Rattle.tt_value.specs.declared.predicate.Unit.TheVariants.{rolls-Not, rolls-Bracket as rolls-Group, rolls-Compare, rolls-IsNull, rolls-In, rolls-Between, rolls-StartsWith}
use Rattle.tt_value.specs.declared.predicate.Unit.TheVariants as units
use Rattle.tt_sql.specs.grammar.Grammar.{Mark, Way, nowhere}
use Rattle.tt_sql.specs.grammar.TokenKinds.{AND, OR, NOT}
use Rattle.tt_sql.specs.grammar.Combinators.{◌▸◌, one}
use Rattle.tt_sql.specs.grammar.Written.{literal, operand, compare, simple_unit, unit, conj, pred}
use Rattle.tt_sql.specs.marks.Expressions.{listed_marks, flag_marks, quoted_marks, literal_marks, column_marks, comparison_marks, operand_marks, unit_marks, conjunction_marks, predicate_marks}
use Rattle.tt_sql.proofs.marks.Expressions.{marks-Not, marks-Group, marks-Compare, marks-IsNull, marks-In, marks-Between, marks-StartsWith, marks-Conjunction, marks-Predicate}
use Rattle.tt_sql.specs.trees.Lists.{Each, IsListed}
use Rattle.tt_sql.specs.trees.Expressions.{IsWrittenColumn, IsWrittenQuoted, IsWrittenLiteral, IsWrittenOperand, ConjunctionHas, PredicateHas, UnitHas, IsWrittenUnit, IsWrittenPredicate}
use Rattle.tt_sql.proofs.grammar.Derivations.{word, noted, pair, first, second, inside}
use Rattle.tt_sql.proofs.trees.Leaves.{Tree, HasTrees, IsAny, joined_marks, no_end, column_trees, quoted_trees, flag_trees, literal_trees, behind_word, many_trees, listed_trees}

-- ---- operands

column_operand : (m : List Mark) → Tree column_marks IsWrittenColumn m → Tree operand_marks IsWrittenOperand (m ++ Way 0 ∷ [])
column_operand m c = record { tree = operands.Column c.tree; given = c.given; same = ap (λ (x : List Mark). x ++ Way 0 ∷ []) c.same }

literal_operand : (m : List Mark) → Tree literal_marks IsWrittenLiteral m → Tree operand_marks IsWrittenOperand (m ++ Way 1 ∷ [])
literal_operand m l = record { tree = operands.Literal l.tree; given = l.given; same = ap (λ (x : List Mark). x ++ Way 1 ∷ []) l.same }

operand_trees : HasTrees operand operand_marks IsWrittenOperand
operand_trees done m after (first (pair {between = between} {m = x} p noted)) = column_operand x (column_trees done x between p)
operand_trees done m after (second (pair {between = between} {m = x} p noted)) = literal_operand x (literal_trees done x between p)

compare_trees : HasTrees compare comparison_marks IsAny
compare_trees done m after (first (pair (word e is) noted)) = record { tree = Equal; given = tt; same = refl }
compare_trees done m after (second (first (pair (word e is) noted))) = record { tree = NotEqual; given = tt; same = refl }
compare_trees done m after (second (second (first (pair (word e is) noted)))) = record { tree = Less; given = tt; same = refl }
compare_trees done m after (second (second (second (first (pair (word e is) noted))))) = record { tree = LessOrEqual; given = tt; same = refl }
compare_trees done m after (second (second (second (second (first (pair (word e is) noted)))))) = record { tree = Greater; given = tt; same = refl }
compare_trees done m after (second (second (second (second (second (pair (word e is) noted)))))) = record { tree = GreaterOrEqual; given = tt; same = refl }

-- ---- what is written, level by level

abbrev Layer : Type 0
Layer = Unit-F Test Conjunction Predicate

-- a unit that is put together
made_unit : (levels : ℕ) (u : Test) (y : Layer) → roll-Unit y ≡ u → ((P : Test → Type 0) → UnitHas P y) → IsWrittenUnit levels u
unfolding IsWrittenUnit
made_unit zero u y e has = subst (UnitHas (λ v. ⊥)) (sym (out-roll-Unit y) ∙ ap out-Unit e) (has (λ v. ⊥))
made_unit (suc levels) u y e has = subst (UnitHas (IsWrittenUnit levels)) (sym (out-roll-Unit y) ∙ ap out-Unit e) (has (IsWrittenUnit levels))

-- a unit with units inside
deeper_unit : (levels : ℕ) (u : Test) (y : Layer) → roll-Unit y ≡ u → UnitHas (IsWrittenUnit levels) y → IsWrittenUnit (suc levels) u
unfolding IsWrittenUnit
deeper_unit levels u y e has = subst (UnitHas (IsWrittenUnit levels)) (sym (out-roll-Unit y) ∙ ap out-Unit e) has

-- ---- units without a unit inside

abbrev IsLiterals : List Literal → Type 0
IsLiterals literals = IsListed IsWrittenLiteral literals

abbrev literals_marks : List Literal → List Mark
literals_marks literals = listed_marks (map literal_marks literals)

module _ (levels : ℕ) where
  compare_unit : (i j k : List Mark) → Tree operand_marks IsWrittenOperand i → Tree comparison_marks IsAny j → Tree operand_marks IsWrittenOperand k → Tree unit_marks (IsWrittenUnit levels) (i ++ (j ++ (k ++ Way 2 ∷ [])))
  compare_unit i j k a c b = record {
    tree = units.Compare a.tree c.tree b.tree;
    given = made_unit levels _ (Unit-F.Compare a.tree c.tree b.tree) (rolls-Compare a.tree c.tree b.tree) (λ P. (a.given, b.given));
    same = marks-Compare a.tree c.tree b.tree ∙ joined_marks a.same (joined_marks c.same (ap (λ (x : List Mark). x ++ Way 2 ∷ []) b.same));
  }

  null_unit : (i j : List Mark) → Tree operand_marks IsWrittenOperand i → Tree flag_marks IsAny j → Tree unit_marks (IsWrittenUnit levels) (i ++ (j ++ Way 3 ∷ []))
  null_unit i j a negated = record {
    tree = units.IsNull a.tree negated.tree;
    given = made_unit levels _ (Unit-F.IsNull a.tree negated.tree) (rolls-IsNull a.tree negated.tree) (λ P. a.given);
    same = marks-IsNull a.tree negated.tree ∙ joined_marks a.same (ap (λ (x : List Mark). x ++ Way 3 ∷ []) negated.same);
  }

  in_unit : (i j k : List Mark) → Tree operand_marks IsWrittenOperand i → Tree flag_marks IsAny j → Tree literals_marks IsLiterals k → Tree unit_marks (IsWrittenUnit levels) (i ++ (j ++ (k ++ Way 4 ∷ [])))
  in_unit i j k a negated literals = record {
    tree = units.In a.tree negated.tree literals.tree;
    given = made_unit levels _ (Unit-F.In a.tree negated.tree literals.tree) (rolls-In a.tree negated.tree literals.tree) (λ P. (a.given, literals.given));
    same = marks-In a.tree negated.tree literals.tree ∙ joined_marks a.same (joined_marks negated.same (ap (λ (x : List Mark). x ++ Way 4 ∷ []) literals.same));
  }

  between_unit : (i j k l : List Mark) → Tree operand_marks IsWrittenOperand i → Tree flag_marks IsAny j → Tree literal_marks IsWrittenLiteral k → Tree literal_marks IsWrittenLiteral l → Tree unit_marks (IsWrittenUnit levels) (i ++ (j ++ (k ++ (l ++ Way 5 ∷ []))))
  between_unit i j k l a negated least greatest = record {
    tree = units.Between a.tree negated.tree least.tree greatest.tree;
    given = made_unit levels _ (Unit-F.Between a.tree negated.tree least.tree greatest.tree) (rolls-Between a.tree negated.tree least.tree greatest.tree) (λ P. (a.given, least.given, greatest.given));
    same = marks-Between a.tree negated.tree least.tree greatest.tree ∙ joined_marks a.same (joined_marks negated.same (joined_marks least.same (ap (λ (x : List Mark). x ++ Way 5 ∷ []) greatest.same)));
  }

  starts_unit : (i j : List Mark) → Tree column_marks IsWrittenColumn i → Tree quoted_marks IsWrittenQuoted j → Tree unit_marks (IsWrittenUnit levels) (i ++ (j ++ Way 6 ∷ []))
  starts_unit i j c front = record {
    tree = units.StartsWith c.tree front.tree;
    given = made_unit levels _ (Unit-F.StartsWith c.tree front.tree) (rolls-StartsWith c.tree front.tree) (λ P. (c.given, front.given));
    same = marks-StartsWith c.tree front.tree ∙ joined_marks c.same (ap (λ (x : List Mark). x ++ Way 6 ∷ []) front.same);
  }

  simple_trees : HasTrees simple_unit unit_marks (IsWrittenUnit levels)
  simple_trees done m after (first (pair {between = b} {m = i} p (pair {between = c} {m = j} q (pair {between = d} {m = k} r noted)))) =
      compare_unit i j k (operand_trees done i b p) (compare_trees b j c q) (operand_trees c k d r)
  simple_trees done m after (second (first (pair {between = b} {m = i} p (pair {between = c} (word e is) (pair {between = d} {m = j} q (pair (word f was) noted)))))) =
      null_unit i j (operand_trees done i b p) (flag_trees NOT nowhere c j d q)
  simple_trees done m after (second (second (first (pair {between = b} {m = i} p (pair {between = c} {m = j} q (pair (word e is) (pair (pair {between = d} (word f was) (pair {between = h} {m = k} r (word g had))) noted))))))) =
      in_unit i j (k ++ []) (operand_trees done i b p) (flag_trees NOT nowhere b j c q) (no_end k (listed_trees literal literal_marks IsWrittenLiteral literal_trees d k h r))
  simple_trees done m after (second (second (second (first (pair {between = b} {m = i} p (pair {between = c} {m = j} q (pair {between = d} (word e is) (pair {between = h} {m = k} r (pair {between = l} (word f was) (pair {between = o} {m = n} s noted)))))))))) =
      between_unit i j k n (operand_trees done i b p) (flag_trees NOT nowhere b j c q) (literal_trees d k h r) (literal_trees l n o s)
  simple_trees done m after (second (second (second (second (pair (word e is) (pair {between = b} (word f was) (pair {between = c} {m = i} p (pair {between = d} (word g had) (pair {between = h} {m = j} q (pair (word k had_) noted)))))))))) =
      starts_unit i j (column_trees b i c p) (quoted_trees d j h q)

-- ---- conjunctions and predicates, given their units

rolled_conjunction : (P : Test → Type 0) (u : Test) (us : List Test) → P u → Each P us → ConjunctionHas P (roll-Conjunction (record { first = u; others = us }))
rolled_conjunction P u us is each = subst (λ y. P y.first × Each P y.others) (sym (out-roll-Conjunction (record { first = u; others = us }))) (is, each)

rolled_predicate : (P : Test → Type 0) (c : Conjunction) (cs : List Conjunction) → ConjunctionHas P c → Each (ConjunctionHas P) cs → PredicateHas P (roll-Predicate (record { first = c; others = cs }))
rolled_predicate P c cs has each = subst (λ y. ConjunctionHas P y.first × Each (ConjunctionHas P) y.others) (sym (out-roll-Predicate (record { first = c; others = cs }))) (has, each)

module _ (levels : ℕ) (P : Test → Type 0) (unit_trees : HasTrees (unit levels) unit_marks P) where
  conjunction_trees : HasTrees (conj levels) conjunction_marks (ConjunctionHas P)
  conjunction_trees done m after (pair {between = between} {m = x} {n = y} p q) =
      let u = unit_trees done x between p in
      let us = many_trees (one AND ▸ unit levels) unit_marks P (behind_word AND nowhere (unit levels) unit_marks P unit_trees) between y after q in
      record { tree = roll-Conjunction (record { first = u.tree; others = us.tree }); given = rolled_conjunction P u.tree us.tree u.given us.given; same = marks-Conjunction u.tree us.tree ∙ joined_marks u.same us.same }

  pub predicate_trees_of : HasTrees (pred levels) predicate_marks (PredicateHas P)
  predicate_trees_of done m after (pair {between = between} {m = x} {n = y} p q) =
      let c = conjunction_trees done x between p in
      let cs = many_trees (one OR ▸ conj levels) conjunction_marks (ConjunctionHas P) (behind_word OR nowhere (conj levels) conjunction_marks (ConjunctionHas P) conjunction_trees) between y after q in
      record { tree = roll-Predicate (record { first = c.tree; others = cs.tree }); given = rolled_predicate P c.tree cs.tree c.given cs.given; same = marks-Predicate c.tree cs.tree ∙ joined_marks c.same cs.same }

-- ---- every level

not_unit : (levels : ℕ) (m : List Mark) → Tree unit_marks (IsWrittenUnit levels) m → Tree unit_marks (IsWrittenUnit (suc levels)) (Way 7 ∷ m)
not_unit levels m u = record { tree = units.Not u.tree; given = deeper_unit levels _ (Unit-F.Not u.tree) (rolls-Not u.tree) u.given; same = marks-Not u.tree ∙ ap (λ (x : List Mark). Way 7 ∷ x) u.same }

bracket_unit : (levels : ℕ) (m : List Mark) → Tree predicate_marks (IsWrittenPredicate levels) m → Tree unit_marks (IsWrittenUnit (suc levels)) (Way 8 ∷ m)
bracket_unit levels m p = record { tree = units.Bracket p.tree; given = deeper_unit levels _ (Unit-F.Bracket p.tree) (rolls-Group p.tree) p.given; same = marks-Group p.tree ∙ ap (λ (x : List Mark). Way 8 ∷ x) p.same }

pub unit_trees : (levels : ℕ) → HasTrees (unit levels) unit_marks (IsWrittenUnit levels)
unfolding unit
unit_trees zero done m after p = simple_trees zero done m after p
unit_trees (suc levels) done m after (first (pair {between = b} (word e is) (pair noted (inside {m = x} p)))) = not_unit levels x (unit_trees levels b x after p)
unit_trees (suc levels) done m after (second (first (pair {between = b} (word e is) (pair noted (pair {between = c} {m = x} (inside p) (word f was)))))) = bracket_unit levels (x ++ []) (no_end x (predicate_trees_of levels (IsWrittenUnit levels) (unit_trees levels) b x c p))
unit_trees (suc levels) done m after (second (second p)) = simple_trees (suc levels) done m after p

pub predicate_trees : (levels : ℕ) → HasTrees (pred levels) predicate_marks (IsWrittenPredicate levels)
predicate_trees levels = predicate_trees_of levels (IsWrittenUnit levels) (unit_trees levels)
