-- Marks of a predicate are read back as the predicate.
use Rattle.std.proofs.Common.{◌≡◌, ℕ, zero, suc, ◌+◌, ◌<◌, Bool, true, false, List, [], ◌∷◌, ◌++◌, map, length, Option, Some, None, refl, sym, ap, ◌∙◌, subst, append_assoc, length-append, arith}
use Rattle.tt_value.specs.declared.name.Literal.{Literal}
use Rattle.tt_value.specs.declared.name.Name.{Name}
use Rattle.tt_value.specs.declared.name.Quoted.{Quoted}
use Rattle.tt_value.specs.declared.name.ColumnName.{ColumnName}
use Rattle.tt_value.specs.declared.value.Value.{Value}
use Rattle.tt_value.specs.declared.value.Value.TheVariants.{Null, Int, Date, Text}
use Rattle.tt_value.specs.declared.predicate.Operand.{Operand}
use Rattle.tt_value.specs.declared.predicate.Operand.TheVariants as operand
use Rattle.tt_value.specs.declared.predicate.Comparison.{Comparison}
use Rattle.tt_value.specs.declared.predicate.Comparison.TheVariants.{Equal, NotEqual, Less, LessOrEqual, Greater, GreaterOrEqual}
use Rattle.tt_value.specs.declared.predicate.Predicate.{Predicate, roll-Predicate, out-Predicate, roll-out-Predicate}
use Rattle.tt_value.specs.declared.predicate.Conjunction.{Conjunction, roll-Conjunction, out-Conjunction, roll-out-Conjunction}
use Rattle.tt_value.specs.declared.predicate.Unit.{Unit as Test, roll-Unit, out-Unit, roll-out-Unit}
use Rattle.tt_value.specs.declared.predicate.Unit.TheVariants as unit
use Rattle.tt_value.specs.declared.predicate.Unit.TheVariants.{rolls-Not, rolls-Bracket as rolls-Group, rolls-Compare, rolls-IsNull, rolls-In, rolls-Between, rolls-StartsWith}
use Rattle.tt_value.specs.declared.predicate.Unit.TheOpen.{Unit-F}
use Rattle.tt_value.specs.values.RowText.{IsPrintableValue}
use Rattle.tt_sql.specs.grammar.Grammar.{Mark, Way}
use Rattle.tt_sql.specs.marks.Expressions.{repeated, qualified, value_marks, literal_marks, listed_marks, flag_marks, quoted_marks, comparison_marks, operand_marks, unit_marks, conjunction_marks, predicate_marks}
use Rattle.tt_sql.proofs.marks.Expressions.{marks-Not, marks-Group, marks-Compare, marks-IsNull, marks-In, marks-Between, marks-StartsWith, marks-Conjunction, marks-Predicate}
use Rattle.tt_sql.specs.determined.Expressions.{AreGiven, joined, operand_leaves, unit_leaves, conjunction_leaves, IsGivenUnit, IsGivenConjunction, IsGivenPredicate}
use Rattle.tt_sql.proofs.determined.Expressions.{given_both, given_each, leaves-Not, leaves-Group, leaves-Compare, leaves-IsNull, leaves-In, leaves-Between, leaves-Conjunction, leaves-Predicate}
use Rattle.tt_sql.specs.machine.ExpressionTrees.{Reader, go_on, marked_all, marked_literal}
use Rattle.tt_sql.specs.machine.PredicateTrees.{comparison_of, literal_operand, with_list, with_greatest, with_literal, with_way, behind_operand, conjunction_rest, marked_conjunction_by, predicate_rest, marked_predicate_by, unit_by, marked_unit, marked_predicate}
use Rattle.tt_sql.proofs.machine.ExpressionTrees.{ReadsBack, all_reads, value_reads, one_tree}

-- ---- the shapes of trees

pub by_unit : (P : Test → Type 0) → ((u : Test) → P (unit.Not u)) → ((p : Predicate) → P (unit.Bracket p)) → ((a : Operand) (c : Comparison) (b : Operand) → P (unit.Compare a c b)) → ((a : Operand) (negated : Bool) → P (unit.IsNull a negated)) → ((a : Operand) (negated : Bool) (literals : List Literal) → P (unit.In a negated literals)) → ((a : Operand) (negated : Bool) (least greatest : Literal) → P (unit.Between a negated least greatest)) → ((c : ColumnName) (front : Quoted) → P (unit.StartsWith c front)) → (u : Test) → P u
by_unit P negation group compare is_null is_in between starts u = subst P (roll-out-Unit u) (by_layer (out-Unit u))
  where
    by_layer : (y : Unit-F Test Conjunction Predicate) → P (roll-Unit y)
    by_layer (Unit-F.Not v) = subst P (sym (rolls-Not v)) (negation v)
    by_layer (Unit-F.Bracket p) = subst P (sym (rolls-Group p)) (group p)
    by_layer (Unit-F.Compare a c b) = subst P (sym (rolls-Compare a c b)) (compare a c b)
    by_layer (Unit-F.IsNull a negated) = subst P (sym (rolls-IsNull a negated)) (is_null a negated)
    by_layer (Unit-F.In a negated literals) = subst P (sym (rolls-In a negated literals)) (is_in a negated literals)
    by_layer (Unit-F.Between a negated least greatest) = subst P (sym (rolls-Between a negated least greatest)) (between a negated least greatest)
    by_layer (Unit-F.StartsWith c front) = subst P (sym (rolls-StartsWith c front)) (starts c front)

pub by_conjunction : (P : Conjunction → Type 0) → ((u : Test) (others : List Test) → P (roll-Conjunction (record { first = u; others = others }))) → (c : Conjunction) → P c
by_conjunction P h c = subst P (roll-out-Conjunction c) (h (out-Conjunction c).first (out-Conjunction c).others)

pub by_predicate : (P : Predicate → Type 0) → ((c : Conjunction) (others : List Conjunction) → P (roll-Predicate (record { first = c; others = others }))) → (p : Predicate) → P p
by_predicate P h p = subst P (roll-out-Predicate p) (h (out-Predicate p).first (out-Predicate p).others)

-- ---- units without a unit inside

module _ (r : Reader Test) where
  column_first : (table : Option Name) (name : Name) (rest : List Mark) → unit_by r ((qualified table name ++ Way 0 ∷ []) ++ rest) ≡ behind_operand (operand.Column (record { table = table; name = name })) rest
  column_first None name rest = refl
  column_first (Some front) name rest = refl

  literal_first : (v : Value) (place : ℕ) → IsPrintableValue v → (rest : List Mark) → unit_by r ((value_marks v place ++ Way 1 ∷ []) ++ rest) ≡ behind_operand (operand.Literal (record { value = v; place = place })) rest
  literal_first Null place g rest = refl
  literal_first (Int n) place g rest = refl
  literal_first (Text text) place g rest = refl
  literal_first (Date day) place g rest = ap (λ (o : Option (Literal × List Mark)). go_on (go_on o literal_operand) behind_operand) (value_reads (Date day) place g (Way 1 ∷ rest))

  operand_first : (a : Operand) → AreGiven (operand_leaves a) → (rest : List Mark) → unit_by r (operand_marks a ++ rest) ≡ behind_operand a rest
  operand_first (operand.Column c) g rest = column_first c.table c.name rest
  operand_first (operand.Literal l) g rest = literal_first l.value l.place g.0 rest

  -- an operand and what stands behind it
  on_operand : (a : Operand) → AreGiven (operand_leaves a) → (m rest : List Mark) → unit_by r ((operand_marks a ++ m) ++ rest) ≡ behind_operand a (m ++ rest)
  on_operand a g m rest = ap (unit_by r) (append_assoc (operand_marks a) m rest) ∙ operand_first a g (m ++ rest)

module _ (a : Operand) where
  second_column : (i : ℕ) (table : Option Name) (name : Name) (rest : List Mark) → with_way a i (((qualified table name ++ Way 0 ∷ []) ++ Way 2 ∷ []) ++ rest) ≡ Some (unit.Compare a (comparison_of i) (operand.Column (record { table = table; name = name })), rest)
  second_column i None name rest = refl
  second_column i (Some front) name rest = refl

  second_literal : (i : ℕ) (v : Value) (place : ℕ) → IsPrintableValue v → (rest : List Mark) → with_way a i (((value_marks v place ++ Way 1 ∷ []) ++ Way 2 ∷ []) ++ rest) ≡ Some (unit.Compare a (comparison_of i) (operand.Literal (record { value = v; place = place })), rest)
  second_literal i Null place g rest = refl
  second_literal i (Int n) place g rest = refl
  second_literal i (Text text) place g rest = refl
  second_literal i (Date day) place g rest = ap (λ (o : Option (Literal × List Mark)). go_on o (with_literal a i)) (value_reads (Date day) place g (Way 1 ∷ Way 2 ∷ rest))

  second_operand : (i : ℕ) (b : Operand) → AreGiven (operand_leaves b) → (rest : List Mark) → with_way a i ((operand_marks b ++ Way 2 ∷ []) ++ rest) ≡ Some (unit.Compare a (comparison_of i) b, rest)
  second_operand i (operand.Column c) g rest = second_column i c.table c.name rest
  second_operand i (operand.Literal l) g rest = second_literal i l.value l.place g.0 rest

  compare_end : (c : Comparison) (b : Operand) → AreGiven (operand_leaves b) → (rest : List Mark) → behind_operand a ((comparison_marks c ++ (operand_marks b ++ Way 2 ∷ [])) ++ rest) ≡ Some (unit.Compare a c b, rest)
  compare_end Equal b g rest = second_operand 0 b g rest
  compare_end NotEqual b g rest = second_operand 1 b g rest
  compare_end Less b g rest = second_operand 2 b g rest
  compare_end LessOrEqual b g rest = second_operand 3 b g rest
  compare_end Greater b g rest = second_operand 4 b g rest
  compare_end GreaterOrEqual b g rest = second_operand 5 b g rest

  null_end : (negated : Bool) (rest : List Mark) → behind_operand a ((flag_marks negated ++ Way 3 ∷ []) ++ rest) ≡ Some (unit.IsNull a negated, rest)
  null_end false rest = refl
  null_end true rest = refl

  literal_way : (i : ℕ) (v : Value) (place : ℕ) → IsPrintableValue v → (rest : List Mark) → with_way a i (value_marks v place ++ rest) ≡ with_literal a i (record { value = v; place = place }) rest
  literal_way i Null place g rest = refl
  literal_way i (Int n) place g rest = refl
  literal_way i (Text text) place g rest = refl
  literal_way i (Date day) place g rest = ap (λ (o : Option (Literal × List Mark)). go_on o (with_literal a i)) (value_reads (Date day) place g rest)

  another_literal : (i : ℕ) (l : Literal) (v : Value) (place : ℕ) (ms : List (List Mark)) (rest : List Mark) → with_literal a i l (repeated (value_marks v place ∷ ms) ++ rest) ≡ go_on (marked_all marked_literal (repeated (value_marks v place ∷ ms) ++ rest)) (with_list a i l)
  another_literal i l Null place ms rest = refl
  another_literal i l (Int n) place ms rest = refl
  another_literal i l (Text text) place ms rest = refl
  another_literal i l (Date day) place ms rest = refl

  more_literals : (i : ℕ) (l : Literal) (literals : List Literal) (rest : List Mark) → with_literal a i l (repeated (map literal_marks literals) ++ rest) ≡ go_on (marked_all marked_literal (repeated (map literal_marks literals) ++ rest)) (with_list a i l)
  more_literals i l [] rest = refl
  more_literals i l (x ∷ literals) rest = another_literal i l x.value x.place (map literal_marks literals) rest

  list_way : (i : ℕ) (l : Literal) (literals : List Literal) → IsPrintableValue l.value → AreGiven literals → (rest : List Mark) → with_way a i ((listed_marks (map literal_marks (l ∷ literals)) ++ Way 4 ∷ []) ++ rest) ≡ with_list a i l literals (Way 4 ∷ rest)
  list_way i l literals g gs rest =
      let ms = repeated (map literal_marks literals) in
      ap (with_way a i) (append_assoc (literal_marks l ++ ms) (Way 4 ∷ []) rest ∙ append_assoc (literal_marks l) ms (Way 4 ∷ rest))
      ∙ literal_way i l.value l.place g (ms ++ (Way 4 ∷ rest))
      ∙ more_literals i l literals (Way 4 ∷ rest)
      ∙ ap (λ (o : Option (List Literal × List Mark)). go_on o (with_list a i l)) (all_reads literal_marks (λ x. IsPrintableValue x.value) (suc (length ms)) marked_literal (λ x h less later. value_reads x.value x.place h later) literals gs (omega arith) (Way 4 ∷ rest))

  in_end : (negated : Bool) (literals : List Literal) → AreGiven literals → (rest : List Mark) → behind_operand a ((flag_marks negated ++ (listed_marks (map literal_marks literals) ++ Way 4 ∷ [])) ++ rest) ≡ Some (unit.In a negated literals, rest)
  in_end false [] g rest = refl
  in_end true [] g rest = refl
  in_end false (l ∷ literals) g rest = list_way 0 l literals g.0 g.1 rest
  in_end true (l ∷ literals) g rest = list_way 1 l literals g.0 g.1 rest

  greatest_end : (i : ℕ) (l : Literal) (v : Value) (place : ℕ) → IsPrintableValue v → (rest : List Mark) → with_literal a i l ((value_marks v place ++ Way 5 ∷ []) ++ rest) ≡ with_greatest a i l (record { value = v; place = place }) (Way 5 ∷ rest)
  greatest_end i l Null place g rest = refl
  greatest_end i l (Int n) place g rest = refl
  greatest_end i l (Text text) place g rest = refl
  greatest_end i l (Date day) place g rest = ap (λ (o : Option (Literal × List Mark)). go_on o (with_greatest a i l)) (value_reads (Date day) place g (Way 5 ∷ rest))

  between_way : (i : ℕ) (least greatest : Literal) → IsPrintableValue least.value → IsPrintableValue greatest.value → (rest : List Mark) → with_way a i ((literal_marks least ++ (literal_marks greatest ++ Way 5 ∷ [])) ++ rest) ≡ with_greatest a i least greatest (Way 5 ∷ rest)
  between_way i least greatest g h rest =
      ap (with_way a i) (append_assoc (literal_marks least) (literal_marks greatest ++ Way 5 ∷ []) rest)
      ∙ literal_way i least.value least.place g ((literal_marks greatest ++ Way 5 ∷ []) ++ rest)
      ∙ greatest_end i least greatest.value greatest.place h rest

  between_end : (negated : Bool) (least greatest : Literal) → IsPrintableValue least.value → IsPrintableValue greatest.value → (rest : List Mark) → behind_operand a ((flag_marks negated ++ (literal_marks least ++ (literal_marks greatest ++ Way 5 ∷ []))) ++ rest) ≡ Some (unit.Between a negated least greatest, rest)
  between_end false least greatest g h rest = between_way 0 least greatest g h rest
  between_end true least greatest g h rest = between_way 1 least greatest g h rest

starts_case : (r : Reader Test) (table : Option Name) (name : Name) (front : Quoted) (rest : List Mark) → unit_by r ((qualified table name ++ (quoted_marks front ++ Way 6 ∷ [])) ++ rest) ≡ Some (unit.StartsWith (record { table = table; name = name }) front, rest)
starts_case r None name front rest = refl
starts_case r (Some x) name front rest = refl

-- ---- predicates, given a reader of their units

module _ (n : ℕ) (r : Reader Test) (good : ReadsBack unit_marks IsGivenUnit n r) where
  conjunction_by_reads : ReadsBack conjunction_marks IsGivenConjunction n (marked_conjunction_by r)
  conjunction_by_reads = by_conjunction (λ c. IsGivenConjunction c → length (conjunction_marks c) < n → (rest : List Mark) → marked_conjunction_by r (conjunction_marks c ++ rest) ≡ Some (c, rest)) (λ u others given less rest.
      let parts = given_both (unit_leaves u) (joined (map unit_leaves others)) (subst AreGiven (leaves-Conjunction u others) given) in
      let ms = repeated (map unit_marks others) in
      let size : length (conjunction_marks (roll-Conjunction (record { first = u; others = others }))) ≡ length (unit_marks u) + length ms = ap length (marks-Conjunction u others) ∙ length-append (unit_marks u) ms in
      ap (λ (z : List Mark). marked_conjunction_by r (z ++ rest)) (marks-Conjunction u others)
      ∙ ap (marked_conjunction_by r) (append_assoc (unit_marks u) ms rest)
      ∙ ap (λ (o : Option (Test × List Mark)). go_on o (conjunction_rest r)) (good u parts.0 (omega (arith, size, less)) (ms ++ rest))
      ∙ ap (λ (o : Option (List Test × List Mark)). go_on o (λ xs later. Some (roll-Conjunction (record { first = u; others = xs }), later))) (all_reads unit_marks IsGivenUnit n r good others (given_each unit_leaves others parts.1) (omega (arith, size, less)) rest))

  pub predicate_by_reads : ReadsBack predicate_marks IsGivenPredicate n (marked_predicate_by r)
  predicate_by_reads = by_predicate (λ p. IsGivenPredicate p → length (predicate_marks p) < n → (rest : List Mark) → marked_predicate_by r (predicate_marks p ++ rest) ≡ Some (p, rest)) (λ c others given less rest.
      let parts = given_both (conjunction_leaves c) (joined (map conjunction_leaves others)) (subst AreGiven (leaves-Predicate c others) given) in
      let ms = repeated (map conjunction_marks others) in
      let size : length (predicate_marks (roll-Predicate (record { first = c; others = others }))) ≡ length (conjunction_marks c) + length ms = ap length (marks-Predicate c others) ∙ length-append (conjunction_marks c) ms in
      ap (λ (z : List Mark). marked_predicate_by r (z ++ rest)) (marks-Predicate c others)
      ∙ ap (marked_predicate_by r) (append_assoc (conjunction_marks c) ms rest)
      ∙ ap (λ (o : Option (Conjunction × List Mark)). go_on o (predicate_rest r)) (conjunction_by_reads c parts.0 (omega (arith, size, less)) (ms ++ rest))
      ∙ ap (λ (o : Option (List Conjunction × List Mark)). go_on o (λ xs later. Some (roll-Predicate (record { first = c; others = xs }), later))) (all_reads conjunction_marks IsGivenConjunction n (marked_conjunction_by r) conjunction_by_reads others (given_each conjunction_leaves others parts.1) (omega (arith, size, less)) rest))

  pub unit_by_reads : ReadsBack unit_marks IsGivenUnit (suc n) (unit_by r)
  unit_by_reads = by_unit (λ u. IsGivenUnit u → length (unit_marks u) < suc n → (rest : List Mark) → unit_by r (unit_marks u ++ rest) ≡ Some (u, rest))
      (λ u given less rest. ap (λ (z : List Mark). unit_by r (z ++ rest)) (marks-Not u) ∙ ap (λ (o : Option (Test × List Mark)). go_on o (λ v later. Some (unit.Not v, later))) (good u (subst AreGiven (leaves-Not u) given) (omega (arith, ap length (marks-Not u), less)) rest))
      (λ p given less rest. ap (λ (z : List Mark). unit_by r (z ++ rest)) (marks-Group p) ∙ ap (λ (o : Option (Predicate × List Mark)). go_on o (λ v later. Some (unit.Bracket v, later))) (predicate_by_reads p (subst AreGiven (leaves-Group p) given) (omega (arith, ap length (marks-Group p), less)) rest))
      (λ a c b given less rest. let parts = given_both (operand_leaves a) (operand_leaves b) (subst AreGiven (leaves-Compare a c b) given) in
      ap (λ (z : List Mark). unit_by r (z ++ rest)) (marks-Compare a c b) ∙ on_operand r a parts.0 (comparison_marks c ++ (operand_marks b ++ Way 2 ∷ [])) rest ∙ compare_end a c b parts.1 rest)
      (λ a negated given less rest. ap (λ (z : List Mark). unit_by r (z ++ rest)) (marks-IsNull a negated) ∙ on_operand r a (subst AreGiven (leaves-IsNull a negated) given) (flag_marks negated ++ Way 3 ∷ []) rest ∙ null_end a negated rest)
      (λ a negated literals given less rest. let parts = given_both (operand_leaves a) literals (subst AreGiven (leaves-In a negated literals) given) in
      ap (λ (z : List Mark). unit_by r (z ++ rest)) (marks-In a negated literals) ∙ on_operand r a parts.0 (flag_marks negated ++ (listed_marks (map literal_marks literals) ++ Way 4 ∷ [])) rest ∙ in_end a negated literals parts.1 rest)
      (λ a negated least greatest given less rest. let parts = given_both (operand_leaves a) (least ∷ greatest ∷ []) (subst AreGiven (leaves-Between a negated least greatest) given) in
      ap (λ (z : List Mark). unit_by r (z ++ rest)) (marks-Between a negated least greatest) ∙ on_operand r a parts.0 (flag_marks negated ++ (literal_marks least ++ (literal_marks greatest ++ Way 5 ∷ []))) rest ∙ between_end a negated least greatest parts.1.0 parts.1.1.0 rest)
      (λ c front given less rest. ap (λ (z : List Mark). unit_by r (z ++ rest)) (marks-StartsWith c front) ∙ starts_case r c.table c.name front rest)

-- ---- every level

pub unit_reads : (n : ℕ) → ReadsBack unit_marks IsGivenUnit n (marked_unit n)
unit_reads zero u given less rest = absurd (omega (arith, less))
unit_reads (suc n) u given less rest = unit_by_reads n (marked_unit n) (unit_reads n) u given less rest

pub predicate_reads : (n : ℕ) → ReadsBack predicate_marks IsGivenPredicate n (marked_predicate n)
predicate_reads n = predicate_by_reads n (marked_unit n) (unit_reads n)

-- ---- the tree is determined

pub one_predicate : (a b : Predicate) → IsGivenPredicate a → IsGivenPredicate b → predicate_marks a ≡ predicate_marks b → a ≡ b
one_predicate = one_tree predicate_marks IsGivenPredicate marked_predicate predicate_reads

pub one_unit : (a b : Test) → IsGivenUnit a → IsGivenUnit b → unit_marks a ≡ unit_marks b → a ≡ b
one_unit = one_tree unit_marks IsGivenUnit marked_unit unit_reads
