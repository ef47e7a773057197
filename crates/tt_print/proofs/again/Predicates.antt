-- Predicates are read again.
use Rattle.std.proofs.Common.{◌≡◌, ℕ, zero, suc, Bool, List, [], ◌∷◌, ◌++◌, map, refl, subst}
use Rattle.std.specs.Prelude.{codes}
use Rattle.tt_value.specs.declared.name.Quoted.{Quoted}
use Rattle.tt_value.specs.declared.name.Literal.{Literal}
use Rattle.tt_value.specs.declared.name.ColumnName.{ColumnName}
use Rattle.tt_value.specs.declared.predicate.Operand.{Operand}
use Rattle.tt_value.specs.declared.predicate.Operand.TheVariants as operand
use Rattle.tt_value.specs.declared.predicate.Comparison.{Comparison}
use Rattle.tt_value.specs.declared.predicate.Comparison.TheVariants.{Equal, NotEqual, Less, LessOrEqual, Greater, GreaterOrEqual}
use Rattle.tt_value.specs.declared.predicate.Predicate.{Predicate, out-Predicate, fold_out-Predicate}
use Rattle.tt_value.specs.declared.predicate.Conjunction.{Conjunction, out-Conjunction, fold_out-Conjunction}
use Rattle.tt_value.specs.declared.predicate.Unit.{Unit as Test, out-Unit, roll-Unit, roll-out-Unit}
use Rattle.tt_value.specs.declared.predicate.Unit.TheOpen.{Unit-F}
use Rattle.tt_value.specs.declared.predicate.Unit.TheFolds.{fold-roll-Unit}
use Rattle.tt_sql.specs.trees.Lists.{IsListed}
use Rattle.tt_sql.specs.grammar.Grammar.{Mark, Way}
use Rattle.tt_sql.specs.grammar.Combinators.{◌▸◌, one}
use Rattle.tt_sql.specs.grammar.TokenKinds.{AND, OR, WHERE, word_kind, sign_kind}
use Rattle.tt_print.specs.text.Words.{Words, literal_words}
use Rattle.tt_print.specs.text.Predicates.{comparison_word, operand_words, compare_words, is_null_words, in_words, between_words, starts_with_words, predicate_words, conjunction_words, unit_words, predicate_level, conjunction_level, unit_level, filter_words}
use Rattle.tt_sql.specs.marks.Expressions.{repeated, listed_marks, flag_marks, column_marks, quoted_marks, literal_marks, operand_marks, comparison_marks, unit_marks, conjunction_marks, predicate_marks, unit_step, conjunction_step, predicate_step}
use Rattle.tt_sql.specs.grammar.Written.{literal, compare, operand as operand_part, simple_unit, unit, conj, pred}
use Rattle.tt_print.specs.again.Spelling.{IsReadAs}
use Rattle.tt_sql.specs.trees.Expressions.{IsWrittenColumn, IsWrittenQuoted, IsWrittenLiteral, IsWrittenOperand, ConjunctionHas, PredicateHas, UnitHas, IsWrittenUnit, IsWrittenPredicate}
use Rattle.tt_print.proofs.text.Predicates.{predicate_words-out, conjunction_words-out}
use Rattle.tt_print.proofs.again.Parts.{as_told, in_order, as_first, as_second, a_way, word_first, with_way, all_more, in_list, a_flag, in_brackets, in_production, word_last}
use Rattle.tt_print.proofs.again.Expressions.{column_read, quoted_read, literal_read}

-- ---- units without a unit inside

operand_read : (a : Operand) → IsWrittenOperand a → IsReadAs operand_part (operand_words a) (operand_marks a)
operand_read (operand.Column c) is = as_first (with_way 0 (column_read c is))
operand_read (operand.Literal l) is = as_second (with_way 1 (literal_read l is))

comparison_read : (c : Comparison) → IsReadAs compare (comparison_word c ∷ []) (comparison_marks c)
unfolding sign_kind
comparison_read Equal = as_first (word_first (codes "=") (λ at. refl) (a_way 0))
comparison_read NotEqual = as_second (as_first (word_first (codes "<>") (λ at. refl) (a_way 1)))
comparison_read Less = as_second (as_second (as_first (word_first (codes "<") (λ at. refl) (a_way 2))))
comparison_read LessOrEqual = as_second (as_second (as_second (as_first (word_first (codes "<=") (λ at. refl) (a_way 3)))))
comparison_read Greater = as_second (as_second (as_second (as_second (as_first (word_first (codes ">") (λ at. refl) (a_way 4))))))
comparison_read GreaterOrEqual = as_second (as_second (as_second (as_second (as_second (word_first (codes ">=") (λ at. refl) (a_way 5))))))

compare_read : (a : Operand) (c : Comparison) (b : Operand) → IsWrittenOperand a → IsWrittenOperand b → IsReadAs simple_unit (compare_words a c b) (operand_marks a ++ (comparison_marks c ++ (operand_marks b ++ Way 2 ∷ [])))
compare_read a c b left right = as_first (in_order (operand_read a left) (in_order (comparison_read c) (with_way 2 (operand_read b right))))

null_read : (a : Operand) (negated : Bool) → IsWrittenOperand a → IsReadAs simple_unit (is_null_words a negated) (operand_marks a ++ (flag_marks negated ++ Way 3 ∷ []))
unfolding word_kind
null_read a negated is = as_second (as_first (in_order (operand_read a is) (word_first (codes "IS") (λ at. refl) (in_order (a_flag (codes "NOT") (λ at. refl) negated) (word_first (codes "NULL") (λ at. refl) (a_way 3))))))

in_read : (a : Operand) (negated : Bool) (literals : List Literal) → IsWrittenOperand a → IsListed IsWrittenLiteral literals → IsReadAs simple_unit (in_words a negated literals) (operand_marks a ++ (flag_marks negated ++ (listed_marks (map literal_marks literals) ++ Way 4 ∷ [])))
unfolding word_kind
in_read a negated literals is are = as_second (as_second (as_first (in_order (operand_read a is) (in_order (a_flag (codes "NOT") (λ at. refl) negated)
    (word_first (codes "IN") (λ at. refl) (with_way 4 (in_brackets (in_list literal literal_words literal_marks IsWrittenLiteral literal_read literals are))))))))

between_read : (a : Operand) (negated : Bool) (least greatest : Literal) → IsWrittenOperand a → IsWrittenLiteral least → IsWrittenLiteral greatest
    → IsReadAs simple_unit (between_words a negated least greatest) (operand_marks a ++ (flag_marks negated ++ (literal_marks least ++ (literal_marks greatest ++ Way 5 ∷ []))))
unfolding word_kind
between_read a negated least greatest is low high = as_second (as_second (as_second (as_first (in_order (operand_read a is) (in_order (a_flag (codes "NOT") (λ at. refl) negated)
    (word_first (codes "BETWEEN") (λ at. refl) (in_order (literal_read least low) (word_first (codes "AND") (λ at. refl) (with_way 5 (literal_read greatest high))))))))))

starts_read : (c : ColumnName) (front : Quoted) → IsWrittenColumn c → IsWrittenQuoted front → IsReadAs simple_unit (starts_with_words c front) (column_marks c ++ (quoted_marks front ++ Way 6 ∷ []))
unfolding word_kind sign_kind
starts_read c front is text = as_second (as_second (as_second (as_second (word_first (codes "STARTSWITH") (λ at. refl) (word_first (codes "(") (λ at. refl)
    (in_order (column_read c is) (word_first (codes ",") (λ at. refl) (in_order (quoted_read front text) (word_first (codes ")") (λ at. refl) (a_way 6))))))))))

-- ---- trees, given how their units are read

abbrev M : Type 0
M = List Mark

pub conjunction_marks-out : (c : Conjunction) → conjunction_marks c ≡ unit_marks (out-Conjunction c).first ++ repeated (map unit_marks (out-Conjunction c).others)
unfolding conjunction_marks unit_marks
conjunction_marks-out c = fold_out-Conjunction M M M unit_step conjunction_step predicate_step c

pub predicate_marks-out : (p : Predicate) → predicate_marks p ≡ conjunction_marks (out-Predicate p).first ++ repeated (map conjunction_marks (out-Predicate p).others)
unfolding predicate_marks conjunction_marks
predicate_marks-out p = fold_out-Predicate M M M unit_step conjunction_step predicate_step p

abbrev IsUnitRead : ℕ → Test → Type 0
IsUnitRead levels u = IsReadAs (unit levels) (unit_words u) (unit_marks u)

module _ (P : Test → Type 0) (levels : ℕ) (good : (u : Test) → P u → IsUnitRead levels u) where
  conjunction_read : (c : Conjunction) → ConjunctionHas P c → IsReadAs (conj levels) (conjunction_words c) (conjunction_marks c)
  unfolding word_kind
  conjunction_read c has = as_told (conjunction_words-out c) (conjunction_marks-out c) (in_order (good _ has.0)
      (all_more (one AND ▸ unit levels) (λ u. codes "AND" ∷ unit_words u) unit_marks P (λ u is. word_first (codes "AND") (λ at. refl) (good u is)) (out-Conjunction c).others has.1))

  pub predicate_by_read : (p : Predicate) → PredicateHas P p → IsReadAs (pred levels) (predicate_words p) (predicate_marks p)
  unfolding word_kind
  predicate_by_read p has = as_told (predicate_words-out p) (predicate_marks-out p) (in_order (conjunction_read (out-Predicate p).first has.0)
      (all_more (one OR ▸ conj levels) (λ c. codes "OR" ∷ conjunction_words c) conjunction_marks (ConjunctionHas P) (λ c is. word_first (codes "OR") (λ at. refl) (conjunction_read c is)) (out-Predicate p).others has.1))

-- ---- units

abbrev pub words_of : Unit-F Test Conjunction Predicate → Words
words_of (Unit-F.Not u) = codes "NOT" ∷ unit_words u
words_of (Unit-F.Bracket p) = codes "(" ∷ (predicate_words p ++ (codes ")" ∷ []))
words_of (Unit-F.Compare a c b) = compare_words a c b
words_of (Unit-F.IsNull a negated) = is_null_words a negated
words_of (Unit-F.In a negated literals) = in_words a negated literals
words_of (Unit-F.Between a negated least greatest) = between_words a negated least greatest
words_of (Unit-F.StartsWith c front) = starts_with_words c front

abbrev pub marks_of : Unit-F Test Conjunction Predicate → List Mark
marks_of (Unit-F.Not u) = Way 7 ∷ unit_marks u
marks_of (Unit-F.Bracket p) = Way 8 ∷ predicate_marks p
marks_of (Unit-F.Compare a c b) = operand_marks a ++ (comparison_marks c ++ (operand_marks b ++ Way 2 ∷ []))
marks_of (Unit-F.IsNull a negated) = operand_marks a ++ (flag_marks negated ++ Way 3 ∷ [])
marks_of (Unit-F.In a negated literals) = operand_marks a ++ (flag_marks negated ++ (listed_marks (map literal_marks literals) ++ Way 4 ∷ []))
marks_of (Unit-F.Between a negated least greatest) = operand_marks a ++ (flag_marks negated ++ (literal_marks least ++ (literal_marks greatest ++ Way 5 ∷ [])))
marks_of (Unit-F.StartsWith c front) = column_marks c ++ (quoted_marks front ++ Way 6 ∷ [])

pub words_are : (y : Unit-F Test Conjunction Predicate) → unit_words (roll-Unit y) ≡ words_of y
words_are (Unit-F.Not u) = fold-roll-Unit Words Words Words unit_level conjunction_level predicate_level _
words_are (Unit-F.Bracket p) = fold-roll-Unit Words Words Words unit_level conjunction_level predicate_level _
words_are (Unit-F.Compare a c b) = fold-roll-Unit Words Words Words unit_level conjunction_level predicate_level _
words_are (Unit-F.IsNull a negated) = fold-roll-Unit Words Words Words unit_level conjunction_level predicate_level _
words_are (Unit-F.In a negated literals) = fold-roll-Unit Words Words Words unit_level conjunction_level predicate_level _
words_are (Unit-F.Between a negated least greatest) = fold-roll-Unit Words Words Words unit_level conjunction_level predicate_level _
words_are (Unit-F.StartsWith c front) = fold-roll-Unit Words Words Words unit_level conjunction_level predicate_level _

pub marks_are : (y : Unit-F Test Conjunction Predicate) → unit_marks (roll-Unit y) ≡ marks_of y
unfolding unit_marks predicate_marks
marks_are (Unit-F.Not u) = fold-roll-Unit M M M unit_step conjunction_step predicate_step _
marks_are (Unit-F.Bracket p) = fold-roll-Unit M M M unit_step conjunction_step predicate_step _
marks_are (Unit-F.Compare a c b) = fold-roll-Unit M M M unit_step conjunction_step predicate_step _
marks_are (Unit-F.IsNull a negated) = fold-roll-Unit M M M unit_step conjunction_step predicate_step _
marks_are (Unit-F.In a negated literals) = fold-roll-Unit M M M unit_step conjunction_step predicate_step _
marks_are (Unit-F.Between a negated least greatest) = fold-roll-Unit M M M unit_step conjunction_step predicate_step _
marks_are (Unit-F.StartsWith c front) = fold-roll-Unit M M M unit_step conjunction_step predicate_step _

innermost : (y : Unit-F Test Conjunction Predicate) → UnitHas (λ v. ⊥) y → IsReadAs (unit zero) (words_of y) (marks_of y)
unfolding unit
innermost (Unit-F.Not u) has = absurd has
innermost (Unit-F.Bracket p) has = absurd has.0.0
innermost (Unit-F.Compare a c b) has = compare_read a c b has.0 has.1
innermost (Unit-F.IsNull a negated) has = null_read a negated has
innermost (Unit-F.In a negated literals) has = in_read a negated literals has.0 has.1
innermost (Unit-F.Between a negated least greatest) has = between_read a negated least greatest has.0 has.1 has.2
innermost (Unit-F.StartsWith c front) has = starts_read c front has.0 has.1

one_level : (P : Test → Type 0) (levels : ℕ) → ((u : Test) → P u → IsUnitRead levels u) → (y : Unit-F Test Conjunction Predicate) → UnitHas P y → IsReadAs (unit (suc levels)) (words_of y) (marks_of y)
unfolding unit word_kind sign_kind
one_level P levels good (Unit-F.Not u) has = as_first (word_first (codes "NOT") (λ at. refl) (in_order (a_way 7) (in_production (good u has))))
one_level P levels good (Unit-F.Bracket p) has = as_second (as_first (word_first (codes "(") (λ at. refl) (in_order (a_way 8) (word_last (codes ")") (λ at. refl) (in_production (predicate_by_read P levels good p has))))))
one_level P levels good (Unit-F.Compare a c b) has = as_second (as_second (compare_read a c b has.0 has.1))
one_level P levels good (Unit-F.IsNull a negated) has = as_second (as_second (null_read a negated has))
one_level P levels good (Unit-F.In a negated literals) has = as_second (as_second (in_read a negated literals has.0 has.1))
one_level P levels good (Unit-F.Between a negated least greatest) has = as_second (as_second (between_read a negated least greatest has.0 has.1 has.2))
one_level P levels good (Unit-F.StartsWith c front) has = as_second (as_second (starts_read c front has.0 has.1))

by_layer : (levels : ℕ) (u : Test) → IsReadAs (unit levels) (words_of (out-Unit u)) (marks_of (out-Unit u)) → IsUnitRead levels u
by_layer levels u is = subst (IsUnitRead levels) (roll-out-Unit u) (as_told (words_are (out-Unit u)) (marks_are (out-Unit u)) is)

pub unit_read : (levels : ℕ) (u : Test) → IsWrittenUnit levels u → IsUnitRead levels u
unfolding IsWrittenUnit
unit_read zero u has = by_layer zero u (innermost (out-Unit u) has)
unit_read (suc levels) u has = by_layer (suc levels) u (one_level (IsWrittenUnit levels) levels (unit_read levels) (out-Unit u) has)

pub predicate_read : (levels : ℕ) (p : Predicate) → IsWrittenPredicate levels p → IsReadAs (pred levels) (predicate_words p) (predicate_marks p)
predicate_read levels = predicate_by_read (IsWrittenUnit levels) levels (unit_read levels)

pub filter_read : (levels : ℕ) (p : Predicate) → IsWrittenPredicate levels p → IsReadAs (one WHERE ▸ pred levels) (filter_words p) (predicate_marks p)
unfolding word_kind
filter_read levels p is = word_first (codes "WHERE") (λ at. refl) (predicate_read levels p is)
