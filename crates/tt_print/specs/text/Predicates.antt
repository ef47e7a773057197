-- The words of predicates.
use Rattle.std.specs.Prelude.{ℕ, Bool, List, [], ◌∷◌, ◌++◌, map, codes}
use Rattle.std.specs.List.{flat_map}
use Rattle.tt_value.specs.declared.predicate.Comparison.{Comparison}
use Rattle.tt_value.specs.declared.predicate.Comparison.TheVariants.{Equal, NotEqual, Less, LessOrEqual, Greater, GreaterOrEqual}
use Rattle.tt_value.specs.declared.predicate.Operand.{Operand}
use Rattle.tt_value.specs.declared.predicate.Operand.TheVariants.{Column as OfColumn, Literal as OfLiteral}
use Rattle.tt_value.specs.declared.name.Literal.{Literal}
use Rattle.tt_value.specs.declared.name.ColumnName.{ColumnName}
use Rattle.tt_value.specs.declared.name.Quoted.{Quoted}
use Rattle.tt_value.specs.declared.predicate.Predicate.{Predicate}
use Rattle.tt_value.specs.declared.predicate.Conjunction.{Conjunction}
use Rattle.tt_value.specs.declared.predicate.Unit.{Unit}
use Rattle.tt_value.specs.declared.predicate.Unit.TheOpen.{Predicate-F, Conjunction-F, Unit-F}
use Rattle.tt_value.specs.declared.predicate.Unit.TheFolds.{fold-Predicate, fold-Conjunction, fold-Unit}
use Rattle.tt_print.specs.text.Words.{Words, listed, word_if, literal_words, column_name_words, quoted_words}

abbrev pub comparison_word : Comparison → List ℕ
comparison_word Equal = codes "="
comparison_word NotEqual = codes "<>"
comparison_word Less = codes "<"
comparison_word LessOrEqual = codes "<="
comparison_word Greater = codes ">"
comparison_word GreaterOrEqual = codes ">="

abbrev pub operand_words : Operand → Words
operand_words (OfColumn column) = column_name_words column
operand_words (OfLiteral literal) = literal_words literal

-- ---- what is told of operands

abbrev pub compare_words : Operand → Comparison → Operand → Words
compare_words left comparison right = operand_words left ++ (comparison_word comparison ∷ operand_words right)

abbrev pub is_null_words : Operand → Bool → Words
is_null_words operand negated = operand_words operand ++ (codes "IS" ∷ (word_if negated (codes "NOT") ++ (codes "NULL" ∷ [])))

abbrev pub in_words : Operand → Bool → List Literal → Words
in_words operand negated literals =
    operand_words operand ++ (word_if negated (codes "NOT")
    ++ (codes "IN" ∷ (codes "(" ∷ (listed (map literal_words literals) ++ (codes ")" ∷ [])))))

abbrev pub between_words : Operand → Bool → Literal → Literal → Words
between_words operand negated least greatest =
    operand_words operand ++ (word_if negated (codes "NOT") ++ (codes "BETWEEN" ∷ (literal_words least
    ++ (codes "AND" ∷ literal_words greatest))))

abbrev pub starts_with_words : ColumnName → Quoted → Words
starts_with_words column front =
    codes "STARTSWITH" ∷ (codes "(" ∷ (column_name_words column ++ (codes "," ∷ (quoted_words front
    ++ (codes ")" ∷ [])))))

-- ---- predicates

-- One level of a tree, with the words of each part in its place.
abbrev pub predicate_level : Predicate-F Words Words Words → Words
predicate_level predicate = predicate.first ++ flat_map (λ conjunction. codes "OR" ∷ conjunction) predicate.others

abbrev pub conjunction_level : Conjunction-F Words Words Words → Words
conjunction_level conjunction = conjunction.first ++ flat_map (λ part. codes "AND" ∷ part) conjunction.others

abbrev pub unit_level : Unit-F Words Words Words → Words
unit_level (Unit-F.Not part) = codes "NOT" ∷ part
unit_level (Unit-F.Bracket predicate) = codes "(" ∷ (predicate ++ (codes ")" ∷ []))
unit_level (Unit-F.Compare left comparison right) = compare_words left comparison right
unit_level (Unit-F.IsNull operand negated) = is_null_words operand negated
unit_level (Unit-F.In operand negated literals) = in_words operand negated literals
unit_level (Unit-F.Between operand negated least greatest) = between_words operand negated least greatest
unit_level (Unit-F.StartsWith column front) = starts_with_words column front

abbrev pub predicate_words : Predicate → Words
predicate_words predicate = fold-Predicate Words Words Words unit_level conjunction_level predicate_level predicate

abbrev pub conjunction_words : Conjunction → Words
conjunction_words conjunction = fold-Conjunction Words Words Words unit_level conjunction_level predicate_level conjunction

abbrev pub unit_words : Unit → Words
unit_words part = fold-Unit Words Words Words unit_level conjunction_level predicate_level part

-- WHERE and a predicate, if there is one
abbrev pub filter_words : Predicate → Words
filter_words predicate = codes "WHERE" ∷ predicate_words predicate
