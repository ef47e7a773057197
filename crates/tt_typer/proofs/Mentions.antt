-- The names of a list that stand again.
use Rattle.std.proofs.Common.{◌≡◌, ℕ, ◌+◌, ◌<◌, ◌≤◌, Bool, true, false, ◌||◌, is_some, if◌then◌else◌, List, [], ◌∷◌, ◌++◌, length, take, drop, map, get_or, Option, None, refl, ap, sym, ◌∙◌, arith, append-nil}
use Rattle.tt_value.specs.declared.name.Name.{Name}
use Rattle.tt_plain.specs.Places.{earlier, leftmost}
use Rattle.tt_plain.specs.WrongCounts.{is_name, mention, mentions, later_ones, defined_again, defined_names, miscounted_columns, places_of}
use Rattle.tt_sql.specs.declared.table.ColumnDefinition.{ColumnDefinition}
use Rattle.std.proofs.lemmas.List.{take_all, drop_all, take-map, drop-map, length-map}
use Rattle.tt_typer.proofs.Leftmost.{earlier_assoc, leftmost_append, from_item}

-- what is left of the places of a text, once its first place was seen
abbrev pub left_after : Bool → List ℕ → List ℕ
left_after true places = places
left_after false places = later_ones places

after_mention : (seen b : Bool) (place : ℕ) (later : List ℕ) → leftmost (left_after seen ((if b then place ∷ [] else []) ++ later)) ≡ earlier (if seen then leftmost (if b then place ∷ [] else []) else None) (leftmost (left_after (seen || is_some (leftmost (if b then place ∷ [] else []))) later))
after_mention true true place later = refl
after_mention true false place later = refl
after_mention false true place later = refl
after_mention false false place later = refl

pub again_more : {N : Type 0} (name_of : N → Name) (text : List ℕ) (seen : Bool) (found : Option ℕ) (xs : List N) (i : ℕ) (x : N) (all : Option ℕ) → i < length xs → x ≡ get_or xs i x → earlier found (leftmost (left_after seen (mentions text (map name_of (drop i xs))))) ≡ all → earlier (earlier found (if seen then leftmost (mention text (name_of x)) else None)) (leftmost (left_after (seen || is_some (leftmost (mention text (name_of x)))) (mentions text (map name_of (drop (i + 1) xs))))) ≡ all
again_more name_of text seen found xs i x all below is so_far =
    earlier_assoc found (if seen then leftmost (mention text (name_of x)) else None) (leftmost (left_after (seen || is_some (leftmost (mention text (name_of x)))) (mentions text (map name_of (drop (i + 1) xs)))))
    ∙ ap (earlier found) (sym (ap (λ ys. leftmost (left_after seen (mentions text (map name_of ys)))) (from_item xs i x below is) ∙ after_mention seen (is_name text (name_of x)) (name_of x).place (mentions text (map name_of (drop (i + 1) xs)))))
    ∙ so_far

-- one more definition
pub defined_more : (found : Option ℕ) (columns : List ColumnDefinition) (column : ColumnDefinition) (later : List ColumnDefinition) (all : Option ℕ) → columns ≡ column ∷ later → earlier found (leftmost (defined_again (defined_names columns))) ≡ all → earlier (earlier found (leftmost (mentions column.name.text (defined_names later)))) (leftmost (defined_again (defined_names later))) ≡ all
defined_more found columns column later all is so_far =
    earlier_assoc found (leftmost (mentions column.name.text (defined_names later))) (leftmost (defined_again (defined_names later)))
    ∙ ap (earlier found) (sym (ap (λ (cs : List ColumnDefinition). leftmost (defined_again (defined_names cs))) is ∙ leftmost_append (mentions column.name.text (defined_names later)) (defined_again (defined_names later))))
    ∙ so_far

pub few_columns : (columns : List ColumnDefinition) → length columns ≤ 32 → miscounted_columns (defined_names columns) ≡ defined_again (defined_names columns)
few_columns columns few =
    let short : length (defined_names columns) ≤ 32 = omega (arith, length-map columns (λ (column : ColumnDefinition). column.name), few) in
    ap (λ names. defined_again names ++ places_of (drop 32 (defined_names columns))) (take_all 32 (defined_names columns) short)
    ∙ ap (λ names. defined_again (defined_names columns) ++ places_of names) (drop_all 32 (defined_names columns) short)
    ∙ append-nil (defined_again (defined_names columns))

pub many_columns : (columns : List ColumnDefinition) → leftmost (miscounted_columns (defined_names columns)) ≡ earlier (leftmost (defined_again (defined_names (take 32 columns)))) (leftmost (places_of (defined_names (drop 32 columns))))
many_columns columns =
    ap (λ names. leftmost (defined_again names ++ places_of (drop 32 (defined_names columns)))) (take-map (λ (column : ColumnDefinition). column.name) 32 columns)
    ∙ ap (λ names. leftmost (defined_again (defined_names (take 32 columns)) ++ places_of names)) (drop-map (λ (column : ColumnDefinition). column.name) 32 columns)
    ∙ leftmost_append (defined_again (defined_names (take 32 columns))) (places_of (defined_names (drop 32 columns)))
