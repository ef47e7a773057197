-- Bits of truth values, row by row through AND, OR and NOT.
use Rattle.std.proofs.Common.{◌≡◌, ℕ, ◌+◌, Bool, true, false, ◌&&◌, ◌||◌, List, [], ◌∷◌, ◌++◌, length, map, refl, ap, sym, subst, ◌∙◌, arith}
use Rattle.std.specs.Prelude.{replicate}
use Rattle.std.specs.List.{zip, range_with_len}
use Rattle.std.proofs.lemmas.List.{length-map, map-append}
use Rattle.std.proofs.lemmas.List.FromFn.{map-range_with_len_more}
use Rattle.tt_value.specs.declared.value.Row.{Row}
use Rattle.tt_value.specs.declared.predicate.Truth.{Truth}
use Rattle.tt_value.specs.declared.predicate.Truth.TheVariants.{True, False, Unknown}
use Rattle.tt_value.specs.trees.Truths.{and_truth, or_truth, not_truth, not_if, is_true}
use Rattle.tt_zone.specs.TruthSets.{is_false}
use Rattle.tt_bits.specs.Bits.{both, either}
use Rattle.tt_filter.specs.declared.truths.Truths.{Truths}
use Rattle.tt_filter.specs.RowTruths.{HasTruths, AreAlike}

-- ---- one row

and_trues : (a b : Truth) → (is_true a && is_true b) ≡ is_true (and_truth a b)
and_trues True True = refl
and_trues True False = refl
and_trues True Unknown = refl
and_trues False True = refl
and_trues False False = refl
and_trues False Unknown = refl
and_trues Unknown True = refl
and_trues Unknown False = refl
and_trues Unknown Unknown = refl

and_falses : (a b : Truth) → (is_false a || is_false b) ≡ is_false (and_truth a b)
and_falses True True = refl
and_falses True False = refl
and_falses True Unknown = refl
and_falses False True = refl
and_falses False False = refl
and_falses False Unknown = refl
and_falses Unknown True = refl
and_falses Unknown False = refl
and_falses Unknown Unknown = refl

or_trues : (a b : Truth) → (is_true a || is_true b) ≡ is_true (or_truth a b)
or_trues True True = refl
or_trues True False = refl
or_trues True Unknown = refl
or_trues False True = refl
or_trues False False = refl
or_trues False Unknown = refl
or_trues Unknown True = refl
or_trues Unknown False = refl
or_trues Unknown Unknown = refl

or_falses : (a b : Truth) → (is_false a && is_false b) ≡ is_false (or_truth a b)
or_falses True True = refl
or_falses True False = refl
or_falses True Unknown = refl
or_falses False True = refl
or_falses False False = refl
or_falses False Unknown = refl
or_falses Unknown True = refl
or_falses Unknown False = refl
or_falses Unknown Unknown = refl

not_trues : (a : Truth) → is_false a ≡ is_true (not_truth a)
not_trues True = refl
not_trues False = refl
not_trues Unknown = refl

not_falses : (a : Truth) → is_true a ≡ is_false (not_truth a)
not_falses True = refl
not_falses False = refl
not_falses Unknown = refl

-- ---- all rows

by_row : (op : Bool → Bool → Bool) (test : Truth → Bool) (table : Truth → Truth → Truth) → ((a b : Truth) → op (test a) (test b) ≡ test (table a b)) → (f g : Row → Truth) (rows : List Row) → map (λ (q : Bool × Bool). op q.0 q.1) (zip (map test (map f rows)) (map test (map g rows))) ≡ map test (map (λ row. table (f row) (g row)) rows)
by_row op test table each f g [] = refl
by_row op test table each f g (row ∷ rows) = rw (each (f row) (g row), by_row op test table each f g rows) refl

turned : (test other : Truth → Bool) (table : Truth → Truth) → ((a : Truth) → test a ≡ other (table a)) → (f : Row → Truth) (rows : List Row) → map test (map f rows) ≡ map other (map (λ row. table (f row)) rows)
turned test other table each f [] = refl
turned test other table each f (row ∷ rows) = rw (each (f row), turned test other table each f rows) refl

pub merged : (op other : List Bool → List Bool → List Bool) (table : Truth → Truth → Truth) (f g : Row → Truth) (rows : List Row) (a b new : Truths)
    → op (map is_true (map f rows)) (map is_true (map g rows)) ≡ map is_true (map (λ row. table (f row) (g row)) rows)
    → other (map is_false (map f rows)) (map is_false (map g rows)) ≡ map is_false (map (λ row. table (f row) (g row)) rows)
    → new.trues ≡ op a.trues b.trues → new.falses ≡ other a.falses b.falses
    → HasTruths (map f rows) a → HasTruths (map g rows) b → HasTruths (map (λ row. table (f row) (g row)) rows) new
merged op other table f g rows a b new trues falses new_trues new_falses has more = record {
  trues = new_trues ∙ ap (λ xs. op xs b.trues) has.trues ∙ ap (op (map is_true (map f rows))) more.trues ∙ trues;
  falses = new_falses ∙ ap (λ xs. other xs b.falses) has.falses ∙ ap (other (map is_false (map f rows))) more.falses ∙ falses;
}

pub and_merged : (f g : Row → Truth) (rows : List Row) (a b new : Truths) → new.trues ≡ both a.trues b.trues → new.falses ≡ either a.falses b.falses
    → HasTruths (map f rows) a → HasTruths (map g rows) b → HasTruths (map (λ row. and_truth (f row) (g row)) rows) new
and_merged f g rows a b new trues falses = merged both either and_truth f g rows a b new (by_row (λ x y. x && y) is_true and_truth and_trues f g rows) (by_row (λ x y. x || y) is_false and_truth and_falses f g rows) trues falses

pub or_merged : (f g : Row → Truth) (rows : List Row) (a b new : Truths) → new.trues ≡ either a.trues b.trues → new.falses ≡ both a.falses b.falses
    → HasTruths (map f rows) a → HasTruths (map g rows) b → HasTruths (map (λ row. or_truth (f row) (g row)) rows) new
or_merged f g rows a b new trues falses = merged either both or_truth f g rows a b new (by_row (λ x y. x || y) is_true or_truth or_trues f g rows) (by_row (λ x y. x && y) is_false or_truth or_falses f g rows) trues falses

pub not_merged : (f : Row → Truth) (rows : List Row) (a new : Truths) → new.trues ≡ a.falses → new.falses ≡ a.trues → HasTruths (map f rows) a → HasTruths (map (λ row. not_truth (f row)) rows) new
not_merged f rows a new trues falses has = record {
  trues = trues ∙ has.falses ∙ turned is_false is_true not_truth not_trues f rows;
  falses = falses ∙ has.trues ∙ turned is_true is_false not_truth not_falses f rows;
}

pub not_if_merged : (negated : Bool) (f : Row → Truth) (rows : List Row) (a new : Truths) → (negated ≡ true → HasTruths (map (λ row. not_truth (f row)) rows) new) → (negated ≡ false → new ≡ a) → HasTruths (map f rows) a → HasTruths (map (λ row. not_if negated (f row)) rows) new
not_if_merged true f rows a new turned same has = turned refl
not_if_merged false f rows a new turned same has = subst (HasTruths (map f rows)) (sym (same refl)) has

-- ---- more rows

pub pushed : (before : List Truth) (truth : Truth) (a new : Truths) → new.trues ≡ a.trues ++ is_true truth ∷ [] → new.falses ≡ a.falses ++ is_false truth ∷ [] → HasTruths before a → HasTruths (before ++ truth ∷ []) new
pushed before truth a new trues falses has = record {
  trues = trues ∙ ap (λ xs. xs ++ is_true truth ∷ []) has.trues ∙ sym (map-append is_true before (truth ∷ []));
  falses = falses ∙ ap (λ xs. xs ++ is_false truth ∷ []) has.falses ∙ sym (map-append is_false before (truth ∷ []));
}

pub one_more : (f : ℕ → Truth) (at : ℕ) (truth : Truth) (a new : Truths) → truth ≡ f at → ((before : List Truth) → HasTruths before a → HasTruths (before ++ truth ∷ []) new) → HasTruths (map f (range_with_len 0 at)) a → HasTruths (map f (range_with_len 0 (at + 1))) new
one_more f at truth a new is more has =
    subst (λ ts. HasTruths ts new) (ap (λ t. map f (range_with_len 0 at) ++ t ∷ []) is ∙ sym (map-range_with_len_more f 0 at at (omega arith))) (more (map f (range_with_len 0 at)) has)

same_each : (test : Truth → Bool) (truth : Truth) (rows : List Row) → replicate (length rows) (test truth) ≡ map test (map (λ row. truth) rows)
same_each test truth [] = refl
same_each test truth (row ∷ rows) = ap (λ xs. test truth ∷ xs) (same_each test truth rows)

pub filled_each : (count : ℕ) (truth : Truth) (new : Truths) → new.trues ≡ replicate count (is_true truth) → new.falses ≡ replicate count (is_false truth) → (rows : List Row) → length rows ≡ count → HasTruths (map (λ row. truth) rows) new
filled_each count truth new trues falses rows long = record {
  trues = trues ∙ ap (λ n. replicate n (is_true truth)) (sym long) ∙ same_each is_true truth rows;
  falses = falses ∙ ap (λ n. replicate n (is_false truth)) (sym long) ∙ same_each is_false truth rows;
}

-- ---- as many rows

as_many : (test : Truth → Bool) (f : Row → Truth) (rows : List Row) (bits : List Bool) → bits ≡ map test (map f rows) → length bits ≡ length rows
as_many test f rows bits is = ap length is ∙ length-map (map f rows) test ∙ length-map rows f

pub alike : (f g : Row → Truth) (rows : List Row) (a b : Truths) → HasTruths (map f rows) a → HasTruths (map g rows) b → AreAlike a b
alike f g rows a b has more = record {
  trues = as_many is_true f rows a.trues has.trues ∙ sym (as_many is_true g rows b.trues more.trues);
  falses = as_many is_false f rows a.falses has.falses ∙ sym (as_many is_false g rows b.falses more.falses);
}
