-- Where a mark stands among marks in order, or where it would.
use Rattle.std.specs.Prelude.{◌≡◌, ℕ, ◌<◌, ◌≤◌, List, length, slice_index_or}
use Rattle.std.specs.declared.cmp.Ordering.TheVariants.{Less, Equal, Greater}
use Rattle.tt_marks.specs.declared.mark.Mark.{Mark}
use Rattle.tt_marks.specs.Marks.{mark_cmp}

-- the mark at the place is of the wanted session and table
pub record IsPlaceOf (wanted : Mark) (marks : List Mark) (place : ℕ) : Type 0 where
  pub within : place < length marks
  pub ties : (d : Mark) → mark_cmp (slice_index_or marks place d) wanted ≡ Equal

-- there is none, and the marks in front of the place stand before it and the others behind
pub record IsGapFor (wanted : Mark) (marks : List Mark) (place : ℕ) : Type 0 where
  pub within : place ≤ length marks
  pub front : (k : ℕ) (d : Mark) → k < place → mark_cmp (slice_index_or marks k d) wanted ≡ Less
  pub back : (k : ℕ) (d : Mark) → place ≤ k → k < length marks
      → mark_cmp (slice_index_or marks k d) wanted ≡ Greater
