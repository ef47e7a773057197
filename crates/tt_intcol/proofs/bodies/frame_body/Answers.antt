use Rattle.std.proofs.Common.{◌≡◌, ◌≤◌, ◌<◌, ◌^◌, ℕ, List, length, get_or, arith, ap, ◌∙◌}
use Rattle.tt_value.proofs.columns.Indexes.{at_most_greatest}
use Rattle.tt_intcol.specs.IntBody.{greatest_of}
use Rattle.tt_intcol.proofs.bodies.frame_body.Goals as goal

all_fit : (ns ms : List ℕ) (g w : ℕ) → ms ≡ ns → g ≡ greatest_of ns → g < 2 ^ w → (k d : ℕ) → k < length ms → get_or ms k d < 2 ^ w
all_fit ns ms g w same g_is lt k d in_range =
    let le : get_or ns k d ≤ greatest_of ns = at_most_greatest ns 0 k d (rw same at in_range) in
    rw same (omega arith)

pub pack-requires-clause-fit : goal.pack-requires-clause-fit
pack-requires-clause-fit c = all_fit c.in_ok-heights.heights.items c.deref-2.result.now c.greatest.result c.width_of-width.result c.deref-2.ensures.value (c.greatest.ensures ∙ ap greatest_of c.deref.ensures.value) c.width_of-width.ensures.enough
