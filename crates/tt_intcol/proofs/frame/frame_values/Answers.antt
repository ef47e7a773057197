use Rattle.std.proofs.Common.{◌≡◌, ◌∙◌, Bool, true, false, ◌&&◌, ap, sym, refl, eq-eqb}
use Rattle.std.specs.Prelude.{◌==◌}
use Rattle.std.specs.List.{list_any, list_all}
use Rattle.std.specs.Int.{w64}
use Rattle.std.proofs.lemmas.Int.{to_z-of_z}
use Rattle.tt_value.specs.columns.Packing.{width_of}
use Rattle.tt_intcol.specs.IntBody.{greatest_of}
use Rattle.tt_intcol.specs.IntReading.{is_frame, is_within}
use Rattle.tt_intcol.proofs.frame.frame_values.Goals as goal

all_three : (a b c : Bool) → a ≡ true → b ≡ true → ((a && b) && c) ≡ c
all_three true true c e f = refl
all_three false b c e f = absurd cc
all_three true false c e f = absurd cc

pub returns : goal.returns
returns c =
    let low = to_z-of_z w64 c.args.low c.ranges.low in
    let zero : list_any (λ n. n == 0) c.args.numbers.now ≡ true = sym c.has_zero.ensures ∙ c.if-not-has_zero.false in
    let width : (width_of (greatest_of c.args.numbers.now) == c.args.width) ≡ true = eq-eqb _ _ (ap width_of (sym c.greatest.ensures) ∙ sym c.width_of.ensures.value ∙ c.if-width_of-from.false ∙ c.from.ensures) in
    let e : is_frame c.args.kind c.args.low c.args.width c.args.numbers.now ≡ list_all (is_within c.args.kind c.args.low) c.args.numbers.now = all_three _ _ _ zero width in
    rw e (simp low at c.raised.ensures)
