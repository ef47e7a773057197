use Rattle.std.proofs.Common.{◌≡◌, ◌∙◌, ℕ, List, Err, take, drop, ap, sym, arith}
use Rattle.tt_partition.specs.ImageReading.{bitmap_size, values_in}
use Rattle.tt_partition.proofs.Places.{fault_below}
use Rattle.tt_partition.proofs.reading.read_column_values.Goals as goal

pub fault_place-requires : goal.fault_place-requires
fault_place-requires c =
    let n : ℕ = bitmap_size c.args.rows c.args.head.nulls in
    let m : ℕ = c.args.head.size in
    let bs : List ℕ = c.args.bytes.now in
    let told = rw c.in-Err-BadColumn.field-0-is at c.in-Err-BadColumn.ensures.values in
    let front : c.split.result.0.now ≡ take n bs = c.split.ensures.front ∙ ap (λ k. take k bs) c.bitmap_size.ensures in
    let body : c.split-2.result.0.now ≡ take m (drop n bs) = c.split-2.ensures.front ∙ ap (take m) (c.split.ensures.rest ∙ ap (λ k. drop k bs) c.bitmap_size.ensures) in
    let read : values_in c.args.head.kind c.args.rows c.args.head.encoding c.args.head.nulls (take n bs) (take m (drop n bs)) ≡ Err c.in-Err-BadColumn.fault
    = ap (λ (t : List ℕ). values_in c.args.head.kind c.args.rows c.args.head.encoding c.args.head.nulls t (take m (drop n bs))) (sym front)
    ∙ ap (λ (t : List ℕ). values_in c.args.head.kind c.args.rows c.args.head.encoding c.args.head.nulls c.split.result.0.now t) (sym body) ∙ told in
    let le = fault_below c.args.head.kind c.args.rows c.args.head.encoding c.args.head.nulls n m bs c.in-Err-BadColumn.fault read in
    let few = c.place-begin.ensures.few in
    let is = c.place-begin.ensures.place in
    omega (arith, le, few, is)
