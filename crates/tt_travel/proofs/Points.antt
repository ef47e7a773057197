-- What clauses mean, as the points of statements and the program are given.
use Rattle.std.proofs.Common.{◌≡◌, ℕ, ◌+◌, ◌-◌, ◌<◌, ◌≤◌, ◌^◌, Bool, true, false, List, Option, Some, None, Result, Ok, Err, min, ℤ, pos, neg_ℤ, ◌+ℤ◌, ◌-ℤ◌, ◌*ℤ◌, ◌<ℤ◌, refl, ap, sym, ◌∙◌, arith}
use Rattle.std.specs.Prelude.{int_lt, nat_eq}
use Rattle.std.specs.Int.{int_max}
use Rattle.std.proofs.lemmas.Int.{ints, clamps, by_lt_z}
use Rattle.tt_value.specs.declared.name.Quoted.{Quoted}
use Rattle.tt_script.specs.declared.script.Script.{Script}
use Rattle.tt_sql.specs.declared.query.Clause.{Clause}
use Rattle.tt_sql.specs.declared.query.Offset.{Offset}
use Rattle.tt_sql.specs.declared.query.Side.{Side}
use Rattle.tt_plain.specs.asked.Asked.{Asked}
use Rattle.tt_plain.specs.opening.Point.{offset_of, on_side, point_at, point_of, signed}
use Rattle.tt_plain.specs.stored.Points.{no_point_yet}
use Rattle.tt_travel.specs.Travel.{IsAskedAt, end_of, judged, most_seconds, point_named, product_of}
use Rattle.tt_history.specs.declared.reply.Refusal.{Refusal}
use Rattle.tt_history.specs.declared.reply.Refusal.TheVariants as refusal
use Rattle.tt_sql.specs.declared.query.Moment.TheVariants as moments
use Rattle.tt_sql.specs.declared.query.Side.TheVariants as sides

-- ---- the three kinds of moments

pub at_timestamp : (asked : Asked) (clause : Clause) (x : ℤ) → clause.moment ≡ moments.Timestamp x → point_of asked clause ≡ on_side clause.side x
unfolding point_of
at_timestamp asked clause x e = rw e refl

pub at_offset : (asked : Asked) (clause : Clause) (offset : Offset) (now : ℕ) → asked.moment ≡ now → clause.moment ≡ moments.Offset offset
    → point_of asked clause ≡ on_side clause.side (pos now +ℤ pos 1000 *ℤ offset_of offset)
unfolding point_of
at_offset asked clause offset now here e = rw (e, here) refl

pub at_statement : (now : ℕ) (points : List (Option ℕ)) (program : Script) (asked : Asked) (clause : Clause) (id : Quoted) → IsAskedAt now points program asked → clause.moment ≡ moments.Statement id
    → point_of asked clause ≡ point_at clause.side (point_named program points id.text)
unfolding point_of
at_statement now points program asked clause id h e = rw (e, h.points, h.program) refl

-- ---- statements

pub judged_end : (now : ℕ) (side : Side) (o : Option (Option ℕ)) (end : ℕ) → end_of o ≡ Ok end → judged now (point_at side o) ≡ judged now (on_side side (pos end))
judged_end now side None end e = absurd cc
judged_end now side (Some None) end e = absurd cc
judged_end now side (Some (Some point)) end e = by (nat_eq point no_point_yet) refl e
  where
    by : (t : Bool) → nat_eq point no_point_yet ≡ t → end_of (Some (Some point)) ≡ Ok end → judged now (point_at side (Some (Some point))) ≡ judged now (on_side side (pos end))
    by true h e = let refused : Result ℕ Refusal = Err refusal.StatementOpen in let f : refused ≡ Ok end = rw h at e in absurd cc
    by false h e = let same : point ≡ end = (let found : Result ℕ Refusal = Ok point in let f : found ≡ Ok end = rw h at e in cc) in rw h (ap (λ n. judged now (on_side side (pos n))) same)

pub judged_missing : (now : ℕ) (side : Side) (o : Option (Option ℕ)) (why : Refusal) → end_of o ≡ Err why → judged now (point_at side o) ≡ Err why
judged_missing now side None why e = let refused : Result ℕ Refusal = Err refusal.UnknownStatement in let f : refused ≡ Err why = e in let same : refusal.UnknownStatement ≡ why = cc in ap Err same
judged_missing now side (Some None) why e = let refused : Result ℕ Refusal = Err refusal.UnknownStatement in let f : refused ≡ Err why = e in let same : refusal.UnknownStatement ≡ why = cc in ap Err same
judged_missing now side (Some (Some point)) why e = by (nat_eq point no_point_yet) refl e
  where
    by : (t : Bool) → nat_eq point no_point_yet ≡ t → end_of (Some (Some point)) ≡ Err why → judged now (point_at side (Some (Some point))) ≡ Err why
    by true h e = let refused : Result ℕ Refusal = Err refusal.StatementOpen in let f : refused ≡ Err why = rw h at e in let same : refusal.StatementOpen ≡ why = cc in rw h (ap Err same)
    by false h e = let found : Result ℕ Refusal = Ok point in let f : found ≡ Err why = rw h at e in absurd cc

-- ---- offsets

above : (now : ℕ) (x : ℤ) → pos now <ℤ x → judged now (on_side sides.At x) ≡ Err refusal.InFuture
above now x h = let test : int_lt (pos now) (int_max (neg_ℤ (pos 1)) x) ≡ true = grind (arith, ints, clamps) in rw test refl

future : (now : ℕ) (side : Side) (x : ℤ) → pos (now + 1) <ℤ x → judged now (on_side side x) ≡ Err refusal.InFuture
future now sides.At x h = above now x (omega (arith, ints))
future now sides.Before x h = above now (x -ℤ pos 1) (omega (arith, ints))

below : (now : ℕ) (x : ℤ) → x <ℤ pos 0 → judged now (on_side sides.At x) ≡ Ok (neg_ℤ (pos 1))
below now x h =
    let least : int_max (neg_ℤ (pos 1)) x ≡ neg_ℤ (pos 1) = omega (arith, ints, clamps) in
    rw least refl

past : (now : ℕ) (side : Side) (x : ℤ) → x <ℤ pos 0 → judged now (on_side side x) ≡ Ok (neg_ℤ (pos 1))
past now sides.At x h = below now x h
past now sides.Before x h = below now (x -ℤ pos 1) (omega (arith, ints))

-- an offset of more than 2 ^ 64 seconds lies as far in the future or the past as one of so many
pub judged_offset : (now : ℕ) (side : Side) (offset : Offset) → now < 2 ^ 62
    → judged now (on_side side (pos now +ℤ pos 1000 *ℤ signed offset.negative (most_seconds offset))) ≡ judged now (on_side side (pos now +ℤ pos 1000 *ℤ offset_of offset))
judged_offset now side offset early = by_lt_z (pos (product_of offset.factors)) (pos (2 ^ 64)) (λ less. near (omega (arith, ints))) (λ more. far (omega (arith, ints)))
  where
    near : product_of offset.factors < 2 ^ 64 → judged now (on_side side (pos now +ℤ pos 1000 *ℤ signed offset.negative (most_seconds offset))) ≡ judged now (on_side side (pos now +ℤ pos 1000 *ℤ offset_of offset))
    near less = ap (λ n. judged now (on_side side (pos now +ℤ pos 1000 *ℤ signed offset.negative n))) (omega arith)

    far : 2 ^ 64 ≤ product_of offset.factors → judged now (on_side side (pos now +ℤ pos 1000 *ℤ signed offset.negative (most_seconds offset))) ≡ judged now (on_side side (pos now +ℤ pos 1000 *ℤ offset_of offset))
    far more = by offset.negative (product_of offset.factors) more
      where
        by : (negative : Bool) (n : ℕ) → 2 ^ 64 ≤ n → judged now (on_side side (pos now +ℤ pos 1000 *ℤ signed negative (min n (2 ^ 64 - 1)))) ≡ judged now (on_side side (pos now +ℤ pos 1000 *ℤ signed negative n))
        by true n more = past now side _ (omega (arith, ints)) ∙ sym (past now side _ (omega (arith, ints)))
        by false n more = future now side _ (omega (arith, ints)) ∙ sym (future now side _ (omega (arith, ints)))
