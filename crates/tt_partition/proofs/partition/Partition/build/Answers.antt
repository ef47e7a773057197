use Rattle.std.proofs.Common.{◌≡◌, ◌∙◌, ℕ, ◌+◌, ◌-◌, ◌/◌, List, [], ◌∷◌, ◌++◌, length, map, take, ap, sym, arith}
use Rattle.std.specs.List.{range_with_len}
use Rattle.tt_value.specs.declared.value.Row.{Row}
use Rattle.tt_partition.specs.Table.{Table}
use Rattle.tt_partition.specs.Cuts.{kinds_of, cut_at}
use Rattle.tt_partition.proofs.Picks.{tabulated_more}
use Rattle.tt_partition.proofs.Cutting.{back_is, cut_is_part}
use Rattle.tt_partition.proofs.partition.Partition.build.Goals as goal

pub build_one-requires : goal.build_one-requires
build_one-requires c =
    cut_is_part c.args.schema.now c.args.rows.now c.next_rows.result.0.now c.loop-turn._turn c.args.cap c.requires.some_columns c.requires.few_columns c.requires.cap.0 c.requires.cap.1 c.requires.rows c.rows_are_valid.ensures c.loop-turn-test.true
    (c.next_rows.ensures.front ∙ ap (take c.args.cap) c.loop-turn.invariant.1)

pub loop-turn-preserved : goal.loop-turn-preserved
loop-turn-preserved c =
    let kinds = kinds_of c.args.schema.now in
    let t : ℕ = c.loop-turn._turn in
    let front = c.next_rows.ensures.front ∙ ap (take c.args.cap) c.loop-turn.invariant.1 in
    let back = back_is c.args.rows.now c.loop-turn.rest.now c.next_rows.result.1.now t c.args.cap c.loop-turn.invariant.1 c.next_rows.ensures.rest in
    let part : c.in_ok-build_one.field-0 ≡ cut_at kinds c.args.cap c.args.rows.now t = c.in_ok-build_one.ensures ∙ ap (λ (r : List Row). record { kinds = kinds; rows = r }) front in (
      c.in_ok-push.ensures.items ∙ ap (λ (ps : List Table). ps ++ c.in_ok-build_one.field-0 ∷ []) c.loop-turn.invariant.0
          ∙ ap (λ (p : Table). map (cut_at kinds c.args.cap c.args.rows.now) (range_with_len 0 t) ++ p ∷ []) part ∙ sym (tabulated_more (cut_at kinds c.args.cap c.args.rows.now) t),
      back,
    )

pub returns : goal.returns
returns c =
    let past = c.loop-turn-test.false in
    let end = c.loop-turn.auto._turn-end in
    let all : c.loop-turn._turn ≡ (length c.args.rows.now + (c.args.cap - 1)) / c.args.cap = omega (arith, past, end) in
    c.loop-turn.invariant.0 ∙ ap (λ m. map (cut_at (kinds_of c.args.schema.now) c.args.cap c.args.rows.now) (range_with_len 0 m)) all
