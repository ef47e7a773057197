use Rattle.std.proofs.Common.{rules, ◌≡◌, ◌+◌, ◌<◌, map, length, vec_len, arith, ◌∙◌}
use Rattle.tt_seatlock.specs.Passes.{known}
use Rattle.tt_seatlock.proofs.Keeping.{keeps_map, keeps_all}
use Rattle.tt_seatlock.proofs.tests.crowd.Goals as goal

pub close-requires-clause-all : goal.close-requires-clause-all
close-requires-clause-all g c =
    let m = known c.gather.new.into in
    let made = c.in_ok-made.made in
    let ended = c.in_ok-ended.ended in
    let kept : m.kept ≡ map (λ p. ((known p).number, (known p).own)) ended.items = search rules in
    let made_len : length made.items ≡ vec_len made = search rules in
    let ended_len : length ended.items ≡ vec_len ended = search rules in
    let count : m.made ≡ length ended.items + 1 = search rules in
    keeps_all m (length ended.items + 1) count (keeps_map known ended.items m kept
    (λ i d h. let here : i < vec_len ended = omega arith in let there : i < vec_len made = omega (arith, c.in_ok-ended.ensures.len) in c.in_ok-ended.ensures.numbers i d here ∙ c.in_ok-made.ensures.numbers i d there))
