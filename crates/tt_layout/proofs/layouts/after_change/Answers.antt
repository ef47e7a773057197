use Rattle.std.specs.Prelude.{IfOk, length, not, ℕ, ◌≡◌}
use Rattle.std.proofs.Common.{arith, subst}
use Rattle.std.proofs.lemmas.Bool.Decides.{nat_tests}
use Rattle.tt_layout.specs.Numbers.{has}
use Rattle.tt_layout.proofs.Ascending.{ascends-filter}
use Rattle.tt_layout.proofs.Passes.{nothing_gone}
use Rattle.tt_layout.proofs.layouts.after_change.Goals as goal

pub returns-then-is_empty : goal.returns-then-is_empty
returns-then-is_empty c =
    let none : length c.args.gone.now ≡ 0 = grind (arith, nat_tests) in
    subst (λ numbers. IfOk c.merged.result (λ changed_. changed_.items ≡ numbers)) (nothing_gone c.args.numbers.now c.args.gone.now c.args.added.now none) c.merged.ensures

pub put_behind-requires-clause-left : goal.put_behind-requires-clause-left
put_behind-requires-clause-left c =
    rw c.in_ok-kept.ensures
    (ascends-filter (λ (n : ℕ). not (has c.args.gone.now n)) c.args.numbers.now 0 c.requires.numbers)
