use Rattle.std.proofs.Common.{arith, sym}
use Rattle.std.proofs.lemmas.Bool.Decides.{nat_tests}
use Rattle.tt_layout.proofs.Below.{below_joined, empty_below}
use Rattle.tt_layout.proofs.numbers.is_below.Goals as goal

pub returns-in-Some-Some : goal.returns-in-Some-Some
returns-in-Some-Some c = λ less.
    below_joined c.args.left.now c.args.right.now 0 c.in-Some-Some.last.now c.in-Some-Some.first.now c.requires.left c.requires.right (sym c.in-Some-Some.ensures.value) (sym c.in-Some-Some.ensures'.value) (grind (arith, nat_tests))

pub returns-in_default-2 : goal.returns-in_default-2
returns-in_default-2 c = λ _. empty_below c.args.left.now c.args.right.now c.in_default.ensures.value c.requires.right
