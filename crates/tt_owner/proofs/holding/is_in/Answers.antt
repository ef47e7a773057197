use Rattle.std.proofs.Common.{◌≡◌, ℕ, List, Bool, true, false, ap, sym, ◌∙◌}
use Rattle.tt_layout.specs.declared.piece.Piece.{Piece}
use Rattle.tt_layout.specs.Numbers.{has}
use Rattle.tt_layout.specs.Chain.{numbers_of}
use Rattle.tt_owner.proofs.Walks.{was_added, is_gone, has_stayed}
use Rattle.tt_owner.proofs.holding.is_in.Goals as goal

looked : (found : Bool) (ns ms : List ℕ) (part : ℕ) (answer : Bool) → found ≡ has ns part → ns ≡ ms → found ≡ answer → has ms part ≡ answer
looked found ns ms part answer e f g = ap (λ (l : List ℕ). has l part) (sym f) ∙ sym e ∙ g

pub returns-then-has_number : goal.returns-then-has_number
returns-then-has_number c = λ before e.
    was_added before c.in-Change.gone c.in-Change.added c.args.number
    (looked _ _ _ c.args.number true c.has_number-in-Change.ensures c.items-in-Change.ensures c.if-has_number.true)
    ∙ ap (λ (p : Piece). has (numbers_of before p) c.args.number) (sym c.in-Change.is)

pub returns-then-has_number-2 : goal.returns-then-has_number-2
returns-then-has_number-2 c = λ before e.
    is_gone before c.in-Change.gone c.in-Change.added c.args.number
    (looked _ _ _ c.args.number false c.has_number-in-Change.ensures c.items-in-Change.ensures c.if-has_number.false)
    (looked _ _ _ c.args.number true c.has_number-in-Change-2.ensures c.items-in-Change-2.ensures c.if-has_number-2.true)
    ∙ ap (λ (p : Piece). has (numbers_of before p) c.args.number) (sym c.in-Change.is)

pub returns-else-has_number-2 : goal.returns-else-has_number-2
returns-else-has_number-2 c = λ before e.
    has_stayed before c.in-Change.gone c.in-Change.added c.args.number c.args.inside e
    (looked _ _ _ c.args.number false c.has_number-in-Change.ensures c.items-in-Change.ensures c.if-has_number.false)
    (looked _ _ _ c.args.number false c.has_number-in-Change-2.ensures c.items-in-Change-2.ensures c.if-has_number-2.false)
    ∙ ap (λ (p : Piece). has (numbers_of before p) c.args.number) (sym c.in-Change.is)
