use Rattle.std.proofs.Common.{ℕ, ◌-◌, List, [], ap, ◌∙◌, sym}
use Rattle.tt_layout.specs.declared.piece.Piece.{Piece}
use Rattle.tt_layout.specs.Chain.{layouts_from, numbers_at}
use Rattle.tt_layout.proofs.FoundLayouts.{none_found, some_found}
use Rattle.tt_layout.proofs.layouts.Layouts.at.Goals as goal

pub returns-then-begun-eq0 : goal.returns-then-begun-eq0
returns-then-begun-eq0 c =
    none_found c.deref.result.now c.args.self.now c.begun_by-begun.result c.args.moment
    (ap (λ (ps : List (ℕ × Piece)). layouts_from [] ps) c.deref.ensures.value ∙ c.self.view_is)
    c.if-begun-eq0.true c.begun_by-begun.ensures.bound c.begun_by-begun.ensures.begun c.begun_by-begun.ensures.to_come

pub returns : goal.returns
returns c =
    some_found c.deref.result.now c.args.self.now c.begun_by-begun.result c.args.moment c.in_ok-numbers.numbers.items
    (ap (λ (ps : List (ℕ × Piece)). layouts_from [] ps) c.deref.ensures.value ∙ c.self.view_is)
    c.if-begun-eq0.false c.begun_by-begun.ensures.bound c.begun_by-begun.ensures.begun c.begun_by-begun.ensures.to_come
    (c.in_ok-numbers.ensures
    ∙ ap (λ (ps : List (ℕ × Piece)). numbers_at (layouts_from [] ps) (c.begun_by-begun.result - 1)) (c.deref-2.ensures.value ∙ sym c.deref.ensures.value))
