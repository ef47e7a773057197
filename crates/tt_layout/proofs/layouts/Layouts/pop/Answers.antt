use Rattle.std.proofs.Common.{◌≡◌, ℕ, ◌<◌, List, [], ◌∷◌, ◌++◌, length, ap, sym, subst, ◌∙◌}
use Rattle.tt_layout.specs.declared.piece.Piece.{Piece}
use Rattle.tt_layout.specs.Chain.{IsChain, layouts_from, without_last}
use Rattle.tt_layout.proofs.Growing.{chain_front, layouts_front, some_left}
use Rattle.tt_layout.proofs.layouts.Layouts.pop.Goals as goal

pub invariant_of-self : goal.invariant_of-self
invariant_of-self c =
    let all : c.self.inside.pieces.items ≡ c.pop.new.self.items ++ c.in-Some._last ∷ [] = c.in-Some.ensures.items in
    let many : 1 < length (layouts_from [] c.self.inside.pieces.items) = subst (λ (ls : List (ℕ × List ℕ)). 1 < length ls) (sym c.self.view_is) c.requires in
    chain_front c.pop.new.self.items c.in-Some._last (subst IsChain all c.self.invariant) (some_left c.self.inside.pieces.items _ _ all many)

pub returns : goal.returns
returns c =
    layouts_front c.pop.new.self.items c.in-Some._last
    ∙ ap (λ (ps : List (ℕ × Piece)). without_last (layouts_from [] ps)) (sym c.in-Some.ensures.items)
    ∙ ap (λ (ls : List (ℕ × List ℕ)). without_last ls) c.self.view_is
