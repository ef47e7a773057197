use Rattle.std.proofs.Common.{ℕ, List, [], ◌∷◌, ◌++◌, length, ap, sym, subst, ◌∙◌}
use Rattle.tt_layout.specs.declared.piece.Piece.{Piece}
use Rattle.tt_layout.specs.Chain.{IsChain, current_of, with_change, layouts_from, pieces_of, piece_given}
use Rattle.tt_layout.proofs.Growing.{IsGiven, chain_behind, layouts_behind, pieces_given}
use Rattle.tt_layout.proofs.layouts.Layouts.push.Goals as goal

given : (c : goal.In_ok-push) → IsGiven (layouts_from [] c.self.inside.pieces.items) c.args.begun c.args.gone.now c.args.added.now c.in_ok-piece.piece
given c =
    subst (λ (ls : List (ℕ × List ℕ)). IsGiven ls c.args.begun c.args.gone.now c.args.added.now c.in_ok-piece.piece) (sym c.self.view_is)
    (record {
      later = c.requires.later;
      gone_ascends = c.requires.gone_ascends;
      added_ascends = c.requires.added_ascends;
      gone_there = c.requires.gone;
      added_new = c.requires.added;
      piece = c.in_ok-piece.ensures;
    })

pub invariant_of-self-2 : goal.invariant_of-self-2
invariant_of-self-2 c =
    subst IsChain (sym c.in_ok-push.ensures.items)
    (chain_behind c.self.inside.pieces.items c.args.begun c.args.gone.now c.args.added.now c.in_ok-piece.piece c.self.invariant (given c))

pub returns-clause-ok : goal.returns-clause-ok
returns-clause-ok c =
    ap (λ (ps : List (ℕ × Piece)). layouts_from [] ps) c.in_ok-push.ensures.items
    ∙ layouts_behind c.self.inside.pieces.items c.args.begun c.args.gone.now c.args.added.now c.in_ok-piece.piece c.self.invariant (given c)
    ∙ ap (λ (ls : List (ℕ × List ℕ)). with_change ls c.args.begun c.args.gone.now c.args.added.now) c.self.view_is

pub returns-clause-piece : goal.returns-clause-piece
returns-clause-piece c =
    ap (λ (ps : List (ℕ × Piece)). pieces_of (layouts_from [] ps)) c.in_ok-push.ensures.items
    ∙ pieces_given c.self.inside.pieces.items c.args.begun c.args.gone.now c.args.added.now c.in_ok-piece.piece c.self.invariant (given c)
    ∙ ap (λ (ls : List (ℕ × List ℕ)). pieces_of ls ++ (c.args.begun, piece_given (length ls) (current_of ls) c.args.gone.now c.args.added.now) ∷ []) c.self.view_is
