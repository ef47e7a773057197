use Rattle.std.proofs.Common.{◌≡◌, ℕ, ◌+◌, ◌-◌, List, [], length, ap, ◌∙◌, arith}
use Rattle.std.proofs.lemmas.Result.{IfOk-weaker}
use Rattle.tt_layout.specs.declared.piece.Piece.{Piece}
use Rattle.tt_layout.specs.Numbers.{changed}
use Rattle.tt_layout.specs.Chain.{current_of, layouts_from, numbers_at}
use Rattle.tt_layout.proofs.ChainLaws.{length-layouts, numbers_at_last}
use Rattle.tt_layout.proofs.Growing.{chain_some}
use Rattle.tt_layout.proofs.layouts.Layouts.next_numbers.Goals as goal

pub returns : goal.returns
returns c =
    let pieces : List (ℕ × Piece) = c.self.inside.pieces.items in
    let last : c.len.result - 1 + 1 ≡ length (layouts_from [] pieces) =
    omega (arith, c.len.ensures, c.deref.ensures.len, ap length c.deref.ensures.value, length-layouts [] pieces, chain_some pieces c.self.invariant) in
    let current : numbers_at (layouts_from [] c.deref.result.now) (c.len.result - 1) ≡ current_of c.args.self.now =
    ap (λ (ps : List (ℕ × Piece)). numbers_at (layouts_from [] ps) (c.len.result - 1)) c.deref.ensures.value
    ∙ numbers_at_last (layouts_from [] pieces) (c.len.result - 1) last
    ∙ ap current_of c.self.view_is in
    IfOk-weaker c.numbers_behind.result _ _
    (λ v h. h ∙ ap (λ (ns : List ℕ). changed ns c.args.gone.now c.args.added.now) current)
    c.numbers_behind.ensures
