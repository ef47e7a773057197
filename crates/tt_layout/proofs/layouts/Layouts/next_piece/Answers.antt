use Rattle.std.proofs.Common.{◌≡◌, ℕ, ◌%◌, [], length, ap, sym, ◌∙◌}
use Rattle.std.proofs.lemmas.Result.{IfOk-weaker}
use Rattle.tt_layout.specs.declared.piece.Piece.TheVariants.{Full}
use Rattle.tt_layout.specs.Chain.{current_of}
use Rattle.tt_layout.proofs.ChainLaws.{length-pieces, given_full, given_change}
use Rattle.tt_layout.proofs.layouts.Layouts.next_piece.Goals as goal

pub returns-in_ok-numbers : goal.returns-in_ok-numbers
returns-in_ok-numbers c =
    let place : length c.pieces.result.now ≡ length c.args.self.now =
    ap length c.pieces.ensures.pieces ∙ length-pieces 0 [] c.args.self.now in
    let full : length c.args.self.now % 64 ≡ 0 = sym (ap (λ (k : ℕ). k % 64) place) ∙ c.if-pieces-eq0.true in
    ap Full (c.from_vec.ensures ∙ c.in_ok-numbers.ensures)
    ∙ sym (given_full (length c.args.self.now) (current_of c.args.self.now) c.args.gone.now c.args.added.now full)

pub returns-else-pieces-eq0 : goal.returns-else-pieces-eq0
returns-else-pieces-eq0 c =
    let place : length c.pieces.result.now ≡ length c.args.self.now =
    ap length c.pieces.ensures.pieces ∙ length-pieces 0 [] c.args.self.now in
    IfOk-weaker c.change_piece.result _ _
    (λ p h. h
    ∙ sym (given_change (length c.args.self.now) (current_of c.args.self.now) c.args.gone.now c.args.added.now
    (λ e. c.if-pieces-eq0.false (ap (λ (k : ℕ). k % 64) place ∙ e))))
    c.change_piece.ensures
