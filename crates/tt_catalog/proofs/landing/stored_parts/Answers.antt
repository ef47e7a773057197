use Rattle.std.proofs.Common.{List, [], length, ◌++◌, ◌+◌, ◌∷◌, ap, arith, sym, ◌∙◌}
use Rattle.std.proofs.lemmas.Iterator.Adapters.{YieldsList-from_vec}
use Rattle.std.proofs.lemmas.Iterator.Consumers.{YieldsList-turn}
use Rattle.tt_partition.specs.Table.{IsPart, Table}
use Rattle.tt_plain.proofs.law.Lists.{every-append}
use Rattle.tt_state.specs.declared.part.StoredPart.{StoredPart}
use Rattle.tt_catalog.proofs.Numbered.{length-stored, stored_push}
use Rattle.tt_catalog.specs.Changes.{stored_from}
use Rattle.tt_catalog.proofs.landing.stored_parts.Goals as goal

pub overflow_add-number : goal.overflow_add-number
overflow_add-number c =
    let began = c.into_iter-part-iterator.ensures.into_iter_gives in
    let turn = YieldsList-turn (YieldsList-from_vec _ began.0 (began.1 ∙ c.into_vec-part-items.result.ok.0)) c.loop-part.yielded c.loop-part.part-iterator c.loop-part.yielded_by c.next.result c.next.new.self c.in-Some.part c.in-Some.is c.next.ensures.steps in
    let kept = c.len-in-loop-part.ensures ∙ c.loop-part.stored.ok.0 ∙ ap (λ (ps : List StoredPart). length ps) c.loop-part.invariant.0 ∙ length-stored c.args.origin (c.args.count + 1) c.loop-part.yielded in
    omega (arith, turn.0, kept, ap (λ (ps : List Table). length ps) c.into_vec-part-items.ensures, c.requires)

pub overflow_add-number-in-loop-part : goal.overflow_add-number-in-loop-part
overflow_add-number-in-loop-part c =
    let began = c.into_iter-part-iterator.ensures.into_iter_gives in
    let turn = YieldsList-turn (YieldsList-from_vec _ began.0 (began.1 ∙ c.into_vec-part-items.result.ok.0)) c.loop-part.yielded c.loop-part.part-iterator c.loop-part.yielded_by c.next.result c.next.new.self c.in-Some.part c.in-Some.is c.next.ensures.steps in
    let kept = c.len-in-loop-part.ensures ∙ c.loop-part.stored.ok.0 ∙ ap (λ (ps : List StoredPart). length ps) c.loop-part.invariant.0 ∙ length-stored c.args.origin (c.args.count + 1) c.loop-part.yielded in
    omega (arith, turn.0, kept, ap (λ (ps : List Table). length ps) c.into_vec-part-items.ensures, c.requires)

pub loop-part-preserved : goal.loop-part-preserved
loop-part-preserved c =
    let kept = c.len-in-loop-part.ensures ∙ c.loop-part.stored.ok.0 ∙ ap (λ (ps : List StoredPart). length ps) c.loop-part.invariant.0 ∙ length-stored c.args.origin (c.args.count + 1) c.loop-part.yielded in (
      c.in_ok-push.ensures.items
          ∙ ap (λ (ps : List StoredPart). ps ++ c.in_ok-part.part ∷ []) c.loop-part.invariant.0
          ∙ ap (λ (p : StoredPart). stored_from c.args.origin (c.args.count + 1) c.loop-part.yielded ++ p ∷ []) c.in_ok-part.ensures.stored
          ∙ sym (stored_push c.args.origin (c.args.count + 1) c.loop-part.yielded c.in-Some.part (c.args.count + c.len-in-loop-part.result + 1) (omega (arith, kept))),
      every-append IsPart c.loop-part.yielded (c.in-Some.part ∷ []) c.loop-part.invariant.1 (c.in_ok-part.ensures.part, tt),
    )
