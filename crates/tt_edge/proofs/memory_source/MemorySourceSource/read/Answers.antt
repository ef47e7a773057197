-- A read copies the front of what is left; it copies nothing into a piece with room only where nothing is left.
use Rattle.std.proofs.Common.{◌≡◌, ◌≤◌, length, take, drop, sym, ap, ◌∙◌, arith, length-drop, length-append, length-take-le, drop_of_length-le}
use Rattle.std.proofs.lemmas.List.{take_rest}
use Rattle.tt_edge.specs.Outside.{Input}
use Rattle.tt_edge.proofs.Bytes.{front_given}
use Rattle.tt_edge.proofs.memory_source.MemorySourceSource.read.Goals as goal

pub returns-clause-bytes : goal.returns-clause-bytes
returns-clause-bytes c =
    let given = c.self.inside.given in
    let bytes = c.self.inside.bytes.items in
    let into = c.args.into.now in
    let copied = c.copy_from_slice.new.self in
    let count = c.min-count.result in
    let same = c.deref-2.ensures.value in
    let rest = take_rest c.deref-2.result.now given ∙ ap (drop given) same in
    let size = ap length rest ∙ length-drop given bytes in
    let fits : count ≤ length into = omega (arith, c.min-count.ensures, c.min.ensures) in
    let counted : length copied ≡ count = c.copy_from_slice.ensures.len ∙ length-take-le count into fits in
    let copy : copied ≡ take count (drop given bytes) = c.copy_from_slice.ensures.after ∙ ap (take count) rest in
    let left = λ (s : Input). s.left in (
      sym (ap left c.self.view_is) ∙ front_given bytes copied (drop count into) given count copy counted,
      λ none room. drop_of_length-le bytes (omega (arith, none, room, size, counted, c.min-count.ensures, c.min.ensures, c.self.invariant.1, length-append copied (drop count into), length-drop count into)),
    )
