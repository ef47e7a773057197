use Rattle.std.proofs.Common.{◌≤◌, arith, ◌∙◌, ap, ◌≡◌}
use Rattle.tt_script.specs.Program.{IsProgram}
use Rattle.tt_state.specs.Owed.{entry_limit}
use Rattle.tt_state.proofs.Owed.{few_statements}
use Rattle.tt_state.proofs.Begins.{begins}
use Rattle.tt_state.proofs.catalog.Catalog.new.Goals as goal

pub entry_room-requires-clause-statements : goal.entry_room-requires-clause-statements
entry_room-requires-clause-statements c = rw c.script-script.ensures.value (few_statements c.args.program.now c.script-script.ensures.sound)

pub invariant_of-result : goal.invariant_of-result
invariant_of-result c =
    let limits : IsProgram c.args.program.now = c.script-script.ensures.sound in
    let room : c.entry_room.result ≡ entry_limit c.args.program.now = c.entry_room.ensures ∙ ap entry_limit c.script-script.ensures.value in
    let roomy : entry_limit c.args.program.now ≤ c.in_ok-with_room.field-0.room = omega (arith, room, c.in_ok-with_room.ensures.room) in
    rw (c.in_ok-share.ensures, c.in_ok-with_room.ensures.empty, c.in_ok-first_state.ensures, c.script-script.ensures.value) (begins c.args.program.now c.args.cap _ limits c.requires.cap roomy)
