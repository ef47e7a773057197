use Rattle.std.proofs.Common.{◌≡◌, ◌∙◌, List, sym, ap, subst, length, true}
use Rattle.std.proofs.lemmas.Result.{IfOk-weaker}
use Rattle.tt_script.specs.declared.script.Script.{Script}
use Rattle.tt_history.specs.declared.history.Entry.{Entry}
use Rattle.tt_history.specs.declared.reply.Reply.{Reply}
use Rattle.tt_state.specs.Chronicle.{Chronicle, store_of}
use Rattle.tt_journal.specs.Transcript.{IsTranscript as HasText}
use Rattle.tt_run.specs.Outcomes.{IsFinished, IsInOrder, IsTranscript, Stands}
use Rattle.tt_run.specs.Turns.{AreAllDone, HasReplies}
use Rattle.tt_run.proofs.Finished.{is_finished, has_text, is_in_order, are_replies}
use Rattle.tt_run.proofs.run.run_program.Goals as goal

pub returns-clause-finished : goal.returns-clause-finished
returns-clause-finished c =
    let chronicle = c.run_sessions.new.cat in
    let given = c.in_ok-replies.ensures in
    let stands = subst (λ (b : Chronicle). Stands b) c.store.view_is (_, c.store.invariant) in
    subst (IsFinished c.args.program.now) (sym c.settle.ensures) (is_finished c.args.program.now chronicle stands given.program given.done)

pub returns-clause-order : goal.returns-clause-order
returns-clause-order c =
    let chronicle = c.run_sessions.new.cat in
    let given = c.in_ok-replies.ensures in
    let stands = subst (λ (b : Chronicle). Stands b) c.store.view_is (_, c.store.invariant) in
    subst IsInOrder (sym c.settle.ensures) (is_in_order c.args.program.now chronicle stands given.program c.requires.turns given.order)

pub returns-clause-text : goal.returns-clause-text
returns-clause-text c =
    let chronicle = c.run_sessions.new.cat in
    let given = c.in_ok-replies.ensures in
    let stands = subst (λ (b : Chronicle). Stands b) c.store.view_is (_, c.store.invariant) in
    let replies = are_replies c.args.program.now chronicle stands given.program c.in_ok-replies.replies.items given.done given.replies in
    subst (λ (b : Chronicle). IsTranscript b c.in_ok-text.text.items) (sym c.settle.ensures)
    (has_text chronicle _ _ _ c.in_ok-replies.replies.items c.in_ok-text.text.items (c.script.ensures.value ∙ sym given.program) (c.entries.ensures ∙ (c.history.ensures ∙ ap (λ (b : Chronicle). b.history) c.settle.ensures)) c.as_slice.ensures.value replies c.in_ok-text.ensures)

pub returns-clause-cap : goal.returns-clause-cap
returns-clause-cap c = ap (λ (b : Chronicle). b.cap) c.settle.ensures ∙ (c.in_ok-replies.ensures.cap ∙ c.in_ok-store.ensures.cap)
