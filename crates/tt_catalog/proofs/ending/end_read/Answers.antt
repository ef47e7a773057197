use Rattle.std.proofs.Common.{◌∷◌, ◌++◌, [], Some, sym, ap, ◌∙◌, subst, arith, List}
use Rattle.tt_value.specs.declared.value.Row.{Row}
use Rattle.tt_history.specs.declared.history.EntryKind.TheVariants as kind
use Rattle.tt_history.specs.declared.reply.Reply.TheVariants as reply
use Rattle.tt_state.proofs.Goes.{GoesOn, goes_on, has_room, made}
use Rattle.tt_state.proofs.Histories.{early, stands_sound}
use Rattle.tt_state.proofs.Turns.{is_open, ready}
use Rattle.tt_state.specs.Chronicle.{Chronicle, MadeEntry, entry_at, store_of}
use Rattle.tt_state.specs.Kept.{Kept, kept_of}
use Rattle.tt_catalog.specs.Ends.{IsAnswered}
use Rattle.tt_catalog.proofs.Ended.{answered_goes}
use Rattle.tt_catalog.proofs.ending.end_read.Goals as goal

pub close_query-requires : goal.close_query-requires
close_query-requires c =
    let found = subst (λ (b : Chronicle). IsAnswered b c.args.ticket c.requires.0) (sym c.cat.view_is) c.requires.1 in
    ready _ _ _ _ _ _ _ c.cat.invariant (is_open _ _ _ _ _ _ (stands_sound _ _ _ c.cat.invariant) found.is_open).turn

pub session_entry-entry-requires : goal.session_entry-entry-requires
session_entry-entry-requires c = omega (arith, c.cat.invariant.sessions.moment, early _ _ _ c.cat.invariant)

pub push-requires : goal.push-requires
push-requires c =
    let found = subst (λ (b : Chronicle). IsAnswered b c.args.ticket c.requires.0) (sym c.cat.view_is) c.requires.1 in
    has_room _ _ _ _ _ _ _ c.cat.invariant (answered_goes _ _ _ _ _ _ _ _ c.cat.invariant found.is_open found.answer).1

pub invariant_of-cat : goal.invariant_of-cat
invariant_of-cat c =
    let found = subst (λ (b : Chronicle). IsAnswered b c.args.ticket c.requires.0) (sym c.cat.view_is) c.requires.1 in
    let chronicle : Chronicle = record { program = c.cat.inside.program; cap = c.cat.inside.cap; history = c.cat.inside.history.list; kept = kept_of c.cat.inside.state } in
    let goes = answered_goes chronicle _ _ c.args.ticket.session c.args.ticket.index _ _ c.requires.0 c.cat.invariant found.is_open found.answer in
    let longer = c.push.ensures.entries ∙ ap (λ e. c.cat.inside.history.list ++ e ∷ [])
    (c.session_entry-entry.ensures ∙ ap (λ k. entry_at c.cat.inside.state.moment c.args.ticket.session c.args.ticket.index k) c.end_without_parts-end.ensures
    ∙ ap (λ m. entry_at m c.args.ticket.session c.args.ticket.index (kind.End [] [])) c.cat.invariant.sessions.moment) in
    let went = subst (λ (k : Kept). GoesOn chronicle chronicle.kept k (entry_at (store_of chronicle).moment c.args.ticket.session c.args.ticket.index (kind.End [] [])) goes.0 (Some (reply.Rows c.requires.0))) (sym c.close_query.ensures) goes.1 in
    goes_on _ _ _ _ _ _ _ _ _ c.cat.invariant went longer c.push.ensures.room

pub returns : goal.returns
returns c =
    let found = subst (λ (b : Chronicle). IsAnswered b c.args.ticket c.requires.0) (sym c.cat.view_is) c.requires.1 in
    let chronicle : Chronicle = record { program = c.cat.inside.program; cap = c.cat.inside.cap; history = c.cat.inside.history.list; kept = kept_of c.cat.inside.state } in
    let goes = answered_goes chronicle _ _ c.args.ticket.session c.args.ticket.index _ _ c.requires.0 c.cat.invariant found.is_open found.answer in
    let longer = c.push.ensures.entries ∙ ap (λ e. c.cat.inside.history.list ++ e ∷ [])
    (c.session_entry-entry.ensures ∙ ap (λ k. entry_at c.cat.inside.state.moment c.args.ticket.session c.args.ticket.index k) c.end_without_parts-end.ensures
    ∙ ap (λ m. entry_at m c.args.ticket.session c.args.ticket.index (kind.End [] [])) c.cat.invariant.sessions.moment) in
    let went = subst (λ (k : Kept). GoesOn chronicle chronicle.kept k (entry_at (store_of chronicle).moment c.args.ticket.session c.args.ticket.index (kind.End [] [])) goes.0 (Some (reply.Rows c.requires.0))) (sym c.close_query.ensures) goes.1 in
    let new : Chronicle = record { program = c.cat.inside.program; cap = c.cat.inside.cap; history = c.push.new.self.list; kept = kept_of c.close_query.new.state } in
    subst (λ (b : Chronicle). (rows : List Row) × IsAnswered b c.args.ticket rows × MadeEntry b new (entry_at (store_of b).moment c.args.ticket.session c.args.ticket.index (kind.End [] [])) (Some (reply.Rows rows))) c.cat.view_is
    (c.requires.0, found, made chronicle _ _ goes.0 _ _ went longer)
