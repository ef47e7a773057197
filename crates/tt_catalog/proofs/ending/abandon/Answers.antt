use Rattle.std.proofs.Common.{◌∷◌, ◌++◌, [], Some, sym, ap, ◌∙◌, subst, arith}
use Rattle.tt_history.specs.declared.history.EntryKind.TheVariants as kind
use Rattle.tt_state.proofs.Goes.{GoesOn, goes_on, has_room, made}
use Rattle.tt_state.proofs.Histories.{early}
use Rattle.tt_state.specs.Chronicle.{Chronicle, MadeEntry, entry_at, store_of}
use Rattle.tt_state.specs.Kept.{Kept, kept_of}
use Rattle.tt_catalog.specs.Ends.{GivesUp}
use Rattle.tt_catalog.proofs.Ended.{given_up_goes, given_up_opened}
use Rattle.tt_catalog.proofs.ending.abandon.Goals as goal

pub give_up-requires : goal.give_up-requires
give_up-requires c =
    let gives = subst (λ (b : Chronicle). GivesUp b c.args.ticket c.args.why c.requires.0) (sym c.cat.view_is) c.requires.1 in
    given_up_opened _ _ _ c.args.ticket c.args.why c.requires.0 c.cat.invariant gives

pub session_entry-entry-requires : goal.session_entry-entry-requires
session_entry-entry-requires c = omega (arith, c.cat.invariant.sessions.moment, early _ _ _ c.cat.invariant)

pub push-requires : goal.push-requires
push-requires c =
    let gives = subst (λ (b : Chronicle). GivesUp b c.args.ticket c.args.why c.requires.0) (sym c.cat.view_is) c.requires.1 in
    has_room _ _ _ _ _ _ _ c.cat.invariant (given_up_goes _ _ _ c.args.ticket c.args.why c.requires.0 c.cat.invariant gives).1

pub invariant_of-cat : goal.invariant_of-cat
invariant_of-cat c =
    let gives = subst (λ (b : Chronicle). GivesUp b c.args.ticket c.args.why c.requires.0) (sym c.cat.view_is) c.requires.1 in
    let chronicle : Chronicle = record { program = c.cat.inside.program; cap = c.cat.inside.cap; history = c.cat.inside.history.list; kept = kept_of c.cat.inside.state } in
    let goes = given_up_goes chronicle _ _ c.args.ticket c.args.why c.requires.0 c.cat.invariant gives in
    let longer = c.push.ensures.entries ∙ ap (λ e. c.cat.inside.history.list ++ e ∷ []) (c.session_entry-entry.ensures ∙ ap (λ m. entry_at m c.args.ticket.session c.args.ticket.index (kind.Abandon c.args.why)) c.cat.invariant.sessions.moment) in
    let went = subst (λ (k : Kept). GoesOn chronicle chronicle.kept k (entry_at (store_of chronicle).moment c.args.ticket.session c.args.ticket.index (kind.Abandon c.args.why)) goes.0 (Some c.requires.0)) (sym c.give_up.ensures) goes.1 in
    goes_on _ _ _ _ _ _ _ _ _ c.cat.invariant went longer c.push.ensures.room

pub returns : goal.returns
returns c answer given =
    let gives = subst (λ (b : Chronicle). GivesUp b c.args.ticket c.args.why answer) (sym c.cat.view_is) given in
    let chronicle : Chronicle = record { program = c.cat.inside.program; cap = c.cat.inside.cap; history = c.cat.inside.history.list; kept = kept_of c.cat.inside.state } in
    let goes = given_up_goes chronicle _ _ c.args.ticket c.args.why answer c.cat.invariant gives in
    let longer = c.push.ensures.entries ∙ ap (λ e. c.cat.inside.history.list ++ e ∷ []) (c.session_entry-entry.ensures ∙ ap (λ m. entry_at m c.args.ticket.session c.args.ticket.index (kind.Abandon c.args.why)) c.cat.invariant.sessions.moment) in
    let went = subst (λ (k : Kept). GoesOn chronicle chronicle.kept k (entry_at (store_of chronicle).moment c.args.ticket.session c.args.ticket.index (kind.Abandon c.args.why)) goes.0 (Some answer)) (sym c.give_up.ensures) goes.1 in
    let new : Chronicle = record { program = c.cat.inside.program; cap = c.cat.inside.cap; history = c.push.new.self.list; kept = kept_of c.give_up.new.state } in
    subst (λ (b : Chronicle). MadeEntry b new (entry_at (store_of b).moment c.args.ticket.session c.args.ticket.index (kind.Abandon c.args.why)) (Some answer)) c.cat.view_is
    (made chronicle _ _ goes.0 _ _ went longer)
