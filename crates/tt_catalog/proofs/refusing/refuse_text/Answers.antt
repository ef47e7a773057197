use Rattle.std.proofs.Common.{◌∷◌, ◌++◌, [], Some, Err, sym, ap, ◌∙◌, subst, arith}
use Rattle.tt_history.specs.declared.history.EntryKind.TheVariants as kind
use Rattle.tt_history.specs.declared.history.Told.TheVariants as told
use Rattle.tt_history.specs.declared.reply.Refusal.TheVariants as refusal
use Rattle.tt_history.specs.declared.reply.Reply.TheVariants as reply
use Rattle.tt_state.proofs.Goes.{GoesOn, goes_on, has_room, made}
use Rattle.tt_state.proofs.Histories.{early}
use Rattle.tt_state.proofs.Turns.{is_next, ready}
use Rattle.tt_state.specs.Chronicle.{Chronicle, IsNextRead, MadeEntry, entry_at, store_of}
use Rattle.tt_state.specs.Kept.{Kept, kept_of}
use Rattle.tt_catalog.proofs.Refused.{text_refused}
use Rattle.tt_catalog.proofs.refusing.refuse_text.Goals as goal

pub end_statement-requires : goal.end_statement-requires
end_statement-requires c =
    let next = subst (λ (b : Chronicle). IsNextRead b c.args.session c.args.index (Err c.args.place)) (sym c.cat.view_is) c.requires in
    ready _ _ _ _ _ _ _ c.cat.invariant (is_next _ _ _ _ _ next).turn

pub session_entry-entry-requires : goal.session_entry-entry-requires
session_entry-entry-requires c = omega (arith, c.cat.invariant.sessions.moment, early _ _ _ c.cat.invariant)

pub push-requires : goal.push-requires
push-requires c =
    let next = subst (λ (b : Chronicle). IsNextRead b c.args.session c.args.index (Err c.args.place)) (sym c.cat.view_is) c.requires in
    has_room _ _ _ _ _ _ _ c.cat.invariant (text_refused _ _ _ _ _ _ c.cat.invariant next).1

pub invariant_of-cat : goal.invariant_of-cat
invariant_of-cat c =
    let next = subst (λ (b : Chronicle). IsNextRead b c.args.session c.args.index (Err c.args.place)) (sym c.cat.view_is) c.requires in
    let chronicle : Chronicle = record { program = c.cat.inside.program; cap = c.cat.inside.cap; history = c.cat.inside.history.list; kept = kept_of c.cat.inside.state } in
    let goes = text_refused chronicle _ _ c.args.session c.args.index c.args.place c.cat.invariant next in
    let longer = c.push.ensures.entries ∙ ap (λ e. c.cat.inside.history.list ++ e ∷ [])
    (c.session_entry-entry.ensures ∙ ap (λ n. entry_at c.cat.inside.state.moment c.args.session c.args.index (kind.Start (told.Refused n))) c.number.ensures
    ∙ ap (λ m. entry_at m c.args.session c.args.index (kind.Start (told.Refused 1))) c.cat.invariant.sessions.moment) in
    let went = subst (λ (k : Kept). GoesOn chronicle chronicle.kept k (entry_at (store_of chronicle).moment c.args.session c.args.index (kind.Start (told.Refused 1))) goes.0 (Some (reply.Refused (refusal.Syntax c.args.place)))) (sym c.end_statement.ensures) goes.1 in
    goes_on _ _ _ _ _ _ _ _ _ c.cat.invariant went longer c.push.ensures.room

pub returns-clause-entry : goal.returns-clause-entry
returns-clause-entry c =
    let next = subst (λ (b : Chronicle). IsNextRead b c.args.session c.args.index (Err c.args.place)) (sym c.cat.view_is) c.requires in
    let chronicle : Chronicle = record { program = c.cat.inside.program; cap = c.cat.inside.cap; history = c.cat.inside.history.list; kept = kept_of c.cat.inside.state } in
    let goes = text_refused chronicle _ _ c.args.session c.args.index c.args.place c.cat.invariant next in
    let longer = c.push.ensures.entries ∙ ap (λ e. c.cat.inside.history.list ++ e ∷ [])
    (c.session_entry-entry.ensures ∙ ap (λ n. entry_at c.cat.inside.state.moment c.args.session c.args.index (kind.Start (told.Refused n))) c.number.ensures
    ∙ ap (λ m. entry_at m c.args.session c.args.index (kind.Start (told.Refused 1))) c.cat.invariant.sessions.moment) in
    let went = subst (λ (k : Kept). GoesOn chronicle chronicle.kept k (entry_at (store_of chronicle).moment c.args.session c.args.index (kind.Start (told.Refused 1))) goes.0 (Some (reply.Refused (refusal.Syntax c.args.place)))) (sym c.end_statement.ensures) goes.1 in
    let new : Chronicle = record { program = c.cat.inside.program; cap = c.cat.inside.cap; history = c.push.new.self.list; kept = kept_of c.end_statement.new.self } in
    subst (λ (b : Chronicle). MadeEntry b new (entry_at (store_of b).moment c.args.session c.args.index (kind.Start (told.Refused 1))) (Some (reply.Refused (refusal.Syntax c.args.place)))) c.cat.view_is
    (made chronicle _ _ goes.0 _ _ went longer)
