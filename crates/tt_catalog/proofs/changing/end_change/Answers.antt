use Rattle.std.proofs.Common.{List, Some, [], ◌++◌, ◌∷◌, ap, arith, subst, sym, ◌∙◌}
use Rattle.tt_history.specs.declared.history.Entry.{Entry}
use Rattle.tt_history.specs.declared.reply.Reply.{Reply}
use Rattle.tt_plain.specs.effect.End.{count_reply}
use Rattle.tt_state.proofs.Goes.{GoesOn, goes_on, has_room, made}
use Rattle.tt_state.proofs.Histories.{early}
use Rattle.tt_state.specs.Chronicle.{Chronicle}
use Rattle.tt_state.specs.Kept.{Kept, kept_of}
use Rattle.tt_state.specs.Moves.{IsReady}
use Rattle.tt_catalog.proofs.Changed.{changed_goes, entry_is, is_ready, lands, now_is, same_target}
use Rattle.tt_catalog.specs.Changes.{IsBuiltFor, MadeChange, change_entry}
use Rattle.tt_catalog.specs.Landing.{MayLand}
use Rattle.tt_catalog.proofs.changing.end_change.Goals as goal

pub land-requires : goal.land-requires
land-requires c =
    let is = subst (λ (b : Chronicle). IsBuiltFor b c.args.ticket c.args.change.now c.args.built) (sym c.cat.view_is) c.requires in
    let may = lands _ _ _ c.args.ticket c.args.change.now c.args.built c.cat.invariant is in
    let same = same_target _ _ _ c.args.ticket c.args.change.now c.args.built c.cat.invariant is c.in-Some.target c.in-Some.is in
    subst (λ n. MayLand (kept_of c.cat.inside.state) n c.items.result.now) (sym same) (subst (λ (ns : List _). MayLand (kept_of c.cat.inside.state) is.held.table ns) (sym c.items.ensures) may)

pub give_up-requires : goal.give_up-requires
give_up-requires c =
    let is = subst (λ (b : Chronicle). IsBuiltFor b c.args.ticket c.args.change.now c.args.built) (sym c.cat.view_is) c.requires in
    subst (λ (k : Kept). IsReady c.cat.inside.program k c.args.ticket.session c.args.ticket.index) (sym c.in-Ok.ensures.ok)
    (is_ready _ _ _ c.args.ticket c.args.change.now c.args.built c.cat.invariant is c.in-Some.target.table c.items.result.now)

pub session_entry-entry-requires : goal.session_entry-entry-requires
session_entry-entry-requires c = omega (arith, ap (λ (k : Kept). k.moment) c.in-Ok.ensures.ok, c.cat.invariant.sessions.moment, early _ _ _ c.cat.invariant)

pub push-requires : goal.push-requires
push-requires c =
    let is = subst (λ (b : Chronicle). IsBuiltFor b c.args.ticket c.args.change.now c.args.built) (sym c.cat.view_is) c.requires in
    has_room _ _ _ _ _ _ _ c.cat.invariant (changed_goes _ _ _ c.args.ticket c.args.change.now c.args.built c.cat.invariant is c.in-Ok.ensures.parts).1

pub invariant_of-cat-2 : goal.invariant_of-cat-2
invariant_of-cat-2 c =
    let is = subst (λ (b : Chronicle). IsBuiltFor b c.args.ticket c.args.change.now c.args.built) (sym c.cat.view_is) c.requires in
    let chronicle : Chronicle = record { program = c.cat.inside.program; cap = c.cat.inside.cap; history = c.cat.inside.history.list; kept = kept_of c.cat.inside.state } in
    let goes = changed_goes chronicle _ _ c.args.ticket c.args.change.now c.args.built c.cat.invariant is c.in-Ok.ensures.parts in
    let entry = c.session_entry-entry.ensures ∙ entry_is chronicle _ _ c.args.ticket c.args.change.now c.args.built c.cat.invariant is c.land.new.state.moment c.in-Ok.facts (ap (λ (k : Kept). k.moment) c.in-Ok.ensures.ok) c.in-Ok.ensures.facts in
    let longer = c.push.ensures.entries ∙ ap (λ (e : Entry). c.cat.inside.history.list ++ e ∷ []) entry in
    let now = now_is chronicle _ _ c.args.ticket c.args.change.now c.args.built c.cat.invariant is c.in-Some.target c.in-Some.is c.items.result.now c.items.ensures (kept_of c.land.new.state) (kept_of c.give_up.new.state) c.in-Ok.ensures.ok c.give_up.ensures in
    let went = subst (λ (r : Reply). GoesOn chronicle chronicle.kept (kept_of c.give_up.new.state) (change_entry chronicle c.args.ticket c.args.built) goes.0 (Some r)) (sym c.count_reply.ensures)
    (subst (λ (k : Kept). GoesOn chronicle chronicle.kept k (change_entry chronicle c.args.ticket c.args.built) goes.0 (Some (count_reply c.args.change.now c.args.built.count))) (sym now) goes.1) in
    goes_on _ _ _ _ _ _ _ _ _ c.cat.invariant went longer c.push.ensures.room

pub returns-clause-ok : goal.returns-clause-ok
returns-clause-ok c =
    let is = subst (λ (b : Chronicle). IsBuiltFor b c.args.ticket c.args.change.now c.args.built) (sym c.cat.view_is) c.requires in
    let chronicle : Chronicle = record { program = c.cat.inside.program; cap = c.cat.inside.cap; history = c.cat.inside.history.list; kept = kept_of c.cat.inside.state } in
    let goes = changed_goes chronicle _ _ c.args.ticket c.args.change.now c.args.built c.cat.invariant is c.in-Ok.ensures.parts in
    let entry = c.session_entry-entry.ensures ∙ entry_is chronicle _ _ c.args.ticket c.args.change.now c.args.built c.cat.invariant is c.land.new.state.moment c.in-Ok.facts (ap (λ (k : Kept). k.moment) c.in-Ok.ensures.ok) c.in-Ok.ensures.facts in
    let longer = c.push.ensures.entries ∙ ap (λ (e : Entry). c.cat.inside.history.list ++ e ∷ []) entry in
    let now = now_is chronicle _ _ c.args.ticket c.args.change.now c.args.built c.cat.invariant is c.in-Some.target c.in-Some.is c.items.result.now c.items.ensures (kept_of c.land.new.state) (kept_of c.give_up.new.state) c.in-Ok.ensures.ok c.give_up.ensures in
    let went = subst (λ (r : Reply). GoesOn chronicle chronicle.kept (kept_of c.give_up.new.state) (change_entry chronicle c.args.ticket c.args.built) goes.0 (Some r)) (sym c.count_reply.ensures)
    (subst (λ (k : Kept). GoesOn chronicle chronicle.kept k (change_entry chronicle c.args.ticket c.args.built) goes.0 (Some (count_reply c.args.change.now c.args.built.count))) (sym now) goes.1) in
    let new : Chronicle = record { program = c.cat.inside.program; cap = c.cat.inside.cap; history = c.push.new.self.list; kept = kept_of c.give_up.new.state } in
    subst (λ (b : Chronicle). MadeChange b new c.args.ticket c.args.built c.count_reply.result) c.cat.view_is
    (made chronicle _ _ goes.0 _ _ went longer)
