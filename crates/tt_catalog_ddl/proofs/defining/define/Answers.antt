use Rattle.std.proofs.Common.{◌∷◌, ◌++◌, [], Some, Ok, sym, ap, ◌∙◌, subst, arith}
use Rattle.tt_history.specs.declared.history.Told.{Told}
use Rattle.tt_history.specs.declared.history.EntryKind.TheVariants as kind
use Rattle.tt_state.proofs.Goes.{GoesOn, goes_on, has_room, made}
use Rattle.tt_state.proofs.Turns.{is_next, ready, said_built}
use Rattle.tt_state.specs.Chronicle.{Chronicle, IsNextRead, MadeEntry, entry_at, store_of}
use Rattle.tt_state.specs.Kept.{Kept, kept_of}
use Rattle.tt_catalog_ddl.proofs.Defined.{defined_goes}
use Rattle.tt_catalog_ddl.proofs.Lookups.{carried_ready, few_tables, in_clock, names_known}
use Rattle.tt_catalog_ddl.proofs.defining.define.Goals as goal

pub carry_out-told-requires-clause-built : goal.carry_out-told-requires-clause-built
carry_out-told-requires-clause-built c =
    let next = subst (λ (b : Chronicle). IsNextRead b c.args.session c.args.index (Ok c.args.statement.now)) (sym c.cat.view_is) c.requires.next in
    said_built _ _ _ _ (is_next _ _ _ _ _ next).said

pub carry_out-told-requires-clause-known : goal.carry_out-told-requires-clause-known
carry_out-told-requires-clause-known c = names_known _ _ _ c.cat.invariant

pub carry_out-told-requires-clause-few : goal.carry_out-told-requires-clause-few
carry_out-told-requires-clause-few c = few_tables _ _ _ c.cat.invariant

pub carry_out-told-requires-clause-moment : goal.carry_out-told-requires-clause-moment
carry_out-told-requires-clause-moment c = in_clock _ _ _ c.cat.invariant

pub end_statement-requires : goal.end_statement-requires
end_statement-requires c =
    let next = subst (λ (b : Chronicle). IsNextRead b c.args.session c.args.index (Ok c.args.statement.now)) (sym c.cat.view_is) c.requires.next in
    let turn = is_next _ _ _ _ _ next in
    carried_ready _ _ _ _ _ _ _ _ c.carry_out-told.ensures (ready _ _ _ _ _ _ _ c.cat.invariant turn.turn)

pub session_entry-entry-requires : goal.session_entry-entry-requires
session_entry-entry-requires c = omega (arith, in_clock _ _ _ c.cat.invariant)

pub push-requires : goal.push-requires
push-requires c =
    let next = subst (λ (b : Chronicle). IsNextRead b c.args.session c.args.index (Ok c.args.statement.now)) (sym c.cat.view_is) c.requires.next in
    let goes = defined_goes _ _ _ _ _ _ _ _ _ c.cat.invariant next c.carry_out-told.ensures in
    has_room _ _ _ _ _ _ _ c.cat.invariant goes.1

pub invariant_of-cat : goal.invariant_of-cat
invariant_of-cat c =
    let next = subst (λ (b : Chronicle). IsNextRead b c.args.session c.args.index (Ok c.args.statement.now)) (sym c.cat.view_is) c.requires.next in
    let chronicle : Chronicle = record { program = c.cat.inside.program; cap = c.cat.inside.cap; history = c.cat.inside.history.list; kept = kept_of c.cat.inside.state } in
    let goes = defined_goes _ _ _ _ _ _ _ _ _ c.cat.invariant next c.carry_out-told.ensures in
    let longer = c.push.ensures.entries ∙ ap (λ e. c.cat.inside.history.list ++ e ∷ []) (c.session_entry-entry.ensures ∙ ap (λ m. entry_at m c.args.session c.args.index (kind.Define c.carry_out-told.result.0)) c.cat.invariant.sessions.moment) in
    let went = subst (λ (k : Kept). GoesOn chronicle chronicle.kept k (entry_at (store_of chronicle).moment c.args.session c.args.index (kind.Define c.carry_out-told.result.0)) goes.0 (Some c.carry_out-told.result.1)) (sym c.end_statement.ensures) goes.1 in
    goes_on _ _ _ _ _ _ _ _ _ c.cat.invariant went longer c.push.ensures.room

pub returns : goal.returns
returns c =
    let next = subst (λ (b : Chronicle). IsNextRead b c.args.session c.args.index (Ok c.args.statement.now)) (sym c.cat.view_is) c.requires.next in
    let chronicle : Chronicle = record { program = c.cat.inside.program; cap = c.cat.inside.cap; history = c.cat.inside.history.list; kept = kept_of c.cat.inside.state } in
    let goes = defined_goes _ _ _ _ _ _ _ _ _ c.cat.invariant next c.carry_out-told.ensures in
    let longer = c.push.ensures.entries ∙ ap (λ e. c.cat.inside.history.list ++ e ∷ []) (c.session_entry-entry.ensures ∙ ap (λ m. entry_at m c.args.session c.args.index (kind.Define c.carry_out-told.result.0)) c.cat.invariant.sessions.moment) in
    let went = subst (λ (k : Kept). GoesOn chronicle chronicle.kept k (entry_at (store_of chronicle).moment c.args.session c.args.index (kind.Define c.carry_out-told.result.0)) goes.0 (Some c.carry_out-told.result.1)) (sym c.end_statement.ensures) goes.1 in
    let new : Chronicle = record { program = c.cat.inside.program; cap = c.cat.inside.cap; history = c.push.new.self.list; kept = kept_of c.end_statement.new.self } in
    subst (λ (b : Chronicle). (x : Told) × MadeEntry b new (entry_at (store_of b).moment c.args.session c.args.index (kind.Define x)) (Some c.carry_out-told.result.1)) c.cat.view_is
    (c.carry_out-told.result.0, made chronicle _ _ goes.0 _ _ went longer)
