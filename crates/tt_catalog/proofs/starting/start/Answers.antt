use Rattle.std.proofs.Common.{◌∷◌, ◌++◌, [], Ok, sym, ap, ◌∙◌, subst, arith}
use Rattle.tt_history.specs.declared.history.EntryKind.TheVariants as kind
use Rattle.tt_history.specs.declared.history.Told.{Told}
use Rattle.tt_state.specs.Keeps.{StandsFor}
use Rattle.tt_state.proofs.Goes.{GoesOn, goes_on, has_room, made}
use Rattle.tt_state.proofs.Histories.{early}
use Rattle.tt_state.proofs.Turns.{is_next, ready}
use Rattle.tt_state.specs.Chronicle.{Chronicle, IsNextRead, MadeEntry, entry_at, store_of}
use Rattle.tt_state.specs.Kept.{Kept, kept_of}
use Rattle.tt_catalog.proofs.Carried.{can_start}
use Rattle.tt_catalog.proofs.Opened.{started_ready, statement_starts, store_then}
use Rattle.tt_catalog.specs.Starts.{told_by}
use Rattle.tt_catalog.specs.Tickets.{reply_to_start}
use Rattle.tt_catalog.proofs.starting.start.Goals as goal

pub begin_statement-started-requires-clause-parts : goal.begin_statement-started-requires-clause-parts
begin_statement-started-requires-clause-parts c = c.cat.invariant.tables.layouts

pub begin_statement-started-requires-clause-can : goal.begin_statement-started-requires-clause-can
begin_statement-started-requires-clause-can c =
    let next = subst (λ (b : Chronicle). IsNextRead b c.args.session c.args.index (Ok c.args.statement.now)) (sym c.cat.view_is) c.requires.next in
    can_start _ _ _ c.args.statement.now c.requires.kind (is_next _ _ _ _ _ next).said

pub tell_start-told-requires : goal.tell_start-told-requires
tell_start-told-requires c =
    let next = subst (λ (b : Chronicle). IsNextRead b c.args.session c.args.index (Ok c.args.statement.now)) (sym c.cat.view_is) c.requires.next in
    let can = can_start _ _ _ c.args.statement.now c.requires.kind (is_next _ _ _ _ _ next).said in
    started_ready _ _ _ _ _ c.args.statement.now _ can c.begin_statement-started.ensures (ready _ _ _ _ _ _ _ c.cat.invariant (is_next _ _ _ _ _ next).turn)

pub session_entry-entry-requires : goal.session_entry-entry-requires
session_entry-entry-requires c = omega (arith, c.cat.invariant.sessions.moment, early _ _ _ c.cat.invariant)

pub push-requires : goal.push-requires
push-requires c =
    let next = subst (λ (b : Chronicle). IsNextRead b c.args.session c.args.index (Ok c.args.statement.now)) (sym c.cat.view_is) c.requires.next in
    let can = can_start _ _ _ c.args.statement.now c.requires.kind (is_next _ _ _ _ _ next).said in
    let chronicle : Chronicle = record { program = c.cat.inside.program; cap = c.cat.inside.cap; history = c.cat.inside.history.list; kept = kept_of c.cat.inside.state } in
    let starts = statement_starts chronicle _ _ _ c.args.session c.args.index c.args.statement.now c.begin_statement-started.result c.cat.invariant next can c.begin_statement-started.ensures in
    has_room _ _ _ _ _ _ _ c.cat.invariant starts.goes

pub invariant_of-cat : goal.invariant_of-cat
invariant_of-cat c =
    let next = subst (λ (b : Chronicle). IsNextRead b c.args.session c.args.index (Ok c.args.statement.now)) (sym c.cat.view_is) c.requires.next in
    let can = can_start _ _ _ c.args.statement.now c.requires.kind (is_next _ _ _ _ _ next).said in
    let chronicle : Chronicle = record { program = c.cat.inside.program; cap = c.cat.inside.cap; history = c.cat.inside.history.list; kept = kept_of c.cat.inside.state } in
    let starts = statement_starts chronicle _ _ _ c.args.session c.args.index c.args.statement.now c.begin_statement-started.result c.cat.invariant next can c.begin_statement-started.ensures in
    let longer = c.push.ensures.entries ∙ ap (λ e. c.cat.inside.history.list ++ e ∷ [])
    (c.session_entry-entry.ensures ∙ ap (λ (t : Told). entry_at c.cat.inside.state.moment c.args.session c.args.index (kind.Start t)) c.tell_start-told.ensures.told
    ∙ ap (λ m. entry_at m c.args.session c.args.index (kind.Start (told_by c.begin_statement-started.result))) c.cat.invariant.sessions.moment) in
    let went = subst (λ (k : Kept). GoesOn chronicle chronicle.kept k (entry_at (store_of chronicle).moment c.args.session c.args.index (kind.Start (told_by c.begin_statement-started.result))) starts.after (reply_to_start c.begin_statement-started.result)) (sym c.tell_start-told.ensures.kept) starts.goes in
    goes_on _ _ _ _ _ _ _ _ _ c.cat.invariant went longer c.push.ensures.room

pub returns-clause-entry : goal.returns-clause-entry
returns-clause-entry c =
    let next = subst (λ (b : Chronicle). IsNextRead b c.args.session c.args.index (Ok c.args.statement.now)) (sym c.cat.view_is) c.requires.next in
    let can = can_start _ _ _ c.args.statement.now c.requires.kind (is_next _ _ _ _ _ next).said in
    let chronicle : Chronicle = record { program = c.cat.inside.program; cap = c.cat.inside.cap; history = c.cat.inside.history.list; kept = kept_of c.cat.inside.state } in
    let starts = statement_starts chronicle _ _ _ c.args.session c.args.index c.args.statement.now c.begin_statement-started.result c.cat.invariant next can c.begin_statement-started.ensures in
    let longer = c.push.ensures.entries ∙ ap (λ e. c.cat.inside.history.list ++ e ∷ [])
    (c.session_entry-entry.ensures ∙ ap (λ (t : Told). entry_at c.cat.inside.state.moment c.args.session c.args.index (kind.Start t)) c.tell_start-told.ensures.told
    ∙ ap (λ m. entry_at m c.args.session c.args.index (kind.Start (told_by c.begin_statement-started.result))) c.cat.invariant.sessions.moment) in
    let went = subst (λ (k : Kept). GoesOn chronicle chronicle.kept k (entry_at (store_of chronicle).moment c.args.session c.args.index (kind.Start (told_by c.begin_statement-started.result))) starts.after (reply_to_start c.begin_statement-started.result)) (sym c.tell_start-told.ensures.kept) starts.goes in
    let new : Chronicle = record { program = c.cat.inside.program; cap = c.cat.inside.cap; history = c.push.new.self.list; kept = kept_of c.tell_start-told.new.state } in
    subst (λ (b : Chronicle). MadeEntry b new (entry_at (store_of b).moment c.args.session c.args.index (kind.Start (told_by c.begin_statement-started.result))) (reply_to_start c.begin_statement-started.result)) c.cat.view_is
    (made chronicle _ _ starts.after _ _ went longer)

pub returns-clause-ticket : goal.returns-clause-ticket
returns-clause-ticket c =
    let next = subst (λ (b : Chronicle). IsNextRead b c.args.session c.args.index (Ok c.args.statement.now)) (sym c.cat.view_is) c.requires.next in
    let can = can_start _ _ _ c.args.statement.now c.requires.kind (is_next _ _ _ _ _ next).said in
    let chronicle : Chronicle = record { program = c.cat.inside.program; cap = c.cat.inside.cap; history = c.cat.inside.history.list; kept = kept_of c.cat.inside.state } in
    let starts = statement_starts chronicle _ _ _ c.args.session c.args.index c.args.statement.now c.begin_statement-started.result c.cat.invariant next can c.begin_statement-started.ensures in
    let longer = c.push.ensures.entries ∙ ap (λ e. c.cat.inside.history.list ++ e ∷ [])
    (c.session_entry-entry.ensures ∙ ap (λ (t : Told). entry_at c.cat.inside.state.moment c.args.session c.args.index (kind.Start t)) c.tell_start-told.ensures.told
    ∙ ap (λ m. entry_at m c.args.session c.args.index (kind.Start (told_by c.begin_statement-started.result))) c.cat.invariant.sessions.moment) in
    let went = subst (λ (k : Kept). GoesOn chronicle chronicle.kept k (entry_at (store_of chronicle).moment c.args.session c.args.index (kind.Start (told_by c.begin_statement-started.result))) starts.after (reply_to_start c.begin_statement-started.result)) (sym c.tell_start-told.ensures.kept) starts.goes in
    let new : Chronicle = record { program = c.cat.inside.program; cap = c.cat.inside.cap; history = c.push.new.self.list; kept = kept_of c.tell_start-told.new.state } in
    let stands = subst (λ (k : Kept). StandsFor new k c.push.new.self.room) c.tell_start-told.ensures.kept (goes_on _ _ _ _ _ _ _ _ _ c.cat.invariant went longer c.push.ensures.room) in
    starts.gives c.push.new.self.list _ (kept_of c.tell_start-told.new.state) stands (store_then chronicle _ _ _ _ _ _ went longer)

pub returns-clause-typed : goal.returns-clause-typed
returns-clause-typed c =
    let next = subst (λ (b : Chronicle). IsNextRead b c.args.session c.args.index (Ok c.args.statement.now)) (sym c.cat.view_is) c.requires.next in
    let can = can_start _ _ _ c.args.statement.now c.requires.kind (is_next _ _ _ _ _ next).said in
    let chronicle : Chronicle = record { program = c.cat.inside.program; cap = c.cat.inside.cap; history = c.cat.inside.history.list; kept = kept_of c.cat.inside.state } in
    (statement_starts chronicle _ _ _ c.args.session c.args.index c.args.statement.now c.begin_statement-started.result c.cat.invariant next can c.begin_statement-started.ensures).typed

pub returns-clause-tables : goal.returns-clause-tables
returns-clause-tables c =
    let next = subst (λ (b : Chronicle). IsNextRead b c.args.session c.args.index (Ok c.args.statement.now)) (sym c.cat.view_is) c.requires.next in
    let can = can_start _ _ _ c.args.statement.now c.requires.kind (is_next _ _ _ _ _ next).said in
    let chronicle : Chronicle = record { program = c.cat.inside.program; cap = c.cat.inside.cap; history = c.cat.inside.history.list; kept = kept_of c.cat.inside.state } in
    (statement_starts chronicle _ _ _ c.args.session c.args.index c.args.statement.now c.begin_statement-started.result c.cat.invariant next can c.begin_statement-started.ensures).tables
