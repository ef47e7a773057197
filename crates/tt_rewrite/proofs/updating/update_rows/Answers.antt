use Rattle.std.proofs.Common.{subst, sym}
use Rattle.tt_rewrite.specs.Updates.{KeepsFit}
use Rattle.tt_rewrite.proofs.NewFits.{keeps_fit}
use Rattle.tt_rewrite.proofs.Renews.{if_err, if_ok}
use Rattle.tt_rewrite.proofs.Updated.{are_given, none_given, refused, same_made, updates, within}
use Rattle.tt_rewrite.proofs.updating.update_rows.Goals as goal

pub renewed_of-requires-clause-keeps : goal.renewed_of-requires-clause-keeps
renewed_of-requires-clause-keeps c =
    let made = same_made c.args.seen.now c.args.update.now c.requires.updates _ c.as_slice-sets.result.now c.tables_of.ensures c.as_slice-sets.ensures in
    subst (KeepsFit c.args.seen.now.schema) (sym made) (keeps_fit c.args.seen.now c.args.update.now c.requires.updates)

pub returns-in-None-clause-refused : goal.returns-in-None-clause-refused
returns-in-None-clause-refused c =
    let made = same_made c.args.seen.now c.args.update.now c.requires.updates _ c.as_slice-sets.result.now c.tables_of.ensures c.as_slice-sets.ensures in
    none_given c.args.seen.now c.args.update.now c.requires.updates _ c.in_ok-renewed_of.field-0 made c.in-None.is c.in_ok-renewed_of.ensures.renewed

pub built-requires-clause-missing : goal.built-requires-clause-missing
built-requires-clause-missing c =
    let made = same_made c.args.seen.now c.args.update.now c.requires.updates _ c.as_slice-sets.result.now c.tables_of.ensures c.as_slice-sets.ensures in
    let are = are_given c.args.seen.now c.args.update.now c.requires.updates _ c.in_ok-renewed_of.field-0 c.in-Some.renewed made c.in-Some.is c.in_ok-renewed_of.ensures.renewed in
    within c.args.seen.now c.args.update.now c.requires.updates c.in-Some.renewed are

pub returns-clause-built : goal.returns-clause-built
returns-clause-built c =
    let made = same_made c.args.seen.now c.args.update.now c.requires.updates _ c.as_slice-sets.result.now c.tables_of.ensures c.as_slice-sets.ensures in
    let are = are_given c.args.seen.now c.args.update.now c.requires.updates _ c.in_ok-renewed_of.field-0 c.in-Some.renewed made c.in-Some.is c.in_ok-renewed_of.ensures.renewed in
    if_ok c.built.result (λ built is. updates c.args.seen.now c.args.update.now c.requires.updates c.in-Some.renewed are c.args.cap built is) c.built.ensures.built

pub returns-clause-refused : goal.returns-clause-refused
returns-clause-refused c =
    let made = same_made c.args.seen.now c.args.update.now c.requires.updates _ c.as_slice-sets.result.now c.tables_of.ensures c.as_slice-sets.ensures in
    let are = are_given c.args.seen.now c.args.update.now c.requires.updates _ c.in_ok-renewed_of.field-0 c.in-Some.renewed made c.in-Some.is c.in_ok-renewed_of.ensures.renewed in
    if_err c.built.result (λ error is. refused c.args.seen.now c.args.update.now c.requires.updates c.in-Some.renewed are error is) c.built.ensures.refused
