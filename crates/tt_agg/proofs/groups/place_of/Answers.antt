use Rattle.std.proofs.Common.{sym, ◌∙◌}
use Rattle.tt_agg.proofs.Grouping.{kept_places, new_places}
use Rattle.tt_agg.proofs.groups.place_of.Goals as goal

pub returns-in-Some-clause-place : goal.returns-in-Some-clause-place
returns-in-Some-clause-place c keys has is = (kept_places keys c.args.found.now c.args.key c.in-Some.place has (sym c.known.ensures ∙ c.in-Some.is)).0

pub returns-in-Some-clause-found : goal.returns-in-Some-clause-found
returns-in-Some-clause-found c keys has is = (kept_places keys c.args.found.now c.args.key c.in-Some.place has (sym c.known.ensures ∙ c.in-Some.is)).1

pub returns-in_ok-insert-in-None-clause-place : goal.returns-in_ok-insert-in-None-clause-place
returns-in_ok-insert-in-None-clause-place c keys has is =
    (new_places keys c.args.found.now c.insert.new.self c.args.key c.args.next has is (sym c.known.ensures ∙ c.in-None.is) (c.in_ok-insert-in-None.ensures.updates.0)).0

pub returns-in_ok-insert-in-None-clause-found : goal.returns-in_ok-insert-in-None-clause-found
returns-in_ok-insert-in-None-clause-found c keys has is =
    (new_places keys c.args.found.now c.insert.new.self c.args.key c.args.next has is (sym c.known.ensures ∙ c.in-None.is) (c.in_ok-insert-in-None.ensures.updates.0)).1
