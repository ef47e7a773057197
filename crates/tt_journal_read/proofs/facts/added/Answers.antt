use Rattle.std.specs.Option.{option_copied}
use Rattle.std.proofs.Common.{ap, sym, ◌∙◌}
use Rattle.tt_journal_read.specs.steps.Reading.{added_by}
use Rattle.tt_journal_read.proofs.Loops.{added_ends, added_goes, added_stops}
use Rattle.tt_journal_read.proofs.facts.added.Goals as goal

pub returns-in_default-added_by : goal.returns-in_default-added_by
returns-in_default-added_by c =
    sym c.loop-left.invariant ∙ added_stops c.loop-left.parts (option_copied c.loop-left.left) c.in-Some.fields.now (ap option_copied c.in-Some.is) (c.in_default-added_by.ensures ∙ ap added_by c.cut.ensures.front)

pub loop-left-preserved : goal.loop-left-preserved
loop-left-preserved c =
    added_goes c.loop-left.parts c.push.new.self c.in-Some-added_by.part (option_copied c.loop-left.left) (option_copied c.cut.result.1) c.in-Some.fields.now c.in_ok-push.ensures.ok
    (ap option_copied c.in-Some.is) (c.in-Some-added_by.ensures ∙ ap added_by c.cut.ensures.front) c.cut.ensures.behind
    ∙ c.loop-left.invariant

pub returns : goal.returns
returns c = sym c.loop-left.invariant ∙ added_ends c.loop-left.parts (option_copied c.loop-left.left) (ap option_copied c.in_default.is)
