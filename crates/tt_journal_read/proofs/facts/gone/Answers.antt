use Rattle.std.specs.Option.{option_copied}
use Rattle.std.specs.Prelude.{List, ℕ, ◌++◌, ◌∷◌}
use Rattle.std.proofs.Common.{ap, sym, ◌∙◌}
use Rattle.tt_journal_read.specs.steps.Reading.{fields_in, gone_of, signed_number}
use Rattle.tt_journal_read.proofs.Loops.{gone_done, gone_ends, gone_goes, gone_stops, one_behind}
use Rattle.tt_journal_read.proofs.facts.gone.Goals as goal

pub returns-in_default-signed_number : goal.returns-in_default-signed_number
returns-in_default-signed_number c =
    gone_done c.loop-left.numbers (fields_in (option_copied c.loop-left.left)) (gone_of (fields_in (option_copied c.args.facts)))
    (gone_stops (option_copied c.loop-left.left) c.in-Some.fields.now (ap option_copied c.in-Some.is) (c.in_default-signed_number.ensures ∙ ap (signed_number 45) c.cut.ensures.front))
    c.loop-left.invariant.numbers c.loop-left.invariant.rest

pub loop-left-preserved : goal.loop-left-preserved
loop-left-preserved c =
    let goes = gone_goes (option_copied c.loop-left.left) c.in-Some.fields.now c.in-Some-signed_number.number (ap option_copied c.in-Some.is) (c.in-Some-signed_number.ensures ∙ ap (signed_number 45) c.cut.ensures.front) in
    let after = ap (λ o. gone_of (fields_in o)) c.cut.ensures.behind in
    record {
      numbers = one_behind c.loop-left.numbers c.push.new.self c.in-Some-signed_number.number _ c.in_ok-push.ensures.ok
          ∙ (ap (λ (r : List ℕ × List (List ℕ)). c.loop-left.numbers ++ c.in-Some-signed_number.number ∷ r.0) after
          ∙ (ap (λ (r : List ℕ × List (List ℕ)). c.loop-left.numbers ++ r.0) (sym goes) ∙ c.loop-left.invariant.numbers));
      rest = ap (λ (r : List ℕ × List (List ℕ)). r.1) after ∙ (ap (λ (r : List ℕ × List (List ℕ)). r.1) (sym goes) ∙ c.loop-left.invariant.rest);
    }

pub returns : goal.returns
returns c =
    gone_done c.loop-left.numbers (fields_in (option_copied c.loop-left.left)) (gone_of (fields_in (option_copied c.args.facts)))
    (gone_ends (option_copied c.loop-left.left) (ap option_copied c.in_default.is)) c.loop-left.invariant.numbers c.loop-left.invariant.rest
