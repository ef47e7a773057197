use Rattle.std.specs.Prelude.{List, Option, ℕ}
use Rattle.std.proofs.Common.{ap, sym, ◌∙◌}
use Rattle.tt_journal_read.proofs.Fields.{cut_past, cut_some}
use Rattle.tt_journal_read.proofs.parts.cut.Goals as goal

pub returns-in-Some-clause-front : goal.returns-in-Some-clause-front
returns-in-Some-clause-front c = c.split_at.ensures.front ∙ (cut_some c.args.mark c.args.bytes.now c.in-Some.place (sym c.in-Some.ensures.place)).0

pub returns-in-Some-clause-behind : goal.returns-in-Some-clause-behind
returns-in-Some-clause-behind c = rw c.split_at-in-Some.ensures.back (cut_some c.args.mark c.args.bytes.now c.in-Some.place (sym c.in-Some.ensures.place)).1

pub returns-in-None-clause-front : goal.returns-in-None-clause-front
returns-in-None-clause-front c = sym (ap (λ (parts : List ℕ × Option (List ℕ)). parts.0) (cut_past c.args.mark c.args.bytes.now (sym c.in-None.ensures.place)))

pub returns-in-None-clause-behind : goal.returns-in-None-clause-behind
returns-in-None-clause-behind c = sym (ap (λ (parts : List ℕ × Option (List ℕ)). parts.1) (cut_past c.args.mark c.args.bytes.now (sym c.in-None.ensures.place)))
