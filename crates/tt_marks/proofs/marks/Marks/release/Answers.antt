use Rattle.std.proofs.Common.{not, nat_eq, rules, subst, sym, ap, ◌∙◌}
use Rattle.std.proofs.lemmas.Fn.{filter_same}
use Rattle.tt_marks.specs.Marks.{IsMarks}
use Rattle.tt_marks.specs.Changes.{released}
use Rattle.tt_marks.proofs.Laws.{IsMarks-released}
use Rattle.tt_marks.proofs.marks.Marks.release.Goals as goal

pub invariant_of-self : goal.invariant_of-self
invariant_of-self c =
    subst IsMarks
    (sym (filter_same _ (λ m. not (nat_eq m.session c.args.session)) _ (λ x b f' k. search rules) _ _ c.retain.ensures.filtered))
    (IsMarks-released c.args.session c.self.inside.marks.items c.self.invariant)

pub returns-clause-marks : goal.returns-clause-marks
returns-clause-marks c =
    filter_same _ (λ m. not (nat_eq m.session c.args.session)) _ (λ x b f' k. search rules) _ _ c.retain.ensures.filtered
    ∙ ap (λ v. released c.args.session v.list) c.self.view_is
