use Rattle.std.proofs.Common.{◌≡◌, ◌∙◌, ◌-◌, ℕ, ℤ, suc, List, [], ◌∷◌, ◌++◌, map, refl, sym, ap, arith}
use Rattle.std.proofs.lemmas.Result.{err_from_is_err_and}
use Rattle.tt_sql.specs.grammar.Grammar.{Way, Mark, At, Meant}
use Rattle.tt_sql.specs.marks.Expressions.{expr_marks, factor_marks, addend_marks, repeated}
use Rattle.tt_sql.proofs.marks.Expressions.{marks-Expr, marks-Term, marks-Addend, marks-Literal, marks-Bracket, marks-Negated}
use Rattle.tt_terminal.proofs.Pairs.{pair_first, pair_holds, pair_reads}
use Rattle.tt_terminal.proofs.Steps.{marks_are, passes_as, passes_both, passes_left, passes_right, passes_ways, passes_word, takes_kind, word_kind_is, stops_right, stops_first, stops_second, reads_as, collected_all, collected_push, collected_fails, error_as, stops_word, stops_left, stops_again, stops_here, stops_note, passes_again, passes_at, passes_at_both, passes_way, passes_token, passes_note, passes_anywhere, placed_kind_is, is_of_one}
use Rattle.tt_terminal.proofs.Numbers.{passes_number, passes_negative}
use Rattle.tt_phrase.proofs.Factors.{other_simple, other_last, stops_last, other_nested, stops_nested}
use Rattle.tt_terminal.proofs.Literals.{same_negative}
use Rattle.tt_phrase.specs.Factors.{nested, IsNoSimple}
use Rattle.tt_terminal.specs.Reading.{Fails, first_place}
use Rattle.tt_sql.specs.trees.Lists.{Each}
use Rattle.tt_sql.specs.determined.Expressions.{IsGivenAddend, IsGivenFactor}
use Rattle.tt_phrase.proofs.GivenTrees.{each_push, given_addend, given_bracket, given_expr, given_literal, given_negated, given_term}
use Rattle.tt_phrase.proofs.expression.+expressions.Goals as goal

pub expr_of-returns-clause-reads : goal.expr_of-returns-clause-reads
expr_of-returns-clause-reads t c = rw (pair_first _ _ _ c.in_ok-head.ensures) (marks_are (marks-Expr _ _) (passes_both c.in_ok-first.ensures.reads (pair_reads _ _ _ (λ x. repeated (map addend_marks x.0)) _ _ c.in_ok-head.ensures c.addends_of.ensures.reads)))

pub expr_of-returns-in_err-first-clause-reads : goal.expr_of-returns-in_err-first-clause-reads
expr_of-returns-in_err-first-clause-reads t c =
    let p = err_from_is_err_and c.from_residual.result c.from_residual.ensures.1 in
    rw (p.1, p.2) (error_as c.in_err-first.field-0.0 (λ at f. stops_first f) c.in_err-first.ensures.reads)

pub expr_of-returns-in_err-head-clause-reads : goal.expr_of-returns-in_err-head-clause-reads
expr_of-returns-in_err-head-clause-reads t c =
    let p = err_from_is_err_and c.from_residual-in_err-head.result c.from_residual-in_err-head.ensures.1 in
    rw (p.1, p.2) (error_as c.in_err-head.field-0.0 (λ at f. stops_second c.in_ok-first.ensures.reads f) (pair_reads _ _ _ (λ x. repeated (map addend_marks x.0)) _ _ c.in_err-head.ensures c.addends_of.ensures.reads))

pub term_of-returns-clause-reads : goal.term_of-returns-clause-reads
term_of-returns-clause-reads t c = rw (pair_first _ _ _ c.in_ok-head.ensures) (marks_are (marks-Term _ _) (passes_both c.in_ok-first.ensures.reads (pair_reads _ _ _ (λ x. repeated (map factor_marks x.0)) _ _ c.in_ok-head.ensures c.factors_of.ensures.reads)))

pub term_of-returns-in_err-first-clause-reads : goal.term_of-returns-in_err-first-clause-reads
term_of-returns-in_err-first-clause-reads t c =
    let p = err_from_is_err_and c.from_residual.result c.from_residual.ensures.1 in
    rw (p.1, p.2) (error_as c.in_err-first.field-0.0 (λ at f. stops_first f) c.in_err-first.ensures.reads)

pub term_of-returns-in_err-head-clause-reads : goal.term_of-returns-in_err-head-clause-reads
term_of-returns-in_err-head-clause-reads t c =
    let p = err_from_is_err_and c.from_residual-in_err-head.result c.from_residual-in_err-head.ensures.1 in
    rw (p.1, p.2) (error_as c.in_err-head.field-0.0 (λ at f. stops_second c.in_ok-first.ensures.reads f) (pair_reads _ _ _ (λ x. repeated (map factor_marks x.0)) _ _ c.in_err-head.ensures c.factors_of.ensures.reads))

pub factor_of-returns-in-Some-clause-reads : goal.factor_of-returns-in-Some-clause-reads
factor_of-returns-in-Some-clause-reads t c = marks_are (marks-Literal _ ∙ ap (λ (x : List Mark). x ++ Way 0 ∷ []) c.whole_literal.ensures.marks)
    (passes_left (takes_kind c.in-Some.ensures.takes) (rw c.in-Some.ensures.kind refl) refl (passes_both (passes_number c.in-Some.ensures) (passes_ways 1 0 c.in-Some.ensures.takes.known)))

pub factor_of-returns-clause-reads : goal.factor_of-returns-clause-reads
factor_of-returns-clause-reads t c = reads_as (λ x. factor_marks x.0) (λ x. x.1) c.other_of.result (λ m s p. passes_right (rw c.in_default.ensures refl) refl p) (λ at f. stops_right (rw c.in_default.ensures refl) refl f) c.other_of.ensures.reads

pub factors_of-returns-in_err-factor-clause-reads : goal.factors_of-returns-in_err-factor-clause-reads
factors_of-returns-in_err-factor-clause-reads t c =
    let p = err_from_is_err_and c.from_residual.result c.from_residual.ensures.1 in
    rw (p.1, p.2) (error_as c.in_err-factor.field-0.0 (λ at f. collected_fails c.loop-behind.invariant.reads (word_kind_is c.in-Some.ensures) refl refl (stops_word c.in-Some.ensures f)) c.in_err-factor.ensures.reads)

pub factors_of-loop-behind-preserved : goal.factors_of-loop-behind-preserved
factors_of-loop-behind-preserved t c = record {
  reads = collected_push factor_marks c.loop-behind.factors c.push.new.self c.in_ok-factor.factor c.in_ok-push.ensures.ok c.loop-behind.invariant.reads (word_kind_is c.in-Some.ensures) refl refl (passes_word c.in-Some.ensures c.in_ok-factor.ensures.reads);
  given = each_push IsGivenFactor c.loop-behind.factors c.push.new.self c.in_ok-factor.factor c.in_ok-push.ensures.ok c.loop-behind.invariant.given c.in_ok-factor.ensures.given;
}

pub factors_of-returns-clause-reads : goal.factors_of-returns-clause-reads
factors_of-returns-clause-reads t c = collected_all c.loop-behind.invariant.reads (rw c.in_default.ensures refl)

pub addends_of-returns-in_err-term-clause-reads : goal.addends_of-returns-in_err-term-clause-reads
addends_of-returns-in_err-term-clause-reads t c =
    let p = err_from_is_err_and c.from_residual.result c.from_residual.ensures.1 in
    rw (p.1, p.2) (error_as c.in_err-term.field-0.0 (λ at f. collected_fails c.loop-sign.invariant.reads c.in-Some.ensures.kind_is (rw c.in-Some.ensures.begins_here refl) refl (stops_second c.in-Some.ensures.passes f)) c.in_err-term.ensures.reads)

pub addends_of-loop-sign-smaller : goal.addends_of-loop-sign-smaller
addends_of-loop-sign-smaller t c = let a = c.in-Some.ensures.shorter in let b = c.in_ok-term.ensures.reads.shorter in omega (arith, a, b)

pub addends_of-loop-sign-preserved : goal.addends_of-loop-sign-preserved
addends_of-loop-sign-preserved t c = record {
  reads = collected_push addend_marks c.loop-sign.addends c.push.new.self _ c.in_ok-push.ensures.ok c.loop-sign.invariant.reads c.in-Some.ensures.kind_is (rw c.in-Some.ensures.begins_here refl) refl (marks_are (marks-Addend _ _) (passes_both c.in-Some.ensures.passes c.in_ok-term.ensures.reads));
  given = each_push IsGivenAddend c.loop-sign.addends c.push.new.self _ c.in_ok-push.ensures.ok c.loop-sign.invariant.given (given_addend _ _ c.in_ok-term.ensures.given);
}

pub addends_of-returns-clause-reads : goal.addends_of-returns-clause-reads
addends_of-returns-clause-reads t c = collected_all c.loop-sign.invariant.reads (rw c.in_default.ensures refl)

pub nested_of-returns-in_err-expr-clause-reads : goal.nested_of-returns-in_err-expr-clause-reads
nested_of-returns-in_err-expr-clause-reads t c =
    let p = err_from_is_err_and c.from_residual.result c.from_residual.ensures.1 in
    rw (p.1, p.2) (error_as c.in_err-expr.field-0.0 (λ at f. stops_left (placed_kind_is c.in-Some.ensures) refl refl (stops_second (passes_at c.in-Some.ensures) (stops_first (stops_again f)))) c.in_err-expr.ensures.reads)

pub nested_of-returns-in_err-whole-clause-reads : goal.nested_of-returns-in_err-whole-clause-reads
nested_of-returns-in_err-whole-clause-reads t c =
    let p = err_from_is_err_and c.from_residual-in_err-whole.result c.from_residual-in_err-whole.ensures.1 in
    rw (p.1, p.2) (error_as c.in_err-whole.field-0.0 (λ at f. stops_left (placed_kind_is c.in-Some.ensures) refl refl (stops_second (passes_at c.in-Some.ensures) (stops_second (passes_again c.in_ok-expr.ensures.reads) (stops_first f)))) c.in_err-whole.ensures.reads)

pub nested_of-returns-in-Some-clause-reads : goal.nested_of-returns-in-Some-clause-reads
nested_of-returns-in-Some-clause-reads t c = marks_are (marks-Bracket _ _ ∙ ap (λ x. At c.in-Some.place ∷ (expr_marks x ++ Way 2 ∷ [])) (c.in_ok-new.ensures ∙ c.in_ok-whole.ensures.kept))
    (passes_left (placed_kind_is c.in-Some.ensures) refl refl (passes_at_both c.in-Some.ensures (passes_both (passes_again c.in_ok-expr.ensures.reads) (passes_as c.in_ok-whole.ensures.reads))))

pub nested_of-returns-in_default-placed-clause-reads : goal.nested_of-returns-in_default-placed-clause-reads
nested_of-returns-in_default-placed-clause-reads t c =
    let fails : Fails [] (nested c.args.levels) c.args.rest (first_place c.args.rest) = stops_here (rw (c.in_default.ensures, c.in_default-placed.ensures) refl) refl in
    rw c.fault.ensures fails

pub nested_of-returns-in-Some-optional_negative-clause-reads : goal.nested_of-returns-in-Some-optional_negative-clause-reads
nested_of-returns-in-Some-optional_negative-clause-reads t c = marks_are (marks-Literal _ ∙ ap (λ (x : List Mark). x ++ Way 0 ∷ []) (c.int_literal.ensures.marks ∙ ap (λ (x : ℤ). Meant x c.in-Some-placed.place ∷ Way 1 ∷ []) (same_negative c.in-Some-optional_negative.ensures)))
    (passes_right (rw c.in_default.ensures refl) refl (passes_token c.in-Some-placed.ensures.word.takes (is_of_one c.in-Some-placed.ensures.word.kind)
    (passes_left (takes_kind c.in-Some-optional_negative.ensures.takes) (rw c.in-Some-optional_negative.ensures.kind refl) refl
    (marks_are (ap (λ (x : ℕ). Meant c.in-Some-optional_negative.number x ∷ Way 1 ∷ Way 0 ∷ []) (sym c.in-Some-placed.ensures.place_is))
    (passes_both (passes_negative c.in-Some-optional_negative.ensures) (passes_ways 1 0 c.in-Some-optional_negative.ensures.takes.known))))))

pub nested_of-returns-in_err-factor-clause-reads : goal.nested_of-returns-in_err-factor-clause-reads
nested_of-returns-in_err-factor-clause-reads t c =
    let p = err_from_is_err_and c.from_residual-in_err-factor.result c.from_residual-in_err-factor.ensures.1 in
    rw (p.1, p.2) (error_as c.in_err-factor.field-0.0 (λ at f. stops_right (rw c.in_default.ensures refl) refl (stops_word c.in-Some-placed.ensures.word (stops_right (rw c.in_default-optional_negative.ensures refl) refl (stops_note (stops_first (stops_again f)))))) c.in_err-factor.ensures.reads)

pub nested_of-returns-clause-reads : goal.nested_of-returns-clause-reads
nested_of-returns-clause-reads t c = marks_are (marks-Negated _ _ ∙ ap (λ x. At c.in-Some-placed.place ∷ (factor_marks x ++ Way 3 ∷ [])) c.in_ok-new-2.ensures)
    (passes_right (rw c.in_default.ensures refl) refl (passes_token c.in-Some-placed.ensures.word.takes (is_of_one c.in-Some-placed.ensures.word.kind)
    (passes_right (rw c.in_default-optional_negative.ensures refl) refl
    (passes_note (λ done. ap (λ (x : ℕ). At x ∷ []) c.in-Some-placed.ensures.place_is) (passes_both (passes_anywhere (passes_again c.in_ok-factor.ensures.reads)) (passes_way c.in_ok-factor.ensures.reads.known))))))

pub other_of-returns-in-Some-clause-reads : goal.other_of-returns-in-Some-clause-reads
other_of-returns-in-Some-clause-reads t c = other_simple c.args.levels (rw c.in-Some.is at c.in_ok-factor.ensures.reads)

pub other_of-returns-then-levels-eq0-clause-reads : goal.other_of-returns-then-levels-eq0-clause-reads
other_of-returns-then-levels-eq0-clause-reads t c =
    let no : IsNoSimple c.args.rest = rw c.in_default.is at c.in_ok-factor.ensures.reads in
    rw c.if-levels-eq0.true (reads_as (λ x. factor_marks x.0) (λ x. x.1) c.last_minus_of.result (λ m s p. other_last no p) (λ at f. stops_last no f) c.last_minus_of.ensures.reads)

pub other_of-returns-clause-reads : goal.other_of-returns-clause-reads
other_of-returns-clause-reads t c =
    let no : IsNoSimple c.args.rest = rw c.in_default.is at c.in_ok-factor.ensures.reads in
    let e : c.args.levels ≡ suc (c.args.levels - 1) = omega arith in
    rw e (reads_as (λ x. factor_marks x.0) (λ x. x.1) c.nested_of.result (λ m s p. other_nested no p) (λ at f. stops_nested no f) c.nested_of.ensures.reads)

-- ---- what is given

pub expr_of-returns-clause-given : goal.expr_of-returns-clause-given
expr_of-returns-clause-given t c = rw (pair_first _ _ _ c.in_ok-head.ensures) (given_expr _ _ c.in_ok-first.ensures.given (pair_holds _ _ _ (λ x. Each IsGivenAddend x.0) c.in_ok-head.ensures c.addends_of.ensures.given))

pub term_of-returns-clause-given : goal.term_of-returns-clause-given
term_of-returns-clause-given t c = rw (pair_first _ _ _ c.in_ok-head.ensures) (given_term _ _ c.in_ok-first.ensures.given (pair_holds _ _ _ (λ x. Each IsGivenFactor x.0) c.in_ok-head.ensures c.factors_of.ensures.given))

pub factor_of-returns-in-Some-clause-given : goal.factor_of-returns-in-Some-clause-given
factor_of-returns-in-Some-clause-given t c = given_literal _ c.whole_literal.ensures.given

pub nested_of-returns-in-Some-clause-given : goal.nested_of-returns-in-Some-clause-given
nested_of-returns-in-Some-clause-given t c = given_bracket _ _ (rw (c.in_ok-new.ensures, c.in_ok-whole.ensures.kept) c.in_ok-expr.ensures.given)

pub nested_of-returns-in-Some-optional_negative-clause-given : goal.nested_of-returns-in-Some-optional_negative-clause-given
nested_of-returns-in-Some-optional_negative-clause-given t c = given_literal _ c.int_literal.ensures.given

pub nested_of-returns-clause-given : goal.nested_of-returns-clause-given
nested_of-returns-clause-given t c = given_negated _ _ (rw c.in_ok-new-2.ensures c.in_ok-factor.ensures.given)

pub other_of-returns-in-Some-clause-given : goal.other_of-returns-in-Some-clause-given
other_of-returns-in-Some-clause-given t c = rw c.in-Some.is at c.in_ok-factor.ensures.given
