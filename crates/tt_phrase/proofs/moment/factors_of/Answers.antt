use Rattle.std.proofs.Common.{refl}
use Rattle.tt_terminal.proofs.Steps.{passes_both, passes_left, passes_right, passes_as, passes_word, passes_way, passes_note, stops_first, stops_second, stops_left, stops_word, stops_note, word_kind_is}
use Rattle.tt_terminal.proofs.Exits.{exits, within}
use Rattle.tt_phrase.proofs.moment.factors_of.Goals as goal

pub returns-in_err-first-clause-reads : goal.returns-in_err-first-clause-reads
returns-in_err-first-clause-reads c = exits _ _ _ _ _ _ c.from_residual.result c.from_residual.ensures.1 (within (λ at f. stops_first f) _ c.in_err-first.ensures)

pub returns-in_default-clause-reads : goal.returns-in_default-clause-reads
returns-in_default-clause-reads c = rw (c.in_ok-push.ensures.ok, c.new-factors.ensures) (passes_both c.in_ok-first.ensures (passes_right (rw c.in_default.ensures refl) refl (passes_way c.in_ok-first.ensures.known)))

pub returns-in_err-second-clause-reads : goal.returns-in_err-second-clause-reads
returns-in_err-second-clause-reads c = exits _ _ _ _ _ _ c.from_residual-in_err-second.result c.from_residual-in_err-second.ensures.1 (within (λ at f. stops_second c.in_ok-first.ensures (stops_left (word_kind_is c.in-Some.ensures) refl refl (stops_note (stops_word c.in-Some.ensures (stops_first f))))) _ c.in_err-second.ensures)

pub returns-in_default-word-clause-reads : goal.returns-in_default-word-clause-reads
returns-in_default-word-clause-reads c = rw (c.in_ok-push-2.ensures.ok, c.in_ok-push.ensures.ok, c.new-factors.ensures) (passes_both c.in_ok-first.ensures (passes_left (word_kind_is c.in-Some.ensures) refl refl (passes_note (λ done. refl) (passes_word c.in-Some.ensures (passes_both c.in_ok-second.ensures (passes_right (rw c.in_default-word.ensures refl) refl (passes_way c.in_ok-second.ensures.known)))))))

pub returns-in_err-third-clause-reads : goal.returns-in_err-third-clause-reads
returns-in_err-third-clause-reads c = exits _ _ _ _ _ _ c.from_residual-in_err-third.result c.from_residual-in_err-third.ensures.1 (within (λ at f. stops_second c.in_ok-first.ensures (stops_left (word_kind_is c.in-Some.ensures) refl refl (stops_note (stops_word c.in-Some.ensures (stops_second c.in_ok-second.ensures (stops_left (word_kind_is c.in-Some-word.ensures) refl refl (stops_note (stops_word c.in-Some-word.ensures (stops_first f))))))))) _ c.in_err-third.ensures)

pub returns-clause-reads : goal.returns-clause-reads
returns-clause-reads c = rw (c.in_ok-push-3.ensures.ok, c.in_ok-push-2.ensures.ok, c.in_ok-push.ensures.ok, c.new-factors.ensures) (passes_both c.in_ok-first.ensures (passes_left (word_kind_is c.in-Some.ensures) refl refl (passes_note (λ done. refl) (passes_word c.in-Some.ensures (passes_both c.in_ok-second.ensures (passes_left (word_kind_is c.in-Some-word.ensures) refl refl (passes_note (λ done. refl) (passes_word c.in-Some-word.ensures (passes_as c.in_ok-third.ensures)))))))))
