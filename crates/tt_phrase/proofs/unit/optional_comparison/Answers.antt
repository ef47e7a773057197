use Rattle.std.proofs.Common.{refl}
use Rattle.tt_phrase.proofs.Operands.{offers_word}
use Rattle.tt_terminal.proofs.Steps.{passes_as, passes_last_word, passes_left, passes_right, word_kind_is}
use Rattle.tt_phrase.proofs.unit.optional_comparison.Goals as goal

pub returns-in-Some : goal.returns-in-Some
returns-in-Some c = offers_word c.in-Some.ensures refl (passes_left (word_kind_is c.in-Some.ensures) refl refl (passes_as (passes_last_word c.in-Some.ensures)))

pub returns-in-Some-word : goal.returns-in-Some-word
returns-in-Some-word c = let k = word_kind_is c.in-Some-word.ensures in offers_word c.in-Some-word.ensures refl
    (passes_right (rw k refl) refl (passes_left k refl refl (passes_as (passes_last_word c.in-Some-word.ensures))))

pub returns-in-Some-word-2 : goal.returns-in-Some-word-2
returns-in-Some-word-2 c = let k = word_kind_is c.in-Some-word-2.ensures in offers_word c.in-Some-word-2.ensures refl
    (passes_right (rw k refl) refl (passes_right (rw k refl) refl (passes_left k refl refl (passes_as (passes_last_word c.in-Some-word-2.ensures)))))

pub returns-in-Some-word-3 : goal.returns-in-Some-word-3
returns-in-Some-word-3 c = let k = word_kind_is c.in-Some-word-3.ensures in offers_word c.in-Some-word-3.ensures refl
    (passes_right (rw k refl) refl (passes_right (rw k refl) refl (passes_right (rw k refl) refl (passes_left k refl refl (passes_as (passes_last_word c.in-Some-word-3.ensures))))))

pub returns-in-Some-word-4 : goal.returns-in-Some-word-4
returns-in-Some-word-4 c = let k = word_kind_is c.in-Some-word-4.ensures in offers_word c.in-Some-word-4.ensures refl
    (passes_right (rw k refl) refl (passes_right (rw k refl) refl (passes_right (rw k refl) refl (passes_right (rw k refl) refl (passes_left k refl refl (passes_as (passes_last_word c.in-Some-word-4.ensures)))))))

pub returns : goal.returns
returns c = let k = word_kind_is c.in_ok-behind.ensures in offers_word c.in_ok-behind.ensures refl
    (passes_right (rw k refl) refl (passes_right (rw k refl) refl (passes_right (rw k refl) refl (passes_right (rw k refl) refl (passes_right (rw k refl) refl (passes_as (passes_last_word c.in_ok-behind.ensures)))))))
