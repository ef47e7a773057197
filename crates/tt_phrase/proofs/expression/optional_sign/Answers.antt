use Rattle.std.proofs.Common.{refl}
use Rattle.tt_terminal.proofs.Steps.{word_kind_is, passes_left, passes_right, passes_as, passes_last_word, word_shorter}
use Rattle.tt_phrase.proofs.expression.optional_sign.Goals as goal

pub returns-in-Some : goal.returns-in-Some
returns-in-Some c = record {
  kind = 97;
  kind_is = word_kind_is c.in-Some.ensures;
  begins_here = refl;
  shorter = word_shorter c.in-Some.ensures;
  passes = passes_left (word_kind_is c.in-Some.ensures) refl refl (passes_as (passes_last_word c.in-Some.ensures));
}

pub returns : goal.returns
returns c = record {
  kind = 98;
  kind_is = word_kind_is c.in_ok-behind.ensures;
  begins_here = refl;
  shorter = word_shorter c.in_ok-behind.ensures;
  passes = passes_right (rw c.in_default.ensures refl) refl (passes_as (passes_last_word c.in_ok-behind.ensures));
}
