use Rattle.std.proofs.Common.{length, sym, ap, ◌∙◌, arith}
use Rattle.std.specs.Char.{is_ascii_digit}
use Rattle.std.proofs.lemmas.List.Sums.{prefix_len-le-length}
use Rattle.tt_lex.specs.Lexis.{is_word_part, is_line_byte}
use Rattle.tt_lex.specs.answer.Fronts.{takes_white, takes_word, takes_number, takes_line}
use Rattle.tt_lex.proofs.scan.front_of.Goals as goal

pub returns-then-is_white-clause-piece : goal.returns-then-is_white-clause-piece
returns-then-is_white-clause-piece c = takes_white _ _ _ c.in-Some.ensures.cases.0 (sym c.is_white.ensures ∙ c.if-is_white.true)

pub overflow_add-length : goal.overflow_add-length
overflow_add-length c = omega (arith, prefix_len-le-length is_word_part c.in-Some.more.now, c.in-Some.ensures.cases.1)

pub returns-then-is_word_start-clause-piece : goal.returns-then-is_word_start-clause-piece
returns-then-is_word_start-clause-piece c = takes_word _ _ _ _ c.in-Some.ensures.cases.0 (sym c.is_word_start.ensures ∙ c.if-is_word_start.true) c.word_length-length.ensures

pub overflow_add-length-then-is_ascii_digit : goal.overflow_add-length-then-is_ascii_digit
overflow_add-length-then-is_ascii_digit c = omega (arith, prefix_len-le-length is_ascii_digit c.in-Some.more.now, c.in-Some.ensures.cases.1)

pub returns-then-is_ascii_digit-clause-piece : goal.returns-then-is_ascii_digit-clause-piece
returns-then-is_ascii_digit-clause-piece c = takes_number _ _ _ _ c.in-Some.ensures.cases.0 (sym c.is_ascii_digit.ensures.value ∙ c.if-is_ascii_digit.true) c.number_length-length.ensures

pub overflow_add-length-2 : goal.overflow_add-length-2
overflow_add-length-2 c = omega (arith, prefix_len-le-length is_line_byte c.in-Some-after.body.now, c.in-Some.ensures.cases.1, ap length c.in-Some-after.ensures.found)

pub returns-clause-piece : goal.returns-clause-piece
returns-clause-piece c = takes_line _ _ _ _ _ c.in-Some.ensures.cases.0 c.if-first-eq45.true c.in-Some-after.ensures.found c.line_length-length.ensures
