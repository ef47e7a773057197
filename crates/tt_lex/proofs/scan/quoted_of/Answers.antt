use Rattle.std.proofs.Common.{◌<◌, length, get_or, take, subst, inr, arith}
use Rattle.std.proofs.lemmas.List.{length-take}
use Rattle.std.proofs.lemmas.List.Sums.{prefix_len-le-length}
use Rattle.tt_lex.specs.Lexis.{is_text_byte, RefusesInText}
use Rattle.tt_lex.specs.answer.Fronts.{takes_text, refuses}
use Rattle.tt_lex.proofs.scan.quoted_of.Goals as goal

pub returns-then-allowed-text-clause-piece : goal.returns-then-allowed-text-clause-piece
returns-then-allowed-text-clause-piece c = takes_text c.args.rest.now c.in-Some.inside _ c.in-Some.ensures.found c.if-inside-gt-LONGEST_TEXT.false c.allowed_length-allowed.ensures c.if-allowed-text.true

pub overflow_cast-place : goal.overflow_cast-place
overflow_cast-place c =
    let text = take c.in-Some.inside.written c.args.rest.now in
    omega (arith, c.allowed_length-allowed.ensures, prefix_len-le-length is_text_byte text, length-take c.in-Some.inside.written c.args.rest.now)

pub overflow_add-place-2 : goal.overflow_add-place-2
overflow_add-place-2 c =
    let text = take c.in-Some.inside.written c.args.rest.now in
    omega (arith, c.allowed_length-allowed.ensures, prefix_len-le-length is_text_byte text, length-take c.in-Some.inside.written c.args.rest.now)

pub bounds-text-allowed : goal.bounds-text-allowed
bounds-text-allowed c =
    let text = take c.in-Some.inside.written c.args.rest.now in
    omega (arith, c.allowed_length-allowed.ensures, prefix_len-le-length is_text_byte text, c.if-allowed-text.false)

pub returns-then-text-allowed-eq92-clause-fault : goal.returns-then-text-allowed-eq92-clause-fault
returns-then-text-allowed-eq92-clause-fault c =
    let text = take c.in-Some.inside.written c.args.rest.now in
    let within : c.allowed_length-allowed.result < length text = omega (arith, c.allowed_length-allowed.ensures, prefix_len-le-length is_text_byte text, c.if-allowed-text.false) in
    let r = refuses c.args.rest.now c.in-Some.inside c.allowed_length-allowed.result c.in-Some.ensures.found c.if-inside-gt-LONGEST_TEXT.false c.allowed_length-allowed.ensures within in
    (r.0, subst (RefusesInText _ r.0) c.if-text-allowed-eq92.true r.1, omega (arith, r.2))

pub returns-clause-fault : goal.returns-clause-fault
returns-clause-fault c =
    let text = take c.in-Some.inside.written c.args.rest.now in
    let within : c.allowed_length-allowed.result < length text = omega (arith, c.allowed_length-allowed.ensures, prefix_len-le-length is_text_byte text, c.if-allowed-text.false) in
    let r = refuses c.args.rest.now c.in-Some.inside c.allowed_length-allowed.result c.in-Some.ensures.found c.if-inside-gt-LONGEST_TEXT.false c.allowed_length-allowed.ensures within in
    inr (r.0, get_or text c.allowed_length-allowed.result 0, r.1, c.if-text-allowed-eq92.false, omega (arith, r.2))
