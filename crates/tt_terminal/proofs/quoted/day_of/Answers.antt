use Rattle.std.proofs.Common.{◌≡◌, subst, sym, ap, ◌∙◌, arith, FitsSigned, w32}
use Rattle.std.specs.Str.{IsUtf8}
use Rattle.std.proofs.lemmas.Int.{to_z-of_z, ints}
use Rattle.std.proofs.lemmas.Option.{none-some}
use Rattle.tt_value.specs.calendar.Calendar.{day_text, IsDay}
use Rattle.tt_value.specs.calendar.Reading.{day_of as day_in}
use Rattle.tt_sql.specs.grammar.TokenKinds.{unquoted}
use Rattle.tt_terminal.proofs.Days.{is_dated}
use Rattle.tt_terminal.proofs.quoted.day_of.Goals as goal

-- src/quoted.rt:108:9
pub unreachable-requires : goal.unreachable-requires
unreachable-requires c =
    let d = is_dated c.args.bytes.now c.requires.date in
    c.in_default.ensures.cases.0 (subst IsUtf8 d.same c.requires.valid)

-- src/quoted.rt:112:19
pub unreachable-requires-in-Err : goal.unreachable-requires-in-Err
unreachable-requires-in-Err c =
    let d = is_dated c.args.bytes.now c.requires.date in
    let text : c.in-Ok.text.now ≡ unquoted c.args.bytes.now = c.in-Ok.ensures.cases.0 ∙ sym d.same in
    none-some d.day (c.in-Err.ensures.value ∙ ap day_in text ∙ d.read)

-- src/quoted.rt:100:1
pub returns-clause-text : goal.returns-clause-text
returns-clause-text c =
    let d = is_dated c.args.bytes.now c.requires.date in
    let is : IsDay c.in-Ok-read_date.day = c.in-Ok-read_date.ensures.found.0 in
    let fits : FitsSigned w32 c.in-Ok-read_date.day = omega (arith, ints, is.0, is.1) in
    let text : unquoted c.args.bytes.now ≡ day_text c.in-Ok-read_date.day = d.same ∙ sym c.in-Ok.ensures.cases.0 ∙ c.in-Ok-read_date.ensures.found.1 in
    rw (to_z-of_z w32 c.in-Ok-read_date.day fits) text
