use Rattle.std.proofs.Common.{◌≡◌, ◌∙◌, false, List, [], ◌∷◌, ◌++◌, ap}
use Rattle.tt_sql.specs.grammar.Grammar.{Way, Mark, is_of}
use Rattle.tt_sql.specs.grammar.TokenKinds.{OTHER_TEXT, is_quoted}
use Rattle.tt_sql.proofs.marks.Expressions.{marks-Literal, marks-Column}
use Rattle.tt_terminal.specs.Reading.{IsQuoted, IsName, first_kind}
use Rattle.tt_terminal.proofs.Steps.{marks_are}
use Rattle.tt_phrase.proofs.Factors.{passes_null, passes_text, passes_day, passes_column}
use Rattle.tt_phrase.proofs.GivenTrees.{given_column, given_literal}
use Rattle.tt_phrase.proofs.expression.optional_simple.Goals as goal

pub returns-in-Some-clause-reads : goal.returns-in-Some-clause-reads
returns-in-Some-clause-reads c = λ tail. marks_are (marks-Literal _ ∙ ap (λ (x : List Mark). x ++ Way 0 ∷ []) c.null_literal.ensures.marks) (passes_null c.in-Some.ensures tail)

pub returns-in-Some-2-clause-reads : goal.returns-in-Some-2-clause-reads
returns-in-Some-2-clause-reads c = λ tail.
    let is : IsQuoted c.args.rest c.in-Some-2.quoted c.in-Some-2.behind = rw c.in-Some-2.is at c.in_ok-quoted.ensures in
    marks_are (marks-Literal _ ∙ ap (λ (x : List Mark). x ++ Way 0 ∷ []) c.text_literal.ensures.marks) (passes_text c.in_default.ensures is tail)

pub returns-in-Some-optional_date-clause-reads : goal.returns-in-Some-optional_date-clause-reads
returns-in-Some-optional_date-clause-reads c = λ tail.
    let none : is_of OTHER_TEXT is_quoted (first_kind c.args.rest) ≡ false = rw c.in_default-2.is at c.in_ok-quoted.ensures in
    marks_are (marks-Literal _ ∙ ap (λ (x : List Mark). x ++ Way 0 ∷ []) c.in-Some-optional_date.ensures.marks) (passes_day c.in_default.ensures none c.in-Some-optional_date.ensures tail)

pub returns-in-Some-3-clause-reads : goal.returns-in-Some-3-clause-reads
returns-in-Some-3-clause-reads c = λ tail.
    let none : is_of OTHER_TEXT is_quoted (first_kind c.args.rest) ≡ false = rw c.in_default-2.is at c.in_ok-quoted.ensures in
    let is : IsName c.args.rest c.in-Some-3.name c.in-Some-3.behind = rw c.in-Some-3.is at c.in_ok-name.ensures in
    marks_are (marks-Column _) (passes_column c.in_default.ensures none c.in_default-optional_date.ensures is tail)

pub returns-in-Some-clause-given : goal.returns-in-Some-clause-given
returns-in-Some-clause-given c = given_literal _ c.null_literal.ensures.given

pub returns-in-Some-2-clause-given : goal.returns-in-Some-2-clause-given
returns-in-Some-2-clause-given c = given_literal _ c.text_literal.ensures.given

pub returns-in-Some-optional_date-clause-given : goal.returns-in-Some-optional_date-clause-given
returns-in-Some-optional_date-clause-given c = given_literal _ c.in-Some-optional_date.ensures.given

pub returns-in-Some-3-clause-given : goal.returns-in-Some-3-clause-given
returns-in-Some-3-clause-given c = given_column _
