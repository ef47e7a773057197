use Rattle.std.proofs.Common.{◌≡◌, ◌∙◌, ℤ, false, [], ◌∷◌, refl, ap}
use Rattle.tt_sql.specs.grammar.Grammar.{is_of, Meant, Said, Way}
use Rattle.tt_value.specs.calendar.Calendar.{day_text}
use Rattle.tt_sql.specs.grammar.TokenKinds.{OTHER_TEXT, is_quoted}
use Rattle.tt_sql.specs.grammar.Written.{literal}
use Rattle.tt_terminal.specs.Reading.{IsQuoted, Fails, first_kind, first_place}
use Rattle.tt_terminal.proofs.Steps.{marks_are, takes_kind, placed_kind_is, passes_left, passes_right, passes_as, passes_at, passes_way, stops_here, stops_left, stops_right, stops_word}
use Rattle.tt_terminal.proofs.Numbers.{passes_number}
use Rattle.tt_terminal.proofs.Quotes.{passes_quoted}
use Rattle.tt_terminal.proofs.Literals.{passes_minus, passes_date, same_negative, same_day}
use Rattle.tt_terminal.proofs.literal.literal_of.Goals as goal

pub returns-in-Some-clause-reads : goal.returns-in-Some-clause-reads
returns-in-Some-clause-reads c = marks_are c.whole_literal.ensures.marks (passes_left (takes_kind c.in-Some.ensures.takes) (rw c.in-Some.ensures.kind refl) refl (passes_as (passes_number c.in-Some.ensures)))

pub returns-in-Some-placed-clause-reads : goal.returns-in-Some-placed-clause-reads
returns-in-Some-placed-clause-reads c = marks_are c.null_literal.ensures.marks
    (passes_right (rw c.in_default.ensures refl) refl (passes_left (placed_kind_is c.in-Some-placed.ensures) refl refl (passes_as (passes_at c.in-Some-placed.ensures))))

pub returns-in-Some-placed-2-clause-reads : goal.returns-in-Some-placed-2-clause-reads
returns-in-Some-placed-2-clause-reads c = marks_are (c.int_literal.ensures.marks ∙ ap (λ (x : ℤ). Meant x c.in-Some-placed-2.place ∷ Way 1 ∷ []) (same_negative c.in-Some-optional_negative.ensures))
    (passes_right (rw c.in_default.ensures refl) refl (passes_right (rw c.in_default-placed.ensures refl) refl
    (passes_left (placed_kind_is c.in-Some-placed-2.ensures) refl refl (passes_minus c.in-Some-placed-2.ensures c.in-Some-optional_negative.ensures (λ front. passes_way c.in-Some-optional_negative.ensures.takes.known)))))

pub returns-in_default-optional_negative-clause-reads : goal.returns-in_default-optional_negative-clause-reads
returns-in_default-optional_negative-clause-reads c =
    let fails : Fails [] literal c.args.rest (first_place c.in-Some-placed-2.digits) =
    stops_right (rw c.in_default.ensures refl) refl (stops_right (rw c.in_default-placed.ensures refl) refl
    (stops_left (placed_kind_is c.in-Some-placed-2.ensures) refl refl (stops_word c.in-Some-placed-2.ensures.word (stops_here (rw c.in_default-optional_negative.ensures refl) refl)))) in
    rw c.fault.ensures fails

pub returns-in-Some-2-clause-reads : goal.returns-in-Some-2-clause-reads
returns-in-Some-2-clause-reads c =
    let is : IsQuoted c.args.rest c.in-Some-2.quoted c.in-Some-2.behind = rw c.in-Some-2.is at c.in_ok-quoted.ensures in
    marks_are c.text_literal.ensures.marks
    (passes_right (rw c.in_default.ensures refl) refl (passes_right (rw c.in_default-placed.ensures refl) refl (passes_right (rw c.in_default-placed-2.ensures refl) refl
    (passes_left (takes_kind is.takes) (rw is.kind refl) refl (passes_as (passes_quoted is))))))

pub returns-in-Some-placed-3-clause-reads : goal.returns-in-Some-placed-3-clause-reads
returns-in-Some-placed-3-clause-reads c =
    let none : is_of OTHER_TEXT is_quoted (first_kind c.args.rest) ≡ false = rw c.in_default-2.is at c.in_ok-quoted.ensures in
    marks_are (c.date_literal.ensures.marks ∙ ap (λ (x : ℤ). Said (day_text x) c.in-Some-placed-3.place ∷ Way 3 ∷ []) (same_day c.in-Some-optional_day.ensures))
    (passes_right (rw c.in_default.ensures refl) refl (passes_right (rw c.in_default-placed.ensures refl) refl (passes_right (rw c.in_default-placed-2.ensures refl) refl (passes_right (rw none refl) refl
    (passes_date c.in-Some-placed-3.ensures c.in-Some-optional_day.ensures (λ front. passes_way c.in-Some-optional_day.ensures.word.takes.known))))))

pub returns-in_default-optional_day-clause-reads : goal.returns-in_default-optional_day-clause-reads
returns-in_default-optional_day-clause-reads c =
    let none : is_of OTHER_TEXT is_quoted (first_kind c.args.rest) ≡ false = rw c.in_default-2.is at c.in_ok-quoted.ensures in
    let fails : Fails [] literal c.args.rest (first_place c.in-Some-placed-3.text) =
    stops_right (rw c.in_default.ensures refl) refl (stops_right (rw c.in_default-placed.ensures refl) refl (stops_right (rw c.in_default-placed-2.ensures refl) refl (stops_right (rw none refl) refl
    (stops_word c.in-Some-placed-3.ensures.word (stops_here (rw c.in_default-optional_day.ensures refl) refl))))) in
    rw c.fault-in_default-optional_day.ensures fails

pub returns-clause-reads : goal.returns-clause-reads
returns-clause-reads c =
    let none : is_of OTHER_TEXT is_quoted (first_kind c.args.rest) ≡ false = rw c.in_default-2.is at c.in_ok-quoted.ensures in
    let fails : Fails [] literal c.args.rest (first_place c.args.rest) = stops_here (rw (c.in_default.ensures, c.in_default-placed.ensures, c.in_default-placed-2.ensures, none, c.in_default-placed-3.ensures) refl) refl in
    rw c.fault-2.ensures fails
