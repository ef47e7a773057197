use Rattle.std.proofs.Common.{rules, ◌≡◌, ℕ, [], ◌∷◌, if◌then◌else◌, ap, sym, ◌∙◌}
use Rattle.tt_seatlock.specs.declared.tests.Note.{Note}
use Rattle.tt_seatlock.specs.History.{made_by}
use Rattle.tt_seatlock.specs.Passes.{known}
use Rattle.tt_seatlock.proofs.Keeping.{keeps_none, keeps_next, keeps_all, keeps_joined, keeps_still}
use Rattle.tt_seatlock.proofs.tests.both.Goals as goal

pub close-book-requires-clause-all : goal.close-book-requires-clause-all
close-book-requires-clause-all g c =
    let k = known c.pass-two.new.parent in
    let l = known c.join.new.into in
    let m = known c.join-2.new.into in
    let a = known c.join-one.result.0.0 in
    let b = known c.join-one.result.1.0 in
    let one : a.number ≡ 1 = search rules in
    let two : b.number ≡ 2 = search rules in
    let made : m.made ≡ 3 = search rules in
    keeps_all m 3 made (keeps_next l b m 2 c.join-2.ensures.pass two (keeps_next k a l 1 c.join.ensures.pass one (keeps_none k)))

pub returns-clause-first : goal.returns-clause-first
returns-clause-first g c =
    let k = known c.pass-two.new.parent in
    let l = known c.join.new.into in
    let m = known c.join-2.new.into in
    let a = known c.join-one.result.0.0 in
    let b = known c.join-one.result.1.0 in
    let one : a.number ≡ 1 = search rules in
    let kept = c.close-book.ensures.kept a.number a.own (keeps_still l b m c.join-2.ensures.pass a.number a.own (keeps_joined k a l c.join.ensures.pass)) in
    let own : a.own ≡ (if c.join-one.result.0.1 then record { number = 1; value = c.args.a } ∷ [] else []) = search rules in
    ap (λ (n : ℕ). made_by (λ (note : Note). note.number) n c.close-book.result.notes.items) (sym one) ∙ (kept ∙ own)

pub returns-clause-second : goal.returns-clause-second
returns-clause-second g c =
    let l = known c.join.new.into in
    let m = known c.join-2.new.into in
    let b = known c.join-one.result.1.0 in
    let two : b.number ≡ 2 = search rules in
    let kept = c.close-book.ensures.kept b.number b.own (keeps_joined l b m c.join-2.ensures.pass) in
    let own : b.own ≡ (if c.join-one.result.1.1 then record { number = 2; value = c.args.b } ∷ [] else []) = search rules in
    ap (λ (n : ℕ). made_by (λ (note : Note). note.number) n c.close-book.result.notes.items) (sym two) ∙ (kept ∙ own)
