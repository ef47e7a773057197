use Rattle.std.proofs.Common.{sym, ap, ◌∙◌}
use Rattle.tt_history.specs.declared.history.Entry.{Entry}
use Rattle.tt_history.specs.Projection.{is_session}
use Rattle.tt_history.proofs.Places.{place_is_kept, place_is_skipped, places_end}
use Rattle.tt_history.proofs.history.places_of.Goals as goal
use Rattle.tt_history.proofs.history.places_of.Goals.{then-is_session+in_ok-push, else-is_session}

pub loop-place-preserved : goal.loop-place-preserved
loop-place-preserved c = elim c.if-is_session.branch [
  | then-is_session+in_ok-push w ↦ rw (w.places-is, w.in_ok-push.ensures.items) (place_is_kept c.args.session c.args.entries.now c.loop-place.place c.index-entries-place.result c.loop-place.places.items _ c.loop-place-test.true (ap (λ (e : Entry). is_session c.args.session e.actor) (sym c.index-entries-place.is) ∙ sym w.if-is_session.ensures) c.loop-place.invariant)
  | else-is_session w ↦ rw w.places-is (place_is_skipped c.args.session c.args.entries.now c.loop-place.place c.index-entries-place.result c.loop-place.places.items _ c.loop-place-test.true (ap (λ (e : Entry). is_session c.args.session e.actor) (sym c.index-entries-place.is) ∙ sym w.if-is_session.ensures) c.loop-place.invariant)
]

pub returns : goal.returns
returns c = places_end c.args.session c.args.entries.now c.loop-place.place c.loop-place.places.items _ c.loop-place-test.false c.loop-place.invariant
