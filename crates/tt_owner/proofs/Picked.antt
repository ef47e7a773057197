-- The strongest hold of the spans that have a part.
use Rattle.std.proofs.Common.{◌≡◌, ℕ, ◌+◌, ◌<◌, Bool, true, false, ◌&&◌, ◌||◌, cond, List, Option, length, take, refl, ap, sym, ◌∙◌}
use Rattle.std.specs.List.{list_any}
use Rattle.tt_layout.specs.declared.hold.Hold.{Hold}
use Rattle.tt_layout.specs.declared.hold.Hold.TheVariants as hold
use Rattle.tt_layout.specs.declared.facts.TableFacts.{TableFacts}
use Rattle.tt_layout.specs.Numbers.{has}
use Rattle.tt_layout.specs.Chain.{numbers_at}
use Rattle.tt_layout.specs.Spans.{spans_of}
use Rattle.tt_layout.specs.Holds.{is_held, hold_of, is_active, is_past, is_time_travel}
use Rattle.tt_layout.specs.Owners.{is_active_hold, is_safe_hold}
use Rattle.tt_sweep.specs.Claims.{span_hold, end_at, is_time_travel_hold}
use Rattle.tt_sweep.proofs.Claiming.{in_span, active_spans, travel_spans, safe_spans}
use Rattle.tt_sweep.proofs.Holding.{span_more}
use Rattle.tt_owner.specs.Holders.{stronger}

abbrev pub pick : Bool → Bool → Bool → Hold
pick active travel safe = cond active hold.Active (cond travel hold.TimeTravel (cond safe hold.FailSafe hold.Nothing))

-- the strongest hold of some spans on a part
abbrev pub strongest_in : ℕ → TableFacts → ℕ → List (List ℕ × Option ℕ) → Hold
strongest_in at table part spans =
    pick (list_any (in_span is_active_hold at table.regimes part) spans) (list_any (in_span is_time_travel_hold at table.regimes part) spans)
    (list_any (in_span is_safe_hold at table.regimes part) spans)

pick_more : (a t f inside : Bool) (h : Hold) → stronger (pick a t f) (cond inside h hold.Nothing)
    ≡ pick (a || (inside && (is_held h && is_active_hold h))) (t || (inside && (is_held h && is_time_travel_hold h))) (f || (inside && (is_held h && is_safe_hold h)))
pick_more true t f inside h = refl
pick_more false true f false h = refl
pick_more false true f true hold.Active = refl
pick_more false true f true hold.TimeTravel = refl
pick_more false true f true hold.FailSafe = refl
pick_more false true f true hold.Nothing = refl
pick_more false false true false h = refl
pick_more false false true true hold.Active = refl
pick_more false false true true hold.TimeTravel = refl
pick_more false false true true hold.FailSafe = refl
pick_more false false true true hold.Nothing = refl
pick_more false false false false h = refl
pick_more false false false true hold.Active = refl
pick_more false false false true hold.TimeTravel = refl
pick_more false false false true hold.FailSafe = refl
pick_more false false false true hold.Nothing = refl

pub strongest_more : (at : ℕ) (table : TableFacts) (part place : ℕ) (h before now : Hold) (inside : Bool) → place < length table.layouts
    → before ≡ strongest_in at table part (take place (spans_of table.layouts table.dropped))
    → inside ≡ has (numbers_at table.layouts place) part
    → h ≡ cond inside (span_hold at table.regimes (end_at table.layouts table.dropped place)) hold.Nothing
    → now ≡ stronger before h
    → now ≡ strongest_in at table part (take (place + 1) (spans_of table.layouts table.dropped))
strongest_more at table part place h before now inside within e f g i =
    let here : Hold = span_hold at table.regimes (end_at table.layouts table.dropped place) in
    let earlier : (Hold → Bool) → Bool = λ test. list_any (in_span test at table.regimes part) (take place (spans_of table.layouts table.dropped)) in
    let later : (Hold → Bool) → Bool = λ test. list_any (in_span test at table.regimes part) (take (place + 1) (spans_of table.layouts table.dropped)) in
    let more : (test : Hold → Bool) → (earlier test || (inside && (is_held here && test here))) ≡ later test =
    λ test. ap (λ (b : Bool). earlier test || (b && (is_held here && test here))) f ∙ sym (span_more at table test part place here within refl) in
    i
    ∙ ap (λ (x : Hold). stronger x h) e
    ∙ ap (stronger (strongest_in at table part (take place (spans_of table.layouts table.dropped)))) g
    ∙ pick_more (earlier is_active_hold) (earlier is_time_travel_hold) (earlier is_safe_hold) inside here
    ∙ ap (λ (b : Bool). pick b (earlier is_time_travel_hold || (inside && (is_held here && is_time_travel_hold here))) (earlier is_safe_hold || (inside && (is_held here && is_safe_hold here)))) (more is_active_hold)
    ∙ ap (λ (b : Bool). pick (later is_active_hold) b (earlier is_safe_hold || (inside && (is_held here && is_safe_hold here)))) (more is_time_travel_hold)
    ∙ ap (λ (b : Bool). pick (later is_active_hold) (later is_time_travel_hold) b) (more is_safe_hold)

pub strongest_is : (at : ℕ) (table : TableFacts) (part : ℕ) → strongest_in at table part (spans_of table.layouts table.dropped) ≡ hold_of at table part
strongest_is at table part =
    let spans : List (List ℕ × Option ℕ) = spans_of table.layouts table.dropped in
    ap (λ (b : Bool). pick b (list_any (in_span is_time_travel_hold at table.regimes part) spans) (list_any (in_span is_safe_hold at table.regimes part) spans))
    (active_spans at table.regimes part table.layouts table.dropped)
    ∙ ap (λ (b : Bool). pick (is_active table part) b (list_any (in_span is_safe_hold at table.regimes part) spans)) (travel_spans at table part)
    ∙ ap (λ (b : Bool). pick (is_active table part) (is_past is_time_travel at table part) b) (safe_spans at table part)
