-- How spans are held, compared and carried along a chain.
use Rattle.std.proofs.Common.{◌≡◌, ℕ, zero, suc, ◌+◌, ◌<◌, ◌≤◌, Bool, true, false, ◌&&◌, ◌||◌, List, [], length, take, Option, Some, refl, ap, sym, ◌∙◌, arith, add-one}
use Rattle.std.specs.List.{list_any}
use Rattle.std.proofs.lemmas.List.Folds.{list_any_more}
use denote.Enum.Bare.{sameb}
use Rattle.tt_layout.specs.contracts.hold.Hold.{the_type}
use Rattle.tt_layout.specs.declared.hold.Hold.{Hold}
use Rattle.tt_layout.specs.declared.hold.Hold.TheVariants as hold
use Rattle.tt_layout.specs.declared.facts.TableFacts.{TableFacts}
use Rattle.tt_layout.specs.Numbers.{has}
use Rattle.tt_layout.specs.Chain.{FollowFrom, layout_at, numbers_at, begun_at}
use Rattle.tt_layout.specs.Spans.{spans_of}
use Rattle.tt_layout.specs.Holds.{is_held}
use Rattle.tt_sweep.specs.declared.claim.Claim.{Claim}
use Rattle.tt_sweep.specs.Claims.{end_at, numbers_before, span_hold, claimed, Covers}
use Rattle.tt_sweep.proofs.Spans.{length-spans, span_at, end_inside, fresh_layout}
use Rattle.tt_sweep.proofs.Claiming.{in_span}

-- ---- two holds compared

pub same_hold : (a b : Hold) → sameb the_type a b ≡ true → a ≡ b
same_hold hold.Active hold.Active e = refl
same_hold hold.Active hold.TimeTravel e = absurd (cc)
same_hold hold.Active hold.FailSafe e = absurd (cc)
same_hold hold.Active hold.Nothing e = absurd (cc)
same_hold hold.TimeTravel hold.Active e = absurd (cc)
same_hold hold.TimeTravel hold.TimeTravel e = refl
same_hold hold.TimeTravel hold.FailSafe e = absurd (cc)
same_hold hold.TimeTravel hold.Nothing e = absurd (cc)
same_hold hold.FailSafe hold.Active e = absurd (cc)
same_hold hold.FailSafe hold.TimeTravel e = absurd (cc)
same_hold hold.FailSafe hold.FailSafe e = refl
same_hold hold.FailSafe hold.Nothing e = absurd (cc)
same_hold hold.Nothing hold.Active e = absurd (cc)
same_hold hold.Nothing hold.TimeTravel e = absurd (cc)
same_hold hold.Nothing hold.FailSafe e = absurd (cc)
same_hold hold.Nothing hold.Nothing e = refl

hold_itself : (a : Hold) → sameb the_type a a ≡ true
hold_itself hold.Active = refl
hold_itself hold.TimeTravel = refl
hold_itself hold.FailSafe = refl
hold_itself hold.Nothing = refl

pub other_hold : (a b : Hold) → sameb the_type a b ≡ false → a ≡ b → ⊥
other_hold a b e same =
    let both : sameb the_type a b ≡ true = ap (sameb the_type a) (sym same) ∙ hold_itself a in
    absurd (cc)

pub some_held : (a : Hold) → (a ≡ hold.Nothing → ⊥) → is_held a ≡ true
some_held hold.Active h = refl
some_held hold.TimeTravel h = refl
some_held hold.FailSafe h = refl
some_held hold.Nothing h = absurd (h refl)

-- ---- along the chain

pub span_more : (at : ℕ) (table : TableFacts) (test : Hold → Bool) (part place : ℕ) (h : Hold) → place < length table.layouts
    → h ≡ span_hold at table.regimes (end_at table.layouts table.dropped place)
    → list_any (in_span test at table.regimes part) (take (place + 1) (spans_of table.layouts table.dropped))
    ≡ (list_any (in_span test at table.regimes part) (take place (spans_of table.layouts table.dropped))
    || (has (numbers_at table.layouts place) part && (is_held h && test h)))
span_more at table test part place h inside is =
    let spans : List (List ℕ × Option ℕ) = spans_of table.layouts table.dropped in
    let p : List ℕ × Option ℕ → Bool = in_span test at table.regimes part in
    list_any_more p spans place ([], table.dropped) (omega (arith, length-spans table.layouts table.dropped))
    ∙ ap (λ (s : List ℕ × Option ℕ). list_any p (take place spans) || p s) (span_at table.layouts table.dropped place ([], table.dropped) inside)
    ∙ ap (λ (g : Hold). list_any p (take place spans) || (has (numbers_at table.layouts place) part && (is_held g && test g))) (sym is)

pub span_step : (at : ℕ) (table : TableFacts) (test : Hold → Bool) (part place : ℕ) (h : Hold) (old new : Bool) → place < length table.layouts
    → h ≡ span_hold at table.regimes (end_at table.layouts table.dropped place)
    → old ≡ list_any (in_span test at table.regimes part) (take place (spans_of table.layouts table.dropped))
    → is_held h ≡ true → new ≡ (old || (has (numbers_at table.layouts place) part && test h))
    → new ≡ list_any (in_span test at table.regimes part) (take (place + 1) (spans_of table.layouts table.dropped))
span_step at table test part place h old new inside is before held more =
    more
    ∙ ap (λ (b : Bool). b || (has (numbers_at table.layouts place) part && test h)) before
    ∙ ap (λ (b : Bool). list_any (in_span test at table.regimes part) (take place (spans_of table.layouts table.dropped))
    || (has (numbers_at table.layouts place) part && (b && test h))) (sym held)
    ∙ sym (span_more at table test part place h inside is)

pub none_step : (at : ℕ) (table : TableFacts) (test : Hold → Bool) (part place : ℕ) (h : Hold) (old : Bool) → place < length table.layouts
    → h ≡ span_hold at table.regimes (end_at table.layouts table.dropped place)
    → old ≡ list_any (in_span test at table.regimes part) (take place (spans_of table.layouts table.dropped))
    → h ≡ hold.Nothing
    → old ≡ list_any (in_span test at table.regimes part) (take (place + 1) (spans_of table.layouts table.dropped))
none_step at table test part place h old inside is before nothing =
    before
    ∙ unchanged (list_any (in_span test at table.regimes part) (take place (spans_of table.layouts table.dropped))) (has (numbers_at table.layouts place) part) (test h)
    ∙ ap (λ (g : Hold). list_any (in_span test at table.regimes part) (take place (spans_of table.layouts table.dropped))
    || (has (numbers_at table.layouts place) part && (is_held g && test h))) (sym nothing)
    ∙ sym (span_more at table test part place h inside is)
  where
    unchanged : (b a t : Bool) → b ≡ (b || (a && (false && t)))
    unchanged true a t = refl
    unchanged false true t = refl
    unchanged false false t = refl

pub covers : (at : ℕ) (table : TableFacts) (claims : List Claim) (place : ℕ) (before now : Hold) → place ≤ length table.layouts
    → ((test : Hold → Bool) (part : ℕ) → claimed test claims part ≡ list_any (in_span test at table.regimes part) (take place (spans_of table.layouts table.dropped)))
    → ((k : ℕ) → place ≡ suc k → before ≡ span_hold at table.regimes (end_at table.layouts table.dropped k))
    → now ≡ before → is_held now ≡ true → Covers claims now (numbers_before table.layouts place)
covers at table claims zero before now inside all last same held test part passes there = absurd (cc)
covers at table claims (suc k) before now inside all last same held test part passes there =
    all test part
    ∙ ap (λ (n : ℕ). list_any (in_span test at table.regimes part) (take n (spans_of table.layouts table.dropped))) (sym (add-one k))
    ∙ span_more at table test part k now (omega arith) (same ∙ last k refl)
    ∙ ap (λ (b : Bool). earlier || (b && (is_held now && test now))) there
    ∙ ap (λ (b : Bool). earlier || (true && (b && test now))) held
    ∙ ap (λ (b : Bool). earlier || (true && (true && b))) passes
    ∙ sure earlier
  where
    earlier : Bool
    earlier = list_any (in_span test at table.regimes part) (take k (spans_of table.layouts table.dropped))

    sure : (b : Bool) → (b || true) ≡ true
    sure true = refl
    sure false = refl

pub fresh_span : (at : ℕ) (table : TableFacts) (place : ℕ) (before now : Hold) → FollowFrom 0 table.layouts → place < length table.layouts
    → now ≡ span_hold at table.regimes (end_at table.layouts table.dropped place)
    → ((k : ℕ) → place ≡ suc k → before ≡ span_hold at table.regimes (end_at table.layouts table.dropped k))
    → (now ≡ before → ⊥) → 0 < place
    → layout_at table.layouts (begun_at table.layouts place) ≡ Some (numbers_at table.layouts place)
fresh_span at table zero before now order inside is last other some = absurd (omega arith)
fresh_span at table (suc k) before now order inside is last other some =
    fresh_layout table.layouts (suc k) order inside (λ more same. other (alike more same))
  where
    alike : suc (suc k) < length table.layouts → begun_at table.layouts (suc (suc k)) ≡ begun_at table.layouts (suc k) → now ≡ before
    alike more same =
        is
        ∙ ap (span_hold at table.regimes) (end_inside table.layouts table.dropped (suc k) more ∙ ap Some same ∙ sym (end_inside table.layouts table.dropped k inside))
        ∙ sym (last k refl)
