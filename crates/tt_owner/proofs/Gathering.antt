-- What is claimed of a table, as holders.
use Rattle.std.proofs.Common.{◌≡◌, ℕ, Bool, true, false, ◌==◌, ◌&&◌, ◌||◌, List, [], ◌∷◌, ◌++◌, map, filter, cond, refl, ap, sym, ◌∙◌, inl, inr}
use Rattle.std.specs.List.{list_any}
use Rattle.std.proofs.lemmas.Bool.{cases_Bool, eqb-true}
use Rattle.std.proofs.lemmas.List.Folds.{list_any-append}
use denote.Enum.Bare.{sameb}
use Rattle.tt_layout.specs.contracts.hold.Hold.{the_type}
use Rattle.tt_layout.specs.declared.hold.Hold.{Hold}
use Rattle.tt_layout.specs.declared.hold.Hold.TheVariants as hold
use Rattle.tt_layout.specs.declared.facts.TableFacts.{TableFacts}
use Rattle.tt_layout.specs.Numbers.{has}
use Rattle.tt_layout.specs.Holds.{is_held, hold_of, stands, is_active, is_past, is_time_travel, is_fail_safe}
use Rattle.tt_sweep.specs.declared.claim.Claim.{Claim}
use Rattle.tt_sweep.specs.Claims.{AreClaims, claimed, claimed_numbers}
use Rattle.tt_owner.specs.declared.holder.Holder.{Holder}
use Rattle.tt_owner.specs.Holders.{holder_at}
use Rattle.tt_owner.specs.AllHolders.{claimed_holder, is_hold, strongest_claimed}
use Rattle.tt_owner.proofs.Lists.{has-mapped}
use Rattle.tt_owner.proofs.Picked.{pick}

pub hold_is : (held wanted : Hold) → sameb the_type held wanted ≡ is_hold wanted held
hold_is hold.Active hold.Active = refl
hold_is hold.Active hold.TimeTravel = refl
hold_is hold.Active hold.FailSafe = refl
hold_is hold.Active hold.Nothing = refl
hold_is hold.TimeTravel hold.Active = refl
hold_is hold.TimeTravel hold.TimeTravel = refl
hold_is hold.TimeTravel hold.FailSafe = refl
hold_is hold.TimeTravel hold.Nothing = refl
hold_is hold.FailSafe hold.Active = refl
hold_is hold.FailSafe hold.TimeTravel = refl
hold_is hold.FailSafe hold.FailSafe = refl
hold_is hold.FailSafe hold.Nothing = refl
hold_is hold.Nothing hold.Active = refl
hold_is hold.Nothing hold.TimeTravel = refl
hold_is hold.Nothing hold.FailSafe = refl
hold_is hold.Nothing hold.Nothing = refl

pub claimed_so : (test : Hold → Bool) (claims : List Claim) (part : ℕ)
    → has (map (λ (claim : Claim). claim.part) (filter (λ (claim : Claim). test claim.hold) claims)) part ≡ claimed test claims part
claimed_so test claims part = has-mapped (λ (claim : Claim). test claim.hold) (λ (claim : Claim). claim.part) claims part ∙ turned claims
  where
    turn : (a b : Bool) → (a && b) ≡ (b && a)
    turn true true = refl
    turn true false = refl
    turn false true = refl
    turn false false = refl

    turned : (claims : List Claim) → list_any (λ (claim : Claim). test claim.hold && (claim.part == part)) claims ≡ claimed test claims part
    turned [] = refl
    turned (c ∷ cs) = ap (λ (b : Bool). b || list_any (λ (claim : Claim). test claim.hold && (claim.part == part)) cs) (turn (test c.hold) (c.part == part))
        ∙ ap (λ (b : Bool). ((c.part == part) && test c.hold) || b) (turned cs)

of_numbers : (sample : Holder) (active travel : List ℕ) (ns : List ℕ) (part : ℕ) (test : Holder → Bool)
    → list_any (λ (holder : Holder). (holder.part == part) && test holder) (map (claimed_holder sample active travel) ns)
    ≡ (has ns part && test (claimed_holder sample active travel part))
of_numbers sample active travel [] part test = refl
of_numbers sample active travel (n ∷ ns) part test =
    ap (λ (b : Bool). ((n == part) && test (claimed_holder sample active travel n)) || b) (of_numbers sample active travel ns part test)
    ∙ elim (cases_Bool (n == part)) [
      | inl same ↦ ap (λ (k : ℕ). ((n == part) && test (claimed_holder sample active travel k)) || (has ns part && test (claimed_holder sample active travel part))) (eqb-true n part same)
          ∙ both (n == part) (has ns part) (test (claimed_holder sample active travel part))
      | inr other ↦ ap (λ (b : Bool). (b && test (claimed_holder sample active travel n)) || (has ns part && test (claimed_holder sample active travel part))) other
          ∙ ap (λ (b : Bool). (b || has ns part) && test (claimed_holder sample active travel part)) (sym other)
    ]
  where
    both : (a b t : Bool) → ((a && t) || (b && t)) ≡ ((a || b) && t)
    both true true true = refl
    both true true false = refl
    both true false true = refl
    both true false false = refl
    both false b t = refl

strongest_held : (a t f : Bool) → is_held (pick a t f) ≡ true → cond a hold.Active (cond t hold.TimeTravel hold.FailSafe) ≡ pick a t f
strongest_held true t f h = refl
strongest_held false true f h = refl
strongest_held false false true h = refl
strongest_held false false false h = absurd (cc)

held_as : (at : ℕ) (table : TableFacts) (sample : Holder) (claims : List Claim) (active travel : List ℕ) (part : ℕ) → AreClaims at table claims
    → sample.table ≡ table.number → sample.stands ≡ stands at table
    → has active part ≡ claimed (is_hold hold.Active) claims part → has travel part ≡ claimed (is_hold hold.TimeTravel) claims part
    → is_held (hold_of at table part) ≡ true → claimed_holder sample active travel part ≡ holder_at at part table
held_as at table sample claims active travel part are e f a t held =
    let strongest : strongest_claimed active travel part ≡ hold_of at table part =
    ap (λ (b : Bool). cond b hold.Active (cond (has travel part) hold.TimeTravel hold.FailSafe)) (a ∙ are.active part)
    ∙ ap (λ (b : Bool). cond (is_active table part) hold.Active (cond b hold.TimeTravel hold.FailSafe)) (t ∙ are.time_travel part)
    ∙ strongest_held (is_active table part) (is_past is_time_travel at table part) (is_past is_fail_safe at table part) held in
    cc

pub with_claims : (at : ℕ) (table : TableFacts) (old new : List Holder) (sample : Holder) (claims : List Claim) (active travel : List ℕ) → AreClaims at table claims
    → sample.table ≡ table.number → sample.stands ≡ stands at table
    → ((part : ℕ) → has active part ≡ claimed (is_hold hold.Active) claims part) → ((part : ℕ) → has travel part ≡ claimed (is_hold hold.TimeTravel) claims part)
    → new ≡ old ++ map (claimed_holder sample active travel) (claimed_numbers claims) → (part : ℕ) (test : Holder → Bool)
    → list_any (λ (holder : Holder). (holder.part == part) && test holder) new
    ≡ (list_any (λ (holder : Holder). (holder.part == part) && test holder) old || (is_held (hold_of at table part) && test (holder_at at part table)))
with_claims at table old new sample claims active travel are e f a t is part test =
    let p : Holder → Bool = λ holder. (holder.part == part) && test holder in
    let there : Bool = list_any p old in
    ap (list_any p) is
    ∙ list_any-append p old (map (claimed_holder sample active travel) (claimed_numbers claims))
    ∙ ap (λ (b : Bool). there || b) (of_numbers sample active travel (claimed_numbers claims) part test
    ∙ ap (λ (b : Bool). b && test (claimed_holder sample active travel part)) (are.held part)
    ∙ same (is_held (hold_of at table part)) (λ held. ap test (held_as at table sample claims active travel part are e f (a part) (t part) held)))
  where
    same : (b : Bool) {x y : Bool} → (b ≡ true → x ≡ y) → (b && x) ≡ (b && y)
    same true h = h refl
    same false h = refl
