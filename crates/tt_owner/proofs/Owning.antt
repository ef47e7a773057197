-- Owner and class from the holders of a part.
use Rattle.std.proofs.Common.{◌≡◌, ℕ, Bool, true, false, not, ◌==◌, ◌&&◌, List, [], ◌∷◌, map, filter, cond, unwrap_or, refl, ap, sym, ◌∙◌}
use Rattle.std.specs.List.{list_any}
use Rattle.tt_layout.specs.declared.hold.Hold.{Hold}
use Rattle.tt_layout.specs.declared.hold.Hold.TheVariants as hold
use Rattle.tt_layout.specs.declared.facts.TableFacts.{TableFacts}
use Rattle.tt_layout.specs.declared.facts.PartFacts.{PartFacts}
use Rattle.tt_layout.specs.declared.facts.Facts.{Facts}
use Rattle.tt_layout.specs.Holds.{is_held}
use Rattle.tt_layout.specs.Owners.{is_strong, is_active_hold, is_safe_hold, is_holder, owner_of, class_under}
use Rattle.tt_sweep.proofs.Claiming.{list_any-same}
use Rattle.tt_owner.specs.declared.holder.Holder.{Holder}
use Rattle.tt_owner.specs.declared.holder.Seen.{Seen}
use Rattle.tt_owner.specs.Holders.{holder_at, origin_stands, holds_strongly, least_of, least_holder, owner_from, seen_of, class_seen}
use Rattle.tt_owner.proofs.Lists.{list_any-map, has-mapped, same_least, least_or_is}

-- ---- all tables as holders

strong_numbers : (facts : Facts) (part : ℕ) (tables : List TableFacts)
    → map (λ (holder : Holder). holder.table) (filter holds_strongly (map (holder_at facts.at part) tables))
    ≡ map (λ (table : TableFacts). table.number) (filter (is_holder facts part) tables)
strong_numbers facts part [] = refl
strong_numbers facts part (t ∷ ts) = step (is_holder facts part t) (filter holds_strongly (map (holder_at facts.at part) ts)) (filter (is_holder facts part) ts) (strong_numbers facts part ts)
  where
    step : (b : Bool) (hs : List Holder) (rest : List TableFacts)
        → map (λ (holder : Holder). holder.table) hs ≡ map (λ (table : TableFacts). table.number) rest
        → map (λ (holder : Holder). holder.table) (cond b (holder_at facts.at part t ∷ hs) hs) ≡ map (λ (table : TableFacts). table.number) (cond b (t ∷ rest) rest)
    step true hs rest e = ap (λ (ns : List ℕ). t.number ∷ ns) e
    step false hs rest e = e

pub owner_is : (facts : Facts) (part : PartFacts)
    → owner_from part.origin (origin_stands facts part.origin) (least_holder (map (holder_at facts.at part.number) facts.tables)) ≡ owner_of facts part
owner_is facts part =
    ap (λ (n : ℕ). cond (origin_stands facts part.origin) part.origin n)
    (ap (λ (ns : List ℕ). unwrap_or (least_of ns) part.origin) (strong_numbers facts part.number facts.tables)
    ∙ least_or_is part.origin (map (λ (table : TableFacts). table.number) (filter (is_holder facts part.number) facts.tables)))

pub class_is : (facts : Facts) (part : PartFacts) (owner : ℕ)
    → class_seen (seen_of owner (map (holder_at facts.at part.number) facts.tables)) ≡ class_under facts part owner
class_is facts part owner =
    let all : TableFacts → Holder = holder_at facts.at part.number in
    ap class_seen (same_seen_of
    (list_any-map (λ (holder : Holder). (holder.table == owner) && is_active_hold holder.hold) all facts.tables)
    (list_any-map (λ (holder : Holder). (holder.table == owner) && is_strong holder.hold) all facts.tables)
    (list_any-map (λ (holder : Holder). not (holder.table == owner) && holds_strongly holder) all facts.tables)
    (list_any-map (λ (holder : Holder). is_safe_hold holder.hold) all facts.tables))
  where
    same_seen_of : {a b c d e f g h : Bool} → a ≡ b → c ≡ d → e ≡ f → g ≡ h
        → ◌≡◌ {A = Seen} (record { active = a; strong = c; elsewhere = e; safe = g }) (record { active = b; strong = d; elsewhere = f; safe = h })
    same_seen_of p q r s = cc

-- ---- some holders in place of all tables

-- what passes a test among some holders is what holds the part and passes it among all
abbrev pub AnswerFor : List Holder → List Holder → Type 0
AnswerFor some all = (test : Holder → Bool) → list_any test some ≡ list_any (λ holder. is_held holder.hold && test holder) all

answer : (test : Holder → Bool) (some all : List Holder) → AnswerFor some all
    → ((holder : Holder) → (is_held holder.hold && test holder) ≡ test holder) → list_any test some ≡ list_any test all
answer test some all answers held = answers test ∙ list_any-same (λ holder. is_held holder.hold && test holder) test all held

active_held : (b : Bool) (h : Hold) → (is_held h && (b && is_active_hold h)) ≡ (b && is_active_hold h)
active_held b hold.Active = refl
active_held b hold.TimeTravel = refl
active_held b hold.FailSafe = refl
active_held true hold.Nothing = refl
active_held false hold.Nothing = refl

strong_held : (b : Bool) (h : Hold) → (is_held h && (b && is_strong h)) ≡ (b && is_strong h)
strong_held b hold.Active = refl
strong_held b hold.TimeTravel = refl
strong_held b hold.FailSafe = refl
strong_held true hold.Nothing = refl
strong_held false hold.Nothing = refl

other_held : (a b : Bool) (h : Hold) → (is_held h && (a && (b && is_strong h))) ≡ (a && (b && is_strong h))
other_held a b hold.Active = refl
other_held a b hold.TimeTravel = refl
other_held a b hold.FailSafe = refl
other_held true true hold.Nothing = refl
other_held true false hold.Nothing = refl
other_held false b hold.Nothing = refl

safe_held : (h : Hold) → (is_held h && is_safe_hold h) ≡ is_safe_hold h
safe_held hold.Active = refl
safe_held hold.TimeTravel = refl
safe_held hold.FailSafe = refl
safe_held hold.Nothing = refl

number_held : (a b : Bool) (h : Hold) → (is_held h && ((a && is_strong h) && b)) ≡ ((a && is_strong h) && b)
number_held a b hold.Active = refl
number_held a b hold.TimeTravel = refl
number_held a b hold.FailSafe = refl
number_held true b hold.Nothing = refl
number_held false b hold.Nothing = refl

pub same_least_holder : (some all : List Holder) → AnswerFor some all → least_holder some ≡ least_holder all
same_least_holder some all answers =
    same_least (map (λ (holder : Holder). holder.table) (filter holds_strongly some)) (map (λ (holder : Holder). holder.table) (filter holds_strongly all)) (λ k.
    has-mapped holds_strongly (λ (holder : Holder). holder.table) some k
    ∙ answer (λ holder. holds_strongly holder && (holder.table == k)) some all answers (λ holder. number_held holder.stands (holder.table == k) holder.hold)
    ∙ sym (has-mapped holds_strongly (λ (holder : Holder). holder.table) all k))

pub same_seen : (owner : ℕ) (some all : List Holder) → AnswerFor some all → seen_of owner some ≡ seen_of owner all
same_seen owner some all answers =
    same_seen_of
    (answer (λ holder. (holder.table == owner) && is_active_hold holder.hold) some all answers (λ holder. active_held (holder.table == owner) holder.hold))
    (answer (λ holder. (holder.table == owner) && is_strong holder.hold) some all answers (λ holder. strong_held (holder.table == owner) holder.hold))
    (answer (λ holder. not (holder.table == owner) && holds_strongly holder) some all answers (λ holder. other_held (not (holder.table == owner)) holder.stands holder.hold))
    (answer (λ holder. is_safe_hold holder.hold) some all answers (λ holder. safe_held holder.hold))
  where
    same_seen_of : {a b c d e f g h : Bool} → a ≡ b → c ≡ d → e ≡ f → g ≡ h
        → ◌≡◌ {A = Seen} (record { active = a; strong = c; elsewhere = e; safe = g }) (record { active = b; strong = d; elsewhere = f; safe = h })
    same_seen_of p q r s = cc
