-- One part among all holders.
use Rattle.std.proofs.Common.{◌≡◌, ℕ, Bool, true, false, ◌==◌, ◌&&◌, ◌||◌, List, [], ◌∷◌, map, filter, Option, refl, ap, sym, ◌∙◌}
use Rattle.std.specs.List.{list_any}
use Rattle.tt_layout.specs.declared.hold.Class.{Class}
use Rattle.tt_layout.specs.declared.facts.TableFacts.{TableFacts}
use Rattle.tt_layout.specs.declared.facts.PartFacts.{PartFacts}
use Rattle.tt_layout.specs.declared.facts.Facts.{Facts}
use Rattle.tt_layout.specs.Numbers.{has}
use Rattle.tt_layout.specs.Holds.{is_held, stands}
use Rattle.tt_layout.specs.Owners.{owner_of, class_of, class_under}
use Rattle.tt_owner.specs.declared.holder.Holder.{Holder}
use Rattle.tt_owner.specs.declared.owned.Owned.{Owned}
use Rattle.tt_owner.specs.Holders.{holder_at, origin_stands, least_holder, owner_from, seen_of, class_seen}
use Rattle.tt_owner.specs.AllHolders.{AreHolders}
use Rattle.tt_owner.specs.Owned.{AreStanding, owned_of}
use Rattle.tt_owner.proofs.Lists.{list_any-map, list_any-filter, has-mapped}
use Rattle.tt_owner.proofs.Owning.{AnswerFor, owner_is, class_is, same_least_holder, same_seen}

pub standing_is : (facts : Facts) (number : ℕ) → has (map (λ (table : TableFacts). table.number) (filter (stands facts.at) facts.tables)) number ≡ origin_stands facts number
standing_is facts number = has-mapped (stands facts.at) (λ (table : TableFacts). table.number) facts.tables number ∙ turned facts.tables
  where
    turn : (a b : Bool) → (a && b) ≡ (b && a)
    turn true true = refl
    turn true false = refl
    turn false true = refl
    turn false false = refl

    turned : (tables : List TableFacts) → list_any (λ (table : TableFacts). stands facts.at table && (table.number == number)) tables
        ≡ list_any (λ (table : TableFacts). (table.number == number) && stands facts.at table) tables
    turned [] = refl
    turned (t ∷ ts) = ap (λ (b : Bool). b || list_any (λ (table : TableFacts). stands facts.at table && (table.number == number)) ts) (turn (stands facts.at t) (t.number == number))
        ∙ ap (λ (b : Bool). ((t.number == number) && stands facts.at t) || b) (turned ts)

answers : (facts : Facts) (part : ℕ) (holders run : List Holder) → AreHolders facts holders → run ≡ filter (λ (holder : Holder). holder.part == part) holders
    → AnswerFor run (map (holder_at facts.at part) facts.tables)
answers facts part holders run all is = λ test.
    ap (list_any test) is
    ∙ list_any-filter test (λ (holder : Holder). holder.part == part) holders
    ∙ all part test
    ∙ sym (list_any-map (λ (holder : Holder). is_held holder.hold && test holder) (holder_at facts.at part) facts.tables)

pub owned_is : (facts : Facts) (part : PartFacts) (holders run : List Holder) (standing : List ℕ) (origin : Bool) (least : Option ℕ) (owner : ℕ) (class : Class)
    → AreHolders facts holders → AreStanding facts standing
    → run ≡ filter (λ (holder : Holder). holder.part == part.number) holders → origin ≡ has standing part.origin
    → least ≡ least_holder run → owner ≡ owner_from part.origin origin least → class ≡ class_seen (seen_of owner run)
    → ◌≡◌ {A = Owned} (record { owner = owner; class = class; bytes = part.bytes }) (owned_of facts part)
owned_is facts part holders run standing origin least owner class all numbers is st le ow cl =
    let tables : List Holder = map (holder_at facts.at part.number) facts.tables in
    let same : AnswerFor run tables = answers facts part.number holders run all is in
    let o : owner ≡ owner_of facts part =
    ow
    ∙ ap (λ (b : Bool). owner_from part.origin b least) (st ∙ numbers part.origin)
    ∙ ap (owner_from part.origin (origin_stands facts part.origin)) (le ∙ same_least_holder run tables same)
    ∙ owner_is facts part in
    let k : class ≡ class_of facts part =
    cl ∙ ap class_seen (same_seen owner run tables same) ∙ class_is facts part owner ∙ ap (class_under facts part) o in
    cc
