-- A seat ends, and number 0 keeps what it knew.
use Rattle.std.proofs.Common.{◌≡◌, ◌≢◌, ◌⊎◌, ℕ, ◌<◌, true, false, List, [], ◌∷◌, ◌++◌, set, Contains, refl, ap, sym, ◌∙◌, subst, inl, inr, ⊎_elim, arith, Option}
use Rattle.std.proofs.lemmas.List.Elements.{Contains-append_left, Contains-append_right, Contains-append_cases}
use mathlib.Core.Logic.{dite}
use mathlib.Core.Option.{some, some-injective}
use native.Mathlib.Decide.{ℕ_discrete}
use lib.ListN.{get_elem?}
use Rattle.atomic_table.specs.Table.{State, Joins}
use Rattle.atomic_table.proofs.Lists.{set_else}
use Rattle.tt_seatlock.specs.declared.view.View.{View}
use Rattle.tt_seatlock.specs.History.{made_by}
use Rattle.tt_seatlock.specs.Views.{joined, spent}
use Rattle.tt_seatlock.specs.Rule.{SeatOk, HasSeat, IsKept, Ruled}
use Rattle.tt_seatlock.proofs.Histories.{longer_in, shorter_begins}
use Rattle.tt_seatlock.proofs.Moves.{each_set, Was, was_set, apart_after, some_set, contains_one}

module _ {B E G : Type 0} (entries : B → List E) (number : E → ℕ) (ground_of : B → G) where
  abbrev St : Type 0
  St = State (Option B) (View E G)

  abbrev Rule : St → Type 0
  Rule = Ruled entries number ground_of

  module _ (s : St) (r : Rule s) (id other : ℕ) (v w : View E G) (live : v.live ≡ true) (zero_is : v.number ≡ 0) (alive : w.live ≡ true) (waits : w.turn ≡ false) (above : 0 < w.number)
      (at : get_elem? s.views id ≡ some v) (there : get_elem? s.views other ≡ some w) (two : other ≢ id) where
    mine : SeatOk number r.log r.place r.made r.kept r.held r.holder id v
    mine = r.seats id v at live

    theirs : SeatOk number r.log r.place r.made r.kept r.held r.holder other w
    theirs = r.seats other w there alive

    abbrev now_kept : List (ℕ × List E)
    now_kept = r.kept ++ (w.number, w.mine) ∷ []

    abbrev half : List (View E G)
    half = set s.views id (joined v w)

    abbrev all : List (View E G)
    all = set half other spent

    abbrev Ok : ℕ → View E G → Type 0
    Ok = SeatOk number r.log r.place r.made now_kept r.held r.holder

    -- what is kept now was kept, or is what ended
    kept_by : (n : ℕ) (m : List E) → Contains now_kept (n, m) → Contains r.kept (n, m) ⊎ ((w.number ≡ n) × (w.mine ≡ m))
    kept_by n m c = ⊎_elim (λ (t : Contains r.kept (n, m)). inl t)
        (λ (t : Contains ((w.number, w.mine) ∷ []) (n, m)). let e = contains_one (w.number, w.mine) (n, m) t in inr (ap (λ (x : ℕ × List E). x.0) e, ap (λ (x : ℕ × List E). x.1) e))
        (Contains-append_cases r.kept ((w.number, w.mine) ∷ []) (n, m) c)

    joined_ok : Ok id (joined v w)
    joined_ok = record {
      below = mine.below;
      same_ground = mine.same_ground;
      seen_is = longer_in v.seen w.seen r.log mine.seen_is theirs.seen_is;
      shown_is = shorter_begins v.seen w.seen r.log mine.seen_is theirs.seen_is;
      mine_is = mine.mine_is;
      not_kept = λ m c. ⊎_elim (λ (t : Contains r.kept (v.number, m)). mine.not_kept m t) (λ (t : (w.number ≡ v.number) × (w.mine ≡ m)). absurd (omega (arith, t.0, zero_is, above))) (kept_by v.number m c);
      turn_is = mine.turn_is;
      chief = λ e. ((mine.chief e).0, ap (λ (k : List (ℕ × List E)). k ++ (w.number, w.mine) ∷ []) (mine.chief e).1);
    }

    other_ok : (j : ℕ) (u : View E G) → j ≢ id → get_elem? s.views j ≡ some u → u.live ≡ true → j ≢ other → Ok j u
    other_ok j u not_me here living not_them = let ok = r.seats j u here living in record {
      below = ok.below;
      same_ground = ok.same_ground;
      seen_is = ok.seen_is;
      shown_is = ok.shown_is;
      mine_is = ok.mine_is;
      not_kept = λ m c. ⊎_elim (λ (t : Contains r.kept (u.number, m)). ok.not_kept m t)
          (λ (t : (w.number ≡ u.number) × (w.mine ≡ m)). not_them (r.apart j other u w here there living alive (sym t.0))) (kept_by u.number m c);
      turn_is = ok.turn_is;
      chief = λ e. absurd (not_me (r.apart j id u v here at living live (e ∙ sym zero_is)));
    }

    seats : (j : ℕ) (u : View E G) → get_elem? all j ≡ some u → u.live ≡ true → Ok j u
    seats = each_set Ok half other spent (λ e. absurd cc)
        (λ j u not_them here living. each_set (λ k x. k ≢ other → Ok k x) s.views id (joined v w) (λ _ _. joined_ok) other_ok j u here living not_them)

    was : (j : ℕ) (u : View E G) → get_elem? all j ≡ some u → u.live ≡ true → Was s.views j u
    was = each_set (λ j u. Was s.views j u) half other spent (λ e. absurd cc) (λ j u not_them here living. was_set s.views id v (joined v w) at (λ _. (live, refl)) j u here living)

    -- the seat that has the turn is not the one that ends
    out : (u : View E G) → get_elem? s.views r.holder ≡ some u → u.turn ≡ true → r.holder ≢ other
    out u here turn e = let same : u ≡ w = some-injective _ _ (sym here ∙ (ap (get_elem? s.views) e ∙ there)) in
        let clash : true ≡ false = sym turn ∙ (ap (λ (x : View E G). x.turn) same ∙ waits) in absurd cc

    away : r.held ≡ true → (u : View E G) × (get_elem? all r.holder ≡ some u) × (u.live ≡ true) × (u.turn ≡ true)
    away gone =
        let a = r.away gone in
        let Q : View E G → Type 0 = λ u. (u.live ≡ true) × (u.turn ≡ true) in
        let k = some_set Q s.views id v (joined v w) at (λ q. q) r.holder a.0 a.1 (a.2, a.3) in
        (k.0, set_else half other r.holder spent (out a.0 a.1 a.3) ∙ k.1, k.2.0, k.2.1)

    seated : (n : ℕ) → HasSeat s.views n → HasSeat all n ⊎ IsKept now_kept n
    seated n h =
        let Q : View E G → Type 0 = λ u. (u.live ≡ true) × (u.number ≡ n) in
        let k = some_set Q s.views id v (joined v w) at (λ q. q) h.0 h.1 h.2 (h.3, h.4) in
        dite (ℕ_discrete h.0 other)
        (λ e. let same : h.1 ≡ w = some-injective _ _ (sym h.2 ∙ (ap (get_elem? s.views) e ∙ there)) in
        let is : w.number ≡ n = ap (λ (x : View E G). x.number) (sym same) ∙ h.4 in
        inr (w.mine, subst (λ (k : ℕ). Contains now_kept (k, w.mine)) is (Contains-append_right r.kept ((w.number, w.mine) ∷ []) (w.number, w.mine) (0, omega arith, refl))))
        (λ ne. inl (h.0, k.0, set_else half other h.0 spent ne ∙ k.1, k.2.0, k.2.1))

    met : Rule record { words = s.words; homes = s.homes; views = all }
    met = record {
      log = r.log;
      place = r.place;
      made = r.made;
      kept = now_kept;
      held = r.held;
      holder = r.holder;
      one_word = r.one_word;
      one_slot = r.one_slot;
      even = r.even;
      home = r.home;
      odd = r.odd;
      away = away;
      seats = seats;
      apart = apart_after s.views all r.apart was;
      kept_are = λ n m c. ⊎_elim (λ (t : Contains r.kept (n, m)). r.kept_are n m t)
          (λ (t : (w.number ≡ n) × (w.mine ≡ m)). (omega (arith, t.0, above), omega (arith, t.0, theirs.below), ap (λ (k : ℕ). made_by number k r.log) (sym t.0) ∙ (theirs.mine_is ∙ t.1))) (kept_by n m c);
      unmade = r.unmade;
      present = λ n h. ⊎_elim (λ (t : HasSeat s.views n). seated n t) (λ (t : IsKept r.kept n). inr (t.0, Contains-append_left r.kept ((w.number, w.mine) ∷ []) (n, t.0) t.1)) (r.present n h);
    }

  -- number 0 may take in another seat that waits
  pub joins : (id other : ℕ) (v w : View E G) → v.live ≡ true → v.number ≡ 0 → w.live ≡ true → w.turn ≡ false → 0 < w.number → Joins Rule id v other w (joined v w) spent
  joins id other v w live zero_is alive waits above s r at two there = met s r id other v w live zero_is alive waits above at (sym (set_else s.views id other (joined v w) two) ∙ there) two
