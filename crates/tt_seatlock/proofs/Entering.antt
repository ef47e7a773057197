-- A turn is won or lost, and a word is read.
use Rattle.std.proofs.Common.{◌≡◌, ℕ, ◌+◌, ◌*◌, ◌%◌, Bool, true, false, List, ◌∷◌, length, set, get_or, eqb, refl, ap, sym, ◌∙◌, subst, inl, inr, ⊎_elim, arith, Option, Some, length-set, get_or-set_same}
use mathlib.Core.List.{IsPrefix}
use mathlib.Core.Option.{none, some}
use prog.Atomic.{either}
use lib.ListN.{get_elem?}
use Rattle.atomic_table.specs.Table.{State, Me, step, Act, keeps, takes, stepped, Allows, Valid, carried_after}
use Rattle.atomic_table.proofs.Lists.{set_here, set_again, exchanged}
use Rattle.tt_seatlock.specs.declared.view.View.{View}
use Rattle.tt_seatlock.specs.History.{made_by}
use Rattle.tt_seatlock.specs.Views.{with_turn}
use Rattle.tt_seatlock.specs.Rule.{SeatOk, HasSeat, IsKept, Ruled, Won, won, compared}
use Rattle.tt_seatlock.proofs.Moves.{one_kept, place_in, each_set, was_set, apart_after, seat_set}

module _ {B E G : Type 0} (entries : B → List E) (number : E → ℕ) (ground_of : B → G) where
  abbrev St : Type 0
  St = State (Option B) (View E G)

  abbrev M : Type 0
  M = Me (Option B) (View E G)

  abbrev Rule : St → Type 0
  Rule = Ruled entries number ground_of

  -- the same words and views make the same state
  pub same_state : (s : St) (words : List ℕ) (views : List (View E G)) → words ≡ s.words → views ≡ s.views → Rule s → Rule record { words = words; homes = s.homes; views = views }
  same_state s words views w v r = subst (λ (x : List ℕ × List (View E G)). Rule record { words = x.0; homes = s.homes; views = x.1 }) (λ i. (sym w i, sym v i)) r

  -- the seat may do nothing where the word keeps its value
  pub nothing_done : (s : St) (r : Rule s) (id : ℕ) (m : M) → get_elem? s.views id ≡ some m.0 → Rule (stepped s 0 (get_or s.words 0 0) id m.1 m.0 keeps)
  nothing_done s r id m at = same_state s (set s.words 0 (get_or s.words 0 0)) (set s.views id m.0) (one_kept s.words r.one_word) (set_again s.views id m.0 at) r

  -- the word is read
  pub looks : (n id : ℕ) (m : M) → m.0.live ≡ true → Allows Rule n id m 0 (λ y. y) (compared (step n 0 0 0 none) m)
  looks n id m live s r wide at fits = (m.0, keeps, tt, nothing_done s r id m at, (refl, (r.seats id m.0 at live).shown_is))

  -- the turn was won
  module _ (s : St) (r : Rule s) (id : ℕ) (m : M) (live : m.0.live ≡ true) (at : get_elem? s.views id ≡ some m.0) (free : r.held ≡ false) where
    winner_ok : (b : B) → entries b ≡ r.log → SeatOk number r.log r.place r.made r.kept true id id (with_turn m.0 (entries b))
    winner_ok b same = let ok = r.seats id m.0 at live in record {
      below = ok.below;
      same_ground = ok.same_ground;
      seen_is = ok.seen_is;
      shown_is = ok.shown_is;
      mine_is = ok.mine_is;
      not_kept = ok.not_kept;
      turn_is = λ _. (refl, refl, same);
      chief = ok.chief;
    }

    loser_ok : (j : ℕ) (v : View E G) → get_elem? s.views j ≡ some v → v.live ≡ true → SeatOk number r.log r.place r.made r.kept true id j v
    loser_ok j v there living = let ok = r.seats j v there living in record {
      below = ok.below;
      same_ground = ok.same_ground;
      seen_is = ok.seen_is;
      shown_is = ok.shown_is;
      mine_is = ok.mine_is;
      not_kept = ok.not_kept;
      turn_is = λ turn. let clash : true ≡ false = sym (ok.turn_is turn).0 ∙ free in absurd cc;
      chief = ok.chief;
    }

    taken : (b : B) → entries b ≡ r.log → Rule (stepped s 0 (get_or s.words 0 0 + 1) id m.1 (with_turn m.0 (entries b)) (takes 0 (Some b)))
    taken b same = let w = with_turn m.0 (entries b) in record {
      log = r.log;
      place = r.place;
      made = r.made;
      kept = r.kept;
      held = true;
      holder = id;
      one_word = length-set s.words 0 (get_or s.words 0 0 + 1) ∙ r.one_word;
      one_slot = length-set s.homes 0 none ∙ r.one_slot;
      even = λ e. cc;
      home = λ e. cc;
      odd = λ _. get_or-set_same s.words 0 (get_or s.words 0 0 + 1) 0 (omega (arith, r.one_word)) ∙ ap (λ (k : ℕ). k + 1) (r.even free);
      away = λ _. (w, set_here s.views id w (place_in s.views id m.0 at), live, refl);
      seats = each_set (SeatOk number r.log r.place r.made r.kept true id) s.views id w (λ _. winner_ok b same) (λ j v _ there living. loser_ok j v there living);
      apart = apart_after s.views (set s.views id w) r.apart (was_set s.views id m.0 w at (λ _. (live, refl)));
      kept_are = r.kept_are;
      unmade = r.unmade;
      present = λ n h. ⊎_elim (λ (t : HasSeat s.views n). inl (seat_set s.views id m.0 w at live refl n t)) (λ (t : IsKept r.kept n). inr t) (r.present n h);
    }

    wins : (n old : ℕ) → get_or s.words 0 0 ≡ old
        → (w : View E G) × (a : Act (Option B)) × Valid s.homes m.1 a × Rule (stepped s 0 (get_or s.words 0 0 + 1) id m.1 w a) × won entries number ground_of (step n 0 old (old + 1) none) m (get_or s.words 0 0) (w, carried_after m.1 a)
    wins n old here =
        let home = r.home free in
        let ok = r.seats id m.0 at live in
        let b = home.0 in
        let log_is : r.log ≡ entries b = sym home.2 in
        let own : Won entries number ground_of m (with_turn m.0 (entries b), (0, Some b) ∷ m.1) = record {
          book = b;
          now = refl;
          goes_on = subst (IsPrefix m.0.seen) log_is ok.seen_is;
          own = ap (made_by number m.0.number) home.2 ∙ ok.mine_is;
          same_ground = ok.same_ground ∙ ap (λ (g : G). Some g) (sym home.3);
        } in
        (with_turn m.0 (entries b), takes 0 (Some b), home.1, taken b home.2, ((λ _. own), (λ miss. absurd (miss here))))

  parity : (held : Bool) (x len : ℕ) → (held ≡ true → x ≡ 2 * len + 1) → x % 2 ≡ 0 → held ≡ false
  parity true x len odd even = let e : x ≡ 2 * len + 1 = odd refl in absurd (omega arith)
  parity false x len odd even = refl

  -- where the word is as expected, and even, the turn is won; and else nothing changes
  pub tries : (n id old : ℕ) (m : M) → m.0.live ≡ true → old % 2 ≡ 0 → Allows Rule n id m 0 (λ y. either (eqb y old) (old + 1) y) (won entries number ground_of (step n 0 old (old + 1) none) m)
  tries n id old m live even s r wide at fits =
      let y : ℕ = get_or s.words 0 0 in
      let Goes : ℕ → Type 0 = λ x. (w : View E G) × (a : Act (Option B)) × Valid s.homes m.1 a × Rule (stepped s 0 x id m.1 w a) × won entries number ground_of (step n 0 old (old + 1) none) m y (w, carried_after m.1 a) in
      exchanged y old (old + 1) Goes
      (λ hit. subst (λ (k : ℕ). Goes (k + 1)) hit (wins s r id m live at (parity r.held y (length r.log) r.odd (ap (λ (k : ℕ). k % 2) hit ∙ even)) n old hit))
      (λ miss. (m.0, keeps, tt, nothing_done s r id m at, ((λ hit. absurd (miss hit)), (λ _. refl))))
