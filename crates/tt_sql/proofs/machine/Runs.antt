-- The machine is exact: it gives the marks of the one derivation, or the place of the fault.
use Rattle.std.proofs.Common.{◌≡◌, ℕ, ◌<◌, Bool, true, false, not, ◌&&◌, ◌==◌, ◌⊎◌, inl, inr, List, [], ◌∷◌, ◌++◌, Option, Some, None, Result, Ok, Err, if◌then◌else◌, refl, sym, ap, ◌∙◌, subst, append_assoc, true≢false, eq-eqb, is_none}
use Rattle.std.proofs.lemmas.Bool.{and_parts}
use Rattle.tt_sql.specs.grammar.Grammar.{Lexeme, Mark, Way, Rule, Gram, Tok, Deep, Note, Both, Either, Many, Again, is_of, Spells, nothing, token, note, both, left, right, more, enough, again, latest_place, last_place, Viable, Stops, IsFault}
use Rattle.tt_sql.specs.machine.Machine.{Entry, Into, Pass, Stuck, enter, enter_within, enter_part, enter_both, enter_either, enter_many, front_marks, Step, Next, Halt, step_from, step, both_marks, first_marks, close_part, close, closed, with_marks, go_on, run}
use Rattle.tt_sql.proofs.machine.Decisions.{empty, first, starts, firsts, apart, fit, lean, whole, Tests, IsTable}
use Rattle.tt_sql.specs.grammar.Lexemes.{AreKinds}
use Rattle.tt_sql.proofs.grammar.Fronts.{false≢true, or_split, and_join, or_first, or_second, not_both, within-at, starts-wider, all_empty, ends}
use Rattle.tt_sql.proofs.machine.Sound.{sound_step, IsSoundStep}
use Rattle.tt_sql.proofs.machine.Complete.{Follows, Fits, IsWayStep, complete_step}

-- ---- what a step leaves on the stack

abbrev pub FitsAfter : Tests → List Gram → Entry → Type 0
FitsAfter tests K (Into deeper m parts) = Fits tests (parts ++ K)
FitsAfter tests K (Pass m) = Unit {0}
FitsAfter tests K Stuck = Unit {0}

module _ (tests : Tests) where
  fits_if : (K : List Gram) (deeper b : Bool) → Fits tests K → FitsAfter tests K (if b then Into deeper [] [] else Stuck)
  fits_if K deeper true fits = fits
  fits_if K deeper false fits = tt

  fits_front : (K : List Gram) (m : List Mark) (e : Entry) → FitsAfter tests K e → FitsAfter tests K (front_marks m e)
  fits_front K m (Into deeper n parts) s = s
  fits_front K m (Pass n) s = s
  fits_front K m Stuck s = s

  fits_both : (h : Gram) (K : List Gram) (a e : Entry) → FitsAfter tests (h ∷ K) a → FitsAfter tests K e → FitsAfter tests K (enter_both a h e)
  fits_both h K (Into deeper m parts) e s u = subst (Fits tests) (sym (append_assoc parts (h ∷ []) K)) s
  fits_both h K (Pass m) e s u = fits_front K m e u
  fits_both h K Stuck e s u = tt

  fits_either : (K : List Gram) (a e : Entry) → FitsAfter tests K a → FitsAfter tests K e → FitsAfter tests K (enter_either a e)
  fits_either K (Into deeper m parts) e s u = s
  fits_either K (Pass m) (Into deeper n parts) s u = u
  fits_either K (Pass m) (Pass n) s u = tt
  fits_either K (Pass m) Stuck s u = tt
  fits_either K Stuck e s u = u

  fits_many : (g : Gram) (K : List Gram) (a : Entry) → FitsAfter tests (Many g ∷ K) a → FitsAfter tests K (enter_many a g)
  fits_many g K (Into deeper m parts) s = subst (Fits tests) (sym (append_assoc parts (Many g ∷ []) K)) s
  fits_many g K (Pass m) s = tt
  fits_many g K Stuck s = tt

  wider : (F : ℕ → Bool) (h : Gram) (K : List Gram) → Follows tests F K → Follows tests (starts tests F h) (h ∷ K)
  unfolding firsts
  wider F h K follows k less e = starts-wider tests (firsts tests K) F h k (follows k less) e

  fits_enter : (call : Rule → ℕ → Entry) (done : List Lexeme) (t : Lexeme) → ((r : Rule) (d : ℕ) (K : List Gram) (F : ℕ → Bool) → fit tests F (Again r d) ≡ true → Follows tests F K → Fits tests K → FitsAfter tests K (call r d)) → (g : Gram) (K : List Gram) (F : ℕ → Bool) → fit tests F g ≡ true → Follows tests F K → Fits tests K → FitsAfter tests K (enter call done t g)
  unfolding enter fit
  fits_enter call done t calls (Tok k others) K F e follows fits = fits_if K false (is_of k others t.kind) fits
  fits_enter call done t calls (Deep deeper) K F e follows fits = fits_if K true (deeper t.kind) fits
  fits_enter call done t calls (Note f) K F e follows fits = tt
  fits_enter call done t calls (Both g h) K F e follows fits =
      let p = and_parts (fit tests (starts tests F h) g) (fit tests F h) e in
      fits_both h K (enter call done t g) (enter call done t h) (fits_enter call done t calls g (h ∷ K) (starts tests F h) p.0 (wider F h K follows) (F, p.1, follows, fits)) (fits_enter call done t calls h K F p.1 follows fits)
  fits_enter call done t calls (Either g h) K F e follows fits =
      let p = and_parts (fit tests F g) (fit tests F h) (and_parts (not (empty g && empty h)) (fit tests F g && fit tests F h) (and_parts (apart tests.kinds (starts tests F g) (starts tests F h)) (not (empty g && empty h) && (fit tests F g && fit tests F h)) e).1).1 in
      fits_either K (enter call done t g) (enter call done t h) (fits_enter call done t calls g K F p.0 follows fits) (fits_enter call done t calls h K F p.1 follows fits)
  fits_enter call done t calls (Many g) K F e follows fits =
      let p = and_parts (not (empty g)) (fit tests (starts tests F (Many g)) g) (and_parts (apart tests.kinds (first tests g) F) (not (empty g) && fit tests (starts tests F (Many g)) g) e).1 in
      fits_many g K (enter call done t g) (fits_enter call done t calls g (Many g ∷ K) (starts tests F (Many g)) p.1 (wider F (Many g) K follows) (F, e, follows, fits))
  fits_enter call done t calls (Again r d) K F e follows fits = calls r d K F e follows fits

abbrev pub FitsStep : Tests → Step → Type 0
FitsStep tests (Next deeper m L) = Fits tests L
FitsStep tests Halt = Unit {0}

-- each part on the stack can be completed
abbrev pub Ready : List Gram → Type 0
Ready [] = Unit {0}
Ready (g ∷ K) = (lean true g ≡ true) × (whole g ≡ true) × Ready K

abbrev pub ReadyAfter : List Gram → Entry → Type 0
ReadyAfter K (Into deeper m parts) = Ready (parts ++ K)
ReadyAfter K (Pass m) = Unit {0}
ReadyAfter K Stuck = Unit {0}

ready_if : (K : List Gram) (deeper b : Bool) → Ready K → ReadyAfter K (if b then Into deeper [] [] else Stuck)
ready_if K deeper true ready = ready
ready_if K deeper false ready = tt

ready_front : (K : List Gram) (m : List Mark) (e : Entry) → ReadyAfter K e → ReadyAfter K (front_marks m e)
ready_front K m (Into deeper n parts) s = s
ready_front K m (Pass n) s = s
ready_front K m Stuck s = s

ready_both : (h : Gram) (K : List Gram) (a e : Entry) → ReadyAfter (h ∷ K) a → ReadyAfter K e → ReadyAfter K (enter_both a h e)
ready_both h K (Into deeper m parts) e s u = subst Ready (sym (append_assoc parts (h ∷ []) K)) s
ready_both h K (Pass m) e s u = ready_front K m e u
ready_both h K Stuck e s u = tt

ready_either : (K : List Gram) (a e : Entry) → ReadyAfter K a → ReadyAfter K e → ReadyAfter K (enter_either a e)
ready_either K (Into deeper m parts) e s u = s
ready_either K (Pass m) (Into deeper n parts) s u = u
ready_either K (Pass m) (Pass n) s u = tt
ready_either K (Pass m) Stuck s u = tt
ready_either K Stuck e s u = u

ready_many : (g : Gram) (K : List Gram) (a : Entry) → ReadyAfter (Many g ∷ K) a → ReadyAfter K (enter_many a g)
ready_many g K (Into deeper m parts) s = subst Ready (sym (append_assoc parts (Many g ∷ []) K)) s
ready_many g K (Pass m) s = tt
ready_many g K Stuck s = tt

ready_enter : (call : Rule → ℕ → Entry) (done : List Lexeme) (t : Lexeme) → ((r : Rule) (d : ℕ) (K : List Gram) → Ready K → ReadyAfter K (call r d)) → (g : Gram) (K : List Gram) → whole g ≡ true → Ready K → ReadyAfter K (enter call done t g)
unfolding enter whole lean
ready_enter call done t calls (Tok k others) K e ready = ready_if K false (is_of k others t.kind) ready
ready_enter call done t calls (Deep deeper) K e ready = ready_if K true (deeper t.kind) ready
ready_enter call done t calls (Note f) K e ready = tt
ready_enter call done t calls (Both g h) K e ready =
    let p = and_parts (whole g) (whole h && lean true h) e in
    let q = and_parts (whole h) (lean true h) p.1 in
    ready_both h K (enter call done t g) (enter call done t h) (ready_enter call done t calls g (h ∷ K) p.0 (q.1, q.0, ready)) (ready_enter call done t calls h K q.0 ready)
ready_enter call done t calls (Either g h) K e ready =
    let p = and_parts (whole g) (whole h) e in
    ready_either K (enter call done t g) (enter call done t h) (ready_enter call done t calls g K p.0 ready) (ready_enter call done t calls h K p.1 ready)
ready_enter call done t calls (Many g) K e ready = ready_many g K (enter call done t g) (ready_enter call done t calls g (Many g ∷ K) e (refl, e, ready))
ready_enter call done t calls (Again r d) K e ready = calls r d K ready

abbrev pub ReadyStep : Step → Type 0
ReadyStep (Next deeper m L) = Ready L
ReadyStep Halt = Unit {0}

module _ (tests : Tests) (rule : Rule → ℕ → Gram) (table : IsTable tests rule) (done : List Lexeme) (t : Lexeme) where
  fits_call : (r : Rule) (d : ℕ) (K : List Gram) (F : ℕ → Bool) → fit tests F (Again r d) ≡ true → Follows tests F K → Fits tests K → FitsAfter tests K (enter_within done t (rule r d))
  unfolding fit
  fits_call r d K F e follows fits = fits_enter tests (λ r d. Stuck) done t (λ r d K F e follows fits. tt) (rule r d) K (tests.follow r) (table.fits r d) (λ k less h. within-at tests.kinds F (tests.follow r) k e less (follows k less h)) fits

  fits_part : (g : Gram) (K : List Gram) → Fits tests (g ∷ K) → FitsAfter tests K (enter_part rule done t g)
  fits_part g K fits = fits_enter tests (λ r d. enter_within done t (rule r d)) done t fits_call g K fits.0 fits.1 fits.2 fits.3

  fits_from : (K : List Gram) (e : Entry) (s : Step) → FitsAfter tests K e → FitsStep tests s → FitsStep tests (step_from e K s)
  fits_from K (Into deeper m parts) s p q = p
  fits_from K (Pass m) (Next deeper n L) p q = q
  fits_from K (Pass m) Halt p q = tt
  fits_from K Stuck s p q = tt

  fits_step : (K : List Gram) → Fits tests K → FitsStep tests (step rule done t K)
  unfolding step
  fits_step [] fits = tt
  fits_step (g ∷ K) fits = fits_from K (enter_part rule done t g) (step rule done t K) (fits_part g K fits) (fits_step K fits.3)

  ready_part : (g : Gram) (K : List Gram) → Ready (g ∷ K) → ReadyAfter K (enter_part rule done t g)
  ready_part g K ready = ready_enter (λ r d. enter_within done t (rule r d)) done t (λ r d K ready. ready_enter (λ r d. Stuck) done t (λ r d K ready. tt) (rule r d) K (table.pending r d) ready) g K ready.1 ready.2

  ready_from : (K : List Gram) (e : Entry) (s : Step) → ReadyAfter K e → ReadyStep s → ReadyStep (step_from e K s)
  ready_from K (Into deeper m parts) s p q = p
  ready_from K (Pass m) (Next deeper n L) p q = q
  ready_from K (Pass m) Halt p q = tt
  ready_from K Stuck s p q = tt

  ready_step : (K : List Gram) → Ready K → ReadyStep (step rule done t K)
  unfolding step
  ready_step [] ready = tt
  ready_step (g ∷ K) ready = ready_from K (enter_part rule done t g) (step rule done t K) (ready_part g K ready) (ready_step K ready.2)

-- ---- each stack can be completed

abbrev pub Completes : (Rule → ℕ → Gram) → Bool → List Gram → Type 0
Completes rule lifted K = (done : List Lexeme) → (us : List Lexeme) × (m : List Mark) × Spells rule lifted done K m us

abbrev pub plain : ℕ → Lexeme
plain k = record { kind = k; place = 0; text = [] }

module _ (rule : Rule → ℕ → Gram) (lifted : Bool) where
  lean_completes : (may : Bool) → (may ≡ true → (r : Rule) (d : ℕ) (K : List Gram) → Completes rule lifted K → Completes rule lifted (Again r d ∷ K)) → (g : Gram) (K : List Gram) → lean may g ≡ true → Completes rule lifted K → Completes rule lifted (g ∷ K)
  unfolding lean
  lean_completes may calls (Tok k others) K e c = λ done. let r = c (plain k ∷ done) in (plain k ∷ r.0, r.1, token (or_first (k == k) (others k) (eq-eqb k k refl)) r.2)
  lean_completes may calls (Deep kinds) K e c = absurd (false≢true e)
  lean_completes may calls (Note f) K e c = λ done. let r = c done in (r.0, f done ++ r.1, note r.2)
  lean_completes may calls (Both g h) K e c = λ done.
      let p = and_parts (lean may g) (lean may h) e in
      let r = lean_completes may calls g (h ∷ K) p.0 (lean_completes may calls h K p.1 c) done in
      (r.0, r.1, both r.2)
  lean_completes may calls (Either g h) K e c = lean_either (or_split (lean may g) (lean may h) e) (λ l. lean_completes may calls g K l c) (λ l. lean_completes may calls h K l c)
    where
      lean_either : ((lean may g ≡ true) ⊎ (lean may h ≡ true)) → (lean may g ≡ true → Completes rule lifted (g ∷ K)) → (lean may h ≡ true → Completes rule lifted (h ∷ K)) → Completes rule lifted (Either g h ∷ K)
      lean_either (inl l) p q = λ done. let r = p l done in (r.0, r.1, left r.2)
      lean_either (inr l) p q = λ done. let r = q l done in (r.0, r.1, right r.2)
  lean_completes may calls (Many g) K e c = λ done. let r = c done in (r.0, Way 0 ∷ r.1, enough r.2)
  lean_completes may calls (Again r d) K e c = calls e r d K c

module _ (tests : Tests) (rule : Rule → ℕ → Gram) (table : IsTable tests rule) (lifted : Bool) where
  again_completes : (r : Rule) (d : ℕ) (K : List Gram) → Completes rule lifted K → Completes rule lifted (Again r d ∷ K)
  again_completes r d K c = λ done. let l = lean_completes rule lifted false (λ may. absurd (false≢true may)) (rule r d) K (table.completes r d) c done in (l.0, l.1, again l.2)

  pub ready_completes : (K : List Gram) → Ready K → Completes rule lifted K
  ready_completes [] ready = λ done. ([], [], nothing)
  ready_completes (g ∷ K) ready = lean_completes rule lifted true (λ may. again_completes) g K ready.0 (ready_completes K ready.2)

-- ---- where the tokens end

abbrev IsEmptied : Gram → Option (List Mark) → Type 0
IsEmptied g (Some m) = empty g ≡ true
IsEmptied g None = Unit {0}

emptied_both : (g h : Gram) (a b : Option (List Mark)) → IsEmptied g a → IsEmptied h b → IsEmptied (Both g h) (both_marks a b)
unfolding empty
emptied_both g h (Some m) (Some n) p q = and_join (empty g) (empty h) p q
emptied_both g h (Some m) None p q = tt
emptied_both g h None b p q = tt

emptied_either : (g h : Gram) (a b : Option (List Mark)) → IsEmptied g a → IsEmptied h b → IsEmptied (Either g h) (first_marks a b)
unfolding empty
emptied_either g h (Some m) b p q = or_first (empty g) (empty h) p
emptied_either g h None (Some m) p q = or_second (empty g) (empty h) q
emptied_either g h None None p q = tt

emptied : (done : List Lexeme) (g : Gram) → IsEmptied g (close_part done g)
unfolding close_part empty
emptied done (Tok k others) = tt
emptied done (Deep kinds) = tt
emptied done (Note f) = refl
emptied done (Both g h) = emptied_both g h (close_part done g) (close_part done h) (emptied done g) (emptied done h)
emptied done (Either g h) = emptied_either g h (close_part done g) (close_part done h) (emptied done g) (emptied done h)
emptied done (Many g) = refl
emptied done (Again r d) = tt

none_emptied : (g : Gram) (a : Option (List Mark)) → IsEmptied g a → empty g ≡ false → a ≡ None
none_emptied g (Some m) p e = absurd (true≢false (sym p ∙ e))
none_emptied g None p e = refl

pub closes_none : (done : List Lexeme) (g : Gram) → empty g ≡ false → close_part done g ≡ None
closes_none done g e = none_emptied g (close_part done g) (emptied done g) e

-- the marks at the end are those of this derivation
pub record IsEnd (rule : Rule → ℕ → Gram) (lifted : Bool) (done : List Lexeme) (K : List Gram) (m : List Mark) (a : Option (List Mark)) : Type 0 where
  pub here : List Mark
  pub later : List Mark
  pub is : a ≡ Some here
  pub marks : m ≡ here ++ later
  pub behind : Spells rule lifted done K later []

module _ (tests : Tests) (rule : Rule → ℕ → Gram) (lifted : Bool) (solid : (r : Rule) (d : ℕ) → empty (rule r d) ≡ false) (done : List Lexeme) where
  end_both : (h : Gram) (K : List Gram) (m : List Mark) (a b : Option (List Mark)) → (w : IsEnd rule lifted done (h ∷ K) m a) → IsEnd rule lifted done K w.later b → IsEnd rule lifted done K m (both_marks a b)
  end_both h K m a b w v = record {
    here = w.here ++ v.here;
    later = v.later;
    is = rw (w.is, v.is) refl;
    marks = w.marks ∙ ap (λ (x : List Mark). w.here ++ x) v.marks ∙ sym (append_assoc w.here v.here v.later);
    behind = v.behind;
  }

  end_left : (K : List Gram) (m : List Mark) (a b : Option (List Mark)) → IsEnd rule lifted done K m a → IsEnd rule lifted done K m (first_marks a b)
  end_left K m a b w = record { here = w.here; later = w.later; is = rw w.is refl; marks = w.marks; behind = w.behind }

  end_right : (g : Gram) (K : List Gram) (m : List Mark) (a b : Option (List Mark)) → IsEmptied g a → (empty g ≡ true → ⊥) → IsEnd rule lifted done K m b → IsEnd rule lifted done K m (first_marks a b)
  end_right g K m (Some n) b s never w = absurd (never s)
  end_right g K m None b s never w = w

  end_part : (g : Gram) (K : List Gram) (m : List Mark) (F : ℕ → Bool) → fit tests F g ≡ true → Spells rule lifted done (g ∷ K) m [] → IsEnd rule lifted done K m (close_part done g)
  unfolding close_part fit all_empty empty
  end_part (Tok k others) K m F e d = elim d [ ]
  end_part (Deep kinds) K m F e d = elim d [ ]
  end_part (Note f) K m F e (note {m = n} d) = record { here = f done; later = n; is = refl; marks = refl; behind = d }
  end_part (Both g h) K m F e (both d) =
      let p = and_parts (fit tests (starts tests F h) g) (fit tests F h) e in
      let w = end_part g (h ∷ K) m (starts tests F h) p.0 d in
      end_both h K m (close_part done g) (close_part done h) w (end_part h K w.later F p.1 w.behind)
  end_part (Either g h) K m F e (left d) =
      let p = and_parts (fit tests F g) (fit tests F h) (and_parts (not (empty g && empty h)) (fit tests F g && fit tests F h) (and_parts (apart tests.kinds (starts tests F g) (starts tests F h)) (not (empty g && empty h) && (fit tests F g && fit tests F h)) e).1).1 in
      end_left K m (close_part done g) (close_part done h) (end_part g K m F p.0 d)
  end_part (Either g h) K m F e (right d) =
      let q = and_parts (not (empty g && empty h)) (fit tests F g && fit tests F h) (and_parts (apart tests.kinds (starts tests F g) (starts tests F h)) (not (empty g && empty h) && (fit tests F g && fit tests F h)) e).1 in
      let p = and_parts (fit tests F g) (fit tests F h) q.1 in
      end_right g K m (close_part done g) (close_part done h) (emptied done g)
      (λ s. not_both (empty g) (empty h) q.0 s (and_parts (empty h) (all_empty K) (ends rule lifted solid d)).0)
      (end_part h K m F p.1 d)
  end_part (Many g) K m F e (more d) =
      let p = and_parts (not (empty g)) (fit tests (starts tests F (Many g)) g) (and_parts (apart tests.kinds (first tests g) F) (not (empty g) && fit tests (starts tests F (Many g)) g) e).1 in
      absurd (true≢false (sym p.0 ∙ ap not (and_parts (empty g) (true && all_empty K) (ends rule lifted solid d)).0))
  end_part (Many g) K m F e (enough {m = n} d) = record { here = Way 0 ∷ []; later = n; is = refl; marks = refl; behind = d }
  end_part (Again r n) K m F e (again d) = absurd (true≢false (sym (and_parts (empty (rule r n)) (all_empty K) (ends rule lifted solid d)).0 ∙ solid r n))

  end_nothing : {m : List Mark} → Spells rule lifted done [] m [] → m ≡ []
  end_nothing nothing = refl

  pub complete_end : (K : List Gram) (m : List Mark) → Fits tests K → Spells rule lifted done K m [] → close done K ≡ Some m
  unfolding close
  complete_end [] m fits d = rw (end_nothing d) refl
  complete_end (g ∷ K) m fits d =
      let w = end_part g K m fits.0 fits.1 d in
      let v : close done K ≡ Some w.later = complete_end K w.later fits.3 w.behind in
      rw (w.is, v) (ap (λ (x : List Mark). Some x) (sym w.marks))

-- ---- faults

module _ (tests : Tests) (rule : Rule → ℕ → Gram) (table : IsTable tests rule) (end : ℕ) where
  -- what a step that goes on says of what is viable behind it
  viable_later : (lifted : Bool) (done : List Lexeme) (t : Lexeme) (K L : List Gram) (m n : List Mark) (ts : List Lexeme) → t.kind < tests.kinds → Fits tests K → step rule done t K ≡ Next false n L → Spells rule lifted done K m (t ∷ ts) → (l : List Mark) × Spells rule lifted (t ∷ done) L l ts
  viable_later lifted done t K L m n ts known fits e d =
      let w : IsWayStep rule lifted done t ts m (Next false n L) = subst (IsWayStep rule lifted done t ts m) e (complete_step tests rule table lifted done t ts known K m fits d) in
      (w.1, w.3)

  viable_before : (lifted : Bool) (done : List Lexeme) (t : Lexeme) (K L : List Gram) (n l : List Mark) (ts : List Lexeme) → step rule done t K ≡ Next false n L → Spells rule lifted (t ∷ done) L l ts → Spells rule lifted done K (n ++ l) (t ∷ ts)
  viable_before lifted done t K L n l ts e d =
      let s : IsSoundStep rule lifted done t ts K (Next false n L) = subst (IsSoundStep rule lifted done t ts K) e (sound_step rule lifted done t ts K) in
      s (λ x. absurd (false≢true x)) l d

  stops_later : (done : List Lexeme) (t : Lexeme) (K L : List Gram) (n : List Mark) (front rest : List Lexeme) (at : ℕ) → t.kind < tests.kinds → Fits tests K → step rule done t K ≡ Next false n L → Stops rule (t ∷ done) L end front rest at → Stops rule done K end (t ∷ front) rest at
  stops_later done t K L n front [] at known fits e s = (s.0, λ m d. let w = viable_later false done t K L m n front known fits e d in s.1 w.0 w.1)
  stops_later done t K L n front (u ∷ rest) at known fits e s =
      (λ v. let w = viable_later false done t K L v.1 n ((front ++ u ∷ []) ++ v.0) known fits e v.2 in s.0 (v.0, w.0, w.1), places s.1)
    where
      places : (((at ≡ u.place) × (Viable rule true (t ∷ done) L (front ++ u ∷ []) → ⊥)) ⊎ ((at ≡ last_place (t ∷ done) front) × Viable rule true (t ∷ done) L (front ++ u ∷ [])))
          → (((at ≡ u.place) × (Viable rule true done K ((t ∷ front) ++ u ∷ []) → ⊥)) ⊎ ((at ≡ last_place done (t ∷ front)) × Viable rule true done K ((t ∷ front) ++ u ∷ [])))
      places (inl p) = inl (p.0, λ v. let w = viable_later true done t K L v.1 n ((front ++ u ∷ []) ++ v.0) known fits e v.2 in p.1 (v.0, w.0, w.1))
      places (inr p) = inr (p.0, (p.1.0, n ++ p.1.1, viable_before true done t K L n p.1.1 ((front ++ u ∷ []) ++ p.1.0) e p.1.2))

  fault_later : (done : List Lexeme) (t : Lexeme) (K L : List Gram) (n : List Mark) (ts : List Lexeme) (at : ℕ) → t.kind < tests.kinds → Fits tests K → step rule done t K ≡ Next false n L → IsFault rule (t ∷ done) L end ts at → IsFault rule done K end (t ∷ ts) at
  fault_later done t K L n ts at known fits e f = record {
    front = t ∷ f.front;
    rest = f.rest;
    whole = ap (λ (x : List Lexeme). t ∷ x) f.whole;
    goes_on = (f.goes_on.0, n ++ f.goes_on.1, viable_before false done t K L n f.goes_on.1 (f.front ++ f.goes_on.0) e f.goes_on.2);
    stops = stops_later done t K L n f.front f.rest at known fits e f.stops;
  }

  fault_here : (done : List Lexeme) (t : Lexeme) (K : List Gram) (ts : List Lexeme) → t.kind < tests.kinds → Fits tests K → Ready K → step rule done t K ≡ Halt → IsFault rule done K end (t ∷ ts) t.place
  fault_here done t K ts known fits ready e = record {
    front = [];
    rest = t ∷ ts;
    whole = refl;
    goes_on = ready_completes tests rule table false K ready done;
    stops = (stuck false, inl (refl, stuck true));
  }
    where
      stuck : (lifted : Bool) → Viable rule lifted done K (t ∷ []) → ⊥
      stuck lifted v = subst (IsWayStep rule lifted done t v.0 v.1) e (complete_step tests rule table lifted done t v.0 known K v.1 fits v.2)

  fault_before : (done : List Lexeme) (t : Lexeme) (K L : List Gram) (n : List Mark) (ts : List Lexeme) → t.kind < tests.kinds → Fits tests K → Ready K → Ready L → step rule done t K ≡ Next true n L → IsFault rule done K end (t ∷ ts) (latest_place done)
  fault_before done t K L n ts known fits ready after e = record {
    front = [];
    rest = t ∷ ts;
    whole = refl;
    goes_on = ready_completes tests rule table false K ready done;
    stops = (
      (λ v. let w : IsWayStep rule false done t v.0 v.1 (Next true n L) = subst (IsWayStep rule false done t v.0 v.1) e (complete_step tests rule table false done t v.0 known K v.1 fits v.2) in false≢true (w.0 refl)),
      inr (refl, deeper),
    );
  }
    where
      deeper : Viable rule true done K (t ∷ [])
      deeper =
          let c = ready_completes tests rule table true L after (t ∷ done) in
          let s : IsSoundStep rule true done t c.0 K (Next true n L) = subst (IsSoundStep rule true done t c.0 K) e (sound_step rule true done t c.0 K) in
          (c.0, n ++ c.1, s (λ x. x) c.1 c.2)

  abbrev pub HasFault : List Lexeme → List Gram → List Lexeme → Result (List Mark) ℕ → Type 0
  HasFault done K ts (Ok m) = Unit {0}
  HasFault done K ts (Err at) = IsFault rule done K end ts at

  fault_with : (done : List Lexeme) (t : Lexeme) (K L : List Gram) (n : List Mark) (ts : List Lexeme) (r : Result (List Mark) ℕ) → t.kind < tests.kinds → Fits tests K → step rule done t K ≡ Next false n L → HasFault (t ∷ done) L ts r → HasFault done K (t ∷ ts) (with_marks n r)
  fault_with done t K L n ts (Ok m) known fits e f = tt
  fault_with done t K L n ts (Err at) known fits e f = fault_later done t K L n ts at known fits e f

  fault_on : (done : List Lexeme) (t : Lexeme) (K : List Gram) (ts : List Lexeme) (s : Step) (after : List Gram → Result (List Mark) ℕ) → t.kind < tests.kinds → Fits tests K → Ready K → FitsStep tests s → ReadyStep s → step rule done t K ≡ s → ((L : List Gram) → Fits tests L → Ready L → HasFault (t ∷ done) L ts (after L)) → HasFault done K (t ∷ ts) (go_on s t.place (latest_place done) after)
  fault_on done t K ts (Next false n L) after known fits ready fits_l ready_l e next = fault_with done t K L n ts (after L) known fits e (next L fits_l ready_l)
  fault_on done t K ts (Next true n L) after known fits ready fits_l ready_l e next = fault_before done t K L n ts known fits ready ready_l e
  fault_on done t K ts Halt after known fits ready fits_l ready_l e next = fault_here done t K ts known fits ready e

  fault_end : (done : List Lexeme) (K : List Gram) (a : Option (List Mark)) → Fits tests K → Ready K → close done K ≡ a → HasFault done K [] (closed end a)
  fault_end done K (Some m) fits ready e = tt
  fault_end done K None fits ready e = record {
    front = [];
    rest = [];
    whole = refl;
    goes_on = ready_completes tests rule table false K ready done;
    stops = (refl, λ m d. none_some m (sym e ∙ complete_end tests rule false table.solid done K m fits d));
  }
    where
      none_some : (m : List Mark) → None ≡ Some m → ⊥
      none_some m x = true≢false (ap is_none x)

  run_faults : (done : List Lexeme) (K : List Gram) (ts : List Lexeme) → Fits tests K → Ready K → AreKinds tests.kinds ts → HasFault done K ts (run rule end done K ts)
  unfolding run AreKinds
  run_faults done K [] fits ready known = fault_end done K (close done K) fits ready refl
  run_faults done K (t ∷ ts) fits ready known = fault_on done t K ts (step rule done t K) (λ L. run rule end (t ∷ done) L ts) known.0 fits ready (fits_step tests rule table done t K fits) (ready_step tests rule table done t K ready) refl (λ L fits_l ready_l. run_faults (t ∷ done) L ts fits_l ready_l known.1)

  -- the place that the machine gives is that of the fault
  pub run_err : (done : List Lexeme) (K : List Gram) (ts : List Lexeme) (at : ℕ) → Fits tests K → Ready K → AreKinds tests.kinds ts → run rule end done K ts ≡ Err at → IsFault rule done K end ts at
  run_err done K ts at fits ready known e = subst (HasFault done K ts) e (run_faults done K ts fits ready known)

  only_on : (done : List Lexeme) (t : Lexeme) (K : List Gram) (m : List Mark) (ts : List Lexeme) (s : Step) (after : List Gram → Result (List Mark) ℕ) → FitsStep tests s → IsWayStep rule false done t ts m s → ((L : List Gram) (l : List Mark) → Fits tests L → Spells rule false (t ∷ done) L l ts → after L ≡ Ok l) → go_on s t.place (latest_place done) after ≡ Ok m
  only_on done t K m ts (Next false n L) after fits w next = rw (next L w.1 fits w.3, w.2) refl
  only_on done t K m ts (Next true n L) after fits w next = absurd (false≢true (w.0 refl))
  only_on done t K m ts Halt after fits w next = absurd w

  -- what is spelled is read, with the marks of its derivation
  pub run_only : (done : List Lexeme) (K : List Gram) (ts : List Lexeme) (m : List Mark) → Fits tests K → AreKinds tests.kinds ts → Spells rule false done K m ts → run rule end done K ts ≡ Ok m
  unfolding run AreKinds
  run_only done K [] m fits known d = rw (complete_end tests rule false table.solid done K m fits d) refl
  run_only done K (t ∷ ts) m fits known d = only_on done t K m ts (step rule done t K) (λ L. run rule end (t ∷ done) L ts) (fits_step tests rule table done t K fits) (complete_step tests rule table false done t ts known.0 K m fits d) (λ L l fits_l. run_only (t ∷ done) L ts l fits_l known.1)
