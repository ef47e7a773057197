-- Where one token decides, each derivation goes the way of the machine.
use Rattle.std.proofs.Common.{◌≡◌, ℕ, ◌<◌, Bool, true, false, not, ◌&&◌, ◌||◌, List, [], ◌∷◌, ◌++◌, if◌then◌else◌, refl, sym, ap, ◌∙◌, subst, append_assoc, true≢false}
use Rattle.std.proofs.lemmas.Bool.{and_parts}
use Rattle.tt_sql.specs.grammar.Grammar.{Lexeme, Mark, Way, Rule, Gram, Tok, Deep, Note, Both, Either, Many, Again, is_of, Spells, token, deep, note, both, left, right, more, enough, again}
use Rattle.tt_sql.specs.machine.Machine.{Entry, Into, Pass, Stuck, enter, enter_within, enter_part, enter_both, enter_either, enter_many, front_marks, Step, Next, Halt, front_step, step_from, step}
use Rattle.tt_sql.proofs.machine.Decisions.{empty, first, starts, firsts, apart, within, fit, guarded, Tests, IsTable}
use Rattle.tt_sql.proofs.grammar.Fronts.{false≢true, and_join, or_first, or_second, not_both, implied, apart-at, within-at, starts-wider, begins}

-- ---- what an entry says of the token

abbrev pub IsEntered : Tests → ℕ → Gram → Entry → Type 0
IsEntered tests k g (Into deeper m parts) = first tests g k ≡ true
IsEntered tests k g (Pass m) = empty g ≡ true
IsEntered tests k g Stuck = Unit {0}

module _ (tests : Tests) where
  entered_tok : (k : ℕ) (others : ℕ → Bool) (j : ℕ) (b : Bool) → is_of k others j ≡ b → IsEntered tests j (Tok k others) (if b then Into false [] [] else Stuck)
  unfolding first
  entered_tok k others j true e = e
  entered_tok k others j false e = tt

  entered_deep : (kinds : ℕ → Bool) (j : ℕ) (b : Bool) → kinds j ≡ b → IsEntered tests j (Deep kinds) (if b then Into true [] [] else Stuck)
  unfolding first
  entered_deep kinds j true e = e
  entered_deep kinds j false e = tt

  entered_both : (k : ℕ) (g h : Gram) (d e : Entry) → IsEntered tests k g d → IsEntered tests k h e → IsEntered tests k (Both g h) (enter_both d h e)
  unfolding first empty
  entered_both k g h (Into deeper m parts) e s u = or_first (first tests g k) (empty g && first tests h k) s
  entered_both k g h (Pass m) (Into deeper n parts) s u = or_second (first tests g k) (empty g && first tests h k) (and_join (empty g) (first tests h k) s u)
  entered_both k g h (Pass m) (Pass n) s u = and_join (empty g) (empty h) s u
  entered_both k g h (Pass m) Stuck s u = tt
  entered_both k g h Stuck e s u = tt

  entered_either : (k : ℕ) (g h : Gram) (d e : Entry) → IsEntered tests k g d → IsEntered tests k h e → IsEntered tests k (Either g h) (enter_either d e)
  unfolding first empty
  entered_either k g h (Into deeper m parts) e s u = or_first (first tests g k) (first tests h k) s
  entered_either k g h (Pass m) (Into deeper n parts) s u = or_second (first tests g k) (first tests h k) u
  entered_either k g h (Pass m) (Pass n) s u = or_first (empty g) (empty h) s
  entered_either k g h (Pass m) Stuck s u = or_first (empty g) (empty h) s
  entered_either k g h Stuck (Into deeper n parts) s u = or_second (first tests g k) (first tests h k) u
  entered_either k g h Stuck (Pass n) s u = or_second (empty g) (empty h) u
  entered_either k g h Stuck Stuck s u = tt

  entered_many : (k : ℕ) (g : Gram) (e : Entry) → IsEntered tests k g e → IsEntered tests k (Many g) (enter_many e g)
  unfolding first empty
  entered_many k g (Into deeper m parts) s = s
  entered_many k g (Pass m) s = refl
  entered_many k g Stuck s = refl

  entered : (call : Rule → ℕ → Entry) (done : List Lexeme) (t : Lexeme) → ((r : Rule) (d : ℕ) → IsEntered tests t.kind (Again r d) (call r d)) → (g : Gram) → IsEntered tests t.kind g (enter call done t g)
  unfolding enter first empty
  entered call done t calls (Tok k others) = entered_tok k others t.kind (is_of k others t.kind) refl
  entered call done t calls (Deep kinds) = entered_deep kinds t.kind (kinds t.kind) refl
  entered call done t calls (Note f) = refl
  entered call done t calls (Both g h) = entered_both t.kind g h (enter call done t g) (enter call done t h) (entered call done t calls g) (entered call done t calls h)
  entered call done t calls (Either g h) = entered_either t.kind g h (enter call done t g) (enter call done t h) (entered call done t calls g) (entered call done t calls h)
  entered call done t calls (Many g) = entered_many t.kind g (enter call done t g) (entered call done t calls g)
  entered call done t calls (Again r d) = calls r d

  entered_within : (done : List Lexeme) (t : Lexeme) (g : Gram) → IsEntered tests t.kind g (enter_within done t g)
  entered_within done t g = entered (λ r d. Stuck) done t (λ r d. tt) g

  entered_call : (k : ℕ) (r : Rule) (d : ℕ) (g : Gram) (e : Entry) → (first tests g k ≡ true → tests.front r k ≡ true) → empty g ≡ false → IsEntered tests k g e → IsEntered tests k (Again r d) e
  unfolding first empty
  entered_call k r d g (Into deeper m parts) begin solid s = begin s
  entered_call k r d g (Pass m) begin solid s = absurd (true≢false (sym s ∙ solid))
  entered_call k r d g Stuck begin solid s = tt

-- ---- derivations

-- the entry is that of this derivation, and what is left of the derivation goes on from it
abbrev pub IsWay : (Rule → ℕ → Gram) → Bool → List Lexeme → Lexeme → List Lexeme → List Gram → List Mark → Entry → Type 0
IsWay rule lifted done t ts K m (Into deeper n parts) = (deeper ≡ true → lifted ≡ true) × (l : List Mark) × (m ≡ n ++ l) × Spells rule lifted (t ∷ done) (parts ++ K) l ts
IsWay rule lifted done t ts K m (Pass n) = (l : List Mark) × (m ≡ n ++ l) × Spells rule lifted done K l (t ∷ ts)
IsWay rule lifted done t ts K m Stuck = ⊥

-- what these parts begin with is of these kinds
abbrev pub Follows : Tests → (ℕ → Bool) → List Gram → Type 0
Follows tests F K = (k : ℕ) → k < tests.kinds → firsts tests K k ≡ true → F k ≡ true

module _ (tests : Tests) (rule : Rule → ℕ → Gram) (table : IsTable tests rule) (lifted : Bool) (done : List Lexeme) (t : Lexeme) (ts : List Lexeme) (known : t.kind < tests.kinds) where
  way_tok : (k : ℕ) (others : ℕ → Bool) (K : List Gram) (m : List Mark) (b : Bool) → is_of k others t.kind ≡ b → is_of k others t.kind ≡ true → Spells rule lifted (t ∷ done) K m ts → IsWay rule lifted done t ts K m (if b then Into false [] [] else Stuck)
  way_tok k others K m true e h d = (λ x. absurd (false≢true x), m, refl, d)
  way_tok k others K m false e h d = absurd (true≢false (sym h ∙ e))

  way_deep : (deeper : ℕ → Bool) (K : List Gram) (m : List Mark) (b : Bool) → deeper t.kind ≡ b → deeper t.kind ≡ true → lifted ≡ true → Spells rule lifted (t ∷ done) K m ts → IsWay rule lifted done t ts K m (if b then Into true [] [] else Stuck)
  way_deep deeper K m true e h l d = (λ x. l, m, refl, d)
  way_deep deeper K m false e h l d = absurd (true≢false (sym h ∙ e))

  -- the way of Both, where its first part lets the token by
  way_front : (h : Gram) (K : List Gram) (m n l : List Mark) (e : Entry) → m ≡ n ++ l → IsWay rule lifted done t ts K l e → IsWay rule lifted done t ts K m (front_marks n e)
  way_front h K m n l (Into deeper o parts) e w = (w.0, w.1, e ∙ ap (λ (x : List Mark). n ++ x) w.2 ∙ sym (append_assoc n o w.1), w.3)
  way_front h K m n l (Pass o) e w = (w.0, e ∙ ap (λ (x : List Mark). n ++ x) w.1 ∙ sym (append_assoc n o w.0), w.2)
  way_front h K m n l Stuck e w = w

  way_both : (g h : Gram) (K : List Gram) (m : List Mark) (a e : Entry) → IsWay rule lifted done t ts (h ∷ K) m a → ((l : List Mark) (n : List Mark) → a ≡ Pass n → Spells rule lifted done (h ∷ K) l (t ∷ ts) → IsWay rule lifted done t ts K l e) → IsWay rule lifted done t ts K m (enter_both a h e)
  way_both g h K m (Into deeper n parts) e w next = (w.0, w.1, w.2, subst (λ x. Spells rule lifted (t ∷ done) x w.1 ts) (sym (append_assoc parts (h ∷ []) K)) w.3)
  way_both g h K m (Pass n) e w next = way_front h K m n w.0 e w.1 (next w.0 n refl w.2)
  way_both g h K m Stuck e w next = absurd w

  -- the way of Either
  way_left : (g h : Gram) (K : List Gram) (m : List Mark) (a e : Entry) → IsEntered tests t.kind h e → (first tests h t.kind ≡ true → ⊥) → IsWay rule lifted done t ts K m a → IsWay rule lifted done t ts K m (enter_either a e)
  way_left g h K m (Into deeper n parts) e s never w = w
  way_left g h K m (Pass n) (Into deeper o parts) s never w = absurd (never s)
  way_left g h K m (Pass n) (Pass o) s never w = w
  way_left g h K m (Pass n) Stuck s never w = w
  way_left g h K m Stuck e s never w = absurd w

  way_right : (g h : Gram) (K : List Gram) (m : List Mark) (a e : Entry) → IsEntered tests t.kind g a → (first tests g t.kind ≡ true → ⊥) → ((n o : List Mark) → a ≡ Pass n → e ≡ Pass o → ⊥) → IsWay rule lifted done t ts K m e → IsWay rule lifted done t ts K m (enter_either a e)
  way_right g h K m (Into deeper n parts) e s never none w = absurd (never s)
  way_right g h K m (Pass n) (Into deeper o parts) s never none w = w
  way_right g h K m (Pass n) (Pass o) s never none w = absurd (none n o refl refl)
  way_right g h K m (Pass n) Stuck s never none w = absurd w
  way_right g h K m Stuck e s never none w = w

  -- the way of Many
  way_more : (g : Gram) (K : List Gram) (m : List Mark) (a : Entry) → IsEntered tests t.kind g a → (empty g ≡ true → ⊥) → IsWay rule lifted done t ts (Many g ∷ K) m a → IsWay rule lifted done t ts K (Way 1 ∷ m) (enter_many a g)
  way_more g K m (Into deeper n parts) s solid_part w = (w.0, w.1, ap (λ (x : List Mark). Way 1 ∷ x) w.2, subst (λ x. Spells rule lifted (t ∷ done) x w.1 ts) (sym (append_assoc parts (Many g ∷ []) K)) w.3)
  way_more g K m (Pass n) s solid_part w = absurd (solid_part s)
  way_more g K m Stuck s solid_part w = absurd w

  way_enough : (g : Gram) (K : List Gram) (m : List Mark) (a : Entry) → IsEntered tests t.kind g a → (first tests g t.kind ≡ true → ⊥) → Spells rule lifted done K m (t ∷ ts) → IsWay rule lifted done t ts K (Way 0 ∷ m) (enter_many a g)
  way_enough g K m (Into deeper n parts) s never d = absurd (never s)
  way_enough g K m (Pass n) s never d = (m, refl, d)
  way_enough g K m Stuck s never d = (m, refl, d)

  -- what may follow g in front of h
  wider : (F : ℕ → Bool) (h : Gram) (K : List Gram) → Follows tests F K → Follows tests (starts tests F h) (h ∷ K)
  unfolding firsts
  wider F h K follows k less e = starts-wider tests (firsts tests K) F h k (follows k less) e

  starting : (F : ℕ → Bool) (g : Gram) (K : List Gram) (m : List Mark) → Follows tests F K → Spells rule lifted done (g ∷ K) m (t ∷ ts) → starts tests F g t.kind ≡ true
  starting F g K m follows d = wider F g K follows t.kind known (begins tests rule table lifted known d)

  pub complete : (call : Rule → ℕ → Entry) (may : Bool) → ((r : Rule) (d : ℕ) → IsEntered tests t.kind (Again r d) (call r d)) → (may ≡ true → (r : Rule) (d : ℕ) (K : List Gram) (m : List Mark) (F : ℕ → Bool) → fit tests F (Again r d) ≡ true → Follows tests F K → Spells rule lifted done (Again r d ∷ K) m (t ∷ ts) → IsWay rule lifted done t ts K m (call r d)) → (g : Gram) (K : List Gram) (m : List Mark) (F : ℕ → Bool) → guarded may g ≡ true → fit tests F g ≡ true → Follows tests F K → Spells rule lifted done (g ∷ K) m (t ∷ ts) → IsWay rule lifted done t ts K m (enter call done t g)
  unfolding enter guarded fit
  complete call may in_calls calls (Tok k others) K m F guard fits follows (token e d) = way_tok k others K m (is_of k others t.kind) refl e d
  complete call may in_calls calls (Deep kinds) K m F guard fits follows (deep l e d) = way_deep kinds K m (kinds t.kind) refl e l d
  complete call may in_calls calls (Note f) K m F guard fits follows (note {m = n} d) = (n, refl, d)
  complete call may in_calls calls (Both g h) K m F guard fits follows (both d) =
      let guards = and_parts (guarded may g) (not (empty g) || guarded may h) guard in
      let fit_parts = and_parts (fit tests (starts tests F h) g) (fit tests F h) fits in
      way_both g h K m (enter call done t g) (enter call done t h)
      (complete call may in_calls calls g (h ∷ K) m (starts tests F h) guards.0 fit_parts.0 (wider F h K follows) d)
      (λ l n e u. complete call may in_calls calls h K l F (implied (empty g) (guarded may h) guards.1 (subst (IsEntered tests t.kind g) e (entered tests call done t in_calls g))) fit_parts.1 follows u)
  complete call may in_calls calls (Either g h) K m F guard fits follows (left d) =
      let guards = and_parts (guarded may g) (guarded may h) guard in
      let apart_parts = and_parts (apart tests.kinds (starts tests F g) (starts tests F h)) (not (empty g && empty h) && (fit tests F g && fit tests F h)) fits in
      let fit_parts = and_parts (fit tests F g) (fit tests F h) (and_parts (not (empty g && empty h)) (fit tests F g && fit tests F h) apart_parts.1).1 in
      way_left g h K m (enter call done t g) (enter call done t h) (entered tests call done t in_calls h)
      (λ other. apart-at tests.kinds (starts tests F g) (starts tests F h) t.kind apart_parts.0 known (starting F g K m follows d) (or_first (first tests h t.kind) (empty h && F t.kind) other))
      (complete call may in_calls calls g K m F guards.0 fit_parts.0 follows d)
  complete call may in_calls calls (Either g h) K m F guard fits follows (right d) =
      let guards = and_parts (guarded may g) (guarded may h) guard in
      let apart_parts = and_parts (apart tests.kinds (starts tests F g) (starts tests F h)) (not (empty g && empty h) && (fit tests F g && fit tests F h)) fits in
      let more_parts = and_parts (not (empty g && empty h)) (fit tests F g && fit tests F h) apart_parts.1 in
      let fit_parts = and_parts (fit tests F g) (fit tests F h) more_parts.1 in
      way_right g h K m (enter call done t g) (enter call done t h) (entered tests call done t in_calls g)
      (λ other. apart-at tests.kinds (starts tests F g) (starts tests F h) t.kind apart_parts.0 known (or_first (first tests g t.kind) (empty g && F t.kind) other) (starting F h K m follows d))
      (λ n o p q. not_both (empty g) (empty h) more_parts.0 (subst (IsEntered tests t.kind g) p (entered tests call done t in_calls g)) (subst (IsEntered tests t.kind h) q (entered tests call done t in_calls h)))
      (complete call may in_calls calls h K m F guards.1 fit_parts.1 follows d)
  complete call may in_calls calls (Many g) K m F guard fits follows (more {m = n} d) =
      let apart_parts = and_parts (apart tests.kinds (first tests g) F) (not (empty g) && fit tests (starts tests F (Many g)) g) fits in
      let fit_parts = and_parts (not (empty g)) (fit tests (starts tests F (Many g)) g) apart_parts.1 in
      way_more g K n (enter call done t g) (entered tests call done t in_calls g)
      (λ e. true≢false (sym fit_parts.0 ∙ ap not e))
      (complete call may in_calls calls g (Many g ∷ K) n (starts tests F (Many g)) guard fit_parts.1 (wider F (Many g) K follows) d)
  complete call may in_calls calls (Many g) K m F guard fits follows (enough {m = n} d) =
      let apart_parts = and_parts (apart tests.kinds (first tests g) F) (not (empty g) && fit tests (starts tests F (Many g)) g) fits in
      way_enough g K n (enter call done t g) (entered tests call done t in_calls g)
      (λ e. apart-at tests.kinds (first tests g) F t.kind apart_parts.0 known e (follows t.kind known (begins tests rule table lifted known d))) d
  complete call may in_calls calls (Again r d) K m F guard fits follows l = calls guard r d K m F fits follows l

-- ---- parts and steps

guarded-may : (g : Gram) → guarded true g ≡ true
unfolding guarded
guarded-may (Tok k others) = refl
guarded-may (Deep kinds) = refl
guarded-may (Note f) = refl
guarded-may (Both g h) = and_join (guarded true g) (not (empty g) || guarded true h) (guarded-may g) (or_second (not (empty g)) (guarded true h) (guarded-may h))
guarded-may (Either g h) = and_join (guarded true g) (guarded true h) (guarded-may g) (guarded-may h)
guarded-may (Many g) = guarded-may g
guarded-may (Again r d) = refl

-- each part on the stack fits what stands below it
abbrev pub Fits : Tests → List Gram → Type 0
Fits tests [] = Unit {0}
Fits tests (g ∷ K) = (F : ℕ → Bool) × (fit tests F g ≡ true) × Follows tests F K × Fits tests K

abbrev pub IsWayStep : (Rule → ℕ → Gram) → Bool → List Lexeme → Lexeme → List Lexeme → List Mark → Step → Type 0
IsWayStep rule lifted done t ts m (Next deeper n L) = (deeper ≡ true → lifted ≡ true) × (l : List Mark) × (m ≡ n ++ l) × Spells rule lifted (t ∷ done) L l ts
IsWayStep rule lifted done t ts m Halt = ⊥

narrower : (tests : Tests) (F G : ℕ → Bool) (K : List Gram) → within tests.kinds F G ≡ true → Follows tests F K → Follows tests G K
narrower tests F G K e follows k less h = within-at tests.kinds F G k e less (follows k less h)

module _ (tests : Tests) (rule : Rule → ℕ → Gram) (table : IsTable tests rule) (lifted : Bool) (done : List Lexeme) (t : Lexeme) (ts : List Lexeme) (known : t.kind < tests.kinds) where
  complete_call : (r : Rule) (d : ℕ) (K : List Gram) (m : List Mark) (F : ℕ → Bool) → fit tests F (Again r d) ≡ true → Follows tests F K → Spells rule lifted done (Again r d ∷ K) m (t ∷ ts) → IsWay rule lifted done t ts K m (enter_within done t (rule r d))
  unfolding fit
  complete_call r d K m F fits follows (again l) =
      complete tests rule table lifted done t ts known (λ r d. Stuck) false (λ r d. tt) (λ may. absurd (false≢true may))
      (rule r d) K m (tests.follow r) (table.guards r d) (table.fits r d) (narrower tests F (tests.follow r) K fits follows) l

  pub complete_part : (g : Gram) (K : List Gram) (m : List Mark) (F : ℕ → Bool) → fit tests F g ≡ true → Follows tests F K → Spells rule lifted done (g ∷ K) m (t ∷ ts) → IsWay rule lifted done t ts K m (enter_part rule done t g)
  complete_part g K m F fits follows d =
      complete tests rule table lifted done t ts known (λ r d. enter_within done t (rule r d)) true
      (λ r d. entered_call tests t.kind r d (rule r d) (enter_within done t (rule r d)) (within-at tests.kinds (first tests (rule r d)) (tests.front r) t.kind (table.begins r d) known) (table.solid r d) (entered_within tests done t (rule r d)))
      (λ may. complete_call) g K m F (guarded-may g) fits follows d

  none_left : {m : List Mark} → Spells rule lifted done [] m (t ∷ ts) → ⊥
  none_left d = elim d [ ]

  way_front_step : (m n l : List Mark) (s : Step) → m ≡ n ++ l → IsWayStep rule lifted done t ts l s → IsWayStep rule lifted done t ts m (front_step n s)
  way_front_step m n l (Next deeper o L) e w = (w.0, w.1, e ∙ ap (λ (x : List Mark). n ++ x) w.2 ∙ sym (append_assoc n o w.1), w.3)
  way_front_step m n l Halt e w = w

  way_step : (K : List Gram) (m : List Mark) (e : Entry) (s : Step) → IsWay rule lifted done t ts K m e → ((l : List Mark) → Spells rule lifted done K l (t ∷ ts) → IsWayStep rule lifted done t ts l s) → IsWayStep rule lifted done t ts m (step_from e K s)
  way_step K m (Into deeper n parts) s w next = w
  way_step K m (Pass n) s w next = way_front_step m n w.0 s w.1 (next w.0 w.2)
  way_step K m Stuck s w next = absurd w

  pub complete_step : (K : List Gram) (m : List Mark) → Fits tests K → Spells rule lifted done K m (t ∷ ts) → IsWayStep rule lifted done t ts m (step rule done t K)
  unfolding step
  complete_step [] m fits d = none_left d
  complete_step (g ∷ K) m fits d = way_step K m (enter_part rule done t g) (step rule done t K) (complete_part g K m fits.0 fits.1 fits.2 d) (λ l. complete_step K l fits.3)
