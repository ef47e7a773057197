-- How the machine goes on at each kind of part, as equations before any stack.
use Rattle.std.proofs.Common.{◌≡◌, ℕ, Bool, true, false, not, ◌&&◌, ◌||◌, if◌then◌else◌, List, [], ◌∷◌, ◌++◌, Option, Some, None, Result, Ok, Err, refl, sym, ap, ap₂, ◌∙◌, append_assoc, arith}
use Rattle.std.proofs.lemmas.Bool.{and_parts}
use Rattle.tt_sql.specs.grammar.Grammar.{Lexeme, Mark, Rule, Gram, Tok, Deep, Note, Both, Either, Many, Again, is_of, latest_place}
use Rattle.tt_sql.specs.machine.Machine.{Entry, Into, Pass, Stuck, enter, enter_within, enter_part, enter_both, enter_either, enter_many, front_marks, Step, Next, Halt, front_step, step_from, step, both_marks, close_part, close, closed, with_marks, go_on, run}
use Rattle.tt_sql.proofs.machine.Decisions.{empty, first, guarded, Tests}
use Rattle.tt_sql.proofs.grammar.Fronts.{false≢true, implied}
use Rattle.tt_sql.proofs.machine.Runs.{closes_none}

-- ---- what kind of entry it is

abbrev shape_of : Entry → ℕ
shape_of (Into deeper m parts) = 2
shape_of (Pass m) = 1
shape_of Stuck = 0

-- by whether the token may begin the part, and whether the part may be empty
abbrev shape : Bool → Bool → ℕ
shape true e = 2
shape false true = 1
shape false false = 0

both_shape : (a b e f : Bool) (d i : Entry) (h : Gram) → shape_of d ≡ shape a e → shape_of i ≡ shape b f → shape_of (enter_both d h i) ≡ shape (a || (e && b)) (e && f)
both_shape true b e f (Into deeper m parts) i h p q = refl
both_shape true b e f (Pass m) i h p q = absurd (omega (arith, p))
both_shape true b e f Stuck i h p q = absurd (omega (arith, p))
both_shape false b true f (Into deeper m parts) i h p q = absurd (omega (arith, p))
both_shape false b true f (Pass m) (Into deeper n parts) h p q = q
both_shape false b true f (Pass m) (Pass n) h p q = q
both_shape false b true f (Pass m) Stuck h p q = q
both_shape false b true f Stuck i h p q = absurd (omega (arith, p))
both_shape false b false f (Into deeper m parts) i h p q = absurd (omega (arith, p))
both_shape false b false f (Pass m) i h p q = absurd (omega (arith, p))
both_shape false b false f Stuck i h p q = refl

first_shape : (a b e f : Bool) (d i : Entry) (h : Gram) → shape_of d ≡ shape a e → (e ≡ true → shape_of i ≡ shape b f) → shape_of (enter_both d h i) ≡ shape (a || (e && b)) (e && f)
first_shape a b true f d i h p q = both_shape a b true f d i h p (q refl)
first_shape true b false f (Into deeper m parts) i h p q = refl
first_shape true b false f (Pass m) i h p q = absurd (omega (arith, p))
first_shape true b false f Stuck i h p q = absurd (omega (arith, p))
first_shape false b false f (Into deeper m parts) i h p q = absurd (omega (arith, p))
first_shape false b false f (Pass m) i h p q = absurd (omega (arith, p))
first_shape false b false f Stuck i h p q = refl

either_shape : (a b e f : Bool) (d i : Entry) → shape_of d ≡ shape a e → shape_of i ≡ shape b f → shape_of (enter_either d i) ≡ shape (a || b) (e || f)
either_shape true b e f (Into deeper m parts) i p q = refl
either_shape true b e f (Pass m) i p q = absurd (omega (arith, p))
either_shape true b e f Stuck i p q = absurd (omega (arith, p))
either_shape false b true f (Into deeper m parts) i p q = absurd (omega (arith, p))
either_shape false true true f (Pass m) (Into deeper n parts) p q = refl
either_shape false false true true (Pass m) (Into deeper n parts) p q = absurd (omega (arith, q))
either_shape false false true false (Pass m) (Into deeper n parts) p q = absurd (omega (arith, q))
either_shape false true true f (Pass m) (Pass n) p q = absurd (omega (arith, q))
either_shape false false true f (Pass m) (Pass n) p q = refl
either_shape false true true f (Pass m) Stuck p q = absurd (omega (arith, q))
either_shape false false true f (Pass m) Stuck p q = refl
either_shape false b true f Stuck i p q = absurd (omega (arith, p))
either_shape false b false f (Into deeper m parts) i p q = absurd (omega (arith, p))
either_shape false b false f (Pass m) i p q = absurd (omega (arith, p))
either_shape false b false f Stuck i p q = q

many_shape : (a e : Bool) (d : Entry) (g : Gram) → shape_of d ≡ shape a e → shape_of (enter_many d g) ≡ shape a true
many_shape true e (Into deeper m parts) g p = refl
many_shape true e (Pass m) g p = absurd (omega (arith, p))
many_shape true e Stuck g p = absurd (omega (arith, p))
many_shape false true (Into deeper m parts) g p = absurd (omega (arith, p))
many_shape false false (Into deeper m parts) g p = absurd (omega (arith, p))
many_shape false e (Pass m) g p = refl
many_shape false e Stuck g p = refl

if_shape : (deeper b : Bool) → shape_of (if b then Into deeper [] [] else Stuck) ≡ shape b false
if_shape deeper true = refl
if_shape deeper false = refl

-- an entry is of the kind that the tests say, where the calls are so
pub shaped : (tests : Tests) (call : Rule → ℕ → Entry) (done : List Lexeme) (t : Lexeme) (may : Bool) → (may ≡ true → (r : Rule) (d : ℕ) → shape_of (call r d) ≡ shape (tests.front r t.kind) false) → (g : Gram) → guarded may g ≡ true → shape_of (enter call done t g) ≡ shape (first tests g t.kind) (empty g)
unfolding enter first empty guarded
shaped tests call done t may calls (Tok k others) e = if_shape false (is_of k others t.kind)
shaped tests call done t may calls (Deep kinds) e = if_shape true (kinds t.kind)
shaped tests call done t may calls (Note f) e = refl
shaped tests call done t may calls (Both g h) e =
    let p = and_parts (guarded may g) (not (empty g) || guarded may h) e in
    first_shape (first tests g t.kind) (first tests h t.kind) (empty g) (empty h) (enter call done t g) (enter call done t h) h (shaped tests call done t may calls g p.0) (λ f. shaped tests call done t may calls h (implied (empty g) (guarded may h) p.1 f))
shaped tests call done t may calls (Either g h) e =
    let p = and_parts (guarded may g) (guarded may h) e in
    either_shape (first tests g t.kind) (first tests h t.kind) (empty g) (empty h) (enter call done t g) (enter call done t h) (shaped tests call done t may calls g p.0) (shaped tests call done t may calls h p.1)
shaped tests call done t may calls (Many g) e = many_shape (first tests g t.kind) (empty g) (enter call done t g) g (shaped tests call done t may calls g e)
shaped tests call done t may calls (Again r d) e = calls e r d

-- ---- steps

pub with_none : (r : Result (List Mark) ℕ) → with_marks [] r ≡ r
with_none (Ok m) = refl
with_none (Err at) = refl

pub with_both : (m n : List Mark) (r : Result (List Mark) ℕ) → with_marks m (with_marks n r) ≡ with_marks (m ++ n) r
with_both m n (Ok o) = ap (λ (x : List Mark). Ok x) (sym (append_assoc m n o))
with_both m n (Err at) = refl

pub on_front : (m : List Mark) (s : Step) (here before : ℕ) (after : List Gram → Result (List Mark) ℕ) → go_on (front_step m s) here before after ≡ with_marks m (go_on s here before after)
on_front m (Next false n K) here before after = sym (with_both m n (after K))
on_front m (Next true n K) here before after = refl
on_front m Halt here before after = refl

front_twice : (m n : List Mark) (s : Step) → front_step (m ++ n) s ≡ front_step m (front_step n s)
front_twice m n (Next deeper o K) = ap (λ (x : List Mark). Next deeper x K) (append_assoc m n o)
front_twice m n Halt = refl

step_behind : (m : List Mark) (e : Entry) (K : List Gram) (s : Step) → step_from (front_marks m e) K s ≡ front_step m (step_from e K s)
step_behind m (Into deeper n parts) K s = refl
step_behind m (Pass n) K s = front_twice m n s
step_behind m Stuck K s = refl

step_both : (d e : Entry) (h : Gram) (K : List Gram) (s : Step) → step_from (enter_both d h e) K s ≡ step_from d (h ∷ K) (step_from e K s)
step_both (Into deeper m parts) e h K s = ap (λ (x : List Gram). Next deeper m x) (append_assoc parts (h ∷ []) K)
step_both (Pass m) e h K s = step_behind m e K s
step_both Stuck e h K s = refl

marks_both : (a b c : Option (List Mark)) → both_marks (both_marks a b) c ≡ both_marks a (both_marks b c)
marks_both (Some m) (Some n) (Some o) = ap (λ (x : List Mark). Some x) (append_assoc m n o)
marks_both (Some m) (Some n) None = refl
marks_both (Some m) None c = refl
marks_both None b c = refl

pub closed_front : (end : ℕ) (m : List Mark) (a : Option (List Mark)) → closed end (both_marks (Some m) a) ≡ with_marks m (closed end a)
closed_front end m (Some n) = refl
closed_front end m None = refl

is_into : (e : Entry) → shape_of e ≡ 2 → (f : Entry) → enter_either e f ≡ e
is_into (Into deeper m parts) p f = refl
is_into (Pass m) p f = absurd (omega (arith, p))
is_into Stuck p f = absurd (omega (arith, p))

is_stuck : (e : Entry) → shape_of e ≡ 0 → e ≡ Stuck
is_stuck (Into deeper m parts) p = absurd (omega (arith, p))
is_stuck (Pass m) p = absurd (omega (arith, p))
is_stuck Stuck p = refl

module _ (rule : Rule → ℕ → Gram) (tests : Tests) (end : ℕ) where
  part_shape : (done : List Lexeme) (t : Lexeme) (g : Gram) → guarded false g ≡ true → shape_of (enter_part rule done t g) ≡ shape (first tests g t.kind) (empty g)
  part_shape done t g e = shaped tests (λ r d. enter_within done t (rule r d)) done t false (λ f. absurd (false≢true f)) g e

  pub run_both : (done : List Lexeme) (g h : Gram) (K : List Gram) (ts : List Lexeme) → run rule end done (Both g h ∷ K) ts ≡ run rule end done (g ∷ h ∷ K) ts
  unfolding run step close close_part enter
  run_both done g h K [] = ap (closed end) (marks_both (close_part done g) (close_part done h) (close done K))
  run_both done g h K (t ∷ ts) = ap (λ (s : Step). go_on s t.place (latest_place done) (λ L. run rule end (t ∷ done) L ts)) (step_both (enter_part rule done t g) (enter_part rule done t h) h K (step rule done t K))

  pub run_note : (done : List Lexeme) (f : List Lexeme → List Mark) (K : List Gram) (ts : List Lexeme) → run rule end done (Note f ∷ K) ts ≡ with_marks (f done) (run rule end done K ts)
  unfolding run step close close_part enter
  run_note done f K [] = closed_front end (f done) (close done K)
  run_note done f K (t ∷ ts) = on_front (f done) (step rule done t K) t.place (latest_place done) (λ L. run rule end (t ∷ done) L ts)

  pub run_tok : (done : List Lexeme) (k : ℕ) (others : ℕ → Bool) (K : List Gram) (t : Lexeme) (ts : List Lexeme) → is_of k others t.kind ≡ true → run rule end done (Tok k others ∷ K) (t ∷ ts) ≡ run rule end (t ∷ done) K ts
  unfolding run step enter
  run_tok done k others K t ts e = rw e (with_none (run rule end (t ∷ done) K ts))

  -- the token does not begin the part, which is not empty
  pub run_stuck : (done : List Lexeme) (g : Gram) (K : List Gram) (t : Lexeme) (ts : List Lexeme) → guarded false g ≡ true → empty g ≡ false → first tests g t.kind ≡ false → run rule end done (g ∷ K) (t ∷ ts) ≡ Err t.place
  unfolding run step
  run_stuck done g K t ts guard solid e = rw (is_stuck (enter_part rule done t g) (part_shape done t g guard ∙ ap₂ shape e solid)) refl

  pub run_end : (done : List Lexeme) (g : Gram) (K : List Gram) → empty g ≡ false → run rule end done (g ∷ K) [] ≡ Err end
  unfolding run close
  run_end done g K solid = rw (closes_none done g solid) refl

  pub run_left : (done : List Lexeme) (g h : Gram) (K : List Gram) (t : Lexeme) (ts : List Lexeme) → guarded false g ≡ true → first tests g t.kind ≡ true → run rule end done (Either g h ∷ K) (t ∷ ts) ≡ run rule end done (g ∷ K) (t ∷ ts)
  unfolding run step enter
  run_left done g h K t ts guard e = rw (is_into (enter_part rule done t g) (part_shape done t g guard ∙ ap (λ (b : Bool). shape b (empty g)) e) (enter_part rule done t h)) refl

  pub run_right : (done : List Lexeme) (g h : Gram) (K : List Gram) (t : Lexeme) (ts : List Lexeme) → guarded false g ≡ true → empty g ≡ false → first tests g t.kind ≡ false → run rule end done (Either g h ∷ K) (t ∷ ts) ≡ run rule end done (h ∷ K) (t ∷ ts)
  unfolding run step enter
  run_right done g h K t ts guard solid e = rw (is_stuck (enter_part rule done t g) (part_shape done t g guard ∙ ap₂ shape e solid)) refl

  pub run_right_end : (done : List Lexeme) (g h : Gram) (K : List Gram) → empty g ≡ false → run rule end done (Either g h ∷ K) [] ≡ run rule end done (h ∷ K) []
  unfolding run close close_part
  run_right_end done g h K solid = rw (closes_none done g solid) refl
