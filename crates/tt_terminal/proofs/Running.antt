-- How the machine goes on at each part of a grammar, as equations of its runs.
use Rattle.std.proofs.Common.{◌≡◌, ℕ, Bool, true, false, not, ◌&&◌, ◌||◌, ◌⊎◌, inl, inr, List, [], ◌∷◌, ◌++◌, Option, Some, None, Result, Ok, Err, if◌then◌else◌, refl, sym, ap, ◌∙◌, append_assoc, true≢false}
use Rattle.std.proofs.lemmas.Bool.{and_parts, or_parts}
use Rattle.tt_sql.specs.grammar.Grammar.{Lexeme, Mark, Way, Rule, Gram, Tok, Deep, Note, Both, Either, Many, Again, is_of, latest_place}
use Rattle.tt_sql.specs.machine.Machine.{Entry, Into, Pass, Stuck, enter, enter_within, enter_part, enter_both, enter_either, enter_many, front_marks, Step, Next, Halt, front_step, step_from, step, both_marks, close_part, close, closed, with_marks, go_on, run}
use Rattle.tt_sql.proofs.machine.Decisions.{empty, guarded}
use Rattle.tt_sql.proofs.grammar.Fronts.{false≢true, or_split, implied}
use Rattle.tt_sql.specs.grammar.TokenKinds.{kind_count}
use Rattle.tt_terminal.specs.Fronts.{solid, begins, front_kind, front_place}

-- ---- entries

abbrev IsInto : Entry → Type 0
IsInto (Into deeper m parts) = Unit {0}
IsInto (Pass m) = ⊥
IsInto Stuck = ⊥

-- it lets tokens by
abbrev IsOpen : Entry → Type 0
IsOpen Stuck = ⊥
IsOpen _ = Unit {0}

-- it takes no token, and is stuck if it must take one
abbrev IsMissed : Bool → Entry → Type 0
IsMissed b (Into deeper m parts) = ⊥
IsMissed b (Pass m) = b ≡ false
IsMissed b Stuck = Unit {0}

-- it lets a token by only if it may be empty
abbrev IsPassed : Bool → Entry → Type 0
IsPassed b (Pass m) = b ≡ true
IsPassed b _ = Unit {0}

open_both : (h : Gram) (a e : Entry) → IsOpen a → IsOpen e → IsOpen (enter_both a h e)
open_both h (Into deeper m parts) e p q = tt
open_both h (Pass m) (Into deeper n parts) p q = tt
open_both h (Pass m) (Pass n) p q = tt
open_both h (Pass m) Stuck p q = q
open_both h Stuck e p q = p

open_left : (a e : Entry) → IsOpen a → IsOpen (enter_either a e)
open_left (Into deeper m parts) e p = tt
open_left (Pass m) (Into deeper n parts) p = tt
open_left (Pass m) (Pass n) p = tt
open_left (Pass m) Stuck p = tt
open_left Stuck e p = absurd p

open_right : (a e : Entry) → IsOpen e → IsOpen (enter_either a e)
open_right (Into deeper m parts) e p = tt
open_right (Pass m) (Into deeper n parts) p = tt
open_right (Pass m) (Pass n) p = tt
open_right (Pass m) Stuck p = tt
open_right Stuck e p = p

open_many : (g : Gram) (a : Entry) → IsOpen (enter_many a g)
open_many g (Into deeper m parts) = tt
open_many g (Pass m) = tt
open_many g Stuck = tt

into_left : (h : Gram) (a e : Entry) → IsInto a → IsInto (enter_both a h e)
into_left h (Into deeper m parts) e p = tt
into_left h (Pass m) e p = absurd p
into_left h Stuck e p = absurd p

into_right : (h : Gram) (a e : Entry) → IsOpen a → IsInto e → IsInto (enter_both a h e)
into_right h (Into deeper m parts) e o p = tt
into_right h (Pass m) (Into deeper n parts) o p = tt
into_right h (Pass m) (Pass n) o p = p
into_right h (Pass m) Stuck o p = p
into_right h Stuck e o p = absurd o

into_first : (a e : Entry) → IsInto a → IsInto (enter_either a e)
into_first (Into deeper m parts) e p = tt
into_first (Pass m) e p = absurd p
into_first Stuck e p = absurd p

into_second : (a e : Entry) → IsInto e → IsInto (enter_either a e)
into_second (Into deeper m parts) e p = tt
into_second (Pass m) (Into deeper n parts) p = tt
into_second (Pass m) (Pass n) p = p
into_second (Pass m) Stuck p = p
into_second Stuck e p = p

into_many : (g : Gram) (a : Entry) → IsInto a → IsInto (enter_many a g)
into_many g (Into deeper m parts) p = tt
into_many g (Pass m) p = absurd p
into_many g Stuck p = absurd p

missed_if : (deeper b : Bool) → b ≡ false → IsMissed true (if b then Into deeper [] [] else Stuck)
missed_if deeper true e = absurd (true≢false e)
missed_if deeper false e = tt

missed_both : (h : Gram) (b d : Bool) (a e : Entry) → IsMissed b a → (b ≡ false → IsMissed d e) → IsMissed (b || d) (enter_both a h e)
missed_both h b d (Into deeper m parts) e s u = absurd s
missed_both h b d (Pass m) (Into deeper n parts) s u = absurd (u s)
missed_both h b d (Pass m) (Pass n) s u = rw s (u s)
missed_both h b d (Pass m) Stuck s u = tt
missed_both h b d Stuck e s u = tt

missed_either : (b d : Bool) (a e : Entry) → IsMissed b a → IsMissed d e → IsMissed (b && d) (enter_either a e)
missed_either b d (Into deeper m parts) e s u = absurd s
missed_either b d (Pass m) (Into deeper n parts) s u = absurd u
missed_either b d (Pass m) (Pass n) s u = rw s refl
missed_either b d (Pass m) Stuck s u = rw s refl
missed_either true d Stuck e s u = u
missed_either false d Stuck (Into deeper n parts) s u = absurd u
missed_either false d Stuck (Pass n) s u = refl
missed_either false d Stuck Stuck s u = tt

missed_many : (g : Gram) (b : Bool) (a : Entry) → IsMissed b a → IsMissed false (enter_many a g)
missed_many g b (Into deeper m parts) s = absurd s
missed_many g b (Pass m) s = refl
missed_many g b Stuck s = refl

passed_if : (deeper b : Bool) → IsPassed false (if b then Into deeper [] [] else Stuck)
passed_if deeper true = tt
passed_if deeper false = tt

passed_both : (h : Gram) (b d : Bool) (a e : Entry) → IsPassed b a → IsPassed d e → IsPassed (b && d) (enter_both a h e)
passed_both h b d (Into deeper m parts) e s u = tt
passed_both h b d (Pass m) (Into deeper n parts) s u = tt
passed_both h b d (Pass m) (Pass n) s u = rw s u
passed_both h b d (Pass m) Stuck s u = tt
passed_both h b d Stuck e s u = tt

or_true : (b : Bool) → (b || true) ≡ true
or_true true = refl
or_true false = refl

passed_either : (b d : Bool) (a e : Entry) → IsPassed b a → IsPassed d e → IsPassed (b || d) (enter_either a e)
passed_either b d (Into deeper m parts) e s u = tt
passed_either b d (Pass m) (Into deeper n parts) s u = tt
passed_either b d (Pass m) (Pass n) s u = rw s refl
passed_either b d (Pass m) Stuck s u = rw s refl
passed_either b d Stuck (Into deeper n parts) s u = tt
passed_either b d Stuck (Pass n) s u = rw u (or_true b)
passed_either b d Stuck Stuck s u = tt

passed_many : (g : Gram) (a : Entry) → IsPassed true (enter_many a g)
passed_many g (Into deeper m parts) = tt
passed_many g (Pass m) = refl
passed_many g Stuck = refl

not_true : (b : Bool) → not b ≡ true → b ≡ false
not_true true e = absurd (false≢true e)
not_true false e = refl

and_false : (b d : Bool) → (b && d) ≡ false → (b ≡ false) ⊎ (d ≡ false)
and_false true d e = inr e
and_false false d e = inl refl

-- one of two
either_of : {A B C : Type 0} → A ⊎ B → (A → C) → (B → C) → C
either_of (inl a) f g = f a
either_of (inr b) f g = g b

none_second : (a : Option (List Mark)) → both_marks a None ≡ None
none_second (Some m) = refl
none_second None = refl

into_if : (deeper b : Bool) → b ≡ true → IsInto (if b then Into deeper [] [] else Stuck)
into_if deeper true e = tt
into_if deeper false e = absurd (false≢true e)

module _ (call : Rule → ℕ → Entry) (done : List Lexeme) (t : Lexeme) where
  opened : (g : Gram) → solid g ≡ false → IsOpen (enter call done t g)
  unfolding enter
  opened (Tok k more) e = absurd (true≢false e)
  opened (Deep kinds) e = absurd (true≢false e)
  opened (Note f) e = tt
  opened (Both g h) e = let p = or_parts (solid g) (solid h) e in open_both h (enter call done t g) (enter call done t h) (opened g p.0) (opened h p.1)
  opened (Either g h) e = either_of (and_false (solid g) (solid h) e) (λ p. open_left (enter call done t g) (enter call done t h) (opened g p)) (λ p. open_right (enter call done t g) (enter call done t h) (opened h p))
  opened (Many g) e = open_many g (enter call done t g)
  opened (Again r d) e = absurd (true≢false e)

  entered : (g : Gram) → begins false g t.kind ≡ true → IsInto (enter call done t g)
  unfolding enter
  entered (Tok k more) e = into_if false (is_of k more t.kind) e
  entered (Deep kinds) e = into_if true (kinds t.kind) e
  entered (Note f) e = absurd (false≢true e)
  entered (Both g h) e = either_of (or_split (begins false g t.kind) (not (solid g) && begins false h t.kind) e)
      (λ p. into_left h (enter call done t g) (enter call done t h) (entered g p))
      (λ p. let q = and_parts (not (solid g)) (begins false h t.kind) p in into_right h (enter call done t g) (enter call done t h) (opened g (not_true (solid g) q.0)) (entered h q.1))
  entered (Either g h) e = either_of (or_split (begins false g t.kind) (begins false h t.kind) e)
      (λ p. into_first (enter call done t g) (enter call done t h) (entered g p))
      (λ p. into_second (enter call done t g) (enter call done t h) (entered h p))
  entered (Many g) e = into_many g (enter call done t g) (entered g e)
  entered (Again r d) e = absurd (false≢true e)

  missed : (g : Gram) → begins true g t.kind ≡ false → IsMissed (solid g) (enter call done t g)
  unfolding enter
  missed (Tok k more) e = missed_if false (is_of k more t.kind) e
  missed (Deep kinds) e = missed_if true (kinds t.kind) e
  missed (Note f) e = refl
  missed (Both g h) e =
      let p = or_parts (begins true g t.kind) (not (solid g) && begins true h t.kind) e in
      missed_both h (solid g) (solid h) (enter call done t g) (enter call done t h) (missed g p.0) (λ s. missed h (behind (solid g) (begins true h t.kind) s p.1))
    where
      behind : (b d : Bool) → b ≡ false → (not b && d) ≡ false → d ≡ false
      behind true d s e = absurd (true≢false s)
      behind false d s e = e
  missed (Either g h) e =
      let p = or_parts (begins true g t.kind) (begins true h t.kind) e in
      missed_either (solid g) (solid h) (enter call done t g) (enter call done t h) (missed g p.0) (missed h p.1)
  missed (Many g) e = missed_many g (solid g) (enter call done t g) (missed g e)
  missed (Again r d) e = absurd (true≢false e)

stuck : (b : Bool) (e : Entry) → b ≡ true → IsMissed b e → e ≡ Stuck
stuck b (Into deeper m parts) s u = absurd u
stuck b (Pass m) s u = absurd (true≢false (sym s ∙ u))
stuck b Stuck s u = refl

-- ---- productions

module _ (call : Rule → ℕ → Entry) (done : List Lexeme) (t : Lexeme) where
  passed : (g : Gram) → IsPassed (empty g) (enter (λ r d. Stuck) done t g)
  unfolding enter empty
  passed (Tok k more) = passed_if false (is_of k more t.kind)
  passed (Deep kinds) = passed_if true (kinds t.kind)
  passed (Note f) = refl
  passed (Both g h) = passed_both h (empty g) (empty h) (enter (λ r d. Stuck) done t g) (enter (λ r d. Stuck) done t h) (passed g) (passed h)
  passed (Either g h) = passed_either (empty g) (empty h) (enter (λ r d. Stuck) done t g) (enter (λ r d. Stuck) done t h) (passed g) (passed h)
  passed (Many g) = passed_many g (enter (λ r d. Stuck) done t g)
  passed (Again r d) = tt

  both_same : (h : Gram) (b : Bool) (a d e : Entry) → IsPassed b a → (b ≡ true → d ≡ e) → enter_both a h d ≡ enter_both a h e
  both_same h b (Into deeper m parts) d e s u = refl
  both_same h b (Pass m) d e s u = ap (front_marks m) (u s)
  both_same h b Stuck d e s u = refl

  -- where no production stands in front, it does not matter how productions take the token
  same_entry : (g : Gram) → guarded false g ≡ true → enter (λ r d. Stuck) done t g ≡ enter call done t g
  unfolding enter guarded
  same_entry (Tok k more) e = refl
  same_entry (Deep kinds) e = refl
  same_entry (Note f) e = refl
  same_entry (Both g h) e =
      let p = and_parts (guarded false g) (not (empty g) || guarded false h) e in
      both_same h (empty g) (enter (λ r d. Stuck) done t g) (enter (λ r d. Stuck) done t h) (enter call done t h) (passed g) (λ s. same_entry h (implied (empty g) (guarded false h) p.1 s))
      ∙ ap (λ x. enter_both x h (enter call done t h)) (same_entry g p.0)
  same_entry (Either g h) e =
      let p = and_parts (guarded false g) (guarded false h) e in
      ap (λ x. enter_either x (enter (λ r d. Stuck) done t h)) (same_entry g p.0) ∙ ap (enter_either (enter call done t g)) (same_entry h p.1)
  same_entry (Many g) e = ap (λ x. enter_many x g) (same_entry g e)
  same_entry (Again r d) e = absurd (false≢true e)

closes : (done : List Lexeme) (g : Gram) → solid g ≡ true → close_part done g ≡ None
unfolding close_part
closes done (Tok k more) e = refl
closes done (Deep kinds) e = refl
closes done (Note f) e = absurd (false≢true e)
closes done (Both g h) e = either_of (or_split (solid g) (solid h) e) (λ p. rw (closes done g p) refl) (λ p. rw (closes done h p) (none_second (close_part done g)))
closes done (Either g h) e = let p = and_parts (solid g) (solid h) e in rw (closes done g p.0, closes done h p.1) refl
closes done (Many g) e = absurd (false≢true e)
closes done (Again r d) e = refl

closes_empty : (done : List Lexeme) (g : Gram) → empty g ≡ false → close_part done g ≡ None
unfolding close_part empty
closes_empty done (Tok k more) e = refl
closes_empty done (Deep kinds) e = refl
closes_empty done (Note f) e = absurd (true≢false e)
closes_empty done (Both g h) e = either_of (and_false (empty g) (empty h) e) (λ p. rw (closes_empty done g p) refl) (λ p. rw (closes_empty done h p) (none_second (close_part done g)))
closes_empty done (Either g h) e = let p = or_parts (empty g) (empty h) e in rw (closes_empty done g p.0, closes_empty done h p.1) refl
closes_empty done (Many g) e = absurd (true≢false e)
closes_empty done (Again r d) e = refl

-- ---- runs

pub with_nothing : (r : Result (List Mark) ℕ) → with_marks [] r ≡ r
with_nothing (Ok m) = refl
with_nothing (Err at) = refl

pub with_more : (m n : List Mark) (r : Result (List Mark) ℕ) → with_marks m (with_marks n r) ≡ with_marks (m ++ n) r
with_more m n (Ok o) = ap (λ x. Ok x) (sym (append_assoc m n o))
with_more m n (Err at) = refl

front_more : (m n : List Mark) (s : Step) → front_step (m ++ n) s ≡ front_step m (front_step n s)
front_more m n (Next deeper o K) = ap (λ x. Next deeper x K) (append_assoc m n o)
front_more m n Halt = refl

go_front : (m : List Mark) (s : Step) (here before : ℕ) (after : List Gram → Result (List Mark) ℕ) → go_on (front_step m s) here before after ≡ with_marks m (go_on s here before after)
go_front m (Next false n K) here before after = sym (with_more m n (after K))
go_front m (Next true n K) here before after = refl
go_front m Halt here before after = refl

from_both : (h : Gram) (K : List Gram) (a e : Entry) (s : Step) → step_from (enter_both a h e) K s ≡ step_from a (h ∷ K) (step_from e K s)
from_both h K (Into deeper m parts) e s = ap (λ x. Next deeper m x) (append_assoc parts (h ∷ []) K)
from_both h K (Pass m) (Into deeper n parts) s = refl
from_both h K (Pass m) (Pass n) s = front_more m n s
from_both h K (Pass m) Stuck s = refl
from_both h K Stuck e s = refl

from_first : (K : List Gram) (a e : Entry) (s : Step) → IsInto a → step_from (enter_either a e) K s ≡ step_from a K s
from_first K (Into deeper m parts) e s p = refl
from_first K (Pass m) e s p = absurd p
from_first K Stuck e s p = absurd p

from_more : (g : Gram) (K : List Gram) (a : Entry) (s u : Step) → IsInto a → step_from (enter_many a g) K s ≡ front_step (Way 1 ∷ []) (step_from a (Many g ∷ K) u)
from_more g K (Into deeper m parts) s u p = ap (λ x. Next deeper (Way 1 ∷ m) x) (append_assoc parts (Many g ∷ []) K)
from_more g K (Pass m) s u p = absurd p
from_more g K Stuck s u p = absurd p

from_enough : (g : Gram) (K : List Gram) (b : Bool) (a : Entry) (s : Step) → IsMissed b a → step_from (enter_many a g) K s ≡ front_step (Way 0 ∷ []) s
from_enough g K b (Into deeper m parts) s p = absurd p
from_enough g K b (Pass m) s p = refl
from_enough g K b Stuck s p = refl

both_assoc : (a b c : Option (List Mark)) → both_marks (both_marks a b) c ≡ both_marks a (both_marks b c)
both_assoc (Some m) (Some n) (Some o) = ap (λ x. Some x) (append_assoc m n o)
both_assoc (Some m) (Some n) None = refl
both_assoc (Some m) None c = refl
both_assoc None b c = refl

closed_with : (end : ℕ) (m : List Mark) (a : Option (List Mark)) → closed end (both_marks (Some m) a) ≡ with_marks m (closed end a)
closed_with end m (Some n) = refl
closed_with end m None = refl

module _ (rule : Rule → ℕ → Gram) (end : ℕ) (done : List Lexeme) (K : List Gram) where
  next : Lexeme → List Lexeme → Step → Result (List Mark) ℕ
  next t ts s = go_on s t.place (latest_place done) (λ after. run rule end (t ∷ done) after ts)

  pub run_both : (g h : Gram) (ts : List Lexeme) → run rule end done (Both g h ∷ K) ts ≡ run rule end done (g ∷ h ∷ K) ts
  unfolding run step enter close close_part
  run_both g h [] = ap (closed end) (both_assoc (close_part done g) (close_part done h) (close done K))
  run_both g h (t ∷ ts) = ap (λ s. go_on s t.place (latest_place done) (λ after. run rule end (t ∷ done) after ts)) (from_both h K (enter_part rule done t g) (enter_part rule done t h) (step rule done t K))

  pub run_note : (f : List Lexeme → List Mark) (ts : List Lexeme) → run rule end done (Note f ∷ K) ts ≡ with_marks (f done) (run rule end done K ts)
  unfolding run step enter close close_part
  run_note f [] = closed_with end (f done) (close done K)
  run_note f (t ∷ ts) = go_front (f done) (step rule done t K) t.place (latest_place done) (λ after. run rule end (t ∷ done) after ts)

  pub run_token : (k : ℕ) (more : ℕ → Bool) (t : Lexeme) (ts : List Lexeme) → is_of k more t.kind ≡ true → run rule end done (Tok k more ∷ K) (t ∷ ts) ≡ run rule end (t ∷ done) K ts
  unfolding run step enter
  run_token k more t ts e = rw e (with_nothing (run rule end (t ∷ done) K ts))

  pub run_fails : (g : Gram) (ts : List Lexeme) → begins true g (front_kind ts) ≡ false → solid g ≡ true → run rule end done (g ∷ K) ts ≡ Err (front_place end ts)
  unfolding run step close
  run_fails g [] e s = rw (closes done g s) refl
  run_fails g (t ∷ ts) e s = rw (stuck (solid g) (enter_part rule done t g) s (missed (λ r d. enter_within done t (rule r d)) done t g e)) refl

  pub run_left : (g h : Gram) (ts : List Lexeme) → begins false g (front_kind ts) ≡ true → begins false g kind_count ≡ false → run rule end done (Either g h ∷ K) ts ≡ run rule end done (g ∷ K) ts
  unfolding run step enter
  run_left g h [] e n = absurd (true≢false (sym e ∙ n))
  run_left g h (t ∷ ts) e n = ap (λ s. go_on s t.place (latest_place done) (λ after. run rule end (t ∷ done) after ts)) (from_first K (enter_part rule done t g) (enter_part rule done t h) (step rule done t K) (entered (λ r d. enter_within done t (rule r d)) done t g e))

  pub run_right : (g h : Gram) (ts : List Lexeme) → begins true g (front_kind ts) ≡ false → solid g ≡ true → run rule end done (Either g h ∷ K) ts ≡ run rule end done (h ∷ K) ts
  unfolding run step enter close close_part
  run_right g h [] e s = rw (closes done g s) refl
  run_right g h (t ∷ ts) e s = rw (stuck (solid g) (enter_part rule done t g) s (missed (λ r d. enter_within done t (rule r d)) done t g e)) refl

  pub run_more : (g : Gram) (ts : List Lexeme) → begins false g (front_kind ts) ≡ true → begins false g kind_count ≡ false → run rule end done (Many g ∷ K) ts ≡ with_marks (Way 1 ∷ []) (run rule end done (g ∷ Many g ∷ K) ts)
  unfolding run step enter
  run_more g [] e n = absurd (true≢false (sym e ∙ n))
  run_more g (t ∷ ts) e n =
      ap (λ s. go_on s t.place (latest_place done) (λ after. run rule end (t ∷ done) after ts)) (from_more g K (enter_part rule done t g) (step rule done t K) (step_from (enter_part rule done t (Many g)) K (step rule done t K)) (entered (λ r d. enter_within done t (rule r d)) done t g e))
      ∙ go_front (Way 1 ∷ []) (step rule done t (g ∷ Many g ∷ K)) t.place (latest_place done) (λ after. run rule end (t ∷ done) after ts)

  pub run_enough : (g : Gram) (ts : List Lexeme) → begins true g (front_kind ts) ≡ false → run rule end done (Many g ∷ K) ts ≡ with_marks (Way 0 ∷ []) (run rule end done K ts)
  unfolding run step enter close close_part
  run_enough g [] e = closed_with end (Way 0 ∷ []) (close done K)
  run_enough g (t ∷ ts) e =
      ap (λ s. go_on s t.place (latest_place done) (λ after. run rule end (t ∷ done) after ts)) (from_enough g K (solid g) (enter_part rule done t g) (step rule done t K) (missed (λ r d. enter_within done t (rule r d)) done t g e))
      ∙ go_front (Way 0 ∷ []) (step rule done t K) t.place (latest_place done) (λ after. run rule end (t ∷ done) after ts)

  pub run_again : (r : Rule) (d : ℕ) (ts : List Lexeme) → guarded false (rule r d) ≡ true → empty (rule r d) ≡ false → run rule end done (Again r d ∷ K) ts ≡ run rule end done (rule r d ∷ K) ts
  unfolding run step enter close close_part
  run_again r d [] e s = rw (closes_empty done (rule r d) s) refl
  run_again r d (t ∷ ts) e s = ap (λ x. go_on (step_from x K (step rule done t K)) t.place (latest_place done) (λ after. run rule end (t ∷ done) after ts)) (same_entry (λ q n. enter_within done t (rule q n)) done t (rule r d) e)

  pub run_deep : (kinds : ℕ → Bool) (t : Lexeme) (ts : List Lexeme) → kinds t.kind ≡ true → run rule end done (Deep kinds ∷ K) (t ∷ ts) ≡ Err (latest_place done)
  unfolding run step enter
  run_deep kinds t ts e = rw e refl
