-- Where a text stands among query ids, and what stands at its place among their points.
use Rattle.std.proofs.Common.{◌≡◌, ◌≢◌, ℕ, zero, suc, ◌+◌, ◌-◌, ◌<◌, ◌≤◌, ◌^◌, Bool, true, false, cond, List, [], ◌∷◌, ◌++◌, length, drop, drop-cons, get_or, min, Option, Some, None, refl, ap, sym, ◌∙◌, arith, decimal}
use Rattle.std.specs.Prelude.{flat_map, map, nat_lt, option_and_then, option_map, position, slice_get, codes}
use Rattle.std.specs.List.{position_or_len, range_with_len}
use Rattle.std.specs.Str.{bytes_eq}
use Rattle.std.proofs.lemmas.Bool.Decides.{nat_tests}
use Rattle.std.proofs.lemmas.Option.{none-some}
use Rattle.std.proofs.lemmas.Slice.Eq.{bytes_eq-Decides}
use Rattle.std.proofs.Math.Seq.{drop-nil}
use Rattle.std.proofs.lemmas.Fmt.{decimal_injective}
use Rattle.std.proofs.lemmas.List.{drop_min}
use Rattle.std.proofs.lemmas.List.FromFn.{length-map-range_with_len}
use Rattle.tt_script.specs.declared.script.SessionText.{SessionText}
use Rattle.tt_plain.proofs.Lists.{position_here}
use Rattle.tt_plain.specs.stored.Points.{ids_of, statement_count}

-- ---- the first place

-- what does not pass is passed over
pub position_next : {A : Type 0} (test : A → Bool) (x : A) (xs : List A) → test x ≡ false → position test (x ∷ xs) ≡ option_map suc (position test xs)
position_next test x xs e = rw e (by (nat_lt (position_or_len test xs) (length xs)) refl)
  where
    by : (t : Bool) → nat_lt (position_or_len test xs) (length xs) ≡ t → cond (nat_lt (1 + position_or_len test xs) (suc (length xs))) (Some (1 + position_or_len test xs)) None ≡ option_map suc (cond (nat_lt (position_or_len test xs) (length xs)) (Some (position_or_len test xs)) None)
    by true h =
        let p : nat_lt (1 + position_or_len test xs) (suc (length xs)) ≡ true = grind (arith, nat_tests) in
        rw (h, p) (ap Some (omega arith))
    by false h =
        let p : nat_lt (1 + position_or_len test xs) (suc (length xs)) ≡ false = grind (arith, nat_tests) in
        rw (h, p) refl

-- what stands at the place behind the first
get_next : {B : Type 0} (points : List B) (found : Option ℕ) → option_and_then (slice_get points) (option_map suc found) ≡ option_and_then (slice_get (drop 1 points)) found
get_next [] None = refl
get_next [] (Some k) = refl
get_next (p ∷ points) None = refl
get_next (p ∷ points) (Some k) = refl

skip : {A : Type 0} (test : A → Bool) (x : A) (xs : List A) (t : Bool) → test x ≡ t → position test (x ∷ xs) ≡ None → (test x ≡ false) × (position test xs ≡ None)
skip test x xs true h none = absurd (none-some 0 (sym none ∙ position_here test x xs h))
skip test x xs false h none = (h, past (position test xs) (sym (position_next test x xs h) ∙ none))
  where
    past : (found : Option ℕ) → option_map suc found ≡ None → found ≡ None
    past None e = refl
    past (Some k) e = absurd cc

-- where the text is not among the first ids, it is looked for among the others
pub looked_behind : {A B : Type 0} (test : A → Bool) (xs ys : List A) (points : List B) → position test xs ≡ None
    → option_and_then (slice_get points) (position test (xs ++ ys)) ≡ option_and_then (slice_get (drop (length xs) points)) (position test ys)
looked_behind test [] ys points none = refl
looked_behind {B = B} test (x ∷ xs) ys points none =
    let s = skip test x xs (test x) refl none in
    ap (option_and_then (slice_get points)) (position_next test x (xs ++ ys) s.0)
    ∙ get_next points (position test (xs ++ ys))
    ∙ looked_behind test xs ys (drop 1 points) s.1
    ∙ ap (λ (rest : List B). option_and_then (slice_get rest) (position test ys)) (dropped points)
  where
    dropped : (points : List B) → drop (length xs) (drop 1 points) ≡ drop (suc (length xs)) points
    dropped [] = drop-nil (length xs)
    dropped (p ∷ points) = refl

found_next : (found : Option ℕ) (k : ℕ) → option_map suc found ≡ Some (suc k) → found ≡ Some k
found_next None k e = absurd cc
found_next (Some j) k e = let s : suc j ≡ suc k = cc in ap Some (omega arith)

not_first : (found : Option ℕ) → option_map suc found ≡ Some zero → ⊥
not_first None e = cc
not_first (Some j) e = let s : suc j ≡ zero = cc in omega arith

in_front : {A : Type 0} (test : A → Bool) (x : A) (xs ys : List A) (t : Bool) → test x ≡ t → ((j : ℕ) → position test xs ≡ Some j → position test (xs ++ ys) ≡ Some j)
    → (k : ℕ) → position test (x ∷ xs) ≡ Some k → position test (x ∷ (xs ++ ys)) ≡ Some k
in_front test x xs ys true h later k e = position_here test x (xs ++ ys) h ∙ sym (position_here test x xs h) ∙ e
in_front test x xs ys false h later zero e = absurd (not_first (position test xs) (sym (position_next test x xs h) ∙ e))
in_front test x xs ys false h later (suc k) e = position_next test x (xs ++ ys) h ∙ ap (option_map suc) (later k (found_next (position test xs) k (sym (position_next test x xs h) ∙ e)))

-- where it is among the first, it stands there
pub found_in_front : {A : Type 0} (test : A → Bool) (xs ys : List A) (k : ℕ) → position test xs ≡ Some k → position test (xs ++ ys) ≡ Some k
found_in_front test [] ys k e = absurd cc
found_in_front test (x ∷ xs) ys k e = in_front test x xs ys (test x) refl (λ j. found_in_front test xs ys j) k e

-- ---- the ids of a session

-- the ids of so many statements from one on, of which each begins alike
abbrev pub ids_from : List ℕ → ℕ → ℕ → List (List ℕ)
ids_from front start count = map (λ index. front ++ decimal index) (range_with_len start count)

other : (a b : List ℕ) → a ≢ b → bytes_eq a b ≡ false
other a b ne = by (bytes_eq a b) refl
  where
    by : (t : Bool) → bytes_eq a b ≡ t → t ≡ false
    by true h = absurd (ne ((bytes_eq-Decides a b).0 h))
    by false h = refl

pub none_is : (front text : List ℕ) (start count : ℕ) → ((n : ℕ) → start ≤ n → n < start + count → front ++ decimal n ≢ text)
    → position (λ id. bytes_eq id text) (ids_from front start count) ≡ None
none_is front text start zero each = refl
none_is front text start (suc count) each =
    position_next (λ id. bytes_eq id text) (front ++ decimal start) (ids_from front (start + 1) count) (other (front ++ decimal start) text (each start (omega arith) (omega arith)))
    ∙ ap (option_map suc) (none_is front text (start + 1) count (λ n low high. each n (omega arith) (omega arith)))

behind : (front a b : List ℕ) → front ++ a ≡ front ++ b → a ≡ b
behind [] a b e = e
behind (x ∷ front) a b e = behind front a b (cc)

-- the id with this number stands at its place
pub stands_at : (front text : List ℕ) (start count k : ℕ) → k < count → start + k < 2 ^ 64 → front ++ decimal (start + k) ≡ text
    → position (λ id. bytes_eq id text) (ids_from front start count) ≡ Some k
stands_at front text start zero k less small e = absurd (omega arith)
stands_at front text start (suc count) zero less small e =
    let here : start + 0 ≡ start = omega arith in
    position_here (λ id. bytes_eq id text) (front ++ decimal start) (ids_from front (start + 1) count) ((bytes_eq-Decides (front ++ decimal start) text).1 (ap (λ n. front ++ decimal n) (sym here) ∙ e))
stands_at front text start (suc count) (suc k) less small e =
    let there : start + 1 + k ≡ start + suc k = omega arith in
    let differs : decimal start ≢ decimal (start + suc k) = λ same. omega (arith, decimal_injective start (start + suc k) (omega arith) (omega arith) same) in
    position_next (λ id. bytes_eq id text) (front ++ decimal start) (ids_from front (start + 1) count) (other (front ++ decimal start) text (λ same. differs (behind front _ _ (same ∙ sym e))))
    ∙ ap (option_map suc) (stands_at front text (start + 1) count k (omega arith) (omega arith) (ap (λ n. front ++ decimal n) there ∙ e))

-- a text that does not begin with the name and a dash is no id of the session
pub none_named : (lines : SessionText) (name text : List ℕ) → name ≡ lines.name → ((rest : List ℕ) → name ++ codes "-" ++ rest ≢ text)
    → position (λ id. bytes_eq id text) (ids_of lines) ≡ None
none_named lines name text e none = none_is (lines.name ++ codes "-") text 1 (statement_count lines) (λ n low high same. none (decimal n) (ap (λ (l : List ℕ). l ++ codes "-" ++ decimal n) e ∙ same))

-- what stands behind it is not the number of a statement
pub none_numbered : (lines : SessionText) (name text number : List ℕ) → name ≡ lines.name → name ++ codes "-" ++ number ≡ text
    → ((n : ℕ) → 1 ≤ n → n ≤ statement_count lines → decimal n ≢ number) → position (λ id. bytes_eq id text) (ids_of lines) ≡ None
none_numbered lines name text number e is none =
    none_is (lines.name ++ codes "-") text 1 (statement_count lines)
    (λ n low high same. none n low (omega arith) (behind (name ++ codes "-") (decimal n) number (ap (λ (l : List ℕ). l ++ codes "-" ++ decimal n) e ∙ same ∙ sym is)))

pub numbered : (lines : SessionText) (name text number : List ℕ) (index : ℕ) → name ≡ lines.name → name ++ codes "-" ++ number ≡ text
    → decimal index ≡ number → 1 ≤ index → index ≤ statement_count lines → index < 2 ^ 64 → position (λ id. bytes_eq id text) (ids_of lines) ≡ Some (index - 1)
numbered lines name text number index e is written low high small =
    let n : 1 + (index - 1) ≡ index = omega arith in
    stands_at (lines.name ++ codes "-") text 1 (statement_count lines) (index - 1) (omega arith) (omega arith)
    (ap (λ n. lines.name ++ codes "-" ++ decimal n) n ∙ ap (λ (l : List ℕ). lines.name ++ codes "-" ++ l) written ∙ ap (λ (l : List ℕ). l ++ codes "-" ++ number) (sym e) ∙ is)

-- ---- all sessions

abbrev pub looked : {B : Type 0} → List B → List ℕ → List SessionText → Option B
looked points text sessions = option_and_then (slice_get points) (position (λ id. bytes_eq id text) (flat_map ids_of sessions))

next_session : (sessions : List SessionText) (i : ℕ) (item : SessionText) → i < length sessions → item ≡ get_or sessions i item → drop i sessions ≡ item ∷ drop (i + 1) sessions
next_session sessions i item less is =
    let e : suc i ≡ i + 1 = omega arith in
    drop-cons sessions i item less ∙ ap (λ (x : SessionText). x ∷ drop (suc i) sessions) (sym is) ∙ ap (λ n. item ∷ drop n sessions) e

pub looked_found : {B : Type 0} (points : List B) (text : List ℕ) (sessions : List SessionText) (i : ℕ) (item : SessionText) (k : ℕ) → i < length sessions → item ≡ get_or sessions i item
    → position (λ id. bytes_eq id text) (ids_of item) ≡ Some k → looked points text (drop i sessions) ≡ slice_get points k
looked_found points text sessions i item k less is e =
    ap (looked points text) (next_session sessions i item less is)
    ∙ ap (option_and_then (slice_get points)) (found_in_front (λ id. bytes_eq id text) (ids_of item) (flat_map ids_of (drop (i + 1) sessions)) k e)

pub looked_next : {B : Type 0} (points : List B) (text : List ℕ) (sessions : List SessionText) (i : ℕ) (item : SessionText) (count : ℕ) → i < length sessions → item ≡ get_or sessions i item
    → position (λ id. bytes_eq id text) (ids_of item) ≡ None → count ≡ statement_count item
    → looked (drop (min count (length points)) points) text (drop (i + 1) sessions) ≡ looked points text (drop i sessions)
looked_next {B} points text sessions i item count less is none many =
    let long : length (ids_of item) ≡ count = length-map-range_with_len _ 1 (statement_count item) ∙ sym many in
    sym (ap (looked points text) (next_session sessions i item less is)
    ∙ looked_behind (λ id. bytes_eq id text) (ids_of item) (flat_map ids_of (drop (i + 1) sessions)) points none
    ∙ ap (λ (rest : List B). looked rest text (drop (i + 1) sessions)) (ap (λ n. drop n points) long ∙ sym (drop_min count points)))
