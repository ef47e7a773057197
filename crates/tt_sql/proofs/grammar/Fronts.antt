-- What a derivation begins with: the tests on kinds say it.
use Rattle.std.proofs.Common.{◌≡◌, ℕ, zero, suc, ◌<◌, Bool, true, false, not, ◌&&◌, ◌||◌, ◌⊎◌, inl, inr, List, [], ◌∷◌, refl, sym, ap, ◌∙◌, true≢false, arith}
use Rattle.std.proofs.lemmas.Bool.{and_parts, cases_eq}
use Rattle.tt_sql.specs.grammar.Grammar.{Lexeme, Mark, Rule, Gram, is_of, Spells, nothing, token, deep, note, both, left, right, more, enough, again}
use Rattle.tt_sql.proofs.machine.Decisions.{all_below, empty, first, starts, firsts, apart, within, Tests, IsTable}

-- ---- tests

pub false≢true : false ≡ true → ⊥
false≢true e = true≢false (sym e)

pub or_split : (a b : Bool) → (a || b) ≡ true → (a ≡ true) ⊎ (b ≡ true)
or_split true b e = inl refl
or_split false b e = inr e

pub and_join : (a b : Bool) → a ≡ true → b ≡ true → (a && b) ≡ true
and_join true b p q = q
and_join false b p q = p

pub or_first : (a b : Bool) → a ≡ true → (a || b) ≡ true
or_first true b e = refl
or_first false b e = absurd (false≢true e)

pub or_second : (a b : Bool) → b ≡ true → (a || b) ≡ true
or_second true b e = refl
or_second false b e = e

pub not_both : (a b : Bool) → not (a && b) ≡ true → a ≡ true → b ≡ true → ⊥
not_both true true e p q = false≢true e
not_both true false e p q = false≢true q
not_both false b e p q = false≢true p

pub implied : (a b : Bool) → (not a || b) ≡ true → a ≡ true → b ≡ true
implied true b e p = e
implied false b e p = absurd (false≢true p)

pub all_below-at : (n : ℕ) (test : ℕ → Bool) (k : ℕ) → all_below n test ≡ true → k < n → test k ≡ true
all_below-at zero test k e less = absurd (omega arith)
all_below-at (suc n) test k e less =
    at_or_below (cases_eq k n) (λ under. all_below-at n test k (and_parts (test n) (all_below n test) e).1 under)
  where
    at_or_below : ((k ≡ n) ⊎ (k ≡ n → ⊥)) → (k < n → test k ≡ true) → test k ≡ true
    at_or_below (inl same) below = ap test same ∙ (and_parts (test n) (all_below n test) e).0
    at_or_below (inr differ) below = below (omega arith)

pub apart-at : (kinds : ℕ) (F G : ℕ → Bool) (k : ℕ) → apart kinds F G ≡ true → k < kinds → F k ≡ true → G k ≡ true → ⊥
apart-at kinds F G k e less f g = not_both (F k) (G k) (all_below-at kinds (λ j. not (F j && G j)) k e less) f g

pub within-at : (kinds : ℕ) (F G : ℕ → Bool) (k : ℕ) → within kinds F G ≡ true → k < kinds → F k ≡ true → G k ≡ true
within-at kinds F G k e less f = implied (F k) (G k) (all_below-at kinds (λ j. not (F j) || G j) k e less) f

-- what starts a part starts it also where more may follow
pub starts-wider : (tests : Tests) (F G : ℕ → Bool) (g : Gram) (k : ℕ) → (F k ≡ true → G k ≡ true) → starts tests F g k ≡ true → starts tests G g k ≡ true
starts-wider tests F G g k wider e = wider_or (or_split (first tests g k) (empty g && F k) e)
  where
    wider_or : ((first tests g k ≡ true) ⊎ ((empty g && F k) ≡ true)) → starts tests G g k ≡ true
    wider_or (inl here) = or_first (first tests g k) (empty g && G k) here
    wider_or (inr behind) = or_second (first tests g k) (empty g && G k) (and_join (empty g) (G k) (and_parts (empty g) (F k) behind).0 (wider (and_parts (empty g) (F k) behind).1))

-- ---- what a derivation begins with

both_starts : (a b c d e : Bool) → (a || (c && (b || (d && e)))) ≡ true → ((a || (c && b)) || ((c && d) && e)) ≡ true
both_starts true b c d e h = refl
both_starts false b false d e h = absurd (false≢true h)
both_starts false true true d e h = refl
both_starts false false true d e h = h

left_starts : (a b c d e : Bool) → (a || (c && e)) ≡ true → ((a || b) || ((c || d) && e)) ≡ true
left_starts true b c d e h = refl
left_starts false b false d e h = absurd (false≢true h)
left_starts false true true d e h = refl
left_starts false false true d e h = h

right_starts : (a b c d e : Bool) → (b || (d && e)) ≡ true → ((a || b) || ((c || d) && e)) ≡ true
right_starts true b c d e h = refl
right_starts false true c d e h = refl
right_starts false false c false e h = absurd (false≢true h)
right_starts false false true true e h = h
right_starts false false false true e h = h

many_starts : (a c e : Bool) → (a || (c && (a || e))) ≡ true → (a || e) ≡ true
many_starts true c e p = refl
many_starts false false e p = absurd (false≢true p)
many_starts false true e p = p

only_first : (a c e : Bool) → c ≡ false → (a || (c && e)) ≡ true → a ≡ true
only_first true c e f p = refl
only_first false true e f p = absurd (true≢false f)
only_first false false e f p = p

module _ (tests : Tests) (rule : Rule → ℕ → Gram) (table : IsTable tests rule) (lifted : Bool) where
  -- the first token is of a kind that the parts may begin with
  pub begins : {done : List Lexeme} {K : List Gram} {m : List Mark} {t : Lexeme} {ts : List Lexeme} → t.kind < tests.kinds → Spells rule lifted done K m (t ∷ ts) → firsts tests K t.kind ≡ true
  unfolding firsts first empty
  begins known (token {k = k} {more = others} {K = K} {t = t} e d) = or_first (is_of k others t.kind) (false && firsts tests K t.kind) e
  begins known (deep {kinds = kinds} {K = K} {t = t} l e d) = or_first (kinds t.kind) (false && firsts tests K t.kind) e
  begins known (note d) = begins known d
  begins {t = t} known (both {g = g} {h = h} {K = K} d) = both_starts (first tests g t.kind) (first tests h t.kind) (empty g) (empty h) (firsts tests K t.kind) (begins known d)
  begins {t = t} known (left {g = g} {h = h} {K = K} d) = left_starts (first tests g t.kind) (first tests h t.kind) (empty g) (empty h) (firsts tests K t.kind) (begins known d)
  begins {t = t} known (right {g = g} {h = h} {K = K} d) = right_starts (first tests g t.kind) (first tests h t.kind) (empty g) (empty h) (firsts tests K t.kind) (begins known d)
  begins {t = t} known (more {g = g} {K = K} d) = many_starts (first tests g t.kind) (empty g) (firsts tests K t.kind) (begins known d)
  begins {t = t} known (enough {g = g} {K = K} d) = or_second (first tests g t.kind) (true && firsts tests K t.kind) (begins known d)
  begins {t = t} known (again {r = r} {d = n} {K = K} d) = or_first (tests.front r t.kind) (false && firsts tests K t.kind)
      (within-at tests.kinds (first tests (rule r n)) (tests.front r) t.kind (table.begins r n) known (only_first (first tests (rule r n) t.kind) (empty (rule r n)) (firsts tests K t.kind) (table.solid r n) (begins known d)))

both_empty : (a b c : Bool) → (a && (b && c)) ≡ true → ((a && b) && c) ≡ true
both_empty true b c e = e
both_empty false b c e = e

left_empty : (a b c : Bool) → (a && c) ≡ true → ((a || b) && c) ≡ true
left_empty true b c e = e
left_empty false b c e = absurd (false≢true e)

right_empty : (a b c : Bool) → (b && c) ≡ true → ((a || b) && c) ≡ true
right_empty true true c e = e
right_empty true false c e = absurd (false≢true e)
right_empty false b c e = e

unfoldable pub all_empty : List Gram → Bool
all_empty [] = true
all_empty (g ∷ K) = empty g && all_empty K

module _ (rule : Rule → ℕ → Gram) (lifted : Bool) (solid : (r : Rule) (d : ℕ) → empty (rule r d) ≡ false) where
  -- what spells nothing is empty
  pub ends : {done : List Lexeme} {K : List Gram} {m : List Mark} → Spells rule lifted done K m [] → all_empty K ≡ true
  unfolding all_empty empty
  ends nothing = refl
  ends (note d) = ends d
  ends (both {g = g} {h = h} {K = K} d) = both_empty (empty g) (empty h) (all_empty K) (ends d)
  ends (left {g = g} {h = h} {K = K} d) = left_empty (empty g) (empty h) (all_empty K) (ends d)
  ends (right {g = g} {h = h} {K = K} d) = right_empty (empty g) (empty h) (all_empty K) (ends d)
  ends (more {g = g} {K = K} d) = (and_parts (empty g) (all_empty K) (ends d)).1
  ends (enough d) = ends d
  ends (again {r = r} {d = n} d) = absurd (false≢true (sym (solid r n) ∙ (and_parts (empty (rule r n)) _ (ends d)).0))
