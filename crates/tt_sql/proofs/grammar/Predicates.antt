-- Predicates as written and as read spell the same.
use Rattle.std.proofs.Common.{◌≡◌, ℕ, zero, suc, ◌<◌, Bool, true, false, ◌==◌, ◌⊎◌, inl, inr, ⊎_elim, List, ◌∷◌, length, refl, sym, subst, arith}
use Rattle.std.proofs.lemmas.Bool.{eqb-true}
use Rattle.tt_sql.specs.grammar.Grammar.{Lexeme, Mark, Way, Said, Rule, Predicate, Unit, Gram, Many, Again, is_of, Spells, token, note, both, left, right, nowhere}
use Rattle.tt_sql.proofs.machine.Decisions.{empty}
use Rattle.tt_sql.proofs.grammar.Fronts.{false≢true, or_split, or_first}
use Rattle.tt_sql.proofs.grammar.Carries.{Carries, Lax, Strict, plain, to_lax, strict_first, strict_either, lax_both, lax_many, strict_again, same}
use Rattle.tt_sql.proofs.grammar.Expressions.{date_is_name, but_is_name, name_is_but, neither_word}
use Rattle.tt_sql.specs.grammar.TokenKinds.{NULL, NOT, IS, IN, BETWEEN, AND, OR, DATE, NAME, STARTSWITH, OPEN, CLOSE, COMMA, is_name}
use Rattle.tt_sql.specs.grammar.Combinators.{◌▸◌, ◌∣◌, way, one, name, quoted, maybe, brackets, listed}
use Rattle.tt_sql.specs.grammar.Written.{literal, operand, compare, simple_unit, unit, pred, written_rule}
use Rattle.tt_sql.specs.machine.Factored.{or_date, read_operand, unit_end, is_starts_with, read_simple, read_unit, read_pred, read_rule}

-- ---- operands

-- what is left behind an operand as written: it can be read, unless it is one of these words
pub record WrittenOperand (lifted : Bool) (words : ℕ → Bool) (K : List Gram) (done : List Lexeme) (m : List Mark) (ts : List Lexeme) : Type 0 where
  pub front : List Lexeme
  pub later : List Mark
  pub rest : List Lexeme
  pub fewer : length rest < length ts
  pub behind : Spells written_rule lifted front K later rest
  pub build : ((L : List Gram) → Spells read_rule lifted front L later rest → Spells read_rule lifted done (read_operand words ∷ L) m ts)
      ⊎ ((t : Lexeme) × (words t.kind ≡ true) × (ts ≡ t ∷ rest) × (front ≡ t ∷ done) × (m ≡ Said t.text t.place ∷ Way 0 ∷ later))

pub record ReadOperand (lifted : Bool) (L : List Gram) (done : List Lexeme) (m : List Mark) (ts : List Lexeme) : Type 0 where
  pub front : List Lexeme
  pub later : List Mark
  pub rest : List Lexeme
  pub fewer : length rest < length ts
  pub behind : Spells read_rule lifted front L later rest
  pub build : (K : List Gram) → Spells written_rule lifted front K later rest → Spells written_rule lifted done (operand ∷ K) m ts

module _ (lifted : Bool) (words : ℕ → Bool) where
  operand_name : (K : List Gram) (done : List Lexeme) (o : List Mark) (t : Lexeme) (us : List Lexeme) → is_of NAME is_name t.kind ≡ true → Spells written_rule lifted (t ∷ done) K o us → (a : Bool) → (t.kind == DATE) ≡ a → (b : Bool) → words t.kind ≡ b → WrittenOperand lifted words K done (Said t.text t.place ∷ Way 0 ∷ o) (t ∷ us)
  operand_name K done o t us e d true p b q = record { front = t ∷ done; later = o; rest = us; fewer = omega arith; behind = d; build = inl (λ L r. right (right (right (right (right (both (token (or_first (t.kind == DATE) (nowhere t.kind) p) (right (both (note (note r))))))))))) }
  operand_name K done o t us e d false p true q = record { front = t ∷ done; later = o; rest = us; fewer = omega arith; behind = d; build = inr (t, q, refl, refl, refl) }
  operand_name K done o t us e d false p false q = record { front = t ∷ done; later = o; rest = us; fewer = omega arith; behind = d; build = inl (λ L r. left (both (both (token (name_is_but (or_date words) t.kind e (neither_word (t.kind == DATE) (words t.kind) p q)) (note (note r)))))) }

  pub operand_there : (K : List Gram) (done : List Lexeme) (m : List Mark) (ts : List Lexeme) → Spells written_rule lifted done (operand ∷ K) m ts → WrittenOperand lifted words K done m ts
  operand_there K done m ts (left (both (both (token {t = t} {ts = us} e (note (note {m = o} d)))))) = operand_name K done o t us e d (t.kind == DATE) refl (words t.kind) refl
  operand_there K done m ts (right (both (left (both (both (token {t = t} {ts = us} e (note (note (note {m = o} d))))))))) = record { front = t ∷ done; later = o; rest = us; fewer = omega arith; behind = d; build = inl (λ L r. right (left (both (both (token e (note (both (note (note r))))))))) }
  operand_there K done m ts (right (both (right (left (both (both (token {t = t} {ts = us} e (note (note (note {m = o} d)))))))))) = record { front = t ∷ done; later = o; rest = us; fewer = omega arith; behind = d; build = inl (λ L r. right (right (left (both (both (token e (note (both (note (note r)))))))))) }
  operand_there K done m ts (right (both (right (right (left (both (token {t = t} e (both (token {t = u} {ts = us} f (both (note (note (note {m = o} d))))))))))))) = record { front = u ∷ t ∷ done; later = o; rest = us; fewer = omega arith; behind = d; build = inl (λ L r. right (right (right (left (both (token e (both (both (token f (note (both (note (note r))))))))))))) }
  operand_there K done m ts (right (both (right (right (right (left (both (both (token {t = t} {ts = us} e (note (note (note {m = o} d)))))))))))) = record { front = t ∷ done; later = o; rest = us; fewer = omega arith; behind = d; build = inl (λ L r. right (right (right (right (left (both (both (token e (note (both (note (note r)))))))))))) }
  operand_there K done m ts (right (both (right (right (right (right (both (token {t = t} e (both (token {t = u} {ts = us} f (both (note (note (note {m = o} d)))))))))))))) = record { front = u ∷ t ∷ done; later = o; rest = us; fewer = omega arith; behind = d; build = inl (λ L r. right (right (right (right (right (both (token e (left (both (token f (both (note (both (note (note r))))))))))))))) }

  pub operand_back : (L : List Gram) (done : List Lexeme) (m : List Mark) (ts : List Lexeme) → Spells read_rule lifted done (read_operand words ∷ L) m ts → ReadOperand lifted L done m ts
  operand_back L done m ts (left (both (both (token {t = t} {ts = us} e (note (note {m = o} d)))))) = record { front = t ∷ done; later = o; rest = us; fewer = omega arith; behind = d; build = (λ K r. left (both (both (token (but_is_name (or_date words) t.kind e) (note (note r)))))) }
  operand_back L done m ts (right (left (both (both (token {t = t} {ts = us} e (note (both (note (note {m = o} d))))))))) = record { front = t ∷ done; later = o; rest = us; fewer = omega arith; behind = d; build = (λ K r. right (both (left (both (both (token e (note (note (note r))))))))) }
  operand_back L done m ts (right (right (left (both (both (token {t = t} {ts = us} e (note (both (note (note {m = o} d)))))))))) = record { front = t ∷ done; later = o; rest = us; fewer = omega arith; behind = d; build = (λ K r. right (both (right (left (both (both (token e (note (note (note r)))))))))) }
  operand_back L done m ts (right (right (right (left (both (token {t = t} e (both (both (token {t = u} {ts = us} f (note (both (note (note {m = o} d))))))))))))) = record { front = u ∷ t ∷ done; later = o; rest = us; fewer = omega arith; behind = d; build = (λ K r. right (both (right (right (left (both (token e (both (token f (both (note (note (note r))))))))))))) }
  operand_back L done m ts (right (right (right (right (left (both (both (token {t = t} {ts = us} e (note (both (note (note {m = o} d)))))))))))) = record { front = t ∷ done; later = o; rest = us; fewer = omega arith; behind = d; build = (λ K r. right (both (right (right (right (left (both (both (token e (note (note (note r)))))))))))) }
  operand_back L done m ts (right (right (right (right (right (both (token {t = t} e (left (both (token {t = u} {ts = us} f (both (note (both (note (note {m = o} d))))))))))))))) = record { front = u ∷ t ∷ done; later = o; rest = us; fewer = omega arith; behind = d; build = (λ K r. right (both (right (right (right (right (both (token e (both (token f (both (note (note (note r)))))))))))))) }
  operand_back L done m ts (right (right (right (right (right (both (token {t = t} {ts = us} e (right (both (note (note {m = o} d))))))))))) = record { front = t ∷ done; later = o; rest = us; fewer = omega arith; behind = d; build = (λ K r. left (both (both (token (date_is_name t.kind e) (note (note r)))))) }

-- ---- what stands behind the first operand

abbrev compared : Gram
compared = compare ▸ operand ▸ way 2

abbrev null_tested : Gram
null_tested = one IS ▸ maybe (one NOT) ▸ one NULL ▸ way 3

abbrev in_list : Gram
in_list = one IN ▸ brackets (listed literal) ▸ way 4

abbrev between : Gram
between = one BETWEEN ▸ literal ▸ one AND ▸ literal ▸ way 5

-- one of the four as written
abbrev WrittenEnd : Bool → List Gram → List Lexeme → List Mark → List Lexeme → Type 0
WrittenEnd lifted K done m ts = Spells written_rule lifted done (compared ∷ K) m ts
    ⊎ (Spells written_rule lifted done (null_tested ∷ K) m ts
    ⊎ (Spells written_rule lifted done ((maybe (one NOT) ▸ in_list) ∷ K) m ts
    ⊎ Spells written_rule lifted done ((maybe (one NOT) ▸ between) ∷ K) m ts))

module _ (lifted : Bool) where
  strict_operand : Strict written_rule read_rule lifted operand (read_operand nowhere)
  strict_operand n K L c done m ts less d = read_on (operand_there lifted nowhere K done m ts d)
    where
      read_on : WrittenOperand lifted nowhere K done m ts → Spells read_rule lifted done (read_operand nowhere ∷ L) m ts
      read_on w = ⊎_elim (λ b. b L (c w.front w.later w.rest (omega (arith, w.fewer)) w.behind)) (λ b. absurd (false≢true b.1)) w.build

  strict_operand_back : Strict read_rule written_rule lifted (read_operand nowhere) operand
  strict_operand_back n L K c done m ts less d = let w = operand_back lifted nowhere L done m ts d in w.build K (c w.front w.later w.rest (omega (arith, w.fewer)) w.behind)

  compared_there : Lax written_rule read_rule lifted compared (compare ▸ read_operand nowhere ▸ way 2)
  unfolding plain
  compared_there = lax_both written_rule read_rule lifted compare (operand ▸ way 2) compare (read_operand nowhere ▸ way 2) (same written_rule read_rule lifted compare refl).0
      (lax_both written_rule read_rule lifted operand (way 2) (read_operand nowhere) (way 2) (to_lax written_rule read_rule lifted operand (read_operand nowhere) strict_operand) (same written_rule read_rule lifted (way 2) refl).0)

  compared_back : Lax read_rule written_rule lifted (compare ▸ read_operand nowhere ▸ way 2) compared
  unfolding plain
  compared_back = lax_both read_rule written_rule lifted compare (read_operand nowhere ▸ way 2) compare (operand ▸ way 2) (same read_rule written_rule lifted compare refl).0
      (lax_both read_rule written_rule lifted (read_operand nowhere) (way 2) operand (way 2) (to_lax read_rule written_rule lifted (read_operand nowhere) operand strict_operand_back) (same read_rule written_rule lifted (way 2) refl).0)

  module _ (n : ℕ) (K L : List Gram) where
    end_compared : Carries written_rule read_rule lifted n K L → Carries written_rule read_rule lifted n (compared ∷ K) (unit_end ∷ L)
    end_compared c done m ts less d = left (compared_there n K L c done m ts less d)

    end_null : Carries written_rule read_rule lifted n K L → Carries written_rule read_rule lifted n (null_tested ∷ K) (unit_end ∷ L)
    unfolding plain empty
    end_null c done m ts less d = right (left ((same written_rule read_rule lifted null_tested refl).0 n K L c done m ts less d))

    end_in : Carries written_rule read_rule lifted n K L → Carries written_rule read_rule lifted n ((maybe (one NOT) ▸ in_list) ∷ K) (unit_end ∷ L)
    unfolding plain empty
    end_in c done m ts less (both (left (both (token {t = t} {ts = us} e (note {m = o} d))))) = right (right (left (both (token e (both (note (left ((same written_rule read_rule lifted in_list refl).0 n K L c (t ∷ done) o us (omega arith) d))))))))
    end_in c done m ts less (both (right (note {m = o} d))) = right (right (right (both (note (left ((same written_rule read_rule lifted in_list refl).0 n K L c done o ts less d))))))

    end_between : Carries written_rule read_rule lifted n K L → Carries written_rule read_rule lifted n ((maybe (one NOT) ▸ between) ∷ K) (unit_end ∷ L)
    unfolding plain empty
    end_between c done m ts less (both (left (both (token {t = t} {ts = us} e (note {m = o} d))))) = right (right (left (both (token e (both (note (right ((same written_rule read_rule lifted between refl).0 n K L c (t ∷ done) o us (omega arith) d))))))))
    end_between c done m ts less (both (right (note {m = o} d))) = right (right (right (both (note (right ((same written_rule read_rule lifted between refl).0 n K L c done o ts less d))))))

    end_back : Carries read_rule written_rule lifted n L K → (done : List Lexeme) (m : List Mark) (ts : List Lexeme) → length ts < n → Spells read_rule lifted done (unit_end ∷ L) m ts → WrittenEnd lifted K done m ts
    unfolding plain empty
    end_back c done m ts less (left d) = inl (compared_back n L K c done m ts less d)
    end_back c done m ts less (right (left d)) = inr (inl ((same read_rule written_rule lifted null_tested refl).0 n L K c done m ts less d))
    end_back c done m ts less (right (right (left (both (token {t = t} {ts = us} e (both (note (left {m = o} d)))))))) = inr (inr (inl (both (left (both (token e (note ((same read_rule written_rule lifted in_list refl).0 n L K c (t ∷ done) o us (omega arith) d))))))))
    end_back c done m ts less (right (right (left (both (token {t = t} {ts = us} e (both (note (right {m = o} d)))))))) = inr (inr (inr (both (left (both (token e (note ((same read_rule written_rule lifted between refl).0 n L K c (t ∷ done) o us (omega arith) d))))))))
    end_back c done m ts less (right (right (right (both (note (left {m = o} d)))))) = inr (inr (inl (both (right (note ((same read_rule written_rule lifted in_list refl).0 n L K c done o ts less d))))))
    end_back c done m ts less (right (right (right (both (note (right {m = o} d)))))) = inr (inr (inr (both (right (note ((same read_rule written_rule lifted between refl).0 n L K c done o ts less d))))))

  -- ---- units

  abbrev starts_with_end : Gram
  starts_with_end = one OPEN ▸ name ▸ one COMMA ▸ quoted ▸ one CLOSE ▸ way 6

  starts_with_word : (L : List Gram) (done : List Lexeme) (t : Lexeme) (o : List Mark) (us : List Lexeme) → is_starts_with t.kind ≡ true → Spells read_rule lifted (t ∷ done) (unit_end ∷ L) o us → Spells read_rule lifted done (read_simple ∷ L) (Said t.text t.place ∷ Way 0 ∷ o) (t ∷ us)
  starts_with_word L done t o us e d = left (both (token (or_first (t.kind == STARTSWITH) (nowhere t.kind) e) (right (both (note (both (note d)))))))

  read_simple_on : (K' L : List Gram) (done : List Lexeme) (m : List Mark) (ts : List Lexeme) → (w : WrittenOperand lifted is_starts_with K' done m ts) → Spells read_rule lifted w.front (unit_end ∷ L) w.later w.rest → Spells read_rule lifted done (read_simple ∷ L) m ts
  read_simple_on K' L done m ts w y = ⊎_elim (λ b. right (both (b (unit_end ∷ L) y)))
      (λ b. subst (λ x. Spells read_rule lifted done (read_simple ∷ L) m x) (sym b.2) (subst (λ x. Spells read_rule lifted done (read_simple ∷ L) x (b.0 ∷ w.rest)) (sym b.4) (starts_with_word L done b.0 w.later w.rest b.1 (subst (λ x. Spells read_rule lifted x (unit_end ∷ L) w.later w.rest) b.3 y))))
      w.build

  simple_there : Strict written_rule read_rule lifted simple_unit read_simple
  unfolding plain empty
  simple_there n K L c done m ts less (left (both d)) = let w = operand_there lifted is_starts_with (compared ∷ K) done m ts d in read_simple_on (compared ∷ K) L done m ts w (end_compared n K L c w.front w.later w.rest (omega (arith, w.fewer)) w.behind)
  simple_there n K L c done m ts less (right (left (both d))) = let w = operand_there lifted is_starts_with (null_tested ∷ K) done m ts d in read_simple_on (null_tested ∷ K) L done m ts w (end_null n K L c w.front w.later w.rest (omega (arith, w.fewer)) w.behind)
  simple_there n K L c done m ts less (right (right (left (both d)))) = let w = operand_there lifted is_starts_with ((maybe (one NOT) ▸ in_list) ∷ K) done m ts d in read_simple_on ((maybe (one NOT) ▸ in_list) ∷ K) L done m ts w (end_in n K L c w.front w.later w.rest (omega (arith, w.fewer)) w.behind)
  simple_there n K L c done m ts less (right (right (right (left (both d))))) = let w = operand_there lifted is_starts_with ((maybe (one NOT) ▸ between) ∷ K) done m ts d in read_simple_on ((maybe (one NOT) ▸ between) ∷ K) L done m ts w (end_between n K L c w.front w.later w.rest (omega (arith, w.fewer)) w.behind)
  simple_there n K L c done m ts less (right (right (right (right (both (token {t = t} {ts = us} e d)))))) = left (both (token e (left ((same written_rule read_rule lifted starts_with_end refl).0 n K L c (t ∷ done) m us (omega arith) d))))

  -- with an operand in front
  written_simple : (K : List Gram) (front done : List Lexeme) (m later : List Mark) (ts rest : List Lexeme) → ((J : List Gram) → Spells written_rule lifted front J later rest → Spells written_rule lifted done (operand ∷ J) m ts) → WrittenEnd lifted K front later rest → Spells written_rule lifted done (simple_unit ∷ K) m ts
  written_simple K front done m later ts rest build (inl d) = left (both (build (compared ∷ K) d))
  written_simple K front done m later ts rest build (inr (inl d)) = right (left (both (build (null_tested ∷ K) d)))
  written_simple K front done m later ts rest build (inr (inr (inl d))) = right (right (left (both (build ((maybe (one NOT) ▸ in_list) ∷ K) d))))
  written_simple K front done m later ts rest build (inr (inr (inr d))) = right (right (right (left (both (build ((maybe (one NOT) ▸ between) ∷ K) d)))))

  starts_with_is_name : (k : ℕ) → is_of STARTSWITH nowhere k ≡ true → is_of NAME is_name k ≡ true
  starts_with_is_name k e = word_case (or_split (k == STARTSWITH) (nowhere k) e)
    where
      word_case : ((k == STARTSWITH) ≡ true) ⊎ (nowhere k ≡ true) → is_of NAME is_name k ≡ true
      word_case (inl f) = subst (λ i. is_of NAME is_name i ≡ true) (sym (eqb-true k STARTSWITH f)) refl
      word_case (inr f) = absurd (false≢true f)

  simple_back : Strict read_rule written_rule lifted read_simple simple_unit
  unfolding plain empty
  simple_back n L K c done m ts less (left (both (token {t = t} {ts = us} e (left d)))) = right (right (right (right (both (token e ((same read_rule written_rule lifted starts_with_end refl).0 n L K c (t ∷ done) m us (omega arith) d))))))
  simple_back n L K c done m ts less (left (both (token {t = t} {ts = us} e (right (both (note (both (note {m = o} d)))))))) =
      written_simple K (t ∷ done) done (Said t.text t.place ∷ Way 0 ∷ o) o (t ∷ us) us (λ J r. left (both (both (token (starts_with_is_name t.kind e) (note (note r)))))) (end_back n K L c (t ∷ done) o us (omega arith) d)
  simple_back n L K c done m ts less (right (both d)) =
      let w = operand_back lifted is_starts_with (unit_end ∷ L) done m ts d in
      written_simple K w.front done m w.later ts w.rest w.build (end_back n K L c w.front w.later w.rest (omega (arith, w.fewer)) w.behind)

-- ---- predicates

-- the same in brackets and behind NOT
pub record InnerPred (rule other : Rule → ℕ → Gram) (lifted : Bool) (levels : ℕ) : Type 0 where
  pub unit : Strict rule other lifted (Again Unit levels) (Again Unit levels)
  pub pred : Strict rule other lifted (Again Predicate levels) (Again Predicate levels)

abbrev deeper_unit : ℕ → Gram → Gram
deeper_unit levels f = one NOT ▸ way 7 ▸ Again Unit levels ∣ one OPEN ▸ way 8 ▸ Again Predicate levels ▸ one CLOSE ∣ f

abbrev pred_of : Gram → Gram
pred_of f = (f ▸ Many (one AND ▸ f)) ▸ Many (one OR ▸ (f ▸ Many (one AND ▸ f)))

module _ (rule other : Rule → ℕ → Gram) (lifted : Bool) where
  strict_deeper : (levels : ℕ) (f g : Gram) → InnerPred rule other lifted levels → Strict rule other lifted f g → Strict rule other lifted (deeper_unit levels f) (deeper_unit levels g)
  unfolding plain empty
  strict_deeper levels f g inner s =
      strict_either rule other lifted (one NOT ▸ way 7 ▸ Again Unit levels) (one OPEN ▸ way 8 ▸ Again Predicate levels ▸ one CLOSE ∣ f) (one NOT ▸ way 7 ▸ Again Unit levels) (one OPEN ▸ way 8 ▸ Again Predicate levels ▸ one CLOSE ∣ g)
      (strict_first rule other lifted (one NOT) (way 7 ▸ Again Unit levels) (one NOT) (way 7 ▸ Again Unit levels) ((same rule other lifted (one NOT) refl).1 refl) (lax_both rule other lifted (way 7) (Again Unit levels) (way 7) (Again Unit levels) (same rule other lifted (way 7) refl).0 (to_lax rule other lifted (Again Unit levels) (Again Unit levels) inner.unit)))
      (strict_either rule other lifted (one OPEN ▸ way 8 ▸ Again Predicate levels ▸ one CLOSE) f (one OPEN ▸ way 8 ▸ Again Predicate levels ▸ one CLOSE) g
      (strict_first rule other lifted (one OPEN) (way 8 ▸ Again Predicate levels ▸ one CLOSE) (one OPEN) (way 8 ▸ Again Predicate levels ▸ one CLOSE) ((same rule other lifted (one OPEN) refl).1 refl) (lax_both rule other lifted (way 8) (Again Predicate levels ▸ one CLOSE) (way 8) (Again Predicate levels ▸ one CLOSE) (same rule other lifted (way 8) refl).0 (lax_both rule other lifted (Again Predicate levels) (one CLOSE) (Again Predicate levels) (one CLOSE) (to_lax rule other lifted (Again Predicate levels) (Again Predicate levels) inner.pred) (same rule other lifted (one CLOSE) refl).0)))
      s)

  strict_joined : (k : ℕ) (f g : Gram) → Strict rule other lifted f g → Strict rule other lifted (f ▸ Many (one k ▸ f)) (g ▸ Many (one k ▸ g))
  unfolding plain empty
  strict_joined k f g s = strict_first rule other lifted f (Many (one k ▸ f)) g (Many (one k ▸ g)) s
      (lax_many rule other lifted (one k ▸ f) (one k ▸ g) (strict_first rule other lifted (one k) f (one k) g ((same rule other lifted (one k) refl).1 refl) (to_lax rule other lifted f g s)))

  strict_pred : (f g : Gram) → Strict rule other lifted f g → Strict rule other lifted (pred_of f) (pred_of g)
  strict_pred f g s = strict_joined OR (f ▸ Many (one AND ▸ f)) (g ▸ Many (one AND ▸ g)) (strict_joined AND f g s)

unit_zero : (lifted : Bool) → Strict written_rule read_rule lifted (unit zero) (read_unit zero)
unfolding unit read_unit
unit_zero lifted = simple_there lifted

unit_suc : (lifted : Bool) (levels : ℕ) → InnerPred written_rule read_rule lifted levels → Strict written_rule read_rule lifted (unit (suc levels)) (read_unit (suc levels))
unfolding unit read_unit
unit_suc lifted levels inner = strict_deeper written_rule read_rule lifted levels simple_unit read_simple inner (simple_there lifted)

unit_zero_back : (lifted : Bool) → Strict read_rule written_rule lifted (read_unit zero) (unit zero)
unfolding unit read_unit
unit_zero_back lifted = simple_back lifted

unit_suc_back : (lifted : Bool) (levels : ℕ) → InnerPred read_rule written_rule lifted levels → Strict read_rule written_rule lifted (read_unit (suc levels)) (unit (suc levels))
unfolding unit read_unit
unit_suc_back lifted levels inner = strict_deeper read_rule written_rule lifted levels read_simple simple_unit inner (simple_back lifted)

module _ (lifted : Bool) where
  inner_there : (levels : ℕ) → Strict written_rule read_rule lifted (unit levels) (read_unit levels) → InnerPred written_rule read_rule lifted levels
  inner_there levels s = record { unit = strict_again written_rule read_rule lifted Unit levels s; pred = strict_again written_rule read_rule lifted Predicate levels (strict_pred written_rule read_rule lifted (unit levels) (read_unit levels) s) }

  pub unit_there : (levels : ℕ) → Strict written_rule read_rule lifted (unit levels) (read_unit levels)
  unit_there zero = unit_zero lifted
  unit_there (suc levels) = unit_suc lifted levels (inner_there levels (unit_there levels))

  pub pred_there : (levels : ℕ) → Strict written_rule read_rule lifted (pred levels) (read_pred levels)
  pred_there levels = strict_pred written_rule read_rule lifted (unit levels) (read_unit levels) (unit_there levels)

  inner_back : (levels : ℕ) → Strict read_rule written_rule lifted (read_unit levels) (unit levels) → InnerPred read_rule written_rule lifted levels
  inner_back levels s = record { unit = strict_again read_rule written_rule lifted Unit levels s; pred = strict_again read_rule written_rule lifted Predicate levels (strict_pred read_rule written_rule lifted (read_unit levels) (unit levels) s) }

  pub unit_back : (levels : ℕ) → Strict read_rule written_rule lifted (read_unit levels) (unit levels)
  unit_back zero = unit_zero_back lifted
  unit_back (suc levels) = unit_suc_back lifted levels (inner_back levels (unit_back levels))

  pub pred_back : (levels : ℕ) → Strict read_rule written_rule lifted (read_pred levels) (pred levels)
  pred_back levels = strict_pred read_rule written_rule lifted (read_unit levels) (unit levels) (unit_back levels)
