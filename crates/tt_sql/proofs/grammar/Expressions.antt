-- Expressions as written and as read spell the same.
use Rattle.std.proofs.Common.{◌≡◌, ℕ, zero, suc, ◌<◌, Bool, true, false, not, ◌||◌, ◌==◌, ◌⊎◌, inl, inr, List, ◌∷◌, length, refl, sym, subst, arith}
use Rattle.std.proofs.lemmas.Bool.{and_parts, eqb-true, not_from_false}
use Rattle.tt_sql.specs.grammar.Grammar.{Lexeme, Mark, Way, Said, Rule, Expr, Negated, Gram, Many, Again, is_of, Spells, token, deep, note, both, left, right, nowhere}
use Rattle.tt_sql.proofs.machine.Decisions.{empty}
use Rattle.tt_sql.proofs.grammar.Fronts.{false≢true, or_split, and_join, or_first, or_second}
use Rattle.tt_sql.proofs.grammar.Carries.{Carries, Strict, plain, to_lax, strict_first, strict_either, lax_many, strict_again, same}
use Rattle.tt_sql.specs.grammar.TokenKinds.{DATE, NAME, STAR, CLOSE, is_name}
use Rattle.tt_sql.specs.grammar.Combinators.{◌▸◌, way, one, number}
use Rattle.tt_sql.specs.grammar.Written.{negated, factor, term, expr, sign, written_rule}
use Rattle.tt_sql.specs.machine.Factored.{but, or_date, read_other, read_factor, read_factors, read_expr, read_rule}

-- ---- names

pub date_is_name : (k : ℕ) → is_of DATE nowhere k ≡ true → is_of NAME is_name k ≡ true
date_is_name k e = date_case (or_split (k == DATE) (nowhere k) e)
  where
    date_case : ((k == DATE) ≡ true) ⊎ (nowhere k ≡ true) → is_of NAME is_name k ≡ true
    date_case (inl f) = subst (λ i. is_of NAME is_name i ≡ true) (sym (eqb-true k DATE f)) refl
    date_case (inr f) = absurd (false≢true f)

pub but_is_name : (words : ℕ → Bool) (k : ℕ) → is_of NAME (but words) k ≡ true → is_of NAME is_name k ≡ true
but_is_name words k e = but_case (or_split (k == NAME) (but words k) e)
  where
    but_case : ((k == NAME) ≡ true) ⊎ (but words k ≡ true) → is_of NAME is_name k ≡ true
    but_case (inl f) = or_first (k == NAME) (is_name k) f
    but_case (inr f) = or_second (k == NAME) (is_name k) (and_parts (is_name k) (not (words k)) f).0

pub name_is_but : (words : ℕ → Bool) (k : ℕ) → is_of NAME is_name k ≡ true → words k ≡ false → is_of NAME (but words) k ≡ true
name_is_but words k e w = name_case (or_split (k == NAME) (is_name k) e)
  where
    name_case : ((k == NAME) ≡ true) ⊎ (is_name k ≡ true) → is_of NAME (but words) k ≡ true
    name_case (inl f) = or_first (k == NAME) (but words k) f
    name_case (inr f) = or_second (k == NAME) (but words k) (and_join (is_name k) (not (words k)) f (not_from_false (words k) w))

pub neither_word : (a b : Bool) → a ≡ false → b ≡ false → (a || b) ≡ false
neither_word true b p q = p
neither_word false b p q = q

-- ---- from written to read

-- a factor that is one of these words, as a name
pub record IsWord (lifted : Bool) (words : ℕ → Bool) (K : List Gram) (done : List Lexeme) (m : List Mark) (ts : List Lexeme) : Type 0 where
  pub word : Lexeme
  pub rest : List Lexeme
  pub later : List Mark
  pub tokens : ts ≡ word ∷ rest
  pub marks : m ≡ Said word.text word.place ∷ Way 1 ∷ later
  pub known : words word.kind ≡ true
  pub behind : Spells written_rule lifted (word ∷ done) K later rest

-- the same within brackets and behind a minus
pub record Inner (rule other : Rule → ℕ → Gram) (lifted : Bool) (levels : ℕ) : Type 0 where
  pub bracket : Strict rule other lifted (Again Expr levels) (Again Expr levels)
  pub minus : Strict rule other lifted (Again Negated levels) (Again Negated levels)

module _ (lifted : Bool) (words : ℕ → Bool) where
  abbrev ReadsOther : ℕ → List Gram → List Gram → List Lexeme → List Mark → List Lexeme → Type 0
  ReadsOther levels K L done m ts = IsWord lifted words K done m ts ⊎ Spells read_rule lifted done (read_other words levels ∷ L) m ts

  named : (levels : ℕ) (n : ℕ) (K L : List Gram) → Carries written_rule read_rule lifted n K L → (done : List Lexeme) (o : List Mark) (t : Lexeme) (us : List Lexeme) → length us < n → is_of NAME is_name t.kind ≡ true → (Spells read_rule lifted (t ∷ done) L o us → is_of DATE nowhere t.kind ≡ true → Spells read_rule lifted done (read_other words levels ∷ L) (Said t.text t.place ∷ Way 1 ∷ o) (t ∷ us)) → (Spells read_rule lifted (t ∷ done) L o us → is_of NAME (but (or_date words)) t.kind ≡ true → Spells read_rule lifted done (read_other words levels ∷ L) (Said t.text t.place ∷ Way 1 ∷ o) (t ∷ us)) → Spells written_rule lifted (t ∷ done) K o us → (a : Bool) → (t.kind == DATE) ≡ a → (b : Bool) → words t.kind ≡ b → ReadsOther levels K L done (Said t.text t.place ∷ Way 1 ∷ o) (t ∷ us)
  named levels n K L c done o t us less e by_date by_name d true p b q = inr (by_date (c (t ∷ done) o us less d) (or_first (t.kind == DATE) (nowhere t.kind) p))
  named levels n K L c done o t us less e by_date by_name d false p true q = inl (record { word = t; rest = us; later = o; tokens = refl; marks = refl; known = q; behind = d })
  named levels n K L c done o t us less e by_date by_name d false p false q = inr (by_name (c (t ∷ done) o us less d) (name_is_but (or_date words) t.kind e (neither_word (t.kind == DATE) (words t.kind) p q)))

  other_zero : (n : ℕ) (K L : List Gram) → Carries written_rule read_rule lifted n K L → (done : List Lexeme) (m : List Mark) (ts : List Lexeme) → length ts < suc n → Spells written_rule lifted done (negated zero ∷ K) m ts → ReadsOther zero K L done m ts
  unfolding negated read_other
  other_zero n K L c done m ts less (left (both (left (both (both (token {t = t} {ts = us} e (note (note (note {m = o} d))))))))) = inr (left (both (both (token e (note (both (note (note (c (t ∷ done) o us (omega arith) d)))))))))
  other_zero n K L c done m ts less (left (both (right (left (both (token {t = t} e (both (token {t = u} {ts = us} f (both (note (note (note {m = o} d)))))))))))) = inr (right (right (right (right (both (token e (left (both (both (token f (note (both (note (note (c (u ∷ t ∷ done) o us (omega arith) d)))))))))))))))
  other_zero n K L c done m ts less (left (both (right (right (left (both (both (token {t = t} {ts = us} e (note (note (note {m = o} d))))))))))) = inr (right (left (both (both (token e (note (both (note (note (c (t ∷ done) o us (omega arith) d))))))))))
  other_zero n K L c done m ts less (left (both (right (right (right (both (token {t = t} e (both (token {t = u} {ts = us} f (both (note (note (note {m = o} d))))))))))))) = inr (right (right (left (both (token e (left (both (token f (both (note (both (note (note (c (u ∷ t ∷ done) o us (omega arith) d))))))))))))))
  other_zero n K L c done m ts less (right (left (both (both (token {t = t} {ts = us} e (note (note {m = o} d))))))) =
      named zero n K L c done o t us (omega arith) e (λ r f. right (right (left (both (token f (right (both (note (note r))))))))) (λ r f. right (right (right (left (both (both (token f (note (note r))))))))) d (t.kind == DATE) refl (words t.kind) refl
  other_zero n K L c done m ts less (right (right (both (token {t = t} e (deep {m = o} {t = u} {ts = us} l f d))))) = inr (right (right (right (right (both (token e (right (deep l f (c (u ∷ t ∷ done) o us (omega arith) d)))))))))

  other_more : (levels : ℕ) → Inner written_rule read_rule lifted levels → (n : ℕ) (K L : List Gram) → Carries written_rule read_rule lifted n K L → (done : List Lexeme) (m : List Mark) (ts : List Lexeme) → length ts < suc n → Spells written_rule lifted done (negated (suc levels) ∷ K) m ts → ReadsOther (suc levels) K L done m ts
  unfolding negated read_other plain
  other_more levels inner n K L c done m ts less (left (both (left (both (both (token {t = t} {ts = us} e (note (note (note {m = o} d))))))))) = inr (left (both (both (token e (note (both (note (note (c (t ∷ done) o us (omega arith) d)))))))))
  other_more levels inner n K L c done m ts less (left (both (right (left (both (token {t = t} e (both (token {t = u} {ts = us} f (both (note (note (note {m = o} d)))))))))))) = inr (right (right (right (right (right (both (token e (left (both (both (token f (note (both (note (note (c (u ∷ t ∷ done) o us (omega arith) d))))))))))))))))
  other_more levels inner n K L c done m ts less (left (both (right (right (left (both (both (token {t = t} {ts = us} e (note (note (note {m = o} d))))))))))) = inr (right (left (both (both (token e (note (both (note (note (c (t ∷ done) o us (omega arith) d))))))))))
  other_more levels inner n K L c done m ts less (left (both (right (right (right (both (token {t = t} e (both (token {t = u} {ts = us} f (both (note (note (note {m = o} d))))))))))))) = inr (right (right (left (both (token e (left (both (token f (both (note (both (note (note (c (u ∷ t ∷ done) o us (omega arith) d))))))))))))))
  other_more levels inner n K L c done m ts less (right (left (both (both (token {t = t} {ts = us} e (note (note {m = o} d))))))) =
      named (suc levels) n K L c done o t us (omega arith) e (λ r f. right (right (left (both (token f (right (both (note (note r))))))))) (λ r f. right (right (right (left (both (both (token f (note (note r))))))))) d (t.kind == DATE) refl (words t.kind) refl
  other_more levels inner n K L c done m ts less (right (right (left (both (both (token {t = t} {ts = us} e (note (both {m = o} x)))))))) =
      inr (right (right (right (right (left (both (both (token e (note (both (inner.bracket n ((one CLOSE ▸ way 2) ∷ K) ((one CLOSE ▸ way 2) ∷ L) ((same written_rule read_rule lifted (one CLOSE ▸ way 2) refl).0 n K L c) (t ∷ done) o us (omega arith) x)))))))))))
  other_more levels inner n K L c done m ts less (right (right (right (both (both (token {t = t} {ts = us} e (note (both {m = o} x)))))))) =
      inr (right (right (right (right (right (both (token e (right (both (note (both (inner.minus n (way 3 ∷ K) (way 3 ∷ L) ((same written_rule read_rule lifted (way 3) refl).0 n K L c) (t ∷ done) o us (omega arith) x))))))))))))

  -- the words that are looked for begin the tokens, or the form that is read spells them
  pub other_there : (levels : ℕ) → ((d : ℕ) → levels ≡ suc d → Inner written_rule read_rule lifted d) → (n : ℕ) (K L : List Gram) → Carries written_rule read_rule lifted n K L → (done : List Lexeme) (m : List Mark) (ts : List Lexeme) → length ts < suc n → Spells written_rule lifted done (negated levels ∷ K) m ts → ReadsOther levels K L done m ts
  other_there zero inner n K L c done m ts less d = other_zero n K L c done m ts less d
  other_there (suc levels) inner n K L c done m ts less d = other_more levels (inner levels refl) n K L c done m ts less d

-- ---- from read to written

module _ (lifted : Bool) (words : ℕ → Bool) where
  back_zero : (n : ℕ) (K L : List Gram) → Carries read_rule written_rule lifted n L K → (done : List Lexeme) (m : List Mark) (ts : List Lexeme) → length ts < suc n → Spells read_rule lifted done (read_other words zero ∷ L) m ts → Spells written_rule lifted done (negated zero ∷ K) m ts
  unfolding negated read_other
  back_zero n K L c done m ts less (left (both (both (token {t = t} {ts = us} e (note (both (note (note {m = o} d)))))))) = left (both (left (both (both (token e (note (note (note (c (t ∷ done) o us (omega arith) d)))))))))
  back_zero n K L c done m ts less (right (left (both (both (token {t = t} {ts = us} e (note (both (note (note {m = o} d))))))))) = left (both (right (right (left (both (both (token e (note (note (note (c (t ∷ done) o us (omega arith) d)))))))))))
  back_zero n K L c done m ts less (right (right (left (both (token {t = t} e (left (both (token {t = u} {ts = us} f (both (note (both (note (note {m = o} d))))))))))))) = left (both (right (right (right (both (token e (both (token f (both (note (note (note (c (u ∷ t ∷ done) o us (omega arith) d)))))))))))))
  back_zero n K L c done m ts less (right (right (left (both (token {t = t} {ts = us} e (right (both (note (note {m = o} d))))))))) = right (left (both (both (token (date_is_name t.kind e) (note (note (c (t ∷ done) o us (omega arith) d)))))))
  back_zero n K L c done m ts less (right (right (right (left (both (both (token {t = t} {ts = us} e (note (note {m = o} d))))))))) = right (left (both (both (token (but_is_name (or_date words) t.kind e) (note (note (c (t ∷ done) o us (omega arith) d)))))))
  back_zero n K L c done m ts less (right (right (right (right (both (token {t = t} e (left (both (both (token {t = u} {ts = us} f (note (both (note (note {m = o} d)))))))))))))) = left (both (right (left (both (token e (both (token f (both (note (note (note (c (u ∷ t ∷ done) o us (omega arith) d))))))))))))
  back_zero n K L c done m ts less (right (right (right (right (both (token {t = t} e (right (deep {m = o} {t = u} {ts = us} l f d)))))))) = right (right (both (token e (deep l f (c (u ∷ t ∷ done) o us (omega arith) d)))))

  back_more : (levels : ℕ) → Inner read_rule written_rule lifted levels → (n : ℕ) (K L : List Gram) → Carries read_rule written_rule lifted n L K → (done : List Lexeme) (m : List Mark) (ts : List Lexeme) → length ts < suc n → Spells read_rule lifted done (read_other words (suc levels) ∷ L) m ts → Spells written_rule lifted done (negated (suc levels) ∷ K) m ts
  unfolding negated read_other plain
  back_more levels inner n K L c done m ts less (left (both (both (token {t = t} {ts = us} e (note (both (note (note {m = o} d)))))))) = left (both (left (both (both (token e (note (note (note (c (t ∷ done) o us (omega arith) d)))))))))
  back_more levels inner n K L c done m ts less (right (left (both (both (token {t = t} {ts = us} e (note (both (note (note {m = o} d))))))))) = left (both (right (right (left (both (both (token e (note (note (note (c (t ∷ done) o us (omega arith) d)))))))))))
  back_more levels inner n K L c done m ts less (right (right (left (both (token {t = t} e (left (both (token {t = u} {ts = us} f (both (note (both (note (note {m = o} d))))))))))))) = left (both (right (right (right (both (token e (both (token f (both (note (note (note (c (u ∷ t ∷ done) o us (omega arith) d)))))))))))))
  back_more levels inner n K L c done m ts less (right (right (left (both (token {t = t} {ts = us} e (right (both (note (note {m = o} d))))))))) = right (left (both (both (token (date_is_name t.kind e) (note (note (c (t ∷ done) o us (omega arith) d)))))))
  back_more levels inner n K L c done m ts less (right (right (right (left (both (both (token {t = t} {ts = us} e (note (note {m = o} d))))))))) = right (left (both (both (token (but_is_name (or_date words) t.kind e) (note (note (c (t ∷ done) o us (omega arith) d)))))))
  back_more levels inner n K L c done m ts less (right (right (right (right (left (both (both (token {t = t} {ts = us} e (note (both {m = o} x)))))))))) =
      right (right (left (both (both (token e (note (both (inner.bracket n ((one CLOSE ▸ way 2) ∷ L) ((one CLOSE ▸ way 2) ∷ K) ((same read_rule written_rule lifted (one CLOSE ▸ way 2) refl).0 n L K c) (t ∷ done) o us (omega arith) x))))))))
  back_more levels inner n K L c done m ts less (right (right (right (right (right (both (token {t = t} e (left (both (both (token {t = u} {ts = us} f (note (both (note (note {m = o} d))))))))))))))) = left (both (right (left (both (token e (both (token f (both (note (note (note (c (u ∷ t ∷ done) o us (omega arith) d))))))))))))
  back_more levels inner n K L c done m ts less (right (right (right (right (right (both (token {t = t} {ts = us} e (right (both (note (both {m = o} x))))))))))) =
      right (right (right (both (both (token e (note (both (inner.minus n (way 3 ∷ L) (way 3 ∷ K) ((same read_rule written_rule lifted (way 3) refl).0 n L K c) (t ∷ done) o us (omega arith) x))))))))

  pub other_back : (levels : ℕ) → ((d : ℕ) → levels ≡ suc d → Inner read_rule written_rule lifted d) → (n : ℕ) (K L : List Gram) → Carries read_rule written_rule lifted n L K → (done : List Lexeme) (m : List Mark) (ts : List Lexeme) → length ts < suc n → Spells read_rule lifted done (read_other words levels ∷ L) m ts → Spells written_rule lifted done (negated levels ∷ K) m ts
  other_back zero inner n K L c done m ts less d = back_zero n K L c done m ts less d
  other_back (suc levels) inner n K L c done m ts less d = back_more levels (inner levels refl) n K L c done m ts less d

-- a name stands for a factor
pub name_back : (lifted : Bool) (levels : ℕ) (K : List Gram) (done : List Lexeme) (t : Lexeme) (m : List Mark) (ts : List Lexeme) → is_of NAME is_name t.kind ≡ true → Spells written_rule lifted (t ∷ done) K m ts → Spells written_rule lifted done (negated levels ∷ K) (Said t.text t.place ∷ Way 1 ∷ m) (t ∷ ts)
unfolding negated
name_back lifted zero K done t m ts e d = right (left (both (both (token e (note (note d))))))
name_back lifted (suc levels) K done t m ts e d = right (left (both (both (token e (note (note d))))))

-- ---- expressions

no_word : (lifted : Bool) (levels : ℕ) (K L : List Gram) (done : List Lexeme) (m : List Mark) (ts : List Lexeme) → IsWord lifted nowhere K done m ts ⊎ Spells read_rule lifted done (read_other nowhere levels ∷ L) m ts → Spells read_rule lifted done (read_other nowhere levels ∷ L) m ts
no_word lifted levels K L done m ts (inl w) = absurd (false≢true w.known)
no_word lifted levels K L done m ts (inr d) = d

module _ (rule other : Rule → ℕ → Gram) (lifted : Bool) (f g : Gram) (s : Strict rule other lifted f g) where
  pub strict_term : Strict rule other lifted (f ▸ Many (one STAR ▸ f)) (g ▸ Many (one STAR ▸ g))
  unfolding plain empty
  strict_term = strict_first rule other lifted f (Many (one STAR ▸ f)) g (Many (one STAR ▸ g)) s
      (lax_many rule other lifted (one STAR ▸ f) (one STAR ▸ g) (strict_first rule other lifted (one STAR) f (one STAR) g ((same rule other lifted (one STAR) refl).1 refl) (to_lax rule other lifted f g s)))

  pub strict_sum : Strict rule other lifted (f ▸ Many (sign ▸ f)) (g ▸ Many (sign ▸ g))
  unfolding plain empty
  strict_sum = strict_first rule other lifted f (Many (sign ▸ f)) g (Many (sign ▸ g)) s
      (lax_many rule other lifted (sign ▸ f) (sign ▸ g) (strict_first rule other lifted sign f sign g ((same rule other lifted sign refl).1 refl) (to_lax rule other lifted f g s)))

module _ (lifted : Bool) where
  there_negated : (levels : ℕ) → ((d : ℕ) → levels ≡ suc d → Inner written_rule read_rule lifted d) → Strict written_rule read_rule lifted (negated levels) (read_other nowhere levels)
  there_negated levels inner n K L c done m ts less d = no_word lifted levels K L done m ts (other_there lifted nowhere levels inner n K L c done m ts less d)

  there_factor : (levels : ℕ) → ((d : ℕ) → levels ≡ suc d → Inner written_rule read_rule lifted d) → Strict written_rule read_rule lifted (factor levels) (read_factor nowhere levels)
  unfolding plain empty
  there_factor levels inner = strict_either written_rule read_rule lifted (number ▸ way 1 ▸ way 0) (negated levels) (number ▸ way 1 ▸ way 0) (read_other nowhere levels) ((same written_rule read_rule lifted (number ▸ way 1 ▸ way 0) refl).1 refl) (there_negated levels inner)

  there_expr : (levels : ℕ) → ((d : ℕ) → levels ≡ suc d → Inner written_rule read_rule lifted d) → Strict written_rule read_rule lifted (expr levels) (read_expr nowhere levels)
  there_expr levels inner = strict_sum written_rule read_rule lifted (term levels) (read_factor nowhere levels ▸ read_factors levels) (strict_term written_rule read_rule lifted (factor levels) (read_factor nowhere levels) (there_factor levels inner))

  pub there_inner : (levels : ℕ) → Inner written_rule read_rule lifted levels
  there_inner zero = record { bracket = strict_again written_rule read_rule lifted Expr zero (there_expr zero (λ d e. absurd (omega (arith, e)))); minus = strict_again written_rule read_rule lifted Negated zero (there_negated zero (λ d e. absurd (omega (arith, e)))) }
  there_inner (suc levels) =
      let inner : (d : ℕ) → suc levels ≡ suc d → Inner written_rule read_rule lifted d = λ d e. subst (Inner written_rule read_rule lifted) (omega (arith, e)) (there_inner levels) in
      record { bracket = strict_again written_rule read_rule lifted Expr (suc levels) (there_expr (suc levels) inner); minus = strict_again written_rule read_rule lifted Negated (suc levels) (there_negated (suc levels) inner) }

  back_negated : (levels : ℕ) → ((d : ℕ) → levels ≡ suc d → Inner read_rule written_rule lifted d) → Strict read_rule written_rule lifted (read_other nowhere levels) (negated levels)
  back_negated levels inner n L K c done m ts less d = other_back lifted nowhere levels inner n K L c done m ts less d

  back_factor : (levels : ℕ) → ((d : ℕ) → levels ≡ suc d → Inner read_rule written_rule lifted d) → Strict read_rule written_rule lifted (read_factor nowhere levels) (factor levels)
  unfolding plain empty
  back_factor levels inner = strict_either read_rule written_rule lifted (number ▸ way 1 ▸ way 0) (read_other nowhere levels) (number ▸ way 1 ▸ way 0) (negated levels) ((same read_rule written_rule lifted (number ▸ way 1 ▸ way 0) refl).1 refl) (back_negated levels inner)

  back_expr : (levels : ℕ) → ((d : ℕ) → levels ≡ suc d → Inner read_rule written_rule lifted d) → Strict read_rule written_rule lifted (read_expr nowhere levels) (expr levels)
  back_expr levels inner = strict_sum read_rule written_rule lifted (read_factor nowhere levels ▸ read_factors levels) (term levels) (strict_term read_rule written_rule lifted (read_factor nowhere levels) (factor levels) (back_factor levels inner))

  pub back_inner : (levels : ℕ) → Inner read_rule written_rule lifted levels
  back_inner zero = record { bracket = strict_again read_rule written_rule lifted Expr zero (back_expr zero (λ d e. absurd (omega (arith, e)))); minus = strict_again read_rule written_rule lifted Negated zero (back_negated zero (λ d e. absurd (omega (arith, e)))) }
  back_inner (suc levels) =
      let inner : (d : ℕ) → suc levels ≡ suc d → Inner read_rule written_rule lifted d = λ d e. subst (Inner read_rule written_rule lifted) (omega (arith, e)) (back_inner levels) in
      record { bracket = strict_again read_rule written_rule lifted Expr (suc levels) (back_expr (suc levels) inner); minus = strict_again read_rule written_rule lifted Negated (suc levels) (back_negated (suc levels) inner) }

  pub expr_there : (levels : ℕ) → Strict written_rule read_rule lifted (expr levels) (read_expr nowhere levels)
  expr_there levels = there_expr levels (λ d e. there_inner d)

  pub expr_back : (levels : ℕ) → Strict read_rule written_rule lifted (read_expr nowhere levels) (expr levels)
  expr_back levels = back_expr levels (λ d e. back_inner d)

  pub factor_there : (levels : ℕ) → Strict written_rule read_rule lifted (factor levels) (read_factor nowhere levels)
  factor_there levels = there_factor levels (λ d e. there_inner d)

  pub factor_back : (levels : ℕ) → Strict read_rule written_rule lifted (read_factor nowhere levels) (factor levels)
  factor_back levels = back_factor levels (λ d e. back_inner d)
