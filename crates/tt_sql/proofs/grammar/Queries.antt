-- Items and queries as written and as read spell the same.
use Rattle.std.proofs.Common.{◌≡◌, ℕ, suc, ◌<◌, Bool, true, ◌||◌, ◌==◌, ◌⊎◌, inl, inr, List, ◌∷◌, length, refl, sym, ap, subst, arith}
use Rattle.std.proofs.lemmas.Bool.{eqb-true}
use Rattle.tt_sql.specs.grammar.Grammar.{Lexeme, Mark, Way, Said, Rule, Gram, Many, is_of, Spells, token, note, both, left, right, nowhere}
use Rattle.tt_sql.proofs.machine.Decisions.{empty}
use Rattle.tt_sql.proofs.grammar.Fronts.{false≢true, or_split, or_first, or_second}
use Rattle.tt_sql.proofs.grammar.Carries.{Carries, Lax, Strict, plain, strict_second, lax_many, same, open_both, shut_both}
use Rattle.tt_sql.proofs.grammar.Expressions.{IsWord, other_there, other_back, name_back, there_inner, back_inner, factor_there, factor_back, strict_term}
use Rattle.tt_sql.specs.grammar.TokenKinds.{COUNT, SUM, MIN, MAX, NAME, STAR, is_name}
use Rattle.tt_sql.specs.grammar.Combinators.{◌▸◌, way, one, number}
use Rattle.tt_sql.specs.grammar.Written.{factor, term, sign, item, written_rule}
use Rattle.tt_sql.specs.machine.Factored.{or_aggregate, read_other, read_factor, read_factors, read_terms, read_item, named_item, read_rule}

-- ---- further factors and terms

abbrev pub more_factors : ℕ → Gram
more_factors levels = Many (one STAR ▸ factor levels)

abbrev pub more_terms : ℕ → Gram
more_terms levels = Many (sign ▸ term levels)

module _ (rule other : Rule → ℕ → Gram) (lifted : Bool) (f g : Gram) (s : Strict rule other lifted f g) where
  lax_behind : (sep : Gram) → plain sep ≡ true → Lax rule other lifted (Many (sep ▸ f)) (Many (sep ▸ g))
  lax_behind sep p = lax_many rule other lifted (sep ▸ f) (sep ▸ g) (strict_second rule other lifted sep f sep g (same rule other lifted sep p).0 s)

module _ (lifted : Bool) (levels : ℕ) where
  pub factors_there : Lax written_rule read_rule lifted (more_factors levels) (read_factors levels)
  unfolding plain
  factors_there = lax_behind written_rule read_rule lifted (factor levels) (read_factor nowhere levels) (factor_there lifted levels) (one STAR) refl

  pub terms_there : Lax written_rule read_rule lifted (more_terms levels) (read_terms levels)
  unfolding plain
  terms_there = lax_behind written_rule read_rule lifted (term levels) (read_factor nowhere levels ▸ read_factors levels) (strict_term written_rule read_rule lifted (factor levels) (read_factor nowhere levels) (factor_there lifted levels)) sign refl

  pub factors_back : Lax read_rule written_rule lifted (read_factors levels) (more_factors levels)
  unfolding plain
  factors_back = lax_behind read_rule written_rule lifted (read_factor nowhere levels) (factor levels) (factor_back lifted levels) (one STAR) refl

  pub terms_back : Lax read_rule written_rule lifted (read_terms levels) (more_terms levels)
  unfolding plain
  terms_back = lax_behind read_rule written_rule lifted (read_factor nowhere levels ▸ read_factors levels) (term levels) (strict_term read_rule written_rule lifted (read_factor nowhere levels) (factor levels) (factor_back lifted levels)) sign refl

  -- ---- items

  module _ (n : ℕ) (K L : List Gram) where
    expr_end_there : Carries written_rule read_rule lifted n K L → Carries written_rule read_rule lifted n (more_factors levels ∷ more_terms levels ∷ way 0 ∷ K) (read_factors levels ∷ read_terms levels ∷ way 0 ∷ L)
    unfolding plain
    expr_end_there c = factors_there n (more_terms levels ∷ way 0 ∷ K) (read_terms levels ∷ way 0 ∷ L) (terms_there n (way 0 ∷ K) (way 0 ∷ L) ((same written_rule read_rule lifted (way 0) refl).0 n K L c))

    named_end_there : Carries written_rule read_rule lifted n K L → Carries written_rule read_rule lifted n (more_factors levels ∷ more_terms levels ∷ way 0 ∷ K) (read_factors levels ∷ (read_terms levels ▸ way 0) ∷ L)
    unfolding plain
    named_end_there c = factors_there n (more_terms levels ∷ way 0 ∷ K) ((read_terms levels ▸ way 0) ∷ L) (shut_both written_rule read_rule lifted n (read_terms levels) (way 0) (more_terms levels ∷ way 0 ∷ K) L (terms_there n (way 0 ∷ K) (way 0 ∷ L) ((same written_rule read_rule lifted (way 0) refl).0 n K L c)))

    expr_end_back : Carries read_rule written_rule lifted n L K → Carries read_rule written_rule lifted n (read_factors levels ∷ read_terms levels ∷ way 0 ∷ L) (more_factors levels ∷ more_terms levels ∷ way 0 ∷ K)
    unfolding plain
    expr_end_back c = factors_back n (read_terms levels ∷ way 0 ∷ L) (more_terms levels ∷ way 0 ∷ K) (terms_back n (way 0 ∷ L) (way 0 ∷ K) ((same read_rule written_rule lifted (way 0) refl).0 n L K c))

    named_end_back : Carries read_rule written_rule lifted n L K → Carries read_rule written_rule lifted n (read_factors levels ∷ (read_terms levels ▸ way 0) ∷ L) (more_factors levels ∷ more_terms levels ∷ way 0 ∷ K)
    unfolding plain
    named_end_back c = factors_back n ((read_terms levels ▸ way 0) ∷ L) (more_terms levels ∷ way 0 ∷ K) (open_both read_rule written_rule lifted n (read_terms levels) (way 0) L (more_terms levels ∷ way 0 ∷ K) (terms_back n (way 0 ∷ L) (way 0 ∷ K) ((same read_rule written_rule lifted (way 0) refl).0 n L K c)))

module _ (lifted : Bool) (words : ℕ → Bool) (levels : ℕ) where
  abbrev ReadsItem : List Gram → List Gram → List Lexeme → List Mark → List Lexeme → Type 0
  ReadsItem K L done m ts = IsWord lifted words (more_factors levels ∷ more_terms levels ∷ way 0 ∷ K) done m ts ⊎ Spells read_rule lifted done (read_item words levels ∷ L) m ts

  -- an item that begins with one of the words
  word_item : (n : ℕ) (K L : List Gram) → Carries written_rule read_rule lifted n K L → (done : List Lexeme) (o : List Mark) (t : Lexeme) (us : List Lexeme) → length us < n → Spells written_rule lifted (t ∷ done) (more_factors levels ∷ more_terms levels ∷ way 0 ∷ K) o us → or_aggregate words t.kind ≡ true → ReadsItem K L done (Said t.text t.place ∷ Way 1 ∷ o) (t ∷ us)
  word_item n K L c done o t us less d known = by_count (or_split (t.kind == COUNT) (t.kind == SUM || (t.kind == MIN || (t.kind == MAX || words t.kind))) known)
    where
      rest_read : Spells read_rule lifted (t ∷ done) (named_item levels ∷ L) (Said t.text t.place ∷ Way 1 ∷ o) us
      rest_read = both (note (both (note (both (named_end_there lifted levels n K L c (t ∷ done) o us less d)))))

      by_max : ((t.kind == MAX) ≡ true) ⊎ (words t.kind ≡ true) → ReadsItem K L done (Said t.text t.place ∷ Way 1 ∷ o) (t ∷ us)
      by_max (inl e) = inr (right (right (right (left (both (token (or_first (t.kind == MAX) (nowhere t.kind) e) (right rest_read)))))))
      by_max (inr e) = inl (record { word = t; rest = us; later = o; tokens = refl; marks = refl; known = e; behind = d })

      by_min : ((t.kind == MIN) ≡ true) ⊎ ((t.kind == MAX || words t.kind) ≡ true) → ReadsItem K L done (Said t.text t.place ∷ Way 1 ∷ o) (t ∷ us)
      by_min (inl e) = inr (right (right (left (both (token (or_first (t.kind == MIN) (nowhere t.kind) e) (right rest_read))))))
      by_min (inr e) = by_max (or_split (t.kind == MAX) (words t.kind) e)

      by_sum : ((t.kind == SUM) ≡ true) ⊎ ((t.kind == MIN || (t.kind == MAX || words t.kind)) ≡ true) → ReadsItem K L done (Said t.text t.place ∷ Way 1 ∷ o) (t ∷ us)
      by_sum (inl e) = inr (right (left (both (token (or_first (t.kind == SUM) (nowhere t.kind) e) (right rest_read)))))
      by_sum (inr e) = by_min (or_split (t.kind == MIN) (t.kind == MAX || words t.kind) e)

      by_count : ((t.kind == COUNT) ≡ true) ⊎ ((t.kind == SUM || (t.kind == MIN || (t.kind == MAX || words t.kind))) ≡ true) → ReadsItem K L done (Said t.text t.place ∷ Way 1 ∷ o) (t ∷ us)
      by_count (inl e) = inr (left (both (token (or_first (t.kind == COUNT) (nowhere t.kind) e) (right rest_read))))
      by_count (inr e) = by_sum (or_split (t.kind == SUM) (t.kind == MIN || (t.kind == MAX || words t.kind)) e)

  named_or_read : (n : ℕ) (K L : List Gram) → Carries written_rule read_rule lifted n K L → (done : List Lexeme) (m : List Mark) (ts : List Lexeme) → length ts < suc n → IsWord lifted (or_aggregate words) (more_factors levels ∷ more_terms levels ∷ way 0 ∷ K) done m ts ⊎ Spells read_rule lifted done (read_other (or_aggregate words) levels ∷ read_factors levels ∷ read_terms levels ∷ way 0 ∷ L) m ts → ReadsItem K L done m ts
  named_or_read n K L c done m ts less (inl w) =
      subst (λ x. ReadsItem K L done x ts) (sym w.marks) (subst (λ x. ReadsItem K L done (Said w.word.text w.word.place ∷ Way 1 ∷ w.later) x) (sym w.tokens)
      (word_item n K L c done w.later w.word w.rest (omega (arith, less, ap length w.tokens)) w.behind w.known))
  named_or_read n K L c done m ts less (inr d) = inr (right (right (right (right (both (both (both (right d))))))))

  pub item_there : (n : ℕ) (K L : List Gram) → Carries written_rule read_rule lifted n K L → (done : List Lexeme) (m : List Mark) (ts : List Lexeme) → length ts < suc n → Spells written_rule lifted done (item levels ∷ K) m ts → ReadsItem K L done m ts
  unfolding plain empty
  item_there n K L c done m ts less (left (both (both (both (left d))))) = inr (right (right (right (right (both (both (both (left ((same written_rule read_rule lifted (number ▸ way 1 ▸ way 0) refl).1 refl n (more_factors levels ∷ more_terms levels ∷ way 0 ∷ K) (read_factors levels ∷ read_terms levels ∷ way 0 ∷ L) (expr_end_there lifted levels n K L c) done m ts less d)))))))))
  item_there n K L c done m ts less (left (both (both (both (right d))))) = named_or_read n K L c done m ts less (other_there lifted (or_aggregate words) levels (λ e p. there_inner lifted e) n (more_factors levels ∷ more_terms levels ∷ way 0 ∷ K) (read_factors levels ∷ read_terms levels ∷ way 0 ∷ L) (expr_end_there lifted levels n K L c) done m ts less d)
  item_there n K L c done m ts less (right (left (both (both (token {t = t} e1 (note (both (both (token {t = u} e2 (both (token {t = v} e3 (token {t = w} {ts = us} e4 (note {m = o} d))))))))))))) = inr (left (both (token e1 (left (both (token e2 (both (note (left (both (token e3 (both (token e4 (note (c (w ∷ v ∷ u ∷ t ∷ done) o us (omega arith) d)))))))))))))))
  item_there n K L c done m ts less (right (right (left (both (both (token {t = t} e1 (note (both (both (token {t = u} e2 (both (both (token {t = v} e3 (note (token {t = w} {ts = us} e4 (note {m = o} d)))))))))))))))) = inr (left (both (token e1 (left (both (token e2 (both (note (right (both (both (token e3 (note (both (token e4 (note (c (w ∷ v ∷ u ∷ t ∷ done) o us (omega arith) d)))))))))))))))))
  item_there n K L c done m ts less (right (right (right (left (both (both (token {t = t} e1 (note (both (both (token {t = u} e2 (both (both (token {t = v} e3 (note (token {t = w} {ts = us} e4 (note {m = o} d))))))))))))))))) = inr (right (left (both (token e1 (left (both (token e2 (both (note (both (both (token e3 (note (both (token e4 (note (c (w ∷ v ∷ u ∷ t ∷ done) o us (omega arith) d)))))))))))))))))
  item_there n K L c done m ts less (right (right (right (right (left (both (both (token {t = t} e1 (note (both (both (token {t = u} e2 (both (both (token {t = v} e3 (note (token {t = w} {ts = us} e4 (note {m = o} d)))))))))))))))))) = inr (right (right (left (both (token e1 (left (both (token e2 (both (note (both (both (token e3 (note (both (token e4 (note (c (w ∷ v ∷ u ∷ t ∷ done) o us (omega arith) d))))))))))))))))))
  item_there n K L c done m ts less (right (right (right (right (right (both (both (token {t = t} e1 (note (both (both (token {t = u} e2 (both (both (token {t = v} e3 (note (token {t = w} {ts = us} e4 (note {m = o} d)))))))))))))))))) = inr (right (right (right (left (both (token e1 (left (both (token e2 (both (note (both (both (token e3 (note (both (token e4 (note (c (w ∷ v ∷ u ∷ t ∷ done) o us (omega arith) d)))))))))))))))))))

  pub aggregate_is_name : (word k : ℕ) → is_name word ≡ true → is_of word nowhere k ≡ true → is_of NAME is_name k ≡ true
  aggregate_is_name word k known e = word_case (or_split (k == word) (nowhere k) e)
    where
      word_case : ((k == word) ≡ true) ⊎ (nowhere k ≡ true) → is_of NAME is_name k ≡ true
      word_case (inl f) = or_second (k == NAME) (is_name k) (subst (λ i. is_name i ≡ true) (sym (eqb-true k word f)) known)
      word_case (inr f) = absurd (false≢true f)

  -- an item that begins with a name, from the name on
  named_back : (n : ℕ) (K L : List Gram) → Carries read_rule written_rule lifted n L K → (done : List Lexeme) (t : Lexeme) (o : List Mark) (us : List Lexeme) → length us < n → is_of NAME is_name t.kind ≡ true → Spells read_rule lifted (t ∷ done) (read_factors levels ∷ (read_terms levels ▸ way 0) ∷ L) o us → Spells written_rule lifted done (item levels ∷ K) (Said t.text t.place ∷ Way 1 ∷ o) (t ∷ us)
  named_back n K L c done t o us less e d = left (both (both (both (right (name_back lifted levels (more_factors levels ∷ more_terms levels ∷ way 0 ∷ K) done t o us e (named_end_back lifted levels n K L c (t ∷ done) o us less d))))))

  pub item_back : (n : ℕ) (K L : List Gram) → Carries read_rule written_rule lifted n L K → (done : List Lexeme) (m : List Mark) (ts : List Lexeme) → length ts < suc n → Spells read_rule lifted done (read_item words levels ∷ L) m ts → Spells written_rule lifted done (item levels ∷ K) m ts
  unfolding plain empty
  item_back n K L c done m ts less (left (both (token {t = t} e1 (left (both (token {t = u} e2 (both (note (left (both (token {t = v} e3 (both (token {t = w} {ts = us} e4 (note {m = o} d)))))))))))))) = right (left (both (both (token e1 (note (both (both (token e2 (both (token e3 (token e4 (note (c (w ∷ v ∷ u ∷ t ∷ done) o us (omega arith) d)))))))))))))
  item_back n K L c done m ts less (left (both (token {t = t} e1 (left (both (token {t = u} e2 (both (note (right (both (both (token {t = v} e3 (note (both (token {t = w} {ts = us} e4 (note {m = o} d)))))))))))))))) = right (right (left (both (both (token e1 (note (both (both (token e2 (both (both (token e3 (note (token e4 (note (c (w ∷ v ∷ u ∷ t ∷ done) o us (omega arith) d))))))))))))))))
  item_back n K L c done m ts less (left (both (token {t = t} {ts = us} e (right (both (note (both (note {m = o} (both d))))))))) = named_back n K L c done t o us (omega arith) (aggregate_is_name COUNT t.kind refl e) d
  item_back n K L c done m ts less (right (left (both (token {t = t} {ts = us} e (right (both (note (both (note {m = o} (both d)))))))))) = named_back n K L c done t o us (omega arith) (aggregate_is_name SUM t.kind refl e) d
  item_back n K L c done m ts less (right (right (left (both (token {t = t} {ts = us} e (right (both (note (both (note {m = o} (both d))))))))))) = named_back n K L c done t o us (omega arith) (aggregate_is_name MIN t.kind refl e) d
  item_back n K L c done m ts less (right (right (right (left (both (token {t = t} {ts = us} e (right (both (note (both (note {m = o} (both d)))))))))))) = named_back n K L c done t o us (omega arith) (aggregate_is_name MAX t.kind refl e) d
  item_back n K L c done m ts less (right (left (both (token {t = t} e1 (left (both (token {t = u} e2 (both (note (both (both (token {t = v} e3 (note (both (token {t = w} {ts = us} e4 (note {m = o} d)))))))))))))))) = right (right (right (left (both (both (token e1 (note (both (both (token e2 (both (both (token e3 (note (token e4 (note (c (w ∷ v ∷ u ∷ t ∷ done) o us (omega arith) d)))))))))))))))))
  item_back n K L c done m ts less (right (right (left (both (token {t = t} e1 (left (both (token {t = u} e2 (both (note (both (both (token {t = v} e3 (note (both (token {t = w} {ts = us} e4 (note {m = o} d))))))))))))))))) = right (right (right (right (left (both (both (token e1 (note (both (both (token e2 (both (both (token e3 (note (token e4 (note (c (w ∷ v ∷ u ∷ t ∷ done) o us (omega arith) d))))))))))))))))))
  item_back n K L c done m ts less (right (right (right (left (both (token {t = t} e1 (left (both (token {t = u} e2 (both (note (both (both (token {t = v} e3 (note (both (token {t = w} {ts = us} e4 (note {m = o} d)))))))))))))))))) = right (right (right (right (right (both (both (token e1 (note (both (both (token e2 (both (both (token e3 (note (token e4 (note (c (w ∷ v ∷ u ∷ t ∷ done) o us (omega arith) d))))))))))))))))))
  item_back n K L c done m ts less (right (right (right (right (both (both (both (left d)))))))) = left (both (both (both (left ((same read_rule written_rule lifted (number ▸ way 1 ▸ way 0) refl).1 refl n (read_factors levels ∷ read_terms levels ∷ way 0 ∷ L) (more_factors levels ∷ more_terms levels ∷ way 0 ∷ K) (expr_end_back lifted levels n K L c) done m ts less d)))))
  item_back n K L c done m ts less (right (right (right (right (both (both (both (right d)))))))) = left (both (both (both (right (other_back lifted (or_aggregate words) levels (λ e p. back_inner lifted e) n (more_factors levels ∷ more_terms levels ∷ way 0 ∷ K) (read_factors levels ∷ read_terms levels ∷ way 0 ∷ L) (expr_end_back lifted levels n K L c) done m ts less d)))))
