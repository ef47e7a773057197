-- Where the way is clear only behind the next token, the machine goes on as in the form that is written.
use Rattle.std.proofs.Common.{◌≡◌, ℕ, Bool, true, false, ◌||◌, ◌==◌, ◌⊎◌, inl, inr, zero, suc, List, [], ◌∷◌, ◌++◌, Option, Some, None, refl, sym, ap, ◌∙◌, append_assoc}
use Rattle.std.proofs.lemmas.Bool.{or_parts, eqb-true}
use Rattle.tt_sql.specs.grammar.Grammar.{Lexeme, Mark, Way, Said, Gram, Tok, Note, is_of, latest_place, nowhere}
use Rattle.tt_sql.specs.machine.Machine.{Entry, Into, Pass, Stuck, enter, enter_part, step_from, step, both_marks, close_part, close, closed, with_marks, go_on, run}
use Rattle.tt_sql.proofs.machine.Decisions.{empty, first, guarded, tests}
use Rattle.tt_sql.proofs.grammar.Fronts.{false≢true, or_split, or_first}
use Rattle.tt_sql.proofs.machine.Steps.{run_both, run_note, run_tok, run_left, run_right, run_right_end, with_both, on_front, closed_front}
use Rattle.tt_sql.specs.grammar.TokenKinds.{COUNT, SUM, MIN, MAX, STARTSWITH, SYSTEM_CLUSTERING_DEPTH, NULL, NAME, OPEN, CLOSE, STAR, COMMA}
use Rattle.tt_sql.specs.grammar.Combinators.{◌▸◌, ◌∣◌, way, as_text, one, placed, name, number, quoted}
use Rattle.tt_sql.specs.machine.Factored.{but, word_place, aggregate, plain_name, date_factor, or_date, or_aggregate, read_other, read_factor, read_factors, read_terms, read_expr, read_item, named_item, read_operand, read_simple, unit_end, is_starts_with, read_rule}

-- ---- stacks that are run alike

module _ (end : ℕ) where
  abbrev pub Alike : List Gram → List Gram → Type 0
  Alike K L = (done : List Lexeme) (ts : List Lexeme) → run read_rule end done K ts ≡ run read_rule end done L ts

  closed_alike : (a b c : Option (List Mark)) → closed end b ≡ closed end c → closed end (both_marks a b) ≡ closed end (both_marks a c)
  closed_alike (Some m) b c e = closed_front end m b ∙ ap (with_marks m) e ∙ sym (closed_front end m c)
  closed_alike None b c e = refl

  module _ (K L : List Gram) (alike : Alike K L) where
    end_alike : (done : List Lexeme) (G : List Gram) → closed end (close done (G ++ K)) ≡ closed end (close done (G ++ L))
    unfolding close run
    end_alike done [] = alike done []
    end_alike done (g ∷ G) = closed_alike (close_part done g) (close done (G ++ K)) (close done (G ++ L)) (end_alike done G)

    entry_alike : (done : List Lexeme) (t : Lexeme) (ts : List Lexeme) (G : List Gram) (e : Entry) → ((P : List Gram) → run read_rule end (t ∷ done) (P ++ K) ts ≡ run read_rule end (t ∷ done) (P ++ L) ts) → go_on (step read_rule done t (G ++ K)) t.place (latest_place done) (λ M. run read_rule end (t ∷ done) M ts) ≡ go_on (step read_rule done t (G ++ L)) t.place (latest_place done) (λ M. run read_rule end (t ∷ done) M ts) → go_on (step_from e (G ++ K) (step read_rule done t (G ++ K))) t.place (latest_place done) (λ M. run read_rule end (t ∷ done) M ts) ≡ go_on (step_from e (G ++ L) (step read_rule done t (G ++ L))) t.place (latest_place done) (λ M. run read_rule end (t ∷ done) M ts)
    entry_alike done t ts G (Into false m parts) next same = ap (with_marks m) (ap (λ M. run read_rule end (t ∷ done) M ts) (sym (append_assoc parts G K)) ∙ next (parts ++ G) ∙ ap (λ M. run read_rule end (t ∷ done) M ts) (append_assoc parts G L))
    entry_alike done t ts G (Into true m parts) next same = refl
    entry_alike done t ts G (Pass m) next same = on_front m (step read_rule done t (G ++ K)) t.place (latest_place done) (λ M. run read_rule end (t ∷ done) M ts) ∙ ap (with_marks m) same ∙ sym (on_front m (step read_rule done t (G ++ L)) t.place (latest_place done) (λ M. run read_rule end (t ∷ done) M ts))
    entry_alike done t ts G Stuck next same = refl

    step_alike : (done : List Lexeme) (t : Lexeme) (ts : List Lexeme) (G : List Gram) → ((P : List Gram) → run read_rule end (t ∷ done) (P ++ K) ts ≡ run read_rule end (t ∷ done) (P ++ L) ts) → go_on (step read_rule done t (G ++ K)) t.place (latest_place done) (λ M. run read_rule end (t ∷ done) M ts) ≡ go_on (step read_rule done t (G ++ L)) t.place (latest_place done) (λ M. run read_rule end (t ∷ done) M ts)
    unfolding step run
    step_alike done t ts [] next = alike done (t ∷ ts)
    step_alike done t ts (g ∷ G) next = entry_alike done t ts G (enter_part read_rule done t g) next (step_alike done t ts G next)

    -- also with parts in front
    pub alike_below : (G : List Gram) → Alike (G ++ K) (G ++ L)
    unfolding run
    alike_below G done [] = end_alike done G
    alike_below G done (t ∷ ts) = step_alike done t ts G (λ P. alike_below P (t ∷ done) ts)

-- ---- words that are names too

-- this kind of word is taken as a name where a factor begins
pub record IsPlainWord (w : ℕ) : Type 0 where
  pub no_number : first tests (number ▸ way 1 ▸ way 0) w ≡ false
  pub no_null : first tests (placed NULL ▸ way 0 ▸ way 0) w ≡ false
  pub no_text : first tests (quoted ▸ way 2 ▸ way 0) w ≡ false
  pub no_date : first tests date_factor w ≡ false
  pub named : first tests (plain_name (or_date nowhere) ▸ way 1) w ≡ true
  pub is : is_of NAME (but (or_date nowhere)) w ≡ true

pub count_is_plain : IsPlainWord COUNT
unfolding first empty
count_is_plain = record { no_number = refl; no_null = refl; no_text = refl; no_date = refl; named = refl; is = refl }

pub sum_is_plain : IsPlainWord SUM
unfolding first empty
sum_is_plain = record { no_number = refl; no_null = refl; no_text = refl; no_date = refl; named = refl; is = refl }

pub min_is_plain : IsPlainWord MIN
unfolding first empty
min_is_plain = record { no_number = refl; no_null = refl; no_text = refl; no_date = refl; named = refl; is = refl }

pub max_is_plain : IsPlainWord MAX
unfolding first empty
max_is_plain = record { no_number = refl; no_null = refl; no_text = refl; no_date = refl; named = refl; is = refl }

pub depth_is_plain : IsPlainWord SYSTEM_CLUSTERING_DEPTH
unfolding first empty
depth_is_plain = record { no_number = refl; no_null = refl; no_text = refl; no_date = refl; named = refl; is = refl }

-- the next token is none of this kind
abbrev pub NextIsNot : ℕ → List Lexeme → Type 0
NextIsNot k [] = Unit {0}
NextIsNot k (u ∷ us) = (u.kind == k) ≡ false

module _ (end : ℕ) where
  word_other : (levels : ℕ) (w : ℕ) → IsPlainWord w → (done : List Lexeme) (K : List Gram) (t : Lexeme) (ts : List Lexeme) → t.kind ≡ w → run read_rule end done (read_other nowhere levels ∷ K) (t ∷ ts) ≡ run read_rule end done ((plain_name (or_date nowhere) ▸ way 1) ∷ K) (t ∷ ts)
  unfolding read_other guarded empty
  word_other zero w p done K t ts e =
      run_right read_rule tests end done (placed NULL ▸ way 0 ▸ way 0) _ K t ts refl refl (ap (first tests (placed NULL ▸ way 0 ▸ way 0)) e ∙ p.no_null)
      ∙ run_right read_rule tests end done (quoted ▸ way 2 ▸ way 0) _ K t ts refl refl (ap (first tests (quoted ▸ way 2 ▸ way 0)) e ∙ p.no_text)
      ∙ run_right read_rule tests end done date_factor _ K t ts refl refl (ap (first tests date_factor) e ∙ p.no_date)
      ∙ run_left read_rule tests end done (plain_name (or_date nowhere) ▸ way 1) _ K t ts refl (ap (first tests (plain_name (or_date nowhere) ▸ way 1)) e ∙ p.named)
  word_other (suc levels) w p done K t ts e =
      run_right read_rule tests end done (placed NULL ▸ way 0 ▸ way 0) _ K t ts refl refl (ap (first tests (placed NULL ▸ way 0 ▸ way 0)) e ∙ p.no_null)
      ∙ run_right read_rule tests end done (quoted ▸ way 2 ▸ way 0) _ K t ts refl refl (ap (first tests (quoted ▸ way 2 ▸ way 0)) e ∙ p.no_text)
      ∙ run_right read_rule tests end done date_factor _ K t ts refl refl (ap (first tests date_factor) e ∙ p.no_date)
      ∙ run_left read_rule tests end done (plain_name (or_date nowhere) ▸ way 1) _ K t ts refl (ap (first tests (plain_name (or_date nowhere) ▸ way 1)) e ∙ p.named)

  -- the word as a factor
  word_factor : (levels : ℕ) (w : ℕ) → IsPlainWord w → (done : List Lexeme) (K : List Gram) (t : Lexeme) (ts : List Lexeme) → t.kind ≡ w → run read_rule end done (read_factor nowhere levels ∷ K) (t ∷ ts) ≡ with_marks (Said t.text t.place ∷ Way 1 ∷ []) (run read_rule end (t ∷ done) K ts)
  unfolding guarded empty
  word_factor levels w p done K t ts e =
      run_right read_rule tests end done (number ▸ way 1 ▸ way 0) (read_other nowhere levels) K t ts refl refl (ap (first tests (number ▸ way 1 ▸ way 0)) e ∙ p.no_number)
      ∙ word_other levels w p done K t ts e
      ∙ run_both read_rule tests end done (plain_name (or_date nowhere)) (way 1) K (t ∷ ts)
      ∙ run_both read_rule tests end done (Tok NAME (but (or_date nowhere))) (Note as_text) (way 1 ∷ K) (t ∷ ts)
      ∙ run_tok read_rule tests end done NAME (but (or_date nowhere)) (Note as_text ∷ way 1 ∷ K) t ts (ap (is_of NAME (but (or_date nowhere))) e ∙ p.is)
      ∙ run_note read_rule tests end (t ∷ done) as_text (way 1 ∷ K) ts
      ∙ ap (with_marks (Said t.text t.place ∷ [])) (run_note read_rule tests end (t ∷ done) (λ d. Way 1 ∷ []) K ts)
      ∙ with_both (Said t.text t.place ∷ []) (Way 1 ∷ []) (run read_rule end (t ∷ done) K ts)

  -- the word at the beginning of an expression
  pub word_expr : (levels : ℕ) (w : ℕ) → IsPlainWord w → (done : List Lexeme) (K : List Gram) (t : Lexeme) (ts : List Lexeme) → t.kind ≡ w → run read_rule end done (read_expr nowhere levels ∷ K) (t ∷ ts) ≡ with_marks (Said t.text t.place ∷ Way 1 ∷ []) (run read_rule end (t ∷ done) (read_factors levels ∷ read_terms levels ∷ K) ts)
  word_expr levels w p done K t ts e =
      run_both read_rule tests end done (read_factor nowhere levels ▸ read_factors levels) (read_terms levels) K (t ∷ ts)
      ∙ run_both read_rule tests end done (read_factor nowhere levels) (read_factors levels) (read_terms levels ∷ K) (t ∷ ts)
      ∙ word_factor levels w p done (read_factors levels ∷ read_terms levels ∷ K) t ts e

  -- the same where it was taken in front of the choice
  named_runs : (levels : ℕ) (done : List Lexeme) (K : List Gram) (t : Lexeme) (ts : List Lexeme) → run read_rule end (t ∷ done) (named_item levels ∷ K) ts ≡ with_marks (Said t.text t.place ∷ Way 1 ∷ []) (run read_rule end (t ∷ done) (read_factors levels ∷ read_terms levels ∷ way 0 ∷ K) ts)
  named_runs levels done K t ts =
      run_both read_rule tests end (t ∷ done) (Note as_text) (way 1 ▸ read_factors levels ▸ read_terms levels ▸ way 0) K ts
      ∙ run_note read_rule tests end (t ∷ done) as_text ((way 1 ▸ read_factors levels ▸ read_terms levels ▸ way 0) ∷ K) ts
      ∙ ap (with_marks (Said t.text t.place ∷ [])) (
      run_both read_rule tests end (t ∷ done) (way 1) (read_factors levels ▸ read_terms levels ▸ way 0) K ts
      ∙ run_note read_rule tests end (t ∷ done) (λ d. Way 1 ∷ []) ((read_factors levels ▸ read_terms levels ▸ way 0) ∷ K) ts
      ∙ ap (with_marks (Way 1 ∷ [])) (
      run_both read_rule tests end (t ∷ done) (read_factors levels) (read_terms levels ▸ way 0) K ts
      ∙ alike_below end ((read_terms levels ▸ way 0) ∷ K) (read_terms levels ∷ way 0 ∷ K) (λ d us. run_both read_rule tests end d (read_terms levels) (way 0) K us) (read_factors levels ∷ []) (t ∷ done) ts))
      ∙ with_both (Said t.text t.place ∷ []) (Way 1 ∷ []) (run read_rule end (t ∷ done) (read_factors levels ∷ read_terms levels ∷ way 0 ∷ K) ts)

  pub no_first : (k j : ℕ) (g : Gram) → (j == k) ≡ false → first tests (one k ▸ g) j ≡ false
  unfolding first empty
  no_first k j g e = rw e refl

  pub yes_first : (k j : ℕ) (g : Gram) → (j == k) ≡ true → first tests (one k ▸ g) j ≡ true
  unfolding first empty
  yes_first k j g e = rw e refl

  -- the other way is taken where the word is not followed by this kind
  pub no_bracket : (k : ℕ) (g h : Gram) (done : List Lexeme) (K : List Gram) (ts : List Lexeme) → NextIsNot k ts → run read_rule end done ((one k ▸ g ∣ h) ∷ K) ts ≡ run read_rule end done (h ∷ K) ts
  unfolding guarded empty
  no_bracket k g h done K [] e = run_right_end read_rule tests end done (one k ▸ g) h K refl
  no_bracket k g h done K (u ∷ us) e = run_right read_rule tests end done (one k ▸ g) h K u us refl refl (no_first k u.kind g e)

  pub word_item : (w : ℕ) (g h : Gram) (done : List Lexeme) (K : List Gram) (t : Lexeme) (ts : List Lexeme) → (t.kind == w) ≡ true → NextIsNot OPEN ts → run read_rule end done ((one w ▸ (one OPEN ▸ g ∣ h)) ∷ K) (t ∷ ts) ≡ run read_rule end (t ∷ done) (h ∷ K) ts
  word_item w g h done K t ts e next =
      run_both read_rule tests end done (one w) (one OPEN ▸ g ∣ h) K (t ∷ ts)
      ∙ run_tok read_rule tests end done w nowhere ((one OPEN ▸ g ∣ h) ∷ K) t ts (or_first (t.kind == w) (nowhere t.kind) e)
      ∙ no_bracket OPEN g h (t ∷ done) K ts next

  as_expr : (levels : ℕ) (w : ℕ) → IsPlainWord w → (done : List Lexeme) (K : List Gram) (t : Lexeme) (ts : List Lexeme) → t.kind ≡ w → run read_rule end (t ∷ done) (named_item levels ∷ K) ts ≡ run read_rule end done (read_expr nowhere levels ∷ way 0 ∷ K) (t ∷ ts)
  as_expr levels w p done K t ts e = named_runs levels done K t ts ∙ sym (word_expr levels w p done (way 0 ∷ K) t ts e)

  -- without one of these words at its beginning an expression is read alike
  pub expr_but : (words : ℕ → Bool) (levels : ℕ) (done : List Lexeme) (K : List Gram) (t : Lexeme) (ts : List Lexeme) → words t.kind ≡ false → run read_rule end done (read_expr words levels ∷ K) (t ∷ ts) ≡ run read_rule end done (read_expr nowhere levels ∷ K) (t ∷ ts)
  unfolding run step enter read_other
  expr_but words zero done K t ts e = rw e refl
  expr_but words (suc levels) done K t ts e = rw e refl

  -- ---- items

  -- a word that is followed by a bracket is an aggregate, and else it is a name
  item_count : (words : ℕ → Bool) (levels : ℕ) (done : List Lexeme) (K : List Gram) (t : Lexeme) (ts : List Lexeme) → t.kind ≡ COUNT → NextIsNot OPEN ts → run read_rule end done (read_item words levels ∷ K) (t ∷ ts) ≡ run read_rule end done (read_expr nowhere levels ∷ way 0 ∷ K) (t ∷ ts)
  unfolding guarded empty
  item_count words levels done K t ts e next =
      let here : (t.kind == COUNT) ≡ true = ap (λ (k : ℕ). k == COUNT) e in
      run_left read_rule tests end done (one COUNT ▸ (one OPEN ▸ Note word_place ▸ (one STAR ▸ one CLOSE ▸ way 4 ∣ name ▸ one CLOSE ▸ way 5) ∣ named_item levels)) _ K t ts refl (yes_first COUNT t.kind (one OPEN ▸ Note word_place ▸ (one STAR ▸ one CLOSE ▸ way 4 ∣ name ▸ one CLOSE ▸ way 5) ∣ named_item levels) here)
      ∙ word_item COUNT (Note word_place ▸ (one STAR ▸ one CLOSE ▸ way 4 ∣ name ▸ one CLOSE ▸ way 5)) (named_item levels) done K t ts here next
      ∙ as_expr levels COUNT count_is_plain done K t ts e

  skip_count : (words : ℕ → Bool) (levels : ℕ) (done : List Lexeme) (K : List Gram) (t : Lexeme) (ts : List Lexeme) → (t.kind == COUNT) ≡ false → run read_rule end done (read_item words levels ∷ K) (t ∷ ts) ≡ run read_rule end done ((aggregate SUM 6 levels ∣ aggregate MIN 7 levels ∣ aggregate MAX 8 levels ∣ read_expr (or_aggregate words) levels ▸ way 0) ∷ K) (t ∷ ts)
  unfolding guarded empty
  skip_count words levels done K t ts e = run_right read_rule tests end done (one COUNT ▸ (one OPEN ▸ Note word_place ▸ (one STAR ▸ one CLOSE ▸ way 4 ∣ name ▸ one CLOSE ▸ way 5) ∣ named_item levels)) _ K t ts refl refl (no_first COUNT t.kind (one OPEN ▸ Note word_place ▸ (one STAR ▸ one CLOSE ▸ way 4 ∣ name ▸ one CLOSE ▸ way 5) ∣ named_item levels) e)

  skip_word : (w n : ℕ) (levels : ℕ) (h : Gram) (done : List Lexeme) (K : List Gram) (t : Lexeme) (ts : List Lexeme) → (t.kind == w) ≡ false → run read_rule end done ((aggregate w n levels ∣ h) ∷ K) (t ∷ ts) ≡ run read_rule end done (h ∷ K) (t ∷ ts)
  unfolding guarded empty
  skip_word w n levels h done K t ts e = run_right read_rule tests end done (aggregate w n levels) h K t ts refl refl (no_first w t.kind (one OPEN ▸ Note word_place ▸ name ▸ one CLOSE ▸ way n ∣ named_item levels) e)

  take_word : (w n : ℕ) (levels : ℕ) (h : Gram) → IsPlainWord w → (done : List Lexeme) (K : List Gram) (t : Lexeme) (ts : List Lexeme) → t.kind ≡ w → (t.kind == w) ≡ true → NextIsNot OPEN ts → run read_rule end done ((aggregate w n levels ∣ h) ∷ K) (t ∷ ts) ≡ run read_rule end done (read_expr nowhere levels ∷ way 0 ∷ K) (t ∷ ts)
  unfolding guarded empty
  take_word w n levels h p done K t ts e here next =
      run_left read_rule tests end done (aggregate w n levels) h K t ts refl (yes_first w t.kind (one OPEN ▸ Note word_place ▸ name ▸ one CLOSE ▸ way n ∣ named_item levels) here)
      ∙ word_item w (Note word_place ▸ name ▸ one CLOSE ▸ way n) (named_item levels) done K t ts here next
      ∙ as_expr levels w p done K t ts e

  item_sum : (words : ℕ → Bool) (levels : ℕ) (done : List Lexeme) (K : List Gram) (t : Lexeme) (ts : List Lexeme) → t.kind ≡ SUM → NextIsNot OPEN ts → run read_rule end done (read_item words levels ∷ K) (t ∷ ts) ≡ run read_rule end done (read_expr nowhere levels ∷ way 0 ∷ K) (t ∷ ts)
  item_sum words levels done K t ts e next =
      skip_count words levels done K t ts (ap (λ (k : ℕ). k == COUNT) e)
      ∙ take_word SUM 6 levels _ sum_is_plain done K t ts e (ap (λ (k : ℕ). k == SUM) e) next

  item_min : (words : ℕ → Bool) (levels : ℕ) (done : List Lexeme) (K : List Gram) (t : Lexeme) (ts : List Lexeme) → t.kind ≡ MIN → NextIsNot OPEN ts → run read_rule end done (read_item words levels ∷ K) (t ∷ ts) ≡ run read_rule end done (read_expr nowhere levels ∷ way 0 ∷ K) (t ∷ ts)
  item_min words levels done K t ts e next =
      skip_count words levels done K t ts (ap (λ (k : ℕ). k == COUNT) e)
      ∙ skip_word SUM 6 levels _ done K t ts (ap (λ (k : ℕ). k == SUM) e)
      ∙ take_word MIN 7 levels _ min_is_plain done K t ts e (ap (λ (k : ℕ). k == MIN) e) next

  item_max : (words : ℕ → Bool) (levels : ℕ) (done : List Lexeme) (K : List Gram) (t : Lexeme) (ts : List Lexeme) → t.kind ≡ MAX → NextIsNot OPEN ts → run read_rule end done (read_item words levels ∷ K) (t ∷ ts) ≡ run read_rule end done (read_expr nowhere levels ∷ way 0 ∷ K) (t ∷ ts)
  item_max words levels done K t ts e next =
      skip_count words levels done K t ts (ap (λ (k : ℕ). k == COUNT) e)
      ∙ skip_word SUM 6 levels _ done K t ts (ap (λ (k : ℕ). k == SUM) e)
      ∙ skip_word MIN 7 levels _ done K t ts (ap (λ (k : ℕ). k == MIN) e)
      ∙ take_word MAX 8 levels _ max_is_plain done K t ts e (ap (λ (k : ℕ). k == MAX) e) next

  -- an item that begins with another token is an expression
  pub item_other : (words : ℕ → Bool) (levels : ℕ) (done : List Lexeme) (K : List Gram) (t : Lexeme) (ts : List Lexeme) → or_aggregate words t.kind ≡ false → run read_rule end done (read_item words levels ∷ K) (t ∷ ts) ≡ run read_rule end done (read_expr nowhere levels ∷ way 0 ∷ K) (t ∷ ts)
  item_other words levels done K t ts e =
      let a = or_parts (t.kind == COUNT) (t.kind == SUM || (t.kind == MIN || (t.kind == MAX || words t.kind))) e in
      let b = or_parts (t.kind == SUM) (t.kind == MIN || (t.kind == MAX || words t.kind)) a.1 in
      let c = or_parts (t.kind == MIN) (t.kind == MAX || words t.kind) b.1 in
      let d = or_parts (t.kind == MAX) (words t.kind) c.1 in
      skip_count words levels done K t ts a.0
      ∙ skip_word SUM 6 levels _ done K t ts b.0
      ∙ skip_word MIN 7 levels _ done K t ts c.0
      ∙ skip_word MAX 8 levels _ done K t ts d.0
      ∙ run_both read_rule tests end done (read_expr (or_aggregate words) levels) (way 0) K (t ∷ ts)
      ∙ expr_but (or_aggregate words) levels done (way 0 ∷ K) t ts e

  -- without one of these words at its beginning an item is read alike
  pub item_but : (words : ℕ → Bool) (levels : ℕ) (done : List Lexeme) (K : List Gram) (t : Lexeme) (ts : List Lexeme) → words t.kind ≡ false → run read_rule end done (read_item words levels ∷ K) (t ∷ ts) ≡ run read_rule end done (read_item nowhere levels ∷ K) (t ∷ ts)
  unfolding run step enter read_other
  item_but words zero done K t ts e = rw e refl
  item_but words (suc levels) done K t ts e = rw e refl

  -- an item is an expression, unless it begins with the word of an aggregate and a bracket
  pub item_is_expr : (levels : ℕ) (done : List Lexeme) (K : List Gram) (t : Lexeme) (ts : List Lexeme) → (or_aggregate nowhere t.kind ≡ true → NextIsNot OPEN ts) → run read_rule end done (read_item nowhere levels ∷ K) (t ∷ ts) ≡ run read_rule end done (read_expr nowhere levels ∷ way 0 ∷ K) (t ∷ ts)
  item_is_expr levels done K t ts next = by_word (or_aggregate nowhere t.kind) refl
    where
      by_max : ((t.kind == MAX) ≡ true) ⊎ (nowhere t.kind ≡ true) → NextIsNot OPEN ts → run read_rule end done (read_item nowhere levels ∷ K) (t ∷ ts) ≡ run read_rule end done (read_expr nowhere levels ∷ way 0 ∷ K) (t ∷ ts)
      by_max (inl e) n = item_max nowhere levels done K t ts (eqb-true t.kind MAX e) n
      by_max (inr e) n = absurd (false≢true e)

      by_min : ((t.kind == MIN) ≡ true) ⊎ ((t.kind == MAX || nowhere t.kind) ≡ true) → NextIsNot OPEN ts → run read_rule end done (read_item nowhere levels ∷ K) (t ∷ ts) ≡ run read_rule end done (read_expr nowhere levels ∷ way 0 ∷ K) (t ∷ ts)
      by_min (inl e) n = item_min nowhere levels done K t ts (eqb-true t.kind MIN e) n
      by_min (inr e) n = by_max (or_split (t.kind == MAX) (nowhere t.kind) e) n

      by_sum : ((t.kind == SUM) ≡ true) ⊎ ((t.kind == MIN || (t.kind == MAX || nowhere t.kind)) ≡ true) → NextIsNot OPEN ts → run read_rule end done (read_item nowhere levels ∷ K) (t ∷ ts) ≡ run read_rule end done (read_expr nowhere levels ∷ way 0 ∷ K) (t ∷ ts)
      by_sum (inl e) n = item_sum nowhere levels done K t ts (eqb-true t.kind SUM e) n
      by_sum (inr e) n = by_min (or_split (t.kind == MIN) (t.kind == MAX || nowhere t.kind) e) n

      by_count : ((t.kind == COUNT) ≡ true) ⊎ ((t.kind == SUM || (t.kind == MIN || (t.kind == MAX || nowhere t.kind))) ≡ true) → NextIsNot OPEN ts → run read_rule end done (read_item nowhere levels ∷ K) (t ∷ ts) ≡ run read_rule end done (read_expr nowhere levels ∷ way 0 ∷ K) (t ∷ ts)
      by_count (inl e) n = item_count nowhere levels done K t ts (eqb-true t.kind COUNT e) n
      by_count (inr e) n = by_sum (or_split (t.kind == SUM) (t.kind == MIN || (t.kind == MAX || nowhere t.kind)) e) n

      by_word : (b : Bool) → or_aggregate nowhere t.kind ≡ b → run read_rule end done (read_item nowhere levels ∷ K) (t ∷ ts) ≡ run read_rule end done (read_expr nowhere levels ∷ way 0 ∷ K) (t ∷ ts)
      by_word true e = by_count (or_split (t.kind == COUNT) (t.kind == SUM || (t.kind == MIN || (t.kind == MAX || nowhere t.kind))) e) (next e)
      by_word false e = item_other nowhere levels done K t ts e

  -- ---- units

  -- without STARTSWITH at its beginning an operand is read alike
  pub operand_but : (words : ℕ → Bool) (done : List Lexeme) (K : List Gram) (t : Lexeme) (ts : List Lexeme) → words t.kind ≡ false → run read_rule end done (read_operand words ∷ K) (t ∷ ts) ≡ run read_rule end done (read_operand nowhere ∷ K) (t ∷ ts)
  unfolding run step enter
  operand_but words done K t ts e = rw e refl

  starts_named : first tests (plain_name (or_date nowhere) ▸ way 0) STARTSWITH ≡ true
  unfolding first empty
  starts_named = refl

  starts_is : is_of NAME (but (or_date nowhere)) STARTSWITH ≡ true
  starts_is = refl

  starts_name : (done : List Lexeme) (K : List Gram) (t : Lexeme) (ts : List Lexeme) → t.kind ≡ STARTSWITH → run read_rule end done (read_operand nowhere ∷ K) (t ∷ ts) ≡ with_marks (Said t.text t.place ∷ Way 0 ∷ []) (run read_rule end (t ∷ done) K ts)
  unfolding guarded empty
  starts_name done K t ts e =
      run_left read_rule tests end done (plain_name (or_date nowhere) ▸ way 0) _ K t ts refl (ap (first tests (plain_name (or_date nowhere) ▸ way 0)) e ∙ starts_named)
      ∙ run_both read_rule tests end done (plain_name (or_date nowhere)) (way 0) K (t ∷ ts)
      ∙ run_both read_rule tests end done (Tok NAME (but (or_date nowhere))) (Note as_text) (way 0 ∷ K) (t ∷ ts)
      ∙ run_tok read_rule tests end done NAME (but (or_date nowhere)) (Note as_text ∷ way 0 ∷ K) t ts (ap (is_of NAME (but (or_date nowhere))) e ∙ starts_is)
      ∙ run_note read_rule tests end (t ∷ done) as_text (way 0 ∷ K) ts
      ∙ ap (with_marks (Said t.text t.place ∷ [])) (run_note read_rule tests end (t ∷ done) (λ d. Way 0 ∷ []) K ts)
      ∙ with_both (Said t.text t.place ∷ []) (Way 0 ∷ []) (run read_rule end (t ∷ done) K ts)

  abbrev starts_end : Gram
  starts_end = name ▸ one COMMA ▸ quoted ▸ one CLOSE ▸ way 6

  abbrev starts_unit : Gram
  starts_unit = Note as_text ▸ way 0 ▸ unit_end

  starts_runs : (done : List Lexeme) (K : List Gram) (t : Lexeme) (ts : List Lexeme) → run read_rule end (t ∷ done) (starts_unit ∷ K) ts ≡ with_marks (Said t.text t.place ∷ Way 0 ∷ []) (run read_rule end (t ∷ done) (unit_end ∷ K) ts)
  starts_runs done K t ts =
      run_both read_rule tests end (t ∷ done) (Note as_text) (way 0 ▸ unit_end) K ts
      ∙ run_note read_rule tests end (t ∷ done) as_text ((way 0 ▸ unit_end) ∷ K) ts
      ∙ ap (with_marks (Said t.text t.place ∷ [])) (run_both read_rule tests end (t ∷ done) (way 0) unit_end K ts ∙ run_note read_rule tests end (t ∷ done) (λ d. Way 0 ∷ []) (unit_end ∷ K) ts)
      ∙ with_both (Said t.text t.place ∷ []) (Way 0 ∷ []) (run read_rule end (t ∷ done) (unit_end ∷ K) ts)

  -- a unit begins with an operand, unless it begins with STARTSWITH and a bracket
  pub simple_is_operand : (done : List Lexeme) (K : List Gram) (t : Lexeme) (ts : List Lexeme) → ((t.kind == STARTSWITH) ≡ true → NextIsNot OPEN ts) → run read_rule end done (read_simple ∷ K) (t ∷ ts) ≡ run read_rule end done (read_operand nowhere ∷ unit_end ∷ K) (t ∷ ts)
  unfolding guarded empty
  simple_is_operand done K t ts next = by_word (t.kind == STARTSWITH) refl
    where
      by_word : (b : Bool) → (t.kind == STARTSWITH) ≡ b → run read_rule end done (read_simple ∷ K) (t ∷ ts) ≡ run read_rule end done (read_operand nowhere ∷ unit_end ∷ K) (t ∷ ts)
      by_word true e =
          run_left read_rule tests end done (one STARTSWITH ▸ (one OPEN ▸ starts_end ∣ starts_unit)) (read_operand is_starts_with ▸ unit_end) K t ts refl (yes_first STARTSWITH t.kind (one OPEN ▸ starts_end ∣ starts_unit) e)
          ∙ word_item STARTSWITH starts_end starts_unit done K t ts e (next e)
          ∙ starts_runs done K t ts
          ∙ sym (starts_name done (unit_end ∷ K) t ts (eqb-true t.kind STARTSWITH e))
      by_word false e =
          run_right read_rule tests end done (one STARTSWITH ▸ (one OPEN ▸ starts_end ∣ starts_unit)) (read_operand is_starts_with ▸ unit_end) K t ts refl refl (no_first STARTSWITH t.kind (one OPEN ▸ starts_end ∣ starts_unit) e)
          ∙ run_both read_rule tests end done (read_operand is_starts_with) unit_end K (t ∷ ts)
          ∙ operand_but is_starts_with done (unit_end ∷ K) t ts e
