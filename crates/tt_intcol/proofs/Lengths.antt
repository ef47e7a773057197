-- How long the bodies are, and which is the shortest.
use Rattle.std.proofs.Common.{◌≡◌, ℕ, ℤ, ◌+◌, ◌-◌, ◌*◌, Bool, true, false, List, [], ◌∷◌, ◌++◌, length, map, refl, sym, ap, ◌∙◌, arith, length-append}
use Rattle.std.specs.Prelude.{◌==◌, nat_lt, if◌then◌else◌, fold}
use Rattle.std.specs.List.{flat_map}
use Rattle.std.specs.Ordering.{int_cmp}
use Rattle.std.proofs.lemmas.List.{length-map, nil_from_length}
use Rattle.std.proofs.lemmas.Bool.{eqb-true}
use Rattle.tt_value.specs.declared.value.Kind.{Kind}
use Rattle.tt_value.specs.declared.value.Kind.TheVariants.{Int, Date, Varchar}
use Rattle.tt_value.specs.columns.Packing.{bytes_for, packed, width_of}
use Rattle.tt_value.specs.columns.Body.{word, run_bytes, runs_of, distinct, index_in}
use Rattle.tt_value.proofs.columns.Packing.{length-packed}
use Rattle.tt_intcol.specs.declared.encoding.Encoding.{Encoding}
use Rattle.tt_intcol.specs.declared.encoding.Encoding.TheVariants.{Plain, Frame, Run, Dictionary}
use Rattle.tt_intcol.specs.declared.choice.Length.{Length}
use Rattle.tt_intcol.specs.IntBody.{value_size, value_bytes, body, shortest, choices, encoding_of, least_of, height, greatest_of}

length-value : (kind : Kind) (v : ℤ) → length (value_bytes kind v) ≡ value_size kind
length-value Int v = refl
length-value Date v = refl
length-value Varchar v = refl

module _ {V : Type 0} (f : V → List ℕ) (size : ℕ) (sized : (v : V) → length (f v) ≡ size) where
  length-all : (vs : List V) → length (flat_map f vs) ≡ length vs * size
  length-all [] = omega arith
  length-all (v ∷ vs) = let a = length-append (f v) (flat_map f vs) in let b = sized v in let c = length-all vs in omega arith

length-run_bytes : (kind : Kind) (run : ℤ × ℕ) → length (run_bytes (value_bytes kind) int_cmp run) ≡ value_size kind + 4
length-run_bytes kind run = length-append (value_bytes kind run.0) (word run.1) ∙ ap (λ n. n + 4) (length-value kind run.0)

length-plain : (kind : Kind) (vs : List ℤ) → length (body kind vs Plain) ≡ length vs * value_size kind
length-plain kind vs = length-all (value_bytes kind) (value_size kind) (length-value kind) vs

pub length-frame : (kind : Kind) (vs : List ℤ) → length (body kind vs Frame) ≡ value_size kind + 1 + bytes_for (length vs * width_of (greatest_of (map (height (least_of vs)) vs)))
length-frame kind vs =
    let ds : List ℕ = map (height (least_of vs)) vs in
    let w : ℕ = width_of (greatest_of ds) in
    let a = length-append (value_bytes kind (least_of vs)) (w ∷ packed w ds) in
    let b = length-value kind (least_of vs) in
    let c : length (packed w ds) ≡ bytes_for (length vs * w) = length-packed w ds ∙ ap (λ n. bytes_for (n * w)) (length-map vs (height (least_of vs))) in
    a ∙ ap (λ n. n + length (w ∷ packed w ds)) b ∙ omega (arith, c)

length-run : (kind : Kind) (vs : List ℤ) → length (body kind vs Run) ≡ 4 + length (runs_of int_cmp vs) * (value_size kind + 4)
length-run kind vs =
    length-append (word (length (runs_of int_cmp vs))) (flat_map (run_bytes (value_bytes kind) int_cmp) (runs_of int_cmp vs))
    ∙ ap (λ n. 4 + n) (length-all (run_bytes (value_bytes kind) int_cmp) (value_size kind + 4) (length-run_bytes kind) (runs_of int_cmp vs))

pub length-dictionary : (kind : Kind) (vs : List ℤ) → length (body kind vs Dictionary) ≡ 4 + length (distinct int_cmp vs) * value_size kind + bytes_for (length vs * width_of (length (distinct int_cmp vs) - 1))
length-dictionary kind vs =
    let ds : List ℤ = distinct int_cmp vs in
    let w : ℕ = width_of (length ds - 1) in
    let indexes : List ℕ = map (index_in int_cmp ds) vs in
    let a = length-append (word (length ds)) (flat_map (value_bytes kind) ds ++ packed w indexes) in
    let b = length-append (flat_map (value_bytes kind) ds) (packed w indexes) in
    let c = length-all (value_bytes kind) (value_size kind) (length-value kind) ds in
    let d : length (packed w indexes) ≡ bytes_for (length vs * w) = length-packed w indexes ∙ ap (λ n. bytes_for (n * w)) (length-map vs (index_in int_cmp ds)) in
    a ∙ ap (λ n. 4 + n) (b ∙ ap (λ n. n + length (packed w indexes)) c ∙ ap (λ n. length ds * value_size kind + n) d) ∙ omega arith

-- ---- the shortest

abbrev pub shorter : Length → Length → Length
shorter first second = if nat_lt second.bytes first.bytes then second else first

abbrev sized : Kind → List ℤ → Encoding → Length
sized kind vs e = record { encoding = e; bytes = length (body kind vs e) }

folded : (kind : Kind) (vs : List ℤ) (b : Encoding) (es : List Encoding) → (fold shorter (sized kind vs b) (map (sized kind vs) es)).encoding ≡ shortest (λ e. length (body kind vs e)) b es
folded kind vs b [] = refl
folded kind vs b (e ∷ es) = go (folded kind vs e es) (folded kind vs b es) (nat_lt (length (body kind vs e)) (length (body kind vs b)))
  where
    go : (fold shorter (sized kind vs e) (map (sized kind vs) es)).encoding ≡ shortest (λ e. length (body kind vs e)) e es → (fold shorter (sized kind vs b) (map (sized kind vs) es)).encoding ≡ shortest (λ e. length (body kind vs e)) b es
        → (t : Bool) → (fold shorter (if t then sized kind vs e else sized kind vs b) (map (sized kind vs) es)).encoding ≡ (if t then shortest (λ e. length (body kind vs e)) e es else shortest (λ e. length (body kind vs e)) b es)
    go p q true = p
    go p q false = q

as_long : (kind : Kind) (vs : List ℤ) (e : Encoding) (bytes : ℕ) → bytes ≡ length (body kind vs e) → (◌≡◌ {A = Length} (record { encoding = e; bytes = bytes }) (sized kind vs e))
as_long kind vs e bytes h = ap (λ n. record { encoding = e; bytes = n }) h

pub chosen_none : (kind : Kind) (vs : List ℤ) (p r d : ℕ) (second last : Length) → true ≡ (length vs == 0)
    → p ≡ length vs * value_size kind → r ≡ 4 + length (runs_of int_cmp vs) * (value_size kind + 4) → d ≡ 4 + length (distinct int_cmp vs) * value_size kind + bytes_for (length vs * width_of (length (distinct int_cmp vs) - 1))
    → second ≡ shorter (record { encoding = Plain; bytes = p }) (record { encoding = Run; bytes = r }) → last ≡ shorter second (record { encoding = Dictionary; bytes = d })
    → last.encoding ≡ encoding_of kind vs
unfolding encoding_of
chosen_none kind vs p r d second last none p_is r_is d_is second_is last_is =
    let a = as_long kind vs Plain p (p_is ∙ sym (length-plain kind vs)) in
    let b = as_long kind vs Run r (r_is ∙ sym (length-run kind vs)) in
    let e = as_long kind vs Dictionary d (d_is ∙ sym (length-dictionary kind vs)) in
    let two : second ≡ shorter (sized kind vs Plain) (sized kind vs Run) = second_is ∙ ap (λ x. shorter x (record { encoding = Run; bytes = r })) a ∙ ap (λ x. shorter (sized kind vs Plain) x) b in
    let three : last ≡ shorter (shorter (sized kind vs Plain) (sized kind vs Run)) (sized kind vs Dictionary) = last_is ∙ ap (λ x. shorter x (record { encoding = Dictionary; bytes = d })) two ∙ ap (λ x. shorter (shorter (sized kind vs Plain) (sized kind vs Run)) x) e in
    ap (λ (x : Length). x.encoding) three ∙ folded kind vs Plain (Run ∷ Dictionary ∷ []) ∙ ap (λ cs. shortest (λ e. length (body kind vs e)) Plain cs) (ap choices (sym (nil_from_length vs (eqb-true (length vs) 0 (sym none)))))

pub chosen_some : (kind : Kind) (vs : List ℤ) (p f r d : ℕ) (first second last : Length) → false ≡ (length vs == 0)
    → p ≡ length vs * value_size kind → f ≡ value_size kind + 1 + bytes_for (length vs * width_of (greatest_of (map (height (least_of vs)) vs)))
    → r ≡ 4 + length (runs_of int_cmp vs) * (value_size kind + 4) → d ≡ 4 + length (distinct int_cmp vs) * value_size kind + bytes_for (length vs * width_of (length (distinct int_cmp vs) - 1))
    → first ≡ shorter (record { encoding = Plain; bytes = p }) (record { encoding = Frame; bytes = f }) → second ≡ shorter first (record { encoding = Run; bytes = r }) → last ≡ shorter second (record { encoding = Dictionary; bytes = d })
    → last.encoding ≡ encoding_of kind vs
unfolding encoding_of
chosen_some kind [] p f r d first second last some p_is f_is r_is d_is first_is second_is last_is = absurd cc
chosen_some kind (v ∷ others) p f r d first second last some p_is f_is r_is d_is first_is second_is last_is =
    let vs : List ℤ = v ∷ others in
    let a = as_long kind vs Plain p (p_is ∙ sym (length-plain kind vs)) in
    let g = as_long kind vs Frame f (f_is ∙ sym (length-frame kind vs)) in
    let b = as_long kind vs Run r (r_is ∙ sym (length-run kind vs)) in
    let e = as_long kind vs Dictionary d (d_is ∙ sym (length-dictionary kind vs)) in
    let one : first ≡ shorter (sized kind vs Plain) (sized kind vs Frame) = first_is ∙ ap (λ x. shorter x (record { encoding = Frame; bytes = f })) a ∙ ap (λ x. shorter (sized kind vs Plain) x) g in
    let two : second ≡ shorter (shorter (sized kind vs Plain) (sized kind vs Frame)) (sized kind vs Run) = second_is ∙ ap (λ x. shorter x (record { encoding = Run; bytes = r })) one ∙ ap (λ x. shorter (shorter (sized kind vs Plain) (sized kind vs Frame)) x) b in
    let three : last ≡ shorter (shorter (shorter (sized kind vs Plain) (sized kind vs Frame)) (sized kind vs Run)) (sized kind vs Dictionary)
    = last_is ∙ ap (λ x. shorter x (record { encoding = Dictionary; bytes = d })) two ∙ ap (λ x. shorter (shorter (shorter (sized kind vs Plain) (sized kind vs Frame)) (sized kind vs Run)) x) e in
    ap (λ (x : Length). x.encoding) three ∙ folded kind vs Plain (Frame ∷ Run ∷ Dictionary ∷ [])
