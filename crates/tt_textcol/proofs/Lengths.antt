-- How long the bodies are, and which is the shortest.
use Rattle.std.proofs.Common.{◌≡◌, ℕ, ◌+◌, ◌-◌, ◌*◌, ◌<◌, Bool, true, false, List, [], ◌∷◌, ◌++◌, length, map, take, get_or, refl, sym, ap, ◌∙◌, arith, length-append}
use Rattle.std.specs.Prelude.{nat_lt, if◌then◌else◌}
use Rattle.std.specs.List.{flat_map}
use Rattle.std.specs.Int.{w16, to_le_bytes}
use Rattle.std.proofs.lemmas.List.{length-map, flat_map_more, take_more, append-nil}
use Rattle.tt_value.specs.columns.Packing.{bytes_for, packed, width_of}
use Rattle.tt_value.specs.columns.Body.{word, is_same, run_bytes, run_body, runs_after, distinct, index_in}
use Rattle.tt_value.proofs.columns.Packing.{length-packed}
use Rattle.tt_textcol.specs.declared.encoding.Encoding.{Encoding}
use Rattle.tt_textcol.specs.declared.encoding.Encoding.TheVariants.{Plain, Run, Dictionary}
use Rattle.tt_textcol.specs.declared.choice.Length.{Length}
use Rattle.tt_textcol.specs.TextBody.{text_bytes, text_cmp, body, encoding_of}

pub length-text : (v : List ℕ) → length (text_bytes v) ≡ length v + 2
length-text v = length-append (to_le_bytes w16 (length v)) v ∙ omega arith

pub spelled_more : (vs : List (List ℕ)) (i : ℕ) (d : List ℕ) → i < length vs → length (flat_map text_bytes (take (i + 1) vs)) ≡ length (flat_map text_bytes (take i vs)) + (length (get_or vs i d) + 2)
spelled_more vs i d lt =
    let v : List ℕ = get_or vs i d in
    ap (λ t. length (flat_map text_bytes t)) (take_more vs i d lt) ∙ ap length (sym (flat_map_more text_bytes [] (take i vs) v))
    ∙ length-append (flat_map text_bytes (take i vs)) (text_bytes v) ∙ ap (λ n. length (flat_map text_bytes (take i vs)) + n) (length-text v)

-- ---- runs

length-run : (v : List ℕ) (n : ℕ) → length (run_bytes text_bytes text_cmp (v, n)) ≡ length v + 6
length-run v n = length-append (text_bytes v) (word n) ∙ ap (λ k. k + 4) (length-text v) ∙ omega arith

-- how many bytes the runs take that come behind the run of a text
abbrev pub behind : List ℕ → List (List ℕ) → ℕ
behind v [] = 0
behind v (x ∷ xs) = if is_same text_cmp v x then behind v xs else length x + 6 + behind x xs

abbrev run_part : List ℕ × ℕ → List ℕ
run_part run = run_bytes text_bytes text_cmp run

length-after : (v : List ℕ) (n : ℕ) (xs : List (List ℕ)) → length (flat_map run_part (runs_after text_cmp v n xs)) ≡ length v + 6 + behind v xs
length-after v n [] = ap length (append-nil (run_part (v, n))) ∙ length-run v n ∙ omega arith
length-after v n (x ∷ xs) = go (length-after v (n + 1) xs) (length-after x 1 xs) (is_same text_cmp v x)
  where
    go : length (flat_map run_part (runs_after text_cmp v (n + 1) xs)) ≡ length v + 6 + behind v xs → length (flat_map run_part (runs_after text_cmp x 1 xs)) ≡ length x + 6 + behind x xs → (b : Bool)
        → length (flat_map run_part (if b then runs_after text_cmp v (n + 1) xs else (v, n) ∷ runs_after text_cmp x 1 xs)) ≡ length v + 6 + (if b then behind v xs else length x + 6 + behind x xs)
    go same other true = same
    go same other false = length-append (run_part (v, n)) (flat_map run_part (runs_after text_cmp x 1 xs)) ∙ ap (λ k. k + length (flat_map run_part (runs_after text_cmp x 1 xs))) (length-run v n) ∙ ap (λ k. length v + 6 + k) other

pub run_start : (v : List ℕ) (others values : List (List ℕ)) → values ≡ v ∷ others → 10 + length v + behind v others ≡ length (run_body text_bytes text_cmp values)
run_start v others values values_is =
    rw values_is (sym (length-append (word (length (runs_after text_cmp v 1 others))) (flat_map run_part (runs_after text_cmp v 1 others)) ∙ ap (λ k. 4 + k) (length-after v 1 others) ∙ omega arith))

-- ---- dictionaries

pub length-dictionary : (vs : List (List ℕ)) → length (body vs Dictionary) ≡ 4 + length (flat_map text_bytes (distinct text_cmp vs)) + bytes_for (length vs * width_of (length (distinct text_cmp vs) - 1))
length-dictionary vs =
    let ds : List (List ℕ) = distinct text_cmp vs in
    let w : ℕ = width_of (length ds - 1) in
    let indexes : List ℕ = map (index_in text_cmp ds) vs in
    let a = length-append (word (length ds)) (flat_map text_bytes ds ++ packed w indexes) in
    let b = length-append (flat_map text_bytes ds) (packed w indexes) in
    let d : length (packed w indexes) ≡ bytes_for (length vs * w) = length-packed w indexes ∙ ap (λ n. bytes_for (n * w)) (length-map vs (index_in text_cmp ds)) in
    a ∙ ap (λ n. 4 + n) (b ∙ ap (λ n. length (flat_map text_bytes ds) + n) d) ∙ omega arith

-- the length from the bytes of the distinct texts and their number
pub dictionary_long : (vs : List (List ℕ)) (bytes count long : ℕ) → bytes ≡ length (flat_map text_bytes (distinct text_cmp vs)) → count ≡ length (distinct text_cmp vs) → long ≡ 4 + bytes + bytes_for (length vs * width_of (count - 1)) → long ≡ length (body vs Dictionary)
dictionary_long vs bytes count long bytes_is count_is long_is =
    long_is ∙ ap (λ n. 4 + n + bytes_for (length vs * width_of (count - 1))) bytes_is ∙ ap (λ n. 4 + length (flat_map text_bytes (distinct text_cmp vs)) + bytes_for (length vs * width_of (n - 1))) count_is ∙ sym (length-dictionary vs)

-- ---- the shortest

abbrev pub shorter : Length → Length → Length
shorter first second = if nat_lt second.bytes first.bytes then second else first

abbrev sized : List (List ℕ) → Encoding → Length
sized vs e = record { encoding = e; bytes = length (body vs e) }

as_long : (vs : List (List ℕ)) (e : Encoding) (bytes : ℕ) → bytes ≡ length (body vs e) → (◌≡◌ {A = Length} (record { encoding = e; bytes = bytes }) (sized vs e))
as_long vs e bytes h = ap (λ n. record { encoding = e; bytes = n }) h

picked : (vs : List (List ℕ)) → (shorter (shorter (sized vs Plain) (sized vs Run)) (sized vs Dictionary)).encoding ≡ encoding_of vs
unfolding encoding_of
picked vs = go (nat_lt (length (body vs Run)) (length (body vs Plain))) (nat_lt (length (body vs Dictionary)) (length (body vs Run))) (nat_lt (length (body vs Dictionary)) (length (body vs Plain))) refl refl refl
  where
    go : (a b c : Bool) → nat_lt (length (body vs Run)) (length (body vs Plain)) ≡ a → nat_lt (length (body vs Dictionary)) (length (body vs Run)) ≡ b → nat_lt (length (body vs Dictionary)) (length (body vs Plain)) ≡ c
        → (shorter (shorter (sized vs Plain) (sized vs Run)) (sized vs Dictionary)).encoding ≡ encoding_of vs
    go true true c e f g = rw (e, f) refl
    go true false c e f g = rw (e, f) refl
    go false b true e f g = rw (e, g) refl
    go false b false e f g = rw (e, g) refl

pub chosen : (vs : List (List ℕ)) (p r d : ℕ) (second last : Length) → p ≡ length (body vs Plain) → r ≡ length (body vs Run) → d ≡ length (body vs Dictionary)
    → second ≡ shorter (record { encoding = Plain; bytes = p }) (record { encoding = Run; bytes = r }) → last ≡ shorter second (record { encoding = Dictionary; bytes = d })
    → last.encoding ≡ encoding_of vs
chosen vs p r d second last p_is r_is d_is second_is last_is =
    let a = as_long vs Plain p p_is in
    let b = as_long vs Run r r_is in
    let e = as_long vs Dictionary d d_is in
    let two : second ≡ shorter (sized vs Plain) (sized vs Run) = second_is ∙ ap (λ x. shorter x (record { encoding = Run; bytes = r })) a ∙ ap (λ x. shorter (sized vs Plain) x) b in
    let three : last ≡ shorter (shorter (sized vs Plain) (sized vs Run)) (sized vs Dictionary) = last_is ∙ ap (λ x. shorter x (record { encoding = Dictionary; bytes = d })) two ∙ ap (λ x. shorter (shorter (sized vs Plain) (sized vs Run)) x) e in
    ap (λ (x : Length). x.encoding) three ∙ picked vs
