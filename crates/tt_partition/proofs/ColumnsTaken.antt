-- A column that is read is spelled so: the bytes that are read are those of its kind and its values.
use Rattle.std.proofs.Common.{◌≡◌, ℕ, zero, suc, ◌-◌, ℤ, Bool, true, false, ltb, List, [], ◌∷◌, ◌++◌, length, take, drop, map, Option, Some, None, Result, Ok, Err, refl, sym, ap, subst, ◌∙◌, append_assoc, arith}
use Rattle.std.specs.Prelude.{◌==◌, nat_le}
use Rattle.std.specs.List.{AllByRecursion}
use Rattle.std.specs.Int.{w8, w64, to_le_bytes}
use Rattle.std.proofs.lemmas.Bool.{ltb-false}
use Rattle.std.proofs.lemmas.Bool.Decides.{nat_tests}
use Rattle.std.proofs.lemmas.List.{take-append-drop, length-take}
use Rattle.tt_value.specs.declared.value.Kind.{Kind}
use Rattle.tt_value.specs.declared.value.Kind.TheVariants.{Int, Date, Varchar}
use Rattle.tt_value.specs.declared.value.Value.{Value}
use Rattle.tt_value.specs.declared.column.BadColumn.{BadColumn}
use Rattle.tt_value.specs.columns.Body.{present}
use Rattle.tt_value.specs.columns.Reading.{◌>>=◌, checked, number_at}
use Rattle.tt_value.proofs.columns.Packing.{Fit}
use Rattle.tt_value.proofs.columns.Accepted.{same_ok, bound, held, enough, fit_front, fit_rest, fit_behind, long_taken}
use Rattle.tt_intcol.specs.declared.column.IntColumn.{IntColumn}
use Rattle.tt_intcol.specs.IntBody as number_bodies
use Rattle.tt_intcol.specs.IntReading as numbers
use Rattle.tt_intcol.proofs.RowsTaken as number_laws
use Rattle.tt_textcol.specs.declared.column.TextColumn.{TextColumn}
use Rattle.tt_textcol.specs.TextBody as text_bodies
use Rattle.tt_textcol.specs.TextReading as texts
use Rattle.tt_textcol.proofs.RowsTaken as text_laws
use Rattle.tt_partition.specs.declared.head.Head.{Head}
use Rattle.tt_partition.specs.Table.{IsOf}
use Rattle.tt_partition.specs.Image.{kind_code, null_code, number_in, text_in, spelled, number_bytes, text_bytes, column_bytes}
use Rattle.tt_partition.specs.ImageReading.{kind_of, found, kind_at, has_encoding, encoding_at, nulls_at, head_at, bitmap_size, behind, number_value, text_value, mapped, values_in, placed, is_short, column_values_at, column_at}
use Rattle.tt_partition.proofs.TableLaws.{IsColumn}

-- ---- the head

byte_taken : (end : ℕ) (bs : List ℕ) (x : ℕ × List ℕ) → number_at w8 end bs ≡ Ok x → bs ≡ x.0 ∷ x.1
byte_taken end [] x e = absurd cc
byte_taken end (b ∷ bs) x e =
    let read = enough (ltb (suc (length bs)) 1) end (Ok (b, bs)) x e in
    subst (λ (x : ℕ × List ℕ). b ∷ bs ≡ x.0 ∷ x.1) (same_ok (b, bs) x read.1) refl

found_taken : {A : Type 0} (place : ℕ) (o : Option A) (x : A) → found place o ≡ Ok x → o ≡ Some x
found_taken place (Some y) x e = ap Some (same_ok y x e)
found_taken place None x e = absurd cc

code_is : (n : ℕ) (kind : Kind) → kind_of n ≡ Some kind → n ≡ kind_code kind
code_is zero kind e = absurd cc
code_is (suc zero) kind e = let same : Int ≡ kind = cc in ap kind_code same
code_is (suc (suc zero)) kind e = let same : Date ≡ kind = cc in ap kind_code same
code_is (suc (suc (suc zero))) kind e = let same : Varchar ≡ kind = cc in ap kind_code same
code_is (suc (suc (suc (suc n)))) kind e = absurd cc

kind_taken : (end : ℕ) (bs : List ℕ) (x : Kind × List ℕ) → kind_at end bs ≡ Ok x → bs ≡ kind_code x.0 ∷ x.1
unfolding kind_at
kind_taken end bs x e =
    let one = bound (number_at w8 end bs) (λ n. found (end - length bs) (kind_of n.0) >>= λ kind. Ok (kind, n.1)) x e in
    let n : ℕ × List ℕ = one.0 in
    let two = bound (found (end - length bs) (kind_of n.0)) (λ kind. Ok (kind, n.1)) x one.2 in
    let kind : Kind = two.0 in
    let code : n.0 ≡ kind_code kind = code_is n.0 kind (found_taken (end - length bs) (kind_of n.0) kind two.1) in
    subst (λ (x : Kind × List ℕ). bs ≡ kind_code x.0 ∷ x.1) (same_ok (kind, n.1) x two.2) (byte_taken end bs n one.1 ∙ ap (λ m. m ∷ n.1) code)

encoding_taken : (kind : Kind) (end : ℕ) (bs : List ℕ) (x : ℕ × List ℕ) → encoding_at kind end bs ≡ Ok x → bs ≡ x.0 ∷ x.1
unfolding encoding_at
encoding_taken kind end bs x e =
    let one = bound (number_at w8 end bs) (λ n. checked (has_encoding kind n.0) (end - length bs) n) x e in
    let two = held (has_encoding kind one.0.0) (end - length bs) one.0 x one.2 in
    subst (λ (x : ℕ × List ℕ). bs ≡ x.0 ∷ x.1) two.1 (byte_taken end bs one.0 one.1)

flag_is : (n : ℕ) → nat_le n 1 ≡ true → n ≡ null_code (n == 1)
flag_is zero h = refl
flag_is (suc zero) h = refl
flag_is (suc (suc n)) h = absurd (grind (arith, nat_tests))

nulls_taken : (end : ℕ) (bs : List ℕ) (x : Bool × List ℕ) → nulls_at end bs ≡ Ok x → bs ≡ null_code x.0 ∷ x.1
unfolding nulls_at
nulls_taken end bs x e =
    let one = bound (number_at w8 end bs) (λ n. checked (nat_le n.0 1) (end - length bs) (n.0 == 1, n.1)) x e in
    let n : ℕ × List ℕ = one.0 in
    let two = held (nat_le n.0 1) (end - length bs) (n.0 == 1, n.1) x one.2 in
    subst (λ (x : Bool × List ℕ). bs ≡ null_code x.0 ∷ x.1) two.1 (byte_taken end bs n one.1 ∙ ap (λ m. m ∷ n.1) (flag_is n.0 two.0))

abbrev head_bytes : Head → List ℕ
head_bytes h = kind_code h.kind ∷ h.encoding ∷ null_code h.nulls ∷ to_le_bytes w64 h.size

head_taken : (end : ℕ) (bs : List ℕ) (x : Head × List ℕ) → Fit 8 bs → head_at end bs ≡ Ok x → bs ≡ head_bytes x.0 ++ x.1
unfolding head_at
head_taken end bs x fit e =
    let one = bound (kind_at end bs) (λ kind. encoding_at kind.0 end kind.1 >>= λ encoding. nulls_at end encoding.1 >>= λ nulls. number_at w64 end nulls.1 >>= λ size. Ok (record { kind = kind.0; encoding = encoding.0; nulls = nulls.0; size = size.0 }, size.1)) x e in
    let kind : Kind × List ℕ = one.0 in
    let two = bound (encoding_at kind.0 end kind.1) (λ encoding. nulls_at end encoding.1 >>= λ nulls. number_at w64 end nulls.1 >>= λ size. Ok (record { kind = kind.0; encoding = encoding.0; nulls = nulls.0; size = size.0 }, size.1)) x one.2 in
    let encoding : ℕ × List ℕ = two.0 in
    let three = bound (nulls_at end encoding.1) (λ nulls. number_at w64 end nulls.1 >>= λ size. Ok (record { kind = kind.0; encoding = encoding.0; nulls = nulls.0; size = size.0 }, size.1)) x two.2 in
    let nulls : Bool × List ℕ = three.0 in
    let four = bound (number_at w64 end nulls.1) (λ size. Ok (record { kind = kind.0; encoding = encoding.0; nulls = nulls.0; size = size.0 }, size.1)) x three.2 in
    let size : ℕ × List ℕ = four.0 in
    let a : bs ≡ kind_code kind.0 ∷ kind.1 = kind_taken end bs kind one.1 in
    let b : kind.1 ≡ encoding.0 ∷ encoding.1 = encoding_taken kind.0 end kind.1 encoding two.1 in
    let c : encoding.1 ≡ null_code nulls.0 ∷ nulls.1 = nulls_taken end encoding.1 nulls three.1 in
    let fit_a : Fit 8 kind.1 = fit_rest bs (kind_code kind.0 ∷ []) kind.1 fit a in
    let fit_b : Fit 8 encoding.1 = fit_rest kind.1 (encoding.0 ∷ []) encoding.1 fit_a b in
    let fit_c : Fit 8 nulls.1 = fit_rest encoding.1 (null_code nulls.0 ∷ []) nulls.1 fit_b c in
    let d : nulls.1 ≡ to_le_bytes w64 size.0 ++ size.1 = long_taken end nulls.1 size fit_c four.1 in
    subst (λ (x : Head × List ℕ). bs ≡ head_bytes x.0 ++ x.1) (same_ok (record { kind = kind.0; encoding = encoding.0; nulls = nulls.0; size = size.0 }, size.1) x four.2)
    (a ∙ ap (λ (t : List ℕ). kind_code kind.0 ∷ t) (b ∙ ap (λ (t : List ℕ). encoding.0 ∷ t) (c ∙ ap (λ (t : List ℕ). null_code nulls.0 ∷ t) d)))

-- ---- the values

mapped_taken : {A B F : Type 0} (f : A → B) (r : Result A F) (y : B) → mapped f r ≡ Ok y → (x : A) × (r ≡ Ok x) × (f x ≡ y)
mapped_taken f (Ok x) y e = (x, refl, same_ok (f x) y e)
mapped_taken f (Err fault) y e = absurd cc

placed_taken : {A : Type 0} (encoding bitmap end : ℕ) (short : Bool) (r : Result A BadColumn) (x : A) → placed encoding bitmap end short r ≡ Ok x → (short ≡ false) × (r ≡ Ok x)
placed_taken encoding bitmap end false (Ok y) x e = (refl, ap Ok (same_ok y x e))
placed_taken encoding bitmap end true (Ok y) x e = absurd cc
placed_taken encoding bitmap end false (Err bad) x e = absurd cc
placed_taken encoding bitmap end true (Err bad) x e = absurd cc

number_kept : (o : Option ℤ) → number_in (number_value Int o) ≡ o
number_kept None = refl
number_kept (Some n) = refl

day_kept : (o : Option ℤ) → number_in (number_value Date o) ≡ o
day_kept None = refl
day_kept (Some n) = refl

text_kept : (o : Option (List ℕ)) → text_in (text_value o) ≡ o
text_kept None = refl
text_kept (Some t) = refl

maps_back : {A : Type 0} (f : A → Value) (g : Value → A) → ((a : A) → g (f a) ≡ a) → (xs : List A) → map g (map f xs) ≡ xs
maps_back f g kept [] = refl
maps_back f g kept (x ∷ xs) = rw (kept x, maps_back f g kept xs) refl

length_mapped : {A : Type 0} (f : A → Value) (xs : List A) → length (map f xs) ≡ length xs
length_mapped f [] = refl
length_mapped f (x ∷ xs) = ap suc (length_mapped f xs)

ints_are : (ns : List (Option ℤ)) → AllByRecursion (number_bodies.IsValue Int) (present ns) → AllByRecursion (IsOf Int) (map (number_value Int) ns)
ints_are [] all = tt
ints_are (None ∷ ns) all = (tt, ints_are ns all)
ints_are (Some n ∷ ns) all = (all.0, ints_are ns all.1)

days_are : (ns : List (Option ℤ)) → AllByRecursion (number_bodies.IsValue Date) (present ns) → AllByRecursion (IsOf Date) (map (number_value Date) ns)
days_are [] all = tt
days_are (None ∷ ns) all = (tt, days_are ns all)
days_are (Some n ∷ ns) all = (all.0, days_are ns all.1)

texts_are : (ts : List (Option (List ℕ))) → AllByRecursion text_bodies.IsValue (present ts) → AllByRecursion (IsOf Varchar) (map text_value ts)
texts_are [] all = tt
texts_are (None ∷ ts) all = (tt, texts_are ts all)
texts_are (Some t ∷ ts) all = (all.0, texts_are ts all.1)

abbrev AreSpelled : Kind → ℕ → ℕ → Bool → List ℕ → List ℕ → List Value → Type 0
AreSpelled kind n encoding nulls bitmap body vs = (spelled kind encoding nulls bitmap body ≡ column_bytes kind vs) × IsColumn n (kind, vs)

number_column_is : (kind : Kind) (ns : List (Option ℤ)) (encoding : ℕ) (nulls : Bool) (bitmap body : List ℕ) → numbers.column_with encoding nulls bitmap body ≡ number_bodies.column_of kind ns → spelled kind encoding nulls bitmap body ≡ number_bytes kind ns
number_column_is kind ns encoding nulls bitmap body e = ap (λ (c : IntColumn). spelled kind c.encoding c.nulls c.bitmap c.body) e

text_column_is : (ts : List (Option (List ℕ))) (encoding : ℕ) (nulls : Bool) (bitmap body : List ℕ) → texts.column_with encoding nulls bitmap body ≡ text_bodies.column_of ts → spelled Varchar encoding nulls bitmap body ≡ text_bytes ts
text_column_is ts encoding nulls bitmap body e = ap (λ (c : TextColumn). spelled Varchar c.encoding c.nulls c.bitmap c.body) e

values_taken : (kind : Kind) (n encoding : ℕ) (nulls : Bool) (bitmap body : List ℕ) (vs : List Value) → Fit 8 bitmap → Fit 8 body → values_in kind n encoding nulls bitmap body ≡ Ok vs → AreSpelled kind n encoding nulls bitmap body vs
values_taken Int n encoding nulls bitmap body vs fit_bitmap fit_body e =
    let one = mapped_taken (map (number_value Int)) (numbers.rows_of Int n (numbers.column_with encoding nulls bitmap body)) vs e in
    let ns : List (Option ℤ) = one.0 in
    let are = number_laws.rows_are Int n (numbers.column_with encoding nulls bitmap body) ns fit_bitmap fit_body one.1 in
    subst (λ (vs : List Value). AreSpelled Int n encoding nulls bitmap body vs) one.2
    (number_column_is Int ns encoding nulls bitmap body are.0 ∙ ap (number_bytes Int) (sym (maps_back (number_value Int) number_in number_kept ns)), (length_mapped (number_value Int) ns ∙ are.1, ints_are ns are.2))
values_taken Date n encoding nulls bitmap body vs fit_bitmap fit_body e =
    let one = mapped_taken (map (number_value Date)) (numbers.rows_of Date n (numbers.column_with encoding nulls bitmap body)) vs e in
    let ns : List (Option ℤ) = one.0 in
    let are = number_laws.rows_are Date n (numbers.column_with encoding nulls bitmap body) ns fit_bitmap fit_body one.1 in
    subst (λ (vs : List Value). AreSpelled Date n encoding nulls bitmap body vs) one.2
    (number_column_is Date ns encoding nulls bitmap body are.0 ∙ ap (number_bytes Date) (sym (maps_back (number_value Date) number_in day_kept ns)), (length_mapped (number_value Date) ns ∙ are.1, days_are ns are.2))
values_taken Varchar n encoding nulls bitmap body vs fit_bitmap fit_body e =
    let one = mapped_taken (map text_value) (texts.rows_of n (texts.column_with encoding nulls bitmap body)) vs e in
    let ts : List (Option (List ℕ)) = one.0 in
    let are = text_laws.column_taken n (texts.column_with encoding nulls bitmap body) ts fit_bitmap fit_body one.1 in
    subst (λ (vs : List Value). AreSpelled Varchar n encoding nulls bitmap body vs) one.2
    (text_column_is ts encoding nulls bitmap body are.0 ∙ ap text_bytes (sym (maps_back text_value text_in text_kept ts)), (length_mapped text_value ts ∙ are.1, texts_are ts are.2))

-- ---- the column

fit_take : (n : ℕ) (bs : List ℕ) → Fit 8 bs → Fit 8 (take n bs)
fit_take n bs fit = fit_front 8 (take n bs) (drop n bs) (subst (Fit 8) (sym (take-append-drop n bs)) fit)

fit_drop : (n : ℕ) (bs : List ℕ) → Fit 8 bs → Fit 8 (drop n bs)
fit_drop n bs fit = fit_behind 8 (take n bs) (drop n bs) (subst (Fit 8) (sym (take-append-drop n bs)) fit)

not_short : (m : ℕ) (bs : List ℕ) → ltb (length (take m bs)) m ≡ false → length (take m bs) ≡ m
not_short m bs e = let le = ltb-false (length (take m bs)) m e in let least = length-take m bs in omega (arith, le, least)

three_parts : (n m : ℕ) (bs : List ℕ) → bs ≡ take n bs ++ (take m (drop n bs) ++ drop m (drop n bs))
three_parts n m bs = sym (take-append-drop n bs) ∙ ap (λ (t : List ℕ). take n bs ++ t) (sym (take-append-drop m (drop n bs)))

joined : (head bitmap body rest : List ℕ) → head ++ (bitmap ++ (body ++ rest)) ≡ (head ++ (bitmap ++ body)) ++ rest
joined head bitmap body rest = sym (append_assoc head (bitmap ++ body) rest ∙ ap (λ (t : List ℕ). head ++ t) (append_assoc bitmap body rest))

pub column_taken : (n end : ℕ) (bs : List ℕ) (x : (Kind × List Value) × List ℕ) → Fit 8 bs → column_at n end bs ≡ Ok x → (bs ≡ column_bytes x.0.0 x.0.1 ++ x.1) × IsColumn n x.0
unfolding column_at column_values_at
column_taken n end bs x fit e =
    let one = bound (head_at end bs) (λ head. column_values_at n (end - length (drop 1 bs)) end head.0 head.1 >>= λ vs. Ok ((head.0.kind, vs), behind n head.0 head.1)) x e in
    let h : Head = one.0.0 in
    let rest : List ℕ = one.0.1 in
    let two = bound (column_values_at n (end - length (drop 1 bs)) end h rest) (λ vs. Ok ((h.kind, vs), behind n h rest)) x one.2 in
    let vs : List Value = two.0 in
    let k : ℕ = bitmap_size n h.nulls in
    let bitmap : List ℕ = take k rest in
    let body : List ℕ = take h.size (drop k rest) in
    let read = placed_taken (end - length (drop 1 bs)) (end - length rest) end (is_short n h rest) (values_in h.kind n h.encoding h.nulls bitmap body) vs two.1 in
    let front : bs ≡ head_bytes h ++ rest = head_taken end bs one.0 fit one.1 in
    let fit_all : Fit 8 rest = fit_rest bs (head_bytes h) rest fit front in
    let are = values_taken h.kind n h.encoding h.nulls bitmap body vs (fit_take k rest fit_all) (fit_take h.size (drop k rest) (fit_drop k rest fit_all)) read.1 in
    let size : length body ≡ h.size = not_short h.size (drop k rest) read.0 in
    let whole : bs ≡ (head_bytes h ++ (bitmap ++ body)) ++ drop h.size (drop k rest)
    = front ∙ ap (λ (t : List ℕ). head_bytes h ++ t) (three_parts k h.size rest) ∙ joined (head_bytes h) bitmap body (drop h.size (drop k rest)) in
    let same : head_bytes h ++ (bitmap ++ body) ≡ spelled h.kind h.encoding h.nulls bitmap body
    = ap (λ m. kind_code h.kind ∷ h.encoding ∷ null_code h.nulls ∷ (to_le_bytes w64 m ++ (bitmap ++ body))) (sym size) in
    subst (λ (x : (Kind × List Value) × List ℕ). (bs ≡ column_bytes x.0.0 x.0.1 ++ x.1) × IsColumn n x.0) (same_ok ((h.kind, vs), behind n h rest) x two.2)
    (whole ∙ ap (λ (t : List ℕ). t ++ drop h.size (drop k rest)) (same ∙ are.0), are.1)
