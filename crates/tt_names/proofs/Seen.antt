-- What the finite map of a table of names gives, and what becomes of it when one name changes.
use Rattle.std.proofs.Common.{◌≡◌, ℕ, Bool, true, false, cond, List, [], ◌∷◌, map, Option, None, Some, Result, Ok, Err, OnErr, IsSome, unwrap_or, length, nat_eq, subst, ◌<◌, inl, inr, arith, refl, sym, ap, ◌∙◌}
use Rattle.std.proofs.lemmas.Bool.{cases_Bool, cond-true, cond-false, eqb-true, eqb-false}
use Rattle.std.proofs.lemmas.Slice.Eq.{bytes_eq-Decides}
use Rattle.std.specs.Prelude.{String}
use Rattle.std.specs.String.{string_bytes, string_eq}
use Rattle.std.specs.declared.alloc.Global.{Global}
use Rattle.std.specs.Option.{option_map}
use Rattle.std.specs.Map.{lookup}
use Rattle.std.specs.HashMap.{HashMap, UpdatesBy, get_by_text}
use Rattle.std.specs.Str.{bytes_eq}
use Rattle.std.specs.Ordering.{nat_cmp}
use Rattle.std.specs.Cmp.Lexicographic.{slice_cmp, nat_list_eq_equiv, nat_list_cmp_total}
use Rattle.std.specs.FinMap as finite
use Rattle.std.specs.Ordering.{eq_by_cmp}
use Rattle.std.specs.FinMap.{find, get-from_entries, get-insert, get-remove, same_map, slice_cmp-IsAntisymmetric, nat_cmp-IsAntisymmetric}
use Rattle.std.proofs.lemmas.Map.Text.{is_eq-slice_cmp, hash_map_updates_text}
use Rattle.tt_names.specs.ByName.{ByName, seen, Drops, drops_of, put_drops, without_table}

map_cond : {V X : Type 0} (f : V → X) (b : Bool) (w o : Option V) → option_map f (cond b w o) ≡ cond b (option_map f w) (option_map f o)
map_cond f true w o = refl
map_cond f false w o = refl

find-seen : {V X : Type 0} (f : V → X) (q : List ℕ) (es : List (String Global × V))
    → find (slice_cmp nat_cmp) q (map (λ e. (string_bytes e.0, f e.1)) es) ≡ option_map f (lookup (λ k. bytes_eq q (string_bytes k)) es)
find-seen f q [] = refl
find-seen {X = X} f q (e ∷ es) =
    let rest = find (slice_cmp nat_cmp) q (map (λ e. (string_bytes e.0, f e.1)) es) in
    ap (λ t. cond t (Some (f e.1)) rest) (is_eq-slice_cmp q (string_bytes e.0))
    ∙ ap (λ (o : Option X). cond (bytes_eq q (string_bytes e.0)) (Some (f e.1)) o) (find-seen f q es)
    ∙ sym (map_cond f (bytes_eq q (string_bytes e.0)) (Some e.1) (lookup (λ k. bytes_eq q (string_bytes k)) es))

-- a look-up in the finite map is one by bytes in the table
pub get-seen : {V X S : Type 0} (f : V → X) (m : HashMap (String Global) V S) (q : List ℕ) → finite.get (seen f m.entries) q ≡ option_map f (get_by_text m q)
get-seen f m q = get-from_entries nat_list_cmp_total _ q ∙ find-seen f q m.entries

-- the finite map after a change at one name, by what its look-ups give
pub seen_after : {V X S : Type 0} (f : V → X) (m n : HashMap (String Global) V S) (name : List ℕ) (w : Option V) (t : ByName X)
    → ((q : List ℕ) → get_by_text n q ≡ cond (bytes_eq name q) w (get_by_text m q))
    → ((q : List ℕ) → finite.get t q ≡ cond (bytes_eq name q) (option_map f w) (finite.get (seen f m.entries) q))
    → seen f n.entries ≡ t
seen_after {X = X} f m n name w t changed is =
    same_map nat_list_cmp_total (slice_cmp-IsAntisymmetric nat_cmp-IsAntisymmetric) (seen f n.entries) t
    (λ q. get-seen f n q ∙ ap (option_map f) (changed q) ∙ map_cond f (bytes_eq name q) w (get_by_text m q)
    ∙ ap (λ (o : Option X). cond (bytes_eq name q) (option_map f w) o) (sym (get-seen f m q)) ∙ sym (is q))

pub same_name : (name q : List ℕ) → eq_by_cmp (slice_cmp nat_cmp) q name ≡ bytes_eq name q
same_name name q = is_eq-slice_cmp q name ∙ nat_list_eq_equiv.symm q name

pub seen-insert : {V X S : Type 0} (f : V → X) (m n : HashMap (String Global) V S) (name : List ℕ) (v : V)
    → ((q : List ℕ) → get_by_text n q ≡ cond (bytes_eq name q) (Some v) (get_by_text m q))
    → seen f n.entries ≡ finite.insert (seen f m.entries) name (f v)
seen-insert f m n name v changed =
    seen_after f m n name (Some v) (finite.insert (seen f m.entries) name (f v)) changed
    (λ q. get-insert nat_list_cmp_total (seen f m.entries) name (f v) q
    ∙ ap (λ t. cond t (Some (f v)) (finite.get (seen f m.entries) q)) (same_name name q))

pub seen-remove : {V X S : Type 0} (f : V → X) (m n : HashMap (String Global) V S) (name : List ℕ)
    → ((q : List ℕ) → get_by_text n q ≡ cond (bytes_eq name q) None (get_by_text m q))
    → seen f n.entries ≡ finite.remove (seen f m.entries) name
seen-remove f m n name changed =
    seen_after f m n name None (finite.remove (seen f m.entries) name) changed
    (λ q. get-remove nat_list_cmp_total (seen f m.entries) name q
    ∙ ap (λ t. cond t None (finite.get (seen f m.entries) q)) (same_name name q))

-- ---- the same from the clauses of the table's calls, at the bytes that they were given
pub seen-insert_at : {V X S : Type 0} (f : V → X) (m n : HashMap (String Global) V S) (given name : List ℕ) (v : V) → given ≡ name
    → UpdatesBy string_eq (λ k. bytes_eq given (string_bytes k)) m n (Some v) → seen f n.entries ≡ finite.insert (seen f m.entries) name (f v)
seen-insert_at f m n given name v e updates =
    seen-insert f m n given v (hash_map_updates_text given m n (Some v) updates) ∙ ap (λ k. finite.insert (seen f m.entries) k (f v)) e

pub seen-remove_at : {V X S : Type 0} (f : V → X) (m n : HashMap (String Global) V S) (given name : List ℕ) → given ≡ name
    → UpdatesBy string_eq (λ k. bytes_eq given (string_bytes k)) m n None → seen f n.entries ≡ finite.remove (seen f m.entries) name
seen-remove_at f m n given name e updates =
    seen-remove f m n given (hash_map_updates_text given m n None updates) ∙ ap (λ k. finite.remove (seen f m.entries) k) e

same_bytes : (a b : List ℕ) → bytes_eq a b ≡ true → a ≡ b
same_bytes a b e = (bytes_eq-Decides a b).0 e

-- a name that is given what it had
pub seen-same : {V X S : Type 0} (f : V → X) (m n : HashMap (String Global) V S) (given : List ℕ) (v w : V) → get_by_text m given ≡ Some v → f w ≡ f v
    → UpdatesBy string_eq (λ k. bytes_eq given (string_bytes k)) m n (Some w) → seen f n.entries ≡ seen f m.entries
seen-same {X = X} f m n given v w had same updates =
    seen_after f m n given (Some w) (seen f m.entries) (hash_map_updates_text given m n (Some w) updates)
    (λ q. elim (cases_Bool (bytes_eq given q)) [
      | inl here ↦
          get-seen f m q ∙ ap (λ k. option_map f (get_by_text m k)) (sym (same_bytes given q here)) ∙ ap (option_map f) had
          ∙ ap (λ (x : X). Some x) (sym same) ∙ sym (cond-true (bytes_eq given q) (Some (f w)) (finite.get (seen f m.entries) q) here)
      | inr other ↦ sym (cond-false (bytes_eq given q) (Some (f w)) (finite.get (seen f m.entries) q) other)
    ])

-- a name that has nothing may be taken away
pub remove_absent : {X : Type 0} (t : ByName X) (name : List ℕ) → finite.get t name ≡ None → finite.remove t name ≡ t
remove_absent t name none =
    same_map nat_list_cmp_total (slice_cmp-IsAntisymmetric nat_cmp-IsAntisymmetric) (finite.remove t name) t
    (λ q. get-remove nat_list_cmp_total t name q ∙ (elim (cases_Bool (eq_by_cmp (slice_cmp nat_cmp) q name)) [
      | inl here ↦
          let same : name ≡ q = same_bytes name q (sym (same_name name q) ∙ here) in
          cond-true (eq_by_cmp (slice_cmp nat_cmp) q name) None (finite.get t q) here ∙ sym (ap (finite.get t) (sym same) ∙ none)
      | inr other ↦ cond-false (eq_by_cmp (slice_cmp nat_cmp) q name) None (finite.get t q) other
    ]))

map_same : {X : Type 0} (o : Option X) → option_map (λ x. x) o ≡ o
map_same None = refl
map_same (Some x) = refl

pub get-seen_plain : {X S : Type 0} (m : HashMap (String Global) X S) (given name : List ℕ) → given ≡ name → get_by_text m given ≡ finite.get (seen (λ x. x) m.entries) name
get-seen_plain m given name e = ap (get_by_text m) e ∙ sym (map_same (get_by_text m name)) ∙ sym (get-seen (λ x. x) m name)

-- ---- lists of drops
pub drops_at : {V S : Type 0} (f : V → Drops) (m : HashMap (String Global) V S) (given name : List ℕ) (v : V) → given ≡ name
    → Some v ≡ get_by_text m given → f v ≡ drops_of name (seen f m.entries)
drops_at f m given name v e had =
    sym (ap (λ o. unwrap_or o []) (get-seen f m name ∙ ap (λ k. option_map f (get_by_text m k)) (sym e) ∙ ap (option_map f) (sym had)))

pub drops_none : {V S : Type 0} (f : V → Drops) (m : HashMap (String Global) V S) (given name : List ℕ) → given ≡ name
    → None ≡ get_by_text m given → [] ≡ drops_of name (seen f m.entries)
drops_none f m given name e had =
    sym (ap (λ o. unwrap_or o []) (get-seen f m name ∙ ap (λ k. option_map f (get_by_text m k)) (sym e) ∙ ap (option_map f) (sym had)))

pub put_drops-empty : (name : List ℕ) (list : Drops) (t : ByName Drops) → list ≡ [] → finite.remove t name ≡ put_drops name list t
put_drops-empty name list t e = sym (ap (λ l. put_drops name l t) e)

pub put_drops-some : (name : List ℕ) (list : Drops) (t : ByName Drops) → 0 < length list → finite.insert t name list ≡ put_drops name list t
put_drops-some name [] t h = absurd (omega arith)
put_drops-some name (d ∷ list) t h = refl

-- what was put under a name and taken away again
pub remove-insert : {X : Type 0} (t : ByName X) (name : List ℕ) (x : X) → finite.remove (finite.insert t name x) name ≡ finite.remove t name
remove-insert t name x =
    same_map nat_list_cmp_total (slice_cmp-IsAntisymmetric nat_cmp-IsAntisymmetric) _ _
    (λ q. get-remove nat_list_cmp_total (finite.insert t name x) name q ∙ (elim (cases_Bool (eq_by_cmp (slice_cmp nat_cmp) q name)) [
      | inl here ↦
          cond-true (eq_by_cmp (slice_cmp nat_cmp) q name) None (finite.get (finite.insert t name x) q) here
          ∙ sym (cond-true (eq_by_cmp (slice_cmp nat_cmp) q name) None (finite.get t q) here)
      | inr other ↦
          cond-false (eq_by_cmp (slice_cmp nat_cmp) q name) None (finite.get (finite.insert t name x) q) other
          ∙ get-insert nat_list_cmp_total t name x q ∙ cond-false (eq_by_cmp (slice_cmp nat_cmp) q name) (Some x) (finite.get t q) other
          ∙ sym (cond-false (eq_by_cmp (slice_cmp nat_cmp) q name) None (finite.get t q) other)
    ]) ∙ sym (get-remove nat_list_cmp_total t name q))

pub on_err : {T E P : Type 0} (r : Result T E) → P → OnErr r P
on_err (Ok x) p = tt
on_err (Err e) p = p

-- ---- look-ups that find nothing, or something
pub get_none : {V X S : Type 0} (f : V → X) (m : HashMap (String Global) V S) (given name : List ℕ) → given ≡ name
    → None ≡ get_by_text m given → finite.get (seen f m.entries) name ≡ None
get_none f m given name e had = get-seen f m name ∙ ap (λ k. option_map f (get_by_text m k)) (sym e) ∙ ap (option_map f) (sym had)

pub take_none : (t : ByName Drops) (name : List ℕ) (table : ℕ) → finite.get t name ≡ None
    → put_drops name (without_table table (drops_of name t)) t ≡ t
take_none t name table none =
    ap (λ (o : Option Drops). put_drops name (without_table table (unwrap_or o [])) t) none ∙ remove_absent t name none

some_is_not : {X : Type 0} (o : Option X) → o ≡ None → IsSome o → ⊥
some_is_not o e h = grind arith

pub not_absent : {X : Type 0} (t : ByName X) (name : List ℕ) → finite.get t name ≡ None → IsSome (finite.get t name) → ⊥
not_absent t name e h = some_is_not (finite.get t name) e h

some_either : {X : Type 0} (b : Bool) (x : X) (o : Option X) → IsSome o → IsSome (cond b (Some x) o)
some_either true x o h = grind arith
some_either false x o h = h

pub insert_keeps : {X : Type 0} (t : ByName X) (name : List ℕ) (x : X) (q : List ℕ) → IsSome (finite.get t q) → IsSome (finite.get (finite.insert t name x) q)
insert_keeps t name x q h =
    subst IsSome (sym (get-insert nat_list_cmp_total t name x q)) (some_either (eq_by_cmp (slice_cmp nat_cmp) q name) x (finite.get t q) h)

pub no_items : (list : Drops) (n : ℕ) → n ≡ length list → nat_eq n 0 ≡ true → list ≡ []
no_items [] n e h = refl
no_items (d ∷ list) n e h = absurd (let none = eqb-true n 0 h in omega arith)

pub some_items : (list : Drops) (n : ℕ) → n ≡ length list → nat_eq n 0 ≡ false → 0 < length list
some_items [] n e h = absurd (eqb-false n 0 h e)
some_items (d ∷ list) n e h = omega arith
