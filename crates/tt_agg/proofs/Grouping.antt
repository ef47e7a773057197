-- Rows put into groups one by one are the groups of all rows.
use Rattle.std.proofs.Common.{◌≡◌, ℕ, zero, suc, ◌+◌, ◌<◌, ◌≤◌, Bool, true, false, not, cond, if◌then◌else◌, take, get_or, List, [], ◌∷◌, ◌++◌, length, map, Option, Some, None, refl, ap, sym, subst, ◌∙◌, append-nil, arith}
use Rattle.std.specs.Prelude.{◌||◌, ⊤}
use Rattle.std.specs.Option.{option_map}
use Rattle.std.specs.List.{filter, list_any, AllByRecursion}
use Rattle.std.specs.declared.cmp.Ordering.{Ordering}
use Rattle.std.specs.declared.cmp.Ordering.TheVariants.{Less, Equal, Greater}
use Rattle.std.specs.Ordering.{is_eq, ordering_reverse}
use Rattle.std.proofs.lemmas.List.{map-append, length-map, take_more}
use Rattle.std.proofs.Math.ListN.{set}
use Rattle.std.specs.Borrow.{Bor}
use Rattle.std.specs.declared.vec.Vec.{Vec}
use Rattle.tt_agg.specs.Lent.{lent}
use Rattle.std.proofs.lemmas.List.Elements.{filter-append}
use Rattle.tt_value.specs.declared.value.Row.{Row}
use Rattle.tt_value.specs.values.Order.{row_cmp, is_same_row}
use Rattle.tt_value.specs.values.TotalOrder.{row_total}
use Rattle.tt_value.proofs.values.Bags.{same_itself, same_is}
use Rattle.tt_sql.specs.meaning.Queries.{each_once, grouped}
use Rattle.tt_agg.specs.Groups.{key_at, rows_of, with_row, key_place, place_for, with_key, HasPlacesOf}
use Rattle.std.specs.BTreeMap.{BTreeMap}
use Rattle.std.specs.BTreeMap as tree

-- ---- rows that are the same

eq_turned : (r s : Ordering) → r ≡ ordering_reverse s → is_eq r ≡ is_eq s
eq_turned r Less e = ap is_eq e
eq_turned r Equal e = ap is_eq e
eq_turned r Greater e = ap is_eq e

pub same_sym : (a b : Row) → is_same_row a b ≡ is_same_row b a
same_sym a b = eq_turned (row_cmp a b) (row_cmp b a) (row_total.antisymm a b)

-- what is the same as one of two that are apart is not the same as the other
same_apart : (k x y : Row) → is_same_row k x ≡ false → is_same_row x y ≡ true → is_same_row k y ≡ false
same_apart k x y p q = ap (λ z. is_same_row k z) (sym (same_is x y q)) ∙ p

-- ---- each key once

any_kept : (b : Bool) (k x y : Row) (keys kept : List Row) → is_same_row x y ≡ b → is_same_row k x ≡ false → list_any (is_same_row k) kept ≡ list_any (is_same_row k) keys → list_any (is_same_row k) (cond (not b) (y ∷ kept) kept) ≡ (is_same_row k y || list_any (is_same_row k) keys)
any_kept true k x y keys kept p q h = h ∙ ap (λ b. b || list_any (is_same_row k) keys) (sym (same_apart k x y q p))
any_kept false k x y keys kept p q h = ap (λ b. is_same_row k y || b) h

-- taking away another key takes away no copy of this one
any_filter : (k x : Row) → is_same_row k x ≡ false → (keys : List Row) → list_any (is_same_row k) (filter (λ other. not (is_same_row x other)) keys) ≡ list_any (is_same_row k) keys
any_filter k x p [] = refl
any_filter k x p (y ∷ keys) =
    any_kept (is_same_row x y) k x y keys (filter (λ other. not (is_same_row x other)) keys) refl p (any_filter k x p keys)

any_first : (b : Bool) (k x : Row) (keys once : List Row) → is_same_row k x ≡ b → list_any (is_same_row k) once ≡ list_any (is_same_row k) keys → (b || list_any (is_same_row k) (filter (λ other. not (is_same_row x other)) once)) ≡ (b || list_any (is_same_row k) keys)
any_first true k x keys once p h = refl
any_first false k x keys once p h = any_filter k x p once ∙ h

pub any_once : (k : Row) (keys : List Row) → list_any (is_same_row k) (each_once keys) ≡ list_any (is_same_row k) keys
any_once k [] = refl
any_once k (x ∷ keys) = any_first (is_same_row k x) k x keys (each_once keys) refl (any_once k keys)

kept_last : (b : Bool) (x k : Row) (keys : List Row) → is_same_row x k ≡ b → filter (λ other. not (is_same_row x other)) (keys ++ k ∷ []) ≡ filter (λ other. not (is_same_row x other)) keys ++ cond (not b) (k ∷ []) []
kept_last b x k keys p =
    filter-append (λ other. not (is_same_row x other)) keys (k ∷ []) ∙ ap (λ c. filter (λ other. not (is_same_row x other)) keys ++ cond (not c) (k ∷ []) []) p

once_more : (b any : Bool) (x k : Row) (once : List Row) → is_same_row x k ≡ b → list_any (is_same_row k) once ≡ any → x ∷ filter (λ other. not (is_same_row x other)) (if any then once else once ++ k ∷ []) ≡ (if b || any then x ∷ filter (λ other. not (is_same_row x other)) once else (x ∷ filter (λ other. not (is_same_row x other)) once) ++ k ∷ [])
once_more true true x k once p q = refl
once_more true false x k once p q = ap (λ keys. x ∷ keys) (kept_last true x k once p ∙ append-nil (filter (λ other. not (is_same_row x other)) once))
once_more false true x k once p q = refl
once_more false false x k once p q = ap (λ keys. x ∷ keys) (kept_last false x k once p)

any_here : (b : Bool) (x k : Row) (once : List Row) → is_same_row k x ≡ b → (b || list_any (is_same_row k) once) ≡ (b || list_any (is_same_row k) (filter (λ other. not (is_same_row x other)) once))
any_here true x k once p = refl
any_here false x k once p = sym (any_filter k x p once)

pub once-snoc : (keys : List Row) (k : Row) → each_once (keys ++ k ∷ []) ≡ with_key k (each_once keys)
once-snoc [] k = refl
once-snoc (x ∷ keys) k =
    let once = each_once keys in
    ap (λ all. x ∷ filter (λ other. not (is_same_row x other)) all) (once-snoc keys k)
    ∙ once_more (is_same_row k x) (list_any (is_same_row k) once) x k once (same_sym x k) refl
    ∙ ap (λ b. if b then x ∷ filter (λ other. not (is_same_row x other)) once else (x ∷ filter (λ other. not (is_same_row x other)) once) ++ k ∷ []) (any_here (is_same_row k x) x k once refl)

-- ---- keys that are apart

abbrev Apart : Row → List Row → Type 0
Apart x keys = AllByRecursion (λ y. is_same_row x y ≡ false) keys

abbrev AreApart : List Row → Type 0
AreApart [] = ⊤
AreApart (x ∷ keys) = Apart x keys × AreApart keys

apart_kept : (b : Bool) (x y : Row) (keys : List Row) → is_same_row x y ≡ b → Apart x keys → Apart x (cond (not b) (y ∷ keys) keys)
apart_kept true x y keys p h = h
apart_kept false x y keys p h = (p, h)

apart_filter : (x : Row) (keys : List Row) → Apart x (filter (λ other. not (is_same_row x other)) keys)
apart_filter x [] = tt
apart_filter x (y ∷ keys) =
    apart_kept (is_same_row x y) x y (filter (λ other. not (is_same_row x other)) keys) refl (apart_filter x keys)

still_apart_by : (b : Bool) (z y : Row) (keys : List Row) → is_same_row z y ≡ false → Apart z keys → Apart z (cond b (y ∷ keys) keys)
still_apart_by true z y keys p h = (p, h)
still_apart_by false z y keys p h = h

still_apart : (test : Row → Bool) (z : Row) (keys : List Row) → Apart z keys → Apart z (filter test keys)
still_apart test z [] h = tt
still_apart test z (y ∷ keys) h = still_apart_by (test y) z y (filter test keys) h.0 (still_apart test z keys h.1)

are_apart_by : (b : Bool) (y : Row) (keys : List Row) → Apart y keys → AreApart keys → AreApart (cond b (y ∷ keys) keys)
are_apart_by true y keys h k = (h, k)
are_apart_by false y keys h k = k

are_apart_filter : (test : Row → Bool) (keys : List Row) → AreApart keys → AreApart (filter test keys)
are_apart_filter test [] h = tt
are_apart_filter test (y ∷ keys) h =
    are_apart_by (test y) y (filter test keys) (still_apart test y keys h.0) (are_apart_filter test keys h.1)

once_apart : (keys : List Row) → AreApart (each_once keys)
once_apart [] = tt
once_apart (x ∷ keys) = (apart_filter x (each_once keys), are_apart_filter (λ other. not (is_same_row x other)) (each_once keys) (once_apart keys))

-- ---- one more row

module _ (key_of : Row → Row) (rows : List Row) (row : Row) where
  abbrev before : Row → List Row
  before k = filter (λ r. is_same_row k (key_of r)) rows

  abbrev after : Row → List Row
  after k = filter (λ r. is_same_row k (key_of r)) (rows ++ row ∷ [])

  after_by : (b : Bool) (k : Row) → is_same_row k (key_of row) ≡ b → after k ≡ before k ++ cond b (row ∷ []) []
  after_by b k p =
      filter-append (λ r. is_same_row k (key_of r)) rows (row ∷ []) ∙ ap (λ c. before k ++ cond c (row ∷ []) []) p

  after_other : (k : Row) → is_same_row k (key_of row) ≡ false → after k ≡ before k
  after_other k p = after_by false k p ∙ append-nil (before k)

  after_others : (keys : List Row) → Apart (key_of row) keys → map after keys ≡ map before keys
  after_others [] h = refl
  after_others (k ∷ keys) h =
      let first : after k ≡ before k = after_other k (same_sym k (key_of row) ∙ h.0) in
      let rest : map after keys ≡ map before keys = after_others keys h.1 in
      cc

  grow_from : (b : Bool) (x : Row) (keys : List Row) → is_same_row (key_of row) x ≡ b → Apart x keys → (b ≡ false → map after (with_key (key_of row) keys) ≡ with_row (place_for (key_of row) keys) row (map before keys)) → map after (if b || list_any (is_same_row (key_of row)) keys then x ∷ keys else (x ∷ keys) ++ key_of row ∷ []) ≡ with_row (if b then 0 else suc (place_for (key_of row) keys)) row (before x ∷ map before keys)
  grow_from true x keys p apart h =
      let same : x ≡ key_of row = sym (same_is (key_of row) x p) in
      let first : after x ≡ before x ++ row ∷ [] = after_by true x (same_sym x (key_of row) ∙ p) in
      let rest : map after keys ≡ map before keys = after_others keys (subst (λ z. Apart z keys) same apart) in
      cc
  grow_from false x keys p apart h =
      behind (list_any (is_same_row (key_of row)) keys) refl
    where
      first : after x ≡ before x
      first = after_other x (same_sym x (key_of row) ∙ p)

      behind : (any : Bool) → list_any (is_same_row (key_of row)) keys ≡ any → map after (if any then x ∷ keys else (x ∷ keys) ++ key_of row ∷ []) ≡ before x ∷ with_row (place_for (key_of row) keys) row (map before keys)
      behind true is =
          let rest : map after keys ≡ with_row (place_for (key_of row) keys) row (map before keys) = ap (λ b. map after (if b then keys else keys ++ key_of row ∷ [])) (sym is) ∙ h refl in
          let here = first in
          cc
      behind false is =
          let rest : map after (keys ++ key_of row ∷ []) ≡ with_row (place_for (key_of row) keys) row (map before keys) = ap (λ b. map after (if b then keys else keys ++ key_of row ∷ [])) (sym is) ∙ h refl in
          let here = first in
          cc

  grow : (keys : List Row) → AreApart keys → (list_any (is_same_row (key_of row)) keys ≡ false → before (key_of row) ≡ []) → map after (with_key (key_of row) keys) ≡ with_row (place_for (key_of row) keys) row (map before keys)
  grow [] apart none =
      ap (λ group. group ∷ []) (after_by true (key_of row) (same_itself (key_of row)) ∙ ap (λ kept. kept ++ row ∷ []) (none refl))
  grow (x ∷ keys) apart none =
      grow_from (is_same_row (key_of row) x) x keys refl apart.0 (λ p. grow keys apart.1 (λ e. none (ap (λ b. b || list_any (is_same_row (key_of row)) keys) p ∙ e)))

nobody : (b any : Bool) (r : Row) (kept : List Row) → (b || any) ≡ false → (any ≡ false → kept ≡ []) → cond b (r ∷ kept) kept ≡ []
nobody true any r kept p h = cc
nobody false any r kept p h = h p

none_before : (key_of : Row → Row) (k : Row) (rows : List Row) → list_any (is_same_row k) (map key_of rows) ≡ false → filter (λ r. is_same_row k (key_of r)) rows ≡ []
none_before key_of k [] p = refl
none_before key_of k (r ∷ rows) p =
    nobody (is_same_row k (key_of r)) (list_any (is_same_row k) (map key_of rows)) r (filter (λ r. is_same_row k (key_of r)) rows) p (none_before key_of k rows)

pub keys-snoc : (key_of : Row → Row) (rows : List Row) (row : Row) → each_once (map key_of (rows ++ row ∷ [])) ≡ with_key (key_of row) (each_once (map key_of rows))
keys-snoc key_of rows row = ap each_once (map-append key_of rows (row ∷ [])) ∙ once-snoc (map key_of rows) (key_of row)

-- one more row comes to the group of its key
pub grouped-snoc : (key_of : Row → Row) (rows : List Row) (row : Row) → grouped key_of (rows ++ row ∷ []) ≡ with_row (place_for (key_of row) (each_once (map key_of rows))) row (grouped key_of rows)
grouped-snoc key_of rows row =
    let keys = each_once (map key_of rows) in
    ap (map (λ k. filter (λ r. is_same_row k (key_of r)) (rows ++ row ∷ []))) (keys-snoc key_of rows row)
    ∙ grow key_of rows row keys (once_apart (map key_of rows)) (λ none. none_before key_of (key_of row) rows (sym (any_once (key_of row) (map key_of rows)) ∙ none))

-- ---- where a key stands

found_case : (b : Bool) (o : Option ℕ) (n : ℕ) (any : Bool) (p : ℕ) → (if b then Some 0 else option_map suc o) ≡ Some p → ((q : ℕ) → o ≡ Some q → (n ≡ q) × (any ≡ true)) → ((if b then 0 else suc n) ≡ p) × ((b || any) ≡ true)
found_case true o n any p e h = (cc, refl)
found_case false None n any p e h = absurd (cc)
found_case false (Some q) n any p e h =
    let here = h q refl in
    let is : suc q ≡ p = cc in
    (ap suc here.0 ∙ is, here.1)

found_key : (key : Row) (keys : List Row) (p : ℕ) → key_place key keys ≡ Some p → (place_for key keys ≡ p) × (list_any (is_same_row key) keys ≡ true)
found_key key [] p e = absurd (cc)
found_key key (k ∷ keys) p e =
    found_case (is_same_row key k) (key_place key keys) (place_for key keys) (list_any (is_same_row key) keys) p e (found_key key keys)

missing_case : (b : Bool) (o : Option ℕ) (n len : ℕ) (any : Bool) → (if b then Some 0 else option_map suc o) ≡ None → (o ≡ None → (n ≡ len) × (any ≡ false)) → ((if b then 0 else suc n) ≡ suc len) × ((b || any) ≡ false)
missing_case true o n len any e h = absurd (cc)
missing_case false None n len any e h = let here = h refl in (ap suc here.0, here.1)
missing_case false (Some q) n len any e h = absurd (cc)

missing_key : (key : Row) (keys : List Row) → key_place key keys ≡ None → (place_for key keys ≡ length keys) × (list_any (is_same_row key) keys ≡ false)
missing_key key [] e = (refl, refl)
missing_key key (k ∷ keys) e =
    missing_case (is_same_row key k) (key_place key keys) (place_for key keys) (length keys) (list_any (is_same_row key) keys) e (missing_key key keys)

new_by : (here b : Bool) (len : ℕ) (o : Option ℕ) → (here ≡ true → b ≡ false) → (if here then Some 0 else option_map suc (if b then Some len else o)) ≡ (if b then Some (suc len) else (if here then Some 0 else option_map suc o))
new_by true true len o h = absurd (let e = h refl in cc)
new_by true false len o h = refl
new_by false true len o h = refl
new_by false false len o h = refl

not_here : (b any : Bool) → (b || any) ≡ false → b ≡ false
not_here true any e = cc
not_here false any e = refl

later_none : (b : Bool) (o : Option ℕ) → (if b then Some 0 else option_map suc o) ≡ None → o ≡ None
later_none true o e = absurd (cc)
later_none false None e = refl
later_none false (Some q) e = absurd (cc)

new_key : (key q : Row) (keys : List Row) → key_place key keys ≡ None → key_place q (keys ++ key ∷ []) ≡ (if is_same_row key q then Some (length keys) else key_place q keys)
new_key key q [] e = ap (λ b. if b then Some 0 else None) (same_sym q key)
new_key key q (k ∷ keys) e =
    let apart : is_same_row key k ≡ false = not_here (is_same_row key k) (list_any (is_same_row key) keys) (missing_key key (k ∷ keys) e).1 in
    ap (λ o. if is_same_row q k then Some 0 else option_map suc o) (new_key key q keys (later_none (is_same_row key k) (key_place key keys) e))
    ∙ new_by (is_same_row q k) (is_same_row key q) (length keys) (key_place q keys) (λ here. same_apart key k q apart (same_sym k q ∙ here))

pub kept_places : (keys : List Row) (found : BTreeMap Row ℕ) (key : Row) (p : ℕ) → HasPlacesOf keys found → tree.get row_cmp found key ≡ Some p → (p ≡ place_for key keys) × HasPlacesOf (with_key key keys) found
kept_places keys found key p has is =
    let here = found_key key keys p (sym (has key) ∙ is) in
    (sym here.0, λ q. has q ∙ ap (λ b. key_place q (if b then keys else keys ++ key ∷ [])) (sym here.1))

pub new_places : (keys : List Row) (old new : BTreeMap Row ℕ) (key : Row) (next : ℕ) → HasPlacesOf keys old → next ≡ length keys → tree.get row_cmp old key ≡ None → ((q : Row) → tree.get row_cmp new q ≡ (if is_same_row key q then Some next else tree.get row_cmp old q)) → (next ≡ place_for key keys) × HasPlacesOf (with_key key keys) new
new_places keys old new key next has is none updates =
    let missing : key_place key keys ≡ None = sym (has key) ∙ none in
    let here = missing_key key keys missing in
    (is ∙ sym here.0, λ q. updates q ∙ (ap (λ o. if is_same_row key q then Some next else o) (has q) ∙ (ap (λ n. if is_same_row key q then Some n else key_place q keys) is ∙ (sym (new_key key q keys missing) ∙ ap (λ b. key_place q (if b then keys else keys ++ key ∷ [])) (sym here.1)))))

pub length-grouped : (key_of : Row → Row) (rows : List Row) → length (grouped key_of rows) ≡ length (each_once (map key_of rows))
length-grouped key_of rows = length-map (each_once (map key_of rows)) (λ k. filter (λ r. is_same_row k (key_of r)) rows)

pub place_within : (key : Row) (keys : List Row) → place_for key keys ≤ length keys
place_within key [] = omega arith
place_within key (k ∷ keys) = within (is_same_row key k) (place_for key keys) (length keys) (place_within key keys)
  where
    within : (b : Bool) (n len : ℕ) → n ≤ len → (if b then 0 else suc n) ≤ suc len
    within true n len h = omega arith
    within false n len h = omega arith

pub length-rows_of : {Z : Type 0} (groups : List (Vec (Bor Row) Z)) → length (rows_of groups) ≡ length groups
length-rows_of groups = length-map groups (λ (group : Vec (Bor Row) _). lent group.items)

-- as many groups as keys
pub groups_are_keys : {Z : Type 0} (groups : List (Vec (Bor Row) Z)) (key_of : Row → Row) (rows : List Row) → rows_of groups ≡ grouped key_of rows → length groups ≡ length (each_once (map key_of rows))
groups_are_keys groups key_of rows e = sym (length-rows_of groups) ∙ (ap length e ∙ length-grouped key_of rows)

row_behind : (rows : List Row) (i : ℕ) (row : Row) → i < length rows → row ≡ get_or rows i row → take (i + 1) rows ≡ take i rows ++ row ∷ []
row_behind rows i row inside is = take_more rows i row inside ∙ ap (λ y. take i rows ++ y ∷ []) (sym is)

pub keys_go_on : (places : List (Option ℕ)) (rows : List Row) (i : ℕ) (row key : Row) (found : BTreeMap Row ℕ) → i < length rows → row ≡ get_or rows i row → key ≡ key_at places row → HasPlacesOf (with_key key (each_once (map (key_at places) (take i rows)))) found → HasPlacesOf (each_once (map (key_at places) (take (i + 1) rows))) found
keys_go_on places rows i row key found inside is same has =
    let before = take i rows in
    let all : with_key key (each_once (map (key_at places) before)) ≡ each_once (map (key_at places) (take (i + 1) rows)) =
    ap (λ k. with_key k (each_once (map (key_at places) before))) same ∙ (sym (keys-snoc (key_at places) before row) ∙ ap (λ rs. each_once (map (key_at places) rs)) (sym (row_behind rows i row inside is))) in
    subst (λ keys. HasPlacesOf keys found) all has

pub groups_go_on : (places : List (Option ℕ)) (rows : List Row) (i : ℕ) (row key : Row) (place : ℕ) (before after : List (List Row)) → i < length rows → row ≡ get_or rows i row → key ≡ key_at places row → before ≡ grouped (key_at places) (take i rows) → place ≡ place_for key (each_once (map (key_at places) (take i rows))) → after ≡ with_row place row before → after ≡ grouped (key_at places) (take (i + 1) rows)
groups_go_on places rows i row key place before after inside is same so_far here e =
    let keys = each_once (map (key_at places) (take i rows)) in
    e ∙ (ap (λ p. with_row p row before) (here ∙ ap (λ k. place_for k keys) same)
    ∙ (ap (with_row (place_for (key_at places row) keys) row) so_far
    ∙ (sym (grouped-snoc (key_at places) (take i rows) row) ∙ ap (grouped (key_at places)) (sym (row_behind rows i row inside is)))))

-- ---- one group more, and a group that grows

pub begun : (place : ℕ) (row : Row) (groups : List (List Row)) → place ≡ length groups → with_row place row groups ≡ groups ++ (row ∷ []) ∷ []
begun place row [] e = refl
begun zero row (group ∷ groups) e = absurd (omega (arith, e))
begun (suc place) row (group ∷ groups) e = ap (λ gs. group ∷ gs) (begun place row groups (omega (arith, e)))

pub grown : (place : ℕ) (row : Row) (groups : List (List Row)) (group : List Row) → place < length groups → group ≡ get_or groups place [] ++ row ∷ [] → set groups place group ≡ with_row place row groups
grown place row [] group inside e = absurd (omega (arith, inside))
grown zero row (g ∷ groups) group inside e = ap (λ first. first ∷ groups) e
grown (suc place) row (g ∷ groups) group inside e = ap (λ gs. g ∷ gs) (grown place row groups group (omega (arith, inside)) e)

pub extended : {Z : Type 0} (place : ℕ) (row : Bor Row) (groups : List (Vec (Bor Row) Z)) (old new : Vec (Bor Row) Z) → place < length groups → old ≡ get_or groups place old → new.items ≡ old.items ++ row ∷ [] → rows_of (set groups place new) ≡ with_row place row.now (rows_of groups)
extended place row [] old new inside is items = absurd (omega (arith, inside))
extended zero row (g ∷ groups) old new inside is items =
    ap (λ first. first ∷ rows_of groups) (ap lent items ∙ (map-append (λ (r : Bor Row). r.now) old.items (row ∷ []) ∙ ap (λ (group : Vec (Bor Row) _). lent group.items ++ row.now ∷ []) is))
extended (suc place) row (g ∷ groups) old new inside is items =
    ap (λ rest. lent g.items ∷ rest) (extended place row groups old new (omega (arith, inside)) is items)
