-- What the changes of names mean: the live table and the drops of each name afterwards.
use Rattle.std.proofs.Common.{◌≡◌, ℕ, ◌<◌, Bool, true, false, cond, List, [], ◌∷◌, map, length, get_or, Option, None, Some, Contains, unwrap_or, refl, sym, ap, ◌∙◌, arith, subst}
use Rattle.std.specs.FinMap as finite
use Rattle.std.specs.FinMap.{get-insert, get-remove}
use Rattle.std.specs.Str.{bytes_eq}
use Rattle.std.specs.Cmp.Lexicographic.{nat_list_cmp_total}
use Rattle.std.proofs.lemmas.List.{get_or-map, length-map}
use Rattle.tt_names.specs.ByName.{ByName, Drops, drops_of, put_drops, without_table}
use Rattle.tt_names.specs.Registry.{Registry, live_of, dropped_of, IsDropped}
use Rattle.tt_names.specs.Changes.{bound, freed, with_drop, without_drop}
use Rattle.tt_names.proofs.Seen.{same_name}

pub live_of-bound : (name q : List ℕ) (table : ℕ) (names : Registry)
    → live_of q (bound name table names) ≡ cond (bytes_eq name q) (Some table) (live_of q names)
live_of-bound name q table names =
    get-insert nat_list_cmp_total names.live name table q
    ∙ ap (λ t. cond t (Some table) (finite.get names.live q)) (same_name name q)

pub live_of-freed : (name q : List ℕ) (names : Registry) → live_of q (freed name names) ≡ cond (bytes_eq name q) None (live_of q names)
live_of-freed name q names =
    get-remove nat_list_cmp_total names.live name q ∙ ap (λ t. cond t None (finite.get names.live q)) (same_name name q)

cond_or : (b : Bool) (drops : Drops) (o : Option Drops) → unwrap_or (cond b (Some drops) o) [] ≡ cond b drops (unwrap_or o [])
cond_or true drops o = refl
cond_or false drops o = refl

cond_or_none : (b : Bool) (o : Option Drops) → unwrap_or (cond b None o) [] ≡ cond b [] (unwrap_or o [])
cond_or_none true o = refl
cond_or_none false o = refl

drops_of-put : (name q : List ℕ) (drops : Drops) (all : ByName Drops) → drops_of q (put_drops name drops all) ≡ cond (bytes_eq name q) drops (drops_of q all)
drops_of-put name q [] all =
    ap (λ o. unwrap_or o []) (get-remove nat_list_cmp_total all name q) ∙ cond_or_none _ (finite.get all q)
    ∙ ap (λ t. cond t [] (drops_of q all)) (same_name name q)
drops_of-put name q (drop ∷ drops) all =
    ap (λ o. unwrap_or o []) (get-insert nat_list_cmp_total all name (drop ∷ drops) q) ∙ cond_or _ (drop ∷ drops) (finite.get all q)
    ∙ ap (λ t. cond t (drop ∷ drops) (drops_of q all)) (same_name name q)

pub dropped_of-with_drop : (name q : List ℕ) (table moment : ℕ) (names : Registry)
    → dropped_of q (with_drop name table moment names) ≡ cond (bytes_eq name q) ((table, moment) ∷ dropped_of name names) (dropped_of q names)
dropped_of-with_drop name q table moment names = drops_of-put name q ((table, moment) ∷ dropped_of name names) names.drops

pub dropped_of-without_drop : (name q : List ℕ) (table : ℕ) (names : Registry)
    → dropped_of q (without_drop name table names) ≡ cond (bytes_eq name q) (without_table table (dropped_of name names)) (dropped_of q names)
dropped_of-without_drop name q table names = drops_of-put name q (without_table table (dropped_of name names)) names.drops

-- each table of the list of dropped ones was dropped
pub IsDropped-at : (name : List ℕ) (names : Registry) (i : ℕ) (d : ℕ × ℕ) → i < length (dropped_of name names)
    → IsDropped name (get_or (dropped_of name names) i d).0 names
IsDropped-at name names i d h =
    let drops = dropped_of name names in
    let table : ℕ × ℕ → ℕ = λ drop. drop.0 in
    (i, subst (λ n. i < n) (sym (length-map drops table)) h, get_or-map table drops i d (table (get_or drops i d)) h)
