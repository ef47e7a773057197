-- The order by keys is total, what ties under it is the same row, and places that are known change nothing.
use Rattle.std.proofs.Common.{subst, ◌≡◌, true, false, List, [], ◌∷◌, map, if◌then◌else◌, Bool, refl, ap, ◌∙◌, sym}
use Rattle.std.specs.Cmp.{IsTotalOrder}
use Rattle.std.proofs.lemmas.Cmp.{then_total, on_total}
use Rattle.std.specs.Ordering.{ordering_then, ordering_reverse}
use Rattle.std.specs.declared.cmp.Ordering.{Ordering}
use Rattle.std.specs.declared.cmp.Ordering.TheVariants.{Less, Equal, Greater}
use Rattle.tt_value.specs.declared.value.Row.{Row}
use Rattle.tt_value.specs.values.Order.{TiesAreSame, value_cmp}
use Rattle.tt_value.specs.values.TotalOrder.{value_total, row_total}
use Rattle.tt_value.proofs.values.Ties.{row_same}
use Rattle.tt_value.specs.trees.Scope.{Scope}
use Rattle.tt_sql.specs.declared.query.Key.{Key}
use Rattle.tt_sql.specs.declared.query.Selection.{Selection}
use Rattle.tt_sql.specs.meaning.Queries.{answer_cmp, value_at}
use Rattle.tt_order.specs.declared.keys.PlacedKey.{PlacedKey}
use Rattle.tt_order.specs.PlacedKeys.{placed, by_key, by_keys}

equal_first : (first later : Ordering) → ordering_then first later ≡ Equal → later ≡ Equal
equal_first Less later e = absurd (cc)
equal_first Equal later e = e
equal_first Greater later e = absurd (cc)

twice : (o : Ordering) → o ≡ ordering_reverse (ordering_reverse o)
twice Less = refl
twice Equal = refl
twice Greater = refl

reverse_less : (o : Ordering) → ordering_reverse o ≡ Less → o ≡ Greater
reverse_less Less e = cc
reverse_less Equal e = cc
reverse_less Greater e = refl

reverse_equal : (o : Ordering) → ordering_reverse o ≡ Equal → o ≡ Equal
reverse_equal Less e = cc
reverse_equal Equal e = refl
reverse_equal Greater e = cc

reversed_total : (cmp : Row → Row → Ordering) → IsTotalOrder cmp → IsTotalOrder (λ a b. ordering_reverse (cmp a b))
reversed_total cmp total = record {
  antisymm = λ x y. ap ordering_reverse (total.antisymm x y);
  trans = λ x y z p q.
      let up : cmp z x ≡ Less = total.trans z y x (total.antisymm z y ∙ ap ordering_reverse (reverse_less (cmp y z) q)) (total.antisymm y x ∙ ap ordering_reverse (reverse_less (cmp x y) p)) in
      sym (total.antisymm z x) ∙ up;
  congr = λ x y z p. ap ordering_reverse (total.congr x y z (reverse_equal (cmp x y) p));
}

directed_total : (b : Bool) (cmp : Row → Row → Ordering) → IsTotalOrder cmp → IsTotalOrder (λ x y. if b then ordering_reverse (cmp x y) else cmp x y)
directed_total true cmp total = reversed_total cmp total
directed_total false cmp total = total

key_total : (key : PlacedKey) → IsTotalOrder (by_key key)
key_total key = directed_total key.descending (λ a b. value_cmp (value_at key.place a) (value_at key.place b)) (on_total (value_at key.place) value_total)

pub keys_total : (keys : List PlacedKey) → IsTotalOrder (by_keys keys)
keys_total [] = row_total
keys_total (key ∷ keys) = then_total (key_total key) (keys_total keys)

pub keys_ties : (keys : List PlacedKey) → TiesAreSame (by_keys keys)
keys_ties [] a b tie = row_same a b tie
keys_ties (key ∷ keys) a b tie = keys_ties keys a b (equal_first (by_key key a b) (by_keys keys a b) tie)

pub placed-cmp : (scope : Scope) (selection : Selection) (keys : List Key) → by_keys (map (placed scope selection) keys) ≡ answer_cmp scope selection keys
placed-cmp scope selection [] = refl
placed-cmp scope selection (key ∷ keys) =
    ap (λ (later : Row → Row → Ordering). λ a b. ordering_then (by_key (placed scope selection key) a b) (later a b)) (placed-cmp scope selection keys)

pub answers_total : (scope : Scope) (selection : Selection) (keys : List Key) → IsTotalOrder (answer_cmp scope selection keys)
answers_total scope selection keys = subst IsTotalOrder (placed-cmp scope selection keys) (keys_total (map (placed scope selection) keys))

pub answers_ties : (scope : Scope) (selection : Selection) (keys : List Key) → TiesAreSame (answer_cmp scope selection keys)
answers_ties scope selection keys = subst TiesAreSame (placed-cmp scope selection keys) (keys_ties (map (placed scope selection) keys))
