-- What each change gives as the rows of its parts is a cut: the parts that are gone have the rows that it takes, and no other has one.
use Rattle.std.specs.List.{AllZip, list_any}
use Rattle.std.specs.Prelude.{Bool, List, None, Option, Some, [], false, filter, flat_map, length, map, option_and_then, option_map, option_to_list, refl, true, ℕ, ◌&&◌, ◌++◌, ◌+◌, ◌==◌, ◌∷◌, ◌≡◌, ◌≢◌}
use Rattle.std.proofs.Common.{ap, arith, cond, length-append, subst, sym, ◌∙◌}
use Rattle.std.proofs.lemmas.Bool.{eq-eqb, false≢true}
use Rattle.std.proofs.lemmas.List.Sums.{sum_by-cons}
use Rattle.std.proofs.lemmas.Option.{none-some, same_Some}
use Rattle.tt_history.specs.declared.history.Added.{Added}
use Rattle.tt_plain.proofs.law.Lists.{every_kept}
use Rattle.tt_plain.specs.declared.tally.Tally.{Tally}
use Rattle.tt_plain.specs.declared.tally.TallyPin.{TallyPin}
use Rattle.tt_plain.specs.history.Contents.{rows_numbered, rows_of_parts}
use Rattle.tt_plain.specs.history.TrueFacts.{parts_pinned}
use Rattle.tt_plain.specs.law.Bag.{PinForms, pins_of}
use Rattle.tt_plain.specs.law.Lists.{Every}
use Rattle.tt_plain.specs.tally.Parts.{part_numbered, rows_in_added, rows_in_parts, rows_of_part}
use Rattle.tt_sql.specs.meaning.Queries.{all_some}
use Rattle.tt_value.proofs.values.Bags.{copies_of-append, copies_of-cons, one_if, same_itself}
use Rattle.tt_value.specs.declared.value.Row.{Row}
use Rattle.tt_value.specs.values.Bags.{copies_of}
use Rattle.tt_plain_laws.proofs.parts.Added.{total_added}
use Rattle.tt_plain_laws.proofs.parts.Backed.{Measured}
use Rattle.tt_plain_laws.proofs.parts.Balance.{Hold, hold_from}
use Rattle.tt_plain_laws.proofs.parts.Contents.{Known}
use Rattle.tt_plain_laws.proofs.entry.Ends.{IsCut}
use Rattle.tt_plain_laws.proofs.parts.Numbers.{copies_in, has_itself, has_more}
use Rattle.tt_plain_laws.proofs.parts.Sums.{copies-replaced, is_touched, length-replaced, replaced, same_flat, same_flat_length, same_length, same_taken, touched_hold}

-- ---- changes that add rows alone

pub nil_of : {A : Type 0} (xs : List A) → (xs ≢ [] → ⊥) → xs ≡ []
nil_of [] never = refl
nil_of (x ∷ xs) never = absurd (never (λ e. cc))

pub added_cut : (contents : List (List Row)) (tally : Tally) (gone : List ℕ) (removed brought : List Row) (added : List Added) → gone ≡ [] → removed ≡ []
    → rows_in_added added + length removed ≡ rows_in_parts tally gone + length brought → IsCut contents gone removed brought brought added
added_cut contents tally gone removed brought added none nothing sums = record {
  all = total_added added ∙ omega (arith, sums, ap (λ (ns : List ℕ). rows_in_parts tally ns) none, ap (λ (rs : List Row). length rs) nothing);
  swap = λ row. omega (arith, ap (copies_of row) nothing, ap (copies_in contents row) none);
  touched = λ some. absurd (some none);
}

-- ---- changes that replace rows

pub length-rows : (contents : List (List Row)) (tally : Tally) → Measured contents tally → (numbers : List ℕ) → Known (length contents) numbers → rows_in_parts tally numbers ≡ length (rows_of_parts contents numbers)
length-rows contents tally measured [] known = refl
length-rows contents tally measured (n ∷ numbers) known =
    let here = known n (has_itself n numbers) in
    omega (
      arith,
      sum_by-cons (λ number. rows_of_part (part_numbered tally number)) n numbers,
      measured n here.0 here.1,
      length-append (rows_numbered contents n) (rows_of_parts contents numbers),
      length-rows contents tally measured numbers (λ k e. known k (has_more n numbers k e)),
    )

no_copy : (test : Row → Bool) (rows : List Row) → ((row : Row) → copies_of row (filter test rows) ≡ 0) → list_any test rows ≡ false
no_copy test [] none = refl
no_copy test (r ∷ rows) none = by (test r) refl none (λ f. no_copy test rows f)
  where
    by : (b : Bool) → test r ≡ b → ((row : Row) → copies_of row (filter test (r ∷ rows)) ≡ 0) → (((row : Row) → copies_of row (filter test rows) ≡ 0) → list_any test rows ≡ false) → list_any test (r ∷ rows) ≡ false
    by true e f behind =
        let zero : copies_of r (r ∷ filter test rows) ≡ 0 = sym (ap (λ (b : Bool). copies_of r (cond b (r ∷ filter test rows) (filter test rows))) e) ∙ f r in
        absurd (omega (arith, zero, copies_of-cons r r (filter test rows), ap one_if (same_itself r)))
    by false e f behind = rw e (behind (λ row. sym (ap (λ (b : Bool). copies_of row (cond b (r ∷ filter test rows) (filter test rows))) e) ∙ f row))

filter-append : (test : Row → Bool) (xs ys : List Row) → filter test (xs ++ ys) ≡ filter test xs ++ filter test ys
filter-append test [] ys = refl
filter-append test (x ∷ xs) ys = by (test x) (filter-append test xs ys)
  where
    by : (b : Bool) → filter test (xs ++ ys) ≡ filter test xs ++ filter test ys → cond b (x ∷ filter test (xs ++ ys)) (filter test (xs ++ ys)) ≡ cond b (x ∷ filter test xs) (filter test xs) ++ filter test ys
    by true e = ap (λ zs. x ∷ zs) e
    by false e = e

-- a touched part has a row that is taken
some_taken : (contents : List (List Row)) (test : Row → Bool) (gone : List ℕ) → Every (λ n. is_touched contents test n ≡ true) gone → gone ≢ [] → ((row : Row) → copies_of row (filter test (rows_of_parts contents gone)) ≡ 0) → ⊥
some_taken contents test [] all some none = some refl
some_taken contents test (n ∷ gone) all some none =
    false≢true (sym (no_copy test (rows_numbered contents n) (λ row.
    omega (
      arith,
      none row,
      ap (copies_of row) (filter-append test (rows_numbered contents n) (rows_of_parts contents gone)),
      copies_of-append row (filter test (rows_numbered contents n)) (filter test (rows_of_parts contents gone)),
    ))) ∙ all.0)

module _ (contents : List (List Row)) (tally : Tally) (test : Row → Bool) (others : Row → List Row) (pinned gone : List ℕ) (seen removed brought : List Row) (added : List Added)
    (measured : Measured contents tally) (known : Known (length contents) gone) (hold : Hold contents pinned seen) (removed_is : removed ≡ filter test seen) (brought_is : brought ≡ flat_map others removed)
    (gone_is : gone ≡ filter (is_touched contents test) pinned) (sums : rows_in_added added + length removed ≡ rows_in_parts tally gone + length brought) where
  abbrev there : List Row
  there = rows_of_parts contents gone

  same_removed : (row : Row) → copies_of row (filter test there) ≡ copies_of row removed
  same_removed row =
      same_taken test there seen (λ r e. ap (copies_in contents r) gone_is ∙ touched_hold contents test r pinned e ∙ hold r) row ∙ sym (ap (copies_of row) removed_is)

  pub replaced_cut : IsCut contents gone removed brought (flat_map (replaced test others) there) added
  replaced_cut = record {
    all = total_added added ∙ omega (
      arith,
      sums,
      length-rows contents tally measured gone known,
      length-replaced test others there,
      same_length (filter test there) removed same_removed,
      same_flat_length others (filter test there) removed same_removed,
      ap (λ (rs : List Row). length rs) brought_is,
    );
    swap = λ row. omega (
      arith,
      copies-replaced test others there row,
      same_removed row,
      same_flat others (filter test there) removed same_removed row,
      ap (copies_of row) brought_is,
    );
    touched = λ some nothing.
        some_taken contents test gone (subst (Every (λ n. is_touched contents test n ≡ true)) (sym gone_is) (every_kept (is_touched contents test) pinned)) some (λ row. same_removed row ∙ ap (copies_of row) nothing);
  }

-- ---- what is pinned of the target

-- the pins of a session that has seen one table are one pin
pub one_pinned : (contents : List (List Row)) (tally : Tally) (session table : ℕ) (rows : List Row) → AllZip (PinForms contents) ((table, rows) ∷ []) (pins_of tally session) → Hold contents (parts_pinned tally session table) rows
one_pinned contents tally session table rows all row = ap (λ (pins : List TallyPin). copies_in contents row (flat_map (λ (pin : TallyPin). pin.parts) pins)) (filter_both tally.pins) ∙ by (pins_of tally session) all
  where
    filter_both : (pins : List TallyPin) → filter (λ (pin : TallyPin). pin.session == session && pin.table == table) pins ≡ filter (λ (pin : TallyPin). pin.table == table) (filter (λ (pin : TallyPin). pin.session == session) pins)
    filter_both [] = refl
    filter_both (pin ∷ pins) = keep (pin.session == session) (filter_both pins)
      where
        keep : (b : Bool) → filter (λ (p : TallyPin). p.session == session && p.table == table) pins ≡ filter (λ (p : TallyPin). p.table == table) (filter (λ (p : TallyPin). p.session == session) pins)
            → cond (b && (pin.table == table)) (pin ∷ filter (λ (p : TallyPin). p.session == session && p.table == table) pins) (filter (λ (p : TallyPin). p.session == session && p.table == table) pins)
            ≡ filter (λ (p : TallyPin). p.table == table) (cond b (pin ∷ filter (λ (p : TallyPin). p.session == session) pins) (filter (λ (p : TallyPin). p.session == session) pins))
        keep true e = ap (λ ps. cond (pin.table == table) (pin ∷ ps) ps) e
        keep false e = e

    append_nil : (ns : List ℕ) → ns ++ [] ≡ ns
    append_nil [] = refl
    append_nil (n ∷ ns) = ap (λ ms. n ∷ ms) (append_nil ns)

    by : (pins : List TallyPin) → AllZip (PinForms contents) ((table, rows) ∷ []) pins → copies_in contents row (flat_map (λ (pin : TallyPin). pin.parts) (filter (λ (pin : TallyPin). pin.table == table) pins)) ≡ copies_of row rows
    by [] zip = absurd zip
    by (pin ∷ []) zip = rw (eq-eqb pin.table table zip.0.0) (ap (copies_in contents row) (append_nil pin.parts) ∙ hold_from contents pin.parts rows zip.0.1 row)
    by (pin ∷ p ∷ pins) zip = absurd zip.1

-- ---- an UPDATE brings the new rows of those that it removes

pub some_all : (f : Row → Option Row) (xs ys : List Row) → all_some (map f xs) ≡ Some ys → ys ≡ flat_map (λ x. option_to_list (f x)) xs
some_all f [] ys e = sym (same_Some [] ys e)
some_all f (x ∷ xs) ys e = by (f x) refl (all_some (map f xs)) refl (λ zs g. some_all f xs zs g) e
  where
    by : (o : Option Row) → f x ≡ o → (rest : Option (List Row)) → all_some (map f xs) ≡ rest → ((zs : List Row) → all_some (map f xs) ≡ Some zs → zs ≡ flat_map (λ y. option_to_list (f y)) xs)
        → option_and_then (λ first. option_map (λ others. first ∷ others) rest) o ≡ Some ys → ys ≡ option_to_list (f x) ++ flat_map (λ y. option_to_list (f y)) xs
    by None g rest h behind k = absurd (none-some ys k)
    by (Some y) g None h behind k = absurd (none-some ys k)
    by (Some y) g (Some zs) h behind k = sym (same_Some (y ∷ zs) ys k) ∙ ap (λ rs. y ∷ rs) (behind zs h) ∙ ap (λ o. option_to_list o ++ flat_map (λ z. option_to_list (f z)) xs) (sym g)
