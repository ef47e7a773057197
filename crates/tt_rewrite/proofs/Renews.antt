-- Rows that are renewed, one after another.
use Rattle.std.proofs.Common.{◌≡◌, ◌∙◌, ℕ, ◌+◌, ◌<◌, ◌≤◌, Bool, true, false, List, [], ◌∷◌, ◌++◌, length, map, take, get_or, Option, Some, None, refl, ap, sym, subst, arith}
use Rattle.std.specs.Prelude.{Err, IfErr, IfOk, Ok, Result}
use Rattle.std.specs.List.{count_by, filter, flat_map}
use Rattle.std.specs.Option.{option_to_list}
use Rattle.std.proofs.lemmas.Grind.{flat_map-append}
use Rattle.std.proofs.lemmas.List.{append-nil, append_assoc, map-append, take_all}
use Rattle.std.proofs.lemmas.List.Elements.{filter-append}
use Rattle.std.proofs.lemmas.List.Sums.{length-filter}
use Rattle.tt_value.specs.declared.value.Row.{Row}
use Rattle.tt_value.specs.declared.value.Schema.{Schema}
use Rattle.tt_sql.specs.meaning.Changes.{first_missing}
use Rattle.tt_sql.specs.meaning.Queries.{all_some}
use Rattle.tt_partition.specs.Table.{Table}
use Rattle.tt_rewrite.specs.declared.renewing.Renewed.{Renewed}
use Rattle.tt_rewrite.specs.Left.{rows_of}
use Rattle.tt_rewrite.specs.Renewed.{AreRenewed, GoesOn, PartGoesOn, RenewsPart, RenewsRows, earlier, in_place, new_rows}
use Rattle.tt_rewrite.proofs.AllSome.{all_joined, lacks_before, lacks_behind}
use Rattle.tt_rewrite.proofs.FirstMissing.{earlier_assoc, earlier_none, missing_joined, none_missing_yet}
use Rattle.tt_rewrite.proofs.Parts.{adds_nothing, adds_touched, left_behind, next_part}

pub if_ok : {A E : Type 0} {P Q : A → Type 0} (result : Result A E) → ((x : A) → P x → Q x) → IfOk result P → IfOk result Q
if_ok (Ok x) weaker of = weaker x of
if_ok (Err e) weaker of = tt

pub if_err : {A E : Type 0} {P Q : E → Type 0} (result : Result A E) → ((e : E) → P e → Q e) → IfErr result P → IfErr result Q
if_err (Ok x) weaker of = tt
if_err (Err e) weaker of = weaker e of

module _ (taken : Row → Bool) (becomes : Row → Option Row) where
  -- the new rows of rows joined
  new_append : (xs ys : List Row) → new_rows taken becomes (xs ++ ys) ≡ all_some (map becomes (filter taken xs) ++ map becomes (filter taken ys))
  new_append xs ys = ap (λ rows. all_some (map becomes rows)) (filter-append taken xs ys) ∙ ap all_some (map-append becomes (filter taken xs) (filter taken ys))

  new_joined : (xs ys firsts seconds : List Row) → new_rows taken becomes xs ≡ Some firsts → new_rows taken becomes ys ≡ Some seconds → new_rows taken becomes (xs ++ ys) ≡ Some (firsts ++ seconds)
  new_joined xs ys firsts seconds a b = new_append xs ys ∙ all_joined (map becomes (filter taken xs)) (map becomes (filter taken ys)) firsts seconds a b

  pub out_before : (xs ys : List Row) → new_rows taken becomes xs ≡ None → new_rows taken becomes (xs ++ ys) ≡ None
  out_before xs ys out = new_append xs ys ∙ lacks_before (map becomes (filter taken xs)) (map becomes (filter taken ys)) out

  pub out_behind : (xs ys : List Row) → new_rows taken becomes ys ≡ None → new_rows taken becomes (xs ++ ys) ≡ None
  out_behind xs ys out = new_append xs ys ∙ lacks_behind (map becomes (filter taken xs)) (map becomes (filter taken ys)) out

  pub out_within : (xs : List Row) (row : Row) (ys : List Row) → new_rows taken becomes (row ∷ []) ≡ None → new_rows taken becomes (xs ++ row ∷ ys) ≡ None
  out_within xs row ys out = out_behind xs (row ∷ ys) (out_before (row ∷ []) ys out)

  module _ (schema : Schema) where
    -- ---- rows

    pub renews_nothing : (rows : List Row) (missing : Option ℕ) → RenewsRows taken becomes schema [] rows rows missing missing
    renews_nothing rows missing = record {
      given = [];
      all = refl;
      rows = sym (append-nil rows);
      missing = sym (ap (earlier missing) (none_missing_yet schema) ∙ earlier_none missing);
    }

    pub renews_one : (row new : Row) (old rows : List Row) (before after : Option ℕ) → becomes row ≡ Some new → rows ≡ old ++ new ∷ [] → after ≡ earlier before (first_missing schema (new ∷ [])) → RenewsRows (λ (r : Row). true) becomes schema (row ∷ []) old rows before after
    renews_one row new old rows before after is comes missing = record {
      given = new ∷ [];
      all = ap (λ o. all_some (o ∷ [])) is;
      rows = comes ∙ ap (λ o. old ++ (option_to_list o ++ [])) (sym is);
      missing = missing;
    }

    pub keeps_one : (row : Row) (old rows : List Row) (missing : Option ℕ) → rows ≡ old ++ row ∷ [] → RenewsRows (λ (r : Row). false) becomes schema (row ∷ []) old rows missing missing
    keeps_one row old rows missing comes = record {
      given = [];
      all = refl;
      rows = comes;
      missing = sym (ap (earlier missing) (none_missing_yet schema) ∙ earlier_none missing);
    }

    pub renews_more : (xs ys first second third : List Row) (a b c : Option ℕ) → RenewsRows taken becomes schema xs first second a b → RenewsRows taken becomes schema ys second third b c → RenewsRows taken becomes schema (xs ++ ys) first third a c
    renews_more xs ys first second third a b c one two = record {
      given = one.given ++ two.given;
      all = new_joined xs ys one.given two.given one.all two.all;
      rows =
          two.rows
          ∙ ap (λ rows. rows ++ flat_map (in_place taken becomes) ys) one.rows
          ∙ append_assoc first (flat_map (in_place taken becomes) xs) (flat_map (in_place taken becomes) ys)
          ∙ ap (λ rows. first ++ rows) (sym (flat_map-append (in_place taken becomes) xs ys));
      missing =
          two.missing
          ∙ ap (λ m. earlier m (first_missing schema two.given)) one.missing
          ∙ earlier_assoc a (first_missing schema one.given) (first_missing schema two.given)
          ∙ ap (earlier a) (sym (missing_joined schema one.given two.given));
    }

    -- ---- parts

    none_filtered : (rows : List Row) → count_by taken rows ≡ 0 → filter taken rows ≡ []
    none_filtered rows none = empty (filter taken rows) (length-filter taken rows ∙ none)
      where
        empty : (xs : List Row) → length xs ≡ 0 → xs ≡ []
        empty [] is = refl
        empty (x ∷ xs) is = absurd (omega (arith, is))

    pub renews_untouched : (part : ℕ × Table) (renewed : Renewed) → count_by taken part.1.rows ≡ 0 → RenewsPart taken becomes schema part renewed renewed
    renews_untouched part renewed none = record {
      given = [];
      all = ap (λ rows. all_some (map becomes rows)) (none_filtered part.1.rows none);
      left = adds_nothing taken (in_place taken becomes) part renewed.left none;
      missing = sym (ap (earlier renewed.missing) (none_missing_yet schema) ∙ earlier_none renewed.missing);
    }

    pub part_goes : (part : ℕ × Table) (old new : Renewed) (within : Bool) → 0 < count_by taken part.1.rows → new.left.gone ≡ old.left.gone ++ part.0 ∷ [] → new.left.count ≡ old.left.count + count_by taken part.1.rows → GoesOn taken becomes schema part.1.rows old.left.rows new.left.rows old.missing new.missing within → PartGoesOn taken becomes schema part old new within
    part_goes part old new true some gone count goes = record {
      given = goes.given;
      all = goes.all;
      left = adds_touched taken (in_place taken becomes) part old.left new.left some gone goes.rows count;
      missing = goes.missing;
    }
    part_goes part old new false some gone count goes = goes

    abbrev with_part : List (ℕ × Table) → ℕ × Table → List (ℕ × Table)
    with_part parts part = parts ++ part ∷ []

    rows_with : (parts : List (ℕ × Table)) (part : ℕ × Table) → rows_of (with_part parts part) ≡ rows_of parts ++ part.1.rows
    rows_with parts part =
        flat_map-append (λ (p : ℕ × Table). p.1.rows) parts (part ∷ []) ∙ ap (λ rows. rows_of parts ++ rows) (append-nil part.1.rows)

    pub renewed_nothing : (renewed : Renewed) → renewed.left.gone ≡ [] → renewed.left.rows ≡ [] → renewed.left.count ≡ 0 → renewed.missing ≡ None → AreRenewed taken becomes schema [] renewed
    renewed_nothing renewed gone rows count missing = record {
      given = [];
      all = refl;
      left = record { gone = gone; rows = rows; count = count };
      missing = missing ∙ sym (none_missing_yet schema);
    }

    pub renewed_behind : (parts : List (ℕ × Table)) (part : ℕ × Table) (old new : Renewed) → AreRenewed taken becomes schema parts old → RenewsPart taken becomes schema part old new → AreRenewed taken becomes schema (with_part parts part) new
    renewed_behind parts part old new are adds = record {
      given = are.given ++ adds.given;
      all = ap (new_rows taken becomes) (rows_with parts part) ∙ new_joined (rows_of parts) part.1.rows are.given adds.given are.all adds.all;
      left = left_behind taken (in_place taken becomes) parts part old.left new.left are.left adds.left;
      missing =
          adds.missing
          ∙ ap (λ m. earlier m (first_missing schema adds.given)) are.missing
          ∙ sym (missing_joined schema are.given adds.given);
    }

    pub renewed_next : (parts : List (ℕ × Table)) (i : ℕ) (part : ℕ × Table) (old new : Renewed) → i < length parts → part ≡ get_or parts i part → AreRenewed taken becomes schema (take i parts) old → RenewsPart taken becomes schema part old new → AreRenewed taken becomes schema (take (i + 1) parts) new
    renewed_next parts i part old new below is are adds = rw (next_part taken (in_place taken becomes) parts i part below is) (renewed_behind (take i parts) part old new are adds)

    pub renewed_whole : (parts : List (ℕ × Table)) (i : ℕ) (renewed : Renewed) → length parts ≤ i → AreRenewed taken becomes schema (take i parts) renewed → AreRenewed taken becomes schema parts renewed
    renewed_whole parts i renewed past are = subst (λ ps. AreRenewed taken becomes schema ps renewed) (take_all i parts past) are
