-- Reading parts one after the other, as a loop does: what was read before, and what is still read.
use Rattle.std.proofs.Common.{◌≡◌, ℕ, suc, ◌-◌, ◌+◌, ◌≤◌, ◌<◌, List, [], ◌∷◌, ◌++◌, replicate, Option, Some, Result, Ok, Err, refl, sym, ap, ◌∙◌, append_assoc, arith}
use Rattle.std.specs.declared.cmp.Ordering.{Ordering}
use Rattle.std.proofs.lemmas.List.{append-nil}
use Rattle.tt_value.specs.columns.Reading.{◌>>=◌, values_at, run_at, runs_at, entry_at, entries_at}

module _ {V : Type 0} where
  abbrev pub with_front : List V → Result (List V × List ℕ) ℕ → Result (List V × List ℕ) ℕ
  with_front front read = read >>= λ x. Ok (front ++ x.0, x.1)

  -- values that are read behind others
  regroup : (front vs : List V) (read : Result (List V × List ℕ) ℕ) → with_front front (read >>= λ x. Ok (vs ++ x.0, x.1)) ≡ with_front (front ++ vs) read
  regroup front vs (Ok x) = ap (λ (ns : List V). Ok (ns, x.1)) (sym (append_assoc front vs x.0))
  regroup front vs (Err place) = refl

  ended_front : (front : List V) (bytes : List ℕ) → with_front front (Ok ([], bytes)) ≡ Ok (front, bytes)
  ended_front front bytes = ap (λ (ns : List V). Ok (ns, bytes)) (append-nil front)

module _ {V : Type 0} (read : ℕ → List ℕ → Result (V × List ℕ) ℕ) (cmp : V → V → Ordering) (end : ℕ) where
  pub values_more : (front : List V) (count i : ℕ) (bytes : List ℕ) (v : V) (after : List ℕ) (total : Result (List V × List ℕ) ℕ) → i < count → read end bytes ≡ Ok (v, after)
      → with_front front (values_at read cmp end (count - i) bytes) ≡ total → with_front (front ++ v ∷ []) (values_at read cmp end (count - (i + 1)) after) ≡ total
  unfolding values_at
  values_more front count i bytes v after total lt e so_far =
      let k : count - i ≡ suc (count - (i + 1)) = omega arith in
      let one : with_front front (values_at read cmp end (count - i) bytes) ≡ with_front (front ++ v ∷ []) (values_at read cmp end (count - (i + 1)) after) = rw (k, e) (regroup front (v ∷ []) (values_at read cmp end (count - (i + 1)) after)) in
      sym one ∙ so_far

  pub values_fault : (front : List V) (count i : ℕ) (bytes : List ℕ) (place : ℕ) (total : Result (List V × List ℕ) ℕ) → i < count → read end bytes ≡ Err place
      → with_front front (values_at read cmp end (count - i) bytes) ≡ total → total ≡ Err place
  unfolding values_at
  values_fault front count i bytes place total lt e so_far =
      let k : count - i ≡ suc (count - (i + 1)) = omega arith in
      let one : with_front front (values_at read cmp end (count - i) bytes) ≡ Err place = rw (k, e) refl in
      sym so_far ∙ one

  pub values_done : (front : List V) (count i : ℕ) (bytes : List ℕ) (total : Result (List V × List ℕ) ℕ) → count ≤ i
      → with_front front (values_at read cmp end (count - i) bytes) ≡ total → total ≡ Ok (front, bytes)
  unfolding values_at
  values_done front count i bytes total le so_far =
      let k : count - i ≡ 0 = omega arith in
      let one : with_front front (values_at read cmp end (count - i) bytes) ≡ Ok (front, bytes) = rw k (ended_front front bytes) in
      sym so_far ∙ one

  pub runs_more : (front : List V) (count i left : ℕ) (before : Option V) (bytes : List ℕ) (run : V × ℕ) (after : List ℕ) (total : Result (List V × List ℕ) ℕ) → i < count
      → run_at read cmp end (count - i - 1) left before bytes ≡ Ok (run, after)
      → with_front front (runs_at read cmp end (count - i) left before bytes) ≡ total
      → with_front (front ++ replicate run.1 run.0) (runs_at read cmp end (count - (i + 1)) (left - run.1) (Some run.0) after) ≡ total
  unfolding runs_at
  runs_more front count i left before bytes run after total lt e so_far =
      let k : count - i ≡ suc (count - (i + 1)) = omega arith in
      let j : count - i - 1 ≡ count - (i + 1) = omega arith in
      let h : run_at read cmp end (count - (i + 1)) left before bytes ≡ Ok (run, after) = rw j at e in
      let one : with_front front (runs_at read cmp end (count - i) left before bytes) ≡ with_front (front ++ replicate run.1 run.0) (runs_at read cmp end (count - (i + 1)) (left - run.1) (Some run.0) after)
      = rw (k, h) (regroup front (replicate run.1 run.0) (runs_at read cmp end (count - (i + 1)) (left - run.1) (Some run.0) after)) in
      sym one ∙ so_far

  pub runs_fault : (front : List V) (count i left : ℕ) (before : Option V) (bytes : List ℕ) (place : ℕ) (total : Result (List V × List ℕ) ℕ) → i < count
      → run_at read cmp end (count - i - 1) left before bytes ≡ Err place
      → with_front front (runs_at read cmp end (count - i) left before bytes) ≡ total → total ≡ Err place
  unfolding runs_at
  runs_fault front count i left before bytes place total lt e so_far =
      let k : count - i ≡ suc (count - (i + 1)) = omega arith in
      let j : count - i - 1 ≡ count - (i + 1) = omega arith in
      let h : run_at read cmp end (count - (i + 1)) left before bytes ≡ Err place = rw j at e in
      let one : with_front front (runs_at read cmp end (count - i) left before bytes) ≡ Err place = rw (k, h) refl in
      sym so_far ∙ one

  pub runs_done : (front : List V) (count i left : ℕ) (before : Option V) (bytes : List ℕ) (total : Result (List V × List ℕ) ℕ) → count ≤ i
      → with_front front (runs_at read cmp end (count - i) left before bytes) ≡ total → total ≡ Ok (front, bytes)
  unfolding runs_at
  runs_done front count i left before bytes total le so_far =
      let k : count - i ≡ 0 = omega arith in
      let one : with_front front (runs_at read cmp end (count - i) left before bytes) ≡ Ok (front, bytes) = rw k (ended_front front bytes) in
      sym so_far ∙ one

  pub entries_more : (front : List V) (count i : ℕ) (before : Option V) (bytes : List ℕ) (v : V) (after : List ℕ) (total : Result (List V × List ℕ) ℕ) → i < count
      → entry_at read cmp end before bytes ≡ Ok (v, after)
      → with_front front (entries_at read cmp end (count - i) before bytes) ≡ total
      → with_front (front ++ v ∷ []) (entries_at read cmp end (count - (i + 1)) (Some v) after) ≡ total
  unfolding entries_at
  entries_more front count i before bytes v after total lt e so_far =
      let k : count - i ≡ suc (count - (i + 1)) = omega arith in
      let one : with_front front (entries_at read cmp end (count - i) before bytes) ≡ with_front (front ++ v ∷ []) (entries_at read cmp end (count - (i + 1)) (Some v) after)
      = rw (k, e) (regroup front (v ∷ []) (entries_at read cmp end (count - (i + 1)) (Some v) after)) in
      sym one ∙ so_far

  pub entries_fault : (front : List V) (count i : ℕ) (before : Option V) (bytes : List ℕ) (place : ℕ) (total : Result (List V × List ℕ) ℕ) → i < count
      → entry_at read cmp end before bytes ≡ Err place
      → with_front front (entries_at read cmp end (count - i) before bytes) ≡ total → total ≡ Err place
  unfolding entries_at
  entries_fault front count i before bytes place total lt e so_far =
      let k : count - i ≡ suc (count - (i + 1)) = omega arith in
      let one : with_front front (entries_at read cmp end (count - i) before bytes) ≡ Err place = rw (k, e) refl in
      sym so_far ∙ one

  pub entries_done : (front : List V) (count i : ℕ) (before : Option V) (bytes : List ℕ) (total : Result (List V × List ℕ) ℕ) → count ≤ i
      → with_front front (entries_at read cmp end (count - i) before bytes) ≡ total → total ≡ Ok (front, bytes)
  unfolding entries_at
  entries_done front count i before bytes total le so_far =
      let k : count - i ≡ 0 = omega arith in
      let one : with_front front (entries_at read cmp end (count - i) before bytes) ≡ Ok (front, bytes) = rw k (ended_front front bytes) in
      sym so_far ∙ one
