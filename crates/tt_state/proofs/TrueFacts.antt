-- A history whose entries have true facts, longer by such an entry.
use Rattle.std.specs.Prelude.{List, [], length, map, true, unwrap_or, slice_get, ℕ, ◌++◌, ◌∷◌, ◌≡◌}
use Rattle.std.proofs.Common.{ap, arith, length-append, subst}
use Rattle.std.proofs.lemmas.List.Elements.{All-nil, All-push}
use Rattle.tt_value.specs.declared.value.Row.{Row}
use Rattle.tt_script.specs.declared.script.Script.{Script}
use Rattle.tt_history.specs.declared.history.Added.{Added}
use Rattle.tt_history.specs.declared.history.Entry.{Entry}
use Rattle.tt_plain.specs.asked.Carried.{Carried}
use Rattle.tt_plain.specs.declared.store.Plain.{Plain}
use Rattle.tt_plain.specs.history.Contents.{contents_of, parts_added}
use Rattle.tt_plain.specs.history.Replay.{store_after}
use Rattle.tt_plain.specs.history.TrueFacts.{HasTrueFacts, RemovesTouched, TakesPick, is_cut_at, is_entry_cut_at}

-- ---- what is so of each item of a list, after those before it

abbrev head_or : {A : Type 0} → A → List A → A
head_or other xs = unwrap_or (slice_get xs 0) other

abbrev tail_of : {A : Type 0} → List A → List A
tail_of [] = []
tail_of (x ∷ xs) = xs

pub each_longer : {A : Type 0} (P : List A → A → Type 0) (xs : List A) (last : A) → P xs last → ((before : List A) (x : A) (later : List A) → xs ≡ before ++ x ∷ later → P before x)
    → (before : List A) (x : A) (later : List A) → xs ++ last ∷ [] ≡ before ++ x ∷ later → P before x
each_longer P [] last here earlier [] x later e = subst (P []) (ap (head_or last) e) here
each_longer P [] last here earlier (b ∷ before) x later e = absurd (omega (arith, ap (λ xs. length xs) e, length-append before (x ∷ later)))
each_longer P (first ∷ xs) last here earlier [] x later e = earlier [] x xs (ap (λ y. y ∷ xs) (ap (head_or first) e))
each_longer P (first ∷ xs) last here earlier (b ∷ before) x later e =
    subst (λ y. P (y ∷ before) x) (ap (head_or first) e)
    (each_longer (λ front y. P (first ∷ front) y) xs last here (λ front y rest is. earlier (first ∷ front) y rest (ap (λ ys. first ∷ ys) is)) before x later (ap tail_of e))

-- ---- entries

-- an entry that is cut as it has to be, removes just what it touches, and takes what is picked
pub record IsTrueEntry (carried : Carried) (program : Script) (cap : ℕ) (contents : List (List Row)) (store : Plain) (entry : Entry) : Type 0 where
  pub cut : is_entry_cut_at cap entry ≡ true
  pub removed : RemovesTouched carried program contents store entry entry.kind
  pub picked : TakesPick contents store entry.kind

-- such is an entry that adds no part, removes just what it has to, which may be nothing, and takes what is picked
pub adds_no_part : (carried : Carried) (program : Script) (cap : ℕ) (contents : List (List Row)) (store : Plain) (entry : Entry) → parts_added entry.kind ≡ []
    → RemovesTouched carried program contents store entry entry.kind → TakesPick contents store entry.kind → IsTrueEntry carried program cap contents store entry
adds_no_part carried program cap contents store entry none removed picked = record {
  cut = ap (λ added. is_cut_at cap (map (λ (part : Added). part.rows) added)) none;
  removed = removed;
  picked = picked;
}

-- ---- histories

pub no_facts : (carried : Carried) (program : Script) (cap : ℕ) → HasTrueFacts carried program cap []
no_facts carried program cap = record {
  cut = All-nil (λ entry. is_entry_cut_at cap entry ≡ true);
  removed = λ before entry later e. absurd (omega (arith, ap (λ xs. length xs) e, length-append before (entry ∷ later)));
  picked = λ before entry later e. absurd (omega (arith, ap (λ xs. length xs) e, length-append before (entry ∷ later)));
}

pub facts_longer : (carried : Carried) (program : Script) (cap : ℕ) (history : List Entry) (entry : Entry) → HasTrueFacts carried program cap history
    → IsTrueEntry carried program cap (contents_of carried program history) (store_after carried program history) entry → HasTrueFacts carried program cap (history ++ entry ∷ [])
facts_longer carried program cap history entry facts here = record {
  cut = All-push (λ entry. is_entry_cut_at cap entry ≡ true) history entry facts.cut here.cut;
  removed = each_longer (λ before e. RemovesTouched carried program (contents_of carried program before) (store_after carried program before) e e.kind) history entry here.removed facts.removed;
  picked = each_longer (λ before e. TakesPick (contents_of carried program before) (store_after carried program before) e.kind) history entry here.picked facts.picked;
}
