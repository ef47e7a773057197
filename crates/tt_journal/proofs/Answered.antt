-- The session's first entry of some.
use Rattle.std.specs.Prelude.{Bool, List, drop, false, if◌then◌else◌, length, true, ℕ, ◌+◌, ◌<◌, ◌==◌, ◌≡◌, ◌≤◌}
use Rattle.std.proofs.Common.{ap, get_or, sym, ◌∙◌}
use Rattle.std.proofs.lemmas.List.{drop_all, drop_more}
use Rattle.tt_history.specs.declared.history.Entry.{Entry}
use Rattle.tt_journal.specs.Answered.{goes_on, is_of_session}

-- the entry at i, and those behind it
goes_at : (session index : ℕ) (entries : List Entry) (i : ℕ) (other : Entry) → i < length entries
    → goes_on session index (drop i entries) ≡ (if is_of_session session (get_or entries i other).actor then (get_or entries i other).index == index else goes_on session index (drop (i + 1) entries))
unfolding goes_on
goes_at session index entries i other below = ap (goes_on session index) (drop_more entries i other below)

pub goes_here : (session index : ℕ) (entries : List Entry) (i : ℕ) (other entry : Entry) → i < length entries → entry ≡ get_or entries i other → is_of_session session entry.actor ≡ true
    → goes_on session index (drop i entries) ≡ goes_on session index entries → (entry.index == index) ≡ goes_on session index entries
goes_here session index entries i other entry below is own stands =
    let here : goes_on session index (drop i entries) ≡ (if is_of_session session entry.actor then entry.index == index else goes_on session index (drop (i + 1) entries)) = rw is (goes_at session index entries i other below) in
    sym (here ∙ ap (λ (b : Bool). if b then entry.index == index else goes_on session index (drop (i + 1) entries)) own) ∙ stands

pub goes_later : (session index : ℕ) (entries : List Entry) (i : ℕ) (other entry : Entry) → i < length entries → entry ≡ get_or entries i other → is_of_session session entry.actor ≡ false
    → goes_on session index (drop i entries) ≡ goes_on session index entries → goes_on session index (drop (i + 1) entries) ≡ goes_on session index entries
goes_later session index entries i other entry below is apart stands =
    let here : goes_on session index (drop i entries) ≡ (if is_of_session session entry.actor then entry.index == index else goes_on session index (drop (i + 1) entries)) = rw is (goes_at session index entries i other below) in
    sym (here ∙ ap (λ (b : Bool). if b then entry.index == index else goes_on session index (drop (i + 1) entries)) apart) ∙ stands

pub goes_none : (session index : ℕ) (entries : List Entry) (i : ℕ) → length entries ≤ i → goes_on session index (drop i entries) ≡ goes_on session index entries → false ≡ goes_on session index entries
unfolding goes_on
goes_none session index entries i past stands = sym (ap (goes_on session index) (drop_all i entries past)) ∙ stands
