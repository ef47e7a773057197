-- What claims say of the spans of which they were made.
use Rattle.std.proofs.Common.{◌≡◌, ℕ, zero, suc, ◌%◌, ◌<◌, Bool, true, false, not, ◌==◌, ◌&&◌, ◌||◌, List, [], ◌∷◌, ◌++◌, Option, Some, None, is_none, cond, length, slice_index_or, refl, ap, sym, ◌∙◌, inl, inr, arith}
use Rattle.std.specs.List.{list_any}
use Rattle.std.proofs.lemmas.Bool.{cases_eq}
use Rattle.std.proofs.lemmas.List.Folds.{list_any-append}
use Rattle.tt_retain.specs.declared.stage.Stage.{Stage}
use Rattle.tt_retain.specs.declared.stage.Stage.TheVariants as stage
use Rattle.tt_retain.specs.Retention.{Retention}
use Rattle.tt_retain.specs.Horizon.{stage_of}
use Rattle.tt_layout.specs.declared.hold.Hold.{Hold}
use Rattle.tt_layout.specs.declared.hold.Hold.TheVariants as hold
use Rattle.tt_layout.specs.declared.facts.TableFacts.{TableFacts}
use Rattle.tt_layout.specs.declared.piece.Piece.{Piece}
use Rattle.tt_layout.specs.declared.piece.Piece.TheVariants.{Full, Change}
use Rattle.tt_layout.specs.Numbers.{has, without}
use Rattle.tt_layout.specs.Chain.{piece_at, pieces_of, current_of, numbers_at, begun_at}
use Rattle.tt_layout.specs.Spans.{spans_of}
use Rattle.tt_layout.specs.Holds.{is_time_travel, is_fail_safe, is_past, is_active, is_held, hold_of}
use Rattle.tt_layout.specs.Owners.{is_active_hold, is_safe_hold}
use Rattle.tt_layout.proofs.Members.{has-without}
use Rattle.tt_layout.proofs.ChainLaws.{full_piece_at, change_piece_at, piece_here, begun_here, before_at, before_is}
use Rattle.tt_sweep.specs.declared.claim.Claim.{Claim}
use Rattle.tt_sweep.specs.Claims.{numbers_before, hold_in, span_hold, is_time_travel_hold, claimed, claims_with, claimed_numbers, AreClaims}

-- ---- numbers claimed in one way

claimed-with : (test : Hold → Bool) (h : Hold) (ns : List ℕ) (part : ℕ) → claimed test (claims_with h ns) part ≡ (has ns part && test h)
claimed-with test h [] part = refl
claimed-with test h (n ∷ ns) part =
    ap (λ (b : Bool). ((n == part) && test h) || b) (claimed-with test h ns part) ∙ both (n == part) (has ns part) (test h)
  where
    both : (a b t : Bool) → ((a && t) || (b && t)) ≡ ((a || b) && t)
    both true true true = refl
    both true true false = refl
    both true false true = refl
    both true false false = refl
    both false b t = refl

pub claimed-more : (test : Hold → Bool) (old : List Claim) (h : Hold) (ns : List ℕ) (part : ℕ)
    → claimed test (old ++ claims_with h ns) part ≡ (claimed test old part || (has ns part && test h))
claimed-more test old h ns part =
    list_any-append (λ (claim : Claim). (claim.part == part) && test claim.hold) old (claims_with h ns)
    ∙ ap (λ (b : Bool). claimed test old part || b) (claimed-with test h ns part)

pub numbers-claimed : (claims : List Claim) (part : ℕ) → has (claimed_numbers claims) part ≡ claimed (λ _. true) claims part
numbers-claimed [] part = refl
numbers-claimed (c ∷ cs) part = ap (λ (b : Bool). (c.part == part) || b) (numbers-claimed cs part) ∙ ap (λ (b : Bool). b || claimed (λ _. true) cs part) (sure (c.part == part))
  where
    sure : (a : Bool) → a ≡ (a && true)
    sure true = refl
    sure false = refl

-- ---- the pieces

pub full_numbers : (p : Piece) (place : ℕ) (before ns ms : List ℕ) → p ≡ piece_at place before ns → p ≡ Full ms → ms ≡ ns
full_numbers p place before ns ms e f =
    elim (cases_eq (place % 64) 0) [
      | inl full ↦ let is : p ≡ Full ns = e ∙ full_piece_at place before ns full in cc
      | inr change ↦ let is : p ≡ Change (without ns before) (without before ns) = e ∙ change_piece_at place before ns change in absurd (cc)
    ]

pub added_numbers : (p : Piece) (place : ℕ) (before ns gone added : List ℕ) → p ≡ piece_at place before ns → p ≡ Change gone added → added ≡ without before ns
added_numbers p place before ns gone added e f =
    elim (cases_eq (place % 64) 0) [
      | inl full ↦ let is : p ≡ Full ns = e ∙ full_piece_at place before ns full in absurd (cc)
      | inr change ↦ let is : p ≡ Change (without ns before) (without before ns) = e ∙ change_piece_at place before ns change in cc
    ]

pub not_first : (p : Piece) (place : ℕ) (before ns gone added : List ℕ) → p ≡ piece_at place before ns → p ≡ Change gone added → 0 < place
not_first p zero before ns gone added e f = let is : p ≡ Full ns = e in absurd (cc)
not_first p (suc place) before ns gone added e f = omega arith

pub piece_of : (ls : List (ℕ × List ℕ)) (ps : List (ℕ × Piece)) (place : ℕ) (x : ℕ × Piece) → ps ≡ pieces_of ls → place < length ls
    → x ≡ slice_index_or ps place x → x.1 ≡ piece_at place (numbers_before ls place) (numbers_at ls place)
piece_of ls ps place x e h is =
    ap (λ (p : ℕ × Piece). p.1) (is ∙ ap (λ (qs : List (ℕ × Piece)). slice_index_or qs place x) e)
    ∙ piece_here 0 [] ls place x h
    ∙ ap (λ (k : ℕ). piece_at k (before_at [] ls place) (numbers_at ls place)) (omega arith)
    ∙ ap (λ (ns : List ℕ). piece_at place ns (numbers_at ls place)) (in_front place h)
  where
    in_front : (place : ℕ) → place < length ls → before_at [] ls place ≡ numbers_before ls place
    in_front zero h = refl
    in_front (suc k) h = before_is [] ls k (omega arith)

pub begun_of : (ls : List (ℕ × List ℕ)) (ps : List (ℕ × Piece)) (place : ℕ) (x : ℕ × Piece) → ps ≡ pieces_of ls → place < length ls
    → x ≡ slice_index_or ps place x → x.0 ≡ begun_at ls place
begun_of ls ps place x e h is =
    ap (λ (p : ℕ × Piece). p.0) (is ∙ ap (λ (qs : List (ℕ × Piece)). slice_index_or qs place x) e) ∙ begun_here 0 [] ls place x h

-- where what was there is claimed already, what was added is all that is new
pub claimed-added : (old : Bool) (before ns : List ℕ) (part : ℕ) (t : Bool) → (t ≡ true → has before part ≡ true → old ≡ true)
    → (old || (has (without before ns) part && t)) ≡ (old || (has ns part && t))
claimed-added old before ns part t covers =
    ap (λ (b : Bool). old || (b && t)) (has-without before ns part) ∙ cover old (has ns part) (has before part) t covers
  where
    cover : (o a b t : Bool) → (t ≡ true → b ≡ true → o ≡ true) → (o || ((a && not b) && t)) ≡ (o || (a && t))
    cover true a b t h = refl
    cover false true true true h = h refl refl
    cover false true true false h = refl
    cover false true false t h = refl
    cover false false b t h = refl

-- ---- the spans

-- whether a span holds a part in a way that passes a test
abbrev pub in_span : (Hold → Bool) → ℕ → Retention → ℕ → List ℕ × Option ℕ → Bool
in_span test at table part span =
    has span.0 part && (is_held (span_hold at table span.1) && test (span_hold at table span.1))

pub list_any-same : {X : Type 0} (p q : X → Bool) (xs : List X) → ((x : X) → p x ≡ q x) → list_any p xs ≡ list_any q xs
list_any-same p q [] same = refl
list_any-same p q (x ∷ xs) same = ap (λ (b : Bool). b || list_any p xs) (same x) ∙ ap (λ (b : Bool). q x || b) (list_any-same p q xs same)

list_any-or : {X : Type 0} (p q : X → Bool) (xs : List X) → list_any (λ x. p x || q x) xs ≡ (list_any p xs || list_any q xs)
list_any-or p q [] = refl
list_any-or p q (x ∷ xs) = ap (λ (b : Bool). (p x || q x) || b) (list_any-or p q xs) ∙ regroup (p x) (q x) (list_any p xs) (list_any q xs)
  where
    regroup : (a b c d : Bool) → ((a || b) || (c || d)) ≡ ((a || c) || (b || d))
    regroup true b c d = refl
    regroup false true true d = refl
    regroup false true false d = refl
    regroup false false true d = refl
    regroup false false false d = refl

none_and : (a : Bool) → (a && false) ≡ false
none_and true = refl
none_and false = refl

-- only the last span of a live table has not ended, and it is active
pub active_spans : (at : ℕ) (table : Retention) (part : ℕ) (ls : List (ℕ × List ℕ)) (dropped : Option ℕ)
    → list_any (in_span is_active_hold at table part) (spans_of ls dropped) ≡ (is_none dropped && has (current_of ls) part)
active_spans at table part [] None = refl
active_spans at table part [] (Some d) = refl
active_spans at table part (l ∷ []) None = sure (has l.1 part)
  where
    sure : (a : Bool) → ((a && (true && true)) || false) ≡ (true && a)
    sure true = refl
    sure false = refl
active_spans at table part (l ∷ []) (Some d) = ended (stage_of table d at) (has l.1 part)
  where
    ended : (st : Stage) (a : Bool) → ((a && (is_held (hold_in st) && is_active_hold (hold_in st))) || false) ≡ false
    ended stage.TimeTravel true = refl
    ended stage.FailSafe true = refl
    ended stage.Gone true = refl
    ended st false = refl
active_spans at table part (l ∷ m ∷ ms) dropped =
    ap (λ (b : Bool). b || list_any (in_span is_active_hold at table part) (spans_of (m ∷ ms) dropped)) (ended (stage_of table m.0 at) (has l.1 part))
    ∙ active_spans at table part (m ∷ ms) dropped
  where
    ended : (st : Stage) (a : Bool) → (a && (is_held (hold_in st) && is_active_hold (hold_in st))) ≡ false
    ended stage.TimeTravel true = refl
    ended stage.FailSafe true = refl
    ended stage.Gone true = refl
    ended st false = refl

abbrev ended_so : (Stage → Bool) → ℕ → Retention → Option ℕ → Bool
ended_so test at table None = false
ended_so test at table (Some ended) = test (stage_of table ended at)

pub travel_spans : (at : ℕ) (table : TableFacts) (part : ℕ)
    → list_any (in_span is_time_travel_hold at table.regimes part) (spans_of table.layouts table.dropped) ≡ is_past is_time_travel at table part
travel_spans at table part = list_any-same _ _ (spans_of table.layouts table.dropped) (λ span. here (has span.0 part) span.1)
  where
    stages : (st : Stage) → (is_held (hold_in st) && is_time_travel_hold (hold_in st)) ≡ is_time_travel st
    stages stage.TimeTravel = refl
    stages stage.FailSafe = refl
    stages stage.Gone = refl

    here : (a : Bool) (e : Option ℕ) → (a && (is_held (span_hold at table.regimes e) && is_time_travel_hold (span_hold at table.regimes e)))
        ≡ (a && ended_so is_time_travel at table.regimes e)
    here a None = refl
    here a (Some e) = ap (λ (b : Bool). a && b) (stages (stage_of table.regimes e at))

pub safe_spans : (at : ℕ) (table : TableFacts) (part : ℕ)
    → list_any (in_span is_safe_hold at table.regimes part) (spans_of table.layouts table.dropped) ≡ is_past is_fail_safe at table part
safe_spans at table part = list_any-same _ _ (spans_of table.layouts table.dropped) (λ span. here (has span.0 part) span.1)
  where
    stages : (st : Stage) → (is_held (hold_in st) && is_safe_hold (hold_in st)) ≡ is_fail_safe st
    stages stage.TimeTravel = refl
    stages stage.FailSafe = refl
    stages stage.Gone = refl

    here : (a : Bool) (e : Option ℕ) → (a && (is_held (span_hold at table.regimes e) && is_safe_hold (span_hold at table.regimes e)))
        ≡ (a && ended_so is_fail_safe at table.regimes e)
    here a None = refl
    here a (Some e) = ap (λ (b : Bool). a && b) (stages (stage_of table.regimes e at))

held_is : (at : ℕ) (table : TableFacts) (part : ℕ)
    → is_held (hold_of at table part) ≡ (is_active table part || (is_past is_time_travel at table part || is_past is_fail_safe at table part))
held_is at table part = strongest (is_active table part) (is_past is_time_travel at table part) (is_past is_fail_safe at table part)
  where
    strongest : (a t f : Bool) → is_held (cond a hold.Active (cond t hold.TimeTravel (cond f hold.FailSafe hold.Nothing))) ≡ (a || (t || f))
    strongest true t f = refl
    strongest false true f = refl
    strongest false false true = refl
    strongest false false false = refl

held_spans : (at : ℕ) (table : TableFacts) (part : ℕ)
    → list_any (in_span (λ _. true) at table.regimes part) (spans_of table.layouts table.dropped) ≡ is_held (hold_of at table part)
held_spans at table part =
    let spans : List (List ℕ × Option ℕ) = spans_of table.layouts table.dropped in
    let p : (Hold → Bool) → List ℕ × Option ℕ → Bool = λ test. in_span test at table.regimes part in
    list_any-same _ (λ span. p is_active_hold span || (p is_time_travel_hold span || p is_safe_hold span)) spans (λ span. each (has span.0 part) (span_hold at table.regimes span.1))
    ∙ list_any-or (p is_active_hold) (λ span. p is_time_travel_hold span || p is_safe_hold span) spans
    ∙ ap (λ (b : Bool). list_any (p is_active_hold) spans || b) (list_any-or (p is_time_travel_hold) (p is_safe_hold) spans)
    ∙ ap (λ (b : Bool). b || (list_any (p is_time_travel_hold) spans || list_any (p is_safe_hold) spans)) (active_spans at table.regimes part table.layouts table.dropped)
    ∙ ap (λ (b : Bool). is_active table part || (b || list_any (p is_safe_hold) spans)) (travel_spans at table part)
    ∙ ap (λ (b : Bool). is_active table part || (is_past is_time_travel at table part || b)) (safe_spans at table part)
    ∙ sym (held_is at table part)
  where
    each : (a : Bool) (h : Hold) → (a && (is_held h && true))
        ≡ ((a && (is_held h && is_active_hold h)) || ((a && (is_held h && is_time_travel_hold h)) || (a && (is_held h && is_safe_hold h))))
    each false h = refl
    each true hold.Active = refl
    each true hold.TimeTravel = refl
    each true hold.FailSafe = refl
    each true hold.Nothing = refl

-- claims that say of each part what the spans say are those of the table
pub claims_are : (at : ℕ) (table : TableFacts) (claims : List Claim)
    → ((test : Hold → Bool) (part : ℕ) → claimed test claims part ≡ list_any (in_span test at table.regimes part) (spans_of table.layouts table.dropped))
    → AreClaims at table claims
claims_are at table claims all = record {
  held = λ part. numbers-claimed claims part ∙ all (λ _. true) part ∙ held_spans at table part;
  active = λ part. all is_active_hold part ∙ active_spans at table.regimes part table.layouts table.dropped;
  time_travel = λ part. all is_time_travel_hold part ∙ travel_spans at table part;
  fail_safe = λ part. all is_safe_hold part ∙ safe_spans at table part;
}

-- ---- one more span

pub one_more : (now before : Bool) (a held t : Bool) → now ≡ (before || (a && t)) → held ≡ true → now ≡ (before || (a && (held && t)))
one_more now before a true t e h = e
one_more now before a false t e h = absurd (cc)

pub none_more : (before : Bool) (a t : Bool) → before ≡ (before || (a && (false && t)))
none_more true a t = refl
none_more false true t = refl
none_more false false t = refl
