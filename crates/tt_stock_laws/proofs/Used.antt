-- The parts that a table has in use: those of its layouts whose span lasts, or has ended and is not gone.
use Rattle.std.specs.List.{list_any}
use Rattle.std.specs.Prelude.{Bool, List, None, Option, Some, [], false, int_lt, is_none, not, pos, refl, true, ℕ, ℤ, ◌&&◌, ◌++◌, ◌-ℤ◌, ◌∷◌, ◌≡◌, ◌≤ℤ◌, ◌≤◌, ◌||◌}
use Rattle.std.proofs.Common.{ap, arith, cond, inl, inr, le→leb, subst, sym, ◌∙◌, ◌⊎◌}
use Rattle.std.proofs.Math.Bool.{or-true}
use Rattle.std.proofs.lemmas.Bool.{and_parts, false≢true, or_cases}
use Rattle.std.proofs.lemmas.Int.{ints}
use Rattle.tt_layout.specs.Chain.{current_of}
use Rattle.tt_layout.specs.Holds.{hold_of, is_active, is_fail_safe, is_held, is_past, is_time_travel}
use Rattle.tt_layout.specs.Numbers.{has}
use Rattle.tt_layout.specs.Spans.{spans_of}
use Rattle.tt_layout.specs.declared.facts.TableFacts.{TableFacts}
use Rattle.tt_layout.specs.declared.hold.Hold.TheVariants as hold
use Rattle.tt_plain.proofs.Tests.{none_is}
use Rattle.tt_retain.specs.Horizon.{horizon_of, stage_of}
use Rattle.tt_retain.specs.Retention.{Retention}
use Rattle.tt_retain.specs.declared.stage.Stage.TheVariants as stage
use Rattle.tt_retain.specs.declared.stage.Stage.{Stage}

abbrev pub is_kept_stage : Stage → Bool
is_kept_stage stage.TimeTravel = true
is_kept_stage stage.FailSafe = true
is_kept_stage stage.Gone = false

-- whether a span is in use, by its end
abbrev pub lives : ℕ → Retention → Option ℕ → Bool
lives at regimes None = true
lives at regimes (Some ended) = is_kept_stage (stage_of regimes ended at)

abbrev pub in_use : ℕ → Retention → ℕ → List ℕ × Option ℕ → Bool
in_use at regimes part span = has span.0 part && lives at regimes span.1

abbrev pub uses : ℕ → Retention → Option ℕ → List (ℕ × List ℕ) → ℕ → Bool
uses at regimes dropped layouts part = list_any (in_use at regimes part) (spans_of layouts dropped)

-- ---- truth values

pub both_true : (a b : Bool) → a ≡ true → b ≡ true → (a && b) ≡ true
both_true a b e f = rw (e, f) refl

pub any_on : {A : Type 0} (p q : A → Bool) (xs : List A) → ((x : A) → p x ≡ true → q x ≡ true) → list_any p xs ≡ true → list_any q xs ≡ true
any_on p q [] on e = e
any_on p q (x ∷ xs) on e = elim (or_cases (p x) (list_any p xs) e) [
  | inl h ↦ rw (on x h) refl
  | inr h ↦ rw (any_on p q xs on h) (or-true (q x))
]

any_same : {A : Type 0} (p q : A → Bool) (xs : List A) → ((x : A) → p x ≡ q x) → list_any p xs ≡ list_any q xs
any_same p q [] same = refl
any_same p q (x ∷ xs) same = ap (λ (b : Bool). b || list_any p xs) (same x) ∙ ap (λ (b : Bool). q x || b) (any_same p q xs same)

any_either : {A : Type 0} (p q r : A → Bool) (xs : List A) → ((x : A) → p x ≡ true → (q x ≡ true) ⊎ (r x ≡ true)) → list_any p xs ≡ true → (list_any q xs ≡ true) ⊎ (list_any r xs ≡ true)
any_either p q r [] on e = absurd (false≢true e)
any_either p q r (x ∷ xs) on e = elim (or_cases (p x) (list_any p xs) e) [
  | inl h ↦ elim (on x h) [ inl k ↦ inl (rw k refl) | inr k ↦ inr (rw k refl) ]
  | inr h ↦ elim (any_either p q r xs on h) [ inl k ↦ inl (rw k (or-true (q x))) | inr k ↦ inr (rw k (or-true (r x))) ]
]

-- ---- what is in use is held, and what is held is in use

abbrev ended_so : (Stage → Bool) → ℕ → Retention → Option ℕ → Bool
ended_so test at regimes None = false
ended_so test at regimes (Some ended) = test (stage_of regimes ended at)

abbrev past_span : (Stage → Bool) → ℕ → Retention → ℕ → List ℕ × Option ℕ → Bool
past_span test at regimes part span = has span.0 part && ended_so test at regimes span.1

past_is : (test : Stage → Bool) (at : ℕ) (table : TableFacts) (part : ℕ) → list_any (past_span test at table.regimes part) (spans_of table.layouts table.dropped) ≡ is_past test at table part
past_is test at table part = any_same _ _ (spans_of table.layouts table.dropped) (λ span. here (has span.0 part) span.1)
  where
    here : (a : Bool) (e : Option ℕ) → (a && ended_so test at table.regimes e) ≡ (a && ended_so test at table.regimes e)
    here a e = refl

past_kept : (test : Stage → Bool) (at : ℕ) (regimes : Retention) → ((s : Stage) → test s ≡ true → is_kept_stage s ≡ true) → (a : Bool) (e : Option ℕ) → (a && ended_so test at regimes e) ≡ true → (a && lives at regimes e) ≡ true
past_kept test at regimes on a None e = absurd (false≢true (and_parts a false e).1)
past_kept test at regimes on a (Some ended) e =
    let both = and_parts a (test (stage_of regimes ended at)) e in
    both_true a (is_kept_stage (stage_of regimes ended at)) both.0 (on (stage_of regimes ended at) both.1)

travel_kept : (s : Stage) → is_time_travel s ≡ true → is_kept_stage s ≡ true
travel_kept stage.TimeTravel e = refl
travel_kept stage.FailSafe e = refl
travel_kept stage.Gone e = e

safe_kept : (s : Stage) → is_fail_safe s ≡ true → is_kept_stage s ≡ true
safe_kept stage.TimeTravel e = refl
safe_kept stage.FailSafe e = refl
safe_kept stage.Gone e = e

strongest : (a t f : Bool) → is_held (cond a hold.Active (cond t hold.TimeTravel (cond f hold.FailSafe hold.Nothing))) ≡ (a || (t || f))
strongest true t f = refl
strongest false true f = refl
strongest false false true = refl
strongest false false false = refl

-- the parts of the last layout, while it lasts
pub current_used : (at : ℕ) (regimes : Retention) (part : ℕ) (layouts : List (ℕ × List ℕ)) → has (current_of layouts) part ≡ true → uses at regimes None layouts part ≡ true
current_used at regimes part [] e = absurd (false≢true e)
current_used at regimes part (l ∷ []) e = rw e refl
current_used at regimes part (l ∷ m ∷ layouts) e = rw (current_used at regimes part (m ∷ layouts) e) (or-true (in_use at regimes part (l.1, Some m.0)))

active_used : (at : ℕ) (regimes : Retention) (part : ℕ) (layouts : List (ℕ × List ℕ)) (dropped : Option ℕ) → (is_none dropped && has (current_of layouts) part) ≡ true → uses at regimes dropped layouts part ≡ true
active_used at regimes part layouts dropped e =
    let both = and_parts (is_none dropped) (has (current_of layouts) part) e in
    subst (λ (d : Option ℕ). uses at regimes d layouts part ≡ true) (sym (none_is dropped both.0)) (current_used at regimes part layouts both.1)

past_used : (test : Stage → Bool) (at : ℕ) (table : TableFacts) (part : ℕ) → ((s : Stage) → test s ≡ true → is_kept_stage s ≡ true) → is_past test at table part ≡ true → uses at table.regimes table.dropped table.layouts part ≡ true
past_used test at table part on e =
    any_on (past_span test at table.regimes part) (in_use at table.regimes part) (spans_of table.layouts table.dropped) (λ span h. past_kept test at table.regimes on (has span.0 part) span.1 h) (past_is test at table part ∙ e)

pub held_used : (at : ℕ) (table : TableFacts) (part : ℕ) → is_held (hold_of at table part) ≡ true → uses at table.regimes table.dropped table.layouts part ≡ true
held_used at table part e =
    elim (or_cases (is_active table part) (is_past is_time_travel at table part || is_past is_fail_safe at table part) (sym (strongest (is_active table part) (is_past is_time_travel at table part) (is_past is_fail_safe at table part)) ∙ e)) [
      | inl h ↦ active_used at table.regimes part table.layouts table.dropped h
      | inr h ↦ elim (or_cases (is_past is_time_travel at table part) (is_past is_fail_safe at table part) h) [
        | inl k ↦ past_used is_time_travel at table part travel_kept k
        | inr k ↦ past_used is_fail_safe at table part safe_kept k
      ]
    ]

abbrev lasting_span : ℕ → List ℕ × Option ℕ → Bool
lasting_span part span = has span.0 part && is_none span.1

-- the span that lasts is the last one of a live table
last_active : (at : ℕ) (regimes : Retention) (part : ℕ) (layouts : List (ℕ × List ℕ)) (dropped : Option ℕ) → list_any (lasting_span part) (spans_of layouts dropped) ≡ true → (is_none dropped && has (current_of layouts) part) ≡ true
last_active at regimes part [] None e = absurd (false≢true e)
last_active at regimes part [] (Some d) e = absurd (false≢true e)
last_active at regimes part (l ∷ []) None e = only (has l.1 part) e
  where
    only : (a : Bool) → ((a && true) || false) ≡ true → (true && a) ≡ true
    only true e = refl
    only false e = e
last_active at regimes part (l ∷ []) (Some d) e = absurd (false≢true (none (has l.1 part) e))
  where
    none : (a : Bool) → ((a && false) || false) ≡ true → false ≡ true
    none true e = e
    none false e = e
last_active at regimes part (l ∷ m ∷ layouts) dropped e = last_active at regimes part (m ∷ layouts) dropped (later (has l.1 part) (list_any (lasting_span part) (spans_of (m ∷ layouts) dropped)) e)
  where
    later : (a b : Bool) → ((a && false) || b) ≡ true → b ≡ true
    later true b e = e
    later false b e = e

kept_by : (s : Stage) → is_kept_stage s ≡ true → (is_time_travel s ≡ true) ⊎ (is_fail_safe s ≡ true)
kept_by stage.TimeTravel e = inl refl
kept_by stage.FailSafe e = inr refl
kept_by stage.Gone e = absurd (false≢true e)

abbrev ended_span : ℕ → Retention → ℕ → List ℕ × Option ℕ → Bool
ended_span at regimes part span = past_span is_time_travel at regimes part span || past_span is_fail_safe at regimes part span

split : (at : ℕ) (regimes : Retention) (a : Bool) (e : Option ℕ) → (a && lives at regimes e) ≡ true
    → ((a && is_none e) ≡ true) ⊎ (((a && ended_so is_time_travel at regimes e) || (a && ended_so is_fail_safe at regimes e)) ≡ true)
split at regimes a None e = inl e
split at regimes a (Some ended) e =
    let both = and_parts a (is_kept_stage (stage_of regimes ended at)) e in
    inr (by a (is_time_travel (stage_of regimes ended at)) (is_fail_safe (stage_of regimes ended at)) both.0 (kept_by (stage_of regimes ended at) both.1))
  where
    by : (a t f : Bool) → a ≡ true → (t ≡ true) ⊎ (f ≡ true) → ((a && t) || (a && f)) ≡ true
    by a t f e (inl h) = rw (e, h) refl
    by a t f e (inr h) = rw (e, h) (or-true t)

pub used_held : (at : ℕ) (table : TableFacts) (part : ℕ) → uses at table.regimes table.dropped table.layouts part ≡ true → is_held (hold_of at table part) ≡ true
used_held at table part e =
    let spans = spans_of table.layouts table.dropped in
    strongest (is_active table part) (is_past is_time_travel at table part) (is_past is_fail_safe at table part)
    ∙ elim (any_either (in_use at table.regimes part) (lasting_span part) (ended_span at table.regimes part) spans (λ span h. split at table.regimes (has span.0 part) span.1 h) e) [
      | inl h ↦ rw (last_active at table.regimes part table.layouts table.dropped h) refl
      | inr h ↦ elim (any_either (ended_span at table.regimes part) (past_span is_time_travel at table.regimes part) (past_span is_fail_safe at table.regimes part) spans (λ span k. or_cases (past_span is_time_travel at table.regimes part span) (past_span is_fail_safe at table.regimes part span) k) h) [
        | inl k ↦ rw (sym (past_is is_time_travel at table part) ∙ k) (or-true (is_active table part))
        | inr k ↦ rw (sym (past_is is_fail_safe at table part) ∙ k, or-true (is_past is_time_travel at table part)) (or-true (is_active table part))
      ]
    ]

-- ---- later moments

-- the horizons of the new regimes are not below those of the old ones
pub record Later (moment : ℕ) (old new : Retention) : Type 0 where
  pub transient : new.transient ≡ old.transient
  pub horizon : (s u : ℤ) → s ≤ℤ u → s ≤ℤ pos moment → horizon_of old s ≤ℤ horizon_of new u

lt_below : (h k x : ℤ) → h ≤ℤ k → int_lt k x ≡ true → int_lt h x ≡ true
lt_below h k x le e = grind (arith, ints)

stage_kept : (a b : Bool) → is_kept_stage (cond a stage.TimeTravel (cond b stage.FailSafe stage.Gone)) ≡ (a || b)
stage_kept true b = refl
stage_kept false true = refl
stage_kept false false = refl

kept_before : (before moment : ℕ) (old new : Retention) → before ≤ moment → Later moment old new → (ended : ℕ) → is_kept_stage (stage_of new ended moment) ≡ true → is_kept_stage (stage_of old ended before) ≡ true
kept_before before moment old new le later ended e =
    let early : pos before ≤ℤ pos moment = record { le = le→leb before moment le } in
    let week : (pos before -ℤ pos 604800000) ≤ℤ (pos moment -ℤ pos 604800000) = omega (arith, ints) in
    let since : (pos before -ℤ pos 604800000) ≤ℤ pos moment = omega (arith, ints) in
    stage_kept (int_lt (horizon_of old (pos before)) (pos ended)) (not old.transient && int_lt (horizon_of old (pos before -ℤ pos 604800000)) (pos ended))
    ∙ elim (or_cases (int_lt (horizon_of new (pos moment)) (pos ended)) (not new.transient && int_lt (horizon_of new (pos moment -ℤ pos 604800000)) (pos ended))
    (sym (stage_kept (int_lt (horizon_of new (pos moment)) (pos ended)) (not new.transient && int_lt (horizon_of new (pos moment -ℤ pos 604800000)) (pos ended))) ∙ e)) [
      | inl h ↦ rw (lt_below (horizon_of old (pos before)) (horizon_of new (pos moment)) (pos ended) (later.horizon (pos before) (pos moment) early early) h) refl
      | inr h ↦ let both = and_parts (not new.transient) (int_lt (horizon_of new (pos moment -ℤ pos 604800000)) (pos ended)) h in
          rw (sym (ap not later.transient) ∙ both.0, lt_below (horizon_of old (pos before -ℤ pos 604800000)) (horizon_of new (pos moment -ℤ pos 604800000)) (pos ended) (later.horizon (pos before -ℤ pos 604800000) (pos moment -ℤ pos 604800000) week since) both.1)
          (or-true (int_lt (horizon_of old (pos before)) (pos ended)))
    ]

pub lives_before : (before moment : ℕ) (old new : Retention) → before ≤ moment → Later moment old new → (e : Option ℕ) → lives moment new e ≡ true → lives before old e ≡ true
lives_before before moment old new le later None h = refl
lives_before before moment old new le later (Some ended) h = kept_before before moment old new le later ended h

pub used_before : (before moment : ℕ) (old new : Retention) (dropped : Option ℕ) (layouts : List (ℕ × List ℕ)) (part : ℕ) → before ≤ moment → Later moment old new → uses moment new dropped layouts part ≡ true → uses before old dropped layouts part ≡ true
used_before before moment old new dropped layouts part le later e =
    any_on (in_use moment new part) (in_use before old part) (spans_of layouts dropped) (λ span h. here (has span.0 part) span.1 h) e
  where
    here : (a : Bool) (e : Option ℕ) → (a && lives moment new e) ≡ true → (a && lives before old e) ≡ true
    here a e h = let both = and_parts a (lives moment new e) h in both_true a (lives before old e) both.0 (lives_before before moment old new le later e both.1)

-- ---- drops, and layouts that begin

last_and : (a b : Bool) → ((a && b) || false) ≡ true → a ≡ true
last_and true b e = refl
last_and false b e = e

last_alone : (a : Bool) → a ≡ true → ((a && true) || false) ≡ true
last_alone a e = rw e refl

-- of a table that is dropped no more is used than before
pub used_dropped : (at : ℕ) (regimes : Retention) (part moment : ℕ) (layouts : List (ℕ × List ℕ)) → uses at regimes (Some moment) layouts part ≡ true → uses at regimes None layouts part ≡ true
used_dropped at regimes part moment [] e = e
used_dropped at regimes part moment (l ∷ []) e = last_alone (has l.1 part) (last_and (has l.1 part) (lives at regimes (Some moment)) e)
used_dropped at regimes part moment (l ∷ m ∷ layouts) e = elim (or_cases (in_use at regimes part (l.1, Some m.0)) (uses at regimes (Some moment) (m ∷ layouts) part) e) [
  | inl h ↦ rw h refl
  | inr h ↦ rw (used_dropped at regimes part moment (m ∷ layouts) h) (or-true (in_use at regimes part (l.1, Some m.0)))
]

-- of one that comes back no more than before, where its last span was in use
pub used_undropped : (at : ℕ) (regimes : Retention) (part : ℕ) (dropped : Option ℕ) (layouts : List (ℕ × List ℕ)) → lives at regimes dropped ≡ true → uses at regimes None layouts part ≡ true → uses at regimes dropped layouts part ≡ true
used_undropped at regimes part dropped [] alive e = e
used_undropped at regimes part dropped (l ∷ []) alive e = rw (last_and (has l.1 part) true e, alive) refl
used_undropped at regimes part dropped (l ∷ m ∷ layouts) alive e = elim (or_cases (in_use at regimes part (l.1, Some m.0)) (uses at regimes None (m ∷ layouts) part) e) [
  | inl h ↦ rw h refl
  | inr h ↦ rw (used_undropped at regimes part dropped (m ∷ layouts) alive h) (or-true (in_use at regimes part (l.1, Some m.0)))
]

-- one more layout of a live table
pub used_more : (at : ℕ) (regimes : Retention) (part moment : ℕ) (parts : List ℕ) (layouts : List (ℕ × List ℕ)) → uses at regimes None (layouts ++ (moment, parts) ∷ []) part ≡ true
    → (uses at regimes None layouts part ≡ true) ⊎ (has parts part ≡ true)
used_more at regimes part moment parts [] e = inr (last_and (has parts part) true e)
used_more at regimes part moment parts (l ∷ []) e = elim (or_cases (in_use at regimes part (l.1, Some moment)) ((has parts part && true) || false) e) [
  | inl h ↦ inl (last_alone (has l.1 part) (and_parts (has l.1 part) (lives at regimes (Some moment)) h).0)
  | inr h ↦ inr (last_and (has parts part) true h)
]
used_more at regimes part moment parts (l ∷ m ∷ layouts) e = elim (or_cases (in_use at regimes part (l.1, Some m.0)) (uses at regimes None (m ∷ (layouts ++ (moment, parts) ∷ [])) part) e) [
  | inl h ↦ inl (rw h refl)
  | inr h ↦ elim (used_more at regimes part moment parts (m ∷ layouts) h) [
    | inl k ↦ inl (rw k (or-true (in_use at regimes part (l.1, Some m.0))))
    | inr k ↦ inr k
  ]
]

-- one layout alone
pub used_alone : (at : ℕ) (regimes : Retention) (part moment : ℕ) (parts : List ℕ) (dropped : Option ℕ) → uses at regimes dropped ((moment, parts) ∷ []) part ≡ true → has parts part ≡ true
used_alone at regimes part moment parts dropped e = last_and (has parts part) (lives at regimes dropped) e
