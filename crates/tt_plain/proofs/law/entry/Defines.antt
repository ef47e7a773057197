-- Definitions that make no table keep the store sound.
use Rattle.std.specs.List.{list_any}
use Rattle.std.specs.Prelude.{Bool, List, None, Option, Some, [], false, fold, if◌then◌else◌, length, map, nat_le, option_map, refl, slice_get, true, ℕ, ◌-◌, ◌==◌, ◌||◌, ◌∷◌, ◌≡◌, ◌≤◌}
use Rattle.std.proofs.Common.{ap, arith, inl, inr, length-set, min, subst, sym, ◌∙◌}
use Rattle.std.proofs.lemmas.Bool.{false≢true, leb-true}
use Rattle.std.proofs.lemmas.List.{length-map}
use Rattle.std.proofs.lemmas.Option.{none-some, same_Some}
use Rattle.tt_history.specs.declared.reply.Refusal.{Refusal}
use Rattle.tt_plain.proofs.law.session.Alone.{IsDue, holders_set, no_more_marks, set_at, state_sound}
use Rattle.tt_plain.proofs.law.Lists.{every_on}
use Rattle.tt_plain.proofs.law.session.Marks.{others_free}
use Rattle.tt_plain.proofs.law.entry.SessionAlone.{SoundIn, done_sound}
use Rattle.tt_plain.proofs.law.change.Tables.{table_at}
use Rattle.tt_plain.proofs.law.session.Versions.{get_map, session_over}
use Rattle.tt_plain.proofs.law.session.Views.{IsTable, is_table}
use Rattle.tt_plain.specs.Places.{earlier, leftmost}
use Rattle.tt_plain.specs.asked.Asked.{Asked, state_asked}
use Rattle.tt_plain.specs.asked.Carried.{Carried}
use Rattle.tt_plain.specs.declared.store.PlainMark.{PlainMark}
use Rattle.tt_plain.specs.declared.store.PlainSession.{PlainSession}
use Rattle.tt_plain.specs.declared.store.PlainTable.{PlainTable}
use Rattle.tt_plain.specs.definition.Clustering.{key_changes, suspension_changes}
use Rattle.tt_plain.specs.definition.Drop.{drop_changes}
use Rattle.tt_plain.specs.definition.SetRetention.{retention_changes}
use Rattle.tt_plain.specs.definition.Truncate.{truncate_changes}
use Rattle.tt_plain.specs.effect.Apply.{applied, changed_table, with_table, with_version}
use Rattle.tt_plain.specs.effect.Define.{defined}
use Rattle.tt_plain.specs.effect.Effect.{Dropped, NewKey, NewRegime, NewVersion, Suspended, TableChange}
use Rattle.tt_plain.specs.effect.Ending.{ended_with, session_done}
use Rattle.tt_plain.specs.law.Changes.{AreSoundTableChanges, AreSoundTallyChanges, IsSoundTableChange}
use Rattle.tt_plain.specs.law.Lists.{Every}
use Rattle.tt_plain.specs.law.Sound.{IsKeyOf, IsSoundMark, IsSoundSession}
use Rattle.tt_plain.specs.refusal.{at_leftmost}
use Rattle.tt_plain.specs.refusal.RetentionRange.{days_beyond, most_days}
use Rattle.tt_plain.specs.stored.Sessions.{has_mark, others_with}
use Rattle.tt_plain.specs.tally.Changes.{BeginsLayout, TallyChange, changed_tally}
use Rattle.tt_retain.specs.Retention.{with_regime}
use Rattle.tt_value.specs.declared.name.Number.{Number}

-- each live table is live still
abbrev pub Lives : List PlainTable → List PlainTable → Type 0
Lives tables later = (place : ℕ) (table : PlainTable) → slice_get tables place ≡ Some table → table.dropped ≡ None → (t : PlainTable) × (slice_get later place ≡ Some t) × (t.dropped ≡ None)

pub lives_map : (f : PlainTable → PlainTable) (tables : List PlainTable) → ((table : PlainTable) → table.dropped ≡ None → (f table).dropped ≡ None) → Lives tables (map f tables)
lives_map f tables stays place table e live = (f table, get_map f tables place table e, stays table live)

if_lives : (test : Bool) (f : PlainTable → PlainTable) (table : PlainTable) → (table.dropped ≡ None → (f table).dropped ≡ None) → table.dropped ≡ None → (if test then f table else table).dropped ≡ None
if_lives true f table stays live = stays live
if_lives false f table stays live = live

pub lives_with : (number : ℕ) (f : PlainTable → PlainTable) (tables : List PlainTable) → ((table : PlainTable) → table.dropped ≡ None → (f table).dropped ≡ None) → Lives tables (with_table number f tables)
lives_with number f tables stays = lives_map (λ (t : PlainTable). if t.number == number then f t else t) tables (λ table live. if_lives (table.number == number) f table (stays table) live)

pub marks_live : (tables later : List PlainTable) (marks : List PlainMark) → Lives tables later → Every (IsSoundMark tables) marks → Every (IsSoundMark later) marks
marks_live tables later marks lives all =
    every_on (IsSoundMark tables) (IsSoundMark later) marks (λ mark there.
    let t = lives (mark.table - 1) there.table there.table_is there.so in
    record { table = t.0; from_one = there.from_one; table_is = t.1; so = t.2 }) all

pub no_places : (refusal : ℕ → Refusal) (places : List ℕ) → at_leftmost refusal places ≡ None → places ≡ []
no_places refusal [] e = refl
no_places refusal (place ∷ places) e = absurd (some_earlier (leftmost places) e)
  where
    some_earlier : (o : Option ℕ) → option_map refusal (earlier (Some place) o) ≡ None → ⊥
    some_earlier None f = none-some (refusal place) (sym f)
    some_earlier (Some other) f = none-some (refusal (min place other)) (sym f)

module _ (carried : Carried) (asked : Asked) (due : IsDue carried asked) (closed : (state_asked asked).transaction ≡ false) (idle : (state_asked asked).running ≡ None) where
  -- the marks of all sessions are of live tables still
  abbrev pub MarksStay : List PlainTable → Type 0
  MarksStay later = (session : ℕ) (state : PlainSession) → slice_get asked.store.sessions session ≡ Some state → Every (IsSoundMark later) state.marks

  pub marks_all_live : (later : List PlainTable) → Lives asked.store.tables later → MarksStay later
  marks_all_live later lives session state at = marks_live asked.store.tables later state.marks lives (due.sound.each session state at).marked

  pub define_sound_by : (changes : List TableChange) (tally : List TallyChange) → AreSoundTableChanges asked.moment asked.store.tables changes → AreSoundTallyChanges asked.moment asked.store.tally tally
      → length (fold changed_tally asked.store.tally tally).layouts ≡ length (fold changed_table asked.store.tables changes)
      → length asked.store.tables ≤ length (fold changed_table asked.store.tables changes) → MarksStay (fold changed_table asked.store.tables changes)
      → SoundIn carried asked.program asked.store (defined asked (changes, tally))
  unfolding ended_with applied
  define_sound_by changes tally good told layouts le marks time =
      let later : List PlainTable = fold changed_table asked.store.tables changes in
      record {
        later = omega (arith, due.next);
        time = time;
        tables = good;
        tally = told;
        paired = layouts;
        each = λ session state at. elim (set_at asked.store.sessions asked.session (session_done asked) session state at) [
          | inl h ↦ subst (λ (s : PlainSession). IsSoundSession carried asked.program later session s) (sym h.1)
              (subst (λ (n : ℕ). IsSoundSession carried asked.program later n (session_done asked)) (sym h.0)
              (session_over carried asked.program asked.store.tables later asked.session (session_done asked) le (marks asked.session (state_asked asked) due.at) (done_sound carried asked due idle)))
          | inr h ↦ session_over carried asked.program asked.store.tables later session state le (marks session state h) (due.sound.each session state h)
        ];
        holders = holders_set carried asked due (session_done asked) (no_more_marks carried asked due (session_done asked) (λ table e. e));
      }

  -- a single change of a table that keeps it live
  one_change : (number : ℕ) (f : PlainTable → PlainTable) (change : TableChange) → changed_table asked.store.tables change ≡ with_table number f asked.store.tables
      → ((table : PlainTable) → table.dropped ≡ None → (f table).dropped ≡ None) → IsSoundTableChange asked.moment asked.store.tables change
      → SoundIn carried asked.program asked.store (defined asked (change ∷ [], []))
  one_change number f change is stays good =
      let many : length (changed_table asked.store.tables change) ≡ length asked.store.tables = ap (λ (ts : List PlainTable). length ts) is ∙ length-map asked.store.tables (λ (t : PlainTable). if t.number == number then f t else t) in
      define_sound_by (change ∷ []) [] (good, tt) tt (due.sound.layouts ∙ sym many) (omega (arith, many))
      (subst MarksStay (sym is) (marks_all_live (with_table number f asked.store.tables) (lives_with number f asked.store.tables stays)))

  pub truncate_sound : (table : PlainTable) → SoundIn carried asked.program asked.store (defined asked (truncate_changes asked table))
  truncate_sound table =
      let f : PlainTable → PlainTable = with_version asked.moment [] in
      let many : length (with_table table.number f asked.store.tables) ≡ length asked.store.tables = length-map asked.store.tables (λ (t : PlainTable). if t.number == table.number then f t else t) in
      define_sound_by (NewVersion table.number asked.moment [] ∷ []) (BeginsLayout table.number asked.moment [] ∷ []) ((refl, tt), tt) ((refl, tt), tt)
      (length-set asked.store.tally.layouts (table.number - 1) _ ∙ due.sound.layouts ∙ sym many) (omega (arith, many))
      (marks_all_live (with_table table.number f asked.store.tables) (lives_with table.number f asked.store.tables (λ t live. live)))

  -- ---- retention

  in_range : (b : Bool) (place : ℕ) → (if b then [] else place ∷ []) ≡ [] → b ≡ true
  in_range true place e = refl
  in_range false place e = absurd cc

  most_90 : (transient : Bool) (days : ℕ) → nat_le days (most_days transient) ≡ true → days ≤ 90
  most_90 true days e = omega (arith, leb-true days 1 e)
  most_90 false days e = leb-true days 90 e

  pub retention_sound : (table : PlainTable) (days : Number) → days_beyond table.transient days ≡ [] → SoundIn carried asked.program asked.store (defined asked (retention_changes asked table days, []))
  retention_sound table days free =
      one_change table.number (λ (t : PlainTable). record t { regimes = with_regime t.regimes asked.moment days.value }) (NewRegime table.number asked.moment days.value) refl (λ t live. live)
      (refl, most_90 table.transient days.value (in_range (nat_le days.value (most_days table.transient)) days.place free))

  -- ---- clustering

  pub suspension_sound : (table : PlainTable) (suspended : Bool) → SoundIn carried asked.program asked.store (defined asked (suspension_changes table suspended, []))
  suspension_sound table suspended =
      one_change table.number (λ (t : PlainTable). record t { suspended = suspended }) (Suspended table.number suspended) refl (λ t live. live) tt

  pub key_sound : (table : PlainTable) (key : Option ℕ) → IsTable asked.store table → IsKeyOf table.schema key → SoundIn carried asked.program asked.store (defined asked (key_changes table key, []))
  key_sound table key is fits =
      one_change table.number (λ (t : PlainTable). record t { key = key }) (NewKey table.number key) refl (λ t live. live)
      (record { table = table; from_one = is.from_one; table_is = is.there; so = fits })

  -- ---- drops

  own_marks : (state_asked asked).marks ≡ []
  own_marks = (state_sound carried asked due).unmarked closed idle

  not_any : (number : ℕ) (marks : List PlainMark) → list_any (λ (mark : PlainMark). mark.table == number) marks ≡ false → Every (λ (mark : PlainMark). (mark.table == number) ≡ false) marks
  not_any number [] e = tt
  not_any number (mark ∷ marks) e = by (λ f. not_any number marks f) (mark.table == number) refl e
    where
      by : (list_any (λ (m : PlainMark). m.table == number) marks ≡ false → Every (λ (m : PlainMark). (m.table == number) ≡ false) marks) → (b : Bool) → (mark.table == number) ≡ b → (b || list_any (λ (m : PlainMark). m.table == number) marks) ≡ false → Every (λ (m : PlainMark). (m.table == number) ≡ false) (mark ∷ marks)
      by rest true f g = absurd (false≢true (sym g))
      by rest false f g = (f, rest g)

  -- of a table that goes nobody has a mark
  unmarked : (number : ℕ) → others_with (has_mark number) asked.store asked.session ≡ [] → (session : ℕ) (state : PlainSession) → slice_get asked.store.sessions session ≡ Some state → has_mark number state ≡ false
  unmarked number free session state at = by (has_mark number state) refl
    where
      by : (b : Bool) → has_mark number state ≡ b → has_mark number state ≡ false
      by true e =
          let own : session ≡ asked.session = others_free (has_mark number) asked.store asked.session session state free at e in
          let same : state ≡ state_asked asked = same_Some state (state_asked asked) (sym at ∙ ap (slice_get asked.store.sessions) own ∙ due.at) in
          ap (has_mark number) same ∙ ap (λ (ms : List PlainMark). list_any (λ (mark : PlainMark). mark.table == number) ms) own_marks
      by false e = e

  dropped_marks : (number : ℕ) (marks : List PlainMark) → Every (λ (mark : PlainMark). (mark.table == number) ≡ false) marks → Every (IsSoundMark asked.store.tables) marks
      → Every (IsSoundMark (with_table number (λ (t : PlainTable). record t { dropped = Some asked.moment }) asked.store.tables)) marks
  dropped_marks number [] others all = tt
  dropped_marks number (mark ∷ marks) others all =
      let there = all.0 in
      let is = is_table carried asked.program asked.store (mark.table - 1) there.table due.sound there.table_is in
      let numbered = (table_at asked.store.moment (length asked.store.tables) 1 (mark.table - 1) asked.store.tables there.table due.sound.tables there.table_is).numbered in
      let other : (there.table.number == number) ≡ false = ap (λ (n : ℕ). n == number) (omega (arith, numbered, there.from_one)) ∙ others.0 in (
        record {
          table = there.table;
          from_one = there.from_one;
          so = there.so;
          table_is = get_map (λ (t : PlainTable). if t.number == number then record t { dropped = Some asked.moment } else t) asked.store.tables (mark.table - 1) there.table there.table_is
              ∙ ap (λ (b : Bool). Some (if b then record there.table { dropped = Some asked.moment } else there.table)) other;
        },
        dropped_marks number marks others.1 all.1,
      )

  pub drop_marks : (number : ℕ) → others_with (has_mark number) asked.store asked.session ≡ [] → MarksStay (with_table number (λ (t : PlainTable). record t { dropped = Some asked.moment }) asked.store.tables)
  drop_marks number free session state at =
      dropped_marks number state.marks (not_any number state.marks (unmarked number free session state at)) (due.sound.each session state at).marked

  pub drop_sound : (table : PlainTable) → others_with (has_mark table.number) asked.store asked.session ≡ [] → SoundIn carried asked.program asked.store (defined asked (drop_changes asked table))
  drop_sound table free =
      let many : length (with_table table.number (λ (t : PlainTable). record t { dropped = Some asked.moment }) asked.store.tables) ≡ length asked.store.tables =
      length-map asked.store.tables (λ (t : PlainTable). if t.number == table.number then record t { dropped = Some asked.moment } else t) in
      define_sound_by (Dropped table.number asked.moment ∷ []) [] (refl, tt) tt (due.sound.layouts ∙ sym many) (omega (arith, many)) (drop_marks table.number free)
