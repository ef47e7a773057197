-- What is kept of tables and parts where the parts of a change have come: they are true, and in one more layout of their table.
use Rattle.std.specs.Prelude.{List, None, Option, Some, [], filter, length, map, not, option_map, refl, slice_get, unwrap_or, zero, suc, ℕ, ◌&&◌, ◌++◌, ◌+◌, ◌-◌, ◌<◌, ◌∷◌, ◌≡◌, ◌≤◌}
use Rattle.std.proofs.Common.{ap, append_assoc, arith, inl, inr, length-append, subst, sym, ◌∙◌}
use Rattle.std.proofs.lemmas.Bool.{and_parts, false≢true, or_cases}
use Rattle.std.proofs.lemmas.List.{length-map, map-append}
use Rattle.std.proofs.lemmas.List.Elements.{filter-append}
use Rattle.std.proofs.lemmas.Option.{slice_get-map}
use Rattle.tt_value.specs.declared.value.Kind.{Kind}
use Rattle.tt_value.specs.declared.value.Row.{Row}
use Rattle.tt_value.specs.declared.value.Schema.{Schema}
use Rattle.tt_script.specs.declared.script.Script.{Script}
use Rattle.tt_history.specs.declared.history.Added.{Added}
use Rattle.tt_layout.proofs.Members.{has-changed}
use Rattle.tt_layout.specs.Chain.{current_of, with_change}
use Rattle.tt_layout.specs.Numbers.{changed, has}
use Rattle.tt_layout.specs.declared.facts.PartFacts.{PartFacts}
use Rattle.tt_partition.specs.Cuts.{kinds_of, table_with}
use Rattle.tt_partition.specs.Table.{Table}
use Rattle.tt_plain.proofs.law.Lists.{every-append, every_on}
use Rattle.tt_plain.specs.declared.store.PlainTable.{PlainTable}
use Rattle.tt_plain.specs.declared.tally.Tally.{Tally}
use Rattle.tt_plain.specs.declared.tally.TallyPart.{TallyPart}
use Rattle.tt_plain.specs.history.Contents.{rows_numbered}
use Rattle.tt_plain.specs.law.Lists.{Every}
use Rattle.tt_plain.specs.law.Sound.{AreSoundTables}
use Rattle.tt_plain.specs.tally.Changes.{part_added}
use Rattle.tt_plain.specs.tally.Facts.{facts_of_part, stored_parts}
use Rattle.tt_plain.specs.tally.Layouts.{layouts_of}
use Rattle.tt_plain_laws.proofs.parts.Contents.{append_get, behind_get, same_numbered, seam_get}
use Rattle.tt_state.specs.Keeps.{AreKeptParts, AreTrueParts, HasKeptParts, KeepsTables, schema_at, schema_of, table_of}
use Rattle.tt_state.specs.Kept.{Kept, part_kept, table_in}
use Rattle.tt_state.specs.declared.part.StoredPart.{StoredPart}
use Rattle.tt_state.specs.declared.state.TableState.{TableState}
use Rattle.tt_catalog.proofs.Numbered.{all_stored, in_range, length-stored, same_facts}
use Rattle.tt_catalog.proofs.Tallied.{IsTallied}
use Rattle.tt_catalog.proofs.Versions.{AreVersioned, one_changed, same_kept, same_length, same_names, same_schema}
use Rattle.tt_catalog.specs.Changes.{changed_at, facts_from, layouts_after, numbers_behind, stored_from, table_after, with_changed}

-- ---- parts

-- true parts stay true, also where further ones come
true_before : (olds news : List PlainTable) (contents more : List (List Row)) (number : ℕ) (parts : List StoredPart) → AreVersioned olds news → 1 ≤ number → number + length parts ≤ length contents + 1
    → AreTrueParts olds contents number parts → AreTrueParts news (contents ++ more) number parts
true_before olds news contents more number [] same one within are = tt
true_before olds news contents more number (part ∷ parts) same one within (is, are) = (
  record {
    numbered = is.numbered;
    origin = (is.origin.0, omega (arith, is.origin.1, same_length olds news same));
    image =
        is.image ∙ ap (λ (s : Schema). table_with s (rows_numbered contents number)) (sym (same_schema olds news part.facts.origin same))
        ∙ ap (λ (rows : List Row). table_with (schema_at news part.facts.origin) rows) (sym (same_numbered contents more number one (omega (arith, within))));
    rows = is.rows;
    bytes = is.bytes;
  },
  true_before olds news contents more (number + 1) parts same (omega arith) (omega (arith, within)) are,
)

-- those that come are true
true_behind : (tables : List PlainTable) (origin number : ℕ) (before : List (List Row)) (parts : List Table) → length before + 1 ≡ number → (1 ≤ origin) × (origin ≤ length tables)
    → Every (λ (part : Table). part.kinds ≡ kinds_of (schema_at tables origin)) parts → AreTrueParts tables (before ++ map (λ (part : Table). part.rows) parts) number (stored_from origin number parts)
true_behind tables origin number before [] next known kinds = tt
true_behind tables origin number before (part ∷ parts) next known (is, kinds) =
    let contents : List (List Row) = before ++ part.rows ∷ map (λ (p : Table). p.rows) parts in
    let rows : rows_numbered contents number ≡ part.rows =
    ap (λ k. unwrap_or (slice_get contents k) []) (omega (arith, next))
    ∙ ap (λ (o : Option (List Row)). unwrap_or o []) (seam_get before part.rows (map (λ (p : Table). p.rows) parts)) in (
      record {
        numbered = refl;
        origin = known;
        image = ap (λ ks. record { kinds = ks; rows = part.rows }) is ∙ ap (λ rs. table_with (schema_at tables origin) rs) (sym rows);
        rows = refl;
        bytes = refl;
      },
      subst (λ (c : List (List Row)). AreTrueParts tables c (number + 1) (stored_from origin (number + 1) parts)) (append_assoc before (part.rows ∷ []) (map (λ (p : Table). p.rows) parts))
          (true_behind tables origin (number + 1) (before ++ part.rows ∷ []) parts (omega (arith, next, length-append before (part.rows ∷ []))) known kinds),
    )

true_append : (tables : List PlainTable) (contents : List (List Row)) (number : ℕ) (front back : List StoredPart) → AreTrueParts tables contents number front
    → AreTrueParts tables contents (number + length front) back → AreTrueParts tables contents number (front ++ back)
true_append tables contents number [] back are behind = subst (λ n. AreTrueParts tables contents n back) (omega arith) behind
true_append tables contents number (part ∷ front) back (is, are) behind =
    (is, true_append tables contents (number + 1) front back are (subst (λ n. AreTrueParts tables contents n back) (omega arith) behind))

-- ---- the numbers in layouts

part_before : (front back : List StoredPart) (number : ℕ) → 1 ≤ number → number ≤ length front → part_kept (front ++ back) number ≡ part_kept front number
part_before front back number one within = ap table_in (append_get front back (number - 1) (omega (arith, one, within)))

kept_more : (front back : List StoredPart) (kinds : List Kind) (numbers : List ℕ) → AreKeptParts front kinds numbers → AreKeptParts (front ++ back) kinds numbers
kept_more front back kinds numbers are number e =
    let known = are number e in
    (known.0, omega (arith, known.1, length-append front back), ap (λ (t : Table). t.kinds) (part_before front back number known.0 known.1) ∙ known.2)

stored_kinds : (origin number : ℕ) (kinds : List Kind) (parts : List Table) (place : ℕ) → place < length parts → Every (λ (part : Table). part.kinds ≡ kinds) parts
    → (table_in (slice_get (stored_from origin number parts) place)).kinds ≡ kinds
stored_kinds origin number kinds [] place within all = absurd (omega (arith, within))
stored_kinds origin number kinds (part ∷ parts) zero within (is, all) = is
stored_kinds origin number kinds (part ∷ parts) (suc place) within (is, all) = stored_kinds origin (number + 1) kinds parts place (omega (arith, within)) all

pub current_kept : (P : List ℕ → Type 0) (layouts : List (ℕ × List ℕ)) → P [] → Every (λ (layout : ℕ × List ℕ). P layout.1) layouts → P (current_of layouts)
current_kept P [] none all = none
current_kept P (layout ∷ []) none (is, all) = is
current_kept P (layout ∷ next ∷ layouts) none (is, all) = current_kept P (next ∷ layouts) none all

pub none_kept : (parts : List StoredPart) (kinds : List Kind) → AreKeptParts parts kinds []
none_kept parts kinds number e = absurd (false≢true e)

module _ (front : List StoredPart) (origin : ℕ) (kinds : List Kind) (parts : List Table) (all : Every (λ (part : Table). part.kinds ≡ kinds) parts) where
  abbrev whole : List StoredPart
  whole = front ++ stored_from origin (length front + 1) parts

  whole_length : length whole ≡ length front + length parts
  whole_length = length-append front (stored_from origin (length front + 1) parts) ∙ ap (λ n. length front + n) (length-stored origin (length front + 1) parts)

  new_kept : AreKeptParts whole kinds (numbers_behind (length front) parts)
  new_kept number e =
      let range = in_range (length front + 1) (length parts) number e in
      let place : number - 1 ≡ length front + (number - 1 - length front) = omega (arith, range.0) in (
        omega (arith, range.0),
        omega (arith, range.1, whole_length),
        ap (λ k. (table_in (slice_get whole k)).kinds) place
            ∙ ap (λ (o : Option StoredPart). (table_in o).kinds) (behind_get front (stored_from origin (length front + 1) parts) (number - 1 - length front))
            ∙ stored_kinds origin (length front + 1) kinds parts (number - 1 - length front) (omega (arith, range.0, range.1)) all,
      )

  changed_kept : (current gone : List ℕ) → AreKeptParts front kinds current → AreKeptParts whole kinds (changed current gone (numbers_behind (length front) parts))
  changed_kept current gone are number e =
      elim (or_cases (has current number && not (has gone number)) (has (numbers_behind (length front) parts) number) (sym (has-changed current gone (numbers_behind (length front) parts) number) ∙ e)) [
        | inl h ↦ kept_more front (stored_from origin (length front + 1) parts) kinds current are number (and_parts (has current number) (not (has gone number)) h).0
        | inr h ↦ new_kept number h
      ]

  abbrev Layout : List StoredPart → ℕ × List ℕ → Type 0
  Layout kept layout = AreKeptParts kept kinds layout.1

  all_more : (layouts : List (ℕ × List ℕ)) → Every (Layout front) layouts → Every (Layout whole) layouts
  all_more layouts are = every_on (Layout front) (Layout whole) layouts (λ layout known. kept_more front (stored_from origin (length front + 1) parts) kinds layout.1 known) are

  layouts_kept : (layouts : List (ℕ × List ℕ)) (moment : ℕ) (gone : List ℕ) → Every (Layout front) layouts → Every (Layout whole) (layouts_after layouts moment gone (numbers_behind (length front) parts))
  layouts_kept layouts moment gone are = by gone (numbers_behind (length front) parts) (pushed gone)
    where
      pushed : (gone : List ℕ) → Every (Layout whole) (with_change layouts moment gone (numbers_behind (length front) parts))
      pushed gone =
          every-append (Layout whole) layouts ((moment, changed (current_of layouts) gone (numbers_behind (length front) parts)) ∷ []) (all_more layouts are)
          (changed_kept (current_of layouts) gone (current_kept (AreKeptParts front kinds) layouts (none_kept front kinds) are), tt)

      by : (gone numbers : List ℕ) → Every (Layout whole) (with_change layouts moment gone numbers) → Every (Layout whole) (layouts_after layouts moment gone numbers)
      by [] [] all = all_more layouts are
      by [] (n ∷ numbers) all = all
      by (n ∷ gone) numbers all = all

every_changed : {A : Type 0} (P Q : A → Type 0) (f : A → A) (xs : List A) (place : ℕ) → Every P xs → ((x : A) → P x → Q x) → ((x : A) → slice_get xs place ≡ Some x → P x → Q (f x))
    → Every Q (changed_at f xs place)
every_changed P Q f [] place all stay here = tt
every_changed P Q f (x ∷ xs) zero (is, all) stay here = (here x refl is, every_on P Q xs stay all)
every_changed P Q f (x ∷ xs) (suc place) (is, all) stay here = (stay x is, every_changed P Q f xs place all stay here)

abbrev schema_kept : Option TableState → Schema
schema_kept None = record { columns = [] }
schema_kept (Some table) = table.schema

same_schemas : (tally : Tally) (found : Option PlainTable) → schema_kept (option_map (table_of tally) found) ≡ schema_of found
same_schemas tally None = refl
same_schemas tally (Some table) = refl

-- ---- the whole

module _ (moment count : ℕ) (olds news : List PlainTable) (tally after : Tally) (contents : List (List Row)) (kept : Kept) (session table : ℕ) (gone : List ℕ) (parts : List Table) (keeps : KeepsTables olds tally contents kept)
    (sound : AreSoundTables moment count 1 olds) (versioned : AreVersioned olds news)
    (is : IsTallied tally after session table (kept.moment + 1) gone (numbers_behind (length kept.parts) parts) (facts_from (length kept.parts + 1) parts))
    (one : 1 ≤ table) (within : table ≤ length olds) (kinds : Every (λ (part : Table). part.kinds ≡ kinds_of (schema_at olds table)) parts) where
  abbrev added : List Added
  added = facts_from (length kept.parts + 1) parts

  abbrev come : List StoredPart
  come = stored_from table (length kept.parts + 1) parts

  abbrev change : TableState → TableState
  change = table_after (kept.moment + 1) gone (numbers_behind (length kept.parts) parts)

  stored_now : stored_parts after ≡ stored_parts tally ++ map (part_added table) added
  stored_now =
      ap (filter (λ (part : TallyPart). part.stored)) is.parts ∙ filter-append (λ (part : TallyPart). part.stored) tally.parts (map (part_added table) added)
      ∙ ap (λ (ps : List TallyPart). stored_parts tally ++ ps) (all_stored table added)

  one_table : (t : PlainTable) → t.number ≡ table → table_of after t ≡ change (table_of tally t)
  one_table t e =
      ap (λ (ls : List (ℕ × List ℕ)). record (table_of tally t) { facts = record (table_of tally t).facts { layouts = ls } })
      (ap (layouts_of after) e ∙ is.here ∙ ap (λ n. layouts_after (layouts_of tally n) (kept.moment + 1) gone (numbers_behind (length kept.parts) parts)) (sym e))

  -- the table's schema is that of the store
  schema_here : (t : TableState) → slice_get kept.tables (table - 1) ≡ Some t → t.schema ≡ schema_at olds table
  schema_here t e =
      sym (ap schema_kept (sym (ap (λ (ts : List TableState). slice_get ts (table - 1)) keeps.tables ∙ slice_get-map (table_of tally) olds (table - 1)) ∙ e)) ∙ same_schemas tally (slice_get olds (table - 1))

  parts_in : (t : TableState) → slice_get kept.tables (table - 1) ≡ Some t → HasKeptParts kept.parts t → HasKeptParts (kept.parts ++ come) (change t)
  parts_in t e are =
      layouts_kept kept.parts table (kinds_of t.schema) parts (subst (λ (s : Schema). Every (λ (part : Table). part.kinds ≡ kinds_of s) parts) (sym (schema_here t e)) kinds)
      t.facts.layouts (kept.moment + 1) gone are

  parts_stay : (t : TableState) → HasKeptParts kept.parts t → HasKeptParts (kept.parts ++ come) t
  parts_stay t are =
      every_on (λ (layout : ℕ × List ℕ). AreKeptParts kept.parts (kinds_of t.schema) layout.1) (λ (layout : ℕ × List ℕ). AreKeptParts (kept.parts ++ come) (kinds_of t.schema) layout.1) t.facts.layouts
      (λ layout known. kept_more kept.parts come (kinds_of t.schema) layout.1 known) are

  new_parts : AreTrueParts news (contents ++ map (λ (part : Table). part.rows) parts) (length kept.parts + 1) come
  new_parts =
      true_behind news table (length kept.parts + 1) contents parts (omega (arith, keeps.contents)) (one, omega (arith, within, same_length olds news versioned))
      (subst (λ (s : Schema). Every (λ (part : Table). part.kinds ≡ kinds_of s) parts) (sym (same_schema olds news table versioned)) kinds)

  pub landed_tables : (program : Script) (index : ℕ) → KeepsTables news after (contents ++ map (λ (part : Table). part.rows) parts) (with_changed program kept session index table gone parts)
  landed_tables program index = record {
    tables =
        ap (λ (ts : List TableState). changed_at change ts (table - 1)) keeps.tables
        ∙ sym (one_changed tally after moment count change table is.others one_table 1 (table - 1) olds (omega arith) (omega (arith, one)) sound)
        ∙ sym (same_kept after olds news versioned);
    names = same_names olds news kept.names versioned keeps.names;
    facts =
        map-append (λ (part : StoredPart). part.facts) kept.parts come
        ∙ ap (λ (fs : List PartFacts). fs ++ map (λ (part : StoredPart). part.facts) come) keeps.facts
        ∙ ap (λ (fs : List PartFacts). map facts_of_part (stored_parts tally) ++ fs) (same_facts table (length kept.parts + 1) parts)
        ∙ sym (ap (map facts_of_part) stored_now ∙ map-append facts_of_part (stored_parts tally) (map (part_added table) added));
    whole = stored_now ∙ ap (λ (ps : List TallyPart). ps ++ map (part_added table) added) keeps.whole ∙ sym is.parts;
    parts =
        true_append news (contents ++ map (λ (part : Table). part.rows) parts) 1 kept.parts come
        (true_before olds news contents (map (λ (part : Table). part.rows) parts) 1 kept.parts versioned (omega arith) (omega (arith, keeps.contents)) keeps.parts)
        (subst (λ n. AreTrueParts news (contents ++ map (λ (part : Table). part.rows) parts) n come) (omega arith) new_parts);
    contents =
        omega (
          arith,
          keeps.contents,
          length-append contents (map (λ (part : Table). part.rows) parts),
          length-map parts (λ (part : Table). part.rows),
          length-append kept.parts come,
          length-stored table (length kept.parts + 1) parts,
        );
    layouts = every_changed (HasKeptParts kept.parts) (HasKeptParts (kept.parts ++ come)) change kept.tables (table - 1) keeps.layouts parts_stay parts_in;
  }
