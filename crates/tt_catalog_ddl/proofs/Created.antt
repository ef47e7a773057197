-- A CREATE TABLE on what is kept is its step on the store.
use Rattle.std.specs.Option.{option_or}
use Rattle.std.specs.Prelude.{Bool, List, None, Option, Some, [], bytes_eq, cond, false, find, length, map, option_map, refl, slice_get, true, unwrap_or, ℕ, ◌&&◌, ◌++◌, ◌+◌, ◌-◌, ◌<◌, ◌∷◌, ◌≡◌, ◌≤◌}
use Rattle.std.proofs.Common.{ap, arith, subst, suc, sym, zero, ◌∙◌}
use Rattle.std.proofs.lemmas.Bool.{false≢true}
use Rattle.std.proofs.lemmas.Slice.Eq.{bytes_eq-Decides}
use Rattle.std.proofs.lemmas.List.{length_push, map-append}
use Rattle.std.proofs.lemmas.List.Folds.{find-append}
use Rattle.tt_value.specs.declared.value.Kind.{Kind}
use Rattle.tt_value.specs.declared.value.Row.{Row}
use Rattle.tt_script.specs.declared.script.Script.{Script}
use Rattle.tt_names.specs.Changes.{bound}
use Rattle.tt_names.specs.Registry.{Registry, live_of}
use Rattle.tt_names.proofs.Laws.{live_of-bound}
use Rattle.tt_plain.proofs.law.Lists.{every-append}
use Rattle.tt_plain.specs.declared.store.Plain.{Plain}
use Rattle.tt_plain.specs.declared.store.PlainTable.{PlainTable}
use Rattle.tt_plain.specs.declared.tally.Tally.{Tally}
use Rattle.tt_plain.specs.history.Contents.{rows_numbered}
use Rattle.tt_plain.specs.law.Lists.{Every}
use Rattle.tt_plain.specs.law.Sound.{AreSoundTables, IsSound}
use Rattle.tt_plain.specs.stored.Tables.{is_live}
use Rattle.tt_plain.specs.tally.Facts.{facts_of_table}
use Rattle.tt_plain.specs.tally.Layouts.{layouts_of}
use Rattle.tt_partition.specs.Cuts.{kinds_of, table_with}
use Rattle.tt_built.specs.Built.{built}
use Rattle.tt_state.specs.Keeps.{AreKeptParts, AreNames, AreTrueParts, HasKeptParts, IsTruePart, KeepsTables, is_live_as, schema_of, table_of}
use Rattle.tt_state.specs.Kept.{Kept}
use Rattle.tt_state.specs.declared.part.StoredPart.{StoredPart}
use Rattle.tt_state.specs.declared.state.TableState.{TableState}

-- ---- one more at the end

pub get_front : {A : Type 0} (xs : List A) (x : A) (k : ℕ) → k < length xs → slice_get xs k ≡ slice_get (xs ++ x ∷ []) k
get_front [] x k less = absurd (omega (arith, less))
get_front (first ∷ xs) x zero less = refl
get_front (first ∷ xs) x (suc k) less = get_front xs x k (omega (arith, less))

pub get_last : {A : Type 0} (xs : List A) (x : A) (k : ℕ) → k ≡ length xs → slice_get (xs ++ x ∷ []) k ≡ Some x
get_last [] x zero e = refl
get_last [] x (suc k) e = absurd (omega (arith, e))
get_last (first ∷ xs) x zero e = absurd (omega (arith, e))
get_last (first ∷ xs) x (suc k) e = get_last xs x k (omega (arith, e))

or_none : {A : Type 0} (o : Option A) → option_or o None ≡ o
or_none None = refl
or_none (Some x) = refl

-- ---- what is kept of tables, with one more

abbrev pub more : Tally → ℕ → Tally
more tally moment = record tally { layouts = tally.layouts ++ ((moment, []) ∷ []) ∷ [] }

same_tables : (tally : Tally) (begun moment count number : ℕ) (tables : List PlainTable) → AreSoundTables moment count number tables → 1 ≤ number → number + length tables ≤ length tally.layouts + 1
    → map (table_of tally) tables ≡ map (table_of (more tally begun)) tables
same_tables tally begun moment count number [] all from_one le = refl
same_tables tally begun moment count number (table ∷ tables) all from_one le =
    let here : layouts_of tally table.number ≡ layouts_of (more tally begun) table.number =
    ap (λ o. unwrap_or o []) (get_front tally.layouts ((begun, []) ∷ []) (table.number - 1) (omega (arith, all.0.numbered, from_one, le))) in
    ap (λ ls. record (table_of tally table) { facts = record (facts_of_table tally table) { layouts = ls } } ∷ map (table_of tally) tables) here
    ∙ ap (λ ts. table_of (more tally begun) table ∷ ts) (same_tables tally begun moment count (number + 1) tables all.1 (omega arith) (omega (arith, le)))

-- a name that is bound is that of the new table
names_more : (tables : List PlainTable) (table : PlainTable) (names : Registry) → AreNames tables names → is_live table ≡ true → find (is_live_as table.name) tables ≡ None
    → AreNames (tables ++ table ∷ []) (bound table.name table.number names)
names_more tables table names are live free q =
    live_of-bound table.name q table.number names ∙ by (bytes_eq table.name q) refl
    ∙ ap (option_map (λ (t : PlainTable). t.number)) (sym (find-append (is_live_as q) tables (table ∷ [])))
  where
    found : Bool → Option PlainTable
    found b = cond b (Some table) None

    by : (b : Bool) → bytes_eq table.name q ≡ b → cond b (Some table.number) (live_of q names) ≡ option_map (λ (t : PlainTable). t.number) (option_or (find (is_live_as q) tables) (find (is_live_as q) (table ∷ [])))
    by true e =
        let same : table.name ≡ q = (bytes_eq-Decides table.name q).0 e in
        let none : find (is_live_as q) tables ≡ None = ap (λ n. find (is_live_as n) tables) (sym same) ∙ free in
        let here : find (is_live_as q) (table ∷ []) ≡ Some table = ap (λ l. found (l && bytes_eq table.name q)) live ∙ ap found e in
        ap (λ o. option_map (λ (t : PlainTable). t.number) (option_or o (Some table))) (sym none)
        ∙ ap (λ o. option_map (λ (t : PlainTable). t.number) (option_or (find (is_live_as q) tables) o)) (sym here)
    by false e =
        let here : find (is_live_as q) (table ∷ []) ≡ None = ap (λ l. found (l && bytes_eq table.name q)) live ∙ ap found e in
        are q ∙ ap (option_map (λ (t : PlainTable). t.number)) (sym (or_none (find (is_live_as q) tables)) ∙ ap (option_or (find (is_live_as q) tables)) (sym here))

true_more : (tables : List PlainTable) (table : PlainTable) (contents : List (List Row)) (number : ℕ) (parts : List StoredPart) → AreTrueParts tables contents number parts → AreTrueParts (tables ++ table ∷ []) contents number parts
true_more tables table contents number [] all = tt
true_more tables table contents number (part ∷ parts) all =
    let here : IsTruePart tables contents number part = all.0 in (
      record {
        numbered = here.numbered;
        origin = (here.origin.0, omega (arith, here.origin.1, length_push tables table));
        image = here.image ∙ ap (λ o. table_with (schema_of o) (rows_numbered contents number)) (get_front tables table (part.facts.origin - 1) (omega (arith, here.origin.0, here.origin.1)));
        rows = here.rows;
        bytes = here.bytes;
      },
      true_more tables table contents (number + 1) parts all.1,
    )

nothing_in : (parts : List StoredPart) (kinds : List Kind) → AreKeptParts parts kinds []
nothing_in parts kinds number e = absurd (false≢true e)

pub tables_made : (program : Script) (store : Plain) (contents : List (List Row)) (kept now : Kept) (table : PlainTable) (begun : ℕ) → IsSound built program store → KeepsTables store.tables store.tally contents kept
    → table.number ≡ length store.tables + 1 → is_live table ≡ true → find (is_live_as table.name) store.tables ≡ None
    → now.tables ≡ kept.tables ++ table_of (more store.tally begun) table ∷ [] → now.names ≡ bound table.name table.number kept.names → now.parts ≡ kept.parts
    → KeepsTables (store.tables ++ table ∷ []) (more store.tally begun) contents now
tables_made program store contents kept now table begun sound keeps numbered live free t n p =
    let own : layouts_of (more store.tally begun) table.number ≡ (begun, []) ∷ [] =
    ap (λ o. unwrap_or o []) (get_last store.tally.layouts ((begun, []) ∷ []) (table.number - 1) (omega (arith, numbered, sound.layouts))) in
    record {
      tables = t ∙ ap (λ ts. ts ++ table_of (more store.tally begun) table ∷ []) (keeps.tables ∙ same_tables store.tally begun store.moment (length store.tables) 1 store.tables sound.tables (omega arith) (omega (arith, sound.layouts)))
          ∙ sym (map-append (table_of (more store.tally begun)) store.tables (table ∷ []));
      names = subst (AreNames (store.tables ++ table ∷ [])) (sym n) (names_more store.tables table kept.names keeps.names live free);
      facts = ap (map (λ (part : StoredPart). part.facts)) p ∙ keeps.facts;
      whole = keeps.whole;
      parts = subst (AreTrueParts (store.tables ++ table ∷ []) contents 1) (sym p) (true_more store.tables table contents 1 kept.parts keeps.parts);
      contents = keeps.contents ∙ ap (λ (ps : List StoredPart). length ps) (sym p);
      layouts = subst (λ (ps : List StoredPart). Every (HasKeptParts ps) now.tables) (sym p)
          (subst (λ (ts : List TableState). Every (HasKeptParts kept.parts) ts) (sym t)
          (every-append (HasKeptParts kept.parts) kept.tables (table_of (more store.tally begun) table ∷ []) keeps.layouts
          (subst (λ (ls : List (ℕ × List ℕ)). Every (λ (layout : ℕ × List ℕ). AreKeptParts kept.parts (kinds_of table.schema) layout.1) ls) (sym own) (nothing_in kept.parts (kinds_of table.schema), tt), tt)));
    }
