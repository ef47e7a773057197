-- The parts that a ticket holds: those of the table's current layout, each with its contents, and what they form.
use Rattle.std.specs.List.{AllZip, list_any}
use Rattle.std.specs.Option.{option_and_then}
use Rattle.std.specs.Prelude.{Bool, List, None, Ok, Option, Some, [], false, flat_map, if◌then◌else◌, length, map, refl, slice_get, true, ℕ, ◌++◌, ◌+◌, ◌-◌, ◌<◌, ◌==◌, ◌||◌, ◌∷◌, ◌≡◌, ◌≤◌}
use Rattle.std.proofs.Common.{ap, arith, subst, suc, sym, zero, ◌∙◌}
use Rattle.std.proofs.lemmas.Bool.{false≢true}
use Rattle.std.proofs.lemmas.Option.{none-some, same_Some}
use Rattle.tt_layout.specs.Chain.{current_of}
use Rattle.tt_layout.specs.Numbers.{has}
use Rattle.tt_names.specs.Registry.{live_of}
use Rattle.tt_partition.specs.Cuts.{kinds_of, table_with}
use Rattle.tt_partition.specs.Table.{Table}
use Rattle.tt_plain.proofs.Tests.{same_test}
use Rattle.tt_plain.proofs.law.Lists.{every_at}
use Rattle.tt_plain.specs.asked.Request.{request_in}
use Rattle.tt_plain.specs.asked.Turns.{asked_with}
use Rattle.tt_plain.specs.declared.store.PlainOpen.{PlainOpen}
use Rattle.tt_plain.specs.declared.store.PlainTable.{PlainTable}
use Rattle.tt_plain.specs.declared.tally.Tally.{Tally}
use Rattle.tt_plain.specs.declared.tally.TallyPin.{TallyPin}
use Rattle.tt_plain.specs.history.Contents.{rows_numbered, rows_of_parts}
use Rattle.tt_plain.specs.law.Bag.{BagsAreFormed, PinForms, pins_of, seen_in_pins}
use Rattle.tt_plain.specs.law.Lists.{Every}
use Rattle.tt_plain_laws.proofs.entry.Histories.{legal_bags}
use Rattle.tt_sql.specs.declared.statement.Statement.{Statement}
use Rattle.tt_value.specs.declared.value.Kind.{Kind}
use Rattle.tt_value.specs.declared.value.Row.{Row}
use Rattle.tt_value.specs.declared.value.Schema.{Schema}
use Rattle.tt_value.specs.values.Bags.{bag_of}
use Rattle.tt_built.specs.Built.{built}
use Rattle.tt_state.proofs.Histories.{in_time, store_is}
use Rattle.tt_state.specs.Chronicle.{Chronicle, IsOpenRead, rows_of, store_of}
use Rattle.tt_state.specs.Keeps.{AreKeptParts, ArePartNumbers, AreTrueParts, HasKeptParts, IsTruePart, KeepsTables, StandsFor, schema_at}
use Rattle.tt_state.specs.Kept.{Kept, live_kept, numbers_now, part_kept, table_in, table_kept, with_part}
use Rattle.tt_state.specs.declared.part.StoredPart.{StoredPart}
use Rattle.tt_state.specs.declared.state.TableState.{TableState}
use Rattle.tt_state.specs.declared.ticket.Seen.{Seen}
use Rattle.tt_catalog.specs.Starts.{HasAllParts}
use Rattle.tt_state.specs.Held.{rows_held}
use Rattle.tt_catalog.specs.Tickets.{IsHeld, StandsForRows, part_of}

-- ---- the numbers of a table's parts

live_place : (tables : List TableState) (number : Option ℕ) (table : TableState) → option_and_then (table_kept tables) number ≡ Some table → (place : ℕ) × (slice_get tables place ≡ Some table)
live_place tables None table e = absurd (none-some table e)
live_place tables (Some number) table e = by (number == 0) e
  where
    by : (b : Bool) → (if b then None else slice_get tables (number - 1)) ≡ Some table → (place : ℕ) × (slice_get tables place ≡ Some table)
    by true f = absurd (none-some table f)
    by false f = (number - 1, f)

-- what holds of every layout, and of no part, holds of the current one
current_too : (P : List ℕ → Type 0) (layouts : List (ℕ × List ℕ)) → P [] → Every (λ (layout : ℕ × List ℕ). P layout.1) layouts → P (current_of layouts)
current_too P [] none all = none
current_too P (l ∷ []) none all = all.0
current_too P (l ∷ m ∷ layouts) none all = current_too P (m ∷ layouts) none all.1

pub numbers_kept : (kept : Kept) (name : List ℕ) (table : TableState) → HasAllParts kept → live_kept kept name ≡ Some table → AreKeptParts kept.parts (kinds_of table.schema) (numbers_now table)
numbers_kept kept name table all live =
    let at = live_place kept.tables (live_of name kept.names) table live in
    current_too (AreKeptParts kept.parts (kinds_of table.schema)) table.facts.layouts (λ number e. absurd (false≢true e))
    (every_at (HasKeptParts kept.parts) kept.tables at.0 table all at.1)

pub numbers_there : (kept : Kept) (name : List ℕ) (table : TableState) → HasAllParts kept → live_kept kept name ≡ Some table → ArePartNumbers (length kept.parts) (numbers_now table)
numbers_there kept name table all live number e =
    let here = numbers_kept kept name table all live number e in (here.0, here.1)

-- ---- a part by its number

pub some_at : {A : Type 0} (xs : List A) (k : ℕ) → k < length xs → (x : A) × (slice_get xs k ≡ Some x)
some_at [] k less = absurd (omega (arith, less))
some_at (x ∷ xs) zero less = (x, refl)
some_at (x ∷ xs) (suc k) less = some_at xs k (omega (arith, less))

pub true_at : (tables : List PlainTable) (contents : List (List Row)) (first number : ℕ) (parts : List StoredPart) (k : ℕ) (part : StoredPart) → AreTrueParts tables contents first parts → slice_get parts k ≡ Some part → number ≡ first + k
    → IsTruePart tables contents number part
true_at tables contents first number [] k part all e is = absurd (none-some part e)
true_at tables contents first number (p ∷ parts) zero part all e is =
    let here : first ≡ number = omega (arith, is) in
    subst (λ n. IsTruePart tables contents n part) here (subst (IsTruePart tables contents first) (same_Some p part e) all.0)
true_at tables contents first number (p ∷ parts) (suc k) part all e is = true_at tables contents (first + 1) number parts k part all.1 e (omega (arith, is))

with_kinds : (table : Table) (schema : Schema) (kinds : List Kind) (rows : List Row) → table ≡ table_with schema rows → table.kinds ≡ kinds → table ≡ record { kinds = kinds; rows = rows }
with_kinds table schema kinds rows is same =
    let named : kinds_of schema ≡ kinds = sym (ap (λ (t : Table). t.kinds) is) ∙ same in
    is ∙ ap (λ ks. record { kinds = ks; rows = rows }) named

-- it has its kinds and its contents
part_tied : (tables : List PlainTable) (tally : Tally) (rows : List (List Row)) (kept : Kept) (kinds : List Kind) (number : ℕ) → KeepsTables tables tally rows kept → 1 ≤ number → number ≤ length kept.parts
    → (part_kept kept.parts number).kinds ≡ kinds → part_kept kept.parts number ≡ record { kinds = kinds; rows = rows_numbered rows number }
part_tied tables tally rows kept kinds number keeps from_one within same =
    let at = some_at kept.parts (number - 1) (omega (arith, from_one, within)) in
    let here = true_at tables rows 1 number kept.parts (number - 1) at.0 keeps.parts at.1 (omega (arith, from_one)) in
    with_kinds (part_kept kept.parts number) (schema_at tables at.0.facts.origin) kinds (rows_numbered rows number) (ap table_in at.1 ∙ here.image) same

or_true : (b : Bool) → (b || true) ≡ true
or_true true = refl
or_true false = refl

map_has : {A : Type 0} (f g : ℕ → A) (ns : List ℕ) → ((n : ℕ) → has ns n ≡ true → f n ≡ g n) → map f ns ≡ map g ns
map_has f g [] each = refl
map_has f g (n ∷ ns) each =
    ap (λ x. x ∷ map f ns) (each n (ap (λ b. b || list_any (λ m. m == n) ns) (same_test n)))
    ∙ ap (λ xs. g n ∷ xs) (map_has f g ns (λ m e. each m (ap (λ b. (n == m) || b) e ∙ or_true (n == m))))

-- the current parts of a table, each with its contents
pub parts_tied : (chronicle : Chronicle) (kept : Kept) (name : List ℕ) (table : TableState) → KeepsTables (store_of chronicle).tables (store_of chronicle).tally (rows_of chronicle) kept → live_kept kept name ≡ Some table
    → map (with_part kept.parts) (numbers_now table) ≡ map (part_of chronicle table.schema) (numbers_now table)
parts_tied chronicle kept name table keeps live =
    map_has (with_part kept.parts) (part_of chronicle table.schema) (numbers_now table) (λ n e.
    let here = numbers_kept kept name table keeps.layouts live n e in
    ap (λ part. (n, part)) (part_tied (store_of chronicle).tables (store_of chronicle).tally (rows_of chronicle) kept (kinds_of table.schema) n keeps here.0 here.1 here.2))

-- ---- what is held stands for what is seen

flat_map_map : {A B C : Type 0} (f : B → List C) (g : A → B) (xs : List A) → flat_map f (map g xs) ≡ flat_map (λ x. f (g x)) xs
flat_map_map f g [] = refl
flat_map_map f g (x ∷ xs) = ap (λ ys. f (g x) ++ ys) (flat_map_map f g xs)

rows_are : (chronicle : Chronicle) (pin : TallyPin) (held : Seen) → IsHeld chronicle pin held → rows_held held ≡ rows_of_parts (rows_of chronicle) pin.parts
rows_are chronicle pin held is =
    ap (flat_map (λ (part : ℕ × Table). part.1.rows)) is.parts ∙ flat_map_map (λ (part : ℕ × Table). part.1.rows) (part_of chronicle held.schema) pin.parts

stand_for : (chronicle : Chronicle) (seen : List (ℕ × List Row)) (pins : List TallyPin) (held : List Seen) → AllZip (PinForms (rows_of chronicle)) seen pins → AllZip (IsHeld chronicle) pins held → AllZip StandsForRows seen held
stand_for chronicle [] [] [] forms holds = tt
stand_for chronicle [] [] (h ∷ held) forms holds = absurd holds
stand_for chronicle [] (pin ∷ pins) held forms holds = absurd forms
stand_for chronicle (s ∷ seen) [] held forms holds = absurd forms
stand_for chronicle (s ∷ seen) (pin ∷ pins) [] forms holds = absurd holds
stand_for chronicle (s ∷ seen) (pin ∷ pins) (h ∷ held) forms holds =
    ((holds.0.table ∙ forms.0.0, ap bag_of (rows_are chronicle pin h holds.0) ∙ forms.0.1), stand_for chronicle seen pins held forms.1 holds.1)

-- by the law of bags, whose conditions each catalog meets
pub formed : (chronicle : Chronicle) (kept : Kept) (room : ℕ) → StandsFor chronicle kept room → BagsAreFormed built chronicle.program (rows_of chronicle) (store_of chronicle)
formed chronicle kept room stands =
    let run = stands.legal.run in
    subst (BagsAreFormed built chronicle.program (rows_of chronicle)) (sym (store_is built chronicle.program chronicle.history run stands.legal.replayed))
    (legal_bags built chronicle.program chronicle.history run (in_time chronicle kept room stands) stands.legal.replayed stands.true_facts.removed)

pub bags_held : (chronicle : Chronicle) (kept : Kept) (room session index : ℕ) (s : Statement) (seen : PlainOpen) (held : List Seen) → StandsFor chronicle kept room → IsOpenRead chronicle session index (Ok s) seen
    → AllZip (IsHeld chronicle) (pins_of (store_of chronicle).tally session) held → AllZip StandsForRows (seen_in_pins (request_in s) seen) held
bags_held chronicle kept room session index s seen held stands opened holds =
    let forms = (formed chronicle kept room stands).pinned session index (asked_with chronicle.program (store_of chronicle) session index (Ok s)) seen opened in
    stand_for chronicle (seen_in_pins (request_in s) seen) (pins_of (store_of chronicle).tally session) held forms holds
