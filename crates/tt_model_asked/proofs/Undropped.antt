-- The last of the tables that were dropped.
use Rattle.std.proofs.Common.{◌≡◌, ℕ, ◌+◌, ◌<◌, ◌≤◌, Bool, true, false, cond, List, [], ◌∷◌, length, drop, get_or, Option, Some, None, refl, ap, sym, ◌∙◌}
use Rattle.std.specs.List.{filter, reduce}
use Rattle.std.specs.Prelude.{fold}
use Rattle.std.proofs.lemmas.List.{drop_all}
use Rattle.tt_plain.specs.declared.store.PlainTable.{PlainTable}
use Rattle.tt_plain.specs.refusal.NothingToUndrop.{later_dropped}
use Rattle.tt_model_asked.specs.UndropAs.{later_of}
use Rattle.tt_typer.proofs.Leftmost.{from_item}

-- the last of one that was found and of others
abbrev pub last_of : Option PlainTable → List PlainTable → Option PlainTable
last_of None tables = reduce later_dropped tables
last_of (Some table) tables = Some (fold later_dropped table tables)

one_more : (found : Option PlainTable) (table : PlainTable) (tables : List PlainTable) → last_of found (table ∷ tables) ≡ last_of (Some (later_of found table)) tables
one_more None table tables = refl
one_more (Some other) table tables = refl

abbrev pub HasLast : (PlainTable → Bool) → List PlainTable → ℕ → Option PlainTable → Type 0
HasLast test tables place found = last_of found (filter test (drop place tables)) ≡ reduce later_dropped (filter test tables)

next : (test : PlainTable → Bool) (table : PlainTable) (tables : List PlainTable) (b : Bool) → test table ≡ b → filter test (table ∷ tables) ≡ cond b (table ∷ filter test tables) (filter test tables)
next test table tables b h = rw h refl

pub taken : (test : PlainTable → Bool) (tables : List PlainTable) (place : ℕ) (found : Option PlainTable) (table : PlainTable) → place < length tables → table ≡ get_or tables place table → test table ≡ true
    → HasLast test tables place found → HasLast test tables (place + 1) (Some (later_of found table))
taken test tables place found table below is h so_far =
    sym (one_more found table (filter test (drop (place + 1) tables)))
    ∙ ap (last_of found) (sym (next test table (drop (place + 1) tables) true h) ∙ ap (filter test) (sym (from_item tables place table below is)))
    ∙ so_far

pub passed : (test : PlainTable → Bool) (tables : List PlainTable) (place : ℕ) (found : Option PlainTable) (table : PlainTable) → place < length tables → table ≡ get_or tables place table → test table ≡ false
    → HasLast test tables place found → HasLast test tables (place + 1) found
passed test tables place found table below is h so_far =
    ap (last_of found) (sym (next test table (drop (place + 1) tables) false h) ∙ ap (filter test) (sym (from_item tables place table below is)))
    ∙ so_far

none_more : (found : Option PlainTable) → last_of found [] ≡ found
none_more None = refl
none_more (Some table) = refl

pub ended : (test : PlainTable → Bool) (tables : List PlainTable) (place : ℕ) (found : Option PlainTable) → length tables ≤ place → HasLast test tables place found → found ≡ reduce later_dropped (filter test tables)
ended test tables place found past so_far = sym (none_more found) ∙ ap (λ rest. last_of found (filter test rest)) (sym (drop_all place tables past)) ∙ so_far
