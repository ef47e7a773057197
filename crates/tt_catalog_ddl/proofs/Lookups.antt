-- What a look-up that found a table, or none, and a statement that was checked, say.
use Rattle.std.specs.Borrow.{Bor}
use Rattle.std.specs.Option.{option_and_then, option_copied}
use Rattle.std.specs.Prelude.{IfErr, List, None, OnOk, Option, Some, false, find, is_some, option_map, refl, true, ℕ, ◌+◌, ◌<◌, ◌^◌, ◌≡◌, length}
use Rattle.std.specs.Result.{result_err}
use Rattle.std.proofs.Common.{Err, Ok, Result, ap, arith, subst, sym, ◌∙◌}
use Rattle.std.proofs.lemmas.Bool.{false≢true}
use Rattle.std.proofs.lemmas.List.{length-map}
use Rattle.std.proofs.lemmas.Option.{none-some}
use Rattle.tt_value.specs.declared.value.Schema.{Schema}
use Rattle.tt_script.specs.declared.script.Script.{Script}
use Rattle.tt_sql.specs.declared.statement.Statement.{Statement}
use Rattle.tt_sql.specs.declared.table.CreatedTable.{CreatedTable}
use Rattle.tt_history.specs.declared.history.Told.{Told}
use Rattle.tt_history.specs.declared.reply.Refusal.{Refusal}
use Rattle.tt_history.specs.declared.reply.Reply.{Reply}
use Rattle.tt_plain.proofs.law.session.Views.{is_table}
use Rattle.tt_plain.specs.TypingRefusal.{typing_refusal}
use Rattle.tt_plain.specs.declared.store.PlainTable.{PlainTable}
use Rattle.tt_built.specs.Built.{built}
use Rattle.tt_state.proofs.Histories.{early, stands_sound}
use Rattle.tt_state.proofs.Lookups.{found_at, number_tied}
use Rattle.tt_state.proofs.Owed.{few_statements}
use Rattle.tt_state.specs.Chronicle.{Chronicle, rows_of, store_of}
use Rattle.tt_state.specs.Keeps.{StandsFor, is_live_as, table_of}
use Rattle.tt_state.specs.Kept.{Kept, table_kept}
use Rattle.tt_state.specs.Moves.{IsReady}
use Rattle.tt_state.specs.declared.state.TableState.{TableState}
use Rattle.tt_history.specs.declared.history.Told.TheVariants as told
use Rattle.tt_catalog_ddl.specs.Creates.{CarriesOut, Creates, NamesAreKnown, refusal_beside}

pub copied_some : {A : Type 0} (found : Option (Bor A)) → is_some found ≡ true → (x : A) × (option_copied found ≡ Some x)
copied_some None e = absurd (false≢true e)
copied_some (Some x) e = (x.now, refl)

pub copied_none : {A : Type 0} (found : Option (Bor A)) → is_some found ≡ false → option_copied found ≡ None
copied_none None e = refl
copied_none (Some x) e = absurd (false≢true (sym e))

pub checked : {A : Type 0} (result : Result A Refusal) (schemas : List Schema) (s : Statement) → OnOk result (typing_refusal schemas s ≡ None) → IfErr result (λ refusal. typing_refusal schemas s ≡ Some refusal) → result_err result ≡ typing_refusal schemas s
checked (Ok done) schemas s free refused = sym free
checked (Err refusal) schemas s free refused = sym refused

-- a name that finds no table is no table's
pub names_known : (chronicle : Chronicle) (kept : Kept) (room : ℕ) → StandsFor chronicle kept room → NamesAreKnown kept
names_known chronicle kept room stands name none =
    stands.tables.names name ∙ by (find (is_live_as name) (store_of chronicle).tables) refl
  where
    by : (found : Option PlainTable) → find (is_live_as name) (store_of chronicle).tables ≡ found → option_map (λ (t : PlainTable). t.number) found ≡ None
    by None e = refl
    by (Some table) e =
        let sound = stands_sound chronicle kept room stands in
        let at = found_at (is_live_as name) (store_of chronicle).tables table e in
        let there = number_tied chronicle.program (store_of chronicle) (rows_of chronicle) kept sound stands.tables table (is_table built chronicle.program (store_of chronicle) at.0 table sound at.1) in
        absurd (none-some (table_of (store_of chronicle).tally table) (sym none ∙ ap (option_and_then (table_kept kept.tables)) (stands.tables.names name ∙ ap (option_map (λ (t : PlainTable). t.number)) e) ∙ there))

-- there is a number for one more table, and a moment
pub few_tables : (chronicle : Chronicle) (kept : Kept) (room : ℕ) → StandsFor chronicle kept room → length kept.tables + 1 < 2 ^ 32
few_tables chronicle kept room stands =
    omega (
      arith,
      ap (λ (ts : List TableState). length ts) stands.tables.tables,
      length-map (store_of chronicle).tables (table_of (store_of chronicle).tally),
      stands.few,
      stands.counted,
      few_statements chronicle.program stands.limits,
      stands.limits.few_sessions,
    )

pub in_clock : (chronicle : Chronicle) (kept : Kept) (room : ℕ) → StandsFor chronicle kept room → kept.moment + 1 < 2 ^ 62
in_clock chronicle kept room stands = omega (arith, stands.sessions.moment, early chronicle kept room stands)

-- what was carried out leaves the statement ready to end
pub carried_ready : (program : Script) (old new : Kept) (session index : ℕ) (s : Statement) (t : Told) (answer : Reply) → CarriesOut old s new t answer → IsReady program old session index → IsReady program new session index
carried_ready program old new session index s t answer out ready = by t out.2
  where
    by : (u : Told) → Creates old out.0 new u answer → IsReady program new session index
    by told.Done made = subst (λ k. IsReady program k session index) (sym made.1)
        (record { first = ready.first; known = ready.known; present = ready.present; point = ready.point; moment = ready.moment })
    by (told.Refused number) made = subst (λ k. IsReady program k session index) (sym made.4) ready
    by told.Memory made = subst (λ k. IsReady program k session index) (sym made.1) ready

-- where nothing is refused, no live table has the name
pub none_beside : (found : Option TableState) (c : CreatedTable) (s : Statement) → refusal_beside found c s ≡ None → found ≡ None
none_beside None c s e = refl
none_beside (Some table) c s e = absurd (none-some _ (sym e))
