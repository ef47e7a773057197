-- Why the statements that are carried out by now are refused: over their one table, and for their columns and kinds.
use Rattle.std.specs.Prelude.{Bool, List, None, Ok, Option, Some, [], false, is_none, not, option_map, refl, true, ℕ, ◌&&◌, ◌++◌, ◌∷◌, ◌≡◌}
use Rattle.std.proofs.Common.{ap, sym, ◌∙◌}
use Rattle.std.proofs.lemmas.Bool.{and_parts}
use Rattle.tt_script.specs.declared.script.Script.{Script}
use Rattle.tt_sql.specs.declared.statement.Statement.{Statement}
use Rattle.tt_sql.specs.declared.table.CreatedTable.{CreatedTable}
use Rattle.tt_sql.specs.declared.table.TableKind.{TableKind}
use Rattle.tt_history.specs.declared.reply.Refusal.{Refusal}
use Rattle.tt_plain.proofs.Tests.{none_is}
use Rattle.tt_plain.specs.Places.{leftmost, table_begin}
use Rattle.tt_plain.specs.NullsInNotNull.{nulls_in_not_null}
use Rattle.tt_plain.specs.TypeMismatches.{type_mismatches}
use Rattle.tt_plain.specs.TypingRefusal.{or_else, typing_refusal}
use Rattle.tt_plain.specs.UnknownColumns.{unknown_columns}
use Rattle.tt_plain.specs.WrongCounts.{wrong_counts}
use Rattle.tt_plain.specs.asked.Asked.{Asked, table_asked}
use Rattle.tt_plain.specs.asked.Turns.{asked_with}
use Rattle.tt_plain.specs.declared.store.Plain.{Plain}
use Rattle.tt_plain.specs.declared.store.PlainTable.{PlainTable}
use Rattle.tt_plain.specs.refusal.{at_leftmost, first_some}
use Rattle.tt_plain.specs.refusal.First.{refusal_of}
use Rattle.tt_plain.specs.refusal.TableExists.{place_where_live}
use Rattle.tt_built.specs.Built.{is_built, is_permanent}
use Rattle.tt_built.proofs.Reaches.{create_built}
use Rattle.tt_history.specs.declared.reply.Refusal.TheVariants as refusal
use Rattle.tt_sql.specs.declared.statement.Statement.TheVariants as tree
use Rattle.tt_sql.specs.declared.table.TableKind.TheVariants as kinds
use Rattle.tt_state.proofs.Lists.{all_behind}

abbrev no : Option Refusal
no = None

-- the four refusals of typing, where those behind them are none
typed : (u w t n : Option ℕ)
    → first_some (option_map refusal.UnknownColumn u ∷ option_map refusal.WrongCount w ∷ option_map refusal.TypeMismatch t ∷ option_map refusal.NullInNotNull n
    ∷ no ∷ no ∷ no ∷ no ∷ no ∷ no ∷ no ∷ no ∷ no ∷ no ∷ no ∷ no ∷ [])
    ≡ or_else refusal.UnknownColumn u (or_else refusal.WrongCount w (or_else refusal.TypeMismatch t (or_else refusal.NullInNotNull n None)))
typed None None None None = refl
typed None None None (Some n) = refl
typed None None (Some t) n = refl
typed None (Some w) t n = refl
typed (Some u) w t n = refl

-- ---- CREATE TABLE

-- without OR REPLACE, TRANSIENT and options
abbrev pub plain_create : CreatedTable → CreatedTable
plain_create c = record c { replaces = false; kind = kinds.Permanent; options = record { cluster_by = None; retention = None } }

permanent_is : (kind : TableKind) → is_permanent kind ≡ true → kind ≡ kinds.Permanent
permanent_is kinds.Permanent e = refl
permanent_is kinds.Transient e = absurd cc
permanent_is kinds.Temporary e = absurd cc

not_true : (b : Bool) → not b ≡ true → b ≡ false
not_true true e = absurd cc
not_true false e = refl

-- such is each that is carried out
pub create_is : (c : CreatedTable) → is_built (tree.Create c) ≡ true → c ≡ plain_create c
create_is c e =
    let p = and_parts (not c.replaces && is_permanent c.kind && is_none c.options.retention) (is_none c.options.cluster_by) (sym (create_built c) ∙ e) in
    let q = and_parts (not c.replaces && is_permanent c.kind) (is_none c.options.retention) p.0 in
    let r = and_parts (not c.replaces) (is_permanent c.kind) q.0 in
    ap (λ (b : Bool). record c { replaces = b }) (not_true c.replaces r.0)
    ∙ ap (λ (k : TableKind). record c { replaces = false; kind = k }) (permanent_is c.kind r.1)
    ∙ ap (λ o. record c { replaces = false; kind = kinds.Permanent; options = record { cluster_by = c.options.cluster_by; retention = o } }) (none_is c.options.retention q.1)
    ∙ ap (λ o. record c { replaces = false; kind = kinds.Permanent; options = record { cluster_by = o; retention = None } }) (none_is c.options.cluster_by p.1)

-- a live table has the name, or the columns are refused
abbrev pub create_over : Option PlainTable → CreatedTable → Option Refusal
create_over None c = typing_refusal [] (tree.Create c)
create_over (Some table) c = Some (refusal.TableExists (table_begin c.table))

module _ (program : Script) (store : Plain) (session index : ℕ) (c : CreatedTable) where
  abbrev pub create_asked : Asked
  create_asked = asked_with program store session index (Ok (tree.Create (plain_create c)))

  abbrev pub create_statement : Statement
  create_statement = tree.Create (plain_create c)

  -- what differs from one to the next
  abbrev create_places : List ℕ → List ℕ → Option Refusal
  create_places exists unknown =
      first_some (no ∷ no ∷ at_leftmost refusal.TableExists exists ∷ at_leftmost refusal.UnknownColumn unknown ∷ at_leftmost refusal.WrongCount (wrong_counts [] create_statement)
      ∷ at_leftmost refusal.TypeMismatch (type_mismatches [] create_statement) ∷ at_leftmost refusal.NullInNotNull (nulls_in_not_null [] create_statement)
      ∷ no ∷ no ∷ no ∷ no ∷ no ∷ no ∷ no ∷ no ∷ no ∷ no ∷ no ∷ no ∷ [])

  created_by : (found : Option PlainTable) → create_places (place_where_live c.table found ++ []) (unknown_columns [] create_statement) ≡ create_over found (plain_create c)
  unfolding typing_refusal
  created_by None =
      typed (leftmost (unknown_columns [] create_statement)) (leftmost (wrong_counts [] create_statement)) (leftmost (type_mismatches [] create_statement)) (leftmost (nulls_in_not_null [] create_statement))
  created_by (Some table) = refl

  pub create_refusal : refusal_of create_asked ≡ create_over (table_asked create_asked c.table) (plain_create c)
  unfolding refusal_of
  create_refusal =
      ap (create_places (place_where_live c.table (table_asked create_asked c.table) ++ [])) (all_behind (unknown_columns [] create_statement))
      ∙ created_by (table_asked create_asked c.table)
