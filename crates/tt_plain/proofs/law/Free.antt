-- A statement that is not refused is refused by none of the rules.
use Rattle.std.specs.Prelude.{List, None, Option, Some, refl, ◌∷◌, ◌≡◌}
use Rattle.std.proofs.lemmas.Option.{none-some}
use Rattle.std.proofs.Common.{sym}
use Rattle.tt_plain.specs.asked.Asked.{Asked}
use Rattle.tt_plain.specs.refusal.{first_some}
use Rattle.tt_plain.specs.refusal.ClockEnd.{clock_end}
use Rattle.tt_plain.specs.refusal.First.{refusal_of}
use Rattle.tt_plain.specs.refusal.InFuture.{in_future}
use Rattle.tt_plain.specs.refusal.InTransaction.{in_transaction}
use Rattle.tt_plain.specs.refusal.KindMismatch.{kind_mismatch}
use Rattle.tt_plain.specs.refusal.LockHeld.{lock_held}
use Rattle.tt_plain.specs.refusal.NotYetMade.{not_yet_made}
use Rattle.tt_plain.specs.refusal.NothingToUndrop.{nothing_to_undrop}
use Rattle.tt_plain.specs.refusal.NullInNotNull.{null_in_not_null}
use Rattle.tt_plain.specs.refusal.OutsideRetention.{outside_retention}
use Rattle.tt_plain.specs.refusal.RetentionRange.{retention_range}
use Rattle.tt_plain.specs.refusal.StatementOpen.{statement_open}
use Rattle.tt_plain.specs.refusal.Syntax.{syntax}
use Rattle.tt_plain.specs.refusal.TableExists.{table_exists}
use Rattle.tt_plain.specs.refusal.TypeMismatch.{type_mismatch}
use Rattle.tt_plain.specs.refusal.UnknownColumn.{unknown_column}
use Rattle.tt_plain.specs.refusal.UnknownFile.{unknown_file}
use Rattle.tt_plain.specs.refusal.UnknownStatement.{unknown_statement}
use Rattle.tt_plain.specs.refusal.UnknownTable.{unknown_table}
use Rattle.tt_plain.specs.refusal.WrongCount.{wrong_count}

-- the rules that proofs ask for
pub record IsFree (asked : Asked) : Type 0 where
  pub exists : table_exists asked ≡ None
  pub counts : wrong_count asked ≡ None
  pub retention : retention_range asked ≡ None
  pub held : lock_held asked ≡ None
  pub clock : clock_end asked ≡ None
  pub begun : in_transaction asked ≡ None

none_first : {A : Type 0} (first : Option A) (others : List (Option A)) → first_some (first ∷ others) ≡ None → (first ≡ None) × (first_some others ≡ None)
none_first None others e = (refl, e)
none_first (Some x) others e = absurd (none-some x (sym e))

pub is_free : (asked : Asked) → refusal_of asked ≡ None → IsFree asked
unfolding refusal_of
is_free asked free =
    let a1 = none_first (syntax asked) _ free in
    let a2 = none_first (unknown_table asked) _ a1.1 in
    let a3 = none_first (table_exists asked) _ a2.1 in
    let a4 = none_first (unknown_column asked) _ a3.1 in
    let a5 = none_first (wrong_count asked) _ a4.1 in
    let a6 = none_first (type_mismatch asked) _ a5.1 in
    let a7 = none_first (null_in_not_null asked) _ a6.1 in
    let a8 = none_first (retention_range asked) _ a7.1 in
    let a9 = none_first (kind_mismatch asked) _ a8.1 in
    let a10 = none_first (unknown_file asked) _ a9.1 in
    let a11 = none_first (in_future asked) _ a10.1 in
    let a12 = none_first (unknown_statement asked) _ a11.1 in
    let a13 = none_first (statement_open asked) _ a12.1 in
    let a14 = none_first (not_yet_made asked) _ a13.1 in
    let a15 = none_first (outside_retention asked) _ a14.1 in
    let a16 = none_first (nothing_to_undrop asked) _ a15.1 in
    let a17 = none_first (lock_held asked) _ a16.1 in
    let a18 = none_first (clock_end asked) _ a17.1 in
    let a19 = none_first (in_transaction asked) _ a18.1 in
    record { exists = a3.0; counts = a5.0; retention = a8.0; held = a17.0; clock = a18.0; begun = a19.0 }
