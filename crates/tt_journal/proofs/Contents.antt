-- Both tables of refusals are one.
use Rattle.std.specs.Prelude.{List, codes, decimal, refl, ℕ, ◌++◌, ◌≡◌}
use Rattle.std.proofs.Common.{ap, append_assoc, sym, ◌∙◌}
use Rattle.tt_script.specs.declared.script.Script.{Script}
use Rattle.tt_history.specs.Refusals.{refusal_content, refusal_name, refusal_number}
use Rattle.tt_history.specs.declared.refusals.Content.{Content}
use Rattle.tt_history.specs.declared.reply.Refusal.{Refusal}
use Rattle.tt_plain.specs.text.RefusalTable.{refusal_row}
use Rattle.tt_plain.specs.text.Replies.{refusal_text, row_of_refusal_text}
use Rattle.tt_journal.specs.Contents.{TableIsOne, contents_text}
use Rattle.tt_history.specs.declared.reply.Refusal.TheVariants as refusal

pub one_table : TableIsOne
unfolding refusal_row
one_table (refusal.Syntax place) = refl
one_table (refusal.UnknownTable place) = refl
one_table (refusal.TableExists place) = refl
one_table (refusal.UnknownColumn place) = refl
one_table (refusal.WrongCount place) = refl
one_table (refusal.TypeMismatch place) = refl
one_table (refusal.NullInNotNull place) = refl
one_table (refusal.RetentionRange place) = refl
one_table (refusal.KindMismatch place) = refl
one_table (refusal.UnknownFile place) = refl
one_table refusal.InFuture = refl
one_table refusal.UnknownStatement = refl
one_table refusal.StatementOpen = refl
one_table (refusal.NotYetMade made) = refl
one_table (refusal.OutsideRetention horizon) = refl
one_table refusal.NothingToUndrop = refl
one_table (refusal.LockHeld session) = refl
one_table refusal.ClockEnd = refl
one_table refusal.InTransaction = refl
one_table (refusal.BadData number column) = refl
one_table refusal.OutOfRange = refl
one_table (refusal.NullInRow column) = refl

-- number, name and contents, one after another
pub refusal_written : (program : Script) (r : Refusal) (start one two three four : List ℕ) (number : ℕ) (name : List ℕ) (content : Content)
    → one ≡ start ++ decimal number → two ≡ one ++ codes " " → three ≡ two ++ name → four ≡ three ++ contents_text program content
    → number ≡ refusal_number r → name ≡ refusal_name r → content ≡ refusal_content r → four ≡ start ++ refusal_text program r
refusal_written program r start one two three four number name content first second third fourth n t c =
    let whole : four ≡ start ++ (decimal (refusal_number r) ++ codes " " ++ refusal_name r ++ contents_text program (refusal_content r)) = rw (fourth, third, second, first, n, t, c) (simp append_assoc) in
    whole ∙ ap (λ row. start ++ row_of_refusal_text program row) (sym (one_table r))
