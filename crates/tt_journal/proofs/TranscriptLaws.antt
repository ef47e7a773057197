-- The lines of a legal and complete history are those of its entries answered by its replies.
use Rattle.std.specs.Prelude.{List, None, Option, Some, [], fold, is_some, length, refl, true, ℕ, ◌++◌, ◌∷◌, ◌≡◌}
use Rattle.std.proofs.Common.{ap, append_assoc, arith, subst, sym, ◌∙◌}
use Rattle.std.proofs.lemmas.List.{append-nil}
use Rattle.std.proofs.lemmas.Option.{none-some, same_Some}
use Rattle.tt_history.specs.declared.history.Entry.{Entry}
use Rattle.tt_history.specs.declared.reply.Reply.{Reply}
use Rattle.tt_plain.proofs.law.Clock.{replay_none}
use Rattle.tt_plain.specs.Answers.{◌>>=◌}
use Rattle.tt_plain.specs.asked.Carried.{Carried}
use Rattle.tt_plain.specs.declared.store.Plain.{Plain}
use Rattle.tt_plain.specs.history.Complete.{all_finished}
use Rattle.tt_plain.specs.history.Replay.{Run, next_store, replay_from, replay_of, store_after, store_or}
use Rattle.tt_plain.specs.history.Step.{step_of}
use Rattle.tt_plain.specs.stored.Empty.{empty_store}
use Rattle.tt_plain.specs.text.Journal.{journal_line}
use Rattle.tt_plain.specs.text.Transcript.{end_line, given_replies, lines_of, text_of_run, told_reply, transcript_of}
use Rattle.tt_script.specs.declared.script.Script.{Script}
use Rattle.tt_journal.specs.Answered.{answered_lines, ends_here, later_replies, next_reply}
use Rattle.tt_journal.specs.Transcript.{AreReplies}
use Rattle.tt_journal.proofs.Endings.{ends_where_told}

-- one entry and what it was told
told_text : (program : Script) (entry : Entry) (entries : List Entry) (r : Option Reply) (told : List (Option Reply)) → is_some r ≡ ends_here program entry entries
    → lines_of program entries told ≡ answered_lines program entries (given_replies told)
    → lines_of program (entry ∷ entries) (r ∷ told) ≡ answered_lines program (entry ∷ entries) (given_replies (r ∷ told))
unfolding lines_of answered_lines
told_text program entry entries None told ends later = rw (sym ends) (ap (λ text. (journal_line program entry ++ []) ++ text) later)
told_text program entry entries (Some r) told ends later = rw (sym ends) (ap (λ text. (journal_line program entry ++ told_reply program (Some r)) ++ text) later)

-- what the entries of a run were told, behind what stood
abbrev Lines : Script → Run → List Entry → Run → Type 0
Lines program before entries run =
    (told : List (Option Reply)) × (run.1 ≡ before.1 ++ told) × (lines_of program entries told ≡ answered_lines program entries (given_replies told))

no_lines : (program : Script) → lines_of program [] [] ≡ answered_lines program [] []
unfolding lines_of answered_lines
no_lines program = refl

module _ (carried : Carried) (program : Script) where
  lines_answered : (before run : Run) (entries : List Entry) → replay_from carried program (Some before) entries ≡ Some run → all_finished program run.0 ≡ true → Lines program before entries run
  unfolding replay_from
  lines_answered before run [] e finished =
      ([], ap (λ (r : Run). r.1) (sym (same_Some before run e)) ∙ sym (append-nil before.1), no_lines program)
  lines_answered before run (entry ∷ entries) e finished =
      goes (λ next f. lines_answered next run entries f finished) (step_of carried program before.0 entry) refl e
    where
      goes : ((next : Run) → replay_from carried program (Some next) entries ≡ Some run → Lines program next entries run)
          → (step : Option (Plain × Option Reply)) → step_of carried program before.0 entry ≡ step
          → replay_from carried program (step >>= λ next. Some (next.0, before.1 ++ next.1 ∷ [])) entries ≡ Some run → Lines program before (entry ∷ entries) run
      goes behind None is f = absurd (none-some run (sym (replay_none carried program entries) ∙ f))
      goes behind (Some next) is f =
          let rest = behind (next.0, before.1 ++ next.1 ∷ []) f in
          let ends = ends_where_told carried program before.0 entry next (before.1 ++ next.1 ∷ []) run entries is f finished in
          (next.1 ∷ rest.0, rest.1 ∙ append_assoc before.1 (next.1 ∷ []) rest.0, told_text program entry entries next.1 rest.0 ends rest.2)

  -- the store after a legal history is that of its run
  store_of_run : (before run : Run) (entries : List Entry) → replay_from carried program (Some before) entries ≡ Some run → fold (next_store carried program) before.0 entries ≡ run.0
  unfolding replay_from next_store
  store_of_run before run [] e = ap (λ (r : Run). r.0) (same_Some before run e)
  store_of_run before run (entry ∷ entries) e = goes (λ next f. store_of_run next run entries f) (step_of carried program before.0 entry) refl e
    where
      goes : ((next : Run) → replay_from carried program (Some next) entries ≡ Some run → fold (next_store carried program) next.0 entries ≡ run.0)
          → (step : Option (Plain × Option Reply)) → step_of carried program before.0 entry ≡ step
          → replay_from carried program (step >>= λ next. Some (next.0, before.1 ++ next.1 ∷ [])) entries ≡ Some run → fold (next_store carried program) (store_or before.0 (step_of carried program before.0 entry)) entries ≡ run.0
      goes behind None is f = absurd (none-some run (sym (replay_none carried program entries) ∙ f))
      goes behind (Some next) is f =
          ap (λ (s : Plain). fold (next_store carried program) s entries) (ap (store_or before.0) is) ∙ behind (next.0, before.1 ++ next.1 ∷ []) f

  store_is : (history : List Entry) (run : Run) → replay_of carried program history ≡ Some run → store_after carried program history ≡ run.0
  unfolding replay_of store_after
  store_is history run e = store_of_run (empty_store program, []) run history e

  -- The lines of the entries with their replies, and the last line, are the transcript.
  pub transcript_answered : (entries : List Entry) (replies : List Reply) → AreReplies carried program entries replies → answered_lines program entries replies ++ end_line (length entries) ≡ transcript_of carried program entries
  unfolding transcript_of replay_of
  transcript_answered entries replies are =
      let finished : all_finished program are.run.0 ≡ true = subst (λ (s : Plain). all_finished program s ≡ true) (store_is entries are.run are.replayed) are.complete.finished in
      let whole = lines_answered (empty_store program, []) are.run entries are.replayed finished in
      let given : given_replies whole.0 ≡ replies = ap given_replies (sym whole.1) ∙ are.given in
      let lines : lines_of program entries are.run.1 ≡ answered_lines program entries replies = ap (lines_of program entries) whole.1 ∙ (whole.2 ∙ ap (answered_lines program entries) given) in
      ap (λ (text : List ℕ). text ++ end_line (length entries)) (sym lines) ∙ sym (ap (text_of_run program entries) are.replayed)

-- no entry is left: what stands is the whole text
pub answered_end : (program : Script) (done : List ℕ) (later : List Entry) (left : List Reply) (all : List ℕ) → length later ≡ 0 → done ++ answered_lines program later left ≡ all → done ≡ all
unfolding answered_lines
answered_end program done [] left all none stands = sym (append-nil done) ∙ stands
answered_end program done (entry ∷ later) left all none stands = absurd (omega (arith, none))

-- an entry is written: what stands, with the lines that are left, is the same text
pub answered_more : (program : Script) (done : List ℕ) (entry : Entry) (later : List Entry) (left : List Reply) (all : List ℕ)
    → done ++ answered_lines program (entry ∷ later) left ≡ all
    → ((done ++ journal_line program entry) ++ told_reply program (next_reply program entry later left)) ++ answered_lines program later (later_replies program entry later left) ≡ all
unfolding answered_lines
answered_more program done entry later left all stands =
    let joined : ((done ++ journal_line program entry) ++ told_reply program (next_reply program entry later left)) ++ answered_lines program later (later_replies program entry later left)
    ≡ done ++ ((journal_line program entry ++ told_reply program (next_reply program entry later left)) ++ answered_lines program later (later_replies program entry later left)) = simp append_assoc in
    joined ∙ stands
