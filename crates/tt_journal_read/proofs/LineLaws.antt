-- Lines of entries: what is read is what is written.
use Rattle.std.specs.Prelude.{Bool, Err, IfErr, IfOk, List, None, Ok, Result, Some, [], codes, decimal, if◌then◌else◌, option_map, refl, ℕ, ◌++◌, ◌∷◌, ◌≡◌}
use Rattle.std.proofs.Common.{ap, append_assoc, subst, sym, ◌∙◌}
use Rattle.std.proofs.lemmas.Option.{none-some, same_Some}
use Rattle.tt_script.specs.Program.{IsProgram}
use Rattle.tt_script.specs.declared.script.Script.{Script}
use Rattle.tt_history.specs.declared.history.Actor.{Actor}
use Rattle.tt_history.specs.declared.history.Entry.{Entry}
use Rattle.tt_plain.proofs.Answers.{bind_some, map_some}
use Rattle.tt_plain.specs.text.Journal.{actor_text, journal_line, kind_text, line_feed, session_text}
use Rattle.tt_journal_read.specs.Line.{IsActor, IsAlone, IsLineOf, IsNoLine, IsSpelled}
use Rattle.tt_journal_read.specs.steps.Reading.{Finds, actor_of, body_of, cut_of, entry_in, entry_on, head_of, is_word, kind_by, number_up_to, parted, session_named, signed_number, widest}
use Rattle.tt_journal_read.proofs.Bodies.{body_read, body_written}
use Rattle.tt_journal_read.proofs.Chains.{chosen, then_is}
use Rattle.tt_journal_read.proofs.FactLaws.{signed_read, wide_read, wide_written}
use Rattle.tt_journal_read.proofs.Fields.{Lacks, parted_at, parted_joins}
use Rattle.tt_journal_read.proofs.KindLaws.{behind_cut, kind_cut, kind_read, kind_written, lacks_test}
use Rattle.tt_journal_read.proofs.Names.{is_same, session_found, session_is, session_lacks, session_no_worker}
use Rattle.tt_journal_read.proofs.Numerals.{no_blank}
use Rattle.tt_journal_read.specs.declared.JournalError.{JournalError}
use Rattle.tt_history.specs.declared.history.Actor.TheVariants as actor
use Rattle.tt_journal_read.specs.declared.JournalError.TheVariants as error

-- the bytes of a line by its parts
abbrev body_text : (moment name index text : List ℕ) → List ℕ
body_text moment name index text = 64 ∷ (moment ++ 32 ∷ (name ++ 32 ∷ (index ++ 32 ∷ text)))

parts_joined : (moment name index text : List ℕ)
    → codes "@" ++ moment ++ codes " " ++ name ++ codes " " ++ index ++ codes " " ++ text ++ line_feed ≡ body_text moment name index text ++ 10 ∷ []
parts_joined moment name index text = simp append_assoc

body_of_entry : Script → Entry → List ℕ
body_of_entry program entry = body_text (decimal entry.moment) (actor_text program entry.actor) (decimal entry.index) (kind_text program entry.kind)

line_is : (program : Script) (entry : Entry) → journal_line program entry ≡ body_of_entry program entry ++ 10 ∷ []
unfolding journal_line body_of_entry
line_is program entry = parts_joined (decimal entry.moment) (actor_text program entry.actor) (decimal entry.index) (kind_text program entry.kind)

module _ (program : Script) (sound : IsProgram program) where
  -- ---- actors

  actor_written : (a : Actor) → IsActor program a → actor_of program (actor_text program a) ≡ Some a
  unfolding actor_of
  actor_written (actor.Session session) is =
      let name = session_text program session in
      ap (λ (b : Bool). if b then Some actor.Recluster else if is_word name (codes "@purge") then Some actor.Purge else option_map actor.Session (session_named program name)) (session_no_worker program sound session _ is)
      ∙ (ap (λ (b : Bool). if b then Some actor.Purge else option_map actor.Session (session_named program name)) (session_no_worker program sound session _ is)
      ∙ ap (option_map actor.Session) (session_found program sound session is))
  actor_written actor.Recluster is = refl
  actor_written actor.Purge is = refl

  actor_lacks : (a : Actor) → IsActor program a → Lacks 32 (actor_text program a)
  actor_lacks (actor.Session session) is = session_lacks program sound session is
  actor_lacks actor.Recluster is = lacks_test (codes "@recluster") refl
  actor_lacks actor.Purge is = lacks_test (codes "@purge") refl

  actor_read : (name : List ℕ) (a : Actor) → actor_of program name ≡ Some a → (actor_text program a ≡ name) × IsActor program a
  unfolding actor_of
  actor_read name a e =
      chosen ((actor_text program a ≡ name) × IsActor program a) (is_word name (codes "@recluster")) (Some actor.Recluster) _ a
      (λ same f. subst (λ (b : Actor). (actor_text program b ≡ name) × IsActor program b) (same_Some actor.Recluster a f) (sym (is_same name (codes "@recluster") same), tt))
      (λ o f. chosen ((actor_text program a ≡ name) × IsActor program a) (is_word name (codes "@purge")) (Some actor.Purge) (option_map actor.Session (session_named program name)) a
      (λ same g. subst (λ (b : Actor). (actor_text program b ≡ name) × IsActor program b) (same_Some actor.Purge a g) (sym (is_same name (codes "@purge") same), tt))
      (λ o g.
      let found = map_some actor.Session (session_named program name) a g in
      let named = session_is program sound name found.0 found.1 in
      subst (λ (b : Actor). (actor_text program b ≡ name) × IsActor program b) found.2 (named.1, named.0)) f) e

  -- ---- whole lines

  head_written : (entry : Entry) → IsSpelled program entry → head_of program (body_of_entry program entry) ≡ Some (entry.moment, entry.actor, entry.index, kind_text program entry.kind)
  unfolding head_of body_of_entry
  head_written entry is =
      let moment = decimal entry.moment in
      let name = actor_text program entry.actor in
      let index = decimal entry.index in
      let text = kind_text program entry.kind in
      then_is (parted 32 (body_text moment name index text)) _ (64 ∷ moment, name ++ 32 ∷ (index ++ 32 ∷ text)) _
      (parted_at 32 (64 ∷ moment) (name ++ 32 ∷ (index ++ 32 ∷ text)) (refl, no_blank entry.moment is.moment) refl)
      (then_is (parted 32 (name ++ 32 ∷ (index ++ 32 ∷ text))) _ (name, index ++ 32 ∷ text) _ (parted_at 32 name (index ++ 32 ∷ text) (actor_lacks entry.actor is.actor) refl)
      (then_is (parted 32 (index ++ 32 ∷ text)) _ (index, text) _ (parted_at 32 index text (no_blank entry.index is.index) refl)
      (then_is (signed_number 64 (64 ∷ moment)) _ entry.moment _ (wide_written entry.moment is.moment)
      (then_is (actor_of program name) _ entry.actor _ (actor_written entry.actor is.actor)
      (then_is (number_up_to widest index) _ entry.index _ (wide_written entry.index is.index) refl)))))

  pub line_written : (entry : Entry) → IsSpelled program entry → entry_on program (journal_line program entry) ≡ Some entry
  unfolding entry_on entry_in
  line_written entry is =
      then_is (body_of (journal_line program entry)) (entry_in program) (body_of_entry program entry) (Some entry) (ap body_of (line_is program entry) ∙ body_written (body_of_entry program entry))
      (then_is (head_of program (body_of_entry program entry)) _ (entry.moment, entry.actor, entry.index, kind_text program entry.kind) (Some entry) (head_written entry is)
      (then_is (kind_by program (cut_of 32 (kind_text program entry.kind))) _ entry.kind (Some entry) (ap (kind_by program) (kind_cut program entry.kind) ∙ kind_written program sound entry.kind is.kind) refl))

  pub line_read : (line : List ℕ) (entry : Entry) → entry_on program line ≡ Some entry → IsLineOf program line entry
  unfolding entry_on entry_in head_of body_of_entry
  line_read line entry e =
      let body = bind_some (body_of line) (entry_in program) entry e in
      let head = bind_some (head_of program body.0) _ entry body.2 in
      let k = bind_some (kind_by program (cut_of 32 head.0.3)) _ entry head.2 in
      let first = bind_some (parted 32 body.0) _ head.0 head.1 in
      let second = bind_some (parted 32 first.0.1) _ head.0 first.2 in
      let third = bind_some (parted 32 second.0.1) _ head.0 second.2 in
      let moment = bind_some (signed_number 64 first.0.0) _ head.0 third.2 in
      let who = bind_some (actor_of program second.0.0) _ head.0 moment.2 in
      let index = bind_some (number_up_to widest third.0.0) _ head.0 who.2 in
      let same = same_Some (moment.0, who.0, index.0, third.0.1) head.0 index.2 in
      let m = signed_read 64 moment.0 first.0.0 moment.1 in
      let a = actor_read second.0.0 who.0 who.1 in
      let i = wide_read index.0 third.0.0 index.1 in
      let kind = kind_read program sound (cut_of 32 head.0.3) k.0 k.1 in
      let text : kind_text program k.0 ≡ third.0.1 = sym kind.0 ∙ (behind_cut head.0.3 ∙ ap (λ (h : ℕ × Actor × ℕ × List ℕ). h.3) (sym same)) in
      let made : Entry = record { moment = moment.0; actor = who.0; index = index.0; kind = k.0 } in
      let is : IsSpelled program made = record { moment = m.1; actor = a.1; index = i.1; kind = kind.1 } in
      let last : decimal index.0 ++ 32 ∷ kind_text program k.0 ≡ second.0.1 = ap (λ (l : List ℕ). l ++ 32 ∷ kind_text program k.0) i.0 ∙ (ap (λ (l : List ℕ). third.0.0 ++ 32 ∷ l) text ∙ parted_joins 32 second.0.1 third.0 third.1) in
      let later : actor_text program who.0 ++ 32 ∷ (decimal index.0 ++ 32 ∷ kind_text program k.0) ≡ first.0.1 =
      ap (λ (l : List ℕ). l ++ 32 ∷ (decimal index.0 ++ 32 ∷ kind_text program k.0)) a.0 ∙ (ap (λ (l : List ℕ). second.0.0 ++ 32 ∷ l) last ∙ parted_joins 32 first.0.1 second.0 second.1) in
      let whole : body_of_entry program made ≡ body.0 = front made (actor_text program who.0 ++ 32 ∷ (decimal index.0 ++ 32 ∷ kind_text program k.0)) refl ∙ (ap (λ (l : List ℕ). l ++ 32 ∷ (actor_text program who.0 ++ 32 ∷ (decimal index.0 ++ 32 ∷ kind_text program k.0))) m.0 ∙ (ap (λ (l : List ℕ). first.0.0 ++ 32 ∷ l) later ∙ parted_joins 32 body.0 first.0 first.1)) in
      let heads : made ≡ entry = ap (λ (h : ℕ × Actor × ℕ × List ℕ). record { moment = h.0; actor = h.1; index = h.2; kind = k.0 }) same ∙ same_Some _ entry k.2 in
      subst (IsLineOf program line) heads (record { spelled = is; text = line_is program made ∙ (ap (λ (l : List ℕ). l ++ 10 ∷ []) whole ∙ body_read line body.0 body.1) })
    where
      front : (made : Entry) (rest : List ℕ) → rest ≡ actor_text program made.actor ++ 32 ∷ (decimal made.index ++ 32 ∷ kind_text program made.kind) → body_of_entry program made ≡ (64 ∷ decimal made.moment) ++ 32 ∷ rest
      front made rest e = ap (λ (r : List ℕ). (64 ∷ decimal made.moment) ++ 32 ∷ r) (sym e)

  -- the line of an entry is that of no other
  pub line_alone : (line : List ℕ) (entry : Entry) → entry_on program line ≡ Some entry → IsAlone program line entry
  line_alone line entry e other is =
      same_Some other entry (sym (ap (entry_on program) (sym is.text) ∙ line_written other is.spelled) ∙ e)

  pub no_line : (line : List ℕ) → entry_on program line ≡ None → (entry : Entry) → IsLineOf program line entry → ⊥
  no_line line e entry is = none-some entry (sym e ∙ (ap (entry_on program) (sym is.text) ∙ line_written entry is.spelled))

  -- ---- what the reader finds

  pub reads_line : (line : List ℕ) (result : Result Entry JournalError) → Finds (entry_on program line) result → IfOk result (λ entry. IsLineOf program line entry)
  reads_line line (Ok entry) found = line_read line entry found
  reads_line line (Err why) found = tt

  pub reads_alone : (line : List ℕ) (result : Result Entry JournalError) → Finds (entry_on program line) result → IfOk result (λ entry. IsAlone program line entry)
  reads_alone line (Ok entry) found = line_alone line entry found
  reads_alone line (Err why) found = tt

  pub reads_none : (line : List ℕ) (result : Result Entry JournalError) → Finds (entry_on program line) result → IfErr result (λ why. IsNoLine program line why)
  reads_none line (Ok entry) found = tt
  reads_none line (Err error.BadJournal) found = no_line line found
  reads_none line (Err error.Memory) found = tt
