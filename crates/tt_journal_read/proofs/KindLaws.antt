-- The kinds of entries with their facts: what is read is what is written.
use Rattle.std.specs.List.{list_all}
use Rattle.std.specs.Option.{option_or}
use Rattle.std.specs.Prelude.{Bool, List, None, Option, Some, [], codes, decimal, false, if◌then◌else◌, length, map, not, option_map, refl, true, ℕ, ◌++◌, ◌<◌, ◌==◌, ◌^◌, ◌∷◌, ◌≡◌, ◌≤◌}
use Rattle.std.proofs.Common.{ap, append_assoc, arith, subst, sym, ◌∙◌}
use Rattle.std.proofs.lemmas.Bool.{and_parts, false≢true}
use Rattle.std.proofs.lemmas.List.{append-nil}
use Rattle.std.proofs.lemmas.Option.{none-some, same_Some}
use Rattle.tt_script.specs.Bytes.{is_digit}
use Rattle.tt_script.specs.Program.{IsProgram}
use Rattle.tt_script.specs.declared.script.Script.{Script}
use Rattle.tt_history.specs.declared.history.Added.{Added}
use Rattle.tt_history.specs.declared.history.EntryKind.{EntryKind}
use Rattle.tt_history.specs.declared.history.Miss.{Miss}
use Rattle.tt_history.specs.declared.history.Told.{Told}
use Rattle.tt_plain.proofs.Answers.{bind_some, map_some, only_if_some}
use Rattle.tt_script.specs.Lines.{only_if}
use Rattle.tt_plain.specs.law.Lists.{Every}
use Rattle.tt_plain.specs.text.Journal.{added_text, gone_text, kind_text, miss_text, numbers_text, session_text, told_text}
use Rattle.tt_journal_read.specs.Line.{IsKind, IsMiss, IsReport, IsTold, IsWide}
use Rattle.tt_journal_read.specs.steps.Reading.{bare_kind, cause_by, cause_of, change_in, cut_of, end_in, fact_kind, facts_kind, failure_in, is_word, kind_by, landing_by, miss_by, number_up_to, numbers_by, parts_in, purge_in, report_in, report_kind, reported_by, round_by, session_named, table_of, told_by, told_in, told_kind, told_kind_in, unrefused_in, widest}
use Rattle.tt_journal_read.proofs.Chains.{chosen, either_gave, leads_nowhere, then_is}
use Rattle.tt_journal_read.proofs.FactLaws.{change_read, change_spaced, change_written, gone_spaced, minus_text, parts_read, parts_written, plus_text, told_by_read, told_fields, told_read, told_spaced, told_written, wide_read, wide_written}
use Rattle.tt_journal_read.proofs.Fields.{Lacks, behind_word, cut_at, cut_joins, cut_none, cut_word, joined, rest_of, spaced, spaced_both}
use Rattle.tt_journal_read.proofs.Names.{is_same, other_word, session_found, session_is}
use Rattle.tt_journal_read.proofs.Numerals.{all_digits, no_blank, number_read, number_written}
use Rattle.tt_history.specs.declared.history.EntryKind.TheVariants as kind
use Rattle.tt_history.specs.declared.history.Miss.TheVariants as miss
use Rattle.tt_history.specs.declared.history.Told.TheVariants as told

-- a closed word lacks blanks
pub lacks_test : (bytes : List ℕ) → list_all (λ byte. not (byte == 32)) bytes ≡ true → Lacks 32 bytes
lacks_test [] test = tt
lacks_test (byte ∷ bytes) test = let both = and_parts (not (byte == 32)) (list_all (λ b. not (b == 32)) bytes) test in (other (byte == 32) both.0, lacks_test bytes both.1)
  where
    other : (b : Bool) → not b ≡ true → b ≡ false
    other true e = absurd (false≢true e)
    other false e = refl

-- a number is no word
number_no_word : (n first : ℕ) (rest : List ℕ) → n < 2 ^ 64 → is_digit first ≡ false → is_word (decimal n) (first ∷ rest) ≡ false
number_no_word n first rest small other =
    other_word (decimal n) (first ∷ rest) (λ same.
    let all : list_all is_digit (first ∷ rest) ≡ true = subst (λ (l : List ℕ). list_all is_digit l ≡ true) same (all_digits n small) in
    false≢true (sym other ∙ (and_parts (is_digit first) (list_all is_digit rest) all).0))

-- ---- misses

-- what stands behind the number of the table, and a blank
miss_tail : Script → Miss → List ℕ
miss_tail program miss.Dropped = codes "dropped"
miss_tail program miss.Suspended = codes "suspended"
miss_tail program (miss.Held session) = codes "held " ++ session_text program session
miss_tail program (miss.Gone number) = codes "gone " ++ decimal number
miss_tail program miss.Memory = codes "memory"

miss_behind : (program : Script) (why : Miss) → miss_text program why ≡ 32 ∷ miss_tail program why
unfolding miss_tail
miss_behind program miss.Dropped = refl
miss_behind program miss.Suspended = refl
miss_behind program (miss.Held session) = refl
miss_behind program (miss.Gone number) = refl
miss_behind program miss.Memory = refl

cause_written : (program : Script) (sound : IsProgram program) (why : Miss) → IsMiss program why → cause_by program (cut_of 32 (miss_tail program why)) ≡ Some why
unfolding miss_tail cut_of
cause_written program sound miss.Dropped is = refl
cause_written program sound miss.Suspended is = refl
cause_written program sound (miss.Held session) is = ap (option_map miss.Held) (session_found program sound session is)
cause_written program sound (miss.Gone number) is = ap (option_map miss.Gone) (wide_written number is)
cause_written program sound miss.Memory is = refl

cause_of_read : (program : Script) (word : List ℕ) (why : Miss) → cause_of word ≡ Some why → (32 ∷ word ≡ miss_text program why) × IsMiss program why
cause_of_read program word why e =
    chosen P (is_word word (codes "dropped")) (Some miss.Dropped) _ why (λ same f. known miss.Dropped (codes "dropped") same f refl tt)
    (λ other f.
    chosen P (is_word word (codes "suspended")) (Some miss.Suspended) _ why (λ same g. known miss.Suspended (codes "suspended") same g refl tt)
    (λ no g. let found = only_if_some (is_word word (codes "memory")) miss.Memory why g in known miss.Memory (codes "memory") found.0 (ap Some found.1) refl tt) f) e
  where
    P : Type 0
    P = (32 ∷ word ≡ miss_text program why) × IsMiss program why

    known : (found : Miss) (wanted : List ℕ) → is_word word wanted ≡ true → Some found ≡ Some why → 32 ∷ wanted ≡ miss_text program found → IsMiss program found → (32 ∷ word ≡ miss_text program why) × IsMiss program why
    known found wanted same f text is =
        subst (λ (m : Miss). (32 ∷ word ≡ miss_text program m) × IsMiss program m) (same_Some found why f) (ap (λ (w : List ℕ). 32 ∷ w) (is_same word wanted same) ∙ text, is)

cause_read : (program : Script) (sound : IsProgram program) (parts : List ℕ × Option (List ℕ)) (why : Miss) → cause_by program parts ≡ Some why → (32 ∷ joined 32 parts ≡ miss_text program why) × IsMiss program why
cause_read program sound (word, None) why e = cause_of_read program word why e
cause_read program sound (word, Some fact) why e =
    chosen P (is_word word (codes "held")) _ _ why
    (λ same f.
    let found = map_some miss.Held (session_named program fact) why f in
    let named = session_is program sound fact found.0 found.1 in
    subst (λ (m : Miss). (32 ∷ (word ++ 32 ∷ fact) ≡ miss_text program m) × IsMiss program m) found.2
    (ap (λ (w : List ℕ). 32 ∷ (w ++ 32 ∷ fact)) (is_same word (codes "held") same) ∙ ap (λ (l : List ℕ). codes " held " ++ l) (sym named.1), named.0))
    (λ other f.
    chosen P (is_word word (codes "gone")) (option_map miss.Gone (number_up_to widest fact)) None why
    (λ same g.
    let found = map_some miss.Gone (number_up_to widest fact) why g in
    let read = wide_read found.0 fact found.1 in
    subst (λ (m : Miss). (32 ∷ (word ++ 32 ∷ fact) ≡ miss_text program m) × IsMiss program m) found.2
    (ap (λ (w : List ℕ). 32 ∷ (w ++ 32 ∷ fact)) (is_same word (codes "gone") same) ∙ ap (λ (l : List ℕ). codes " gone " ++ l) (sym read.0), read.1))
    (λ no g. absurd (none-some why g)) f) e
  where
    P : Type 0
    P = (32 ∷ (word ++ 32 ∷ fact) ≡ miss_text program why) × IsMiss program why

-- ---- reports

report_told : (facts : List ℕ) (t : Told) → told_in (Some facts) ≡ Some t → report_in (Some facts) ≡ Some (t, [])
report_told facts t e = ap (λ (o : Option Told). option_or (option_map (λ how. (how, [])) o) (option_map (λ numbers. (told.Done, numbers)) (numbers_by (cut_of 32 facts)))) e

-- the fields of numbers
number_fields : List ℕ → List (List ℕ)
number_fields ns = map decimal ns

numbers_spaced : (ns : List ℕ) → numbers_text ns ≡ spaced (number_fields ns)
unfolding number_fields
numbers_spaced [] = refl
numbers_spaced (n ∷ ns) = ap (λ (l : List ℕ). 32 ∷ (decimal n ++ l)) (numbers_spaced ns)

report_written : (t : Told) (ns : List ℕ) → IsReport t ns → report_in (rest_of (told_fields t ++ number_fields ns)) ≡ Some (t, ns)
unfolding told_fields number_fields
report_written told.Done [] is = refl
report_written told.Done (a ∷ []) is =
    ap (λ (l : List ℕ). reported_by (cut_of 32 l)) (append-nil (decimal a)) ∙ (ap reported_by (cut_none 32 (decimal a) (no_blank a is.1.0))
    ∙ (ap (λ (b : Bool). option_or (option_map (λ how. (how, [])) (only_if b told.Memory)) (option_map (λ numbers. (told.Done, numbers)) (numbers_by (decimal a, None)))) (number_no_word a 109 _ is.1.0 refl)
    ∙ ap (λ (o : Option ℕ). option_map (λ numbers. (told.Done, numbers)) (option_map (λ n. n ∷ []) o)) (wide_written a is.1.0)))
report_written told.Done (a ∷ b ∷ []) is =
    ap reported_by (cut_at 32 (decimal a) (decimal b ++ []) (no_blank a is.1.0) refl)
    ∙ (ap (λ (test : Bool). option_or (option_map (λ how. (how, [])) (if test then option_map told.Refused (number_up_to 255 (decimal b ++ [])) else None)) (option_map (λ numbers. (told.Done, numbers)) (numbers_by (decimal a, Some (decimal b ++ []))))) (number_no_word a 114 _ is.1.0 refl)
    ∙ ap (option_map (λ numbers. (told.Done, numbers)))
    (then_is (number_up_to widest (decimal a)) _ a (Some (a ∷ b ∷ [])) (wide_written a is.1.0)
    (then_is (number_up_to widest (decimal b ++ [])) _ b (Some (a ∷ b ∷ [])) (ap (number_up_to widest) (append-nil (decimal b)) ∙ wide_written b is.1.1.0) refl)))
report_written told.Done (a ∷ b ∷ c ∷ ns) is = absurd (omega (arith, is.0))
report_written (told.Refused number) ns is =
    subst (λ (ms : List ℕ). report_in (rest_of (told_fields (told.Refused number) ++ map decimal ms)) ≡ Some (told.Refused number, ms)) (sym is.1)
    (report_told (codes "refused" ++ 32 ∷ (decimal number ++ [])) (told.Refused number) (told_written (told.Refused number) is.0))
report_written told.Memory ns is =
    subst (λ (ms : List ℕ). report_in (rest_of (told_fields told.Memory ++ map decimal ms)) ≡ Some (told.Memory, ms)) (sym is)
    (report_told (codes "memory" ++ []) told.Memory (told_written told.Memory tt))

numbers_read : (parts : List ℕ × Option (List ℕ)) (ns : List ℕ) → numbers_by parts ≡ Some ns → (32 ∷ joined 32 parts ≡ numbers_text ns) × (length ns ≤ 2) × Every IsWide ns
numbers_read (first, None) ns e =
    let found = map_some (λ a. a ∷ []) (number_up_to widest first) ns e in
    let read = wide_read found.0 first found.1 in
    subst (λ (ms : List ℕ). (32 ∷ first ≡ numbers_text ms) × (length ms ≤ 2) × Every IsWide ms) found.2
    (ap (λ (l : List ℕ). 32 ∷ l) (sym (append-nil (decimal found.0) ∙ read.0)), omega arith, (read.1, tt))
numbers_read (first, Some second) ns e =
    let a = bind_some (number_up_to widest first) _ ns e in
    let b = bind_some (number_up_to widest second) _ ns a.2 in
    let x = wide_read a.0 first a.1 in
    let y = wide_read b.0 second b.1 in
    subst (λ (ms : List ℕ). (32 ∷ (first ++ 32 ∷ second) ≡ numbers_text ms) × (length ms ≤ 2) × Every IsWide ms) (same_Some (a.0 ∷ b.0 ∷ []) ns b.2)
    (ap (λ (l : List ℕ). 32 ∷ (l ++ 32 ∷ second)) (sym x.0) ∙ ap (λ (l : List ℕ). 32 ∷ (decimal a.0 ++ 32 ∷ l)) (sym (append-nil (decimal b.0) ∙ y.0)), omega arith, (x.1, (y.1, tt)))

report_of_told : (t : Told) → IsTold t → IsReport t []
report_of_told told.Done is = (omega arith, tt)
report_of_told (told.Refused number) is = (is, refl)
report_of_told told.Memory is = refl

report_read : (rest : Option (List ℕ)) (r : Told × List ℕ) → report_in rest ≡ Some r → (behind_word rest ≡ told_text r.0 ++ numbers_text r.1) × IsReport r.0 r.1
report_read None r e = subst (λ (q : Told × List ℕ). ([] ≡ told_text q.0 ++ numbers_text q.1) × IsReport q.0 q.1) (same_Some (told.Done, []) r e) (refl, (omega arith, tt))
report_read (Some facts) r e =
    either_gave ((32 ∷ facts ≡ told_text r.0 ++ numbers_text r.1) × IsReport r.0 r.1) (option_map (λ how. (how, [])) (told_by (cut_of 32 facts))) (option_map (λ numbers. (told.Done, numbers)) (numbers_by (cut_of 32 facts))) r
    (λ f.
    let found = map_some (λ how. (how, [])) (told_by (cut_of 32 facts)) r f in
    let read = told_by_read (cut_of 32 facts) found.0 found.1 in
    subst (λ (q : Told × List ℕ). (32 ∷ facts ≡ told_text q.0 ++ numbers_text q.1) × IsReport q.0 q.1) found.2
    (ap (λ (l : List ℕ). 32 ∷ l) (sym (cut_joins 32 facts)) ∙ (read.0 ∙ sym (append-nil (told_text found.0))), report_of_told found.0 read.1))
    (λ none f.
    let found = map_some (λ numbers. (told.Done, numbers)) (numbers_by (cut_of 32 facts)) r f in
    let read = numbers_read (cut_of 32 facts) found.0 found.1 in
    subst (λ (q : Told × List ℕ). (32 ∷ facts ≡ told_text q.0 ++ numbers_text q.1) × IsReport q.0 q.1) found.2
    (ap (λ (l : List ℕ). 32 ∷ l) (sym (cut_joins 32 facts)) ∙ read.0, (read.1, read.2))) e

-- ---- the words of kinds, and their fields

pub kind_word : EntryKind → List ℕ
kind_word (kind.Begin t) = codes "begin"
kind_word (kind.Start t) = codes "start"
kind_word (kind.End gone added) = codes "end"
kind_word (kind.Abandon t) = codes "abandon"
kind_word (kind.Commit t) = codes "commit"
kind_word kind.Rollback = codes "rollback"
kind_word (kind.Define t) = codes "define"
kind_word (kind.Wait t) = codes "wait"
kind_word (kind.Report t ns) = codes "report"
kind_word (kind.RecluStart table parts) = codes "recluster"
kind_word (kind.RecluEnd table gone added) = codes "landed"
kind_word (kind.RecluMiss table why) = codes "missed"
kind_word (kind.Purge parts) = codes "purge"
kind_word kind.Close = codes "close"

-- what stands behind the word, if anything does
pub kind_rest : Script → EntryKind → Option (List ℕ)
kind_rest program (kind.Begin t) = rest_of (told_fields t)
kind_rest program (kind.Start t) = rest_of (told_fields t)
kind_rest program (kind.End gone added) = rest_of (map minus_text gone ++ map plus_text added)
kind_rest program (kind.Abandon t) = rest_of (told_fields t)
kind_rest program (kind.Commit t) = rest_of (told_fields t)
kind_rest program kind.Rollback = None
kind_rest program (kind.Define t) = rest_of (told_fields t)
kind_rest program (kind.Wait t) = rest_of (told_fields t)
kind_rest program (kind.Report t ns) = rest_of (told_fields t ++ number_fields ns)
kind_rest program (kind.RecluStart table parts) = Some (decimal table ++ spaced (map minus_text parts))
kind_rest program (kind.RecluEnd table gone added) = Some (decimal table ++ spaced (map minus_text gone ++ map plus_text added))
kind_rest program (kind.RecluMiss table why) = Some (decimal table ++ 32 ∷ miss_tail program why)
kind_rest program (kind.Purge parts) = rest_of (map minus_text parts)
kind_rest program kind.Close = None

word_lacks : (k : EntryKind) → Lacks 32 (kind_word k)
unfolding kind_word
word_lacks (kind.Begin t) = lacks_test (codes "begin") refl
word_lacks (kind.Start t) = lacks_test (codes "start") refl
word_lacks (kind.End gone added) = lacks_test (codes "end") refl
word_lacks (kind.Abandon t) = lacks_test (codes "abandon") refl
word_lacks (kind.Commit t) = lacks_test (codes "commit") refl
word_lacks kind.Rollback = lacks_test (codes "rollback") refl
word_lacks (kind.Define t) = lacks_test (codes "define") refl
word_lacks (kind.Wait t) = lacks_test (codes "wait") refl
word_lacks (kind.Report t ns) = lacks_test (codes "report") refl
word_lacks (kind.RecluStart table parts) = lacks_test (codes "recluster") refl
word_lacks (kind.RecluEnd table gone added) = lacks_test (codes "landed") refl
word_lacks (kind.RecluMiss table why) = lacks_test (codes "missed") refl
word_lacks (kind.Purge parts) = lacks_test (codes "purge") refl
word_lacks kind.Close = lacks_test (codes "close") refl

rest_spaced : (fields : List (List ℕ)) → behind_word (rest_of fields) ≡ spaced fields
rest_spaced [] = refl
rest_spaced (field ∷ fields) = refl

kind_behind : (program : Script) (k : EntryKind) → kind_text program k ≡ kind_word k ++ behind_word (kind_rest program k)
unfolding kind_word kind_rest
kind_behind program (kind.Begin t) = ap (λ (l : List ℕ). codes "begin" ++ l) (told_spaced t ∙ sym (rest_spaced (told_fields t)))
kind_behind program (kind.Start t) = ap (λ (l : List ℕ). codes "start" ++ l) (told_spaced t ∙ sym (rest_spaced (told_fields t)))
kind_behind program (kind.End gone added) =
    append_assoc (codes "end") (gone_text gone) (added_text added) ∙ ap (λ (l : List ℕ). codes "end" ++ l) (change_spaced gone added ∙ sym (rest_spaced (map minus_text gone ++ map plus_text added)))
kind_behind program (kind.Abandon t) = ap (λ (l : List ℕ). codes "abandon" ++ l) (told_spaced t ∙ sym (rest_spaced (told_fields t)))
kind_behind program (kind.Commit t) = ap (λ (l : List ℕ). codes "commit" ++ l) (told_spaced t ∙ sym (rest_spaced (told_fields t)))
kind_behind program kind.Rollback = refl
kind_behind program (kind.Define t) = ap (λ (l : List ℕ). codes "define" ++ l) (told_spaced t ∙ sym (rest_spaced (told_fields t)))
kind_behind program (kind.Wait t) = ap (λ (l : List ℕ). codes "wait" ++ l) (told_spaced t ∙ sym (rest_spaced (told_fields t)))
kind_behind program (kind.Report t ns) =
    append_assoc (codes "report") (told_text t) (numbers_text ns)
    ∙ ap (λ (l : List ℕ). codes "report" ++ l)
    (ap (λ (l : List ℕ). l ++ numbers_text ns) (told_spaced t) ∙ (ap (λ (l : List ℕ). spaced (told_fields t) ++ l) (numbers_spaced ns)
    ∙ (sym (spaced_both (told_fields t) (number_fields ns)) ∙ sym (rest_spaced (told_fields t ++ number_fields ns)))))
kind_behind program (kind.RecluStart table parts) =
    append_assoc (codes "recluster ") (decimal table) (gone_text parts) ∙ ap (λ (l : List ℕ). codes "recluster " ++ (decimal table ++ l)) (gone_spaced parts)
kind_behind program (kind.RecluEnd table gone added) =
    append_assoc (codes "landed " ++ decimal table) (gone_text gone) (added_text added)
    ∙ (append_assoc (codes "landed ") (decimal table) (gone_text gone ++ added_text added) ∙ ap (λ (l : List ℕ). codes "landed " ++ (decimal table ++ l)) (change_spaced gone added))
kind_behind program (kind.RecluMiss table why) =
    append_assoc (codes "missed ") (decimal table) (miss_text program why) ∙ ap (λ (l : List ℕ). codes "missed " ++ (decimal table ++ l)) (miss_behind program why)
kind_behind program (kind.Purge parts) = ap (λ (l : List ℕ). codes "purge" ++ l) (gone_spaced parts ∙ sym (rest_spaced (map minus_text parts)))
kind_behind program kind.Close = refl

cut_behind : (word : List ℕ) (rest : Option (List ℕ)) → Lacks 32 word → cut_of 32 (word ++ behind_word rest) ≡ (word, rest)
cut_behind word None lacks = ap (cut_of 32) (append-nil word) ∙ cut_none 32 word lacks
cut_behind word (Some bytes) lacks = cut_at 32 word bytes lacks refl

pub kind_cut : (program : Script) (k : EntryKind) → cut_of 32 (kind_text program k) ≡ (kind_word k, kind_rest program k)
kind_cut program k = ap (cut_of 32) (kind_behind program k) ∙ cut_behind (kind_word k) (kind_rest program k) (word_lacks k)

-- ---- kinds as they are written

short_written : (n : ℕ) → n < 2 ^ 32 → number_up_to 4294967295 (decimal n) ≡ Some n
short_written n small = number_written 4294967295 n (omega (arith, small)) (omega (arith, small))

told_as : (word : List ℕ) (t : Told) (k : EntryKind) (other : Option EntryKind) → IsTold t → told_kind word t ≡ Some k → option_or (told_kind_in word (rest_of (told_fields t))) other ≡ Some k
told_as word t k other is made = ap (λ (o : Option EntryKind). option_or o other) (then_is (told_in (rest_of (told_fields t))) (told_kind word) t (Some k) (told_written t is) made)

-- a word of which no call is told
untold : (word : List ℕ) (rest : Option (List ℕ)) (other : Option EntryKind) → ((t : Told) → told_kind word t ≡ None) → option_or (told_kind_in word rest) other ≡ other
untold word rest other none = ap (λ (o : Option EntryKind). option_or o other) (leads_nowhere (told_in rest) (told_kind word) none)

module _ (program : Script) (sound : IsProgram program) where
  pub kind_written : (k : EntryKind) → IsKind program k → kind_by program (kind_word k, kind_rest program k) ≡ Some k
  unfolding kind_word kind_rest kind_by told_kind bare_kind fact_kind
  kind_written (kind.Begin t) is = told_as (codes "begin") t (kind.Begin t) _ is refl
  kind_written (kind.Start t) is = told_as (codes "start") t (kind.Start t) _ is refl
  kind_written (kind.End gone added) is = ap (option_map (λ (change : List ℕ × List Added). kind.End change.0 change.1)) (change_written gone added is.0 is.1)
  kind_written (kind.Abandon told.Done) is = absurd is
  kind_written (kind.Abandon (told.Refused number)) is = told_as (codes "abandon") (told.Refused number) (kind.Abandon (told.Refused number)) _ is refl
  kind_written (kind.Abandon told.Memory) is = told_as (codes "abandon") told.Memory (kind.Abandon told.Memory) _ tt refl
  kind_written (kind.Commit told.Done) is = told_as (codes "commit") told.Done (kind.Commit told.Done) _ tt refl
  kind_written (kind.Commit (told.Refused number)) is = absurd is
  kind_written (kind.Commit told.Memory) is = told_as (codes "commit") told.Memory (kind.Commit told.Memory) _ tt refl
  kind_written kind.Rollback is = refl
  kind_written (kind.Define t) is = told_as (codes "define") t (kind.Define t) _ is refl
  kind_written (kind.Wait t) is = told_as (codes "wait") t (kind.Wait t) _ is refl
  kind_written (kind.Report t ns) is = ap (option_map (λ (report : Told × List ℕ). kind.Report report.0 report.1)) (report_written t ns is)
  kind_written (kind.RecluStart table parts) is =
      untold (codes "recluster") (Some (decimal table ++ spaced (map minus_text parts))) _ (λ t. refl)
      ∙ (ap round_by (cut_word (decimal table) (map minus_text parts) (no_blank table (omega (arith, is.0))))
      ∙ then_is (table_of (decimal table)) _ table (Some (kind.RecluStart table parts)) (short_written table is.0)
      (then_is (parts_in (rest_of (map minus_text parts))) _ parts (Some (kind.RecluStart table parts)) (parts_written parts is.1) refl))
  kind_written (kind.RecluEnd table gone added) is =
      untold (codes "landed") (Some (decimal table ++ spaced (map minus_text gone ++ map plus_text added))) _ (λ t. refl)
      ∙ (ap landing_by (cut_word (decimal table) (map minus_text gone ++ map plus_text added) (no_blank table (omega (arith, is.0))))
      ∙ then_is (table_of (decimal table)) _ table (Some (kind.RecluEnd table gone added)) (short_written table is.0)
      (then_is (change_in (rest_of (map minus_text gone ++ map plus_text added))) _ (gone, added) (Some (kind.RecluEnd table gone added)) (change_written gone added is.1 is.2) refl))
  kind_written (kind.RecluMiss table why) is =
      untold (codes "missed") (Some (decimal table ++ 32 ∷ miss_tail program why)) _ (λ t. refl)
      ∙ (ap (miss_by program) (cut_at 32 (decimal table) (miss_tail program why) (no_blank table (omega (arith, is.0))) refl)
      ∙ then_is (table_of (decimal table)) _ table (Some (kind.RecluMiss table why)) (short_written table is.0)
      (then_is (cause_by program (cut_of 32 (miss_tail program why))) _ why (Some (kind.RecluMiss table why)) (cause_written program sound why is.1) refl))
  kind_written (kind.Purge parts) is = ap (option_map kind.Purge) (parts_written parts is)
  kind_written kind.Close is = refl

-- ---- kinds as they are read

short_read : (n : ℕ) (digits : List ℕ) → number_up_to 4294967295 digits ≡ Some n → (decimal n ≡ digits) × (n < 2 ^ 32)
short_read n digits e = let read = number_read 4294967295 n digits (omega arith) e in (read.0, omega (arith, read.1))

-- a kind of this text
abbrev IsRead : Script → List ℕ → EntryKind → Type 0
IsRead program text k = (text ≡ kind_text program k) × IsKind program k

-- a word that is known, with a kind of its text
as_kind : (program : Script) (word wanted behind : List ℕ) (found k : EntryKind) → is_word word wanted ≡ true → found ≡ k → wanted ++ behind ≡ kind_text program found → IsKind program found → IsRead program (word ++ behind) k
as_kind program word wanted behind found k same e text is =
    subst (IsRead program (word ++ behind)) e (ap (λ (w : List ℕ). w ++ behind) (is_same word wanted same) ∙ text, is)

told_kind_read : (program : Script) (word : List ℕ) (t : Told) (k : EntryKind) → IsTold t → told_kind word t ≡ Some k → IsRead program (word ++ told_text t) k
unfolding told_kind
told_kind_read program word t k is e =
    chosen P (is_word word (codes "begin")) _ _ k (λ same f. as_kind program word (codes "begin") (told_text t) (kind.Begin t) k same (same_Some _ _ f) refl is)
    (λ o f. chosen P (is_word word (codes "start")) _ _ k (λ same g. as_kind program word (codes "start") (told_text t) (kind.Start t) k same (same_Some _ _ g) refl is)
    (λ o g. chosen P (is_word word (codes "commit")) _ _ k (λ same h. commit t is same h)
    (λ o h. chosen P (is_word word (codes "define")) _ _ k (λ same i. as_kind program word (codes "define") (told_text t) (kind.Define t) k same (same_Some _ _ i) refl is)
    (λ o i. chosen P (is_word word (codes "wait")) _ _ k (λ same j. as_kind program word (codes "wait") (told_text t) (kind.Wait t) k same (same_Some _ _ j) refl is)
    (λ o j. chosen P (is_word word (codes "abandon")) (option_map kind.Abandon (failure_in t)) None k (λ same l. abandon t is same l) (λ o l. absurd (none-some k l)) j) i) h) g) f) e
  where
    P : Type 0
    P = IsRead program (word ++ told_text t) k

    commit : (u : Told) → IsTold u → is_word word (codes "commit") ≡ true → option_map kind.Commit (unrefused_in u) ≡ Some k → IsRead program (word ++ told_text u) k
    commit told.Done is same h = as_kind program word (codes "commit") [] (kind.Commit told.Done) k same (same_Some _ _ h) refl tt
    commit (told.Refused number) is same h = absurd (none-some k h)
    commit told.Memory is same h = as_kind program word (codes "commit") (codes " memory") (kind.Commit told.Memory) k same (same_Some _ _ h) refl tt

    abandon : (u : Told) → IsTold u → is_word word (codes "abandon") ≡ true → option_map kind.Abandon (failure_in u) ≡ Some k → IsRead program (word ++ told_text u) k
    abandon told.Done is same h = absurd (none-some k h)
    abandon (told.Refused number) is same h = as_kind program word (codes "abandon") (told_text (told.Refused number)) (kind.Abandon (told.Refused number)) k same (same_Some _ _ h) refl is
    abandon told.Memory is same h = as_kind program word (codes "abandon") (codes " memory") (kind.Abandon told.Memory) k same (same_Some _ _ h) refl tt

bare_read : (program : Script) (word : List ℕ) (k : EntryKind) → bare_kind word ≡ Some k → IsRead program (word ++ []) k
unfolding bare_kind
bare_read program word k e =
    chosen (IsRead program (word ++ []) k) (is_word word (codes "rollback")) _ _ k (λ same f. as_kind program word (codes "rollback") [] kind.Rollback k same (same_Some _ _ f) refl tt)
    (λ o f. let found = only_if_some (is_word word (codes "close")) kind.Close k f in as_kind program word (codes "close") [] kind.Close k found.0 found.1 refl tt) e

-- both sides of the first blank again
pub behind_cut : (bytes : List ℕ) → (cut_of 32 bytes).0 ++ behind_word (cut_of 32 bytes).1 ≡ bytes
behind_cut bytes = behind (cut_of 32 bytes) ∙ cut_joins 32 bytes
  where
    behind : (parts : List ℕ × Option (List ℕ)) → parts.0 ++ behind_word parts.1 ≡ joined 32 parts
    behind (word, None) = append-nil word
    behind (word, Some bytes) = refl

-- the facts of rounds: the number of the table, and what stands behind it
module _ (program : Script) (sound : IsProgram program) (facts : List ℕ) where
  front : List ℕ
  front = (cut_of 32 facts).0

  rest : Option (List ℕ)
  rest = (cut_of 32 facts).1

  whole : front ++ behind_word rest ≡ facts
  unfolding front rest
  whole = behind_cut facts

  round_read : (k : EntryKind) → round_by (cut_of 32 facts) ≡ Some k → IsRead program (codes "recluster" ++ 32 ∷ facts) k
  unfolding front rest
  round_read k e =
      let table = bind_some (table_of front) _ k e in
      let parts = bind_some (parts_in rest) _ k table.2 in
      let number = short_read table.0 front table.1 in
      let read = parts_read rest parts.0 parts.1 in
      subst (IsRead program (codes "recluster" ++ 32 ∷ facts)) (same_Some (kind.RecluStart table.0 parts.0) k parts.2)
      (sym (append_assoc (codes "recluster ") (decimal table.0) (gone_text parts.0) ∙ ap (λ (l : List ℕ). codes "recluster " ++ l) (ap (λ (l : List ℕ). l ++ gone_text parts.0) number.0 ∙ (ap (λ (l : List ℕ). front ++ l) (sym read.0) ∙ whole))), (number.1, read.1))

  landing_read : (k : EntryKind) → landing_by (cut_of 32 facts) ≡ Some k → IsRead program (codes "landed" ++ 32 ∷ facts) k
  unfolding front rest
  landing_read k e =
      let table = bind_some (table_of front) _ k e in
      let change = bind_some (change_in rest) _ k table.2 in
      let number = short_read table.0 front table.1 in
      let read = change_read rest change.0 change.1 in
      let gone = gone_text change.0.0 in
      let added = added_text change.0.1 in
      subst (IsRead program (codes "landed" ++ 32 ∷ facts)) (same_Some (kind.RecluEnd table.0 change.0.0 change.0.1) k change.2) (
        sym (append_assoc (codes "landed " ++ decimal table.0) gone added ∙ (append_assoc (codes "landed ") (decimal table.0) (gone ++ added)
            ∙ ap (λ (l : List ℕ). codes "landed " ++ l) (ap (λ (l : List ℕ). l ++ (gone ++ added)) number.0 ∙ (ap (λ (l : List ℕ). front ++ l) (sym read.0) ∙ whole)))),
        (number.1, read.1, read.2),
      )

  miss_read : (k : EntryKind) → miss_by program (cut_of 32 facts) ≡ Some k → IsRead program (codes "missed" ++ 32 ∷ facts) k
  unfolding front rest
  miss_read k e =
      let table = bind_some (table_of front) _ k e in
      let text = bind_some rest _ k table.2 in
      let why = bind_some (cause_by program (cut_of 32 text.0)) _ k text.2 in
      let number = short_read table.0 front table.1 in
      let read = cause_read program sound (cut_of 32 text.0) why.0 why.1 in
      let behind : miss_text program why.0 ≡ behind_word rest = sym read.0 ∙ (ap (λ (l : List ℕ). 32 ∷ l) (cut_joins 32 text.0) ∙ ap behind_word (sym text.1)) in
      subst (IsRead program (codes "missed" ++ 32 ∷ facts)) (same_Some (kind.RecluMiss table.0 why.0) k why.2)
      (sym (append_assoc (codes "missed ") (decimal table.0) (miss_text program why.0) ∙ ap (λ (l : List ℕ). codes "missed " ++ l) (ap (λ (l : List ℕ). l ++ miss_text program why.0) number.0 ∙ (ap (λ (l : List ℕ). front ++ l) behind ∙ whole))), (number.1, read.1))

  fact_read : (word : List ℕ) (k : EntryKind) → fact_kind program word facts ≡ Some k → IsRead program (word ++ 32 ∷ facts) k
  unfolding fact_kind
  fact_read word k e =
      chosen (IsRead program (word ++ 32 ∷ facts) k) (is_word word (codes "recluster")) _ _ k (λ same f. known word (codes "recluster") same (round_read k f))
      (λ o f. chosen (IsRead program (word ++ 32 ∷ facts) k) (is_word word (codes "landed")) _ _ k (λ same g. known word (codes "landed") same (landing_read k g))
      (λ o g. chosen (IsRead program (word ++ 32 ∷ facts) k) (is_word word (codes "missed")) (miss_by program (cut_of 32 facts)) None k (λ same h. known word (codes "missed") same (miss_read k h)) (λ o h. absurd (none-some k h)) g) f) e
    where
      known : (word wanted : List ℕ) → is_word word wanted ≡ true → IsRead program (wanted ++ 32 ∷ facts) k → IsRead program (word ++ 32 ∷ facts) k
      known word wanted same read = subst (λ (w : List ℕ). IsRead program (w ++ 32 ∷ facts) k) (sym (is_same word wanted same)) read

facts_read : (program : Script) (sound : IsProgram program) (word : List ℕ) (rest : Option (List ℕ)) (k : EntryKind) → facts_kind program word rest ≡ Some k → IsRead program (word ++ behind_word rest) k
facts_read program sound word None k e = bare_read program word k e
facts_read program sound word (Some facts) k e = fact_read program sound facts word k e

pub kind_read : (program : Script) (sound : IsProgram program) (parts : List ℕ × Option (List ℕ)) (k : EntryKind) → kind_by program parts ≡ Some k → IsRead program (parts.0 ++ behind_word parts.1) k
unfolding kind_by
kind_read program sound parts k e =
    chosen P (is_word word (codes "end")) (end_in rest) _ k
    (λ same f.
    let found = map_some (λ (change : List ℕ × List Added). kind.End change.0 change.1) (change_in rest) k f in
    let read = change_read rest found.0 found.1 in
    as_kind program word (codes "end") (behind_word rest) (kind.End found.0.0 found.0.1) k same found.2 (ap (λ (l : List ℕ). codes "end" ++ l) read.0 ∙ sym (append_assoc (codes "end") (gone_text found.0.0) (added_text found.0.1))) (read.1, read.2))
    (λ o f. chosen P (is_word word (codes "purge")) (purge_in rest) _ k
    (λ same g.
    let found = map_some kind.Purge (parts_in rest) k g in
    let read = parts_read rest found.0 found.1 in
    as_kind program word (codes "purge") (behind_word rest) (kind.Purge found.0) k same found.2 (ap (λ (l : List ℕ). codes "purge" ++ l) read.0) read.1)
    (λ o g. chosen P (is_word word (codes "report")) (report_kind rest) _ k
    (λ same h.
    let found = map_some (λ (report : Told × List ℕ). kind.Report report.0 report.1) (report_in rest) k h in
    let read = report_read rest found.0 found.1 in
    as_kind program word (codes "report") (behind_word rest) (kind.Report found.0.0 found.0.1) k same found.2 (ap (λ (l : List ℕ). codes "report" ++ l) read.0 ∙ sym (append_assoc (codes "report") (told_text found.0.0) (numbers_text found.0.1))) read.1)
    (λ o h. either_gave P (told_kind_in word rest) (facts_kind program word rest) k
    (λ i.
    let found = bind_some (told_in rest) (told_kind word) k i in
    let read = told_read rest found.0 found.1 in
    subst (λ (l : List ℕ). IsRead program (word ++ l) k) (sym read.0) (told_kind_read program word found.0 k read.1 found.2))
    (λ none i. facts_read program sound word rest k i) h) g) f) e
  where
    word : List ℕ
    word = parts.0

    rest : Option (List ℕ)
    rest = parts.1

    P : Type 0
    P = IsRead program (parts.0 ++ behind_word parts.1) k
