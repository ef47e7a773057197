-- The facts of entries: what is read is what is written, part by part.
use Rattle.std.specs.Prelude.{Bool, List, None, Option, Some, [], codes, decimal, false, if◌then◌else◌, map, nat_lt, option_map, refl, true, ℕ, ◌&&◌, ◌++◌, ◌+◌, ◌<◌, ◌==◌, ◌∷◌, ◌≡◌}
use Rattle.std.proofs.Common.{ap, append_assoc, arith, subst, sym, ◌∙◌}
use Rattle.std.proofs.lemmas.Bool.{and_parts}
use Rattle.std.proofs.lemmas.Bool.Decides.{nat_tests}
use Rattle.std.proofs.lemmas.List.{append-nil}
use Rattle.std.proofs.lemmas.Option.{none-some, same_Some}
use Rattle.tt_history.specs.declared.history.Added.{Added}
use Rattle.tt_history.specs.declared.history.Told.{Told}
use Rattle.tt_layout.specs.Numbers.{AscendsFrom, IsAscending}
use Rattle.tt_plain.proofs.Answers.{bind_some, map_some, only_if_some}
use Rattle.tt_plain.proofs.Tests.{same_number}
use Rattle.tt_script.specs.Lines.{only_if}
use Rattle.tt_plain.specs.law.Lists.{Every}
use Rattle.tt_plain.specs.text.Journal.{added_text, gone_text, part_text, told_text}
use Rattle.tt_journal_read.specs.Line.{AreAdded, AreParts, IsAdded, IsTold, IsWide}
use Rattle.tt_journal_read.specs.steps.Reading.{added_by, added_of, ascends, ascends_above, behind_of, change_by, change_in, cut_of, fields_in, gone_of, is_word, number_up_to, numbers_ascend, onto_gone, parted, parts_by, parts_in, signed_number, told_by, told_in, widest}
use Rattle.tt_journal_read.proofs.Chains.{chosen, then_is}
use Rattle.tt_journal_read.proofs.Fields.{Lacks, behind_word, cut_joins, fields_of_rest, joined, lacks_both, parted_at, parted_joins, rest_of, spaced, spaced_again, spaced_both}
use Rattle.tt_journal_read.proofs.Names.{is_same}
use Rattle.tt_journal_read.proofs.Numerals.{no_blank, no_colon, number_read, number_written}
use Rattle.tt_history.specs.declared.history.Told.TheVariants as told

-- ---- numbers

pub wide_written : (n : ℕ) → IsWide n → number_up_to widest (decimal n) ≡ Some n
wide_written n wide = number_written widest n (omega (arith, wide)) wide

pub wide_read : (n : ℕ) (digits : List ℕ) → number_up_to widest digits ≡ Some n → (decimal n ≡ digits) × IsWide n
wide_read n digits e = let read = number_read widest n digits (omega arith) e in (read.0, omega (arith, read.1))

pub behind_read : (sign : ℕ) (bytes rest : List ℕ) → behind_of sign bytes ≡ Some rest → sign ∷ rest ≡ bytes
behind_read sign [] rest e = absurd (none-some rest e)
behind_read sign (byte ∷ bytes) rest e = by (byte == sign) refl e
  where
    by : (same : Bool) → (byte == sign) ≡ same → (if same then Some bytes else None) ≡ Some rest → sign ∷ rest ≡ byte ∷ bytes
    by true same f = subst (λ (l : List ℕ). sign ∷ l ≡ byte ∷ bytes) (same_Some bytes rest f) (ap (λ (n : ℕ). n ∷ bytes) (sym (same_number byte sign same)))
    by false other f = absurd (none-some rest f)

pub signed_read : (sign n : ℕ) (bytes : List ℕ) → signed_number sign bytes ≡ Some n → (sign ∷ decimal n ≡ bytes) × IsWide n
signed_read sign n bytes e =
    let found = bind_some (behind_of sign bytes) (λ digits. number_up_to widest digits) n e in
    let read = wide_read n found.0 found.2 in
    (ap (λ (l : List ℕ). sign ∷ l) read.0 ∙ behind_read sign bytes found.0 found.1, read.1)

-- ---- how a call went

unfoldable pub told_fields : Told → List (List ℕ)
told_fields told.Done = []
told_fields (told.Refused number) = codes "refused" ∷ decimal number ∷ []
told_fields told.Memory = codes "memory" ∷ []

pub told_spaced : (t : Told) → told_text t ≡ spaced (told_fields t)
unfolding told_fields
told_spaced told.Done = refl
told_spaced (told.Refused number) = ap (λ (l : List ℕ). codes " refused " ++ l) (sym (append-nil (decimal number)))
told_spaced told.Memory = refl

pub told_lacks : (t : Told) → IsTold t → Every (Lacks 32) (told_fields t)
unfolding told_fields
told_lacks told.Done is = tt
told_lacks (told.Refused number) is = ((refl, (refl, (refl, (refl, (refl, (refl, (refl, tt))))))), (no_blank number (omega (arith, is)), tt))
told_lacks told.Memory is = ((refl, (refl, (refl, (refl, (refl, (refl, tt)))))), tt)

pub told_written : (t : Told) → IsTold t → told_in (rest_of (told_fields t)) ≡ Some t
unfolding told_fields cut_of
told_written told.Done is = refl
told_written (told.Refused number) is =
    ap (option_map told.Refused) (ap (number_up_to 255) (append-nil (decimal number)) ∙ number_written 255 number (omega (arith, is)) (omega (arith, is)))
told_written told.Memory is = refl

pub told_by_read : (parts : List ℕ × Option (List ℕ)) (t : Told) → told_by parts ≡ Some t → (32 ∷ joined 32 parts ≡ told_text t) × IsTold t
told_by_read (word, None) t e =
    let found = only_if_some (is_word word (codes "memory")) told.Memory t e in
    subst (λ (u : Told). (32 ∷ word ≡ told_text u) × IsTold u) found.1 (ap (λ (l : List ℕ). 32 ∷ l) (is_same word (codes "memory") found.0), tt)
told_by_read (word, Some digits) t e =
    chosen ((32 ∷ joined 32 (word, Some digits) ≡ told_text t) × IsTold t) (is_word word (codes "refused")) (option_map told.Refused (number_up_to 255 digits)) None t
    (λ same f.
    let found = map_some told.Refused (number_up_to 255 digits) t f in
    let read = number_read 255 found.0 digits (omega arith) found.1 in
    subst (λ (u : Told). (32 ∷ (word ++ 32 ∷ digits) ≡ told_text u) × IsTold u) found.2
    (ap (λ (w : List ℕ). 32 ∷ (w ++ 32 ∷ digits)) (is_same word (codes "refused") same) ∙ ap (λ (l : List ℕ). codes " refused " ++ l) (sym read.0), omega (arith, read.1)))
    (λ other f. absurd (none-some t f)) e

pub told_read : (rest : Option (List ℕ)) (t : Told) → told_in rest ≡ Some t → (behind_word rest ≡ told_text t) × IsTold t
told_read None t e = subst (λ (u : Told). ([] ≡ told_text u) × IsTold u) (same_Some told.Done t e) (refl, tt)
told_read (Some facts) t e =
    let read = told_by_read (cut_of 32 facts) t e in
    (ap (λ (l : List ℕ). 32 ∷ l) (sym (cut_joins 32 facts)) ∙ read.0, read.1)

-- ---- ascending numbers

above_is : (last least : ℕ) (ns : List ℕ) → least ≡ last + 1 → ascends_above last ns ≡ true → AscendsFrom least ns
above_is last least [] e test = tt
above_is last least (n ∷ ns) e test =
    let both = and_parts (nat_lt last n) (ascends_above n ns) test in
    (omega (arith, e, below both.0), above_is n (n + 1) ns refl both.1)
  where
    below : nat_lt last n ≡ true → last < n
    below h = grind (arith, nat_tests)

is_above : (last least : ℕ) (ns : List ℕ) → least ≡ last + 1 → AscendsFrom least ns → ascends_above last ns ≡ true
is_above last least [] e from = refl
is_above last least (n ∷ ns) e from = ap (λ (b : Bool). b && ascends_above n ns) (below (omega (arith, e, from.0))) ∙ is_above n (n + 1) ns refl from.1
  where
    below : last < n → nat_lt last n ≡ true
    below h = grind (arith, nat_tests)

pub ascends_is : (ns : List ℕ) → ascends ns ≡ true → IsAscending ns
unfolding ascends
ascends_is [] test = tt
ascends_is (n ∷ ns) test = (omega arith, above_is n (n + 1) ns refl test)

pub is_ascends : (ns : List ℕ) → IsAscending ns → ascends ns ≡ true
unfolding ascends
is_ascends [] from = refl
is_ascends (n ∷ ns) from = is_above n (n + 1) ns refl from.1

-- ---- parts that are taken away

abbrev pub minus_text : ℕ → List ℕ
minus_text n = 45 ∷ decimal n

abbrev pub plus_text : Added → List ℕ
plus_text part = 43 ∷ (decimal part.number ++ 58 ∷ (decimal part.rows ++ 58 ∷ decimal part.bytes))

pub gone_spaced : (ns : List ℕ) → gone_text ns ≡ spaced (map minus_text ns)
gone_spaced [] = refl
gone_spaced (n ∷ ns) = ap (λ (l : List ℕ). 32 ∷ 45 ∷ (decimal n ++ l)) (gone_spaced ns)

part_spaced : (part : Added) → part_text part ≡ 32 ∷ plus_text part
part_spaced part = simp append_assoc

pub added_spaced : (parts : List Added) → added_text parts ≡ spaced (map plus_text parts)
added_spaced [] = refl
added_spaced (part ∷ parts) = ap (λ (l : List ℕ). l ++ added_text parts) (part_spaced part) ∙ ap (λ (l : List ℕ). (32 ∷ plus_text part) ++ l) (added_spaced parts)

pub change_spaced : (ns : List ℕ) (parts : List Added) → gone_text ns ++ added_text parts ≡ spaced (map minus_text ns ++ map plus_text parts)
change_spaced ns parts =
    ap (λ (l : List ℕ). l ++ added_text parts) (gone_spaced ns) ∙ (ap (λ (l : List ℕ). spaced (map minus_text ns) ++ l) (added_spaced parts) ∙ sym (spaced_both (map minus_text ns) (map plus_text parts)))

pub gone_lack : (ns : List ℕ) → Every IsWide ns → Every (Lacks 32) (map minus_text ns)
gone_lack [] wide = tt
gone_lack (n ∷ ns) wide = ((refl, no_blank n wide.0), gone_lack ns wide.1)

plus_lacks : (part : Added) → IsAdded part → Lacks 32 (plus_text part)
plus_lacks part is = (
  refl,
  lacks_both 32 (decimal part.number) (58 ∷ (decimal part.rows ++ 58 ∷ decimal part.bytes)) (no_blank part.number is.number)
      (refl, lacks_both 32 (decimal part.rows) (58 ∷ decimal part.bytes) (no_blank part.rows (omega (arith, is.rows))) (refl, no_blank part.bytes is.bytes)),
)

pub added_lack : (parts : List Added) → Every IsAdded parts → Every (Lacks 32) (map plus_text parts)
added_lack [] each = tt
added_lack (part ∷ parts) each = (plus_lacks part each.0, added_lack parts each.1)

every_both : (P : List ℕ → Type 0) (a b : List (List ℕ)) → Every P a → Every P b → Every P (a ++ b)
every_both P [] b first second = second
every_both P (x ∷ a) b first second = (first.0, every_both P a b first.1 second)

pub change_lack : (ns : List ℕ) (parts : List Added) → Every IsWide ns → Every IsAdded parts → Every (Lacks 32) (map minus_text ns ++ map plus_text parts)
change_lack ns parts wide each = every_both (Lacks 32) (map minus_text ns) (map plus_text parts) (gone_lack ns wide) (added_lack parts each)

gone_written : (ns : List ℕ) (parts : List Added) → Every IsWide ns → gone_of (map minus_text ns ++ map plus_text parts) ≡ (ns, map plus_text parts)
unfolding gone_of
gone_written [] [] wide = refl
gone_written [] (part ∷ parts) wide = refl
gone_written (n ∷ ns) parts wide =
    let fields = map minus_text ns ++ map plus_text parts in
    ap (λ (o : Option ℕ). onto_gone o (minus_text n ∷ fields) (gone_of fields)) (wide_written n wide.0)
    ∙ ap (λ (later : List ℕ × List (List ℕ)). (n ∷ later.0, later.1)) (gone_written ns parts wide.1)

gone_read : (fields : List (List ℕ)) → (map minus_text (gone_of fields).0 ++ (gone_of fields).1 ≡ fields) × Every IsWide (gone_of fields).0
unfolding gone_of
gone_read [] = (refl, tt)
gone_read (field ∷ fields) = by (gone_read fields) (signed_number 45 field) refl
  where
    by : (map minus_text (gone_of fields).0 ++ (gone_of fields).1 ≡ fields) × Every IsWide (gone_of fields).0
        → (o : Option ℕ) → signed_number 45 field ≡ o
        → (map minus_text (onto_gone o (field ∷ fields) (gone_of fields)).0 ++ (onto_gone o (field ∷ fields) (gone_of fields)).1 ≡ field ∷ fields) × Every IsWide (onto_gone o (field ∷ fields) (gone_of fields)).0
    by rest None e = (refl, tt)
    by rest (Some n) e =
        let read = signed_read 45 n field e in
        (ap (λ (l : List (List ℕ)). minus_text n ∷ l) rest.0 ∙ ap (λ (f : List ℕ). f ∷ fields) read.0, (read.1, rest.1))

-- ---- parts that are added

added_by_written : (part : Added) → IsAdded part → added_by (plus_text part) ≡ Some part
unfolding added_by
added_by_written part is =
    then_is (parted 58 (decimal part.number ++ 58 ∷ (decimal part.rows ++ 58 ∷ decimal part.bytes))) _ (decimal part.number, decimal part.rows ++ 58 ∷ decimal part.bytes) (Some part)
    (parted_at 58 (decimal part.number) (decimal part.rows ++ 58 ∷ decimal part.bytes) (no_colon part.number is.number) refl)
    (then_is (parted 58 (decimal part.rows ++ 58 ∷ decimal part.bytes)) _ (decimal part.rows, decimal part.bytes) (Some part)
    (parted_at 58 (decimal part.rows) (decimal part.bytes) (no_colon part.rows (omega (arith, is.rows))) refl)
    (then_is (number_up_to widest (decimal part.number)) _ part.number (Some part) (wide_written part.number is.number)
    (then_is (number_up_to 4294967295 (decimal part.rows)) _ part.rows (Some part) (number_written 4294967295 part.rows (omega (arith, is.rows)) (omega (arith, is.rows)))
    (then_is (number_up_to widest (decimal part.bytes)) _ part.bytes (Some part) (wide_written part.bytes is.bytes) refl))))

added_by_read : (field : List ℕ) (part : Added) → added_by field ≡ Some part → (plus_text part ≡ field) × IsAdded part
unfolding added_by
added_by_read field part e =
    let facts = bind_some (behind_of 43 field) _ part e in
    let first = bind_some (parted 58 facts.0) _ part facts.2 in
    let second = bind_some (parted 58 first.0.1) _ part first.2 in
    let number = bind_some (number_up_to widest first.0.0) _ part second.2 in
    let rows = bind_some (number_up_to 4294967295 second.0.0) _ part number.2 in
    let bytes = bind_some (number_up_to widest second.0.1) _ part rows.2 in
    let n = wide_read number.0 first.0.0 number.1 in
    let r = number_read 4294967295 rows.0 second.0.0 (omega arith) rows.1 in
    let b = wide_read bytes.0 second.0.1 bytes.1 in
    let made : Added = record { number = number.0; rows = rows.0; bytes = bytes.0 } in
    let tail : decimal rows.0 ++ 58 ∷ decimal bytes.0 ≡ first.0.1 = ap (λ (l : List ℕ). l ++ 58 ∷ decimal bytes.0) r.0 ∙ (ap (λ (l : List ℕ). second.0.0 ++ 58 ∷ l) b.0 ∙ parted_joins 58 first.0.1 second.0 second.1) in
    let whole : decimal number.0 ++ 58 ∷ (decimal rows.0 ++ 58 ∷ decimal bytes.0) ≡ facts.0 = ap (λ (l : List ℕ). l ++ 58 ∷ (decimal rows.0 ++ 58 ∷ decimal bytes.0)) n.0 ∙ (ap (λ (l : List ℕ). first.0.0 ++ 58 ∷ l) tail ∙ parted_joins 58 facts.0 first.0 first.1) in
    let is : IsAdded made = record { number = n.1; rows = omega (arith, r.1); bytes = b.1 } in
    subst (λ (p : Added). (plus_text p ≡ field) × IsAdded p) (same_Some made part bytes.2)
    (ap (λ (l : List ℕ). 43 ∷ l) whole ∙ behind_read 43 field facts.0 facts.1, is)

added_written : (parts : List Added) → Every IsAdded parts → added_of (map plus_text parts) ≡ Some parts
unfolding added_of
added_written [] each = refl
added_written (part ∷ parts) each =
    then_is (added_by (plus_text part)) _ part (Some (part ∷ parts)) (added_by_written part each.0)
    (then_is (added_of (map plus_text parts)) _ parts (Some (part ∷ parts)) (added_written parts each.1) refl)

added_read : (fields : List (List ℕ)) (parts : List Added) → added_of fields ≡ Some parts → (map plus_text parts ≡ fields) × Every IsAdded parts
unfolding added_of
added_read [] parts e = subst (λ (ps : List Added). (map plus_text ps ≡ []) × Every IsAdded ps) (same_Some [] parts e) (refl, tt)
added_read (field ∷ fields) parts e =
    let first = bind_some (added_by field) _ parts e in
    let later = bind_some (added_of fields) _ parts first.2 in
    let here = added_by_read field first.0 first.1 in
    let rest = added_read fields later.0 later.1 in
    subst (λ (ps : List Added). (map plus_text ps ≡ field ∷ fields) × Every IsAdded ps) (same_Some (first.0 ∷ later.0) parts later.2)
    (ap (λ (f : List ℕ). f ∷ map plus_text later.0) here.0 ∙ ap (λ (l : List (List ℕ)). field ∷ l) rest.0, (here.1, rest.1))

-- ---- whole facts

pub parts_written : (ns : List ℕ) → AreParts ns → parts_in (rest_of (map minus_text ns)) ≡ Some ns
parts_written ns are =
    ap (λ (fs : List (List ℕ)). parts_by (gone_of fs)) (fields_of_rest (map minus_text ns) (gone_lack ns are.wide))
    ∙ (ap (λ (fs : List (List ℕ)). parts_by (gone_of fs)) (sym (append-nil (map minus_text ns)))
    ∙ (ap parts_by (gone_written ns [] are.wide) ∙ ap (λ (b : Bool). only_if b ns) (is_ascends ns are.ascend)))

pub parts_read : (rest : Option (List ℕ)) (ns : List ℕ) → parts_in rest ≡ Some ns → (behind_word rest ≡ gone_text ns) × AreParts ns
parts_read rest ns e = by (gone_of (fields_in rest)).0 (gone_of (fields_in rest)).1 refl e
  where
    by : (read : List ℕ) (left : List (List ℕ)) → gone_of (fields_in rest) ≡ (read, left) → parts_by (read, left) ≡ Some ns → (behind_word rest ≡ gone_text ns) × AreParts ns
    by read (field ∷ left) g f = absurd (none-some ns f)
    by read [] g f =
        let found = only_if_some (ascends read) read ns f in
        let all = gone_read (fields_in rest) in
        let fields : map minus_text read ≡ fields_in rest = sym (append-nil (map minus_text read)) ∙ (ap (λ (r : List ℕ × List (List ℕ)). map minus_text r.0 ++ r.1) (sym g) ∙ all.0) in
        let wide : Every IsWide read = subst (λ (r : List ℕ × List (List ℕ)). Every IsWide r.0) g all.1 in
        let are : AreParts read = record { wide = wide; ascend = ascends_is read found.0 } in
        subst (λ (m : List ℕ). (behind_word rest ≡ gone_text m) × AreParts m) found.1
        (sym (spaced_again rest) ∙ (ap spaced (sym fields) ∙ sym (gone_spaced read)), are)

pub change_written : (ns : List ℕ) (parts : List Added) → AreParts ns → AreAdded parts → change_in (rest_of (map minus_text ns ++ map plus_text parts)) ≡ Some (ns, parts)
change_written ns parts are add =
    ap (λ (fs : List (List ℕ)). change_by (gone_of fs)) (fields_of_rest (map minus_text ns ++ map plus_text parts) (change_lack ns parts are.wide add.wide))
    ∙ (ap change_by (gone_written ns parts are.wide)
    ∙ then_is (added_of (map plus_text parts)) _ parts (Some (ns, parts)) (added_written parts add.wide)
    (ap (λ (b : Bool). only_if (b && numbers_ascend parts) (ns, parts)) (is_ascends ns are.ascend)
    ∙ ap (λ (b : Bool). only_if b (ns, parts)) (is_ascends (map (λ (part : Added). part.number) parts) add.ascend)))

pub change_read : (rest : Option (List ℕ)) (change : List ℕ × List Added) → change_in rest ≡ Some change → (behind_word rest ≡ gone_text change.0 ++ added_text change.1) × AreParts change.0 × AreAdded change.1
change_read rest change e =
    let all = gone_read (fields_in rest) in
    let added = bind_some (added_of (gone_of (fields_in rest)).1) _ change e in
    let found = only_if_some (ascends (gone_of (fields_in rest)).0 && numbers_ascend added.0) ((gone_of (fields_in rest)).0, added.0) change added.2 in
    let both = and_parts (ascends (gone_of (fields_in rest)).0) (numbers_ascend added.0) found.0 in
    let read = added_read (gone_of (fields_in rest)).1 added.0 added.1 in
    let fields : map minus_text (gone_of (fields_in rest)).0 ++ map plus_text added.0 ≡ fields_in rest = ap (λ (l : List (List ℕ)). map minus_text (gone_of (fields_in rest)).0 ++ l) read.0 ∙ all.0 in
    let are : AreParts (gone_of (fields_in rest)).0 = record { wide = all.1; ascend = ascends_is (gone_of (fields_in rest)).0 both.0 } in
    let add : AreAdded added.0 = record { wide = read.1; ascend = ascends_is (map (λ (part : Added). part.number) added.0) both.1 } in
    subst (λ (c : List ℕ × List Added). (behind_word rest ≡ gone_text c.0 ++ added_text c.1) × AreParts c.0 × AreAdded c.1) found.1
    (sym (spaced_again rest) ∙ (ap spaced (sym fields) ∙ sym (change_spaced (gone_of (fields_in rest)).0 added.0)), are, add)
