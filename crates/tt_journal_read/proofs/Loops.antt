-- Loops over fields: what was read, in front of what the rest gives, is what all fields give.
use Rattle.std.specs.Prelude.{Bool, List, None, Option, Some, [], false, if◌then◌else◌, is_some, option_map, refl, true, ℕ, ◌++◌, ◌∷◌, ◌≡◌}
use Rattle.std.specs.Option.{option_copied}
use Rattle.std.proofs.Common.{Bor, ap, append_assoc, sym, ◌∙◌}
use Rattle.std.proofs.lemmas.List.{append-nil}
use Rattle.std.proofs.lemmas.Bool.{false≢true}
use Rattle.tt_history.specs.declared.history.Added.{Added}
use Rattle.tt_plain.specs.Answers.{◌>>=◌}
use Rattle.tt_journal_read.specs.steps.Reading.{added_by, added_of, ascends, cut_of, fields_in, gone_of, onto_gone, parts_by, signed_number}
use Rattle.tt_journal_read.proofs.Fields.{first_field}

-- the fields that are left: the first, and those behind it
fields_left : (left : Option (List ℕ)) (bytes : List ℕ) → left ≡ Some bytes → fields_in left ≡ (cut_of 32 bytes).0 ∷ fields_in (cut_of 32 bytes).1
fields_left left bytes e = ap fields_in e ∙ first_field bytes

-- ---- parts that are taken away

-- no field is left, or the first one tells no part that is taken away
pub gone_ends : (left : Option (List ℕ)) → left ≡ None → gone_of (fields_in left) ≡ ([], fields_in left)
unfolding gone_of
gone_ends left e = ap (λ (o : Option (List ℕ)). gone_of (fields_in o)) e ∙ ap (λ (o : Option (List ℕ)). ([], fields_in o)) (sym e)

pub gone_stops : (left : Option (List ℕ)) (bytes : List ℕ) → left ≡ Some bytes → None ≡ signed_number 45 (cut_of 32 bytes).0 → gone_of (fields_in left) ≡ ([], fields_in left)
unfolding gone_of
gone_stops left bytes e none =
    let fields = fields_left left bytes e in
    let first = (cut_of 32 bytes).0 in
    let behind = fields_in (cut_of 32 bytes).1 in
    ap gone_of fields ∙ (ap (λ (o : Option ℕ). onto_gone o (first ∷ behind) (gone_of behind)) (sym none) ∙ ap (λ (fs : List (List ℕ)). ([], fs)) (sym fields))

pub gone_done : (numbers : List ℕ) (left : List (List ℕ)) (all : List ℕ × List (List ℕ)) → gone_of left ≡ ([], left) → numbers ++ (gone_of left).0 ≡ all.0 → (gone_of left).1 ≡ all.1
    → (numbers, left) ≡ all
gone_done numbers left all stop read rest =
    let first : numbers ≡ all.0 = sym (append-nil numbers) ∙ (ap (λ (r : List ℕ × List (List ℕ)). numbers ++ r.0) (sym stop) ∙ read) in
    let second : left ≡ all.1 = ap (λ (r : List ℕ × List (List ℕ)). r.1) (sym stop) ∙ rest in
    ap (λ (ns : List ℕ). (ns, left)) first ∙ ap (λ (fs : List (List ℕ)). (all.0, fs)) second

pub gone_goes : (left : Option (List ℕ)) (bytes : List ℕ) (number : ℕ) → left ≡ Some bytes → Some number ≡ signed_number 45 (cut_of 32 bytes).0
    → gone_of (fields_in left) ≡ (number ∷ (gone_of (fields_in (cut_of 32 bytes).1)).0, (gone_of (fields_in (cut_of 32 bytes).1)).1)
unfolding gone_of
gone_goes left bytes number e some =
    let first = (cut_of 32 bytes).0 in
    let behind = fields_in (cut_of 32 bytes).1 in
    ap gone_of (fields_left left bytes e) ∙ ap (λ (o : Option ℕ). onto_gone o (first ∷ behind) (gone_of behind)) (sym some)

pub one_behind : {A : Type 0} (xs new : List A) (x : A) (ys : List A) → new ≡ xs ++ x ∷ [] → new ++ ys ≡ xs ++ x ∷ ys
one_behind xs new x ys e = ap (λ zs. zs ++ ys) e ∙ append_assoc xs (x ∷ []) ys

-- something stands behind the numbers, or they do not ascend
pub parts_behind : (numbers : List ℕ) (left : Option (Bor (List ℕ))) (all : List ℕ × List (List ℕ)) → (numbers, fields_in (option_copied left)) ≡ all → is_some left ≡ true → parts_by all ≡ None
parts_behind numbers None all read some = absurd (false≢true some)
parts_behind numbers (Some bytes) all read some = ap parts_by (sym read) ∙ ap (λ (fs : List (List ℕ)). parts_by (numbers, fs)) (first_field bytes.now)

pub parts_jump : (numbers : List ℕ) (left : Option (List ℕ)) (all : List ℕ × List (List ℕ)) → (numbers, fields_in left) ≡ all → ascends numbers ≡ false → parts_by all ≡ None
parts_jump numbers None all read jump = ap parts_by (sym read) ∙ ap (λ (b : Bool). if b then Some numbers else None) jump
parts_jump numbers (Some bytes) all read jump = ap parts_by (sym read) ∙ ap (λ (fs : List (List ℕ)). parts_by (numbers, fs)) (first_field bytes)

-- ---- parts that are added

pub added_ends : (parts : List Added) (left : Option (List ℕ)) → left ≡ None → option_map (λ more. parts ++ more) (added_of (fields_in left)) ≡ Some parts
unfolding added_of
added_ends parts left e = ap (λ (o : Option (List ℕ)). option_map (λ more. parts ++ more) (added_of (fields_in o))) e ∙ ap Some (append-nil parts)

pub added_stops : (parts : List Added) (left : Option (List ℕ)) (bytes : List ℕ) → left ≡ Some bytes → None ≡ added_by (cut_of 32 bytes).0 → option_map (λ more. parts ++ more) (added_of (fields_in left)) ≡ None
unfolding added_of
added_stops parts left bytes e none =
    let behind = fields_in (cut_of 32 bytes).1 in
    ap (λ (fs : List (List ℕ)). option_map (λ more. parts ++ more) (added_of fs)) (fields_left left bytes e)
    ∙ ap (λ (o : Option Added). option_map (λ more. parts ++ more) (o >>= λ part. added_of behind >>= λ more. Some (part ∷ more))) (sym none)

pub added_goes : (parts new : List Added) (part : Added) (left next : Option (List ℕ)) (bytes : List ℕ) → new ≡ parts ++ part ∷ [] → left ≡ Some bytes → Some part ≡ added_by (cut_of 32 bytes).0 → next ≡ (cut_of 32 bytes).1
    → option_map (λ more. new ++ more) (added_of (fields_in next)) ≡ option_map (λ more. parts ++ more) (added_of (fields_in left))
unfolding added_of
added_goes parts new part left next bytes pushed e some after =
    let behind = fields_in (cut_of 32 bytes).1 in
    ap (λ (o : Option (List ℕ)). option_map (λ more. new ++ more) (added_of (fields_in o))) after
    ∙ (by (added_of behind)
    ∙ (ap (λ (o : Option Added). option_map (λ more. parts ++ more) (o >>= λ p. added_of behind >>= λ more. Some (p ∷ more))) some
    ∙ ap (λ (fs : List (List ℕ)). option_map (λ more. parts ++ more) (added_of fs)) (sym (fields_left left bytes e))))
  where
    by : (rest : Option (List Added)) → option_map (λ more. new ++ more) rest ≡ option_map (λ more. parts ++ more) (rest >>= λ more. Some (part ∷ more))
    by None = refl
    by (Some more) = ap Some (one_behind parts new part more pushed)
