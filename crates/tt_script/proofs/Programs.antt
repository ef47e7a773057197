-- What a script without a faulty line spells is a program.
use Rattle.std.proofs.Common.{◌≡◌, ◌≢◌, ℕ, zero, suc, ◌+◌, ◌-◌, ◌<◌, ◌≤◌, ◌⊎◌, Bool, true, false, ◌&&◌, not, leb, List, [], ◌∷◌, length, take, drop, get_or, codes, All, Option, Some, None, Ok, Err, refl, sym, ap, subst, ◌∙◌, arith, inl, inr}
use Rattle.std.specs.Prelude.{nat_eq, slice_get, unwrap_or, AllPairs}
use Rattle.std.specs.Cmp.Lexicographic.{pointwise}
use Rattle.std.specs.List.{list_all, position_or_len}
use Rattle.std.specs.Str.{IsUtf8}
use Rattle.std.proofs.lemmas.Bool.{cases_Bool, cases_lt}
use Rattle.std.proofs.lemmas.Bool.Decides.{nat_tests}
use Rattle.std.proofs.lemmas.List.{length-drop, length-take-le, take_all, drop-drop}
use Rattle.std.proofs.Math.Seq.{drop-length}
use Rattle.std.proofs.lemmas.List.Elements.{All-nil, All-cons}
use Rattle.std.proofs.lemmas.List.Sums.{prefix_len_stops}
use Rattle.std.proofs.lemmas.Option.{none-some, same_Some, slice_get_cases, slice_get_read}
use Rattle.tt_script.specs.declared.script.SessionText.{SessionText}
use Rattle.tt_script.specs.declared.script.FileText.{FileText}
use Rattle.tt_script.specs.declared.script.Turn.{Turn}
use Rattle.tt_script.specs.Bytes.{is_line_feed, is_digit}
use Rattle.tt_script.specs.Body.{statements_in}
use Rattle.tt_script.specs.Lines.{lines_of, only_if, decimal_value, is_start, start_on, is_session_name, session_on, said, line_place}
use Rattle.tt_script.specs.Script.{start_in, session_or, session_in, sessions_at, sessions_of, within_limit, sessions_read, script_of}
use Rattle.tt_script.specs.Program.{IsSpan, IsSession, IsProgram, all_statements}
use Rattle.tt_script.proofs.Texts.{first_length, split_any, session_named}
use Rattle.tt_script.proofs.Edges.{AfterAscii, get_drop, statements_sound}
use Rattle.tt_script.proofs.Cuts.{part_ends, get_take, few_taken}

-- ---- the start

pub start_small : (text : List ℕ) → unwrap_or (start_on text) 0 ≤ 253402300799999
unfolding start_on is_start
start_small text = by (pointwise nat_eq (take 7 text) (codes "%start ")) (not (leb (length (drop 7 text)) 0) && leb (length (drop 7 text)) 15) (list_all is_digit (drop 7 text)) (decimal_value (drop 7 text))
  where
    by : (word fits digits : Bool) (value : ℕ) → unwrap_or (only_if (word && (fits && (digits && leb value 253402300799999))) value) 0 ≤ 253402300799999
    by false fits digits value = omega arith
    by true false digits value = omega arith
    by true true false value = omega arith
    by true true true value = elim (cases_Bool (leb value 253402300799999)) [
      | inl small ↦ rw small (below small)
      | inr large ↦ rw large (omega arith)
    ]
      where
        below : {m n : ℕ} → leb m n ≡ true → m ≤ n
        below h = grind (arith, nat_tests)

start_fits : (lines : List (List ℕ)) → start_in lines ≤ 253402300799999
start_fits [] = omega arith
start_fits (line ∷ lines) = start_small (said line)

-- ---- where the session's body begins

-- a line has some bytes, and a line feed at its end if it is not the last
pub line_end : (rest : List ℕ) (n : ℕ) → 0 < length rest → n ≡ first_length rest → (0 < n) × (n ≤ length rest) × ((get_or rest (n - 1) 0 ≡ 10) ⊎ (n ≡ length rest))
line_end rest n some e = elim (cases_lt (position_or_len is_line_feed rest) (length rest)) [
  | inl within ↦ (omega arith, omega arith, inl (let p : n - 1 ≡ position_or_len is_line_feed rest = omega arith in rw p (feed within)))
  | inr past ↦ (omega arith, omega arith, inr (omega arith))
]
  where
    is_ten : (byte : ℕ) → not (is_line_feed byte) ≡ false → byte ≡ 10
    is_ten byte h = grind (arith, nat_tests)

    feed : position_or_len is_line_feed rest < length rest → get_or rest (position_or_len is_line_feed rest) 0 ≡ 10
    feed within = is_ten (get_or rest (position_or_len is_line_feed rest) 0) (prefix_len_stops (λ b. not (is_line_feed b)) rest 0 within)

pub record IsBody (text name : List ℕ) (start : ℕ) : Type 0 where
  pub named : is_session_name name ≡ true
  pub some : 0 < start
  pub within : start ≤ length text
  pub edge : AfterAscii text start ⊎ (start ≡ length text)

edge_at : (text : List ℕ) (at n : ℕ) → at ≤ length text → 0 < n → n ≤ length (drop at text) → (get_or (drop at text) (n - 1) 0 ≡ 10) ⊎ (n ≡ length (drop at text)) → AfterAscii text (at + n) ⊎ (at + n ≡ length text)
edge_at text at n within some fits (inl feed) =
    let before : suc (at + (n - 1)) ≡ at + n = omega arith in
    let ten : get_or text (at + (n - 1)) 0 ≡ 10 = sym (get_drop text at (n - 1)) ∙ feed in
    inl (subst (AfterAscii text) before (omega (arith, ten)))
edge_at text at n within some fits (inr whole) = inr (omega (arith, length-drop at text))

line_body : (text name : List ℕ) (at start n : ℕ) → at ≤ length text → n ≡ first_length (drop at text) → 0 < length (drop at text) → (found : Option (List ℕ)) → found ≡ session_on (said (take n (drop at text)))
    → ((next : ℕ) → at < next → next ≤ length text → session_in next (lines_of (drop next text)) ≡ Some (name, start) → IsBody text name start)
    → session_or found (at + length (take n (drop at text))) (session_in (at + length (take n (drop at text))) (lines_of (drop n (drop at text)))) ≡ Some (name, start) → IsBody text name start
line_body text name at start n within e some (Some named) f later so_far =
    let ends = line_end (drop at text) n some e in
    let size : length (take n (drop at text)) ≡ n = length-take-le n (drop at text) ends.1 in
    let found_is : ◌≡◌ {A = List ℕ × ℕ} (named, at + length (take n (drop at text))) (name, start) = same_Some (named, at + length (take n (drop at text))) (name, start) so_far in
    let name_is : named ≡ name = ap (λ (w : List ℕ × ℕ). w.0) found_is in
    let begins : at + length (take n (drop at text)) ≡ start = ap (λ (w : List ℕ × ℕ). w.1) found_is in
    let start_is : at + n ≡ start = omega (arith, begins, size) in
    subst (IsBody text name) start_is (record {
      named = session_named (said (take n (drop at text))) name (sym f ∙ ap (λ (x : List ℕ). Some x) name_is);
      some = omega (arith, ends.0);
      within = omega (arith, ends.1, length-drop at text);
      edge = edge_at text at n within ends.0 ends.1 ends.2;
    })
line_body text name at start n within e some None f later so_far =
    let ends = line_end (drop at text) n some e in
    let size : length (take n (drop at text)) ≡ n = length-take-le n (drop at text) ends.1 in
    let further : drop n (drop at text) ≡ drop (at + n) text = drop-drop n at text in
    later (at + n) (omega (arith, ends.0)) (omega (arith, ends.1, length-drop at text))
    (ap (λ (k : ℕ). session_in (at + k) (lines_of (drop (at + n) text))) (sym size) ∙ ap (λ (l : List ℕ). session_in (at + length (take n (drop at text))) (lines_of l)) (sym further) ∙ so_far)

is_empty : (xs : List ℕ) → length xs ≤ 0 → xs ≡ []
is_empty [] h = refl
is_empty (x ∷ xs) h = absurd (omega arith)

no_body : (text name : List ℕ) (at start : ℕ) → length (drop at text) ≤ 0 → session_in at (lines_of (drop at text)) ≡ Some (name, start) → IsBody text name start
no_body text name at start none e = let empty : drop at text ≡ [] = is_empty (drop at text) none in
    absurd (none-some (name, start) (sym (ap (λ (l : List ℕ). session_in at (lines_of l)) empty) ∙ e))

session_body : (fuel : ℕ) (text name : List ℕ) (at start : ℕ) → at ≤ length text → length text ≤ at + fuel → session_in at (lines_of (drop at text)) ≡ Some (name, start) → IsBody text name start
session_body zero text name at start within enough e = no_body text name at start (omega (arith, length-drop at text)) e
session_body (suc fuel) text name at start within enough e = elim (cases_lt 0 (length (drop at text))) [
  | inl some ↦ (let rest = drop at text in
      let n = first_length rest in
      let nonempty : (rest ≡ [] → ⊥) = λ h. (let f : length rest ≡ 0 = ap length h in absurd (omega (arith, f, some))) in
      line_body text name at start n within refl some (session_on (said (take n rest))) refl
      (λ next after in_text found. session_body fuel text name next start in_text (omega arith) found)
      (sym (ap (session_in at) (split_any rest n nonempty refl)) ∙ e))
  | inr none ↦ no_body text name at start none e
]

pub body_of : (text name : List ℕ) (start : ℕ) → session_in 0 (lines_of text) ≡ Some (name, start) → IsBody text name start
body_of text name start e = session_body (length text) text name 0 start (omega arith) (omega arith) e

-- ---- whole programs

no_statements : (at : ℕ) → statements_in at [] ≡ []
no_statements at = part_ends at [] 0 0 refl refl refl

body_sound : (text name : List ℕ) (start : ℕ) → IsUtf8 text → IsBody text name start → All (IsSpan text) (statements_in start (drop start text))
body_sound text name start utf8 body = by body.edge
  where
    by : AfterAscii text start ⊎ (start ≡ length text) → All (IsSpan text) (statements_in start (drop start text))
    by (inl ascii) = statements_sound text start utf8 body.some body.within ascii
    by (inr end) = subst (All (IsSpan text)) (sym (ap (λ (k : ℕ). statements_in start (drop k text)) end ∙ ap (statements_in start) (drop-length text) ∙ no_statements start)) (All-nil (IsSpan text))

abbrev session_made : List ℕ → List ℕ → ℕ → SessionText
session_made text name start = record { name = name; statements = statements_in start (drop start text) }

record AreSessions (text : List ℕ) (sessions : List SessionText) : Type 0 where
  few : length sessions ≤ 1
  sound : All (IsSession text) sessions

sessions_sound : (text : List ℕ) (found : Option (List ℕ × ℕ)) → IsUtf8 text → found ≡ session_in 0 (lines_of text) → AreSessions text (sessions_at text found)
sessions_sound text None utf8 e = record { few = omega arith; sound = All-nil (IsSession text) }
sessions_sound text (Some found) utf8 e =
    let body = body_of text found.0 found.1 (sym e) in
    record {
      few = omega arith;
      sound = All-cons (IsSession text) (session_made text found.0 found.1) [] (record { name = body.named; statements = body_sound text found.0 found.1 utf8 body }) (All-nil (IsSession text));
    }

pub within_ok : {Y : Type 0} (text : List ℕ) (y z : Y) (span : Option (ℕ × ℕ)) → within_limit text y span ≡ Ok z → (y ≡ z) × (span ≡ None)
within_ok text y z None e = (cc, refl)
within_ok text y z (Some span) e = absurd cc

few_enough : {X : Type 0} (xs : List X) (n : ℕ) → slice_get xs n ≡ None → length xs ≤ n
few_enough xs n e = elim (slice_get_cases xs n).1 [
  | inl found ↦ absurd (none-some found.0 (sym e ∙ found.2))
  | inr past ↦ past.0
]

one_pair : {X : Type 0} (R : X → X → Type 0) (xs : List X) → length xs ≤ 1 → AllPairs R xs
one_pair R xs few = λ i j d lt within. absurd (omega arith)

pub program_sound : (bytes : List ℕ) (sessions : List SessionText) → IsUtf8 bytes → sessions_read bytes ≡ Ok sessions → IsProgram (script_of bytes sessions)
program_sound bytes sessions utf8 e =
    let read = within_ok bytes (sessions_of bytes) sessions (slice_get (all_statements (sessions_of bytes)) 100000) e in
    let are : AreSessions bytes sessions = subst (AreSessions bytes) read.0 (sessions_sound bytes (session_in 0 (lines_of bytes)) utf8 refl) in
    record {
      start = start_fits (lines_of bytes);
      few_sessions = omega (arith, are.few);
      few_statements = subst (λ (s : List SessionText). length (all_statements s) ≤ 100000) read.0 (few_enough (all_statements (sessions_of bytes)) 100000 read.1);
      few_files = omega arith;
      sessions = are.sound;
      session_names = one_pair (λ (a b : SessionText). a.name ≢ b.name) sessions are.few;
      files = All-nil _;
      file_names = one_pair (λ (a b : FileText). a.name ≢ b.name) [] (omega arith);
      turns = All-nil _;
    }

-- ---- what the reader's calls answer

-- a session with a statement too many
pub late_session : {Y : Type 0} (text : List ℕ) (y : Y) (spans items now : List (ℕ × ℕ)) (span : ℕ × ℕ) (place : ℕ) → items ≡ take 100001 spans → now ≡ items → 100000 < length now → span ≡ get_or now 100000 span → place ≡ line_place 0 (lines_of text) span.0
    → within_limit text y (slice_get spans 100000) ≡ Err place
late_session text y spans items now span place i n many s p =
    let taken : slice_get now 100000 ≡ Some span = slice_get_read now (length now) 100000 span refl many s in
    let there : slice_get spans 100000 ≡ Some span = sym (get_take spans 100000 100001 (omega arith)) ∙ ap (λ (l : List (ℕ × ℕ)). slice_get l 100000) (sym (n ∙ i)) ∙ taken in
    rw (there, p) refl

-- and one with few enough
pub full_session : {Y : Type 0} (text : List ℕ) (y : Y) (spans items now : List (ℕ × ℕ)) → items ≡ take 100001 spans → now ≡ items → length now ≤ 100000
    → (within_limit text y (slice_get spans 100000) ≡ Ok y) × (items ≡ spans)
full_session text y spans items now i n few =
    let taken = few_taken spans 100000 100001 (omega arith) (subst (λ (l : List (ℕ × ℕ)). length l ≤ 100000) (n ∙ i) few) in
    (rw taken.1 refl, i ∙ taken.0)

pub whole_read : (bytes now : List ℕ) (n : ℕ) (sessions : List SessionText) → now ≡ bytes → length bytes ≤ n → sessions_read (take n now) ≡ Ok sessions → sessions_read bytes ≡ Ok sessions
whole_read bytes now n sessions e long read = subst (λ (l : List ℕ). sessions_read l ≡ Ok sessions) (ap (take n) e ∙ take_all n bytes long) read

pub program_made : (bytes text : List ℕ) (start : ℕ) (sessions : List SessionText) (files : List FileText) (turns : List Turn) → start ≡ start_in (lines_of bytes) → text ≡ bytes → files ≡ [] → turns ≡ [] → IsUtf8 bytes → sessions_read bytes ≡ Ok sessions
    → IsProgram (record { start = start; text = text; sessions = sessions; files = files; turns = turns })
program_made bytes text start sessions files turns s t f u utf8 read = rw (s, t, f, u) (program_sound bytes sessions utf8 read)
