-- Sessions by their names, which differ and have neither blank nor sign.
use Rattle.std.specs.List.{list_all}
use Rattle.std.specs.Prelude.{Bool, List, Option, Some, [], false, if◌then◌else◌, length, nat_le, refl, slice_get, slice_index, true, ℕ, ◌&&◌, ◌+◌, ◌<◌, ◌==◌, ◌∷◌, ◌≡◌}
use Rattle.std.proofs.Common.{ap, arith, get_or, subst, suc, sym, zero, ◌∙◌}
use Rattle.std.proofs.lemmas.Bool.{and_parts, false≢true}
use Rattle.std.proofs.lemmas.Bool.Decides.{nat_tests}
use Rattle.std.proofs.lemmas.Option.{get_or_from_slice_get, none-some, same_Some, slice_get-get_or, slice_get_within}
use Rattle.std.proofs.lemmas.Slice.Eq.{bytes_eq-Decides}
use Rattle.tt_script.specs.Bytes.{is_lower, is_session_byte}
use Rattle.tt_script.specs.Lines.{is_session_name}
use Rattle.tt_script.specs.Program.{IsProgram}
use Rattle.tt_script.specs.declared.script.Script.{Script}
use Rattle.tt_script.specs.declared.script.SessionText.{SessionText}
use Rattle.tt_plain.specs.text.Journal.{name_of, session_text}
use Rattle.tt_journal_read.specs.steps.Reading.{is_word, named_from, session_named}
use Rattle.tt_journal_read.proofs.Fields.{Lacks}

-- ---- words

pub is_same : (a b : List ℕ) → is_word a b ≡ true → a ≡ b
is_same a b e = (bytes_eq-Decides a b).0 e

pub same_word : (a : List ℕ) → is_word a a ≡ true
same_word a = (bytes_eq-Decides a a).1 refl

pub other_word : (a b : List ℕ) → (a ≡ b → ⊥) → is_word a b ≡ false
other_word a b other = by (is_word a b) refl
  where
    by : (test : Bool) → is_word a b ≡ test → test ≡ false
    by false e = refl
    by true e = absurd (other (is_same a b e))

-- ---- the bytes of a name

lacks_blank : (bytes : List ℕ) → list_all is_session_byte bytes ≡ true → Lacks 32 bytes
lacks_blank [] all = tt
lacks_blank (byte ∷ bytes) all =
    let both = and_parts (is_session_byte byte) (list_all is_session_byte bytes) all in (other byte both.0, lacks_blank bytes both.1)
  where
    other : (c : ℕ) → is_session_byte c ≡ true → (c == 32) ≡ false
    other c h = grind (arith, nat_tests)

pub name_lacks : (name : List ℕ) → is_session_name name ≡ true → Lacks 32 name
unfolding is_session_name
name_lacks name h =
    let front = and_parts (is_lower (slice_index name 0) && list_all is_session_byte name) (nat_le (length name) 16) h in
    lacks_blank name (and_parts (is_lower (slice_index name 0)) (list_all is_session_byte name) front.0).1

first_lower : (name : List ℕ) → is_session_name name ≡ true → is_lower (slice_index name 0) ≡ true
unfolding is_session_name
first_lower name h =
    let front = and_parts (is_lower (slice_index name 0) && list_all is_session_byte name) (nat_le (length name) 16) h in
    (and_parts (is_lower (slice_index name 0)) (list_all is_session_byte name) front.0).0

-- a name is no word with a sign in front
pub no_worker : (name rest : List ℕ) → is_session_name name ≡ true → is_word name (64 ∷ rest) ≡ false
no_worker name rest h =
    other_word name (64 ∷ rest) (λ same. false≢true (sym (at_sign (ap (λ (n : List ℕ). is_lower (slice_index n 0)) same)) ∙ first_lower name h))
  where
    at_sign : is_lower (slice_index name 0) ≡ is_lower 64 → is_lower (slice_index name 0) ≡ false
    at_sign e = e

-- ---- the session of a name

-- the first session of the name, where none of those before it has it
found_at : (sessions : List SessionText) (first k : ℕ) (lines : SessionText) → slice_get sessions k ≡ Some lines
    → ((j : ℕ) (other : SessionText) → j < k → slice_get sessions j ≡ Some other → other.name ≡ lines.name → ⊥) → named_from first sessions lines.name ≡ Some (first + k)
found_at [] first k lines at apart = absurd (none-some lines at)
found_at (s ∷ sessions) first zero lines at apart =
    let same : is_word s.name lines.name ≡ true = ap (λ (t : SessionText). is_word t.name lines.name) (same_Some s lines at) ∙ same_word lines.name in
    ap (λ (b : Bool). if b then Some first else named_from (first + 1) sessions lines.name) same ∙ ap Some (omega arith)
found_at (s ∷ sessions) first (suc k) lines at apart =
    ap (λ (b : Bool). if b then Some first else named_from (first + 1) sessions lines.name) (other_word s.name lines.name (apart 0 s (omega arith) refl))
    ∙ (found_at sessions (first + 1) k lines at (λ j other below there. apart (suc j) other (omega arith) there) ∙ ap Some (omega arith))

-- the session that is found has the name
found_is : (sessions : List SessionText) (first : ℕ) (name : List ℕ) (k : ℕ) → named_from first sessions name ≡ Some k
    → (place : ℕ) × (lines : SessionText) × (k ≡ first + place) × (slice_get sessions place ≡ Some lines) × (lines.name ≡ name)
found_is [] first name k e = absurd (none-some k e)
found_is (s ∷ sessions) first name k e = by (λ f. found_is sessions (first + 1) name k f) (is_word s.name name) refl e
  where
    by : (named_from (first + 1) sessions name ≡ Some k → (place : ℕ) × (lines : SessionText) × (k ≡ first + 1 + place) × (slice_get sessions place ≡ Some lines) × (lines.name ≡ name))
        → (test : Bool) → is_word s.name name ≡ test → (if test then Some first else named_from (first + 1) sessions name) ≡ Some k
        → (place : ℕ) × (lines : SessionText) × (k ≡ first + place) × (slice_get (s ∷ sessions) place ≡ Some lines) × (lines.name ≡ name)
    by later true same f = (0, s, omega (arith, same_Some first k f), refl, is_same s.name name same)
    by later false other f =
        let rest = later f in
        (suc rest.0, rest.1, omega (arith, rest.2), rest.3, rest.4)

module _ (program : Script) (sound : IsProgram program) where
  session_at : (session : ℕ) → session < length program.sessions → (lines : SessionText) × (slice_get program.sessions session ≡ Some lines)
  session_at session within =
      let other : SessionText = record { name = []; statements = [] } in
      (get_or program.sessions session other, slice_get-get_or program.sessions session other within)

  pub name_is : (session : ℕ) (lines : SessionText) → slice_get program.sessions session ≡ Some lines → is_session_name lines.name ≡ true
  name_is session lines at =
      let within = slice_get_within program.sessions session lines at in
      subst (λ (s : SessionText). is_session_name s.name ≡ true) (get_or_from_slice_get program.sessions session lines lines at) (sound.sessions session lines within).name

  pub session_found : (session : ℕ) → session < length program.sessions → session_named program (session_text program session) ≡ Some session
  unfolding session_named
  session_found session within =
      let here = session_at session within in
      ap (λ (o : Option SessionText). named_from 0 program.sessions (name_of o)) here.1
      ∙ (found_at program.sessions 0 session here.0 here.1 (λ j other below there same. apart j other here.0 below there here.1 same) ∙ ap Some (omega arith))
    where
      apart : (j : ℕ) (other lines : SessionText) → j < session → slice_get program.sessions j ≡ Some other → slice_get program.sessions session ≡ Some lines → other.name ≡ lines.name → ⊥
      apart j other lines below there at same =
          sound.session_names j session other below within
          (ap (λ (s : SessionText). s.name) (get_or_from_slice_get program.sessions j other other there) ∙ same ∙ sym (ap (λ (s : SessionText). s.name) (get_or_from_slice_get program.sessions session lines other at)))

  pub session_is : (name : List ℕ) (session : ℕ) → session_named program name ≡ Some session → (session < length program.sessions) × (session_text program session ≡ name)
  unfolding session_named
  session_is name session e =
      let found = found_is program.sessions 0 name session e in
      let at : slice_get program.sessions session ≡ Some found.1 = ap (slice_get program.sessions) (found.2 ∙ omega arith) ∙ found.3 in
      (slice_get_within program.sessions session found.1 at, ap name_of at ∙ found.4)

  pub session_lacks : (session : ℕ) → session < length program.sessions → Lacks 32 (session_text program session)
  session_lacks session within =
      let here = session_at session within in
      subst (λ (o : Option SessionText). Lacks 32 (name_of o)) (sym here.1) (name_lacks here.0.name (name_is session here.0 here.1))

  pub session_no_worker : (session : ℕ) (rest : List ℕ) → session < length program.sessions → is_word (session_text program session) (64 ∷ rest) ≡ false
  session_no_worker session rest within =
      let here = session_at session within in
      ap (λ (o : Option SessionText). is_word (name_of o) (64 ∷ rest)) here.1 ∙ no_worker here.0.name rest (name_is session here.0 here.1)
