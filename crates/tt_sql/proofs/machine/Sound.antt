-- What the machine reads is spelled: each entry, each step and each run is a part of a derivation.
use Rattle.std.proofs.Common.{◌≡◌, ℕ, Bool, true, false, List, [], ◌∷◌, ◌++◌, Option, Some, None, Result, Ok, Err, if◌then◌else◌, refl, sym, subst, append_assoc}
use Rattle.tt_sql.specs.grammar.Grammar.{Lexeme, Mark, Rule, Gram, Tok, Deep, Note, Both, Either, Many, Again, is_of, Spells, nothing, token, deep, note, both, left, right, more, enough, again, latest_place}
use Rattle.tt_sql.specs.machine.Machine.{Entry, Into, Pass, Stuck, enter, enter_within, enter_part, enter_both, enter_either, enter_many, if_into, front_marks, Step, Next, Halt, front_step, step_from, step, both_marks, first_marks, close_part, close, closed, with_marks, go_on, run}

-- ---- entries

abbrev pub IsSound : (Rule → ℕ → Gram) → Bool → List Lexeme → Lexeme → List Lexeme → Gram → Entry → Type 0
IsSound rule lifted done t ts g (Into deeper m parts) = (deeper ≡ true → lifted ≡ true) → (K : List Gram) (n : List Mark) → Spells rule lifted (t ∷ done) (parts ++ K) n ts → Spells rule lifted done (g ∷ K) (m ++ n) (t ∷ ts)
IsSound rule lifted done t ts g (Pass m) = (K : List Gram) (n : List Mark) → Spells rule lifted done K n (t ∷ ts) → Spells rule lifted done (g ∷ K) (m ++ n) (t ∷ ts)
IsSound rule lifted done t ts g Stuck = Unit {0}

module _ (rule : Rule → ℕ → Gram) (lifted : Bool) where
  sound_tok : (done : List Lexeme) (t : Lexeme) (ts : List Lexeme) (k : ℕ) (others : ℕ → Bool) (b : Bool) → is_of k others t.kind ≡ b → IsSound rule lifted done t ts (Tok k others) (if b then Into false [] [] else Stuck)
  sound_tok done t ts k others true e = λ ok K n d. token e d
  sound_tok done t ts k others false e = tt

  sound_deep : (done : List Lexeme) (t : Lexeme) (ts : List Lexeme) (kinds : ℕ → Bool) (b : Bool) → kinds t.kind ≡ b → IsSound rule lifted done t ts (Deep kinds) (if b then Into true [] [] else Stuck)
  sound_deep done t ts kinds true e = λ ok K n d. deep (ok refl) e d
  sound_deep done t ts kinds false e = tt

  sound_front : (done : List Lexeme) (t : Lexeme) (ts : List Lexeme) (g h : Gram) (m : List Mark) (e : Entry) → ((K : List Gram) (n : List Mark) → Spells rule lifted done (h ∷ K) n (t ∷ ts) → Spells rule lifted done (g ∷ h ∷ K) (m ++ n) (t ∷ ts)) → IsSound rule lifted done t ts h e → IsSound rule lifted done t ts (Both g h) (front_marks m e)
  sound_front done t ts g h m (Into deeper n parts) before s = λ ok K l d. subst (λ x. Spells rule lifted done (Both g h ∷ K) x (t ∷ ts)) (sym (append_assoc m n l)) (both (before K (n ++ l) (s ok K l d)))
  sound_front done t ts g h m (Pass n) before s = λ K l d. subst (λ x. Spells rule lifted done (Both g h ∷ K) x (t ∷ ts)) (sym (append_assoc m n l)) (both (before K (n ++ l) (s K l d)))
  sound_front done t ts g h m Stuck before s = tt

  sound_both : (done : List Lexeme) (t : Lexeme) (ts : List Lexeme) (g h : Gram) (d e : Entry) → IsSound rule lifted done t ts g d → IsSound rule lifted done t ts h e → IsSound rule lifted done t ts (Both g h) (enter_both d h e)
  sound_both done t ts g h (Into deeper m parts) e s u = λ ok K n d. both (s ok (h ∷ K) n (subst (λ x. Spells rule lifted (t ∷ done) x n ts) (append_assoc parts (h ∷ []) K) d))
  sound_both done t ts g h (Pass m) e s u = sound_front done t ts g h m e (λ K n d. s (h ∷ K) n d) u
  sound_both done t ts g h Stuck e s u = tt

  sound_right : (done : List Lexeme) (t : Lexeme) (ts : List Lexeme) (g h : Gram) (e : Entry) → IsSound rule lifted done t ts h e → IsSound rule lifted done t ts (Either g h) e
  sound_right done t ts g h (Into deeper m parts) s = λ ok K n d. right (s ok K n d)
  sound_right done t ts g h (Pass m) s = λ K n d. right (s K n d)
  sound_right done t ts g h Stuck s = tt

  sound_if_into : (done : List Lexeme) (t : Lexeme) (ts : List Lexeme) (g h : Gram) (m : List Mark) (e : Entry) → IsSound rule lifted done t ts g (Pass m) → IsSound rule lifted done t ts h e → IsSound rule lifted done t ts (Either g h) (if_into m e)
  sound_if_into done t ts g h m (Into deeper n parts) s u = λ ok K l d. right (u ok K l d)
  sound_if_into done t ts g h m (Pass n) s u = λ K l d. left (s K l d)
  sound_if_into done t ts g h m Stuck s u = λ K l d. left (s K l d)

  sound_either : (done : List Lexeme) (t : Lexeme) (ts : List Lexeme) (g h : Gram) (d e : Entry) → IsSound rule lifted done t ts g d → IsSound rule lifted done t ts h e → IsSound rule lifted done t ts (Either g h) (enter_either d e)
  sound_either done t ts g h (Into deeper m parts) e s u = λ ok K n d. left (s ok K n d)
  sound_either done t ts g h (Pass m) e s u = sound_if_into done t ts g h m e s u
  sound_either done t ts g h Stuck e s u = sound_right done t ts g h e u

  sound_many : (done : List Lexeme) (t : Lexeme) (ts : List Lexeme) (g : Gram) (e : Entry) → IsSound rule lifted done t ts g e → IsSound rule lifted done t ts (Many g) (enter_many e g)
  sound_many done t ts g (Into deeper m parts) s = λ ok K n d. more (s ok (Many g ∷ K) n (subst (λ x. Spells rule lifted (t ∷ done) x n ts) (append_assoc parts (Many g ∷ []) K) d))
  sound_many done t ts g (Pass m) s = λ K n d. enough d
  sound_many done t ts g Stuck s = λ K n d. enough d

  pub sound : (call : Rule → ℕ → Entry) (done : List Lexeme) (t : Lexeme) (ts : List Lexeme) → ((r : Rule) (d : ℕ) → IsSound rule lifted done t ts (Again r d) (call r d)) → (g : Gram) → IsSound rule lifted done t ts g (enter call done t g)
  unfolding enter
  sound call done t ts calls (Tok k others) = sound_tok done t ts k others (is_of k others t.kind) refl
  sound call done t ts calls (Deep kinds) = sound_deep done t ts kinds (kinds t.kind) refl
  sound call done t ts calls (Note f) = λ K n d. note d
  sound call done t ts calls (Both g h) = sound_both done t ts g h (enter call done t g) (enter call done t h) (sound call done t ts calls g) (sound call done t ts calls h)
  sound call done t ts calls (Either g h) = sound_either done t ts g h (enter call done t g) (enter call done t h) (sound call done t ts calls g) (sound call done t ts calls h)
  sound call done t ts calls (Many g) = sound_many done t ts g (enter call done t g) (sound call done t ts calls g)
  sound call done t ts calls (Again r d) = calls r d

  sound_again : (done : List Lexeme) (t : Lexeme) (ts : List Lexeme) (r : Rule) (d : ℕ) (e : Entry) → IsSound rule lifted done t ts (rule r d) e → IsSound rule lifted done t ts (Again r d) e
  sound_again done t ts r d (Into deeper m parts) s = λ ok K n l. again (s ok K n l)
  sound_again done t ts r d (Pass m) s = λ K n l. again (s K n l)
  sound_again done t ts r d Stuck s = tt

  pub sound_part : (done : List Lexeme) (t : Lexeme) (ts : List Lexeme) (g : Gram) → IsSound rule lifted done t ts g (enter_part rule done t g)
  sound_part done t ts g = sound (λ r d. enter_within done t (rule r d)) done t ts (λ r d. sound_again done t ts r d (enter_within done t (rule r d)) (sound (λ r d. Stuck) done t ts (λ r d. tt) (rule r d))) g

-- ---- steps

abbrev pub IsSoundStep : (Rule → ℕ → Gram) → Bool → List Lexeme → Lexeme → List Lexeme → List Gram → Step → Type 0
IsSoundStep rule lifted done t ts K (Next deeper m L) = (deeper ≡ true → lifted ≡ true) → (n : List Mark) → Spells rule lifted (t ∷ done) L n ts → Spells rule lifted done K (m ++ n) (t ∷ ts)
IsSoundStep rule lifted done t ts K Halt = Unit {0}

module _ (rule : Rule → ℕ → Gram) (lifted : Bool) where
  sound_front_step : (done : List Lexeme) (t : Lexeme) (ts : List Lexeme) (g : Gram) (K : List Gram) (m : List Mark) (s : Step) → IsSound rule lifted done t ts g (Pass m) → IsSoundStep rule lifted done t ts K s → IsSoundStep rule lifted done t ts (g ∷ K) (front_step m s)
  sound_front_step done t ts g K m (Next deeper n L) p q = λ ok l d. subst (λ x. Spells rule lifted done (g ∷ K) x (t ∷ ts)) (sym (append_assoc m n l)) (p K (n ++ l) (q ok l d))
  sound_front_step done t ts g K m Halt p q = tt

  sound_from : (done : List Lexeme) (t : Lexeme) (ts : List Lexeme) (g : Gram) (K : List Gram) (e : Entry) (s : Step) → IsSound rule lifted done t ts g e → IsSoundStep rule lifted done t ts K s → IsSoundStep rule lifted done t ts (g ∷ K) (step_from e K s)
  sound_from done t ts g K (Into deeper m parts) s p q = λ ok n d. p ok K n d
  sound_from done t ts g K (Pass m) s p q = sound_front_step done t ts g K m s p q
  sound_from done t ts g K Stuck s p q = tt

  pub sound_step : (done : List Lexeme) (t : Lexeme) (ts : List Lexeme) (K : List Gram) → IsSoundStep rule lifted done t ts K (step rule done t K)
  unfolding step
  sound_step done t ts [] = tt
  sound_step done t ts (g ∷ K) = sound_from done t ts g K (enter_part rule done t g) (step rule done t K) (sound_part rule lifted done t ts g) (sound_step done t ts K)

-- ---- where the tokens end

abbrev pub IsSoundEnd : (Rule → ℕ → Gram) → Bool → List Lexeme → Gram → Option (List Mark) → Type 0
IsSoundEnd rule lifted done g (Some m) = (K : List Gram) (n : List Mark) → Spells rule lifted done K n [] → Spells rule lifted done (g ∷ K) (m ++ n) []
IsSoundEnd rule lifted done g None = Unit {0}

module _ (rule : Rule → ℕ → Gram) (lifted : Bool) (done : List Lexeme) where
  end_both : (g h : Gram) (a b : Option (List Mark)) → IsSoundEnd rule lifted done g a → IsSoundEnd rule lifted done h b → IsSoundEnd rule lifted done (Both g h) (both_marks a b)
  end_both g h (Some m) (Some n) s u = λ K l d. both (subst (λ x. Spells rule lifted done (g ∷ h ∷ K) x []) (sym (append_assoc m n l)) (s (h ∷ K) (n ++ l) (u K l d)))
  end_both g h (Some m) None s u = tt
  end_both g h None b s u = tt

  end_either : (g h : Gram) (a b : Option (List Mark)) → IsSoundEnd rule lifted done g a → IsSoundEnd rule lifted done h b → IsSoundEnd rule lifted done (Either g h) (first_marks a b)
  end_either g h (Some m) b s u = λ K l d. left (s K l d)
  end_either g h None (Some m) s u = λ K l d. right (u K l d)
  end_either g h None None s u = tt

  pub sound_close_part : (g : Gram) → IsSoundEnd rule lifted done g (close_part done g)
  unfolding close_part
  sound_close_part (Tok k others) = tt
  sound_close_part (Deep kinds) = tt
  sound_close_part (Note f) = λ K n d. note d
  sound_close_part (Both g h) = end_both g h (close_part done g) (close_part done h) (sound_close_part g) (sound_close_part h)
  sound_close_part (Either g h) = end_either g h (close_part done g) (close_part done h) (sound_close_part g) (sound_close_part h)
  sound_close_part (Many g) = λ K n d. enough d
  sound_close_part (Again r d) = tt

  -- the notes are those of a derivation
  abbrev pub EndsSo : List Gram → Option (List Mark) → Type 0
  EndsSo K (Some m) = Spells rule lifted done K m []
  EndsSo K None = Unit {0}

  close_both : (g : Gram) (K : List Gram) (a b : Option (List Mark)) → IsSoundEnd rule lifted done g a → EndsSo K b → EndsSo (g ∷ K) (both_marks a b)
  close_both g K (Some m) (Some n) s u = s K n u
  close_both g K (Some m) None s u = tt
  close_both g K None b s u = tt

  pub sound_close : (K : List Gram) → EndsSo K (close done K)
  unfolding close
  sound_close [] = nothing
  sound_close (g ∷ K) = close_both g K (close_part done g) (close done K) (sound_close_part g) (sound_close K)

-- ---- runs

abbrev pub IsSpelled : (Rule → ℕ → Gram) → List Lexeme → List Gram → List Lexeme → Result (List Mark) ℕ → Type 0
IsSpelled rule done K ts (Ok m) = Spells rule false done K m ts
IsSpelled rule done K ts (Err at) = Unit {0}

module _ (rule : Rule → ℕ → Gram) (end : ℕ) where
  spelled_end : (done : List Lexeme) (K : List Gram) (a : Option (List Mark)) → EndsSo rule false done K a → IsSpelled rule done K [] (closed end a)
  spelled_end done K (Some m) s = s
  spelled_end done K None s = tt

  spelled_with : (done : List Lexeme) (t : Lexeme) (ts : List Lexeme) (K L : List Gram) (m : List Mark) (r : Result (List Mark) ℕ) → IsSoundStep rule false done t ts K (Next false m L) → IsSpelled rule (t ∷ done) L ts r → IsSpelled rule done K (t ∷ ts) (with_marks m r)
  spelled_with done t ts K L m (Ok n) s u = s (λ e. e) n u
  spelled_with done t ts K L m (Err at) s u = tt

  spelled_on : (done : List Lexeme) (t : Lexeme) (ts : List Lexeme) (K : List Gram) (s : Step) (here before : ℕ) (after : List Gram → Result (List Mark) ℕ) → IsSoundStep rule false done t ts K s → ((L : List Gram) → IsSpelled rule (t ∷ done) L ts (after L)) → IsSpelled rule done K (t ∷ ts) (go_on s here before after)
  spelled_on done t ts K (Next false m L) here before after s u = spelled_with done t ts K L m (after L) s (u L)
  spelled_on done t ts K (Next true m L) here before after s u = tt
  spelled_on done t ts K Halt here before after s u = tt

  pub run_sound : (done : List Lexeme) (K : List Gram) (ts : List Lexeme) → IsSpelled rule done K ts (run rule end done K ts)
  unfolding run
  run_sound done K [] = spelled_end done K (close done K) (sound_close rule false done K)
  run_sound done K (t ∷ ts) = spelled_on done t ts K (step rule done t K) t.place (latest_place done) (λ L. run rule end (t ∷ done) L ts) (sound_step rule false done t ts K) (λ L. run_sound (t ∷ done) L ts)

  -- the marks that the machine gives are those of a derivation
  pub run_ok : (done : List Lexeme) (K : List Gram) (ts : List Lexeme) (m : List Mark) → run rule end done K ts ≡ Ok m → Spells rule false done K m ts
  run_ok done K ts m e = subst (λ r. IsSpelled rule done K ts r) e (run_sound done K ts)
