-- When two grammars spell the same: derivations are carried over from one to the other, part by part.
use Rattle.std.proofs.Common.{◌≡◌, ℕ, zero, suc, ◌<◌, Bool, true, false, not, ◌&&◌, ◌⊎◌, inl, inr, List, [], ◌∷◌, ◌++◌, length, refl, true≢false, arith}
use Rattle.std.proofs.lemmas.Bool.{and_parts, and_cases, or_parts}
use Rattle.tt_sql.specs.grammar.Grammar.{Lexeme, Mark, Rule, Gram, Tok, Deep, Note, Both, Either, Many, Again, is_of, Spells, nothing, token, deep, note, both, left, right, more, enough, again}
use Rattle.tt_sql.proofs.machine.Decisions.{empty}
use Rattle.tt_sql.proofs.grammar.Fronts.{false≢true}

-- what these parts spell with fewer than n tokens, the others spell too, with the same marks
abbrev pub Carries : (Rule → ℕ → Gram) → (Rule → ℕ → Gram) → Bool → ℕ → List Gram → List Gram → Type 0
Carries rule other lifted n K L = (done : List Lexeme) (m : List Mark) (ts : List Lexeme) → length ts < n → Spells rule lifted done K m ts → Spells other lifted done L m ts

-- before any parts, and where the part takes a token
abbrev pub Lax : (Rule → ℕ → Gram) → (Rule → ℕ → Gram) → Bool → Gram → Gram → Type 0
Lax rule other lifted g h = (n : ℕ) (K L : List Gram) → Carries rule other lifted n K L → Carries rule other lifted n (g ∷ K) (h ∷ L)

abbrev pub Strict : (Rule → ℕ → Gram) → (Rule → ℕ → Gram) → Bool → Gram → Gram → Type 0
Strict rule other lifted g h = (n : ℕ) (K L : List Gram) → Carries rule other lifted n K L → Carries rule other lifted (suc n) (g ∷ K) (h ∷ L)

-- no production, and nothing that is repeated is empty
unfoldable pub plain : Gram → Bool
plain (Tok k others) = true
plain (Deep kinds) = true
plain (Note f) = true
plain (Both g h) = plain g && plain h
plain (Either g h) = plain g && plain h
plain (Many g) = not (empty g) && plain g
plain (Again r d) = false

module _ (rule other : Rule → ℕ → Gram) (lifted : Bool) where
  pub fewer : (n : ℕ) (K L : List Gram) → Carries rule other lifted (suc n) K L → Carries rule other lifted n K L
  fewer n K L c = λ done m ts less d. c done m ts (omega arith) d

  pub to_lax : (g h : Gram) → Strict rule other lifted g h → Lax rule other lifted g h
  to_lax g h s = λ n K L c. fewer n (g ∷ K) (h ∷ L) (s n K L c)

  pub strict_tok : (k j : ℕ) (others more_others : ℕ → Bool) → ((i : ℕ) → is_of k others i ≡ true → is_of j more_others i ≡ true) → Strict rule other lifted (Tok k others) (Tok j more_others)
  strict_tok k j others more_others wider n K L c done m [] less d = elim d [ ]
  strict_tok k j others more_others wider n K L c done m (t ∷ ts) less (token e d) = token (wider t.kind e) (c (t ∷ done) m ts (omega arith) d)

  pub strict_deep : (kinds : ℕ → Bool) → Strict rule other lifted (Deep kinds) (Deep kinds)
  strict_deep kinds n K L c done m [] less d = elim d [ ]
  strict_deep kinds n K L c done m (t ∷ ts) less (deep l e d) = deep l e (c (t ∷ done) m ts (omega arith) d)

  pub lax_note : (f : List Lexeme → List Mark) → Lax rule other lifted (Note f) (Note f)
  lax_note f n K L c done m ts less (note {m = o} d) = note (c done o ts less d)

  pub lax_both : (g h i j : Gram) → Lax rule other lifted g i → Lax rule other lifted h j → Lax rule other lifted (Both g h) (Both i j)
  lax_both g h i j p q n K L c done m ts less (both d) = both (p n (h ∷ K) (j ∷ L) (q n K L c) done m ts less d)

  pub strict_first : (g h i j : Gram) → Strict rule other lifted g i → Lax rule other lifted h j → Strict rule other lifted (Both g h) (Both i j)
  strict_first g h i j p q n K L c done m ts less (both d) = both (p n (h ∷ K) (j ∷ L) (q n K L c) done m ts less d)

  pub strict_second : (g h i j : Gram) → Lax rule other lifted g i → Strict rule other lifted h j → Strict rule other lifted (Both g h) (Both i j)
  strict_second g h i j p q n K L c done m ts less (both d) = both (p (suc n) (h ∷ K) (j ∷ L) (q n K L c) done m ts less d)

  pub lax_either : (g h i j : Gram) → Lax rule other lifted g i → Lax rule other lifted h j → Lax rule other lifted (Either g h) (Either i j)
  lax_either g h i j p q n K L c done m ts less (left d) = left (p n K L c done m ts less d)
  lax_either g h i j p q n K L c done m ts less (right d) = right (q n K L c done m ts less d)

  pub strict_either : (g h i j : Gram) → Strict rule other lifted g i → Strict rule other lifted h j → Strict rule other lifted (Either g h) (Either i j)
  strict_either g h i j p q n K L c done m ts less (left d) = left (p n K L c done m ts less d)
  strict_either g h i j p q n K L c done m ts less (right d) = right (q n K L c done m ts less d)

  pub lax_many : (g h : Gram) → Strict rule other lifted g h → Lax rule other lifted (Many g) (Many h)
  lax_many g h s zero K L c done m ts less d = absurd (omega arith)
  lax_many g h s (suc n) K L c done m ts less (more {m = o} d) = more (s n (Many g ∷ K) (Many h ∷ L) (lax_many g h s n K L (fewer n K L c)) done o ts less d)
  lax_many g h s (suc n) K L c done m ts less (enough {m = o} d) = enough (c done o ts less d)

  pub strict_again : (r : Rule) (d : ℕ) → Strict rule other lifted (rule r d) (other r d) → Strict rule other lifted (Again r d) (Again r d)
  strict_again r d s n K L c done m ts less (again l) = again (s n K L c done m ts less l)

  -- a part that stays as it is
  pub same : (g : Gram) → plain g ≡ true → Lax rule other lifted g g × (empty g ≡ false → Strict rule other lifted g g)
  unfolding plain empty
  same (Tok k others) p = let s = strict_tok k k others others (λ i e. e) in (to_lax (Tok k others) (Tok k others) s, λ e. s)
  same (Deep kinds) p = let s = strict_deep kinds in (to_lax (Deep kinds) (Deep kinds) s, λ e. s)
  same (Note f) p = (lax_note f, λ e. absurd (true≢false e))
  same (Both g h) p =
      let q = and_parts (plain g) (plain h) p in
      let a = same g q.0 in
      let b = same h q.1 in
      (lax_both g h g h a.0 b.0, λ e. both_strict (and_cases (empty g) (empty h) e) a b)
    where
      both_strict : ((empty g ≡ false) ⊎ (empty h ≡ false)) → Lax rule other lifted g g × (empty g ≡ false → Strict rule other lifted g g) → Lax rule other lifted h h × (empty h ≡ false → Strict rule other lifted h h) → Strict rule other lifted (Both g h) (Both g h)
      both_strict (inl e) a b = strict_first g h g h (a.1 e) b.0
      both_strict (inr e) a b = strict_second g h g h a.0 (b.1 e)
  same (Either g h) p =
      let q = and_parts (plain g) (plain h) p in
      let a = same g q.0 in
      let b = same h q.1 in
      (lax_either g h g h a.0 b.0, λ e. let f = or_parts (empty g) (empty h) e in strict_either g h g h (a.1 f.0) (b.1 f.1))
  same (Many g) p =
      let q = and_parts (not (empty g)) (plain g) p in
      (lax_many g g ((same g q.1).1 (not_true (empty g) q.0)), λ e. absurd (true≢false e))
    where
      not_true : (b : Bool) → not b ≡ true → b ≡ false
      not_true true e = absurd (false≢true e)
      not_true false e = refl
  same (Again r d) p = absurd (false≢true p)

  pub nothing_same : (n : ℕ) → Carries rule other lifted n [] []
  nothing_same n done m ts less nothing = nothing

  pub open_both : (n : ℕ) (g h : Gram) (K L : List Gram) → Carries rule other lifted n (g ∷ h ∷ K) L → Carries rule other lifted n (Both g h ∷ K) L
  open_both n g h K L c done m ts less (both d) = c done m ts less d

  pub shut_both : (n : ℕ) (i j : Gram) (K L : List Gram) → Carries rule other lifted n K (i ∷ j ∷ L) → Carries rule other lifted n K (Both i j ∷ L)
  shut_both n i j K L c done m ts less d = both (c done m ts less d)

-- ---- parts in front

-- what the parts in front spell, and that others may stand behind them
pub record Split (rule : Rule → ℕ → Gram) (lifted : Bool) (G K : List Gram) (done : List Lexeme) (m : List Mark) (ts : List Lexeme) : Type 0 where
  pub front : List Lexeme
  pub later : List Mark
  pub rest : List Lexeme
  pub behind : Spells rule lifted front K later rest
  pub build : (J : List Gram) → Spells rule lifted front J later rest → Spells rule lifted done (G ++ J) m ts

-- these parts stand in front of K
pub data InFront (K : List Gram) : List Gram → List Gram → Type 0 where
  none_in_front : InFront K [] K
  one_in_front : {g : Gram} {G S : List Gram} → InFront K G S → InFront K (g ∷ G) (g ∷ S)

module _ (rule : Rule → ℕ → Gram) (lifted : Bool) where
  pub split : (K G : List Gram) {S : List Gram} {done : List Lexeme} {m : List Mark} {ts : List Lexeme} → InFront K G S → Spells rule lifted done S m ts → Split rule lifted G K done m ts
  split K [] {done = done} {m = m} {ts = ts} none_in_front d = record { front = done; later = m; rest = ts; behind = d; build = λ J e. e }
  split K (Tok k others ∷ G) (one_in_front i) (token e d) = let r = split K G i d in record { front = r.front; later = r.later; rest = r.rest; behind = r.behind; build = λ J f. token e (r.build J f) }
  split K (Deep kinds ∷ G) (one_in_front i) (deep l e d) = let r = split K G i d in record { front = r.front; later = r.later; rest = r.rest; behind = r.behind; build = λ J f. deep l e (r.build J f) }
  split K (Note f ∷ G) (one_in_front i) (note d) = let r = split K G i d in record { front = r.front; later = r.later; rest = r.rest; behind = r.behind; build = λ J e. note (r.build J e) }
  split K (Both g h ∷ G) (one_in_front i) (both d) = let r = split K (g ∷ h ∷ G) (one_in_front (one_in_front i)) d in record { front = r.front; later = r.later; rest = r.rest; behind = r.behind; build = λ J e. both (r.build J e) }
  split K (Either g h ∷ G) (one_in_front i) (left d) = let r = split K (g ∷ G) (one_in_front i) d in record { front = r.front; later = r.later; rest = r.rest; behind = r.behind; build = λ J e. left (r.build J e) }
  split K (Either g h ∷ G) (one_in_front i) (right d) = let r = split K (h ∷ G) (one_in_front i) d in record { front = r.front; later = r.later; rest = r.rest; behind = r.behind; build = λ J e. right (r.build J e) }
  split K (Many g ∷ G) (one_in_front i) (more d) = let r = split K (g ∷ Many g ∷ G) (one_in_front (one_in_front i)) d in record { front = r.front; later = r.later; rest = r.rest; behind = r.behind; build = λ J e. more (r.build J e) }
  split K (Many g ∷ G) (one_in_front i) (enough d) = let r = split K G i d in record { front = r.front; later = r.later; rest = r.rest; behind = r.behind; build = λ J e. enough (r.build J e) }
  split K (Again r n ∷ G) (one_in_front i) (again d) = let s = split K (rule r n ∷ G) (one_in_front i) d in record { front = s.front; later = s.later; rest = s.rest; behind = s.behind; build = λ J e. again (s.build J e) }
