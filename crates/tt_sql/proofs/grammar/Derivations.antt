-- A derivation, part by part.
use Rattle.std.proofs.Common.{◌≡◌, ℕ, Bool, true, false, List, [], ◌∷◌, ◌++◌, sym, subst, append_assoc, append-nil}
use Rattle.tt_sql.specs.grammar.Grammar.{Lexeme, Mark, Way, Rule, Gram, Tok, Deep, Note, Both, Either, Many, Again, is_of, Spells, nothing, token, deep, note, both, left, right, more, enough, again}
use Rattle.tt_sql.proofs.grammar.Fronts.{false≢true}
use Rattle.tt_sql.specs.grammar.Written.{written_rule}
use Rattle.tt_sql.specs.grammar.Lexemes.{IsLexeme, AreLexemes}

-- Behind the tokens `done`, the last one first, this part notes these marks, and then `after` are the tokens in front.
pub data Part : Gram → List Lexeme → List Mark → List Lexeme → Type 0 where
  word : {done : List Lexeme} {k : ℕ} {others : ℕ → Bool} {t : Lexeme} → is_of k others t.kind ≡ true → IsLexeme t → Part (Tok k others) done [] (t ∷ done)
  noted : {done : List Lexeme} {f : List Lexeme → List Mark} → Part (Note f) done (f done) done
  pair : {done between after : List Lexeme} {g h : Gram} {m n : List Mark} → Part g done m between → Part h between n after → Part (Both g h) done (m ++ n) after
  first : {done after : List Lexeme} {g h : Gram} {m : List Mark} → Part g done m after → Part (Either g h) done m after
  second : {done after : List Lexeme} {g h : Gram} {m : List Mark} → Part h done m after → Part (Either g h) done m after
  one_more : {done between after : List Lexeme} {g : Gram} {m n : List Mark} → Part g done m between → Part (Many g) between n after → Part (Many g) done (Way 1 ∷ (m ++ n)) after
  no_more : {done : List Lexeme} {g : Gram} → Part (Many g) done (Way 0 ∷ []) done
  inside : {done after : List Lexeme} {r : Rule} {levels : ℕ} {m : List Mark} → Part (written_rule r levels) done m after → Part (Again r levels) done m after

-- the parts of a stack, one behind another
pub data Parts : List Gram → List Lexeme → List Mark → Type 0 where
  no_part : {done : List Lexeme} → Parts [] done []
  in_front : {done between : List Lexeme} {g : Gram} {K : List Gram} {m n : List Mark} → Part g done m between → Parts K between n → Parts (g ∷ K) done (m ++ n)

both_parts : (g h : Gram) (K : List Gram) (done : List Lexeme) (m : List Mark) → Parts (g ∷ h ∷ K) done m → Parts (Both g h ∷ K) done m
both_parts g h K done m (in_front {m = x} p (in_front {m = y} {n = z} q r)) = subst (λ (l : List Mark). Parts (Both g h ∷ K) done l) (append_assoc x y z) (in_front (pair p q) r)

left_part : (g h : Gram) (K : List Gram) (done : List Lexeme) (m : List Mark) → Parts (g ∷ K) done m → Parts (Either g h ∷ K) done m
left_part g h K done m (in_front p r) = in_front (first p) r

right_part : (g h : Gram) (K : List Gram) (done : List Lexeme) (m : List Mark) → Parts (h ∷ K) done m → Parts (Either g h ∷ K) done m
right_part g h K done m (in_front p r) = in_front (second p) r

many_parts : (g : Gram) (K : List Gram) (done : List Lexeme) (m : List Mark) → Parts (g ∷ Many g ∷ K) done m → Parts (Many g ∷ K) done (Way 1 ∷ m)
many_parts g K done m (in_front {m = x} p (in_front {m = y} {n = z} q r)) = subst (λ (l : List Mark). Parts (Many g ∷ K) done (Way 1 ∷ l)) (append_assoc x y z) (in_front (one_more p q) r)

inside_part : (r : Rule) (levels : ℕ) (K : List Gram) (done : List Lexeme) (m : List Mark) → Parts (written_rule r levels ∷ K) done m → Parts (Again r levels ∷ K) done m
inside_part r levels K done m (in_front p q) = in_front (inside p) q

pub parts_of : (done : List Lexeme) (K : List Gram) (m : List Mark) (ts : List Lexeme) → Spells written_rule false done K m ts → AreLexemes ts → Parts K done m
parts_of done [] m ts nothing are = no_part
parts_of done (Tok k others ∷ K) m ts (token {m = n} {t = t} {ts = us} e d) are = in_front (word e are.0) (parts_of (t ∷ done) K n us d are.1)
parts_of done (Deep kinds ∷ K) m ts (deep l e d) are = absurd (false≢true l)
parts_of done (Note f ∷ K) m ts (note {m = n} d) are = in_front noted (parts_of done K n ts d are)
parts_of done (Both g h ∷ K) m ts (both d) are = both_parts g h K done m (parts_of done (g ∷ h ∷ K) m ts d are)
parts_of done (Either g h ∷ K) m ts (left d) are = left_part g h K done m (parts_of done (g ∷ K) m ts d are)
parts_of done (Either g h ∷ K) m ts (right d) are = right_part g h K done m (parts_of done (h ∷ K) m ts d are)
parts_of done (Many g ∷ K) m ts (more {m = n} d) are = many_parts g K done n (parts_of done (g ∷ Many g ∷ K) n ts d are)
parts_of done (Many g ∷ K) m ts (enough {m = n} d) are = in_front no_more (parts_of done K n ts d are)
parts_of done (Again r levels ∷ K) m ts (again d) are = inside_part r levels K done m (parts_of done (written_rule r levels ∷ K) m ts d are)

alone : (g : Gram) (done : List Lexeme) (m : List Mark) → Parts (g ∷ []) done m → (after : List Lexeme) × Part g done m after
alone g done m (in_front {between = after} {m = n} p no_part) = (after, subst (λ (l : List Mark). Part g done l after) (sym (append-nil n)) p)

-- a derivation of one part
pub part_of : (g : Gram) (m : List Mark) (ts : List Lexeme) → Spells written_rule false [] (g ∷ []) m ts → AreLexemes ts → (after : List Lexeme) × Part g [] m after
part_of g m ts d are = alone g [] m (parts_of [] (g ∷ []) m ts d are)
