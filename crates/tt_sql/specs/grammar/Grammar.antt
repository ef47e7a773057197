-- What a grammar is, what its language is, and where a text that is not in it has its fault.
use Rattle.std.specs.Prelude.{◌≡◌, ℕ, Bool, true, false, ◌||◌, ◌==◌, List, [], ◌∷◌, ◌++◌, ◌⊎◌, ℤ}

-- ---- tokens and marks

-- A token, as a grammar sees it: its kind, where it begins, and what it says: the name, the digits, or the
-- text that is meant.
pub record Lexeme : Type 0 where
  pub kind : ℕ
  pub place : ℕ
  pub text : List ℕ

-- What a derivation notes: which way it went, a place, a word or a text with its place, a name with its place
-- that stands in front of another name, or a number with its place.
pub data Mark : Type 0 where
  Way : ℕ → Mark
  At : ℕ → Mark
  Said : List ℕ → ℕ → Mark
  Prefix : List ℕ → ℕ → Mark
  Meant : ℤ → ℕ → Mark

-- ---- grammars

-- the productions that contain themselves
pub data Rule : Type 0 where
  Expr Negated Predicate Unit : Rule

pub data Gram : Type 0 where
  -- a token of this kind, or of the further kinds that pass the test
  Tok : ℕ → (ℕ → Bool) → Gram
  -- Nothing. But if the limit on levels were lifted, a token of these kinds could go on here.
  Deep : (ℕ → Bool) → Gram
  -- no token, and notes on those in front, the last one first
  Note : (List Lexeme → List Mark) → Gram
  Both : Gram → Gram → Gram
  Either : Gram → Gram → Gram
  Many : Gram → Gram
  -- a production, with so many levels left
  Again : Rule → ℕ → Gram

abbrev pub is_of : ℕ → (ℕ → Bool) → ℕ → Bool
is_of k more kind = (kind == k) || more kind

-- no kind
abbrev pub nowhere : ℕ → Bool
nowhere k = false

-- ---- languages

-- Leftmost derivations: behind the tokens `done`, the last one first, these parts spell these tokens, and
-- the derivation notes these marks.
pub data Spells (rule : Rule → ℕ → Gram) (lifted : Bool) : List Lexeme → List Gram → List Mark → List Lexeme → Type 0 where
  nothing : {done : List Lexeme} → Spells rule lifted done [] [] []
  token : {done : List Lexeme} {k : ℕ} {more : ℕ → Bool} {K : List Gram} {m : List Mark} {t : Lexeme} {ts : List Lexeme} → is_of k more t.kind ≡ true → Spells rule lifted (t ∷ done) K m ts → Spells rule lifted done (Tok k more ∷ K) m (t ∷ ts)
  deep : {done : List Lexeme} {kinds : ℕ → Bool} {K : List Gram} {m : List Mark} {t : Lexeme} {ts : List Lexeme} → lifted ≡ true → kinds t.kind ≡ true → Spells rule lifted (t ∷ done) K m ts → Spells rule lifted done (Deep kinds ∷ K) m (t ∷ ts)
  note : {done : List Lexeme} {f : List Lexeme → List Mark} {K : List Gram} {m : List Mark} {ts : List Lexeme} → Spells rule lifted done K m ts → Spells rule lifted done (Note f ∷ K) (f done ++ m) ts
  both : {done : List Lexeme} {g h : Gram} {K : List Gram} {m : List Mark} {ts : List Lexeme} → Spells rule lifted done (g ∷ h ∷ K) m ts → Spells rule lifted done (Both g h ∷ K) m ts
  left : {done : List Lexeme} {g h : Gram} {K : List Gram} {m : List Mark} {ts : List Lexeme} → Spells rule lifted done (g ∷ K) m ts → Spells rule lifted done (Either g h ∷ K) m ts
  right : {done : List Lexeme} {g h : Gram} {K : List Gram} {m : List Mark} {ts : List Lexeme} → Spells rule lifted done (h ∷ K) m ts → Spells rule lifted done (Either g h ∷ K) m ts
  more : {done : List Lexeme} {g : Gram} {K : List Gram} {m : List Mark} {ts : List Lexeme} → Spells rule lifted done (g ∷ Many g ∷ K) m ts → Spells rule lifted done (Many g ∷ K) (Way 1 ∷ m) ts
  enough : {done : List Lexeme} {g : Gram} {K : List Gram} {m : List Mark} {ts : List Lexeme} → Spells rule lifted done K m ts → Spells rule lifted done (Many g ∷ K) (Way 0 ∷ m) ts
  again : {done : List Lexeme} {r : Rule} {d : ℕ} {K : List Gram} {m : List Mark} {ts : List Lexeme} → Spells rule lifted done (rule r d ∷ K) m ts → Spells rule lifted done (Again r d ∷ K) m ts

-- ---- faults

-- these tokens can be gone on with
abbrev pub Viable : (Rule → ℕ → Gram) → Bool → List Lexeme → List Gram → List Lexeme → Type 0
Viable rule lifted done K ts = (us : List Lexeme) × (m : List Mark) × Spells rule lifted done K m (ts ++ us)

-- the place of the last token of these
abbrev pub latest_place : List Lexeme → ℕ
latest_place [] = 0
latest_place (t ∷ done) = t.place

abbrev pub last_place : List Lexeme → List Lexeme → ℕ
last_place done [] = latest_place done
last_place done (t ∷ ts) = last_place (t ∷ done) ts

-- With the token t nothing goes on. Its place is that of the fault, unless the limit on levels alone is in the
-- way: then the token in front of it has opened the level too many.
abbrev pub Stops : (Rule → ℕ → Gram) → List Lexeme → List Gram → ℕ → List Lexeme → List Lexeme → ℕ → Type 0
Stops rule done K end front [] at = (at ≡ end) × ((m : List Mark) → Spells rule false done K m front → ⊥)
Stops rule done K end front (t ∷ rest) at = (Viable rule false done K (front ++ t ∷ []) → ⊥)
    × (((at ≡ t.place) × (Viable rule true done K (front ++ t ∷ []) → ⊥)) ⊎ ((at ≡ last_place done front) × Viable rule true done K (front ++ t ∷ [])))

-- the tokens have their fault at this place
pub record IsFault (rule : Rule → ℕ → Gram) (done : List Lexeme) (K : List Gram) (end : ℕ) (ts : List Lexeme) (at : ℕ) : Type 0 where
  pub front : List Lexeme
  pub rest : List Lexeme
  pub whole : ts ≡ front ++ rest
  pub goes_on : Viable rule false done K front
  pub stops : Stops rule done K end front rest at
