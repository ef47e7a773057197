-- Tokens have one fault, or are spelled.
use Rattle.std.proofs.Common.{◌≡◌, ℕ, Bool, true, false, ◌⊎◌, inl, inr, List, [], ◌∷◌, ◌++◌, refl, sym, ap, ◌∙◌, subst, append_assoc, append-nil}
use Rattle.tt_sql.specs.grammar.Grammar.{Lexeme, Mark, Rule, Gram, Spells, last_place, Viable, Stops, IsFault}

-- of two fronts of one list, how they lie
pub data Fronts (f r g s : List Lexeme) : Type 0 where
  alike : f ≡ g → r ≡ s → Fronts f r g s
  shorter : (h : List Lexeme) (t : Lexeme) → g ≡ f ++ t ∷ h → r ≡ t ∷ (h ++ s) → Fronts f r g s
  longer : (h : List Lexeme) (t : Lexeme) → f ≡ g ++ t ∷ h → s ≡ t ∷ (h ++ r) → Fronts f r g s

fronts_on : (u : Lexeme) (f r g s : List Lexeme) → Fronts f r g s → Fronts (u ∷ f) r (u ∷ g) s
fronts_on u f r g s (alike p q) = alike (ap (λ (x : List Lexeme). u ∷ x) p) q
fronts_on u f r g s (shorter h t p q) = shorter h t (ap (λ (x : List Lexeme). u ∷ x) p) q
fronts_on u f r g s (longer h t p q) = longer h t (ap (λ (x : List Lexeme). u ∷ x) p) q

head_of : Lexeme → List Lexeme → Lexeme
head_of d [] = d
head_of d (t ∷ ts) = t

tail_of : List Lexeme → List Lexeme
tail_of [] = []
tail_of (t ∷ ts) = ts

same_head : (t u : Lexeme) (ts us : List Lexeme) → t ∷ ts ≡ u ∷ us → t ≡ u
unfolding head_of
same_head t u ts us e = ap (head_of t) e

same_tail : (t u : Lexeme) (ts us : List Lexeme) → t ∷ ts ≡ u ∷ us → ts ≡ us
unfolding tail_of
same_tail t u ts us e = ap tail_of e

fronts : (f r g s : List Lexeme) → f ++ r ≡ g ++ s → Fronts f r g s
fronts [] r [] s e = alike refl e
fronts [] r (u ∷ g) s e = shorter g u refl e
fronts (t ∷ f) r [] s e = longer f t refl (sym e)
fronts (t ∷ f) r (u ∷ g) s e = subst (λ x. Fronts (t ∷ f) r (x ∷ g) s) (same_head t u (f ++ r) (g ++ s) e) (fronts_on t f r g s (fronts f r g s (same_tail t u (f ++ r) (g ++ s) e)))

module _ (rule : Rule → ℕ → Gram) (done : List Lexeme) (K : List Gram) (end : ℕ) where
  -- what is viable is so at its front
  viable_front : (lifted : Bool) (f : List Lexeme) (t : Lexeme) (g : List Lexeme) → Viable rule lifted done K (f ++ t ∷ g) → Viable rule lifted done K (f ++ t ∷ [])
  viable_front lifted f t g v = (g ++ v.0, v.1, subst (λ x. Spells rule lifted done K v.1 x) (append_assoc f (t ∷ g) v.0 ∙ sym (append_assoc f (t ∷ []) (g ++ v.0))) v.2)

  one_place : (f r : List Lexeme) (a b : ℕ) → Stops rule done K end f r a → Stops rule done K end f r b → a ≡ b
  one_place f [] a b s u = s.0 ∙ sym u.0
  one_place f (t ∷ r) a b s u = places s.1 u.1
    where
      places : (((a ≡ t.place) × (Viable rule true done K (f ++ t ∷ []) → ⊥)) ⊎ ((a ≡ last_place done f) × Viable rule true done K (f ++ t ∷ [])))
          → (((b ≡ t.place) × (Viable rule true done K (f ++ t ∷ []) → ⊥)) ⊎ ((b ≡ last_place done f) × Viable rule true done K (f ++ t ∷ []))) → a ≡ b
      places (inl p) (inl q) = p.0 ∙ sym q.0
      places (inl p) (inr q) = absurd (p.1 q.1)
      places (inr p) (inl q) = absurd (q.1 p.1)
      places (inr p) (inr q) = p.0 ∙ sym q.0

  meets_front : (f h r : List Lexeme) (t : Lexeme) (g : List Lexeme) (a : ℕ) → Viable rule false done K g → g ≡ f ++ t ∷ h → Stops rule done K end f (t ∷ r) a → ⊥
  meets_front f h r t g a v e s = s.0 (viable_front false f t h (subst (λ x. Viable rule false done K x) e v))

  same_front : (f r g s : List Lexeme) (a b : ℕ) → Fronts f r g s → Viable rule false done K f → Viable rule false done K g → Stops rule done K end f r a → Stops rule done K end g s b → a ≡ b
  same_front f r g s a b (alike x y) v w p q = one_place g s a b (subst (λ z. Stops rule done K end z s a) x (subst (λ z. Stops rule done K end f z a) y p)) q
  same_front f r g s a b (shorter h t x y) v w p q = absurd (meets_front f h (h ++ s) t g a w x (subst (λ z. Stops rule done K end f z a) y p))
  same_front f r g s a b (longer h t x y) v w p q = absurd (meets_front g h (h ++ r) t f b v x (subst (λ z. Stops rule done K end g z b) y q))

  -- tokens have one fault
  pub one_fault : (ts : List Lexeme) (a b : ℕ) → IsFault rule done K end ts a → IsFault rule done K end ts b → a ≡ b
  one_fault ts a b p q = same_front p.front p.rest q.front q.rest a b (fronts p.front p.rest q.front q.rest (sym p.whole ∙ q.whole)) p.goes_on q.goes_on p.stops q.stops

  stops_not : (f r : List Lexeme) (a : ℕ) (m : List Mark) → Stops rule done K end f r a → Spells rule false done K m (f ++ r) → ⊥
  stops_not f [] a m s d = s.1 m (subst (λ x. Spells rule false done K m x) (append-nil f) d)
  stops_not f (t ∷ r) a m s d = s.0 (r, m, subst (λ x. Spells rule false done K m x) (sym (append_assoc f (t ∷ []) r)) d)

  -- and none where they are spelled
  pub no_fault : (ts : List Lexeme) (a : ℕ) (m : List Mark) → IsFault rule done K end ts a → Spells rule false done K m ts → ⊥
  no_fault ts a m p d = stops_not p.front p.rest a m p.stops (subst (λ x. Spells rule false done K m x) p.whole d)
