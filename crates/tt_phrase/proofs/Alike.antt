-- Parts that the machine reads alike, from these tokens on.
use Rattle.std.proofs.Common.{◌≡◌, ℕ, Bool, true, false, List, [], ◌∷◌, ◌++◌, length, refl, sym, ap, ◌∙◌, append_assoc}
use Rattle.tt_sql.specs.grammar.Grammar.{Lexeme, Mark, Gram, Tok, Deep, Note, Both, Either, Many, Again}
use Rattle.tt_sql.specs.machine.Machine.{run}
use Rattle.tt_sql.specs.machine.Factored.{read_rule}
use Rattle.tt_sql.proofs.machine.Items.{alike_below}
use Rattle.tt_sql.specs.grammar.TokenKinds.{kind_count}
use Rattle.tt_terminal.specs.declared.rest.Rest.{Rest}
use Rattle.tt_terminal.specs.Reading.{Passes, Fails, seen}
use Rattle.tt_terminal.specs.Fronts.{begins, solid, front_kind}
use Rattle.tt_terminal.proofs.Running.{run_both, run_left, run_right, run_fails}

abbrev pub Alike : ℕ → List Lexeme → Gram → Gram → Type 0
Alike end ts g h = (done : List Lexeme) (K : List Gram) → run read_rule end done (g ∷ K) ts ≡ run read_rule end done (h ∷ K) ts

pub alike_passes : {g h : Gram} {r : Rest} {m : List Mark} {s : Rest} → Alike (length r.text.now) (seen r) g h → Passes [] h r m s → Passes [] g r m s
alike_passes alike p = record {
  same = p.same;
  known = p.known;
  shorter = p.shorter;
  goes = record { gone = p.goes.gone; on = λ done K. alike done K ∙ p.goes.on done K };
}

pub alike_stops : {g h : Gram} {r : Rest} {at : ℕ} → Alike (length r.text.now) (seen r) g h → Fails [] h r at → Fails [] g r at
alike_stops alike f = record { halts = record { on = λ done K. alike done K ∙ f.halts.on done K } }

-- ---- one part behind another

-- the parts that lie one behind another
abbrev pub chain : Gram → List Gram
chain (Both g h) = chain g ++ chain h
chain (Tok k more) = Tok k more ∷ []
chain (Deep kinds) = Deep kinds ∷ []
chain (Note f) = Note f ∷ []
chain (Either g h) = Either g h ∷ []
chain (Many g) = Many g ∷ []
chain (Again r d) = Again r d ∷ []

module _ (end : ℕ) where
  as_chain : (g : Gram) (K : List Gram) (done : List Lexeme) (ts : List Lexeme) → run read_rule end done (g ∷ K) ts ≡ run read_rule end done (chain g ++ K) ts
  as_chain (Both g h) K done ts =
      run_both read_rule end done K g h ts
      ∙ as_chain g (h ∷ K) done ts
      ∙ alike_below end (h ∷ K) (chain h ++ K) (as_chain h K) (chain g) done ts
      ∙ ap (λ (x : List Gram). run read_rule end done x ts) (sym (append_assoc (chain g) (chain h) K))
  as_chain (Tok k more) K done ts = refl
  as_chain (Deep kinds) K done ts = refl
  as_chain (Note f) K done ts = refl
  as_chain (Either g h) K done ts = refl
  as_chain (Many g) K done ts = refl
  as_chain (Again r d) K done ts = refl

  pub alike_chains : (ts : List Lexeme) (g h : Gram) → chain g ≡ chain h → Alike end ts g h
  alike_chains ts g h e done K = as_chain g K done ts ∙ ap (λ (x : List Gram). run read_rule end done (x ++ K) ts) e ∙ sym (as_chain h K done ts)

  -- ---- one of two

  -- one token decides whether this part begins
  pub record Decides (k : ℕ) (b : Bool) (g : Gram) : Type 0 where
    pub may : begins true g k ≡ b
    pub must : begins false g k ≡ b
    pub ends : begins false g kind_count ≡ false
    pub takes : solid g ≡ true

  -- what stands behind a choice may stand behind each of its alternatives
  pub alike_either : (ts : List Lexeme) (g h p q w : Gram) (b : Bool) → Decides (front_kind ts) b g → Decides (front_kind ts) b p → Alike end ts g (Both p w) → Alike end ts h (Both q w) → Alike end ts (Either g h) (Both (Either p q) w)
  alike_either ts g h p q w true d e first second done K =
      run_left read_rule end done K g h ts d.must d.ends
      ∙ first done K
      ∙ run_both read_rule end done K p w ts
      ∙ sym (run_left read_rule end done (w ∷ K) p q ts e.must e.ends)
      ∙ sym (run_both read_rule end done K (Either p q) w ts)
  alike_either ts g h p q w false d e first second done K =
      run_right read_rule end done K g h ts d.may d.takes
      ∙ second done K
      ∙ run_both read_rule end done K q w ts
      ∙ sym (run_right read_rule end done (w ∷ K) p q ts e.may e.takes)
      ∙ sym (run_both read_rule end done K (Either p q) w ts)

  pub alike_right : (ts : List Lexeme) (g h p : Gram) → begins true g (front_kind ts) ≡ false → solid g ≡ true → Alike end ts h p → Alike end ts (Either g h) p
  alike_right ts g h p e s alike done K = run_right read_rule end done K g h ts e s ∙ alike done K

  -- neither begins here
  pub alike_stuck : (ts : List Lexeme) (g h : Gram) → begins true g (front_kind ts) ≡ false → solid g ≡ true → begins true h (front_kind ts) ≡ false → solid h ≡ true → Alike end ts g h
  alike_stuck ts g h e s f u done K = run_fails read_rule end done K g ts e s ∙ sym (run_fails read_rule end done K h ts f u)
