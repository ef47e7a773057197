-- Steps by which a reader of a grammar is put together from readers of its parts.
use Rattle.std.proofs.Common.{◌≡◌, ℕ, Bool, true, false, List, [], ◌∷◌, ◌++◌, refl, sym, ap, ◌∙◌, true≢false}
use Rattle.tt_sql.specs.grammar.Grammar.{Lexeme, Mark, Way, Rule, Gram, Tok, Deep, Note, Both, Either, Many, Again, is_of}
use Rattle.tt_sql.specs.machine.Machine.{run, with_marks}
use Rattle.tt_sql.specs.machine.Factored.{read_rule}
use Rattle.tt_sql.specs.grammar.TokenKinds.{kind_count}
use Rattle.tt_sql.proofs.machine.Table.{table}
use Rattle.tt_sql.specs.grammar.Combinators.{way}
use Rattle.tt_terminal.specs.Reading.{Goes, Halts}
use Rattle.tt_terminal.specs.Fronts.{begins, solid, front_kind, front_place}
use Rattle.tt_terminal.proofs.Running.{with_nothing, with_more, run_both, run_note, run_token, run_fails, run_left, run_right, run_more, run_enough, run_again, run_deep}

module _ (end : ℕ) where
  -- the same, in front of which more tokens are known
  pub anywhere : (before : List Lexeme) (g : Gram) (ts : List Lexeme) (m : List Mark) (rest : List Lexeme) → Goes end [] g ts m rest → Goes end before g ts m rest
  anywhere before g ts m rest a = record { gone = λ done. a.gone (before ++ done); on = λ done K. a.on (before ++ done) K }

  pub anywhere_halts : (before : List Lexeme) (g : Gram) (ts : List Lexeme) (at : ℕ) → Halts end [] g ts at → Halts end before g ts at
  anywhere_halts before g ts at a = record { on = λ done K. a.on (before ++ done) K }

  -- one part behind another
  pub goes_both : (before : List Lexeme) (g h : Gram) (ts : List Lexeme) (m : List Mark) (rest : List Lexeme) (n : List Mark) (last : List Lexeme) → Goes end before g ts m rest → Goes end [] h rest n last → Goes end before (Both g h) ts (m ++ n) last
  goes_both before g h ts m rest n last a b = record {
    gone = λ done. b.gone (a.gone done);
    on = λ done K. run_both read_rule end (before ++ done) K g h ts ∙ a.on done (h ∷ K) ∙ ap (with_marks m) (b.on (a.gone done) K) ∙ with_more m n (run read_rule end (b.gone (a.gone done)) K last);
  }

  pub fails_first : (before : List Lexeme) (g h : Gram) (ts : List Lexeme) (at : ℕ) → Halts end before g ts at → Halts end before (Both g h) ts at
  fails_first before g h ts at a = record { on = λ done K. run_both read_rule end (before ++ done) K g h ts ∙ a.on done (h ∷ K) }

  pub fails_second : (before : List Lexeme) (g h : Gram) (ts : List Lexeme) (m : List Mark) (rest : List Lexeme) (at : ℕ) → Goes end before g ts m rest → Halts end [] h rest at → Halts end before (Both g h) ts at
  fails_second before g h ts m rest at a b = record {
    on = λ done K. run_both read_rule end (before ++ done) K g h ts ∙ a.on done (h ∷ K) ∙ ap (with_marks m) (b.on (a.gone done) K);
  }

  -- one of two
  pub goes_left : (before : List Lexeme) (g h : Gram) (ts : List Lexeme) (m : List Mark) (rest : List Lexeme) → begins false g (front_kind ts) ≡ true → begins false g kind_count ≡ false → Goes end before g ts m rest → Goes end before (Either g h) ts m rest
  goes_left before g h ts m rest e n a = record { gone = a.gone; on = λ done K. run_left read_rule end (before ++ done) K g h ts e n ∙ a.on done K }

  pub fails_left : (before : List Lexeme) (g h : Gram) (ts : List Lexeme) (at : ℕ) → begins false g (front_kind ts) ≡ true → begins false g kind_count ≡ false → Halts end before g ts at → Halts end before (Either g h) ts at
  fails_left before g h ts at e n a = record { on = λ done K. run_left read_rule end (before ++ done) K g h ts e n ∙ a.on done K }

  pub goes_right : (before : List Lexeme) (g h : Gram) (ts : List Lexeme) (m : List Mark) (rest : List Lexeme) → begins true g (front_kind ts) ≡ false → solid g ≡ true → Goes end before h ts m rest → Goes end before (Either g h) ts m rest
  goes_right before g h ts m rest e s a = record { gone = a.gone; on = λ done K. run_right read_rule end (before ++ done) K g h ts e s ∙ a.on done K }

  pub fails_right : (before : List Lexeme) (g h : Gram) (ts : List Lexeme) (at : ℕ) → begins true g (front_kind ts) ≡ false → solid g ≡ true → Halts end before h ts at → Halts end before (Either g h) ts at
  fails_right before g h ts at e s a = record { on = λ done K. run_right read_rule end (before ++ done) K g h ts e s ∙ a.on done K }

  -- nothing goes on from here
  pub stuck_here : (before : List Lexeme) (g : Gram) (ts : List Lexeme) → begins true g (front_kind ts) ≡ false → solid g ≡ true → Halts end before g ts (front_place end ts)
  stuck_here before g ts e s = record { on = λ done K. run_fails read_rule end (before ++ done) K g ts e s }

  -- a token, and what stands behind it
  pub goes_token : (before : List Lexeme) (k : ℕ) (more : ℕ → Bool) (t : Lexeme) (ts : List Lexeme) → is_of k more t.kind ≡ true → Goes end before (Tok k more) (t ∷ ts) [] ts
  goes_token before k more t ts e = record { gone = λ done. t ∷ (before ++ done); on = λ done K. run_token read_rule end (before ++ done) K k more t ts e ∙ sym (with_nothing (run read_rule end (t ∷ (before ++ done)) K ts)) }

  pub behind_token : (before : List Lexeme) (k : ℕ) (more : ℕ → Bool) (g : Gram) (t : Lexeme) (ts : List Lexeme) (m : List Mark) (rest : List Lexeme) → is_of k more t.kind ≡ true → Goes end (t ∷ before) g ts m rest → Goes end before (Both (Tok k more) g) (t ∷ ts) m rest
  behind_token before k more g t ts m rest e a = record { gone = a.gone; on = λ done K. run_both read_rule end (before ++ done) K (Tok k more) g (t ∷ ts) ∙ run_token read_rule end (before ++ done) (g ∷ K) k more t ts e ∙ a.on done K }

  pub fails_behind : (before : List Lexeme) (k : ℕ) (more : ℕ → Bool) (g : Gram) (t : Lexeme) (ts : List Lexeme) (at : ℕ) → is_of k more t.kind ≡ true → Halts end (t ∷ before) g ts at → Halts end before (Both (Tok k more) g) (t ∷ ts) at
  fails_behind before k more g t ts at e a = record { on = λ done K. run_both read_rule end (before ++ done) K (Tok k more) g (t ∷ ts) ∙ run_token read_rule end (before ++ done) (g ∷ K) k more t ts e ∙ a.on done K }

  -- a note on the tokens in front, and what stands behind it
  pub noted : (before : List Lexeme) (f : List Lexeme → List Mark) (ts : List Lexeme) (n : List Mark) → ((done : List Lexeme) → f (before ++ done) ≡ n) → Goes end before (Note f) ts n ts
  noted before f ts n e = record { gone = λ done. before ++ done; on = λ done K. run_note read_rule end (before ++ done) K f ts ∙ ap (λ x. with_marks x (run read_rule end (before ++ done) K ts)) (e done) }

  pub behind_note : (before : List Lexeme) (f : List Lexeme → List Mark) (g : Gram) (ts : List Lexeme) (n m : List Mark) (rest : List Lexeme) → ((done : List Lexeme) → f (before ++ done) ≡ n) → Goes end before g ts m rest → Goes end before (Both (Note f) g) ts (n ++ m) rest
  behind_note before f g ts n m rest e a = record {
    gone = a.gone;
    on = λ done K. run_both read_rule end (before ++ done) K (Note f) g ts ∙ run_note read_rule end (before ++ done) (g ∷ K) f ts ∙ ap (λ x. with_marks x (run read_rule end (before ++ done) (g ∷ K) ts)) (e done) ∙ ap (with_marks n) (a.on done K) ∙ with_more n m (run read_rule end (a.gone done) K rest);
  }

  pub fails_note : (before : List Lexeme) (f : List Lexeme → List Mark) (g : Gram) (ts : List Lexeme) (at : ℕ) → Halts end before g ts at → Halts end before (Both (Note f) g) ts at
  fails_note before f g ts at a = record {
    on = λ done K. run_both read_rule end (before ++ done) K (Note f) g ts ∙ run_note read_rule end (before ++ done) (g ∷ K) f ts ∙ ap (with_marks (f (before ++ done))) (a.on done K);
  }

  pub goes_way : (before : List Lexeme) (n : ℕ) (ts : List Lexeme) → Goes end before (way n) ts (Way n ∷ []) ts
  goes_way before n ts = noted before (λ done. Way n ∷ []) ts (Way n ∷ []) (λ done. refl)

  -- one after the other, as often as they stand there
  pub on_more : (g : Gram) (ts : List Lexeme) (m : List Mark) (rest : List Lexeme) (n : List Mark) (last : List Lexeme) → begins false g (front_kind ts) ≡ true → begins false g kind_count ≡ false → Goes end [] g ts m rest → Goes end [] (Many g) rest n last → Goes end [] (Many g) ts (Way 1 ∷ (m ++ n)) last
  on_more g ts m rest n last e s a b = record {
    gone = λ done. b.gone (a.gone done);
    on = λ done K. run_more read_rule end done K g ts e s ∙ ap (with_marks (Way 1 ∷ [])) (a.on done (Many g ∷ K) ∙ ap (with_marks m) (b.on (a.gone done) K) ∙ with_more m n (run read_rule end (b.gone (a.gone done)) K last)) ∙ with_more (Way 1 ∷ []) (m ++ n) (run read_rule end (b.gone (a.gone done)) K last);
  }

  pub on_done : (g : Gram) (ts : List Lexeme) → begins true g (front_kind ts) ≡ false → Goes end [] (Many g) ts (Way 0 ∷ []) ts
  on_done g ts e = record { gone = λ done. done; on = λ done K. run_enough read_rule end done K g ts e }

  pub on_fault : (g : Gram) (ts : List Lexeme) (at : ℕ) → begins false g (front_kind ts) ≡ true → begins false g kind_count ≡ false → Halts end [] g ts at → Halts end [] (Many g) ts at
  on_fault g ts at e s a = record { on = λ done K. run_more read_rule end done K g ts e s ∙ ap (with_marks (Way 1 ∷ [])) (a.on done (Many g ∷ K)) }

  pub on_later : (g : Gram) (ts : List Lexeme) (m : List Mark) (rest : List Lexeme) (at : ℕ) → begins false g (front_kind ts) ≡ true → begins false g kind_count ≡ false → Goes end [] g ts m rest → Halts end [] (Many g) rest at → Halts end [] (Many g) ts at
  on_later g ts m rest at e s a b = record {
    on = λ done K. run_more read_rule end done K g ts e s ∙ ap (with_marks (Way 1 ∷ [])) (a.on done (Many g ∷ K) ∙ ap (with_marks m) (b.on (a.gone done) K));
  }

  -- a production
  pub goes_again : (before : List Lexeme) (r : Rule) (d : ℕ) (ts : List Lexeme) (m : List Mark) (rest : List Lexeme) → Goes end before (read_rule r d) ts m rest → Goes end before (Again r d) ts m rest
  goes_again before r d ts m rest a = record { gone = a.gone; on = λ done K. run_again read_rule end (before ++ done) K r d ts (table.guards r d) (table.solid r d) ∙ a.on done K }

  pub fails_again : (before : List Lexeme) (r : Rule) (d : ℕ) (ts : List Lexeme) (at : ℕ) → Halts end before (read_rule r d) ts at → Halts end before (Again r d) ts at
  fails_again before r d ts at a = record { on = λ done K. run_again read_rule end (before ++ done) K r d ts (table.guards r d) (table.solid r d) ∙ a.on done K }

  -- a token that opens a level too many is the fault
  pub too_deep : (t : Lexeme) (before : List Lexeme) (kinds : ℕ → Bool) (u : Lexeme) (ts : List Lexeme) → kinds u.kind ≡ true → Halts end (t ∷ before) (Deep kinds) (u ∷ ts) t.place
  too_deep t before kinds u ts e = record { on = λ done K. run_deep read_rule end (t ∷ (before ++ done)) K kinds u ts e }

  pub deep_front : (t : Lexeme) (before : List Lexeme) (kinds : ℕ → Bool) (ts : List Lexeme) → kinds (front_kind ts) ≡ true → kinds kind_count ≡ false → Halts end (t ∷ before) (Deep kinds) ts t.place
  deep_front t before kinds [] e n = absurd (true≢false (sym e ∙ n))
  deep_front t before kinds (u ∷ ts) e n = too_deep t before kinds u ts e
