-- Statements that begin with SELECT: a query, unless the words of another one stand there.
use Rattle.std.proofs.Common.{◌≡◌, ℕ, Bool, true, false, ◌&&◌, ◌==◌, List, [], ◌∷◌, length, Option, Some, None, Result, Ok, Err, MatchOption, refl, sym, ap, ◌∙◌, subst}
use Rattle.std.specs.Result.{IsErrAnd}
use Rattle.tt_sql.specs.grammar.Grammar.{Lexeme, Mark, Way, Gram}
use Rattle.tt_sql.specs.machine.Machine.{run}
use Rattle.tt_sql.specs.machine.Factored.{read_query, read_rule, read_select}
use Rattle.tt_sql.specs.grammar.Combinators.{one, quoted_name, way, ◌▸◌}
use Rattle.tt_sql.specs.grammar.TokenKinds.{CLOSE, DOT, OPEN, TABLE_STORAGE_METRICS}
use Rattle.tt_sql.specs.grammar.Lexemes.{begins_with}
use Rattle.tt_sql.proofs.machine.Selects.{select_is_query}
use Rattle.tt_terminal.specs.declared.error.ParseError.{ParseError}
use Rattle.tt_terminal.specs.declared.rest.Rest.{Rest}
use Rattle.tt_terminal.specs.Fronts.{front_kind}
use Rattle.tt_terminal.specs.KindNumbers.{kind_number}
use Rattle.tt_terminal.specs.Reading.{Passes, Fails, Errs, IsWord, seen, first_kind}
use Rattle.tt_phrase.specs.Selects.{Follow, ReadsIf, depth_kinds, view_kinds}
use Rattle.tt_terminal.proofs.Running.{run_both}
use Rattle.tt_terminal.proofs.Steps.{word_kind_is, passes_word, passes_left, passes_right, passes_as, stops_word, stops_left, stops_right, stops_first, seen_takes}

-- ---- words in front

-- the first word is another one
pub begins_not : (k : ℕ) (kinds : List ℕ) (r : Rest) → (first_kind r == k) ≡ false → begins_with (k ∷ kinds) (seen r) ≡ false
begins_not k kinds r e = of_tokens (seen r) e
  where
    of_tokens : (ts : List Lexeme) → (front_kind ts == k) ≡ false → begins_with (k ∷ kinds) ts ≡ false
    of_tokens [] f = refl
    of_tokens (t ∷ ts) f = rw f refl

-- a later one is
pub begins_not_later : {k : ℕ} (kinds : List ℕ) {r s : Rest} → IsWord k r s → begins_with kinds (seen s) ≡ false → begins_with (k ∷ kinds) (seen r) ≡ false
begins_not_later {k = k} kinds {r = r} {s = s} w e = ap (begins_with (k ∷ kinds)) (seen_takes w.takes) ∙ ap (λ (b : Bool). (kind_number w.first.kind == k) && b) e ∙ and_false (kind_number w.first.kind == k)
  where
    and_false : (b : Bool) → (b && false) ≡ false
    and_false true = refl
    and_false false = refl

-- the last word, where those before it stand there
pub follow_last : (k : ℕ) (r : Rest) (o : Option Rest) → MatchOption o ((first_kind r == k) ≡ false) (λ s. IsWord k r s) → MatchOption o (begins_with (k ∷ []) (seen r) ≡ false) (λ s. Follow (k ∷ []) r s)
follow_last k r (Some s) w = (s, w, refl)
follow_last k r None e = begins_not k [] r e

pub follow_more : (k : ℕ) (kinds : List ℕ) (r t : Rest) (o : Option Rest) → IsWord k r t → MatchOption o (begins_with kinds (seen t) ≡ false) (λ s. Follow kinds t s) → MatchOption o (begins_with (k ∷ kinds) (seen r) ≡ false) (λ s. Follow (k ∷ kinds) r s)
follow_more k kinds r t (Some s) w f = (t, w, f)
follow_more k kinds r t None w e = begins_not_later kinds w e

-- ---- the view of storage

module _ (levels : ℕ) {r s : Rest} (f : Follow view_kinds r s) where
  dot : IsWord DOT f.2.2.2.0 s
  dot = subst (λ (x : Rest). IsWord DOT f.2.2.2.0 x) f.2.2.2.2.2 f.2.2.2.2.1

  pub view_passes : {u : Rest} → Passes [] (one TABLE_STORAGE_METRICS) s [] u → Passes [] (read_select levels) r (Way 17 ∷ []) u
  view_passes a = passes_word f.1 (passes_left (word_kind_is f.2.1) refl refl (passes_word f.2.1 (passes_word f.2.2.1 (passes_left (word_kind_is f.2.2.2.1) refl refl (passes_word f.2.2.2.1 (passes_left (word_kind_is dot) refl refl (passes_word dot (passes_as a))))))))

  pub view_stops : {at : ℕ} → Fails [] (one TABLE_STORAGE_METRICS) s at → Fails [] (read_select levels) r at
  view_stops a = stops_word f.1 (stops_left (word_kind_is f.2.1) refl refl (stops_word f.2.1 (stops_word f.2.2.1 (stops_left (word_kind_is f.2.2.2.1) refl refl (stops_word f.2.2.2.1 (stops_left (word_kind_is dot) refl refl (stops_word dot (stops_first a))))))))

-- ---- the depth of a table

module _ (levels : ℕ) {r s : Rest} (f : Follow depth_kinds r s) where
  bracket : IsWord OPEN f.2.0 s
  bracket = subst (λ (x : Rest). IsWord OPEN f.2.0 x) f.2.2.2 f.2.2.1

  pub depth_passes : {m : List Mark} {u : Rest} → Passes [] (quoted_name ▸ one CLOSE ▸ way 18) s m u → Passes [] (read_select levels) r m u
  depth_passes a = passes_word f.1 (passes_right (rw (word_kind_is f.2.1) refl) refl (passes_left (word_kind_is f.2.1) refl refl (passes_word f.2.1 (passes_left (word_kind_is bracket) refl refl (passes_word bracket a)))))

  pub depth_stops : {at : ℕ} → Fails [] (quoted_name ▸ one CLOSE ▸ way 18) s at → Fails [] (read_select levels) r at
  depth_stops a = stops_word f.1 (stops_right (rw (word_kind_is f.2.1) refl) refl (stops_left (word_kind_is f.2.1) refl refl (stops_word f.2.1 (stops_left (word_kind_is bracket) refl refl (stops_word bracket a)))))

-- an exit by `?` of the reader of one of the two
pub if_exit : {T : Type 0} (kinds : List ℕ) (marks : T → List Mark) (rest : T → Rest) (r : Rest) (e : ParseError) (result : Result (Option T) ParseError) → IsErrAnd result (λ y. y ≡ e) → ((levels : ℕ) → Errs [] (read_select levels) r e) → ReadsIf kinds marks rest r result
if_exit kinds marks rest r e (Ok x) h f = absurd h
if_exit kinds marks rest r e (Err y) h f = λ levels. subst (λ z. Errs [] (read_select levels) r z) (sym h) (f levels)

-- ---- a query

select_runs : (levels end : ℕ) (ts : List Lexeme) → begins_with view_kinds ts ≡ false → begins_with depth_kinds ts ≡ false → (done : List Lexeme) (K : List Gram) → run read_rule end done (read_select levels ∷ K) ts ≡ run read_rule end done ((read_query levels ▸ way 0) ∷ K) ts
select_runs levels end ts v d done K = select_is_query end levels done K ts v d ∙ sym (run_both read_rule end done K (read_query levels) (way 0) ts)

pub select_passes : (levels : ℕ) {r : Rest} {m : List Mark} {s : Rest} → begins_with view_kinds (seen r) ≡ false → begins_with depth_kinds (seen r) ≡ false → Passes [] (read_query levels ▸ way 0) r m s → Passes [] (read_select levels) r m s
select_passes levels {r = r} {m = m} {s = s} v d p = record {
  same = p.same;
  known = p.known;
  shorter = p.shorter;
  goes = record { gone = p.goes.gone; on = λ done K. select_runs levels (length r.text.now) (seen r) v d done K ∙ p.goes.on done K };
}

pub select_stops : (levels : ℕ) {r : Rest} {at : ℕ} → begins_with view_kinds (seen r) ≡ false → begins_with depth_kinds (seen r) ≡ false → Fails [] (read_query levels ▸ way 0) r at → Fails [] (read_select levels) r at
select_stops levels {r = r} {at = at} v d f = record { halts = record { on = λ done K. select_runs levels (length r.text.now) (seen r) v d done K ∙ f.halts.on done K } }
