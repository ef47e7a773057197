-- A statement that begins with SELECT is a query, unless it is the view of storage or the depth of a table.
use Rattle.std.proofs.Common.{◌≡◌, ℕ, Bool, true, false, ◌&&◌, ◌==◌, zero, suc, List, [], ◌∷◌, refl, sym, ap, ◌∙◌, subst, true≢false}
use Rattle.std.proofs.lemmas.Bool.{eqb-true}
use Rattle.tt_sql.specs.grammar.Grammar.{Lexeme, Way, At, Said, Gram, Tok, Note, is_of, nowhere}
use Rattle.tt_sql.specs.machine.Machine.{with_marks, run}
use Rattle.tt_sql.specs.grammar.Lexemes.{begins_with}
use Rattle.tt_sql.proofs.machine.Decisions.{empty, first, guarded, tests}
use Rattle.tt_sql.proofs.grammar.Fronts.{false≢true, or_first}
use Rattle.tt_sql.proofs.grammar.Expressions.{name_is_but, but_is_name}
use Rattle.tt_sql.proofs.machine.Steps.{run_both, run_note, run_tok, run_stuck, run_end, run_left, run_right, with_both}
use Rattle.tt_sql.proofs.machine.Items.{Alike, alike_below, NextIsNot, no_first, yes_first, no_bracket, word_item, item_but, item_other, word_expr, depth_is_plain}
use Rattle.tt_sql.specs.grammar.TokenKinds.{SELECT, FROM, STAR, DOT, OPEN, CLOSE, NAME, INFORMATION_SCHEMA, TABLE_STORAGE_METRICS, SYSTEM_CLUSTERING_DEPTH, is_name}
use Rattle.tt_sql.specs.grammar.Combinators.{◌▸◌, ◌∣◌, way, as_place, as_text, one, placed, name, quoted_name}
use Rattle.tt_sql.specs.machine.Factored.{but, or_aggregate, read_other, is_information, is_depth, star_name, select_name, read_factors, read_terms, read_item, more_items, read_query_end, read_query, items_end, read_select, read_rule}

next_is_not : (k : ℕ) (ts : List Lexeme) → begins_with (k ∷ []) ts ≡ false → NextIsNot k ts
next_is_not k [] e = tt
next_is_not k (t ∷ ts) e = only_left (t.kind == k) e
  where
    only_left : (b : Bool) → (b && true) ≡ false → b ≡ false
    only_left true f = f
    only_left false f = refl

and_rest : (a b : Bool) → (a && b) ≡ false → a ≡ true → b ≡ false
and_rest true b e p = e
and_rest false b e p = absurd (false≢true p)

other_solid : (words : ℕ → Bool) (levels : ℕ) → empty (read_other words levels) ≡ false
unfolding empty read_other
other_solid words zero = refl
other_solid words (suc levels) = refl

module _ (end levels : ℕ) where
  abbrev view : Gram
  view = one INFORMATION_SCHEMA ▸ (one DOT ▸ one TABLE_STORAGE_METRICS ▸ way 17 ∣ Note star_name ▸ read_query_end levels ▸ way 0)

  abbrev starred : Gram
  starred = Note star_name ▸ read_query_end levels ▸ way 0

  abbrev other_name : Gram
  other_name = Tok NAME (but is_information) ▸ Note star_name ▸ read_query_end levels ▸ way 0

  abbrev star_way : Gram
  star_way = one STAR ▸ one FROM ▸ (view ∣ other_name)

  abbrev depth_end : Gram
  depth_end = quoted_name ▸ one CLOSE ▸ way 18

  abbrev depth_name : Gram
  depth_name = Note select_name ▸ way 1 ▸ read_factors levels ▸ read_terms levels ▸ way 0 ▸ items_end levels

  abbrev depth_way : Gram
  depth_way = one SYSTEM_CLUSTERING_DEPTH ▸ (one OPEN ▸ depth_end ∣ depth_name)

  abbrev item_way : Gram
  item_way = Note as_place ▸ read_item is_depth levels ▸ items_end levels

  abbrev selection : Gram
  selection = placed STAR ▸ way 0 ∣ (read_item nowhere levels ▸ more_items levels) ▸ way 1

  abbrev rest : Gram
  rest = one FROM ▸ name ▸ read_query_end levels

  -- ---- what stands behind the items

  from_alike : (K : List Gram) → Alike end ((one FROM ▸ name ▸ read_query_end levels ▸ way 0) ∷ K) (rest ∷ way 0 ∷ K)
  from_alike K done ts =
      run_both read_rule tests end done (one FROM) (name ▸ read_query_end levels ▸ way 0) K ts
      ∙ alike_below end ((name ▸ read_query_end levels ▸ way 0) ∷ K) ((name ▸ read_query_end levels) ∷ way 0 ∷ K) name_alike (one FROM ∷ []) done ts
      ∙ sym (run_both read_rule tests end done (one FROM) (name ▸ read_query_end levels) (way 0 ∷ K) ts)
    where
      name_alike : Alike end ((name ▸ read_query_end levels ▸ way 0) ∷ K) ((name ▸ read_query_end levels) ∷ way 0 ∷ K)
      name_alike done ts =
          run_both read_rule tests end done name (read_query_end levels ▸ way 0) K ts
          ∙ alike_below end ((read_query_end levels ▸ way 0) ∷ K) (read_query_end levels ∷ way 0 ∷ K) (λ d us. run_both read_rule tests end d (read_query_end levels) (way 0) K us) (name ∷ []) done ts
          ∙ sym (run_both read_rule tests end done name (read_query_end levels) (way 0 ∷ K) ts)

  items_alike : (K : List Gram) → Alike end (items_end levels ∷ K) (more_items levels ∷ way 1 ∷ rest ∷ way 0 ∷ K)
  items_alike K done ts =
      run_both read_rule tests end done (more_items levels) (way 1 ▸ one FROM ▸ name ▸ read_query_end levels ▸ way 0) K ts
      ∙ alike_below end ((way 1 ▸ one FROM ▸ name ▸ read_query_end levels ▸ way 0) ∷ K) (way 1 ∷ rest ∷ way 0 ∷ K) way_alike (more_items levels ∷ []) done ts
    where
      way_alike : Alike end ((way 1 ▸ one FROM ▸ name ▸ read_query_end levels ▸ way 0) ∷ K) (way 1 ∷ rest ∷ way 0 ∷ K)
      way_alike done ts =
          run_both read_rule tests end done (way 1) (one FROM ▸ name ▸ read_query_end levels ▸ way 0) K ts
          ∙ alike_below end ((one FROM ▸ name ▸ read_query_end levels ▸ way 0) ∷ K) (rest ∷ way 0 ∷ K) (from_alike K) (way 1 ∷ []) done ts

  named_alike : (K : List Gram) → Alike end ((read_terms levels ▸ way 0 ▸ items_end levels) ∷ K) (read_terms levels ∷ way 0 ∷ more_items levels ∷ way 1 ∷ rest ∷ way 0 ∷ K)
  named_alike K done ts =
      run_both read_rule tests end done (read_terms levels) (way 0 ▸ items_end levels) K ts
      ∙ alike_below end ((way 0 ▸ items_end levels) ∷ K) (way 0 ∷ more_items levels ∷ way 1 ∷ rest ∷ way 0 ∷ K) way_alike (read_terms levels ∷ []) done ts
    where
      way_alike : Alike end ((way 0 ▸ items_end levels) ∷ K) (way 0 ∷ more_items levels ∷ way 1 ∷ rest ∷ way 0 ∷ K)
      way_alike done ts =
          run_both read_rule tests end done (way 0) (items_end levels) K ts
          ∙ alike_below end (items_end levels ∷ K) (more_items levels ∷ way 1 ∷ rest ∷ way 0 ∷ K) (items_alike K) (way 0 ∷ []) done ts

  no_star : (k : ℕ) → (k == STAR) ≡ false → first tests (placed STAR ▸ way 0) k ≡ false
  unfolding first empty
  no_star k e = rw e refl

  yes_star : (k : ℕ) → (k == STAR) ≡ true → first tests (placed STAR ▸ way 0) k ≡ true
  unfolding first empty
  yes_star k e = rw e refl

  no_select : (k : ℕ) → (k == SELECT) ≡ false → (first tests (read_select levels) k ≡ false) × (first tests (read_query levels) k ≡ false)
  unfolding first empty
  no_select k e = (rw e refl, rw e refl)

  no_name : (k : ℕ) → is_of NAME is_name k ≡ false → first tests other_name k ≡ false
  unfolding first empty
  no_name k e = rw (not_but (is_of NAME (but is_information) k) (but_is_name is_information k)) refl
    where
      not_but : (b : Bool) → (b ≡ true → is_of NAME is_name k ≡ true) → b ≡ false
      not_but true f = absurd (true≢false (sym (f refl) ∙ e))
      not_but false f = refl

  no_name_token : (k : ℕ) → is_of NAME is_name k ≡ false → first tests (Tok NAME is_name) k ≡ false
  unfolding first
  no_name_token k e = e

  no_aggregate : (k : ℕ) → k ≡ SYSTEM_CLUSTERING_DEPTH → or_aggregate nowhere k ≡ false
  no_aggregate k e = subst (λ j. or_aggregate nowhere j ≡ false) (sym e) refl

  some_token : empty (star_way ∣ depth_way ∣ item_way) ≡ false
  unfolding empty
  some_token = rw (other_solid (or_aggregate is_depth) levels) refl

  some_item : empty selection ≡ false
  unfolding empty
  some_item = rw (other_solid (or_aggregate nowhere) levels) refl

  -- ---- behind SELECT

  module _ (done : List Lexeme) (K : List Gram) (s : Lexeme) where
    -- a list of items
    other_runs : (u : Lexeme) (us : List Lexeme) → (u.kind == STAR) ≡ false → run read_rule end (s ∷ done) (selection ∷ rest ∷ way 0 ∷ K) (u ∷ us) ≡ run read_rule end (s ∷ done) (read_item nowhere levels ∷ more_items levels ∷ way 1 ∷ rest ∷ way 0 ∷ K) (u ∷ us)
    unfolding guarded empty
    other_runs u us e =
        run_right read_rule tests end (s ∷ done) (placed STAR ▸ way 0) ((read_item nowhere levels ▸ more_items levels) ▸ way 1) (rest ∷ way 0 ∷ K) u us refl refl (no_star u.kind e)
        ∙ run_both read_rule tests end (s ∷ done) (read_item nowhere levels ▸ more_items levels) (way 1) (rest ∷ way 0 ∷ K) (u ∷ us)
        ∙ run_both read_rule tests end (s ∷ done) (read_item nowhere levels) (more_items levels) (way 1 ∷ rest ∷ way 0 ∷ K) (u ∷ us)

    -- a star
    star_query : (u : Lexeme) (us : List Lexeme) → (u.kind == STAR) ≡ true → run read_rule end (s ∷ done) (selection ∷ rest ∷ way 0 ∷ K) (u ∷ us) ≡ with_marks (At u.place ∷ Way 0 ∷ []) (run read_rule end (u ∷ s ∷ done) (rest ∷ way 0 ∷ K) us)
    unfolding guarded empty
    star_query u us e =
        run_left read_rule tests end (s ∷ done) (placed STAR ▸ way 0) ((read_item nowhere levels ▸ more_items levels) ▸ way 1) (rest ∷ way 0 ∷ K) u us refl (yes_star u.kind e)
        ∙ run_both read_rule tests end (s ∷ done) (placed STAR) (way 0) (rest ∷ way 0 ∷ K) (u ∷ us)
        ∙ run_both read_rule tests end (s ∷ done) (one STAR) (Note as_place) (way 0 ∷ rest ∷ way 0 ∷ K) (u ∷ us)
        ∙ run_tok read_rule tests end (s ∷ done) STAR nowhere (Note as_place ∷ way 0 ∷ rest ∷ way 0 ∷ K) u us (or_first (u.kind == STAR) (nowhere u.kind) e)
        ∙ run_note read_rule tests end (u ∷ s ∷ done) as_place (way 0 ∷ rest ∷ way 0 ∷ K) us
        ∙ ap (with_marks (At u.place ∷ [])) (run_note read_rule tests end (u ∷ s ∷ done) (λ d. Way 0 ∷ []) (rest ∷ way 0 ∷ K) us)
        ∙ with_both (At u.place ∷ []) (Way 0 ∷ []) (run read_rule end (u ∷ s ∷ done) (rest ∷ way 0 ∷ K) us)

    star_select : (u : Lexeme) (us : List Lexeme) → (u.kind == STAR) ≡ true → run read_rule end (s ∷ done) ((star_way ∣ depth_way ∣ item_way) ∷ K) (u ∷ us) ≡ run read_rule end (u ∷ s ∷ done) ((one FROM ▸ (view ∣ other_name)) ∷ K) us
    unfolding guarded empty
    star_select u us e =
        run_left read_rule tests end (s ∷ done) star_way (depth_way ∣ item_way) K u us refl (yes_first end STAR u.kind (one FROM ▸ (view ∣ other_name)) e)
        ∙ run_both read_rule tests end (s ∷ done) (one STAR) (one FROM ▸ (view ∣ other_name)) K (u ∷ us)
        ∙ run_tok read_rule tests end (s ∷ done) STAR nowhere ((one FROM ▸ (view ∣ other_name)) ∷ K) u us (or_first (u.kind == STAR) (nowhere u.kind) e)

    -- behind the table's name
    starred_runs : (u v w : Lexeme) (ws : List Lexeme) → run read_rule end (w ∷ v ∷ u ∷ s ∷ done) (starred ∷ K) ws ≡ with_marks (At s.place ∷ At u.place ∷ Way 0 ∷ Said w.text w.place ∷ []) (run read_rule end (w ∷ v ∷ u ∷ s ∷ done) (read_query_end levels ∷ way 0 ∷ K) ws)
    starred_runs u v w ws =
        run_both read_rule tests end (w ∷ v ∷ u ∷ s ∷ done) (Note star_name) (read_query_end levels ▸ way 0) K ws
        ∙ run_note read_rule tests end (w ∷ v ∷ u ∷ s ∷ done) star_name ((read_query_end levels ▸ way 0) ∷ K) ws
        ∙ ap (with_marks (At s.place ∷ At u.place ∷ Way 0 ∷ Said w.text w.place ∷ [])) (run_both read_rule tests end (w ∷ v ∷ u ∷ s ∷ done) (read_query_end levels) (way 0) K ws)

    table_query : (u v w : Lexeme) (ws : List Lexeme) → is_of NAME is_name w.kind ≡ true → run read_rule end (v ∷ u ∷ s ∷ done) (Tok NAME is_name ∷ Note as_text ∷ read_query_end levels ∷ way 0 ∷ K) (w ∷ ws) ≡ with_marks (Said w.text w.place ∷ []) (run read_rule end (w ∷ v ∷ u ∷ s ∷ done) (read_query_end levels ∷ way 0 ∷ K) ws)
    table_query u v w ws e =
        run_tok read_rule tests end (v ∷ u ∷ s ∷ done) NAME is_name (Note as_text ∷ read_query_end levels ∷ way 0 ∷ K) w ws e
        ∙ run_note read_rule tests end (w ∷ v ∷ u ∷ s ∷ done) as_text (read_query_end levels ∷ way 0 ∷ K) ws

    table_alike : (u v w : Lexeme) (ws : List Lexeme) → is_of NAME is_name w.kind ≡ true → run read_rule end (w ∷ v ∷ u ∷ s ∷ done) (starred ∷ K) ws ≡ with_marks (At s.place ∷ []) (with_marks (At u.place ∷ Way 0 ∷ []) (run read_rule end (v ∷ u ∷ s ∷ done) (Tok NAME is_name ∷ Note as_text ∷ read_query_end levels ∷ way 0 ∷ K) (w ∷ ws)))
    table_alike u v w ws e =
        let x = run read_rule end (w ∷ v ∷ u ∷ s ∷ done) (read_query_end levels ∷ way 0 ∷ K) ws in
        starred_runs u v w ws
        ∙ sym (with_both (At s.place ∷ []) (At u.place ∷ Way 0 ∷ Said w.text w.place ∷ []) x)
        ∙ ap (with_marks (At s.place ∷ [])) (sym (with_both (At u.place ∷ Way 0 ∷ []) (Said w.text w.place ∷ []) x) ∙ ap (with_marks (At u.place ∷ Way 0 ∷ [])) (sym (table_query u v w ws e)))

    name_runs : (u v w : Lexeme) (ws : List Lexeme) → ((w.kind == INFORMATION_SCHEMA) ≡ true → NextIsNot DOT ws) → (a : Bool) → (w.kind == INFORMATION_SCHEMA) ≡ a → (b : Bool) → is_of NAME is_name w.kind ≡ b → run read_rule end (v ∷ u ∷ s ∷ done) ((view ∣ other_name) ∷ K) (w ∷ ws) ≡ with_marks (At s.place ∷ []) (with_marks (At u.place ∷ Way 0 ∷ []) (run read_rule end (v ∷ u ∷ s ∷ done) (Tok NAME is_name ∷ Note as_text ∷ read_query_end levels ∷ way 0 ∷ K) (w ∷ ws)))
    unfolding guarded empty
    name_runs u v w ws next true p b q =
        run_left read_rule tests end (v ∷ u ∷ s ∷ done) view other_name K w ws refl (yes_first end INFORMATION_SCHEMA w.kind (one DOT ▸ one TABLE_STORAGE_METRICS ▸ way 17 ∣ starred) p)
        ∙ run_both read_rule tests end (v ∷ u ∷ s ∷ done) (one INFORMATION_SCHEMA) (one DOT ▸ one TABLE_STORAGE_METRICS ▸ way 17 ∣ starred) K (w ∷ ws)
        ∙ run_tok read_rule tests end (v ∷ u ∷ s ∷ done) INFORMATION_SCHEMA nowhere ((one DOT ▸ one TABLE_STORAGE_METRICS ▸ way 17 ∣ starred) ∷ K) w ws (or_first (w.kind == INFORMATION_SCHEMA) (nowhere w.kind) p)
        ∙ no_bracket end DOT (one TABLE_STORAGE_METRICS ▸ way 17) starred (w ∷ v ∷ u ∷ s ∷ done) K ws (next p)
        ∙ table_alike u v w ws (subst (λ k. is_of NAME is_name k ≡ true) (sym (eqb-true w.kind INFORMATION_SCHEMA p)) refl)
    name_runs u v w ws next false p true q =
        run_right read_rule tests end (v ∷ u ∷ s ∷ done) view other_name K w ws refl refl (no_first end INFORMATION_SCHEMA w.kind (one DOT ▸ one TABLE_STORAGE_METRICS ▸ way 17 ∣ starred) p)
        ∙ run_both read_rule tests end (v ∷ u ∷ s ∷ done) (Tok NAME (but is_information)) starred K (w ∷ ws)
        ∙ run_tok read_rule tests end (v ∷ u ∷ s ∷ done) NAME (but is_information) (starred ∷ K) w ws (name_is_but is_information w.kind q p)
        ∙ table_alike u v w ws q
    name_runs u v w ws next false p false q =
        run_right read_rule tests end (v ∷ u ∷ s ∷ done) view other_name K w ws refl refl (no_first end INFORMATION_SCHEMA w.kind (one DOT ▸ one TABLE_STORAGE_METRICS ▸ way 17 ∣ starred) p)
        ∙ run_stuck read_rule tests end (v ∷ u ∷ s ∷ done) other_name K w ws refl refl (no_name w.kind q)
        ∙ sym (ap (with_marks (At s.place ∷ [])) (ap (with_marks (At u.place ∷ Way 0 ∷ [])) (run_stuck read_rule tests end (v ∷ u ∷ s ∷ done) (Tok NAME is_name) (Note as_text ∷ read_query_end levels ∷ way 0 ∷ K) w ws refl refl (no_name_token w.kind q))))

    from_runs : (u v : Lexeme) (vs : List Lexeme) → begins_with (INFORMATION_SCHEMA ∷ DOT ∷ []) vs ≡ false → run read_rule end (v ∷ u ∷ s ∷ done) ((view ∣ other_name) ∷ K) vs ≡ with_marks (At s.place ∷ []) (with_marks (At u.place ∷ Way 0 ∷ []) (run read_rule end (v ∷ u ∷ s ∷ done) (Tok NAME is_name ∷ Note as_text ∷ read_query_end levels ∷ way 0 ∷ K) vs))
    unfolding empty
    from_runs u v [] e = run_end read_rule tests end (v ∷ u ∷ s ∷ done) (view ∣ other_name) K refl ∙ sym (ap (with_marks (At s.place ∷ [])) (ap (with_marks (At u.place ∷ Way 0 ∷ [])) (run_end read_rule tests end (v ∷ u ∷ s ∷ done) (Tok NAME is_name) (Note as_text ∷ read_query_end levels ∷ way 0 ∷ K) refl)))
    from_runs u v (w ∷ ws) e = name_runs u v w ws (λ p. next_is_not DOT ws (and_rest (w.kind == INFORMATION_SCHEMA) (begins_with (DOT ∷ []) ws) e p)) (w.kind == INFORMATION_SCHEMA) refl (is_of NAME is_name w.kind) refl

    star_runs : (u : Lexeme) (us : List Lexeme) → (u.kind == STAR) ≡ true → begins_with (FROM ∷ INFORMATION_SCHEMA ∷ DOT ∷ []) us ≡ false → run read_rule end (u ∷ s ∷ done) ((one FROM ▸ (view ∣ other_name)) ∷ K) us ≡ with_marks (At s.place ∷ []) (with_marks (At u.place ∷ Way 0 ∷ []) (run read_rule end (u ∷ s ∷ done) (rest ∷ way 0 ∷ K) us))
    unfolding guarded empty
    star_runs u [] e next =
        run_end read_rule tests end (u ∷ s ∷ done) (one FROM ▸ (view ∣ other_name)) K refl
        ∙ sym (ap (with_marks (At s.place ∷ [])) (ap (with_marks (At u.place ∷ Way 0 ∷ [])) (run_end read_rule tests end (u ∷ s ∷ done) rest (way 0 ∷ K) refl)))
    star_runs u (v ∷ vs) e next = by_from (v.kind == FROM) refl
      where
        by_from : (b : Bool) → (v.kind == FROM) ≡ b → run read_rule end (u ∷ s ∷ done) ((one FROM ▸ (view ∣ other_name)) ∷ K) (v ∷ vs) ≡ with_marks (At s.place ∷ []) (with_marks (At u.place ∷ Way 0 ∷ []) (run read_rule end (u ∷ s ∷ done) (rest ∷ way 0 ∷ K) (v ∷ vs)))
        by_from true p =
            run_both read_rule tests end (u ∷ s ∷ done) (one FROM) (view ∣ other_name) K (v ∷ vs)
            ∙ run_tok read_rule tests end (u ∷ s ∷ done) FROM nowhere ((view ∣ other_name) ∷ K) v vs (or_first (v.kind == FROM) (nowhere v.kind) p)
            ∙ from_runs u v vs (and_rest (v.kind == FROM) (begins_with (INFORMATION_SCHEMA ∷ DOT ∷ []) vs) next p)
            ∙ sym (ap (with_marks (At s.place ∷ [])) (ap (with_marks (At u.place ∷ Way 0 ∷ [])) (
            run_both read_rule tests end (u ∷ s ∷ done) (one FROM) (name ▸ read_query_end levels) (way 0 ∷ K) (v ∷ vs)
            ∙ run_tok read_rule tests end (u ∷ s ∷ done) FROM nowhere ((name ▸ read_query_end levels) ∷ way 0 ∷ K) v vs (or_first (v.kind == FROM) (nowhere v.kind) p)
            ∙ run_both read_rule tests end (v ∷ u ∷ s ∷ done) name (read_query_end levels) (way 0 ∷ K) vs
            ∙ run_both read_rule tests end (v ∷ u ∷ s ∷ done) (Tok NAME is_name) (Note as_text) (read_query_end levels ∷ way 0 ∷ K) vs)))
        by_from false p =
            run_stuck read_rule tests end (u ∷ s ∷ done) (one FROM ▸ (view ∣ other_name)) K v vs refl refl (no_first end FROM v.kind (view ∣ other_name) p)
            ∙ sym (ap (with_marks (At s.place ∷ [])) (ap (with_marks (At u.place ∷ Way 0 ∷ [])) (run_stuck read_rule tests end (u ∷ s ∷ done) rest (way 0 ∷ K) v vs refl refl (no_first end FROM v.kind (name ▸ read_query_end levels) p))))

    -- the word of the depth, as a name
    depth_runs : (u : Lexeme) (us : List Lexeme) → (u.kind == SYSTEM_CLUSTERING_DEPTH) ≡ true → NextIsNot OPEN us → run read_rule end (s ∷ done) ((depth_way ∣ item_way) ∷ K) (u ∷ us) ≡ with_marks (At s.place ∷ []) (run read_rule end (s ∷ done) (read_item nowhere levels ∷ more_items levels ∷ way 1 ∷ rest ∷ way 0 ∷ K) (u ∷ us))
    unfolding guarded empty
    depth_runs u us e next =
        let x = run read_rule end (u ∷ s ∷ done) (read_factors levels ∷ read_terms levels ∷ way 0 ∷ more_items levels ∷ way 1 ∷ rest ∷ way 0 ∷ K) us in
        let is : u.kind ≡ SYSTEM_CLUSTERING_DEPTH = eqb-true u.kind SYSTEM_CLUSTERING_DEPTH e in
        run_left read_rule tests end (s ∷ done) depth_way item_way K u us refl (yes_first end SYSTEM_CLUSTERING_DEPTH u.kind (one OPEN ▸ depth_end ∣ depth_name) e)
        ∙ word_item end SYSTEM_CLUSTERING_DEPTH depth_end depth_name (s ∷ done) K u us e next
        ∙ run_both read_rule tests end (u ∷ s ∷ done) (Note select_name) (way 1 ▸ read_factors levels ▸ read_terms levels ▸ way 0 ▸ items_end levels) K us
        ∙ run_note read_rule tests end (u ∷ s ∷ done) select_name ((way 1 ▸ read_factors levels ▸ read_terms levels ▸ way 0 ▸ items_end levels) ∷ K) us
        ∙ ap (with_marks (At s.place ∷ Said u.text u.place ∷ [])) (
        run_both read_rule tests end (u ∷ s ∷ done) (way 1) (read_factors levels ▸ read_terms levels ▸ way 0 ▸ items_end levels) K us
        ∙ run_note read_rule tests end (u ∷ s ∷ done) (λ d. Way 1 ∷ []) ((read_factors levels ▸ read_terms levels ▸ way 0 ▸ items_end levels) ∷ K) us
        ∙ ap (with_marks (Way 1 ∷ [])) (
        run_both read_rule tests end (u ∷ s ∷ done) (read_factors levels) (read_terms levels ▸ way 0 ▸ items_end levels) K us
        ∙ alike_below end ((read_terms levels ▸ way 0 ▸ items_end levels) ∷ K) (read_terms levels ∷ way 0 ∷ more_items levels ∷ way 1 ∷ rest ∷ way 0 ∷ K) (named_alike K) (read_factors levels ∷ []) (u ∷ s ∷ done) us))
        ∙ with_both (At s.place ∷ Said u.text u.place ∷ []) (Way 1 ∷ []) x
        ∙ sym (with_both (At s.place ∷ []) (Said u.text u.place ∷ Way 1 ∷ []) x)
        ∙ ap (with_marks (At s.place ∷ [])) (sym (
        item_other end nowhere levels (s ∷ done) (more_items levels ∷ way 1 ∷ rest ∷ way 0 ∷ K) u us (no_aggregate u.kind is)
        ∙ word_expr end levels SYSTEM_CLUSTERING_DEPTH depth_is_plain (s ∷ done) (way 0 ∷ more_items levels ∷ way 1 ∷ rest ∷ way 0 ∷ K) u us is))

    item_runs : (u : Lexeme) (us : List Lexeme) → (u.kind == SYSTEM_CLUSTERING_DEPTH) ≡ false → run read_rule end (s ∷ done) ((depth_way ∣ item_way) ∷ K) (u ∷ us) ≡ with_marks (At s.place ∷ []) (run read_rule end (s ∷ done) (read_item nowhere levels ∷ more_items levels ∷ way 1 ∷ rest ∷ way 0 ∷ K) (u ∷ us))
    unfolding guarded empty
    item_runs u us e =
        run_right read_rule tests end (s ∷ done) depth_way item_way K u us refl refl (no_first end SYSTEM_CLUSTERING_DEPTH u.kind (one OPEN ▸ depth_end ∣ depth_name) e)
        ∙ run_both read_rule tests end (s ∷ done) (Note as_place) (read_item is_depth levels ▸ items_end levels) K (u ∷ us)
        ∙ run_note read_rule tests end (s ∷ done) as_place ((read_item is_depth levels ▸ items_end levels) ∷ K) (u ∷ us)
        ∙ ap (with_marks (At s.place ∷ [])) (
        run_both read_rule tests end (s ∷ done) (read_item is_depth levels) (items_end levels) K (u ∷ us)
        ∙ item_but end is_depth levels (s ∷ done) (items_end levels ∷ K) u us e
        ∙ alike_below end (items_end levels ∷ K) (more_items levels ∷ way 1 ∷ rest ∷ way 0 ∷ K) (items_alike K) (read_item nowhere levels ∷ []) (s ∷ done) (u ∷ us))

    behind_select : (ts : List Lexeme) → begins_with (STAR ∷ FROM ∷ INFORMATION_SCHEMA ∷ DOT ∷ []) ts ≡ false → begins_with (SYSTEM_CLUSTERING_DEPTH ∷ OPEN ∷ []) ts ≡ false → run read_rule end (s ∷ done) ((star_way ∣ depth_way ∣ item_way) ∷ K) ts ≡ with_marks (At s.place ∷ []) (run read_rule end (s ∷ done) (selection ∷ rest ∷ way 0 ∷ K) ts)
    unfolding guarded empty
    behind_select [] v d = run_end read_rule tests end (s ∷ done) (star_way ∣ depth_way ∣ item_way) K some_token ∙ sym (ap (with_marks (At s.place ∷ [])) (run_end read_rule tests end (s ∷ done) selection (rest ∷ way 0 ∷ K) some_item))
    behind_select (u ∷ us) v d = by_star (u.kind == STAR) refl (u.kind == SYSTEM_CLUSTERING_DEPTH) refl
      where
        skip_star : (u : Lexeme) (us : List Lexeme) → (u.kind == STAR) ≡ false → run read_rule end (s ∷ done) ((star_way ∣ depth_way ∣ item_way) ∷ K) (u ∷ us) ≡ run read_rule end (s ∷ done) ((depth_way ∣ item_way) ∷ K) (u ∷ us)
        skip_star u us e = run_right read_rule tests end (s ∷ done) star_way (depth_way ∣ item_way) K u us refl refl (no_first end STAR u.kind (one FROM ▸ (view ∣ other_name)) e)

        by_star : (b : Bool) → (u.kind == STAR) ≡ b → (c : Bool) → (u.kind == SYSTEM_CLUSTERING_DEPTH) ≡ c → run read_rule end (s ∷ done) ((star_way ∣ depth_way ∣ item_way) ∷ K) (u ∷ us) ≡ with_marks (At s.place ∷ []) (run read_rule end (s ∷ done) (selection ∷ rest ∷ way 0 ∷ K) (u ∷ us))
        by_star true p c q = star_select u us p ∙ star_runs u us p (and_rest (u.kind == STAR) (begins_with (FROM ∷ INFORMATION_SCHEMA ∷ DOT ∷ []) us) v p) ∙ ap (with_marks (At s.place ∷ [])) (sym (star_query u us p))
        by_star false p true q = skip_star u us p ∙ depth_runs u us q (next_is_not OPEN us (and_rest (u.kind == SYSTEM_CLUSTERING_DEPTH) (begins_with (OPEN ∷ []) us) d q)) ∙ ap (with_marks (At s.place ∷ [])) (sym (other_runs u us p))
        by_star false p false q = skip_star u us p ∙ item_runs u us q ∙ ap (with_marks (At s.place ∷ [])) (sym (other_runs u us p))

  -- A statement that begins with SELECT is a query, unless the words of the view of storage follow up to the dot, or
  -- the word of the depth with a bracket.
  pub select_is_query : (done : List Lexeme) (K : List Gram) (ts : List Lexeme) → begins_with (SELECT ∷ STAR ∷ FROM ∷ INFORMATION_SCHEMA ∷ DOT ∷ []) ts ≡ false → begins_with (SELECT ∷ SYSTEM_CLUSTERING_DEPTH ∷ OPEN ∷ []) ts ≡ false → run read_rule end done (read_select levels ∷ K) ts ≡ run read_rule end done (read_query levels ∷ way 0 ∷ K) ts
  unfolding guarded empty
  select_is_query done K [] v d = run_end read_rule tests end done (read_select levels) K refl ∙ sym (run_end read_rule tests end done (read_query levels) (way 0 ∷ K) refl)
  select_is_query done K (s ∷ ts) v d = by_select (s.kind == SELECT) refl
    where
      by_select : (b : Bool) → (s.kind == SELECT) ≡ b → run read_rule end done (read_select levels ∷ K) (s ∷ ts) ≡ run read_rule end done (read_query levels ∷ way 0 ∷ K) (s ∷ ts)
      by_select true e =
          run_both read_rule tests end done (one SELECT) (star_way ∣ depth_way ∣ item_way) K (s ∷ ts)
          ∙ run_tok read_rule tests end done SELECT nowhere ((star_way ∣ depth_way ∣ item_way) ∷ K) s ts (or_first (s.kind == SELECT) (nowhere s.kind) e)
          ∙ behind_select done K s ts (and_rest (s.kind == SELECT) (begins_with (STAR ∷ FROM ∷ INFORMATION_SCHEMA ∷ DOT ∷ []) ts) v e) (and_rest (s.kind == SELECT) (begins_with (SYSTEM_CLUSTERING_DEPTH ∷ OPEN ∷ []) ts) d e)
          ∙ sym (run_both read_rule tests end done (placed SELECT) (selection ▸ rest) (way 0 ∷ K) (s ∷ ts)
          ∙ run_both read_rule tests end done (one SELECT) (Note as_place) ((selection ▸ rest) ∷ way 0 ∷ K) (s ∷ ts)
          ∙ run_tok read_rule tests end done SELECT nowhere (Note as_place ∷ (selection ▸ rest) ∷ way 0 ∷ K) s ts (or_first (s.kind == SELECT) (nowhere s.kind) e)
          ∙ run_note read_rule tests end (s ∷ done) as_place ((selection ▸ rest) ∷ way 0 ∷ K) ts
          ∙ ap (with_marks (At s.place ∷ [])) (run_both read_rule tests end (s ∷ done) selection rest (way 0 ∷ K) ts))
      by_select false e =
          run_stuck read_rule tests end done (read_select levels) K s ts refl refl (no_select s.kind e).0
          ∙ sym (run_stuck read_rule tests end done (read_query levels) (way 0 ∷ K) s ts refl refl (no_select s.kind e).1)
