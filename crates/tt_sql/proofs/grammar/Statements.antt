-- Statements as written and as read spell the same.
use Rattle.std.proofs.Common.{◌≡◌, ℕ, ◌<◌, Bool, true, false, ◌==◌, ◌⊎◌, inl, inr, ⊎_elim, List, [], ◌∷◌, length, refl, sym, ap, subst, arith}
use Rattle.tt_sql.specs.grammar.Grammar.{Lexeme, Mark, Way, At, Said, Rule, Expr, Predicate, Gram, Many, Again, is_of, Spells, token, note, both, left, right, again, nowhere}
use Rattle.tt_sql.proofs.machine.Decisions.{empty}
use Rattle.tt_sql.proofs.grammar.Fronts.{false≢true, or_first}
use Rattle.tt_sql.proofs.grammar.Carries.{Carries, Lax, Strict, plain, to_lax, strict_second, lax_both, lax_either, lax_many, same, open_both, shut_both, none_in_front, one_in_front, split}
use Rattle.tt_sql.proofs.grammar.Expressions.{IsWord, name_back, expr_there, expr_back, but_is_name, name_is_but}
use Rattle.tt_sql.proofs.grammar.Predicates.{pred_there, pred_back}
use Rattle.tt_sql.proofs.grammar.Queries.{more_factors, more_terms, factors_there, factors_back, terms_there, terms_back, item_there, item_back, aggregate_is_name}
use Rattle.tt_sql.specs.grammar.TokenKinds.{WHERE, GROUP, BY, ORDER, LIMIT, SELECT, FROM, NAME, COMMA, STAR, EQUAL, SET, UPDATE, DELETE, INSERT, INTO, VALUES, CLONE, EXPLAIN, INFORMATION_SCHEMA, SYSTEM_CLUSTERING_DEPTH, is_name}
use Rattle.tt_sql.specs.grammar.Combinators.{◌▸◌, ◌∣◌, way, one, placed, name, number, maybe, brackets, listed}
use Rattle.tt_sql.specs.grammar.Written.{expr, pred, item, key, clause, no_more, query_end, query, tuple, insert, update, delete, copy, column, options, create_front, drop_table, undrop, truncate, alter, begin, commit, rollback, wait, show, metrics, depth, statement, written_rule}
use Rattle.tt_sql.specs.machine.Factored.{read_factors, read_terms, read_item, more_items, read_query_end, read_query, is_information, is_depth, items_end, read_select, read_insert, read_update, read_delete, read_create, read_statement, read_rule}

-- ---- parts of statements, in either direction

module _ (rule other : Rule → ℕ → Gram) (lifted : Bool) where
  lax_maybe : (g h : Gram) → Lax rule other lifted g h → Lax rule other lifted (maybe g) (maybe h)
  unfolding plain
  lax_maybe g h l = lax_either rule other lifted (g ▸ way 1) (way 0) (h ▸ way 1) (way 0) (lax_both rule other lifted g (way 1) h (way 1) l (same rule other lifted (way 1) refl).0) (same rule other lifted (way 0) refl).0

  -- a plain part in front
  lax_after : (f g h : Gram) → plain f ≡ true → Lax rule other lifted g h → Lax rule other lifted (f ▸ g) (f ▸ h)
  lax_after f g h p l = lax_both rule other lifted f g f h (same rule other lifted f p).0 l

  -- a plain part behind
  lax_before : (f g h : Gram) → plain f ≡ true → Lax rule other lifted g h → Lax rule other lifted (g ▸ f) (h ▸ f)
  lax_before f g h p l = lax_both rule other lifted g f h f l (same rule other lifted f p).0

  abbrev where_end : Gram → Gram
  where_end p = maybe (one WHERE ▸ p)

  lax_where : (p q : Gram) → Lax rule other lifted p q → Lax rule other lifted (where_end p) (where_end q)
  unfolding plain
  lax_where p q l = lax_maybe (one WHERE ▸ p) (one WHERE ▸ q) (lax_after (one WHERE) p q refl l)

  abbrev behind_where : Gram
  behind_where = maybe (one GROUP ▸ one BY ▸ listed name) ▸ maybe (one ORDER ▸ one BY ▸ listed key) ▸ maybe (one LIMIT ▸ number)

  lax_query_end : (p q : Gram) → Lax rule other lifted p q → Lax rule other lifted (maybe clause ▸ no_more ▸ where_end p ▸ behind_where) (maybe clause ▸ no_more ▸ where_end q ▸ behind_where)
  unfolding plain empty
  lax_query_end p q l =
      lax_after (maybe clause) (no_more ▸ where_end p ▸ behind_where) (no_more ▸ where_end q ▸ behind_where) refl
      (lax_after no_more (where_end p ▸ behind_where) (where_end q ▸ behind_where) refl (lax_before behind_where (where_end p) (where_end q) refl (lax_where p q l)))

  lax_query : (i j p q : Gram) → Strict rule other lifted i j → Lax rule other lifted p q → Lax rule other lifted (placed SELECT ▸ (placed STAR ▸ way 0 ∣ listed i ▸ way 1) ▸ one FROM ▸ name ▸ p) (placed SELECT ▸ (placed STAR ▸ way 0 ∣ listed j ▸ way 1) ▸ one FROM ▸ name ▸ q)
  unfolding plain empty
  lax_query i j p q s l =
      lax_after (placed SELECT) ((placed STAR ▸ way 0 ∣ listed i ▸ way 1) ▸ one FROM ▸ name ▸ p) ((placed STAR ▸ way 0 ∣ listed j ▸ way 1) ▸ one FROM ▸ name ▸ q) refl
      (lax_both rule other lifted (placed STAR ▸ way 0 ∣ listed i ▸ way 1) (one FROM ▸ name ▸ p) (placed STAR ▸ way 0 ∣ listed j ▸ way 1) (one FROM ▸ name ▸ q)
      (lax_either rule other lifted (placed STAR ▸ way 0) (listed i ▸ way 1) (placed STAR ▸ way 0) (listed j ▸ way 1) (same rule other lifted (placed STAR ▸ way 0) refl).0
      (lax_before (way 1) (listed i) (listed j) refl (lax_listed i j s)))
      (lax_after (one FROM) (name ▸ p) (name ▸ q) refl (lax_after name p q refl l)))
    where
      lax_listed : (i j : Gram) → Strict rule other lifted i j → Lax rule other lifted (listed i) (listed j)
      lax_listed i j s = lax_both rule other lifted i (Many (one COMMA ▸ i)) j (Many (one COMMA ▸ j)) (to_lax rule other lifted i j s) (lax_many rule other lifted (one COMMA ▸ i) (one COMMA ▸ j) (strict_second rule other lifted (one COMMA) i (one COMMA) j (same rule other lifted (one COMMA) refl).0 s))

  lax_more : (i j : Gram) → Strict rule other lifted i j → Lax rule other lifted (Many (one COMMA ▸ i)) (Many (one COMMA ▸ j))
  unfolding plain empty
  lax_more i j s = lax_many rule other lifted (one COMMA ▸ i) (one COMMA ▸ j) (strict_second rule other lifted (one COMMA) i (one COMMA) j (same rule other lifted (one COMMA) refl).0 s)

  lax_set : (p q : Gram) → Strict rule other lifted p q → Strict rule other lifted (name ▸ one EQUAL ▸ p) (name ▸ one EQUAL ▸ q)
  unfolding plain empty
  lax_set p q s = strict_second rule other lifted name (one EQUAL ▸ p) name (one EQUAL ▸ q) (same rule other lifted name refl).0 (strict_second rule other lifted (one EQUAL) p (one EQUAL) q (same rule other lifted (one EQUAL) refl).0 s)

  lax_update : (e f p q : Gram) → Strict rule other lifted e f → Lax rule other lifted p q → Lax rule other lifted (one UPDATE ▸ name ▸ one SET ▸ listed (name ▸ one EQUAL ▸ e) ▸ where_end p) (one UPDATE ▸ name ▸ one SET ▸ listed (name ▸ one EQUAL ▸ f) ▸ where_end q)
  unfolding plain empty
  lax_update e f p q s l =
      let a = name ▸ one EQUAL ▸ e in
      let b = name ▸ one EQUAL ▸ f in
      lax_after (one UPDATE) (name ▸ one SET ▸ listed a ▸ where_end p) (name ▸ one SET ▸ listed b ▸ where_end q) refl
      (lax_after name (one SET ▸ listed a ▸ where_end p) (one SET ▸ listed b ▸ where_end q) refl
      (lax_after (one SET) (listed a ▸ where_end p) (listed b ▸ where_end q) refl
      (lax_both rule other lifted (listed a) (where_end p) (listed b) (where_end q)
      (lax_both rule other lifted a (Many (one COMMA ▸ a)) b (Many (one COMMA ▸ b)) (to_lax rule other lifted a b (lax_set e f s)) (lax_more a b (lax_set e f s)))
      (lax_where p q l))))

  lax_delete : (p q : Gram) → Lax rule other lifted p q → Lax rule other lifted (one DELETE ▸ one FROM ▸ name ▸ where_end p) (one DELETE ▸ one FROM ▸ name ▸ where_end q)
  unfolding plain empty
  lax_delete p q l = lax_after (one DELETE) (one FROM ▸ name ▸ where_end p) (one FROM ▸ name ▸ where_end q) refl (lax_after (one FROM) (name ▸ where_end p) (name ▸ where_end q) refl (lax_after name (where_end p) (where_end q) refl (lax_where p q l)))

  lax_insert : (p q : Gram) → Lax rule other lifted p q → Lax rule other lifted (one INSERT ▸ one INTO ▸ name ▸ maybe (brackets (listed name)) ▸ (one VALUES ▸ listed tuple ▸ way 0 ∣ p ▸ way 1)) (one INSERT ▸ one INTO ▸ name ▸ maybe (brackets (listed name)) ▸ (one VALUES ▸ listed tuple ▸ way 0 ∣ q ▸ way 1))
  unfolding plain empty
  lax_insert p q l =
      let v = one VALUES ▸ listed tuple ▸ way 0 in
      let c = maybe (brackets (listed name)) in
      lax_after (one INSERT) (one INTO ▸ name ▸ c ▸ (v ∣ p ▸ way 1)) (one INTO ▸ name ▸ c ▸ (v ∣ q ▸ way 1)) refl
      (lax_after (one INTO) (name ▸ c ▸ (v ∣ p ▸ way 1)) (name ▸ c ▸ (v ∣ q ▸ way 1)) refl
      (lax_after name (c ▸ (v ∣ p ▸ way 1)) (c ▸ (v ∣ q ▸ way 1)) refl
      (lax_after c (v ∣ p ▸ way 1) (v ∣ q ▸ way 1) refl
      (lax_either rule other lifted v (p ▸ way 1) v (q ▸ way 1) (same rule other lifted v refl).0 (lax_before (way 1) p q refl l)))))

-- ---- from written to read

module _ (lifted : Bool) (levels : ℕ) where
  pred_again : Lax written_rule read_rule lifted (pred levels) (Again Predicate levels)
  pred_again n K L c done m ts less d = again (to_lax written_rule read_rule lifted (pred levels) (read_rule Predicate levels) (pred_there lifted levels) n K L c done m ts less d)

  pred_open : Lax read_rule written_rule lifted (Again Predicate levels) (pred levels)
  pred_open n L K c done m ts less (again d) = to_lax read_rule written_rule lifted (read_rule Predicate levels) (pred levels) (pred_back lifted levels) n L K c done m ts less d

  expr_again : Strict written_rule read_rule lifted (expr levels) (Again Expr levels)
  expr_again n K L c done m ts less d = again (expr_there lifted levels n K L c done m ts less d)

  expr_open : Strict read_rule written_rule lifted (Again Expr levels) (expr levels)
  expr_open n L K c done m ts less (again d) = expr_back lifted levels n L K c done m ts less d

  item_strict : Strict written_rule read_rule lifted (item levels) (read_item nowhere levels)
  item_strict n K L c done m ts less d = ⊎_elim (λ w. absurd (false≢true w.known)) (λ x. x) (item_there lifted nowhere levels n K L c done m ts less d)

  item_strict_back : Strict read_rule written_rule lifted (read_item nowhere levels) (item levels)
  item_strict_back n L K c done m ts less d = item_back lifted nowhere levels n K L c done m ts less d

  end_there : Lax written_rule read_rule lifted (query_end levels) (read_query_end levels)
  end_there = lax_query_end written_rule read_rule lifted (pred levels) (Again Predicate levels) pred_again

  end_open : Lax read_rule written_rule lifted (read_query_end levels) (query_end levels)
  end_open = lax_query_end read_rule written_rule lifted (Again Predicate levels) (pred levels) pred_open

  query_there : Lax written_rule read_rule lifted (query levels) (read_query levels)
  query_there = lax_query written_rule read_rule lifted (item levels) (read_item nowhere levels) (query_end levels) (read_query_end levels) item_strict end_there

  query_back : Lax read_rule written_rule lifted (read_query levels) (query levels)
  query_back = lax_query read_rule written_rule lifted (read_item nowhere levels) (item levels) (read_query_end levels) (query_end levels) item_strict_back end_open

  -- what stands behind the items of a query that is a statement
  abbrev written_from : Gram
  written_from = one FROM ▸ name ▸ query_end levels

  abbrev written_more : Gram
  written_more = Many (one COMMA ▸ item levels)

  module _ (n : ℕ) (K L : List Gram) where
    abbrev written_rest : List Gram
    written_rest = written_more ∷ way 1 ∷ written_from ∷ way 0 ∷ K

    last_there : Carries written_rule read_rule lifted n K L → Carries written_rule read_rule lifted n (query_end levels ∷ way 0 ∷ K) (read_query_end levels ∷ way 0 ∷ L)
    unfolding plain
    last_there c = end_there n (way 0 ∷ K) (way 0 ∷ L) ((same written_rule read_rule lifted (way 0) refl).0 n K L c)

    last_back : Carries read_rule written_rule lifted n L K → Carries read_rule written_rule lifted n (read_query_end levels ∷ way 0 ∷ L) (query_end levels ∷ way 0 ∷ K)
    unfolding plain
    last_back c = end_open n (way 0 ∷ L) (way 0 ∷ K) ((same read_rule written_rule lifted (way 0) refl).0 n L K c)

    from_there : Carries written_rule read_rule lifted n K L → Carries written_rule read_rule lifted n (written_from ∷ way 0 ∷ K) ((one FROM ▸ name ▸ read_query_end levels ▸ way 0) ∷ L)
    from_there c done m ts less (both (token {t = t} e (both (both (token {t = u} {ts = us} f (note {m = o} d)))))) = both (token e (both (both (token f (note (both (last_there c (u ∷ t ∷ done) o us (omega arith) d)))))))

    from_back : Carries read_rule written_rule lifted n L K → Carries read_rule written_rule lifted n ((one FROM ▸ name ▸ read_query_end levels ▸ way 0) ∷ L) (written_from ∷ way 0 ∷ K)
    from_back c done m ts less (both (token {t = t} e (both (both (token {t = u} {ts = us} f (note (both {m = o} d))))))) = both (token e (both (both (token f (note (last_back c (u ∷ t ∷ done) o us (omega arith) d))))))

    abbrev read_from : Gram
    read_from = one FROM ▸ name ▸ read_query_end levels ▸ way 0

    rest_there : Carries written_rule read_rule lifted n K L → Carries written_rule read_rule lifted n written_rest (items_end levels ∷ L)
    unfolding plain
    rest_there c =
        shut_both written_rule read_rule lifted n (more_items levels) (way 1 ▸ read_from) written_rest L
        (lax_more written_rule read_rule lifted (item levels) (read_item nowhere levels) item_strict n (way 1 ∷ written_from ∷ way 0 ∷ K) ((way 1 ▸ read_from) ∷ L)
        (shut_both written_rule read_rule lifted n (way 1) read_from (way 1 ∷ written_from ∷ way 0 ∷ K) L
        ((same written_rule read_rule lifted (way 1) refl).0 n (written_from ∷ way 0 ∷ K) (read_from ∷ L) (from_there c))))

    rest_back : Carries read_rule written_rule lifted n L K → Carries read_rule written_rule lifted n (items_end levels ∷ L) written_rest
    unfolding plain
    rest_back c =
        open_both read_rule written_rule lifted n (more_items levels) (way 1 ▸ read_from) L written_rest
        (lax_more read_rule written_rule lifted (read_item nowhere levels) (item levels) item_strict_back n ((way 1 ▸ read_from) ∷ L) (way 1 ∷ written_from ∷ way 0 ∷ K)
        (open_both read_rule written_rule lifted n (way 1) read_from L (way 1 ∷ written_from ∷ way 0 ∷ K)
        ((same read_rule written_rule lifted (way 1) refl).0 n (read_from ∷ L) (written_from ∷ way 0 ∷ K) (from_back c))))

    -- a first item that begins with a name, from the name on
    named_there : Carries written_rule read_rule lifted n K L → Carries written_rule read_rule lifted n (more_factors levels ∷ more_terms levels ∷ way 0 ∷ written_rest) (read_factors levels ∷ (read_terms levels ▸ way 0 ▸ items_end levels) ∷ L)
    unfolding plain
    named_there c =
        factors_there lifted levels n (more_terms levels ∷ way 0 ∷ written_rest) ((read_terms levels ▸ way 0 ▸ items_end levels) ∷ L)
        (shut_both written_rule read_rule lifted n (read_terms levels) (way 0 ▸ items_end levels) (more_terms levels ∷ way 0 ∷ written_rest) L
        (terms_there lifted levels n (way 0 ∷ written_rest) ((way 0 ▸ items_end levels) ∷ L)
        (shut_both written_rule read_rule lifted n (way 0) (items_end levels) (way 0 ∷ written_rest) L
        ((same written_rule read_rule lifted (way 0) refl).0 n written_rest (items_end levels ∷ L) (rest_there c)))))

    named_open : Carries read_rule written_rule lifted n L K → Carries read_rule written_rule lifted n (read_factors levels ∷ (read_terms levels ▸ way 0 ▸ items_end levels) ∷ L) (more_factors levels ∷ more_terms levels ∷ way 0 ∷ written_rest)
    unfolding plain
    named_open c =
        factors_back lifted levels n ((read_terms levels ▸ way 0 ▸ items_end levels) ∷ L) (more_terms levels ∷ way 0 ∷ written_rest)
        (open_both read_rule written_rule lifted n (read_terms levels) (way 0 ▸ items_end levels) L (more_terms levels ∷ way 0 ∷ written_rest)
        (terms_back lifted levels n ((way 0 ▸ items_end levels) ∷ L) (way 0 ∷ written_rest)
        (open_both read_rule written_rule lifted n (way 0) (items_end levels) L (way 0 ∷ written_rest)
        ((same read_rule written_rule lifted (way 0) refl).0 n (items_end levels ∷ L) written_rest (rest_back c)))))

    -- ---- SELECT

    star_there : (done : List Lexeme) (t u v w : Lexeme) (o : List Mark) (us : List Lexeme) → is_of SELECT nowhere t.kind ≡ true → is_of STAR nowhere u.kind ≡ true → is_of FROM nowhere v.kind ≡ true → is_of NAME is_name w.kind ≡ true → Spells read_rule lifted (w ∷ v ∷ u ∷ t ∷ done) (read_query_end levels ∷ way 0 ∷ L) o us → (b : Bool) → is_information w.kind ≡ b → Spells read_rule lifted done (read_select levels ∷ L) (At t.place ∷ At u.place ∷ Way 0 ∷ Said w.text w.place ∷ o) (t ∷ u ∷ v ∷ w ∷ us)
    star_there done t u v w o us e1 e2 e3 e4 d true h = both (token e1 (left (both (token e2 (both (token e3 (left (both (token (or_first (w.kind == INFORMATION_SCHEMA) (nowhere w.kind) h) (right (both (note (both d)))))))))))))
    star_there done t u v w o us e1 e2 e3 e4 d false h = both (token e1 (left (both (token e2 (both (token e3 (right (both (token (name_is_but is_information w.kind e4 h) (both (note (both d))))))))))))

    first_there : Carries written_rule read_rule lifted n K L → (done : List Lexeme) (t : Lexeme) (o : List Mark) (us : List Lexeme) → length us < n → is_of SELECT nowhere t.kind ≡ true → IsWord lifted is_depth (more_factors levels ∷ more_terms levels ∷ way 0 ∷ written_rest) (t ∷ done) o us ⊎ Spells read_rule lifted (t ∷ done) (read_item is_depth levels ∷ items_end levels ∷ L) o us → Spells read_rule lifted done (read_select levels ∷ L) (At t.place ∷ o) (t ∷ us)
    first_there c done t o us less e (inl w) = subst (λ x. Spells read_rule lifted done (read_select levels ∷ L) (At t.place ∷ x) (t ∷ us)) (sym w.marks) (subst (λ x. Spells read_rule lifted done (read_select levels ∷ L) (At t.place ∷ Said w.word.text w.word.place ∷ Way 1 ∷ w.later) (t ∷ x)) (sym w.tokens)
        (both (token e (right (left (both (token (or_first (w.word.kind == SYSTEM_CLUSTERING_DEPTH) (nowhere w.word.kind) w.known) (right (both (note (both (note (both (named_there c (w.word ∷ t ∷ done) w.later w.rest (omega (arith, less, ap length w.tokens)) w.behind))))))))))))))
    first_there c done t o us less e (inr d) = both (token e (right (right (both (note (both d))))))

    select_there : Carries written_rule read_rule lifted n K L → (done : List Lexeme) (m : List Mark) (ts : List Lexeme) → length ts < n → Spells written_rule lifted done (query levels ∷ way 0 ∷ K) m ts → Spells read_rule lifted done (read_select levels ∷ L) m ts
    select_there c done m ts less (both (both (token {t = t} e1 (note (both (left (both (both (token {t = u} e2 (note (note (both (token {t = v} e3 (both (both (token {t = w} {ts = us} e4 (note {m = o} d))))))))))))))))) = star_there done t u v w o us e1 e2 e3 e4 (last_there c (w ∷ v ∷ u ∷ t ∷ done) o us (omega arith) d) (is_information w.kind) refl
    select_there c done m ts less (both (both (token {t = t} {ts = us} e (note {m = o} (both (right (both (both d)))))))) = first_there c done t o us (omega arith) e (item_there lifted is_depth levels n written_rest (items_end levels ∷ L) (rest_there c) (t ∷ done) o us (omega arith) d)

    metrics_there : Carries written_rule read_rule lifted n K L → (done : List Lexeme) (m : List Mark) (ts : List Lexeme) → length ts < n → Spells written_rule lifted done (metrics ∷ way 17 ∷ K) m ts → Spells read_rule lifted done (read_select levels ∷ L) m ts
    metrics_there c done m ts less (both (token {t = t} e1 (both (token {t = u} e2 (both (token {t = v} e3 (both (token {t = w} e4 (both (token {t = x} e5 (token {t = y} {ts = us} e6 (note {m = o} d)))))))))))) = both (token e1 (left (both (token e2 (both (token e3 (left (both (token e4 (left (both (token e5 (both (token e6 (note (c (y ∷ x ∷ w ∷ v ∷ u ∷ t ∷ done) o us (omega arith) d))))))))))))))))

    depth_there : Carries written_rule read_rule lifted n K L → (done : List Lexeme) (m : List Mark) (ts : List Lexeme) → length ts < n → Spells written_rule lifted done (depth ∷ way 18 ∷ K) m ts → Spells read_rule lifted done (read_select levels ∷ L) m ts
    depth_there c done m ts less (both (token {t = t} e1 (both (token {t = u} e2 (both (token {t = v} e3 (both (both (token {t = w} e4 (note (token {t = x} {ts = us} e5 (note {m = o} d)))))))))))) = both (token e1 (right (left (both (token e2 (left (both (token e3 (both (both (token e4 (note (both (token e5 (note (c (x ∷ w ∷ v ∷ u ∷ t ∷ done) o us (omega arith) d))))))))))))))))

    star_open : (done : List Lexeme) (t u v w : Lexeme) (o : List Mark) (us : List Lexeme) → is_of SELECT nowhere t.kind ≡ true → is_of STAR nowhere u.kind ≡ true → is_of FROM nowhere v.kind ≡ true → is_of NAME is_name w.kind ≡ true → Spells written_rule lifted (w ∷ v ∷ u ∷ t ∷ done) (query_end levels ∷ way 0 ∷ K) o us → Spells written_rule lifted done (statement levels ∷ K) (At t.place ∷ At u.place ∷ Way 0 ∷ Said w.text w.place ∷ o) (t ∷ u ∷ v ∷ w ∷ us)
    star_open done t u v w o us e1 e2 e3 e4 d = left (both (both (both (token e1 (note (both (left (both (both (token e2 (note (note (both (token e3 (both (both (token e4 (note d))))))))))))))))))

    select_back : Carries read_rule written_rule lifted n L K → (done : List Lexeme) (m : List Mark) (ts : List Lexeme) → length ts < n → Spells read_rule lifted done (read_select levels ∷ L) m ts → Spells written_rule lifted done (statement levels ∷ K) m ts
    select_back c done m ts less (both (token {t = t} e1 (left (both (token {t = u} e2 (both (token {t = v} e3 (left (both (token {t = w} e4 (left (both (token {t = x} e5 (both (token {t = y} {ts = us} e6 (note {m = o} d)))))))))))))))) = right (right (right (right (right (right (right (right (right (right (right (right (right (right (right (right (right (left (both (both (token e1 (both (token e2 (both (token e3 (both (token e4 (both (token e5 (token e6 (note (c (y ∷ x ∷ w ∷ v ∷ u ∷ t ∷ done) o us (omega arith) d)))))))))))))))))))))))))))))))
    select_back c done m ts less (both (token {t = t} e1 (left (both (token {t = u} e2 (both (token {t = v} e3 (left (both (token {t = w} {ts = us} e4 (right (both (note (both {m = o} d)))))))))))))) = star_open done t u v w o us e1 e2 e3 (aggregate_is_name lifted nowhere levels INFORMATION_SCHEMA w.kind refl e4) (last_back c (w ∷ v ∷ u ∷ t ∷ done) o us (omega arith) d)
    select_back c done m ts less (both (token {t = t} e1 (left (both (token {t = u} e2 (both (token {t = v} e3 (right (both (token {t = w} {ts = us} e4 (both (note (both {m = o} d))))))))))))) = star_open done t u v w o us e1 e2 e3 (but_is_name is_information w.kind e4) (last_back c (w ∷ v ∷ u ∷ t ∷ done) o us (omega arith) d)
    select_back c done m ts less (both (token {t = t} e1 (right (left (both (token {t = u} e2 (left (both (token {t = v} e3 (both (both (token {t = w} e4 (note (both (token {t = x} {ts = us} e5 (note {m = o} d)))))))))))))))) = right (right (right (right (right (right (right (right (right (right (right (right (right (right (right (right (right (right (both (both (token e1 (both (token e2 (both (token e3 (both (both (token e4 (note (token e5 (note (c (x ∷ w ∷ v ∷ u ∷ t ∷ done) o us (omega arith) d)))))))))))))))))))))))))))))))
    select_back c done m ts less (both (token {t = t} e1 (right (left (both (token {t = u} {ts = us} e2 (right (both (note (both (note {m = o} (both d)))))))))))) = left (both (both (both (token e1 (note (both (right (both (both (left (both (both (both (right (name_back lifted levels (more_factors levels ∷ more_terms levels ∷ way 0 ∷ written_rest) (t ∷ done) u o us (aggregate_is_name lifted nowhere levels SYSTEM_CLUSTERING_DEPTH u.kind refl e2) (named_open c (u ∷ t ∷ done) o us (omega arith) d))))))))))))))))
    select_back c done m ts less (both (token {t = t} {ts = us} e1 (right (right (both (note {m = o} (both d))))))) = left (both (both (both (token e1 (note (both (right (both (both (item_back lifted is_depth levels n written_rest (items_end levels ∷ L) (rest_back c) (t ∷ done) o us (omega arith) d))))))))))

    -- ---- CREATE

    abbrev created : Gram
    created = brackets (listed column) ▸ options

    abbrev cloned : Gram
    cloned = one CLONE ▸ name ▸ maybe clause

    created_there : Carries written_rule read_rule lifted n K L → (done : List Lexeme) (m : List Mark) (ts : List Lexeme) → length ts < n → Spells written_rule lifted done (create_front ∷ created ∷ way 5 ∷ K) m ts → Spells read_rule lifted done (read_create ∷ L) m ts
    unfolding plain empty
    created_there c done m ts less d = both ((same written_rule read_rule lifted create_front refl).0 n (created ∷ way 5 ∷ K) ((brackets (listed column) ▸ options ▸ way 5 ∣ one CLONE ▸ name ▸ maybe clause ▸ way 6) ∷ L) created_way done m ts less d)
      where
        created_way : Carries written_rule read_rule lifted n (created ∷ way 5 ∷ K) ((brackets (listed column) ▸ options ▸ way 5 ∣ one CLONE ▸ name ▸ maybe clause ▸ way 6) ∷ L)
        created_way done m ts less d = left (shut_both written_rule read_rule lifted n (brackets (listed column)) (options ▸ way 5) (created ∷ way 5 ∷ K) L (open_both written_rule read_rule lifted n (brackets (listed column)) options (way 5 ∷ K) (brackets (listed column) ∷ (options ▸ way 5) ∷ L) ((same written_rule read_rule lifted (brackets (listed column)) refl).0 n (options ∷ way 5 ∷ K) ((options ▸ way 5) ∷ L) (shut_both written_rule read_rule lifted n options (way 5) (options ∷ way 5 ∷ K) L ((same written_rule read_rule lifted options refl).0 n (way 5 ∷ K) (way 5 ∷ L) ((same written_rule read_rule lifted (way 5) refl).0 n K L c))))) done m ts less d)

    cloned_there : Carries written_rule read_rule lifted n K L → (done : List Lexeme) (m : List Mark) (ts : List Lexeme) → length ts < n → Spells written_rule lifted done (create_front ∷ cloned ∷ way 6 ∷ K) m ts → Spells read_rule lifted done (read_create ∷ L) m ts
    unfolding plain empty
    cloned_there c done m ts less d = both ((same written_rule read_rule lifted create_front refl).0 n (cloned ∷ way 6 ∷ K) ((brackets (listed column) ▸ options ▸ way 5 ∣ one CLONE ▸ name ▸ maybe clause ▸ way 6) ∷ L) cloned_way done m ts less d)
      where
        cloned_way : Carries written_rule read_rule lifted n (cloned ∷ way 6 ∷ K) ((brackets (listed column) ▸ options ▸ way 5 ∣ one CLONE ▸ name ▸ maybe clause ▸ way 6) ∷ L)
        cloned_way done m ts less (both (token {t = t} e (both (both (token {t = u} {ts = us} f (note {m = o} d)))))) = right (both (token e (both (both (token f (note (both ((same written_rule read_rule lifted (maybe clause) refl).0 n (way 6 ∷ K) (way 6 ∷ L) ((same written_rule read_rule lifted (way 6) refl).0 n K L c) (u ∷ t ∷ done) o us (omega arith) d))))))))

    abbrev created_way5 : Gram
    created_way5 = brackets (listed column) ▸ options ▸ way 5

    abbrev cloned_way6 : Gram
    cloned_way6 = one CLONE ▸ name ▸ maybe clause ▸ way 6

    created_open : Carries read_rule written_rule lifted n L K → Carries read_rule written_rule lifted n (created_way5 ∷ L) (created ∷ way 5 ∷ K)
    unfolding plain empty
    created_open c = open_both read_rule written_rule lifted n (brackets (listed column)) (options ▸ way 5) L (created ∷ way 5 ∷ K) (shut_both read_rule written_rule lifted n (brackets (listed column)) options (brackets (listed column) ∷ (options ▸ way 5) ∷ L) (way 5 ∷ K) ((same read_rule written_rule lifted (brackets (listed column)) refl).0 n ((options ▸ way 5) ∷ L) (options ∷ way 5 ∷ K) (open_both read_rule written_rule lifted n options (way 5) L (options ∷ way 5 ∷ K) ((same read_rule written_rule lifted options refl).0 n (way 5 ∷ L) (way 5 ∷ K) ((same read_rule written_rule lifted (way 5) refl).0 n L K c)))))

    cloned_open : Carries read_rule written_rule lifted n L K → Carries read_rule written_rule lifted n (cloned_way6 ∷ L) (cloned ∷ way 6 ∷ K)
    unfolding plain empty
    cloned_open c done m ts less (both (token {t = t} e (both (both (token {t = u} {ts = us} f (note (both {m = o} d))))))) = both (token e (both (both (token f (note ((same read_rule written_rule lifted (maybe clause) refl).0 n (way 6 ∷ L) (way 6 ∷ K) ((same read_rule written_rule lifted (way 6) refl).0 n L K c) (u ∷ t ∷ done) o us (omega arith) d))))))

    create_chosen : Carries read_rule written_rule lifted n L K → (front done : List Lexeme) (m later : List Mark) (ts rest : List Lexeme) → length ts < n → ((J : List Gram) → Spells read_rule lifted front J later rest → Spells read_rule lifted done (create_front ∷ J) m ts) → Spells read_rule lifted front ((created_way5 ∣ cloned_way6) ∷ L) later rest → Spells written_rule lifted done (statement levels ∷ K) m ts
    unfolding plain empty
    create_chosen c front done m later ts rest less build (left d) = right (right (right (right (right (left (both (both ((same read_rule written_rule lifted create_front refl).0 n (created_way5 ∷ L) (created ∷ way 5 ∷ K) (created_open c) done m ts less (build (created_way5 ∷ L) d)))))))))
    create_chosen c front done m later ts rest less build (right d) = right (right (right (right (right (right (left (both (both ((same read_rule written_rule lifted create_front refl).0 n (cloned_way6 ∷ L) (cloned ∷ way 6 ∷ K) (cloned_open c) done m ts less (build (cloned_way6 ∷ L) d))))))))))

    create_back : Carries read_rule written_rule lifted n L K → (done : List Lexeme) (m : List Mark) (ts : List Lexeme) → length ts < n → Spells read_rule lifted done (read_create ∷ L) m ts → Spells written_rule lifted done (statement levels ∷ K) m ts
    create_back c done m ts less (both d) =
        let r = split read_rule lifted ((created_way5 ∣ cloned_way6) ∷ L) (create_front ∷ []) (one_in_front none_in_front) d in
        create_chosen c r.front done m r.later ts r.rest less r.build r.behind

    -- ---- all of them

    pub statement_there : Carries written_rule read_rule lifted n K L → Carries written_rule read_rule lifted n (statement levels ∷ K) (read_statement levels ∷ L)
    unfolding plain empty
    statement_there c done m ts less (left (both d)) = left (select_there c done m ts less d)
    statement_there c done m ts less (right (left d)) = right (left (lax_before written_rule read_rule lifted (way 1) (insert levels) (read_insert levels) refl (lax_insert written_rule read_rule lifted (query levels) (read_query levels) query_there) n K L c done m ts less d))
    statement_there c done m ts less (right (right (left d))) = right (right (left (lax_before written_rule read_rule lifted (way 2) (update levels) (read_update levels) refl (lax_update written_rule read_rule lifted (expr levels) (Again Expr levels) (pred levels) (Again Predicate levels) expr_again pred_again) n K L c done m ts less d)))
    statement_there c done m ts less (right (right (right (left d)))) = right (right (right (left (lax_before written_rule read_rule lifted (way 3) (delete levels) (read_delete levels) refl (lax_delete written_rule read_rule lifted (pred levels) (Again Predicate levels) pred_again) n K L c done m ts less d))))
    statement_there c done m ts less (right (right (right (right (left d))))) = right (right (right (right (left ((same written_rule read_rule lifted (copy ▸ way 4) refl).0 n K L c done m ts less d)))))
    statement_there c done m ts less (right (right (right (right (right (left (both (both d)))))))) = right (right (right (right (right (left (created_there c done m ts less d))))))
    statement_there c done m ts less (right (right (right (right (right (right (left (both (both d))))))))) = right (right (right (right (right (left (cloned_there c done m ts less d))))))
    statement_there c done m ts less (right (right (right (right (right (right (right (left d)))))))) = right (right (right (right (right (right (left ((same written_rule read_rule lifted (drop_table ▸ way 7) refl).0 n K L c done m ts less d)))))))
    statement_there c done m ts less (right (right (right (right (right (right (right (right (left d))))))))) = right (right (right (right (right (right (right (left ((same written_rule read_rule lifted (undrop ▸ way 8) refl).0 n K L c done m ts less d))))))))
    statement_there c done m ts less (right (right (right (right (right (right (right (right (right (left d)))))))))) = right (right (right (right (right (right (right (right (left ((same written_rule read_rule lifted (truncate ▸ way 9) refl).0 n K L c done m ts less d)))))))))
    statement_there c done m ts less (right (right (right (right (right (right (right (right (right (right (left d))))))))))) = right (right (right (right (right (right (right (right (right (left ((same written_rule read_rule lifted (alter ▸ way 10) refl).0 n K L c done m ts less d))))))))))
    statement_there c done m ts less (right (right (right (right (right (right (right (right (right (right (right (left d)))))))))))) = right (right (right (right (right (right (right (right (right (right (left ((same written_rule read_rule lifted (begin ▸ way 11) refl).0 n K L c done m ts less d)))))))))))
    statement_there c done m ts less (right (right (right (right (right (right (right (right (right (right (right (right (left d))))))))))))) = right (right (right (right (right (right (right (right (right (right (right (left ((same written_rule read_rule lifted (commit ▸ way 12) refl).0 n K L c done m ts less d))))))))))))
    statement_there c done m ts less (right (right (right (right (right (right (right (right (right (right (right (right (right (left d)))))))))))))) = right (right (right (right (right (right (right (right (right (right (right (right (left ((same written_rule read_rule lifted (rollback ▸ way 13) refl).0 n K L c done m ts less d)))))))))))))
    statement_there c done m ts less (right (right (right (right (right (right (right (right (right (right (right (right (right (right (left d))))))))))))))) = right (right (right (right (right (right (right (right (right (right (right (right (right (left ((same written_rule read_rule lifted (wait ▸ way 14) refl).0 n K L c done m ts less d))))))))))))))
    statement_there c done m ts less (right (right (right (right (right (right (right (right (right (right (right (right (right (right (right (left d)))))))))))))))) = right (right (right (right (right (right (right (right (right (right (right (right (right (right (left (lax_before written_rule read_rule lifted (way 15) (one EXPLAIN ▸ query levels) (one EXPLAIN ▸ read_query levels) refl (lax_after written_rule read_rule lifted (one EXPLAIN) (query levels) (read_query levels) refl query_there) n K L c done m ts less d)))))))))))))))
    statement_there c done m ts less (right (right (right (right (right (right (right (right (right (right (right (right (right (right (right (right (left d))))))))))))))))) = right (right (right (right (right (right (right (right (right (right (right (right (right (right (right (((same written_rule read_rule lifted (show ▸ way 16) refl).0 n K L c done m ts less d))))))))))))))))
    statement_there c done m ts less (right (right (right (right (right (right (right (right (right (right (right (right (right (right (right (right (right (left (both d))))))))))))))))))) = left (metrics_there c done m ts less d)
    statement_there c done m ts less (right (right (right (right (right (right (right (right (right (right (right (right (right (right (right (right (right (right (both d))))))))))))))))))) = left (depth_there c done m ts less d)

    pub statement_back : Carries read_rule written_rule lifted n L K → Carries read_rule written_rule lifted n (read_statement levels ∷ L) (statement levels ∷ K)
    unfolding plain empty
    statement_back c done m ts less (left d) = select_back c done m ts less d
    statement_back c done m ts less (right (left d)) = right (left (lax_before read_rule written_rule lifted (way 1) (read_insert levels) (insert levels) refl (lax_insert read_rule written_rule lifted (read_query levels) (query levels) query_back) n L K c done m ts less d))
    statement_back c done m ts less (right (right (left d))) = right (right (left (lax_before read_rule written_rule lifted (way 2) (read_update levels) (update levels) refl (lax_update read_rule written_rule lifted (Again Expr levels) (expr levels) (Again Predicate levels) (pred levels) expr_open pred_open) n L K c done m ts less d)))
    statement_back c done m ts less (right (right (right (left d)))) = right (right (right (left (lax_before read_rule written_rule lifted (way 3) (read_delete levels) (delete levels) refl (lax_delete read_rule written_rule lifted (Again Predicate levels) (pred levels) pred_open) n L K c done m ts less d))))
    statement_back c done m ts less (right (right (right (right (left d))))) = right (right (right (right (left ((same read_rule written_rule lifted (copy ▸ way 4) refl).0 n L K c done m ts less d)))))
    statement_back c done m ts less (right (right (right (right (right (left d)))))) = create_back c done m ts less d
    statement_back c done m ts less (right (right (right (right (right (right (left d))))))) = right (right (right (right (right (right (right (left ((same read_rule written_rule lifted (drop_table ▸ way 7) refl).0 n L K c done m ts less d))))))))
    statement_back c done m ts less (right (right (right (right (right (right (right (left d)))))))) = right (right (right (right (right (right (right (right (left ((same read_rule written_rule lifted (undrop ▸ way 8) refl).0 n L K c done m ts less d)))))))))
    statement_back c done m ts less (right (right (right (right (right (right (right (right (left d))))))))) = right (right (right (right (right (right (right (right (right (left ((same read_rule written_rule lifted (truncate ▸ way 9) refl).0 n L K c done m ts less d))))))))))
    statement_back c done m ts less (right (right (right (right (right (right (right (right (right (left d)))))))))) = right (right (right (right (right (right (right (right (right (right (left ((same read_rule written_rule lifted (alter ▸ way 10) refl).0 n L K c done m ts less d)))))))))))
    statement_back c done m ts less (right (right (right (right (right (right (right (right (right (right (left d))))))))))) = right (right (right (right (right (right (right (right (right (right (right (left ((same read_rule written_rule lifted (begin ▸ way 11) refl).0 n L K c done m ts less d))))))))))))
    statement_back c done m ts less (right (right (right (right (right (right (right (right (right (right (right (left d)))))))))))) = right (right (right (right (right (right (right (right (right (right (right (right (left ((same read_rule written_rule lifted (commit ▸ way 12) refl).0 n L K c done m ts less d)))))))))))))
    statement_back c done m ts less (right (right (right (right (right (right (right (right (right (right (right (right (left d))))))))))))) = right (right (right (right (right (right (right (right (right (right (right (right (right (left ((same read_rule written_rule lifted (rollback ▸ way 13) refl).0 n L K c done m ts less d))))))))))))))
    statement_back c done m ts less (right (right (right (right (right (right (right (right (right (right (right (right (right (left d)))))))))))))) = right (right (right (right (right (right (right (right (right (right (right (right (right (right (left ((same read_rule written_rule lifted (wait ▸ way 14) refl).0 n L K c done m ts less d)))))))))))))))
    statement_back c done m ts less (right (right (right (right (right (right (right (right (right (right (right (right (right (right (left d))))))))))))))) = right (right (right (right (right (right (right (right (right (right (right (right (right (right (right (left (lax_before read_rule written_rule lifted (way 15) (one EXPLAIN ▸ read_query levels) (one EXPLAIN ▸ query levels) refl (lax_after read_rule written_rule lifted (one EXPLAIN) (read_query levels) (query levels) refl query_back) n L K c done m ts less d))))))))))))))))
    statement_back c done m ts less (right (right (right (right (right (right (right (right (right (right (right (right (right (right (right (d)))))))))))))))) = right (right (right (right (right (right (right (right (right (right (right (right (right (right (right (right (left ((same read_rule written_rule lifted (show ▸ way 16) refl).0 n L K c done m ts less d)))))))))))))))))
