-- Tests by which one token decides which way a grammar goes. They are computed from the grammar.
use Rattle.tt_sql.specs.grammar.Written.{begins_other}
use Rattle.tt_sql.specs.grammar.TokenKinds.{WHERE, FROM, GROUP, ORDER, LIMIT, AND, OR, NOT, NULL, OPEN, CLOSE, COMMA, STAR, PLUS, MINUS, kind_count, is_name, is_number, is_quoted}
use Rattle.tt_sql.specs.grammar.Grammar.{Expr, Negated, Predicate, Unit, Rule, Gram, Tok, Deep, Note, Both, Either, Many, Again, is_of}
use Rattle.std.specs.Prelude.{◌≡◌, ℕ, zero, suc, Bool, true, false, not, ◌&&◌, ◌||◌, ◌==◌, List, [], ◌∷◌}

-- ---- sets of kinds

abbrev pub all_below : ℕ → (ℕ → Bool) → Bool
all_below zero test = true
all_below (suc n) test = test n && all_below n test

-- how many kinds there are, and of each production which kinds it may begin with and which may follow it
pub record Tests : Type 0 where
  pub kinds : ℕ
  pub front : Rule → ℕ → Bool
  pub follow : Rule → ℕ → Bool

-- ---- what a part may begin with

-- no token at all
unfoldable pub empty : Gram → Bool
empty (Tok k more) = false
empty (Deep kinds) = false
empty (Note f) = true
empty (Both g h) = empty g && empty h
empty (Either g h) = empty g || empty h
empty (Many g) = true
empty (Again r d) = false

-- a token of this kind
unfoldable pub first : Tests → Gram → ℕ → Bool
first tests (Tok k more) j = is_of k more j
first tests (Deep kinds) j = kinds j
first tests (Note f) j = false
first tests (Both g h) j = first tests g j || (empty g && first tests h j)
first tests (Either g h) j = first tests g j || first tests h j
first tests (Many g) j = first tests g j
first tests (Again r d) j = tests.front r j

-- the same, where what follows may begin so
abbrev pub starts : Tests → (ℕ → Bool) → Gram → ℕ → Bool
starts tests F g j = first tests g j || (empty g && F j)

unfoldable pub firsts : Tests → List Gram → ℕ → Bool
firsts tests [] j = false
firsts tests (g ∷ K) j = starts tests (firsts tests K) g j

-- ---- tests

abbrev pub apart : ℕ → (ℕ → Bool) → (ℕ → Bool) → Bool
apart kinds F G = all_below kinds (λ k. not (F k && G k))

abbrev pub within : ℕ → (ℕ → Bool) → (ℕ → Bool) → Bool
within kinds F G = all_below kinds (λ k. not (F k) || G k)

-- one token decides, where tokens of F may follow
unfoldable pub fit : Tests → (ℕ → Bool) → Gram → Bool
fit tests F (Tok k more) = true
fit tests F (Deep deeper) = true
fit tests F (Note f) = true
fit tests F (Both g h) = fit tests (starts tests F h) g && fit tests F h
fit tests F (Either g h) = apart tests.kinds (starts tests F g) (starts tests F h) && (not (empty g && empty h) && (fit tests F g && fit tests F h))
fit tests F (Many g) = apart tests.kinds (first tests g) F && (not (empty g) && fit tests (starts tests F (Many g)) g)
fit tests F (Again r d) = within tests.kinds F (tests.follow r)

-- no production stands in front, unless it may
unfoldable pub guarded : Bool → Gram → Bool
guarded may (Tok k more) = true
guarded may (Deep kinds) = true
guarded may (Note f) = true
guarded may (Both g h) = guarded may g && (not (empty g) || guarded may h)
guarded may (Either g h) = guarded may g && guarded may h
guarded may (Many g) = guarded may g
guarded may (Again r d) = may

-- some tokens complete it, with productions if they may
unfoldable pub lean : Bool → Gram → Bool
lean may (Tok k more) = true
lean may (Deep kinds) = false
lean may (Note f) = true
lean may (Both g h) = lean may g && lean may h
lean may (Either g h) = lean may g || lean may h
lean may (Many g) = true
lean may (Again r d) = may

-- each part that may be pending can be completed
unfoldable pub whole : Gram → Bool
whole (Tok k more) = true
whole (Deep kinds) = true
whole (Note f) = true
whole (Both g h) = whole g && (whole h && lean true h)
whole (Either g h) = whole g && whole h
whole (Many g) = whole g
whole (Again r d) = true

-- a table of productions that passes all tests
pub record IsTable (tests : Tests) (rule : Rule → ℕ → Gram) : Type 0 where
  pub begins : (r : Rule) (d : ℕ) → within tests.kinds (first tests (rule r d)) (tests.front r) ≡ true
  pub fits : (r : Rule) (d : ℕ) → fit tests (tests.follow r) (rule r d) ≡ true
  pub guards : (r : Rule) (d : ℕ) → guarded false (rule r d) ≡ true
  pub solid : (r : Rule) (d : ℕ) → empty (rule r d) ≡ false
  pub completes : (r : Rule) (d : ℕ) → lean false (rule r d) ≡ true
  pub pending : (r : Rule) (d : ℕ) → whole (rule r d) ≡ true

-- ---- the tests of the grammar of statements

abbrev pub begins_operand : ℕ → Bool
begins_operand k = is_number k || k == NULL || is_name k || is_quoted k || k == MINUS

abbrev pub begins_rule : Rule → ℕ → Bool
begins_rule Expr k = is_number k || begins_other k
begins_rule Negated k = begins_other k
begins_rule Predicate k = begins_operand k || k == NOT || k == OPEN
begins_rule Unit k = begins_operand k || k == NOT || k == OPEN

abbrev pub follows_rule : Rule → ℕ → Bool
follows_rule Expr k = k == CLOSE || k == COMMA || k == WHERE || k == FROM
follows_rule Negated k = k == CLOSE || k == COMMA || k == WHERE || k == FROM || k == STAR || k == PLUS || k == MINUS
follows_rule Predicate k = k == CLOSE || k == GROUP || k == ORDER || k == LIMIT
follows_rule Unit k = k == CLOSE || k == GROUP || k == ORDER || k == LIMIT || k == AND || k == OR

abbrev pub tests : Tests
tests = record { kinds = kind_count; front = begins_rule; follow = follows_rule }
