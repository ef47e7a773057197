-- The tree of a derivation, for small parts and lists.
use Rattle.std.proofs.Common.{◌≡◌, ℕ, zero, suc, ◌^◌, ◌≤◌, Bool, true, false, List, [], ◌∷◌, ◌++◌, map, Some, None, refl, sym, ap, ap₂, ◌∙◌, append-nil, arith}
use Rattle.std.specs.Prelude.{⊤, ℤ, pos, neg_ℤ}
use Rattle.tt_value.specs.declared.name.Literal.{Literal}
use Rattle.tt_value.specs.declared.value.Value.TheVariants.{Null, Int, Date, Text}
use Rattle.tt_value.specs.calendar.Reading.{day_of, digits_value}
use Rattle.tt_value.proofs.calendar.Dates.{day_of-read}
use Rattle.tt_sql.specs.grammar.Grammar.{Lexeme, Mark, Way, Said, Gram, Tok, Many}
use Rattle.tt_sql.specs.grammar.TokenKinds.{COMMA, DATE_TEXT}
use Rattle.tt_sql.specs.grammar.Combinators.{◌▸◌, one, name, number, short_number, quoted, maybe, listed}
use Rattle.tt_sql.specs.grammar.Written.{literal, other_literal}
use Rattle.tt_sql.specs.marks.Expressions.{repeated, listed_marks, maybe_marks, flag_marks, name_marks, number_marks, quoted_marks, column_marks, table_marks, literal_marks}
use Rattle.tt_sql.specs.marks.Queries.{maybe_listed}
use Rattle.tt_sql.specs.trees.Lists.{Each, IsListed, WhenThere}
use Rattle.tt_sql.specs.trees.Leaves.{IsWrittenValue}
use Rattle.tt_sql.specs.trees.Expressions.{IsWrittenName, IsWrittenColumn, IsWrittenTable, IsWrittenNumber, IsWrittenQuoted, IsWrittenLiteral, IsNotPositive}
use Rattle.tt_sql.specs.trees.Queries.{IsShortNumber}
use Rattle.tt_sql.proofs.grammar.Lexemes.{only, has_day}
use Rattle.tt_sql.proofs.grammar.LexemeTexts.{has_name, has_number, has_negative, has_short, has_text}
use Rattle.tt_sql.proofs.grammar.Derivations.{Part, word, noted, pair, first, second, one_more, no_more}

-- a tree with these marks
pub record Tree {A : Type 0} (marks : A → List Mark) (ok : A → Type 0) (m : List Mark) : Type 0 where
  pub tree : A
  pub given : ok tree
  pub same : marks tree ≡ m

-- what this part notes are the marks of a tree
abbrev pub HasTrees : {A : Type 0} → Gram → (A → List Mark) → (A → Type 0) → Type 0
HasTrees g marks ok = (done : List Lexeme) (m : List Mark) (after : List Lexeme) → Part g done m after → Tree marks ok m

abbrev pub IsAny : {A : Type 0} → A → Type 0
IsAny x = ⊤

pub joined_marks : {a b c d : List Mark} → a ≡ b → c ≡ d → a ++ c ≡ b ++ d
joined_marks p q = ap₂ (λ (x : List Mark) (y : List Mark). x ++ y) p q

-- with nothing behind them
pub no_end : {A : Type 0} {marks : A → List Mark} {ok : A → Type 0} (m : List Mark) → Tree marks ok m → Tree marks ok (m ++ [])
no_end m t = record { tree = t.tree; given = t.given; same = t.same ∙ sym (append-nil m) }

-- ---- small parts

pub name_trees : HasTrees name name_marks IsWrittenName
name_trees done m after (pair (word {t = t} e is) noted) = record { tree = record { text = t.text; place = t.place }; given = has_name t is e; same = refl }

pub column_trees : HasTrees name column_marks IsWrittenColumn
column_trees done m after (pair (word {t = t} e is) noted) = record { tree = record { table = None; name = record { text = t.text; place = t.place } }; given = (refl, has_name t is e); same = refl }

pub table_trees : HasTrees name table_marks IsWrittenTable
table_trees done m after (pair (word {t = t} e is) noted) = record { tree = record { schema = None; name = record { text = t.text; place = t.place } }; given = (refl, has_name t is e); same = refl }

pub number_trees : HasTrees number number_marks IsWrittenNumber
number_trees done m after (pair (word {t = t} e is) noted) = record { tree = record { value = digits_value t.text; place = t.place }; given = has_number t is e; same = refl }

pub short_number_trees : HasTrees short_number number_marks IsShortNumber
short_number_trees done m after (pair (word {t = t} e is) noted) = record { tree = record { value = digits_value t.text; place = t.place }; given = has_short t is e; same = refl }

pub quoted_trees : HasTrees quoted quoted_marks IsWrittenQuoted
quoted_trees done m after (pair (word {t = t} e is) noted) = record { tree = record { text = t.text; place = t.place }; given = has_text t is e; same = refl }

-- ---- literals

-- but a number without a minus
abbrev pub IsOtherLiteral : Literal → Type 0
IsOtherLiteral l = IsWrittenLiteral l × IsNotPositive l.value

negative_written : (n : ℕ) → n ≤ 2 ^ 63 → IsWrittenValue (Int (neg_ℤ (pos n))) × IsNotPositive (Int (neg_ℤ (pos n)))
negative_written zero less = (omega arith, tt)
negative_written (suc n) less = (less, tt)

date_tree : (text : List ℕ) (place : ℕ) (day : ℤ) → day_of text ≡ Some day → Tree literal_marks IsOtherLiteral (Said text place ∷ Way 3 ∷ [])
date_tree text place day e = let read = day_of-read text day e in record { tree = record { value = Date day; place = place }; given = (read.0, tt); same = ap (λ (x : List ℕ). Said x place ∷ Way 3 ∷ []) (sym read.1) }

pub other_literal_trees : HasTrees other_literal literal_marks IsOtherLiteral
other_literal_trees done m after (first (pair (pair (word {t = t} e is) noted) noted)) = record { tree = record { value = Null; place = t.place }; given = (tt, tt); same = refl }
other_literal_trees done m after (second (first (pair (word {t = s} d was) (pair (word {t = t} e is) (pair noted noted))))) = record { tree = record { value = Int (neg_ℤ (pos (digits_value t.text))); place = s.place }; given = negative_written (digits_value t.text) (has_negative t is e); same = refl }
other_literal_trees done m after (second (second (first (pair (pair (word {t = t} e is) noted) noted)))) = record { tree = record { value = Text t.text; place = t.place }; given = (has_text t is e, tt); same = refl }
other_literal_trees done m after (second (second (second (pair (word {t = s} d was) (pair (word {t = t} e is) (pair noted noted)))))) = let day = has_day t is (only DATE_TEXT t.kind e) in date_tree t.text s.place day.0 day.1

pub literal_trees : HasTrees literal literal_marks IsWrittenLiteral
literal_trees done m after (first (pair (pair (word {t = t} e is) noted) noted)) = record { tree = record { value = Int (pos (digits_value t.text)); place = t.place }; given = has_number t is e; same = refl }
literal_trees done m after (second p) = let l = other_literal_trees done m after p in record { tree = l.tree; given = l.given.0; same = l.same }

-- ---- words in front

pub behind_word : {A : Type 0} (k : ℕ) (others : ℕ → Bool) (g : Gram) (marks : A → List Mark) (ok : A → Type 0) → HasTrees g marks ok → HasTrees (Tok k others ▸ g) marks ok
behind_word k others g marks ok trees done m after (pair {between = between} {n = n} (word e is) p) = trees between n after p

-- ---- lists

pub many_trees : {A : Type 0} (g : Gram) (marks : A → List Mark) (ok : A → Type 0) → HasTrees g marks ok → HasTrees (Many g) (λ xs. repeated (map marks xs)) (Each ok)
many_trees g marks ok trees done m after (one_more {between = between} {m = x} {n = y} p q) =
    let head = trees done x between p in
    let more = many_trees g marks ok trees between y after q in
    record { tree = head.tree ∷ more.tree; given = (head.given, more.given); same = ap₂ (λ (a : List Mark) (b : List Mark). Way 1 ∷ (a ++ b)) head.same more.same }
many_trees g marks ok trees done m after no_more = record { tree = []; given = tt; same = refl }

pub listed_trees : {A : Type 0} (g : Gram) (marks : A → List Mark) (ok : A → Type 0) → HasTrees g marks ok → HasTrees (listed g) (λ xs. listed_marks (map marks xs)) (IsListed ok)
listed_trees g marks ok trees done m after (pair {between = between} {m = x} {n = y} p q) =
    let head = trees done x between p in
    let more = many_trees (one COMMA ▸ g) marks ok (behind_word COMMA _ g marks ok trees) between y after q in
    record { tree = head.tree ∷ more.tree; given = (head.given, more.given); same = joined_marks head.same more.same }

-- ---- what may be left out

pub maybe_trees : {A : Type 0} (g : Gram) (marks : A → List Mark) (ok : A → Type 0) → HasTrees g marks ok → HasTrees (maybe g) (maybe_marks marks) (WhenThere ok)
maybe_trees g marks ok trees done m after (first (pair {m = x} p noted)) = let there = trees done x after p in record { tree = Some there.tree; given = there.given; same = ap (λ (a : List Mark). a ++ Way 1 ∷ []) there.same }
maybe_trees g marks ok trees done m after (second noted) = record { tree = None; given = tt; same = refl }

listed_there : {A : Type 0} (marks : A → List Mark) (ok : A → Type 0) (xs : List A) (m : List Mark) → IsListed ok xs → listed_marks (map marks xs) ≡ m → Tree (λ ys. maybe_listed (map marks ys)) (Each ok) (m ++ Way 1 ∷ [])
listed_there marks ok [] m given same = absurd given
listed_there marks ok (x ∷ xs) m given same = record { tree = x ∷ xs; given = given; same = ap (λ (a : List Mark). a ++ Way 1 ∷ []) same }

pub maybe_listed_trees : {A : Type 0} (g : Gram) (marks : A → List Mark) (ok : A → Type 0) → HasTrees g (λ xs. listed_marks (map marks xs)) (IsListed ok) → HasTrees (maybe g) (λ xs. maybe_listed (map marks xs)) (Each ok)
maybe_listed_trees g marks ok trees done m after (first (pair {m = x} p noted)) = let some = trees done x after p in listed_there marks ok some.tree x some.given some.same
maybe_listed_trees g marks ok trees done m after (second noted) = record { tree = []; given = tt; same = refl }

pub flag_trees : (k : ℕ) (others : ℕ → Bool) → HasTrees (maybe (Tok k others)) flag_marks IsAny
flag_trees k others done m after (first (pair (word e is) noted)) = record { tree = true; given = tt; same = refl }
flag_trees k others done m after (second noted) = record { tree = false; given = tt; same = refl }
