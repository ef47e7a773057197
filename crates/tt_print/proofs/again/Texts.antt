-- The text of a printed statement is the text of that statement again.
use Rattle.std.proofs.Common.{◌≡◌, ℕ, List, Result, Ok, Err, ◌↔◌, sym, ap, ◌∙◌, subst}
use Rattle.std.specs.List.{join_with_byte}
use Rattle.tt_lex.specs.TokensOf.{tokens_of}
use Rattle.tt_sql.specs.declared.statement.Statement.{Statement}
use Rattle.tt_sql.specs.grammar.Grammar.{Mark}
use Rattle.tt_sql.specs.grammar.Statements.{IsStatement}
use Rattle.tt_sql.specs.grammar.TokenKinds.{lexemes}
use Rattle.tt_print.specs.places.Trees.{unplaced_statement}
use Rattle.tt_sql.specs.marks.Statements.{statement_marks}
use Rattle.tt_sql.specs.text.StatementOf.{most_levels, statement_of}
use Rattle.tt_sql.proofs.text.StatementOf.{found_statement, whole_text, is_text_of}
use Rattle.tt_print.specs.text.Statements.{statement_words, statement_text}
use Rattle.tt_sql.proofs.determined.Statements.{statement_given}
use Rattle.tt_print.specs.again.Tokens.{tokens_at}
use Rattle.tt_print.specs.places.Marks.{unplaced}
use Rattle.tt_sql.specs.trees.Statements.{IsWrittenStatement}
use Rattle.tt_print.specs.again.Texts.{IsReadAgain}
use Rattle.tt_print.proofs.again.Placing.{words_are_tokens, words_are_lexemes}
use Rattle.tt_print.proofs.again.Spelling.{is_statement}
use Rattle.tt_print.proofs.again.Statements.{statement_read}
use Rattle.tt_print.proofs.places.Statements.{statement_kept, alike_statements}

same_words : (s t : Statement) → IsWrittenStatement most_levels s → IsWrittenStatement most_levels t → unplaced_statement t ≡ unplaced_statement s → statement_text t ≡ statement_text s
same_words s t is are same = ap (join_with_byte 32) (sym (statement_kept most_levels t are).written ∙ ap statement_words same ∙ (statement_kept most_levels s is).written)

pub read_again : (s : Statement) → IsWrittenStatement most_levels s → IsReadAgain s
read_again s is =
    let read = statement_read most_levels s is in
    let text = statement_text s in
    let tokens = tokens_at 0 (statement_words s) in
    let m = read.notes 0 in
    let has : tokens_of text ≡ Ok tokens = words_are_tokens (statement_words s) read.tokens in
    let spelled : IsStatement most_levels m (lexemes text tokens) = subst (IsStatement most_levels m) (sym (words_are_lexemes (statement_words s))) (is_statement most_levels (read.spelled 0)) in
    let t = whole_text text tokens m has spelled in
    let found = found_statement text tokens t.tree has (statement_given most_levels t.tree t.given) (subst (λ (x : List Mark). IsStatement most_levels x (lexemes text tokens)) (sym t.same) spelled) in
    let same = alike_statements most_levels most_levels t.tree s t.given is (ap unplaced t.same ∙ read.alike 0) in
    record { again = t.tree; read = found; same = same; text = same_words s t.tree is t.given same }

pub text_again : (text : List ℕ) (s : Statement) → statement_of text ≡ Ok s → IsReadAgain s
text_again text s e = read_again s (is_text_of text s e).written

-- ---- a statement has one text

statement_or : Statement → Result Statement ℕ → Statement
statement_or d (Ok s) = s
statement_or d (Err at) = d

same_answer : (r : Result Statement ℕ) (x y : Statement) → r ≡ Ok x → r ≡ Ok y → x ≡ y
unfolding statement_or
same_answer r x y e f = sym (ap (statement_or x) e) ∙ ap (statement_or x) f

same_tree : (s t : Statement) → IsWrittenStatement most_levels s → IsWrittenStatement most_levels t → statement_text s ≡ statement_text t → unplaced_statement s ≡ unplaced_statement t
same_tree s t is are same =
    let a = read_again s is in
    let b = read_again t are in
    let one : a.again ≡ b.again = same_answer (statement_of (statement_text s)) a.again b.again a.read (ap statement_of same ∙ b.read) in
    sym a.same ∙ ap unplaced_statement one ∙ b.same

pub one_text : (s t : Statement) → IsWrittenStatement most_levels s → IsWrittenStatement most_levels t → (unplaced_statement s ≡ unplaced_statement t) ↔ (statement_text s ≡ statement_text t)
one_text s t is are = (same_words t s are is, same_tree s t is are)

pub one_text_read : (a b : List ℕ) (s t : Statement) → statement_of a ≡ Ok s → statement_of b ≡ Ok t → (unplaced_statement s ≡ unplaced_statement t) ↔ (statement_text s ≡ statement_text t)
one_text_read a b s t e f = one_text s t (is_text_of a s e).written (is_text_of b t f).written

pub one_note : (i j : ℕ) (s t : Statement) → IsWrittenStatement i s → IsWrittenStatement j t → (unplaced_statement s ≡ unplaced_statement t) ↔ (unplaced (statement_marks s) ≡ unplaced (statement_marks t))
one_note i j s t is are = (λ same. sym (statement_kept i s is).noted ∙ ap statement_marks same ∙ (statement_kept j t are).noted, alike_statements i j s t is are)
