-- The statement of a text is that which its tokens spell, and the place of its fault is that of its tokens. Each text
-- has the one or the other.
use Rattle.std.proofs.Common.{◌≡◌, ℕ, List, length, Result, Ok, Err, is_ok, ◌⊎◌, inl, inr, refl, sym, ap, ◌∙◌, subst, true≢false}
use Rattle.tt_lex.specs.declared.Token.{Token}
use Rattle.tt_lex.specs.declared.LexFault.{LexFault}
use Rattle.tt_lex.specs.TokensOf.{tokens_of}
use Rattle.tt_sql.specs.declared.statement.Statement.{Statement}
use Rattle.tt_sql.specs.grammar.Grammar.{Mark}
use Rattle.tt_sql.specs.grammar.Statements.{IsStatement, HasFaultAt}
use Rattle.tt_sql.specs.machine.Reading.{read_run}
use Rattle.tt_sql.proofs.machine.Statements.{statement_ok, statement_only, statement_err, statement_err_only, lexemes_known}
use Rattle.tt_sql.specs.grammar.TokenKinds.{lexemes}
use Rattle.tt_sql.specs.marks.Statements.{statement_marks}
use Rattle.tt_sql.specs.determined.Statements.{IsGivenStatement}
use Rattle.tt_sql.proofs.machine.StatementTrees.{statement_reads}
use Rattle.tt_sql.proofs.grammar.Lexemes.{lexemes_are}
use Rattle.tt_sql.proofs.trees.Leaves.{Tree}
use Rattle.tt_sql.specs.trees.Statements.{IsWrittenStatement}
use Rattle.tt_sql.proofs.determined.Statements.{statement_given}
use Rattle.tt_sql.proofs.trees.Statements.{whole_statement}
use Rattle.tt_sql.specs.text.StatementOf.{most_levels, fault_place, IsTextOf, HasSyntaxFault, of_tree, of_reading, of_tokens, statement_of}

-- ---- what is spelled is found

pub found_statement : (text : List ℕ) (tokens : List Token) (s : Statement) → tokens_of text ≡ Ok tokens → IsGivenStatement s → IsStatement most_levels (statement_marks s) (lexemes text tokens) → statement_of text ≡ Ok s
unfolding statement_of
found_statement text tokens s e given spelled =
    ap (of_tokens text) e
    ∙ ap (of_reading (length text)) (statement_only most_levels (length text) (lexemes text tokens) (statement_marks s) (lexemes_known text tokens) spelled)
    ∙ ap (of_tree (length text)) (statement_reads s given)

pub found_fault : (text : List ℕ) (tokens : List Token) (at : ℕ) → tokens_of text ≡ Ok tokens → HasFaultAt most_levels (length text) (lexemes text tokens) at → statement_of text ≡ Err at
unfolding statement_of
found_fault text tokens at e fault =
    ap (of_tokens text) e
    ∙ ap (of_reading (length text)) (statement_err_only most_levels (length text) (lexemes text tokens) at (lexemes_known text tokens) fault)

pub found_lex_fault : (text : List ℕ) (fault : LexFault) → tokens_of text ≡ Err fault → statement_of text ≡ Err (fault_place fault)
unfolding statement_of
found_lex_fault text fault e = ap (of_tokens text) e

pub found_syntax_fault : (text : List ℕ) (at : ℕ) → HasSyntaxFault text at → statement_of text ≡ Err at
found_syntax_fault text at (inl f) = found_lex_fault text f.fault f.has ∙ ap (λ (n : ℕ). Err n) (sym f.here)
found_syntax_fault text at (inr f) = found_fault text f.tokens at f.has f.here

-- ---- each text has a statement or a fault

-- what the tokens of a text note are the marks of a tree
pub whole_text : (text : List ℕ) (tokens : List Token) (m : List Mark) → tokens_of text ≡ Ok tokens → IsStatement most_levels m (lexemes text tokens) → Tree statement_marks (IsWrittenStatement most_levels) m
whole_text text tokens m e d = whole_statement most_levels m (lexemes text tokens) (lexemes_are text tokens e) d

abbrev Answer : List ℕ → Type 0
Answer text = ((s : Statement) × IsTextOf text s) ⊎ ((at : ℕ) × HasSyntaxFault text at)

by_reading : (text : List ℕ) (tokens : List Token) → tokens_of text ≡ Ok tokens → (r : Result (List Mark) ℕ) → read_run most_levels (length text) (lexemes text tokens) ≡ r → Answer text
by_reading text tokens has (Ok m) e =
    let d = statement_ok most_levels (length text) (lexemes text tokens) m e in
    let whole = whole_text text tokens m has d in
    inl (whole.tree, record { tokens = tokens; has = has; spelled = subst (λ (l : List Mark). IsStatement most_levels l (lexemes text tokens)) (sym whole.same) d; written = whole.given })
by_reading text tokens has (Err at) e = inr (at, inr (record { tokens = tokens; has = has; here = statement_err most_levels (length text) (lexemes text tokens) at (lexemes_known text tokens) e }))

by_tokens : (text : List ℕ) (r : Result (List Token) LexFault) → tokens_of text ≡ r → Answer text
by_tokens text (Ok tokens) e = by_reading text tokens e (read_run most_levels (length text) (lexemes text tokens)) refl
by_tokens text (Err fault) e = inr (fault_place fault, inl (record { fault = fault; has = e; here = refl }))

pub statement_or_fault : (text : List ℕ) → ((s : Statement) × IsTextOf text s) ⊎ ((at : ℕ) × HasSyntaxFault text at)
statement_or_fault text = by_tokens text (tokens_of text) refl

-- ---- and what is found is spelled

statement_else : Statement → Result Statement ℕ → Statement
statement_else d (Ok s) = s
statement_else d (Err at) = d

place_else : ℕ → Result Statement ℕ → ℕ
place_else d (Ok s) = d
place_else d (Err at) = at

abbrev Found : Type 0
Found = Result Statement ℕ

not_both : (r : Found) (s : Statement) (at : ℕ) → r ≡ Ok s → r ≡ Err at → ⊥
not_both r s at e f = true≢false (sym (ap is_ok e) ∙ ap is_ok f)

same_statement : (r : Found) (x y : Statement) → r ≡ Ok x → r ≡ Ok y → x ≡ y
unfolding statement_else
same_statement r x y e f = sym (ap (statement_else x) e) ∙ ap (statement_else x) f

same_place : (r : Found) (i j : ℕ) → r ≡ Err i → r ≡ Err j → i ≡ j
unfolding place_else
same_place r i j e f = sym (ap (place_else i) e) ∙ ap (place_else i) f

pub is_text_of : (text : List ℕ) (s : Statement) → statement_of text ≡ Ok s → IsTextOf text s
is_text_of text s e = by_answer (statement_or_fault text)
  where
    by_answer : Answer text → IsTextOf text s
    by_answer (inl found) = subst (IsTextOf text) (same_statement (statement_of text) found.0 s (found_statement text found.1.tokens found.0 found.1.has (statement_given most_levels found.0 found.1.written) found.1.spelled) e) found.1
    by_answer (inr fault) = absurd (not_both (statement_of text) s fault.0 e (found_syntax_fault text fault.0 fault.1))

pub is_fault_of : (text : List ℕ) (at : ℕ) → statement_of text ≡ Err at → HasSyntaxFault text at
is_fault_of text at e = by_answer (statement_or_fault text)
  where
    by_answer : Answer text → HasSyntaxFault text at
    by_answer (inl found) = absurd (not_both (statement_of text) found.0 at (found_statement text found.1.tokens found.0 found.1.has (statement_given most_levels found.0 found.1.written) found.1.spelled) e)
    by_answer (inr fault) = subst (HasSyntaxFault text) (same_place (statement_of text) fault.0 at (found_syntax_fault text fault.0 fault.1) e) fault.1

pub only_statement : (text : List ℕ) (s : Statement) → statement_of text ≡ Ok s → (tokens : List Token) × (tokens_of text ≡ Ok tokens) × IsStatement most_levels (statement_marks s) (lexemes text tokens)
only_statement text s e = let is = is_text_of text s e in (is.tokens, is.has, is.spelled)
