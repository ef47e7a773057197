use Rattle.std.proofs.Common.{ℕ, List, length, All, ap, subst, sym}
use Rattle.tt_lex.specs.Lexis.{HasTokens}
use Rattle.tt_sql.specs.grammar.Grammar.{Lexeme}
use Rattle.tt_sql.specs.text.StatementOf.{statement_of}
use Rattle.tt_sql.specs.grammar.TokenKinds.{lexemes}
use Rattle.tt_parse.specs.Parsed.{GivesStatement, Says}
use Rattle.tt_parse.specs.Lexing.{IsToken}
use Rattle.tt_parse.proofs.Lexing.{all_tokens, whole_seen}
use Rattle.tt_parse.proofs.Whole.{answers_fault, answers_found, says_answers}
use Rattle.tt_parse.proofs.parser.parse.Goals as goal

pub lexed-requires : goal.lexed-requires
lexed-requires c =
    let has : HasTokens c.args.text.now c.args.tokens.now = (c.tokens_of_a_text.ensures.tokens c.args.text.now c.args.tokens.now).0 c.requires.tokens in
    subst (λ (x : List ℕ). All (IsToken x) c.args.tokens.now) (sym c.as_bytes-text.ensures.value)
    (all_tokens c.args.text.now 0 c.args.tokens.now c.utf8.text
    (c.tokens_stand_in_their_text.ensures.order c.args.text.now c.args.tokens.now has)
    (c.tokens_stand_in_their_text.ensures.spelled c.args.text.now c.args.tokens.now has)
    (c.tokens_stand_in_their_text.ensures.characters c.args.text.now c.args.tokens.now c.utf8.text has))

-- what the machine says of the tokens of the text
says : (c : goal.After-drop-list) → Says 256 (length c.args.text.now) (lexemes c.args.text.now c.args.tokens.now) c.whole_statement.result
says c =
    let tokens = whole_seen c.args.text.now c.as_bytes-text.result.now c.deref.result.now c.in_ok-list.list.items c.args.tokens.now c.as_bytes-text.ensures.value c.deref.ensures.value c.in_ok-list.ensures.kinds c.in_ok-list.ensures.tokens in
    subst (λ (n : ℕ). Says 256 n (lexemes c.args.text.now c.args.tokens.now) c.whole_statement.result) (ap length c.as_bytes-text.ensures.value)
    (subst (λ (ts : List Lexeme). Says 256 (length c.as_bytes-text.result.now) ts c.whole_statement.result) tokens c.whole_statement.ensures.says)

answers : (c : goal.After-drop-list) → GivesStatement c.whole_statement.result (statement_of c.args.text.now)
answers c = says_answers c.args.text.now c.args.tokens.now c.requires.tokens c.whole_statement.result (says c) c.whole_statement.ensures.given

pub returns-clause-statement : goal.returns-clause-statement
returns-clause-statement c = answers c

pub returns-clause-found : goal.returns-clause-found
returns-clause-found c = answers_found c.args.text.now c.whole_statement.result (answers c)

pub returns-clause-fault : goal.returns-clause-fault
returns-clause-fault c = answers_fault c.args.text.now c.whole_statement.result (answers c)
