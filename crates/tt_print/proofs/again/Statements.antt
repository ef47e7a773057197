-- Every statement that the grammar gives is read again from its words.
use Rattle.std.proofs.Common.{inl, inr, ◌≡◌, ℕ, Bool, true, false, List, [], ◌∷◌, ◌++◌, take, Option, Some, None, refl, sym, ap, subst, ◌∙◌, arith}
use Rattle.std.specs.Prelude.{codes, if◌then◌else◌, bytes_eq}
use Rattle.std.specs.List.{list_all, list_any}
use Rattle.std.specs.Char.{is_ascii_digit}
use Rattle.std.proofs.lemmas.Bool.{cases_Bool, and_parts, false≢true}
use Rattle.tt_lex.specs.declared.TokenKind.TheVariants as kinds
use Rattle.tt_lex.specs.Lexis.{is_word_start, is_word_part}
use Rattle.tt_value.specs.calendar.Reading.{has_date_form, day_of, timestamp_of}
use Rattle.tt_value.specs.declared.name.Name.{Name}
use Rattle.tt_value.specs.declared.name.TableName.{TableName}
use Rattle.tt_sql.specs.declared.change.Dml.{Dml}
use Rattle.tt_sql.specs.declared.change.Dml.TheVariants as dml
use Rattle.tt_sql.specs.declared.statement.Statement.{Statement}
use Rattle.tt_sql.specs.declared.statement.Statement.TheVariants as statement
use Rattle.tt_sql.specs.declared.statement.TimeUnit.{TimeUnit}
use Rattle.tt_sql.specs.declared.statement.TimeUnit.TheVariants as unit
use Rattle.tt_sql.specs.declared.statement.Wait.{Wait}
use Rattle.tt_sql.specs.grammar.Grammar.{Lexeme, Way, Said, Note, Spells, token, note, both, is_of}
use Rattle.tt_sql.specs.grammar.Written.{written_rule, drop_table, undrop, truncate, begin, commit, rollback, wait, show, metrics, depth, statement as statement_part}
use Rattle.tt_sql.specs.grammar.Combinators.{◌▸◌, one, quoted_name, is_unit_text, as_unit}
use Rattle.tt_sql.specs.grammar.TokenKinds.{UNIT_TEXT, NAME_TEXT, upper, unit_words, word_kind, sign_kind, text_kind, lexeme, unquoted, undoubled, token_kind}
use Rattle.tt_print.specs.text.Words.{quoted, word_if, table_name_words}
use Rattle.tt_print.specs.text.Changes.{dml_words}
use Rattle.tt_print.specs.text.Statements.{unit_text, wait_words, front_text, depth_words, metrics_words, statement_words}
use Rattle.tt_sql.specs.marks.Expressions.{flag_marks, qualified, table_marks}
use Rattle.tt_sql.specs.marks.Changes.{dml_marks}
use Rattle.tt_sql.specs.marks.Statements.{unit_number, wait_marks, statement_marks}
use Rattle.tt_print.specs.again.Tokens.{IsToken}
use Rattle.tt_sql.specs.trees.Leaves.{IsNameText}
use Rattle.tt_print.specs.again.Spelling.{IsReadAs}
use Rattle.tt_sql.specs.trees.Expressions.{IsWrittenTable}
use Rattle.tt_sql.specs.trees.Queries.{IsShortNumber}
use Rattle.tt_sql.specs.trees.Statements.{IsWrittenDml, IsWrittenStatement}
use Rattle.tt_print.proofs.again.Placing.{word_no_digit}
use Rattle.tt_print.proofs.again.Spelling.{spared}
use Rattle.tt_print.proofs.again.Tokens.{quoted_token, word_plain, quoted_name_token}
use Rattle.tt_print.proofs.again.Literals.{between_quotes}
use Rattle.tt_print.proofs.again.Parts.{in_order, as_first, as_second, a_word, word_first, word_last, with_way, a_flag, in_brackets}
use Rattle.tt_print.proofs.again.Expressions.{table_read}
use Rattle.tt_print.proofs.again.Moments.{short_read}
use Rattle.tt_print.proofs.again.Queries.{query_read}
use Rattle.tt_print.proofs.again.Changes.{insert_read, update_read, delete_read, copy_read}
use Rattle.tt_print.proofs.again.Tables.{created_read, cloned_read, alter_read}

-- ---- waits

unit_noted : (word : List ℕ) (k : ℕ) → IsToken word → ((at : ℕ) → is_of UNIT_TEXT (λ x. false) (lexeme (token_kind word) word at).kind ≡ true)
    → ((at : ℕ) (done : List Lexeme) → as_unit (lexeme (token_kind word) word at ∷ done) ≡ Way k ∷ []) → IsReadAs (one UNIT_TEXT ▸ Note as_unit) (word ∷ []) (Way k ∷ [])
unit_noted word k one_word is means = record {
  tokens = (one_word, tt);
  notes = λ at. Way k ∷ [];
  alike = λ at. refl;
  spelled = λ at. record {
    around = λ done K n ts d.
        let t = lexeme (token_kind word) word at in
        subst (λ x. Spells written_rule false done ((one UNIT_TEXT ▸ Note as_unit) ∷ K) (x ++ n) (t ∷ ts)) (means at done) (both (token (is at) (note d)));
  };
}

unit_read : (u : TimeUnit) → IsReadAs (one UNIT_TEXT ▸ Note as_unit) (quoted (unit_text u) ∷ []) (Way (unit_number u) ∷ [])
unfolding undoubled text_kind day_of timestamp_of
unit_read unit.Days = unit_noted (quoted (codes "DAYS")) 0 (quoted_token (codes "DAYS") (refl, omega arith)) (λ at. refl) (λ at done. refl)
unit_read unit.Hours = unit_noted (quoted (codes "HOURS")) 1 (quoted_token (codes "HOURS") (refl, omega arith)) (λ at. refl) (λ at done. refl)
unit_read unit.Minutes = unit_noted (quoted (codes "MINUTES")) 2 (quoted_token (codes "MINUTES") (refl, omega arith)) (λ at. refl) (λ at done. refl)
unit_read unit.Seconds = unit_noted (quoted (codes "SECONDS")) 3 (quoted_token (codes "SECONDS") (refl, omega arith)) (λ at. refl) (λ at done. refl)
unit_read unit.Milliseconds = unit_noted (quoted (codes "MILLISECONDS")) 4 (quoted_token (codes "MILLISECONDS") (refl, omega arith)) (λ at. refl) (λ at done. refl)

wait_read : (w : Wait) → IsShortNumber w.amount → IsReadAs wait (wait_words w) (wait_marks w)
unfolding word_kind sign_kind
wait_read w is = word_first (codes "CALL") (λ at. refl) (word_first (codes "SYSTEM$WAIT") (λ at. refl) (word_first (codes "(") (λ at. refl)
    (in_order (short_read w.amount is) (word_last (codes ")") (λ at. refl) (as_first (word_first (codes ",") (λ at. refl) (unit_read w.«unit»)))))))

-- ---- the name of a table in quotes

-- a text that begins with no digit is no date and no timestamp
digit_first : (b : ℕ) (bytes : List ℕ) → has_date_form (b ∷ bytes) ≡ true → is_ascii_digit b ≡ true
digit_first b bytes form = (and_parts (is_ascii_digit b) _ (and_parts _ _ (and_parts _ _ (and_parts _ _ form).1).1).0).0

no_day : (b : ℕ) (bytes : List ℕ) → is_ascii_digit b ≡ false → day_of (b ∷ bytes) ≡ None
unfolding day_of
no_day b bytes other = elim (cases_Bool (has_date_form (b ∷ bytes))) [
  | inl form ↦ absurd (false≢true (sym other ∙ digit_first b bytes form))
  | inr none ↦ rw none refl
]

no_moment : (b : ℕ) (bytes : List ℕ) → is_ascii_digit b ≡ false → timestamp_of (b ∷ bytes) ≡ None
unfolding timestamp_of
no_moment b bytes other = rw (no_day b (take 9 bytes) other) refl

unit_or_name : (a : Bool) → is_of NAME_TEXT is_unit_text (if a then UNIT_TEXT else NAME_TEXT) ≡ true
unit_or_name true = refl
unit_or_name false = refl

name_known : (text : List ℕ) → IsNameText text → is_of NAME_TEXT is_unit_text (text_kind text) ≡ true
unfolding text_kind
name_known [] is = absurd (false≢true is.word)
name_known (b ∷ bytes) is =
    let starts = (and_parts (is_word_start b) (list_all is_word_part bytes) is.word).0 in
    let digit = word_no_digit b starts in
    rw (no_day b bytes digit, no_moment b bytes digit, is.word, is.high, is.free) (unit_or_name (list_any (bytes_eq (upper (b ∷ bytes))) unit_words))

quoted_name_read : (n : Name) → IsNameText n.text → IsReadAs quoted_name ((39 ∷ (n.text ++ (39 ∷ []))) ∷ []) (Said n.text n.place ∷ [])
quoted_name_read n is = record {
  tokens = (quoted_name_token n.text is, tt);
  notes = λ at. Said n.text at ∷ [];
  alike = λ at. refl;
  spelled = λ at. record {
    around = λ done K l ts d.
        let word = 39 ∷ (n.text ++ (39 ∷ [])) in
        let t : Lexeme = record { kind = text_kind n.text; place = at; text = n.text } in
        let bytes : unquoted word ≡ n.text = between_quotes n.text ∙ (word_plain n.text is.word).read in
        let e : lexeme kinds.Quoted word at ≡ t = ap (λ x. record { kind = text_kind x; place = at; text = x }) bytes in
        let d' = subst (λ x. Spells written_rule false (x ∷ done) K l ts) e d in
        let read : Spells written_rule false done (quoted_name ∷ K) (Said (upper n.text) at ∷ l) (t ∷ ts) = both (token (name_known n.text is) (note d')) in
        let high : Spells written_rule false done (quoted_name ∷ K) (Said n.text at ∷ l) (t ∷ ts) = subst (λ x. Spells written_rule false done (quoted_name ∷ K) (Said x at ∷ l) (t ∷ ts)) is.high read in
        subst (λ x. Spells written_rule false done (quoted_name ∷ K) (Said n.text at ∷ l) (x ∷ ts)) (sym e) high;
  };
}

alone_quoted : (front : Option Name) (n : Name) → front ≡ None → IsNameText n.text → IsReadAs quoted_name ((39 ∷ (front_text front ++ (n.text ++ (39 ∷ [])))) ∷ []) (qualified front n)
alone_quoted None n alone is = quoted_name_read n is
alone_quoted (Some front) n alone is = absurd cc

depth_read : (t : TableName) → IsWrittenTable t → IsReadAs depth (depth_words t) (table_marks t)
unfolding word_kind
depth_read t is = word_first (codes "SELECT") (λ at. refl) (word_first (codes "SYSTEM$CLUSTERING_DEPTH") (λ at. refl) (in_brackets (alone_quoted t.schema t.name is.0 is.1)))

-- ---- statements of a few words

nothing_said : IsReadAs (Note (λ done. [])) [] []
nothing_said = record { tokens = tt; notes = λ at. []; alike = λ at. refl; spelled = spared }

begin_read : IsReadAs begin (codes "BEGIN" ∷ []) []
unfolding word_kind
begin_read = as_first (word_first (codes "BEGIN") (λ at. refl) (as_second nothing_said))

commit_read : IsReadAs commit (codes "COMMIT" ∷ []) []
unfolding word_kind
commit_read = word_first (codes "COMMIT") (λ at. refl) (as_second nothing_said)

rollback_read : IsReadAs rollback (codes "ROLLBACK" ∷ []) []
unfolding word_kind
rollback_read = word_first (codes "ROLLBACK") (λ at. refl) (as_second nothing_said)

show_read : (history : Bool) → IsReadAs show (codes "SHOW" ∷ codes "TABLES" ∷ word_if history (codes "HISTORY")) (flag_marks history)
unfolding word_kind
show_read history = word_first (codes "SHOW") (λ at. refl) (word_first (codes "TABLES") (λ at. refl) (a_flag (codes "HISTORY") (λ at. refl) history))

metrics_read : IsReadAs metrics metrics_words []
unfolding word_kind sign_kind
metrics_read = word_first (codes "SELECT") (λ at. refl) (word_first (codes "*") (λ at. refl) (word_first (codes "FROM") (λ at. refl)
    (word_first (codes "INFORMATION_SCHEMA") (λ at. refl) (word_first (codes ".") (λ at. refl) (a_word (codes "TABLE_STORAGE_METRICS") (λ at. refl))))))

drop_read : (t : TableName) → IsWrittenTable t → IsReadAs drop_table (codes "DROP" ∷ codes "TABLE" ∷ table_name_words t) (table_marks t)
unfolding word_kind
drop_read t is = word_first (codes "DROP") (λ at. refl) (word_first (codes "TABLE") (λ at. refl) (table_read t is))

undrop_read : (t : TableName) → IsWrittenTable t → IsReadAs undrop (codes "UNDROP" ∷ codes "TABLE" ∷ table_name_words t) (table_marks t)
unfolding word_kind
undrop_read t is = word_first (codes "UNDROP") (λ at. refl) (word_first (codes "TABLE") (λ at. refl) (table_read t is))

truncate_read : (t : TableName) → IsWrittenTable t → IsReadAs truncate (codes "TRUNCATE" ∷ codes "TABLE" ∷ table_name_words t) (table_marks t)
unfolding word_kind
truncate_read t is = word_first (codes "TRUNCATE") (λ at. refl) (in_order (as_first (a_word (codes "TABLE") (λ at. refl))) (table_read t is))

-- ---- every statement

dml_read : (levels : ℕ) (d : Dml) → IsWrittenDml levels d → IsReadAs (statement_part levels) (dml_words d) (dml_marks d)
dml_read levels (dml.Insert i) is = as_second (as_first (with_way 1 (insert_read levels i is.0 is.1 is.2)))
dml_read levels (dml.Update u) is = as_second (as_second (as_first (with_way 2 (update_read levels u is.0 is.1 is.2))))
dml_read levels (dml.Delete d) is = as_second (as_second (as_second (as_first (with_way 3 (delete_read levels d is.0 is.1)))))
dml_read levels (dml.Copy c) is = as_second (as_second (as_second (as_second (as_first (with_way 4 (copy_read c is.0 is.1))))))

pub statement_read : (levels : ℕ) (s : Statement) → IsWrittenStatement levels s → IsReadAs (statement_part levels) (statement_words s) (statement_marks s)
unfolding word_kind
statement_read levels (statement.Query q) is = as_first (with_way 0 (query_read levels q is))
statement_read levels (statement.Dml d) is = dml_read levels d is
statement_read levels (statement.Create c) is = as_second (as_second (as_second (as_second (as_second (as_first (with_way 5 (created_read c is.0 is.1 is.2 is.3)))))))
statement_read levels (statement.Clone c) is = as_second (as_second (as_second (as_second (as_second (as_second (as_first (with_way 6 (cloned_read c is.0 is.1 is.2))))))))
statement_read levels (statement.Drop t) is = as_second (as_second (as_second (as_second (as_second (as_second (as_second (as_first (with_way 7 (drop_read t is)))))))))
statement_read levels (statement.Undrop t) is = as_second (as_second (as_second (as_second (as_second (as_second (as_second (as_second (as_first (with_way 8 (undrop_read t is))))))))))
statement_read levels (statement.Truncate t) is = as_second (as_second (as_second (as_second (as_second (as_second (as_second (as_second (as_second (as_first (with_way 9 (truncate_read t is)))))))))))
statement_read levels (statement.Alter a) is = as_second (as_second (as_second (as_second (as_second (as_second (as_second (as_second (as_second (as_second (as_first (with_way 10 (alter_read a is.0 is.1))))))))))))
statement_read levels statement.Begin is = as_second (as_second (as_second (as_second (as_second (as_second (as_second (as_second (as_second (as_second (as_second (as_first (with_way 11 begin_read))))))))))))
statement_read levels statement.Commit is = as_second (as_second (as_second (as_second (as_second (as_second (as_second (as_second (as_second (as_second (as_second (as_second (as_first (with_way 12 commit_read)))))))))))))
statement_read levels statement.Rollback is = as_second (as_second (as_second (as_second (as_second (as_second (as_second (as_second (as_second (as_second (as_second (as_second (as_second (as_first (with_way 13 rollback_read))))))))))))))
statement_read levels (statement.Wait w) is = as_second (as_second (as_second (as_second (as_second (as_second (as_second (as_second (as_second (as_second (as_second (as_second (as_second (as_second (as_first (with_way 14 (wait_read w is))))))))))))))))
statement_read levels (statement.Explain q) is = as_second (as_second (as_second (as_second (as_second (as_second (as_second (as_second (as_second (as_second (as_second (as_second (as_second (as_second (as_second (as_first (with_way 15 (word_first (codes "EXPLAIN") (λ at. refl) (query_read levels q is))))))))))))))))))
statement_read levels (statement.Show history) is = as_second (as_second (as_second (as_second (as_second (as_second (as_second (as_second (as_second (as_second (as_second (as_second (as_second (as_second (as_second (as_second (as_first (with_way 16 (show_read history))))))))))))))))))
statement_read levels statement.Metrics is = as_second (as_second (as_second (as_second (as_second (as_second (as_second (as_second (as_second (as_second (as_second (as_second (as_second (as_second (as_second (as_second (as_second (as_first (with_way 17 metrics_read))))))))))))))))))
statement_read levels (statement.Depth t) is = as_second (as_second (as_second (as_second (as_second (as_second (as_second (as_second (as_second (as_second (as_second (as_second (as_second (as_second (as_second (as_second (as_second (as_second (with_way 18 (depth_read t is)))))))))))))))))))
