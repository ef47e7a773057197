-- Statements without queries, predicates and expressions are spelled by their words.
use Rattle.std.proofs.Common.{ℕ, ◌+◌, ◌^◌, ◌<◌, true, false, List, [], ◌∷◌, ◌++◌, length, refl, codes}
use Rattle.std.specs.Prelude.{pos}
use Rattle.tt_value.specs.declared.name.Name.{Name}
use Rattle.tt_value.specs.declared.name.Number.{Number}
use Rattle.tt_value.specs.declared.name.Quoted.{Quoted}
use Rattle.tt_sql.specs.declared.change.Dml.TheVariants.{Copy as CopyRows}
use Rattle.tt_sql.specs.declared.table.Change.{Change}
use Rattle.tt_sql.specs.declared.table.Change.TheVariants.{RenameTo, SwapWith, SetRetention, ClusterBy, DropClusteringKey, SuspendRecluster, ResumeRecluster}
use Rattle.tt_sql.specs.declared.statement.Statement.TheVariants.{Dml, Drop, Undrop, Truncate, Alter, Begin, Commit, Rollback, Show, Metrics}
use Rattle.tt_sql.specs.grammar.Grammar.{Mark, Way, Said, Meant, nowhere}
use Rattle.tt_sql.specs.grammar.Statements.{IsStatement}
use Rattle.tt_sql.specs.grammar.TokenKinds.{word_kind, sign_kind, TABLE, HISTORY, CLOSE, TABLE_STORAGE_METRICS}
use Rattle.tt_sql.specs.grammar.Written.{change}
use Rattle.tt_print.specs.text.Tables.{change_words}
use Rattle.tt_sql.specs.trees.Leaves.{IsNameText}
use Rattle.tt_print.specs.again.Spelling.{IsSpelledBy, place_behind, plain, printed_lexemes}
use Rattle.tt_print.proofs.again.Spelling.{in_turn, here, later, word_of, noted, spared, word_then, and_way, named, is_statement}
use Rattle.tt_print.proofs.again.Quoted.{numbered, text_quoted}

pub begun : (levels : ℕ) → IsStatement levels (Way 11 ∷ []) (printed_lexemes Begin)
unfolding word_kind
begun levels = is_statement levels (later (later (later (later (later (later (later (later (later (later (later (here (and_way 11 (here (word_then (codes "BEGIN") refl (later (spared 6)))))))))))))))))

pub committed : (levels : ℕ) → IsStatement levels (Way 12 ∷ []) (printed_lexemes Commit)
unfolding word_kind
committed levels = is_statement levels (later (later (later (later (later (later (later (later (later (later (later (later (here (and_way 12 (word_then (codes "COMMIT") refl (later (spared 7)))))))))))))))))

pub rolled_back : (levels : ℕ) → IsStatement levels (Way 13 ∷ []) (printed_lexemes Rollback)
unfolding word_kind
rolled_back levels = is_statement levels (later (later (later (later (later (later (later (later (later (later (later (later (later (here (and_way 13 (word_then (codes "ROLLBACK") refl (later (spared 9))))))))))))))))))

pub shown : (levels : ℕ) → IsStatement levels (Way 0 ∷ Way 16 ∷ []) (printed_lexemes (Show false))
unfolding word_kind
shown levels = is_statement levels (later (later (later (later (later (later (later (later (later (later (later (later (later (later (later (later (here (and_way 16 (word_then (codes "SHOW") refl (word_then (codes "TABLES") refl (later (noted 0 12))))))))))))))))))))))

pub shown_history : (levels : ℕ) → IsStatement levels (Way 1 ∷ Way 16 ∷ []) (printed_lexemes (Show true))
unfolding word_kind
shown_history levels = is_statement levels (later (later (later (later (later (later (later (later (later (later (later (later (later (later (later (later (here (and_way 16 (word_then (codes "SHOW") refl (word_then (codes "TABLES") refl (here (and_way 1 (word_of HISTORY nowhere 12 (codes "HISTORY") refl)))))))))))))))))))))))

pub metrics_read : (levels : ℕ) → IsStatement levels (Way 17 ∷ []) (printed_lexemes Metrics)
unfolding word_kind sign_kind
metrics_read levels = is_statement levels (later (later (later (later (later (later (later (later (later (later (later (later (later (later (later (later (later (here (and_way 17 (word_then (codes "SELECT") refl (word_then (codes "*") refl (word_then (codes "FROM") refl (word_then (codes "INFORMATION_SCHEMA") refl (word_then (codes ".") refl (word_of TABLE_STORAGE_METRICS nowhere 35 (codes "TABLE_STORAGE_METRICS") refl)))))))))))))))))))))))))

pub dropped : (levels : ℕ) (table : Name) → IsNameText table.text → IsStatement levels (Said table.text 11 ∷ Way 7 ∷ []) (printed_lexemes (Drop (plain table)))
unfolding word_kind
dropped levels table is = is_statement levels (later (later (later (later (later (later (later (here (and_way 7 (word_then (codes "DROP") refl (word_then (codes "TABLE") refl (named 11 table.text is))))))))))))

pub undropped : (levels : ℕ) (table : Name) → IsNameText table.text → IsStatement levels (Said table.text 13 ∷ Way 8 ∷ []) (printed_lexemes (Undrop (plain table)))
unfolding word_kind
undropped levels table is = is_statement levels (later (later (later (later (later (later (later (later (here (and_way 8 (word_then (codes "UNDROP") refl (word_then (codes "TABLE") refl (named 13 table.text is)))))))))))))

pub truncated : (levels : ℕ) (table : Name) → IsNameText table.text → IsStatement levels (Said table.text 15 ∷ Way 9 ∷ []) (printed_lexemes (Truncate (plain table)))
unfolding word_kind
truncated levels table is = is_statement levels (later (later (later (later (later (later (later (later (later (here (and_way 9 (word_then (codes "TRUNCATE") refl (in_turn (here (word_of TABLE nowhere 9 (codes "TABLE") refl)) (named 15 table.text is))))))))))))))

pub copied : (levels : ℕ) (table : Name) → IsNameText table.text → (file : Quoted) → IsStatement levels (Said table.text 10 ∷ Said file.text (place_behind 0 (codes "COPY" ∷ codes "INTO" ∷ table.text ∷ codes "FROM" ∷ [])) ∷ Way 4 ∷ []) (printed_lexemes (Dml (CopyRows (record { table = plain table; file = file }))))
unfolding word_kind
copied levels table is file = is_statement levels (later (later (later (later (here (and_way 4 (word_then (codes "COPY") refl (word_then (codes "INTO") refl (in_turn (named 10 table.text is) (word_then (codes "FROM") refl (text_quoted _ file.text)))))))))))

-- what is changed, behind the table's name
pub altered : (levels : ℕ) (table : Name) (changing : Change) (m : List Mark) → IsNameText table.text → IsSpelledBy change (12 + length table.text + 1) (change_words changing) m
    → IsStatement levels (Said table.text 12 ∷ (m ++ Way 10 ∷ [])) (printed_lexemes (Alter (record { table = plain table; change = changing })))
unfolding word_kind
altered levels table changing m is changed = is_statement levels (later (later (later (later (later (later (later (later (later (later (here (and_way 10 (word_then (codes "ALTER") refl (word_then (codes "TABLE") refl (in_turn (named 12 table.text is) changed)))))))))))))))

pub renamed : (at : ℕ) (table : Name) → IsNameText table.text → IsSpelledBy change at (change_words (RenameTo (plain table))) (Said table.text (place_behind at (codes "RENAME" ∷ codes "TO" ∷ [])) ∷ Way 0 ∷ [])
unfolding word_kind
renamed at table is = here (word_then (codes "RENAME") refl (word_then (codes "TO") refl (in_turn (named _ table.text is) (noted 0 _))))

pub swapped : (at : ℕ) (table : Name) → IsNameText table.text → IsSpelledBy change at (change_words (SwapWith (plain table))) (Said table.text (place_behind at (codes "SWAP" ∷ codes "WITH" ∷ [])) ∷ Way 1 ∷ [])
unfolding word_kind
swapped at table is = later (here (word_then (codes "SWAP") refl (word_then (codes "WITH") refl (in_turn (named _ table.text is) (noted 1 _)))))

pub retained : (at : ℕ) (days : Number) → days.value < 2 ^ 63 → IsSpelledBy change at (change_words (SetRetention days)) (Meant (pos days.value) (place_behind at (codes "SET" ∷ codes "DATA_RETENTION_TIME_IN_DAYS" ∷ codes "=" ∷ [])) ∷ Way 2 ∷ [])
unfolding word_kind sign_kind
retained at days less = later (later (here (word_then (codes "SET") refl (and_way 2 (word_then (codes "DATA_RETENTION_TIME_IN_DAYS") refl (word_then (codes "=") refl (numbered _ days.value less)))))))

pub clustered : (at : ℕ) (column : Name) → IsNameText column.text → IsSpelledBy change at (change_words (ClusterBy column)) (Said column.text (place_behind at (codes "CLUSTER" ∷ codes "BY" ∷ codes "(" ∷ [])) ∷ Way 3 ∷ [])
unfolding word_kind sign_kind
clustered at column is = later (later (later (here (and_way 3 (word_then (codes "CLUSTER") refl (word_then (codes "BY") refl (word_then (codes "(") refl (in_turn (named _ column.text is) (word_of CLOSE nowhere _ (codes ")") refl)))))))))

pub key_dropped : (at : ℕ) → IsSpelledBy change at (change_words DropClusteringKey) (Way 4 ∷ [])
unfolding word_kind
key_dropped at = later (later (later (later (here (word_then (codes "DROP") refl (word_then (codes "CLUSTERING") refl (word_then (codes "KEY") refl (noted 4 _))))))))

pub suspended : (at : ℕ) → IsSpelledBy change at (change_words SuspendRecluster) (Way 5 ∷ [])
unfolding word_kind
suspended at = later (later (later (later (later (here (word_then (codes "SUSPEND") refl (word_then (codes "RECLUSTER") refl (noted 5 _))))))))

pub resumed : (at : ℕ) → IsSpelledBy change at (change_words ResumeRecluster) (Way 6 ∷ [])
unfolding word_kind
resumed at = later (later (later (later (later (later (word_then (codes "RESUME") refl (word_then (codes "RECLUSTER") refl (noted 6 _))))))))
