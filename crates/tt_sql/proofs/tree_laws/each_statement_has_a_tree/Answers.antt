-- The tree of a derivation.
use Rattle.tt_sql.proofs.grammar.Lexemes.{lexemes_are}
use Rattle.tt_sql.proofs.trees.Statements.{whole_statement}
use Rattle.tt_sql.proofs.determined.Statements.{statement_given}
use Rattle.tt_sql.proofs.tree_laws.each_statement_has_a_tree.Goals as goal

pub returns : goal.returns
returns c = record { tokens = λ levels m ts are d. let t = whole_statement levels m ts are d in (t.tree, t.same, t.given); text = lexemes_are; given = statement_given }
