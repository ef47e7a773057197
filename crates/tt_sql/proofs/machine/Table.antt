-- The grammar as it is read passes the tests.
use Rattle.std.proofs.Common.{◌≡◌, ℕ, zero, suc, true, false, refl}
use Rattle.tt_sql.specs.grammar.Grammar.{Rule, Expr, Negated, Predicate, Unit, nowhere}
use Rattle.tt_sql.proofs.machine.Decisions.{first, empty, fit, guarded, lean, whole, within, IsTable, tests}
use Rattle.tt_sql.specs.machine.Factored.{read_rule, read_other, read_unit, read_statement}

rule_begins : (r : Rule) (d : ℕ) → within tests.kinds (first tests (read_rule r d)) (tests.front r) ≡ true
unfolding first empty read_other read_unit
rule_begins Expr zero = refl
rule_begins Expr (suc d) = refl
rule_begins Negated zero = refl
rule_begins Negated (suc d) = refl
rule_begins Predicate zero = refl
rule_begins Predicate (suc d) = refl
rule_begins Unit zero = refl
rule_begins Unit (suc d) = refl

rule_fits : (r : Rule) (d : ℕ) → fit tests (tests.follow r) (read_rule r d) ≡ true
unfolding fit first empty read_other read_unit
rule_fits Expr zero = refl
rule_fits Expr (suc d) = refl
rule_fits Negated zero = refl
rule_fits Negated (suc d) = refl
rule_fits Predicate zero = refl
rule_fits Predicate (suc d) = refl
rule_fits Unit zero = refl
rule_fits Unit (suc d) = refl

rule_guards : (r : Rule) (d : ℕ) → guarded false (read_rule r d) ≡ true
unfolding guarded empty read_other read_unit
rule_guards Expr zero = refl
rule_guards Expr (suc d) = refl
rule_guards Negated zero = refl
rule_guards Negated (suc d) = refl
rule_guards Predicate zero = refl
rule_guards Predicate (suc d) = refl
rule_guards Unit zero = refl
rule_guards Unit (suc d) = refl

rule_solid : (r : Rule) (d : ℕ) → empty (read_rule r d) ≡ false
unfolding empty read_other read_unit
rule_solid Expr zero = refl
rule_solid Expr (suc d) = refl
rule_solid Negated zero = refl
rule_solid Negated (suc d) = refl
rule_solid Predicate zero = refl
rule_solid Predicate (suc d) = refl
rule_solid Unit zero = refl
rule_solid Unit (suc d) = refl

rule_completes : (r : Rule) (d : ℕ) → lean false (read_rule r d) ≡ true
unfolding lean read_other read_unit
rule_completes Expr zero = refl
rule_completes Expr (suc d) = refl
rule_completes Negated zero = refl
rule_completes Negated (suc d) = refl
rule_completes Predicate zero = refl
rule_completes Predicate (suc d) = refl
rule_completes Unit zero = refl
rule_completes Unit (suc d) = refl

rule_pending : (r : Rule) (d : ℕ) → whole (read_rule r d) ≡ true
unfolding whole lean read_other read_unit
rule_pending Expr zero = refl
rule_pending Expr (suc d) = refl
rule_pending Negated zero = refl
rule_pending Negated (suc d) = refl
rule_pending Predicate zero = refl
rule_pending Predicate (suc d) = refl
rule_pending Unit zero = refl
rule_pending Unit (suc d) = refl

pub table : IsTable tests read_rule
table = record {
  begins = rule_begins;
  fits = rule_fits;
  guards = rule_guards;
  solid = rule_solid;
  completes = rule_completes;
  pending = rule_pending;
}

-- ---- statements

pub statement_ready : (d : ℕ) → (lean true (read_statement d) ≡ true) × (whole (read_statement d) ≡ true)
unfolding whole lean read_other read_unit
statement_ready zero = (refl, refl)
statement_ready (suc d) = (refl, refl)

pub statement_fits : (d : ℕ) → fit tests nowhere (read_statement d) ≡ true
unfolding fit first empty read_other read_unit
statement_fits zero = refl
statement_fits (suc d) = refl
