use Rattle.std.proofs.Common.{◌≡◌, Bool, true, List, map, ap, sym, subst, ◌∙◌}
use Rattle.std.specs.Prelude.{IfOk, Option, replicate}
use Rattle.tt_value.specs.declared.predicate.Predicate.{Predicate}
use Rattle.tt_value.specs.trees.Predicates.{takes}
use Rattle.tt_value.specs.trees.Scope.{table_scope}
use Rattle.tt_rewrite.proofs.Bits.{all_set}
use Rattle.tt_rewrite.proofs.taking.taken_bits.Goals as goal

pub returns-in-None : goal.returns-in-None
returns-in-None c =
    let rows = c.args.partition.now.rows in
    let each : replicate c.row_count.result true ≡ map (takes (table_scope c.args.schema.now) c.args.filter.now) rows =
    ap (λ n. replicate n true) c.row_count.ensures ∙ all_set rows ∙ ap (λ (f : Option Predicate). map (takes (table_scope c.args.schema.now) f) rows) (sym c.in-None.is) in
    subst (λ (wanted : List Bool). IfOk c.filled.result (λ bits. bits ≡ wanted)) each c.filled.ensures
