use Rattle.std.proofs.Common.{arith, take}
use Rattle.tt_value.specs.declared.predicate.Comparison.TheVariants.{Equal}
use Rattle.tt_value.specs.declared.predicate.Operand.TheVariants as operand
use Rattle.tt_value.specs.trees.Scope.{table_scope}
use Rattle.tt_filter.specs.Parts as parts
use Rattle.tt_filter.proofs.Merging.{alike}
use Rattle.tt_filter.proofs.Operands.{literal_on}
use Rattle.tt_filter.proofs.Walking.{listed_so_far, listed_next, listed_whole}
use Rattle.tt_filter.proofs.selecting.in_list.Goals as goal

pub or-requires : goal.or-requires
or-requires c =
    alike (listed_so_far (table_scope c.args.schema.now) c.args.operand.now (take c.loop-literal.literal-index c.args.literals.now)) (parts.comparing (table_scope c.args.schema.now) c.args.operand.now Equal (operand.Literal c.literal-item.result)) c.args.partition.now.rows c.loop-literal.found c.in_ok-same.same
    c.loop-literal.invariant.0
    (literal_on (table_scope c.args.schema.now) c.args.partition.now.rows c.in_ok-same.same c.count_of-count.result c.count_of-count.ensures c.args.operand.now c.literal-item.result _ Equal c.loop-literal.invariant.1 c.in_ok-same.ensures)

pub loop-literal-preserved : goal.loop-literal-preserved
loop-literal-preserved c = (
  listed_next (table_scope c.args.schema.now) c.args.partition.now.rows c.or.new.self c.args.operand.now c.args.literals.now c.loop-literal.literal-index c.literal-item.result (omega arith) c.literal-item.is
      (c.or.ensures (listed_so_far (table_scope c.args.schema.now) c.args.operand.now (take c.loop-literal.literal-index c.args.literals.now)) (parts.comparing (table_scope c.args.schema.now) c.args.operand.now Equal (operand.Literal c.literal-item.result)) c.args.partition.now.rows
      c.loop-literal.invariant.0
      (literal_on (table_scope c.args.schema.now) c.args.partition.now.rows c.in_ok-same.same c.count_of-count.result c.count_of-count.ensures c.args.operand.now c.literal-item.result _ Equal c.loop-literal.invariant.1 c.in_ok-same.ensures)),
  c.loop-literal.invariant.1,
)

pub returns-clause-truths : goal.returns-clause-truths
returns-clause-truths c =
    listed_whole (table_scope c.args.schema.now) c.args.partition.now.rows c.loop-literal.found c.args.operand.now c.args.literals.now c.loop-literal.literal-index c.loop-literal-test.false c.loop-literal.invariant.0
