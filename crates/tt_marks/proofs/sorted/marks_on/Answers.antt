use Rattle.std.proofs.Common.{◌≡◌, ◌≤◌, ◌-◌, nat_lt, nat_le, true, false, length, take, drop, rules, subst, ap, ◌∙◌}
use Rattle.std.specs.List.Sorted.{IsPartitionPoint}
use Rattle.std.proofs.lemmas.List.{take_rest}
use Rattle.std.proofs.lemmas.List.Sorted.{IsPartitionPoint-from_clause, IsPartitionedBy-ltb, IsPartitionedBy-leb, IsNonDecreasingBy-take, IsNonDecreasingBy-drop}
use Rattle.tt_marks.proofs.Searching.{marks_on_parts, tables_rise}
use Rattle.tt_marks.proofs.sorted.marks_on.Goals as goal

pub returns : goal.returns
returns c =
    let ms = c.args.marks.now in
    let t = c.args.table in
    let i = c.partition_point.result in
    let j = c.partition_point-2.result in
    let rise = tables_rise ms c.requires in
    let rest = take (length ms - i) (drop i ms) in
    let same = take_rest ms i in
    let first = IsPartitionPoint-from_clause (λ m. nat_lt m.table t) ms i c.partition_point.ensures.partitioned
    (IsPartitionedBy-ltb (λ m. m.table) ms t rise) (λ a r f' k. search rules) in
    let second = IsPartitionPoint-from_clause (λ m. nat_le m.table t) rest j c.partition_point-2.ensures.partitioned
    (IsPartitionedBy-leb (λ m. m.table) rest t (IsNonDecreasingBy-take (λ m. m.table) _ _ (IsNonDecreasingBy-drop (λ m. m.table) i ms rise)))
    (λ a r f' k. search rules) in
    ap (take j) same
    ∙ marks_on_parts t ms i j c.partition_point.ensures.bound (subst (λ r. j ≤ length r) same c.partition_point-2.ensures.bound) first
    (subst (λ r. IsPartitionPoint (λ m. nat_le m.table t ≡ true) (λ m. nat_le m.table t ≡ false) r j) same second)
