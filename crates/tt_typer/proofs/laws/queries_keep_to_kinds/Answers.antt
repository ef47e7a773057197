use Rattle.tt_typer.proofs.StatementKinds.{filter_keeps, items_keep, group_keeps, groups_keep, answer_keeps, keys_keep}
use Rattle.tt_typer.proofs.GroupRows.{groups_have_rows}
use Rattle.tt_typer.proofs.laws.queries_keep_to_kinds.Goals as goal

pub returns : goal.returns
returns c = record {
  filter = λ scope q row p typed have is. filter_keeps scope q typed row have p is;
  items = λ scope q items rows typed is all. items_keep scope q typed items is rows all;
  group_columns = λ scope q row typed have. group_keeps scope q typed row have;
  groups = λ scope q rows typed all. groups_keep scope q typed rows all;
  first_rows = λ scope q rows typed reads. groups_have_rows scope q typed reads rows;
  answer = λ scope q rows answer typed all is. answer_keeps scope q typed rows answer all is;
  keys = λ scope q typed. keys_keep scope q typed;
}
