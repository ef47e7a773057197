use Rattle.std.proofs.lemmas.List.Elements.{All-from_recursion}
use Rattle.tt_plain.specs.ValueKinds.{IsRowOf}
use Rattle.tt_typer.proofs.ChangedRows.{change_adds}
use Rattle.tt_typer.proofs.StatementKinds.{inserted_are_read, listed_are_columns, sets_keep, update_filter_keeps, delete_filter_keeps}
use Rattle.tt_typer.proofs.laws.changes_keep_to_kinds.Goals as goal

pub returns : goal.returns
returns c = record {
  added = λ schema sources rows read staged d removed added count found typed own have staged_are is. All-from_recursion (IsRowOf schema) added (change_adds schema sources rows read staged d found typed own have staged_are removed added count is);
  inserted = λ schema sources read i given found typed have is. inserted_are_read schema sources found read i given typed have is;
  listed = λ schema sources i names typed is. listed_are_columns schema sources i names typed is;
  sets = λ schema sources u row found typed own. sets_keep schema sources found u row typed own;
  update_filter = λ schema sources u row p typed own is. update_filter_keeps schema sources u row p typed own is;
  delete_filter = λ schema sources d row p typed own is. delete_filter_keeps schema sources d row p typed own is;
}
