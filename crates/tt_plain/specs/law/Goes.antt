-- Further laws: a legal history can be brought to its end, and the answer of a query that is not refused depends on the bag of the
-- rows alone.
use Rattle.std.specs.Prelude.{List, Option, Some, [], is_some, ◌++◌, ◌≡◌}
use Rattle.tt_value.specs.declared.value.Row.{Row}
use Rattle.tt_value.specs.values.Bags.{bag_of}
use Rattle.tt_value.specs.trees.Scope.{Scope}
use Rattle.tt_script.specs.declared.script.Script.{Script}
use Rattle.tt_sql.specs.declared.query.Query.{Query}
use Rattle.tt_sql.specs.meaning.Queries.{answer_of}
use Rattle.tt_history.specs.declared.history.Entry.{Entry}
use Rattle.tt_history.specs.declared.reply.Reply.{Reply}
use Rattle.tt_plain.specs.declared.store.Plain.{Plain}
use Rattle.tt_plain.specs.asked.Carried.{Carried}
use Rattle.tt_plain.specs.history.Complete.{IsComplete}
use Rattle.tt_plain.specs.history.Replay.{IsLegal}
use Rattle.tt_plain.specs.history.Replies.{carries_reply}
use Rattle.tt_plain.specs.history.Step.{step_of}
use Rattle.tt_plain.specs.TypeMismatches.{misfit_in_query}
use Rattle.tt_plain.specs.UnknownColumns.{unknown_in_query}

abbrev pub CanBeCompleted : Type 0
CanBeCompleted = (carried : Carried) (program : Script) (history : List Entry) → IsLegal carried program history →
    (later : List Entry) × IsComplete carried program (history ++ later)

abbrev pub AnswersAreOfBags : Type 0
AnswersAreOfBags = (scope : Scope) (q : Query) (rows others : List Row) → unknown_in_query scope q ≡ [] → misfit_in_query scope q ≡ [] →
    bag_of rows ≡ bag_of others → answer_of scope q rows ≡ answer_of scope q others

-- an entry has a reply exactly where it ends a statement
abbrev pub RepliesStandAtEnds : Type 0
RepliesStandAtEnds = (carried : Carried) (program : Script) (store : Plain) (entry : Entry) (next : Plain × Option Reply) →
    step_of carried program store entry ≡ Some next → is_some next.1 ≡ carries_reply carried program entry entry.actor
