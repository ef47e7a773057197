-- What a predicate takes of a table that a statement holds.
use Rattle.std.specs.Prelude.{◌≡◌, ℕ, Bool, true, not, ◌&&◌, List, Option, Some, None}
use Rattle.std.specs.List.{AllByRecursion, filter}
use Rattle.tt_value.specs.declared.value.Row.{Row}
use Rattle.tt_value.specs.declared.value.Schema.{Schema}
use Rattle.tt_value.specs.declared.predicate.Predicate.{Predicate}
use Rattle.tt_value.specs.trees.Predicates.{takes}
use Rattle.tt_value.specs.trees.Scope.{table_scope}
use Rattle.tt_zone.specs.declared.truth_set.TruthSet.{TruthSet}
use Rattle.tt_zone.specs.Possible.{may_match}
use Rattle.tt_partition.specs.Cuts.{kinds_of}
use Rattle.tt_partition.specs.Table.{Table, zones_of}
use Rattle.tt_state.specs.declared.ticket.Seen.{Seen}

-- each part is of the columns of the table
abbrev pub IsOfItsSchema : Seen → Type 0
IsOfItsSchema seen = AllByRecursion (λ (part : ℕ × Table). part.1.kinds ≡ kinds_of seen.schema) seen.parts

-- the rows that a predicate takes, by the columns of the table
abbrev pub rows_taken : Schema → Option Predicate → List Row → List Row
rows_taken schema predicate rows = filter (takes (table_scope schema) predicate) rows

-- nothing but true is possible
abbrev pub is_sure : TruthSet → Bool
is_sure set = not set.has_false && not set.has_unknown

-- whether the true zones of a part leave a match possible; without a predicate each row matches
abbrev pub may_take : Schema → Option Predicate → Table → Bool
may_take schema None part = true
may_take schema (Some p) part = may_match schema (zones_of part) p

abbrev pub may_hold : Schema → Option Predicate → ℕ × Table → Bool
may_hold schema predicate part = may_take schema predicate part.1
