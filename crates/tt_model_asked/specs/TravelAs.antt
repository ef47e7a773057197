-- Refusals 11 to 15 of the tables that are read at points.
use Rattle.std.specs.List.{list_any}
use Rattle.std.specs.Prelude.{Err, List, None, Ok, Option, Result, Some, [], filter_map, option_map, ℕ, ℤ, ◌∷◌}
use Rattle.tt_history.specs.declared.reply.Refusal.{Refusal}
use Rattle.tt_sql.specs.declared.query.Source.{Source}
use Rattle.tt_plain.specs.declared.store.PlainTable.{PlainTable}
use Rattle.tt_plain.specs.asked.Asked.{Asked}
use Rattle.tt_plain.specs.opening.Point.{Point, point_of, travel_of}
use Rattle.tt_plain.specs.refusal.{first_some, head_of, where_true}
use Rattle.tt_plain.specs.refusal.InFuture.{in_future, is_above_moment}
use Rattle.tt_plain.specs.refusal.NotYetMade.{made_later, not_yet_made}
use Rattle.tt_plain.specs.refusal.OutsideRetention.{horizon_beyond, outside_retention}
use Rattle.tt_plain.specs.refusal.StatementOpen.{is_not_ended, statement_open}
use Rattle.tt_plain.specs.refusal.UnknownStatement.{is_no_statement, unknown_statement}
use Rattle.tt_history.specs.declared.reply.Refusal.TheVariants as refusal

-- of one table at one moment
abbrev pub travel_refusal : ℕ → PlainTable × ℤ → Option Refusal
travel_refusal moment travel = first_some (
    option_map refusal.NotYetMade (made_later travel) ∷ option_map refusal.OutsideRetention (horizon_beyond moment travel) ∷ [])

-- of a table, given what its point is judged to be
abbrev pub judged_refusal : ℕ → Option PlainTable → Result ℤ Refusal → Option Refusal
judged_refusal moment table (Err refusal) = Some refusal
judged_refusal moment None (Ok x) = None
judged_refusal moment (Some table) (Ok x) = travel_refusal moment (table, x)

abbrev pub points_over : Asked → List Source → List Point
points_over asked sources = filter_map (λ (s : Source). option_map (point_of asked) s.clause) sources

abbrev pub travels_over : Asked → List Source → List (PlainTable × ℤ)
travels_over asked sources = filter_map (travel_of asked) sources

-- of these tables that are read
abbrev pub refusals_over : Asked → List Source → List (Option Refusal)
refusals_over asked sources =
    where_true (list_any (is_above_moment asked.moment) (points_over asked sources)) refusal.InFuture
    ∷ where_true (list_any is_no_statement (points_over asked sources)) refusal.UnknownStatement
    ∷ where_true (list_any is_not_ended (points_over asked sources)) refusal.StatementOpen
    ∷ option_map refusal.NotYetMade (head_of (filter_map made_later (travels_over asked sources)))
    ∷ option_map refusal.OutsideRetention (head_of (filter_map (horizon_beyond asked.moment) (travels_over asked sources))) ∷ []

-- of a statement
abbrev pub refusals_of_points : Asked → List (Option Refusal)
refusals_of_points asked =
    in_future asked ∷ unknown_statement asked ∷ statement_open asked ∷ not_yet_made asked ∷ outside_retention asked ∷ []
