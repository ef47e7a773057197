-- What a clause means at a moment, or why it is refused.
use Rattle.std.specs.Prelude.{◌≡◌, Err, List, None, Ok, Option, Result, Some, [], fold, if◌then◌else◌, min, option_and_then, position, slice_get, ℕ, ℤ, ◌*◌, ◌-◌, ◌==◌, ◌^◌, ◌∷◌}
use Rattle.std.specs.Str.{bytes_eq}
use Rattle.tt_value.specs.declared.name.Number.{Number}
use Rattle.tt_history.specs.declared.reply.Refusal.{Refusal}
use Rattle.tt_script.specs.declared.script.Script.{Script}
use Rattle.tt_sql.specs.declared.query.Clause.{Clause}
use Rattle.tt_sql.specs.declared.query.Offset.{Offset}
use Rattle.tt_plain.specs.asked.Asked.{Asked}
use Rattle.tt_plain.specs.opening.Point.{At, NoStatement, NotEnded, Point, point_of}
use Rattle.tt_plain.specs.refusal.{first_some}
use Rattle.tt_plain.specs.refusal.InFuture.{in_future, is_above_moment}
use Rattle.tt_plain.specs.refusal.StatementOpen.{statement_open}
use Rattle.tt_plain.specs.refusal.UnknownStatement.{unknown_statement}
use Rattle.tt_plain.specs.stored.Points.{no_point_yet, query_ids}
use Rattle.tt_history.specs.declared.reply.Refusal.TheVariants as refusal

-- what is asked at this moment, over this program, with these points of its statements
pub record IsAskedAt (now : ℕ) (ends : List (Option ℕ)) (script : Script) (asked : Asked) : Type 0 where
  pub moment : asked.moment ≡ now
  pub points : asked.store.points ≡ ends
  pub program : asked.program ≡ script

-- a point that is above the moment is refused, and so is a clause that has none
abbrev pub judged : ℕ → Point → Result ℤ Refusal
judged now (At x) = if is_above_moment now (At x) then Err refusal.InFuture else Ok x
judged now NoStatement = Err refusal.UnknownStatement
judged now NotEnded = Err refusal.StatementOpen

-- what a clause means, whatever else is asked at this moment over this program with these points
abbrev pub IsPointOf : (now : ℕ) (ends : List (Option ℕ)) (script : Script) → Clause → Result ℤ Refusal → Type 0
IsPointOf now ends script clause result = (asked : Asked) → IsAskedAt now ends script asked → result ≡ judged now (point_of asked clause)

abbrev pub refusal_in : Result ℤ Refusal → Option Refusal
refusal_in (Ok x) = None
refusal_in (Err refusal) = Some refusal

-- of the refusals of points the one with the least number
abbrev pub point_refusal : Asked → Option Refusal
point_refusal asked = first_some (in_future asked ∷ unknown_statement asked ∷ statement_open asked ∷ [])

-- ---- parts

abbrev pub product_of : List Number → ℕ
product_of factors = fold (λ product (factor : Number). product * factor.value) 1 factors

abbrev pub most_seconds : Offset → ℕ
most_seconds offset = min (product_of offset.factors) (2 ^ 64 - 1)

-- what stands for the statement whose query id the text is
abbrev pub point_named : Script → List (Option ℕ) → List ℕ → Option (Option ℕ)
point_named program points text = option_and_then (slice_get points) (position (λ id. bytes_eq id text) (query_ids program))

abbrev pub end_of : Option (Option ℕ) → Result ℕ Refusal
end_of None = Err refusal.UnknownStatement
end_of (Some None) = Err refusal.UnknownStatement
end_of (Some (Some point)) = if point == no_point_yet then Err refusal.StatementOpen else Ok point
