-- Refusals 11 to 15 of one table that is read.
use Rattle.std.proofs.Common.{◌≡◌, Bool, true, false, [], ◌∷◌, Option, Some, None, refl}
use Rattle.std.specs.Prelude.{filter_map, ℤ}
use Rattle.tt_value.specs.declared.name.TableName.{TableName}
use Rattle.tt_sql.specs.declared.query.Clause.{Clause}
use Rattle.tt_history.specs.declared.reply.Refusal.{Refusal}
use Rattle.tt_plain.specs.declared.store.PlainTable.{PlainTable}
use Rattle.tt_plain.specs.asked.Asked.{Asked, table_asked}
use Rattle.tt_plain.specs.opening.Point.{At, NoStatement, NotEnded, Point, point_of}
use Rattle.tt_plain.specs.refusal.{first_some, head_of}
use Rattle.tt_plain.specs.refusal.InFuture.{is_above_moment}
use Rattle.tt_plain.specs.refusal.NotYetMade.{made_later}
use Rattle.tt_plain.specs.refusal.OutsideRetention.{horizon_beyond}
use Rattle.tt_travel.specs.Travel.{judged}
use Rattle.tt_model_asked.specs.TravelAs.{judged_refusal, refusals_over}

head_one : {A B : Type 0} (f : A → Option B) (a : A) → head_of (filter_map f (a ∷ [])) ≡ f a
head_one {B = B} f a = by (f a) refl
  where
    by : (found : Option B) → f a ≡ found → head_of (filter_map f (a ∷ [])) ≡ f a
    by None h = rw h refl
    by (Some b) h = rw h refl

abbrev pub by_clause : Asked → TableName → Option Clause → Option Refusal
by_clause asked name None = None
by_clause asked name (Some clause) = judged_refusal asked.moment (table_asked asked name) (judged asked.moment (point_of asked clause))

no_clause : (asked : Asked) (name : TableName) (found : Option PlainTable) → table_asked asked name ≡ found → first_some (refusals_over asked (record { table = name; clause = None } ∷ [])) ≡ None
no_clause asked name None h = rw h refl
no_clause asked name (Some table) h = rw h refl

at_moment : (asked : Asked) (name : TableName) (clause : Clause) (x : ℤ) (found : Option PlainTable) (above : Bool) → point_of asked clause ≡ At x → table_asked asked name ≡ found → is_above_moment asked.moment (At x) ≡ above
    → first_some (refusals_over asked (record { table = name; clause = Some clause } ∷ [])) ≡ judged_refusal asked.moment (table_asked asked name) (judged asked.moment (point_of asked clause))
at_moment asked name clause x None true p h a = rw (p, h, a) refl
at_moment asked name clause x (Some table) true p h a = rw (p, h, a) refl
at_moment asked name clause x None false p h a = rw (p, h, a) refl
at_moment asked name clause x (Some table) false p h a =
    rw (p, h, a, head_one made_later (table, x), head_one (horizon_beyond asked.moment) (table, x)) refl

with_clause : (asked : Asked) (name : TableName) (clause : Clause) (point : Point) (found : Option PlainTable) → point_of asked clause ≡ point → table_asked asked name ≡ found
    → first_some (refusals_over asked (record { table = name; clause = Some clause } ∷ [])) ≡ judged_refusal asked.moment (table_asked asked name) (judged asked.moment (point_of asked clause))
with_clause asked name clause (At x) found p h = at_moment asked name clause x found (is_above_moment asked.moment (At x)) p h refl
with_clause asked name clause NoStatement None p h = rw p refl
with_clause asked name clause NoStatement (Some table) p h = rw p refl
with_clause asked name clause NotEnded None p h = rw p refl
with_clause asked name clause NotEnded (Some table) p h = rw p refl

pub read_is : (asked : Asked) (name : TableName) (clause : Option Clause) → first_some (refusals_over asked (record { table = name; clause = clause } ∷ [])) ≡ by_clause asked name clause
read_is asked name None = no_clause asked name (table_asked asked name) refl
read_is asked name (Some clause) = with_clause asked name clause (point_of asked clause) (table_asked asked name) refl refl
