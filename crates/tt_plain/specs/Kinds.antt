-- When kinds fit.
use Rattle.std.specs.Prelude.{ℕ, Bool, true, false, List, [], ◌∷◌, Option, Some, is_some}
use Rattle.tt_value.specs.declared.value.Kind.{Kind}
use Rattle.tt_value.specs.declared.value.Kind.TheVariants as kinds
use Rattle.tt_value.specs.declared.value.Value.{Value}
use Rattle.tt_value.specs.declared.value.Value.TheVariants as value
use Rattle.tt_value.specs.declared.name.Literal.{Literal}
use Rattle.tt_value.specs.trees.Scope.{kind_of}
use Rattle.tt_value.specs.calendar.Reading.{day_of}

abbrev pub is_same_kind : Kind → Kind → Bool
is_same_kind kinds.Int kinds.Int = true
is_same_kind kinds.Date kinds.Date = true
is_same_kind kinds.Varchar kinds.Varchar = true
is_same_kind _ _ = false

-- what has no kind fits every kind
abbrev pub fits : Option Kind → Option Kind → Bool
fits (Some a) (Some b) = is_same_kind a b
fits _ _ = true

-- Whether a written value fits what stands on the other side: beside a DATE a text in quotes is read as a date.
abbrev pub literal_fits : Option Kind → Value → Bool
literal_fits (Some kinds.Date) (value.Text bytes) = is_some (day_of bytes)
literal_fits other v = fits other (kind_of v)

abbrev pub unless : Bool → ℕ → List ℕ
unless true place = []
unless false place = place ∷ []

abbrev pub misfit_literal : Option Kind → Literal → List ℕ
misfit_literal other l = unless (literal_fits other l.value) l.place

abbrev pub is_date_kind : Option Kind → Bool
is_date_kind (Some kinds.Date) = true
is_date_kind _ = false

abbrev pub is_text : Value → Bool
is_text (value.Text bytes) = true
is_text _ = false
