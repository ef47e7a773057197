-- A value that is lent, as a value.
use Rattle.std.specs.Prelude.{None, Option, Some}
use Rattle.tt_value.specs.declared.value.Value.{Value}
use Rattle.tt_model_meaning.specs.declared.given.Given.{Given}
use Rattle.tt_model_meaning.specs.declared.given.Given.TheVariants as given
use Rattle.tt_value.specs.declared.value.Value.TheVariants as value

abbrev pub given_in : Given → Value
given_in given.Null = value.Null
given_in (given.Int n) = value.Int n
given_in (given.Date day) = value.Date day
given_in (given.Text text) = value.Text text.now

abbrev pub given_if : Option Given → Option Value
given_if None = None
given_if (Some v) = Some (given_in v)
