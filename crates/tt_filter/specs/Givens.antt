-- A value that is lent, as a value.
use Rattle.tt_value.specs.declared.value.Value.{Value}
use Rattle.tt_value.specs.declared.value.Value.TheVariants as value
use Rattle.tt_filter.specs.declared.given.Given.{Given}
use Rattle.tt_filter.specs.declared.given.Given.TheVariants as given

abbrev pub given_in : Given → Value
given_in given.Null = value.Null
given_in (given.Int n) = value.Int n
given_in (given.Date day) = value.Date day
given_in (given.Text bytes) = value.Text bytes.now
