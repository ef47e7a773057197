-- The three truth values.
use Rattle.std.specs.Prelude.{Bool, true, false}
use Rattle.tt_value.specs.declared.predicate.Truth.{Truth}
use Rattle.tt_value.specs.declared.predicate.Truth.TheVariants.{True, False, Unknown}

abbrev pub truth_of_bool : Bool → Truth
truth_of_bool true = True
truth_of_bool false = False

abbrev pub not_truth : Truth → Truth
not_truth True = False
not_truth False = True
not_truth Unknown = Unknown

-- false where one side is, else unknown where one side is
abbrev pub and_truth : Truth → Truth → Truth
and_truth False b = False
and_truth True b = b
and_truth Unknown False = False
and_truth Unknown b = Unknown

-- true where one side is, else unknown where one side is
abbrev pub or_truth : Truth → Truth → Truth
or_truth True b = True
or_truth False b = b
or_truth Unknown True = True
or_truth Unknown b = Unknown

-- NOT, where it is written
abbrev pub not_if : Bool → Truth → Truth
not_if false t = t
not_if true t = not_truth t

abbrev pub is_true : Truth → Bool
is_true True = true
is_true _ = false
