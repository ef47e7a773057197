-- Marks without their places.
use Rattle.std.specs.Prelude.{List, map}
use Rattle.tt_sql.specs.grammar.Grammar.{Mark, Way, At, Said, Prefix, Meant}

-- marks but for their places
abbrev pub unplaced_mark : Mark → Mark
unplaced_mark (Way k) = Way k
unplaced_mark (At place) = At 0
unplaced_mark (Said text place) = Said text 0
unplaced_mark (Prefix text place) = Prefix text 0
unplaced_mark (Meant n place) = Meant n 0

abbrev pub unplaced : List Mark → List Mark
unplaced m = map unplaced_mark m
