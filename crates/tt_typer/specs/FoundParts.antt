-- What is found of a part of an expression: of the places where kinds do not fit in it only the leftmost.
use Rattle.std.specs.Prelude.{ℕ, Option, Some}
use Rattle.tt_value.specs.declared.value.Kind.TheVariants as kinds
use Rattle.tt_plain.specs.Places.{earlier, leftmost}
use Rattle.tt_plain.specs.Kinds.{fits, unless}
use Rattle.tt_plain.specs.Expressions as spec
use Rattle.tt_typer.specs.declared.parts.Part.{Part}

abbrev pub as_found : spec.Part → Part
as_found p = record { place = p.place; kind = p.kind; misfit = leftmost p.misfits }

abbrev pub calculated_found : Part → Option ℕ
calculated_found p = earlier (leftmost (unless (fits (Some kinds.Int) p.kind) p.place)) p.misfit
