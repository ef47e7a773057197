-- The tables that a statement names, as a list.
use Rattle.std.specs.Prelude.{List, [], ◌∷◌}
use Rattle.tt_value.specs.declared.name.TableName.{TableName}
use Rattle.tt_model_asked.specs.declared.named.Named.{Named}
use Rattle.tt_model_asked.specs.declared.named.Named.TheVariants as named

abbrev pub named_in : Named → List TableName
named_in named.Nothing = []
named_in (named.One name) = name.now ∷ []
named_in (named.Two first second) = first.now ∷ second.now ∷ []
