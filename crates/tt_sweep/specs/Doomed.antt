-- The stored parts that nothing names.
use Rattle.std.specs.Prelude.{ℕ, List, map, filter, not}
use Rattle.tt_layout.specs.declared.facts.PartFacts.{PartFacts}
use Rattle.tt_layout.specs.declared.facts.Facts.{Facts}
use Rattle.tt_layout.specs.Holds.{is_named}

abbrev pub numbers_of : List PartFacts → List ℕ
numbers_of parts = map (λ (part : PartFacts). part.number) parts

-- in the order of the facts
abbrev pub unnamed_parts : Facts → List ℕ
unnamed_parts facts = filter (λ number. not (is_named facts number)) (numbers_of facts.parts)
