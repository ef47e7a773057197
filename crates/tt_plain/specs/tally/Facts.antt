-- The facts of the store as of a moment: its tables with their layouts, the stored parts, and what is pinned.
use Rattle.std.specs.Prelude.{Bool, List, None, Option, Some, [], filter, flat_map, map, not, ℕ, ◌++◌}
use Rattle.tt_layout.specs.declared.facts.Facts.{Facts}
use Rattle.tt_layout.specs.declared.facts.PartFacts.{PartFacts}
use Rattle.tt_layout.specs.declared.facts.TableFacts.{TableFacts}
use Rattle.tt_layout.specs.Holds.{is_named}
use Rattle.tt_plain.specs.declared.store.Plain.{Plain}
use Rattle.tt_plain.specs.declared.store.PlainTable.{PlainTable}
use Rattle.tt_plain.specs.declared.tally.Tally.{Tally}
use Rattle.tt_plain.specs.declared.tally.TallyPart.{TallyPart}
use Rattle.tt_plain.specs.declared.tally.TallyPending.{TallyPending}
use Rattle.tt_plain.specs.declared.tally.TallyPin.{TallyPin}
use Rattle.tt_plain.specs.declared.tally.TallyRound.{TallyRound}
use Rattle.tt_plain.specs.tally.Layouts.{layouts_of}

abbrev pub facts_of_table : Tally → PlainTable → TableFacts
facts_of_table tally table = record {
  number = table.number;
  name = table.name;
  group = table.group;
  made = table.made;
  dropped = table.dropped;
  regimes = table.regimes;
  layouts = layouts_of tally table.number;
}

abbrev pub facts_of_part : TallyPart → PartFacts
facts_of_part part = record { number = part.number; origin = part.origin; rows = part.rows; bytes = part.bytes }

abbrev pub stored_parts : Tally → List TallyPart
stored_parts tally = filter (λ (part : TallyPart). part.stored) tally.parts

abbrev pub round_parts : Option TallyRound → List ℕ
round_parts None = []
round_parts (Some round) = round.parts

-- what open statements pin, then the open round's parts, then what open transactions added
unfoldable pub pinned_parts : Tally → List ℕ
pinned_parts tally =
    flat_map (λ (pin : TallyPin). pin.parts) tally.pins ++ round_parts tally.round
    ++ flat_map (λ (lists : TallyPending). lists.added) tally.pending

unfoldable pub facts_at : Plain → ℕ → Facts
facts_at store moment = record {
  at = moment;
  tables = map (facts_of_table store.tally) store.tables;
  parts = map facts_of_part (stored_parts store.tally);
  pins = pinned_parts store.tally;
}

-- whether a part is named at a moment
abbrev pub is_named_at : Plain → ℕ → ℕ → Bool
is_named_at store moment number = is_named (facts_at store moment) number

-- the stored parts that are not named at a moment, which may be purged
unfoldable pub doomed_at : Plain → ℕ → List ℕ
doomed_at store moment =
    filter (λ number. not (is_named_at store moment number)) (map (λ (part : TallyPart). part.number) (stored_parts store.tally))
