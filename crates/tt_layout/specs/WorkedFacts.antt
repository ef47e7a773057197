-- Tables and parts of the worked rows.
use Rattle.std.specs.Prelude.{ℕ, Bool, false, [], ◌∷◌, Option, None}
use Rattle.tt_retain.specs.Retention.{first_retention}
use Rattle.tt_layout.specs.declared.facts.TableFacts.{TableFacts}
use Rattle.tt_layout.specs.declared.facts.PartFacts.{PartFacts}
use Rattle.tt_layout.specs.declared.facts.Facts.{Facts}

-- a part that table 1 added
abbrev pub part_of_source : PartFacts
part_of_source = record { number = 1; origin = 1; rows = 1; bytes = 29 }

-- table 1, made at 1, with the part from 3 on and without it from a moment on
abbrev pub source : ℕ → Bool → ℕ → Option ℕ → TableFacts
source days transient left dropped = record {
  number = 1;
  name = [];
  group = 1;
  made = 1;
  dropped = dropped;
  regimes = first_retention 1 days transient;
  layouts = (1, []) ∷ (3, 1 ∷ []) ∷ (left, []) ∷ [];
}

-- its clone, made at 4 with the part
abbrev pub clone : TableFacts
clone = record {
  number = 2;
  name = [];
  group = 1;
  made = 4;
  dropped = None;
  regimes = first_retention 4 1 false;
  layouts = (4, 1 ∷ []) ∷ [];
}

-- both at a moment
abbrev pub with_clone : Option ℕ → ℕ → Facts
with_clone dropped at = record { at = at; tables = source 1 false 6 dropped ∷ clone ∷ []; parts = part_of_source ∷ []; pins = [] }

-- the table alone, which lost the part at 5
abbrev pub alone : ℕ → Bool → ℕ → Facts
alone days transient at = record { at = at; tables = source days transient 5 None ∷ []; parts = part_of_source ∷ []; pins = [] }
