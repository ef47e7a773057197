-- The owner, the class and the bytes of a part.
use Rattle.std.specs.Prelude.{◌≡◌, ℕ, List}
use Rattle.tt_layout.specs.declared.facts.PartFacts.{PartFacts}
use Rattle.tt_layout.specs.declared.facts.Facts.{Facts}
use Rattle.tt_layout.specs.Numbers.{has}
use Rattle.tt_layout.specs.Owners.{owner_of, class_of}
use Rattle.tt_owner.specs.declared.owned.Owned.{Owned}
use Rattle.tt_owner.specs.Holders.{origin_stands}

-- the numbers of the tables that stand
abbrev pub AreStanding : Facts → List ℕ → Type 0
AreStanding facts numbers = (number : ℕ) → has numbers number ≡ origin_stands facts number

abbrev pub owned_of : Facts → PartFacts → Owned
owned_of facts part = record { owner = owner_of facts part; class = class_of facts part; bytes = part.bytes }
