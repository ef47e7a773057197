-- What seats know, before and after each step.
use Rattle.std.specs.Prelude.{◌≡◌, ℕ, ◌+◌, true, false, List, [], ◌∷◌, ◌++◌, Some, None}
use Rattle.atomic_table.specs.Table.{Me}
use Rattle.tt_seatlock.specs.declared.view.View.{View}
use Rattle.tt_seatlock.specs.History.{made_by, longer, shorter}

module _ {E G : Type 0} where
  -- the first seat of a lock over a book of this ground
  abbrev pub opened : G → View E G
  opened place = record { live = true; number = 0; place = Some place; seen = []; mine = []; turn = false; base = []; made = 1; kept = []; shown = [] }

  -- number 0 after it made one more number, and the seat of that number
  abbrev pub counted : View E G → View E G
  counted v = record v { made = v.made + 1 }

  abbrev pub newcomer : View E G → View E G
  newcomer v = record { live = true; number = v.made; place = v.place; seen = v.seen; mine = []; turn = false; base = []; made = 0; kept = []; shown = v.seen }

  -- number 0 after another seat was joined into it, and that seat
  abbrev pub joined : View E G → View E G → View E G
  joined v w = record v { seen = longer v.seen w.seen; kept = v.kept ++ (w.number, w.mine) ∷ []; shown = shorter v.seen w.seen }

  abbrev pub spent : View E G
  spent = record { live = false; number = 0; place = None; seen = []; mine = []; turn = false; base = []; made = 0; kept = []; shown = [] }

  -- the seat with the turn, over a book of this history
  abbrev pub with_turn : View E G → List E → View E G
  with_turn v log = record v { turn = true; base = log }

  -- the seat after its turn, which left this history
  abbrev pub after_turn : (E → ℕ) → View E G → List E → View E G
  after_turn number v log = record v { seen = log; mine = made_by number v.number log; turn = false; base = [] }

  -- the seat is in use and has neither the turn nor the slot
  pub record IsIdle {S : Type 0} (me : Me S (View E G)) : Type 0 where
    pub live : me.0.live ≡ true
    pub no_turn : me.0.turn ≡ false
    pub no_slot : me.1 ≡ []
