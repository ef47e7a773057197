-- What a reader answers.
use Rattle.std.specs.Prelude.{◌≡◌, ℕ, Result, Ok, Err, ⊤}
use Rattle.tt_script.specs.declared.ReadError.{ReadError}
use Rattle.tt_script.specs.declared.ReadError.TheVariants.{Bad, Memory}

-- A place is given where the answer is that place; want of memory is free.
abbrev pub Refuses : {Y : Type 0} → ReadError → Result Y ℕ → Type 0
Refuses (Bad input) answer = answer ≡ Err input.place
Refuses Memory answer = ⊤

-- A reader gives the answer, its value being seen by view, unless memory runs out.
abbrev pub Answers : {X Y : Type 0} → (X → Y) → Result X ReadError → Result Y ℕ → Type 0
Answers view (Ok x) answer = answer ≡ Ok (view x)
Answers view (Err e) answer = Refuses e answer
