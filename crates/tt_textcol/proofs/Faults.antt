-- A fault of a part is the fault of the whole; want of memory is free.
use Rattle.std.proofs.Common.{◌≡◌, ℕ, Result, Err}
use Rattle.tt_textcol.specs.declared.parts.PartError.{PartError}
use Rattle.tt_textcol.specs.declared.parts.PartError.TheVariants as errors
use Rattle.tt_textcol.specs.TextReading.{FailsPart}

pub passes_on : {X Y : Type 0} (e : PartError) (part : Result X ℕ) (whole : Result Y ℕ) → FailsPart e part → ((place : ℕ) → part ≡ Err place → whole ≡ Err place) → FailsPart e whole
passes_on errors.Memory part whole h on = tt
passes_on (errors.At place) part whole h on = on place h
