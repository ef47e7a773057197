-- A fault of a part is the fault of the whole; want of memory is free.
use Rattle.std.proofs.Common.{◌≡◌, ℕ, Result, Err}
use Rattle.tt_partition.specs.declared.error.ImageError.{ImageError}
use Rattle.tt_partition.specs.declared.error.ImageError.TheVariants as errors
use Rattle.tt_partition.specs.Outcome.{Fails}

pub passes_on : {X Y : Type 0} (e : ImageError) (part : Result X ℕ) (whole : Result Y ℕ) → Fails e part → ((place : ℕ) → part ≡ Err place → whole ≡ Err place) → Fails e whole
passes_on errors.Memory part whole h on = tt
passes_on (errors.BadImage bad) part whole h on = on bad.place h
