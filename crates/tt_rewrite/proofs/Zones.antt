-- Where the zones of a part leave no row possible, none is taken.
use Rattle.std.proofs.Common.{◌≡◌, false, [], Option, Some, None}
use Rattle.std.proofs.lemmas.Bool.{false≢true}
use Rattle.std.proofs.Common.{sym}
use Rattle.tt_value.specs.declared.predicate.Predicate.{Predicate}
use Rattle.tt_value.specs.declared.value.Schema.{Schema}
use Rattle.tt_partition.specs.Cuts.{kinds_of}
use Rattle.tt_partition.specs.Table.{Table}
use Rattle.tt_scan.proofs.Prunes.{pruned}
use Rattle.tt_scan.specs.Held.{may_take, rows_taken}

pub none_may : (schema : Schema) (filter : Option Predicate) (part : Table) → part.kinds ≡ kinds_of schema → may_take schema filter part ≡ false → rows_taken schema filter part.rows ≡ []
none_may schema None part kinds is = absurd (false≢true (sym is))
none_may schema (Some p) part kinds is = pruned schema part p kinds is
