-- What a partition keeps beside its image: its true zones and the number of its rows.
use Rattle.std.specs.Prelude.{◌≡◌, ℕ, List, [], length, Ok}
use Rattle.std.specs.Result.{result_unwrap_or}
use Rattle.tt_zone.specs.declared.zone.Zone.{Zone}
use Rattle.tt_partition.specs.Table.{Table, zones_of}
use Rattle.tt_partition.specs.ImageReading.{table_at}

-- the table of an image
abbrev pub table_in : List ℕ → Table
table_in image = result_unwrap_or (table_at image) (record { kinds = []; rows = [] })

pub record IsSound (image : List ℕ) (zones : List Zone) (rows : ℕ) : Type 0 where
  pub is_image : table_at image ≡ Ok (table_in image)
  pub true_zones : zones ≡ zones_of (table_in image)
  pub row_count : rows ≡ length (table_in image).rows
