-- A registry as the pair of its parts, by which a proof tells registries apart.
use Rattle.std.specs.Prelude.{ℕ, refl}
use Rattle.std.specs.Coded.{Coded, code_by, coded×, coded_ℕ, coded_list}
use Rattle.tt_names.specs.ByName.{ByName, Drops, by_name_code}
use Rattle.tt_names.specs.Registry.{Registry}

abbrev pub drops_code : Coded (ByName Drops)
drops_code = by_name_code (coded_list (coded× coded_ℕ coded_ℕ))

abbrev pub registry_code : Coded Registry
registry_code =
    code_by (ByName ℕ × ByName Drops) (coded× (by_name_code coded_ℕ) drops_code)
    (λ names. (names.live, names.drops))
    (λ parts. record { live = parts.0; drops = parts.1 }) (λ _. refl)
