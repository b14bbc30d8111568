-- The machine's values that correspond to the program's.
use Rattle.std.specs.Prelude.{option_map}
use Rattle.std.specs.String.{string_bytes}
use Rattle.bh_types.specs.declared.wanted.Named.{Named}
use Rattle.bh_model.specs.Parts.{Naming}

abbrev pub naming_of : Named → Naming
naming_of n = record { number = n.number; checksum = option_map string_bytes n.sum }
