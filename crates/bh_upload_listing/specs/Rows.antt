-- The rows of an upload's parts in the order of a listing, and their values.
use Rattle.std.specs.Prelude.{ℕ, pos, Bool, ◌&&◌, int_lt, List, [], ◌∷◌, filter, take}
use Rattle.std.specs.Ordering.{int_eq}
use Rattle.sqlite.specs.declared.types.Value.TheVariants.{Text}
use Rattle.sqlite.specs.Order.{Row}
use Rattle.sqlite_keyed.specs.Lists.{sort_by}
use Rattle.sqlite_typed.specs.Tests.{bytes_eq}
use Rattle.bh_model.specs.Pages.{PartItem}
use Rattle.bh_tables.specs.Schema.{Octets}
use Rattle.bh_tables.specs.Shown.{by_part}
use Rattle.bh_tables.specs.Typed.{PartRow, number}

-- a part of this upload with a greater number
abbrev pub is_part_after : Octets → ℕ → ℕ → PartRow → Bool
is_part_after tenant upload n p = bytes_eq p.tenant tenant && (int_eq (pos p.upload) (pos upload) && int_lt (pos n) (pos p.part))

abbrev pub shown_part : PartRow → Row
shown_part p = number p.part ∷ number p.size ∷ Text p.checksum ∷ number p.stamp ∷ []

-- the first of them
abbrev pub parts_from : Octets → ℕ → ℕ → ℕ → List PartRow → List PartRow
parts_from tenant upload n count parts = take count (sort_by by_part (filter (is_part_after tenant upload n) parts))

-- a row in a listing of parts
abbrev pub part_item : PartRow → PartItem
part_item p = record { number = p.part; moment = p.stamp; size = p.size; checksum = p.checksum }
