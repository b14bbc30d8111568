-- The row of a pack, as it was read.
use Rattle.std.specs.Prelude.{◌≡◌, List, [], ◌∷◌, Option, Some, None}
use Rattle.bh_tables.specs.Rows.{PackRow}
use Rattle.bh_base.specs.declared.places.Measure.{Measure}

-- these are the numbers of a pack
pub record IsMeasured (p : PackRow) (m : Measure) : Type 0 where
  pub length : m.length ≡ p.length
  pub live : m.live ≡ p.live

-- no row, or one of these numbers
abbrev pub AreMeasured : List PackRow → Option Measure → Type 0
AreMeasured ps None = ps ≡ []
AreMeasured ps (Some m) = (p : PackRow) × (ps ≡ p ∷ []) × IsMeasured p m
