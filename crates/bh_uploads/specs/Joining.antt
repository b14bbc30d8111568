-- The object made by the rows of chosen parts.
use Rattle.std.specs.Prelude.{◌≡◌, ℕ, List, map, slice_get, Result, Ok, Err}
use Rattle.std.specs.List.{filter_map, sum_by}
use Rattle.std.specs.String.{string_bytes}
use Rattle.sha2.specs.Sha256.{sha256}
use Rattle.bh_types.specs.Checksums.{checksum_text, joined_text}
use Rattle.bh_types.specs.declared.refusal.Refusal.{Refusal}
use Rattle.bh_core.specs.declared.parts.PartRow.{PartRow}
use Rattle.bh_model.specs.State.{Octets}
use Rattle.bh_storage.specs.declared.error.StepError.{StepError}
use Rattle.bh_storage.specs.declared.error.StepError.TheVariants.{Refused, Failed}
use Rattle.bh_uploads.specs.declared.joining.Joined.{Joined}

-- those at some places
abbrev pub taken : {X : Type 0} → List X → List ℕ → List X
taken xs places = filter_map (slice_get xs) places

-- the checksums' texts of the parts at some places
abbrev pub sums_at : List PartRow → List ℕ → List Octets
sums_at rows places = map (λ (row : PartRow). string_bytes row.sum) (taken rows places)

-- the parts at these places: their bodies, their sizes added up, and the checksum of their digests
pub record IsJoined (rows : List PartRow) (bodies : List ℕ) (places : List ℕ) (j : Joined) : Type 0 where
  pub bodies_are : j.bodies.items ≡ taken bodies places
  pub size_is : j.size ≡ sum_by (λ (row : PartRow). row.size) (taken rows places)
  pub checksum_is : (parts : List Octets) → sums_at rows places ≡ map checksum_text parts → string_bytes j.checksum
      ≡ joined_text (map sha256 parts)

-- the result is that of the places, or their refusal, unless memory or the store failed
abbrev pub Joins : List PartRow → List ℕ → Result (List ℕ) Refusal → Result Joined (StepError Refusal) → Type 0
Joins rows bodies places (Ok j) = (chosen : List ℕ) × (places ≡ Ok chosen) × IsJoined rows bodies chosen j
Joins rows bodies places (Err (Refused r)) = places ≡ Err r
Joins rows bodies places (Err (Failed trouble)) = Unit {0}
