-- The parts with which an upload is completed, without their bytes, and how that is the machine's
-- step.
use Rattle.std.specs.Prelude.{◌≡◌, ℕ, ◌-◌, ◌==◌, Bool, true, false, nat_le, bytes_eq, List, [], ◌∷◌, map, length, take, position, slice_get}
use Rattle.std.specs.Prelude.{All, Option, Some, None, option_and_then, ok_or, Result, Ok}
use Rattle.std.specs.List.{list_all, list_any, filter_map}
use Rattle.std.specs.Option.{option_map_or}
use Rattle.std.specs.Ordering.{nat_cmp}
use Rattle.std.specs.FinMap.{FinMap, get}
use Rattle.std.specs.String.{string_bytes}
use Rattle.bh_types.specs.declared.refusal.Refusal.{Refusal}
use Rattle.bh_types.specs.declared.refusal.Refusal.TheVariants.{InvalidPartOrder, InvalidPart, EntityTooSmall}
use Rattle.bh_types.specs.Checksums.{checksum_text}
use Rattle.bh_types.specs.Outcomes.{◌>>=◌, require}
use Rattle.bh_model.specs.State.{Octets, Content, Part}
use Rattle.bh_model.specs.Parts.{Naming, ascends, completed, joined}
use Rattle.bh_core.specs.declared.parts.PartRow.{PartRow}

abbrev pub is_numbered : ℕ → PartRow → Bool
is_numbered number row = row.number == number

-- the place of the part with a number, from 0, if it exists
abbrev pub place_of : List PartRow → ℕ → Option ℕ
place_of rows number = position (is_numbered number) rows

-- whether a row has the checksum, if one is given
abbrev pub has_sum : PartRow → Option Octets → Bool
has_sum row None = true
has_sum row (Some given) = bytes_eq given (string_bytes row.sum)

abbrev pub has_sum_at : List PartRow → Option Octets → ℕ → Bool
has_sum_at rows given at = option_map_or (λ row. has_sum row given) (slice_get rows at) false

-- the place of the named part, if it exists and has the given checksum
abbrev pub chosen_place : List PartRow → Naming → Result ℕ Refusal
chosen_place rows n = do
  at ← ok_or (place_of rows n.number) InvalidPart
  _ ← require (has_sum_at rows n.checksum at) InvalidPart
  Ok at

abbrev pub chosen_places : List PartRow → List Naming → Result (List ℕ) Refusal
chosen_places rows [] = Ok []
chosen_places rows (n ∷ ns) = do
  at ← chosen_place rows n
  rest ← chosen_places rows ns
  Ok (at ∷ rest)

abbrev pub is_large : ℕ → List PartRow → ℕ → Bool
is_large least rows at = option_map_or (λ (row : PartRow). nat_le least row.size) (slice_get rows at) false

-- the parts at all places but the last have at least the minimum size
abbrev pub are_large : ℕ → List PartRow → List ℕ → Bool
are_large least rows places = list_all (is_large least rows) (take (length places - 1) places)

-- the places of the named parts, or why they make no object
-- Amazon S3 API Reference, CompleteMultipartUpload; the order of the refusals is this host's
abbrev pub complete_plan : ℕ → List PartRow → List Naming → Result (List ℕ) Refusal
complete_plan least rows names = do
  _ ← require (ascends (map (λ n. n.number) names)) InvalidPartOrder
  places ← chosen_places rows names
  _ ← require (are_large least rows places) EntityTooSmall
  Ok places

-- ---- the place from which to look for a part

-- the parts are ordered by number
abbrev pub are_ordered : List PartRow → Bool
are_ordered rows = ascends (map (λ (row : PartRow). row.number) rows)

-- from any place on, if the parts are ordered, otherwise from the first
abbrev pub IsStart : List PartRow → ℕ → Type 0
IsStart rows from = are_ordered rows ≡ false → from ≡ 0

-- ---- the machine's step

-- a row is that of a part
abbrev pub IsRowOf : Part → PartRow → Type 0
IsRowOf p row = (row.size ≡ length p.bytes) × (string_bytes row.sum ≡ checksum_text p.bytes)

-- the rows are those of an upload's parts: each has the part of its number, and there is no other
-- part
pub record TellParts (rows : List PartRow) (parts : FinMap nat_cmp Part) : Type 0 where
  pub tells : All (λ row. (p : Part) × (get parts row.number ≡ Some p) × IsRowOf p row) rows
  pub no_other : (n : ℕ) → list_any (is_numbered n) rows ≡ false → get parts n ≡ None

abbrev pub part_at : List PartRow → FinMap nat_cmp Part → ℕ → Option Part
part_at rows parts at = option_and_then (λ (row : PartRow). get parts row.number) (slice_get rows at)

-- the object that the parts make whose rows are at these places
abbrev pub joined_at : List PartRow → FinMap nat_cmp Part → List ℕ → Content
joined_at rows parts places = joined (filter_map (part_at rows parts) places)

-- a completed upload is the join of the parts at the places that its rows give, with the same
-- refusals
abbrev pub CompleteIsJoined : Type 0
CompleteIsJoined = (least : ℕ) (rows : List PartRow) (parts : FinMap nat_cmp Part) (names : List Naming) → TellParts rows parts
    → completed least parts names ≡ (do
      places ← complete_plan least rows names
      Ok (joined_at rows parts places))
