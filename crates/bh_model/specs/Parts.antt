-- Joining an upload's parts.
use Rattle.std.specs.Prelude.{ℕ, ◌-◌, Bool, true, ◌&&◌, List, [], ◌∷◌, map, length, take, nat_lt, nat_le, Option, Some, None}
use Rattle.std.specs.Prelude.{option_and_then, ok_or, Result, Ok, bytes_eq, if◌then◌else◌}
use Rattle.std.specs.List.{list_all, flat_map}
use Rattle.std.specs.Ordering.{nat_cmp}
use Rattle.std.specs.FinMap.{FinMap, get}
use Rattle.sha2.specs.Sha256.{sha256}
use Rattle.bh_types.specs.declared.refusal.Refusal.{Refusal}
use Rattle.bh_types.specs.declared.refusal.Refusal.TheVariants.{InvalidPartOrder, InvalidPart, EntityTooSmall}
use Rattle.bh_types.specs.Checksums.{checksum_text, joined_text}
use Rattle.bh_model.specs.State.{Octets, Content, Content.Body, Part}
use Rattle.bh_types.specs.Outcomes.{◌>>=◌, require}

-- a part in the request to complete its upload, with the checksum text that it must have if one is
-- given
pub record Naming : Type 0 where
  pub number : ℕ
  pub checksum : Option Octets

-- each number is above the one before it
abbrev pub ascends : List ℕ → Bool
ascends [] = true
ascends (n ∷ []) = true
ascends (m ∷ n ∷ ns) = nat_lt m n && ascends (n ∷ ns)

-- whether an optional checksum is that of the bytes
abbrev pub is_checksum : Option Octets → Octets → Bool
is_checksum None bytes = true
is_checksum (Some given) bytes = bytes_eq given (checksum_text bytes)

abbrev pub checked : Option Octets → Part → Option Part
checked given p = if is_checksum given p.bytes then Some p else None

-- the named part, if it exists and has the given checksum
abbrev pub choice : FinMap nat_cmp Part → Naming → Result Part Refusal
choice parts n = ok_or (option_and_then (checked n.checksum) (get parts n.number)) InvalidPart

abbrev pub chosen : FinMap nat_cmp Part → List Naming → Result (List Part) Refusal
chosen parts [] = Ok []
chosen parts (n ∷ ns) = do
  p ← choice parts n
  ps ← chosen parts ns
  Ok (p ∷ ps)

-- all parts but the last have at least the minimum size
abbrev pub are_large : ℕ → List Part → Bool
are_large least ps = list_all (λ p. nat_le least (length p.bytes)) (take (length ps - 1) ps)

-- the object of parts, one after another
abbrev pub joined : List Part → Content
joined ps = Body (flat_map (λ p. p.bytes) ps) (joined_text (map (λ p. sha256 p.bytes) ps))

-- the object that an upload's named parts make, or why they make none
-- Amazon S3 API Reference, CompleteMultipartUpload; the order of the refusals is this host's
abbrev pub completed : ℕ → FinMap nat_cmp Part → List Naming → Result Content Refusal
completed least parts names = do
  _ ← require (ascends (map (λ n. n.number) names)) InvalidPartOrder
  ps ← chosen parts names
  _ ← require (are_large least ps) EntityTooSmall
  Ok (joined ps)
