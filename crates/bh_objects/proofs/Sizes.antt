-- The bytes of the entry of a key with an id, once bodies are stored or dropped, and what was found of it.
use Rattle.std.proofs.Common.{◌≡◌, ℕ, true, false, List, [], ◌∷◌, map, find, cond, Option, Some, None, option_map, refl, ap}
use Rattle.std.specs.Option.{option_map_or}
use Rattle.bh_types.specs.declared.bucket_state.BucketState.{BucketState}
use Rattle.bh_types.specs.declared.bucket_state.BucketState.TheVariants.{Unversioned, Enabled, Suspended}
use Rattle.bh_model.specs.State.{Octets}
use Rattle.bh_tables.specs.Bodies.{resolved_again}
use Rattle.bh_tables.specs.Typed.{VersionRow, RefRow, BlockRow, Tables, rebodied}
use Rattle.bh_tables.specs.Shown.{is_version}
use Rattle.bh_schema.specs.Rows.{SeenHead, seen_head}
use Rattle.bh_schema.specs.Written.{bytes_of_id}
use Rattle.bh_objects.specs.Found.{IsHeld, null_in, replaced_in}
use Rattle.bh_objects.specs.declared.quotas.Replaced.{Replaced}

module _ (t b k : Octets) (n : ℕ) where
  -- other references and blocks change no size
  pub size_again : (refs : List RefRow) (blocks : List BlockRow) (x : Tables) → bytes_of_id t b k n (rebodied x refs blocks) ≡ bytes_of_id t b k n x
  size_again refs blocks x = go x.versions
    where
      go : (vs : List VersionRow) → option_map_or (λ (v : VersionRow). v.size) (find (is_version t b k n) (map (resolved_again refs blocks) vs)) 0 ≡ option_map_or (λ (v : VersionRow). v.size) (find (is_version t b k n) vs) 0
      go [] = refl
      go (v ∷ vs) = elim (is_version t b k n v) as (λ s. option_map_or (λ (v : VersionRow). v.size) (cond s (Some (resolved_again refs blocks v)) (find (is_version t b k n) (map (resolved_again refs blocks) vs))) 0 ≡ option_map_or (λ (v : VersionRow). v.size) (cond s (Some v) (find (is_version t b k n) vs)) 0) [
        | true ↦ refl
        | false ↦ go vs
      ]

  -- of the head that was found
  pub size_of_head : (x : Tables) (head : SeenHead) → Some head ≡ option_map seen_head (find (is_version t b k n) x.versions) → bytes_of_id t b k n x ≡ head.size
  size_of_head x head is = go (find (is_version t b k n) x.versions) is
    where
      go : (o : Option VersionRow) → Some head ≡ option_map seen_head o → option_map_or (λ (v : VersionRow). v.size) o 0 ≡ head.size
      go None e = absurd (cc)
      go (Some v) e = let same : seen_head v ≡ head = cc in ap (λ (h : SeenHead). h.size) same

-- what was found of the entry `null`
module _ (t b k : Octets) (x : Tables) where
  null_held : (r : Replaced) → null_in t b k x ≡ Some r → bytes_of_id t b k 0 x ≡ r.size
  null_held r is = go (find (is_version t b k 0) x.versions) is
    where
      go : (o : Option VersionRow) → option_map (λ (v : VersionRow). record { seq = v.seq; size = v.size }) o ≡ Some r → option_map_or (λ (v : VersionRow). v.size) o 0 ≡ r.size
      go None e = absurd (cc)
      go (Some v) e = let same : record { seq = v.seq; size = v.size } ≡ r = cc in ap (λ (z : Replaced). z.size) same

  pub replaced_held : (mode : BucketState) → IsHeld t b k (replaced_in mode t b k x) x
  replaced_held Unversioned r is = null_held r is
  replaced_held Enabled r is = absurd (cc)
  replaced_held Suspended r is = null_held r is
