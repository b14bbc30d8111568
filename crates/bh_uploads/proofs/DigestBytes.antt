-- A digest is a list of bytes.
use Rattle.std.proofs.Common.{ℕ, zero, suc, ◌<◌, ◌/◌, ◌^◌, List, [], ◌∷◌, arith}
use Rattle.std.specs.List.{AllByRecursion}
use Rattle.std.specs.Int.{w32, byte_at, bytes_high_first, to_be_bytes}
use Rattle.std.specs.Prelude.{slice_index}
use Rattle.std.proofs.Math.Nat.{mod-lt}
use Rattle.sqlite_keyed.proofs.ListLemmas.{all-append}
use Rattle.sha2.specs.Sha256.{sha256, digest_bytes}
use Rattle.base64.specs.GeneralPurpose.{IsBytes}

abbrev AreSmall : List ℕ → Type 0
AreSmall = AllByRecursion (λ (x : ℕ). x < 256)

byte_small : (i n : ℕ) → byte_at i n < 256
byte_small zero n = mod-lt n (omega arith)
byte_small (suc i) n = mod-lt (n / 256 ^ suc i) (omega arith)

bytes_small : (k n : ℕ) → AreSmall (bytes_high_first k n)
bytes_small zero n = tt
bytes_small (suc k) n = (byte_small k n, bytes_small k n)

digest_small : (h : List ℕ) (n : ℕ) → AreSmall (digest_bytes h n)
unfolding digest_bytes
digest_small h zero = tt
digest_small h (suc n) = all-append (λ (x : ℕ). x < 256) (digest_bytes h n) (to_be_bytes w32 (slice_index h n)) (digest_small h n) (bytes_small 4 (slice_index h n))

small_bytes : (xs : List ℕ) → AreSmall xs → IsBytes xs
small_bytes [] all zero = omega arith
small_bytes [] all (suc i) = omega arith
small_bytes (x ∷ xs) all zero = all.0
small_bytes (x ∷ xs) all (suc i) = small_bytes xs all.1 i

pub sha256_bytes : (m : List ℕ) → IsBytes (sha256 m)
unfolding sha256
sha256_bytes m = small_bytes _ (digest_small _ 8)
