-- Blocks that stand one after another, and the digests of those of one size.
use Rattle.std.proofs.Common.{arith, ◌≡◌, ◌≢◌, inl, inr, ℕ, zero, suc, ◌+◌, ◌*◌, ◌<◌, ◌≤◌, ◌++◌, if◌then◌else◌, List, [], ◌∷◌, length, take, drop, get_or, replicate, sym, ap, ◌∙◌, length-append, length-take-le, take_at, drop_at}
use Rattle.std.proofs.lemmas.Bool.Decides.{eqb_tells}
use Rattle.std.proofs.lemmas.Grind.{flat_map-append}
use Rattle.std.proofs.lemmas.List.{append-nil, drop-drop, length-replicate}
use Rattle.std.proofs.lemmas.Nat.{mul-le}
use Rattle.sqlite.specs.Order.{Row}
use Rattle.bh_tables.specs.Schema.{Octets}
use Rattle.bh_check.specs.Blocks.{block_octets}
use Rattle.bh_check.specs.Groups.{lane, lanes}
use Rattle.bh_check.proofs.OnceLemmas.{one_more}

-- bytes of the size are their lane
pub lane_is : (size : ℕ) (bytes : Octets) → length bytes ≡ size → lane size bytes ≡ bytes
lane_is size bytes long = elim (eqb_tells (length bytes) size) [
  | inl is ↦ ap (λ b. if b then bytes else replicate size 0) is.0
  | inr not ↦ absurd (not.1 long)
]

-- of others it is zeros
pub lane_idle : (size : ℕ) (bytes : Octets) → length bytes ≢ size → lane size bytes ≡ replicate size 0
lane_idle size bytes other = elim (eqb_tells (length bytes) size) [
  | inl is ↦ absurd (other is.1)
  | inr not ↦ ap (λ b. if b then bytes else replicate size 0) not.0
]

-- a lane has the size
pub lane_long : (size : ℕ) (bytes : Octets) → length (lane size bytes) ≡ size
lane_long size bytes = elim (eqb_tells (length bytes) size) [
  | inl is ↦ ap length (lane_is size bytes is.1) ∙ is.1
  | inr not ↦ ap length (lane_idle size bytes not.1) ∙ length-replicate size 0
]

pub lanes_long : (size : ℕ) (rows : List Row) → length (lanes size rows) ≡ length rows * size
lanes_long size [] = omega arith
lanes_long size (r ∷ rows) =
    let one = lane_long size (block_octets r) in
    let more = lanes_long size rows in
    let all = length-append (lane size (block_octets r)) (lanes size rows) in
    omega (arith, one, more, all)

-- each stands at its place
pub lane_at : (size : ℕ) (rows : List Row) (j : ℕ) (row : Row) → j < length rows → row ≡ get_or rows j row
    → take size (drop (j * size) (lanes size rows)) ≡ lane size (block_octets row)
lane_at size [] j row low is = absurd (omega (arith, low))
lane_at size (r ∷ rows) zero row low is =
    let none : 0 * size ≡ 0 = omega arith in
    ap (λ n. take size (drop n (lanes size (r ∷ rows)))) none
    ∙ take_at (lane size (block_octets r)) (lanes size rows) size (lane_long size (block_octets r)) ∙ ap (λ r. lane size (block_octets r)) (sym is)
lane_at size (r ∷ rows) (suc j) row low is =
    let next : suc j * size ≡ size + j * size = omega arith in
    ap (λ n. take size (drop n (lanes size (r ∷ rows)))) next
    ∙ ap (take size) (sym (drop-drop (j * size) size (lanes size (r ∷ rows)))
    ∙ ap (drop (j * size)) (drop_at (lane size (block_octets r)) (lanes size rows) size (lane_long size (block_octets r))))
    ∙ lane_at size rows j row (omega (arith, low)) is

-- room for one more of at most eight
pub lanes_fit : (size : ℕ) (rows : List Row) (i : ℕ) → i < length rows → length rows ≡ 8 → size ≤ 65536 → length (lanes size (take i rows)) + size ≤ 524288
lanes_fit size rows i low eight small =
    let so_far = lanes_long size (take i rows) ∙ ap (λ n. n * size) (length-take-le i rows (omega (arith, low))) in
    let fits = mul-le (i + 1) size 8 size (omega (arith, low, eight)) (omega arith) in
    omega (arith, so_far, fits, small)

-- one more
pub lanes_more : (size : ℕ) (rows : List Row) (i : ℕ) (row : Row) → i < length rows → row ≡ get_or rows i row
    → lanes size (take i rows) ++ lane size (block_octets row) ≡ lanes size (take (i + 1) rows)
lanes_more size rows i row low is =
    sym (ap (lanes size) (one_more rows i row low is)
    ∙ flat_map-append (λ r. lane size (block_octets r)) (take i rows) (row ∷ [])
    ∙ ap (λ l. lanes size (take i rows) ++ l) (append-nil (lane size (block_octets row))))
