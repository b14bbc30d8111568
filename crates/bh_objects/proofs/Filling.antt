-- Bytes of a body that are read to the end of those in a buffer.
use Rattle.std.proofs.Common.{◌≡◌, ◌+◌, ◌<◌, ◌≤◌, zero, suc, ℕ, [], ◌∷◌, ◌++◌, take, length, length-take-le, length-append, ap, ◌∙◌, arith, inl, inr}
use Rattle.std.proofs.lemmas.Bool.{cases_lt}
use Rattle.std.proofs.lemmas.List.{take_all, take-append-le}
use Rattle.bh_http.specs.Bodies.{Coming, Gives}
use Rattle.bh_tables.specs.Schema.{Octets}

put_behind : (k n : ℕ) (xs ys : Octets) → k ≤ length xs → take (k + n) (take k xs ++ ys) ≡ take k xs ++ take n ys
put_behind zero n xs ys h = let e : 0 + n ≡ n = omega arith in ap (λ m. take m ys) e
put_behind (suc k) n [] ys h = absurd (omega (arith, h))
put_behind (suc k) n (x ∷ xs) ys h =
    let e : suc k + n ≡ suc (k + n) = omega arith in
    ap (λ m. take m (x ∷ take k xs ++ ys)) e ∙ ap (λ l. x ∷ l) (put_behind k n xs ys (omega (arith, h)))

-- the bytes that were there, and the first of those that came behind them
pub more_came : (k n : ℕ) (xs ys zs : Octets) → k ≤ length xs → n ≤ length ys → take (k + n) (take k xs ++ (ys ++ zs)) ≡ take k xs ++ take n ys
more_came k n xs ys zs h few = put_behind k n xs (ys ++ zs) h ∙ ap (λ l. take k xs ++ l) (take-append-le n ys zs few)

pub more_fits : (k n : ℕ) (xs ys zs : Octets) → k ≤ length xs → n ≤ length ys → k + n ≤ length (take k xs ++ (ys ++ zs))
more_fits k n xs ys zs h few =
    let all = length-append (take k xs) (ys ++ zs) in
    let behind = length-append ys zs in
    let front = length-take-le k xs h in
    omega (arith, all, behind, front, few)

-- a body that has more bytes fills the buffer
pub filled : (before after : Coming) (n : ℕ) (buffer : Octets) → n ≤ length buffer → Gives before after (take n buffer) → (n < length buffer → after.due ≡ 0)
    → length buffer < before.due → take n buffer ≡ buffer
filled before after n buffer fits gives full more = take_all n buffer whole
  where
    whole : length buffer ≤ n
    whole =
        let came = gives.counted in
        let long = length-take-le n buffer fits in
        elim (cases_lt n (length buffer)) [
          | inl less ↦ absurd (let none = full less in omega (arith, came, long, none, less, more))
          | inr past ↦ omega (arith, past)
        ]
