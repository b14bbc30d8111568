-- A reply that goes out piece by piece.
use Rattle.std.proofs.Common.{◌≡◌, ℕ, zero, suc, ◌+◌, ◌≤◌, ◌<◌, List, [], ◌∷◌, ◌++◌, take, length, length-append, refl, sym, ap, ◌∙◌, arith, append-nil, subst, Bool, true, false, Option, Some}
use Rattle.std.specs.Prelude.{◌↔◌, IsTrue}
use Rattle.std.specs.Io.KnownBytes.{Appends}
use Rattle.std.proofs.lemmas.List.{take_all, length-take}
use Rattle.bh_http.specs.Transfers.{Transfer, Takes}
use Rattle.bh_http.proofs.TransferLemmas.{nothing_appended, takes_none}
use Rattle.bh_connection.specs.Connections.{EndsAs, EndsIn, Sends}
use Rattle.bh_connection.specs.declared.served.End.{End}
use Rattle.bh_connection.specs.declared.served.End.TheVariants.{Whole, WriteFailed, StoreFailed}
use Rattle.bh_connection.proofs.ConnectionLemmas.{no_store_fault}
use Rattle.bh_connection.proofs.OperatorLemmas.{appends_on, takes_on}

take_none : (xs : List ℕ) → take zero xs ≡ []
take_none [] = refl
take_none (x ∷ xs) = refl

take_front : (xs ys : List ℕ) (n : ℕ) → n ≡ length xs → take n (xs ++ ys) ≡ xs
take_front [] ys n e = ap (λ k. take k ys) e ∙ take_none ys
take_front (x ∷ xs) ys zero e = absurd (omega (arith, e))
take_front (x ∷ xs) ys (suc n) e = ap (λ l. x ∷ l) (take_front xs ys n (omega (arith, e)))

pub none_left : (n : ℕ) (xs : List ℕ) → n ≡ 0 → take n xs ≡ []
none_left n xs e = ap (λ k. take k xs) e ∙ take_none xs

-- what is left of a measured plan is measured
pub measured_on : (left left_after : ℕ) (piece xs : List ℕ) → left ≡ length (piece ++ take left_after xs) → length piece + left_after ≤ left → left_after ≡ length (take left_after xs)
measured_on left left_after piece xs all falls =
    let long = length-append piece (take left_after xs) in
    let most = length-take left_after xs in
    omega (arith, all, falls, long, most)

take_within : (ys zs : List ℕ) (count : ℕ) → count ≤ length ys → take count (ys ++ zs) ≡ take count ys
take_within [] [] zero h = refl
take_within [] (z ∷ zs) zero h = refl
take_within [] zs (suc count) h = absurd (omega (arith, h))
take_within (y ∷ ys) zs zero h = refl
take_within (y ∷ ys) zs (suc count) h = ap (λ l. y ∷ l) (take_within ys zs count (omega (arith, h)))

take_into : (xs ys zs : List ℕ) (n count : ℕ) → n ≡ length xs + count → count ≤ length ys → take n (xs ++ (ys ++ zs)) ≡ xs ++ take count ys
take_into [] ys zs n count e h = ap (λ m. take m (ys ++ zs)) (omega (arith, e)) ∙ take_within ys zs count h
take_into (x ∷ xs) ys zs zero count e h = absurd (omega (arith, e))
take_into (x ∷ xs) ys zs (suc n) count e h = ap (λ l. x ∷ l) (take_into xs ys zs n count (omega (arith, e)) h)

-- a link that took all goes on
pub still_going : (failed : Bool) (count size : ℕ) → IsTrue failed ↔ (count < size) → size ≤ count → failed ≡ false
still_going false count size h high = refl
still_going true count size h high = absurd (let low = h.0 refl in omega (arith, low, high))

pub broke_off : (failed : Bool) (count size : ℕ) → IsTrue failed ↔ (count < size) → count < size → failed ≡ true
broke_off failed count size h low = h.1 low

-- so many bytes went out, and these
pub record Gone (held after : Option (List ℕ)) (took took_after : Option (List Transfer)) (failed : Bool) (sent : ℕ) (gone : List ℕ) : Type 0 where
  pub out : Appends held after gone
  pub taken : Takes took took_after gone failed
  pub count : sent ≡ length gone
  pub going : failed ≡ false

pub none_gone : (held : Option (List ℕ)) (took : Option (List Transfer)) (failed : Bool) → failed ≡ false → Gone held held took took failed 0 []
none_gone held took failed going = record { out = nothing_appended held; taken = subst (λ f. Takes took took [] f) (sym going) (takes_none took); count = refl; going = going }

-- a piece more went out whole
pub gone_on : (held mid after : Option (List ℕ)) (took took_mid took_after : Option (List Transfer)) (was failed : Bool) (sent : ℕ) (gone piece : List ℕ) (count : ℕ) → Gone held mid took took_mid was sent gone
    → Appends mid after (take count piece) → Takes took_mid took_after (take count piece) failed → count ≤ length piece → length piece ≤ count → IsTrue failed ↔ (count < length piece)
    → Gone held after took took_after failed (sent + count) (gone ++ piece)
gone_on held mid after took took_mid took_after was failed sent gone piece count so_far out taken low high broke =
    let all : gone ++ piece ≡ gone ++ take count piece = ap (λ l. gone ++ l) (sym (take_all count piece high)) in
    let long = length-append gone piece in
    let before = so_far.count in
    record {
      out = appends_on held mid after gone (take count piece) (gone ++ piece) all so_far.out out;
      taken = takes_on took took_mid took_after gone (take count piece) (gone ++ piece) was failed all so_far.going so_far.taken taken;
      count = omega (arith, long, before, low, high);
      going = still_going failed count (length piece) broke high;
    }

module _ (intact : Type 0) (stamp : ℕ) (planned : List ℕ) (held after : Option (List ℕ)) (took took_after : Option (List Transfer)) (failed : Bool) where
  abbrev Sent : ℕ → End → Type 0
  Sent sent ended = Sends intact stamp planned held after took took_after failed sent ended

  -- some bytes went out, and these may be followed by others
  sent_front : (gone rest : List ℕ) (sent : ℕ) (ended : End) → Gone held after took took_after failed sent gone → (intact → gone ++ rest ≡ planned) → EndsIn ended (Some stamp) sent (gone ++ rest) failed → (intact → ended ≡ StoreFailed → sent < length (gone ++ rest)) → Sent sent ended
  sent_front gone rest sent ended went is ends short =
      let front : take sent (gone ++ rest) ≡ gone = take_front gone rest sent went.count in
      record {
        reply = gone ++ rest;
        is = is;
        out = subst (λ (x : List ℕ). Appends held after x) (sym front) went.out;
        took = subst (λ (x : List ℕ). Takes took took_after x failed) (sym front) went.taken;
        ended = ends;
        short = short;
      }

  -- what was still to come can't be read
  pub sends_failed : (gone rest : List ℕ) (sent : ℕ) → Gone held after took took_after failed sent gone → (intact → gone ++ rest ≡ planned) → (intact → 0 < length rest) → Sent sent StoreFailed
  sends_failed gone rest sent went is some =
      let long = length-append gone rest in
      let count = went.count in
      sent_front gone rest sent StoreFailed went is (omega (arith, long, count), went.going) (λ i _. (let left = some i in omega (arith, long, count, left)))

  -- nothing is still to come
  pub sends_whole : (gone rest : List ℕ) (sent : ℕ) → Gone held after took took_after failed sent gone → (intact → rest ≡ []) → (intact → gone ++ rest ≡ planned) → Sent sent Whole
  sends_whole gone rest sent went none is =
      let ends : EndsAs Whole sent (gone ++ []) failed = (went.count ∙ ap length (sym (append-nil gone)), went.going) in
      sent_front gone [] sent Whole went (λ i. ap (λ l. gone ++ l) (sym (none i)) ∙ is i) ends (λ _ fault. absurd (no_store_fault Whole sent (gone ++ []) failed ends fault))

  -- a piece went out in part
  pub sends_part : (mid : Option (List ℕ)) (took_mid : Option (List Transfer)) (was : Bool) (gone piece rest : List ℕ) (sent count : ℕ) → Gone held mid took took_mid was sent gone
      → Appends mid after (take count piece) → Takes took_mid took_after (take count piece) failed → IsTrue failed ↔ (count < length piece) → count < length piece
      → (intact → gone ++ (piece ++ rest) ≡ planned) → Sent (sent + count) WriteFailed
  sends_part mid took_mid was gone piece rest sent count so_far out taken broke short is =
      let long = length-append gone (piece ++ rest) in
      let longer = length-append piece rest in
      let before = so_far.count in
      let ends : EndsAs WriteFailed (sent + count) (gone ++ (piece ++ rest)) failed = (omega (arith, long, longer, before, short), h_broke broke short) in
      let front : take (sent + count) (gone ++ (piece ++ rest)) ≡ gone ++ take count piece = take_into gone piece rest (sent + count) count (omega (arith, before)) (omega (arith, short)) in
      record {
        reply = gone ++ (piece ++ rest);
        is = is;
        out = appends_on held mid after gone (take count piece) (take (sent + count) (gone ++ (piece ++ rest))) front so_far.out out;
        took = takes_on took took_mid took_after gone (take count piece) (take (sent + count) (gone ++ (piece ++ rest))) was failed front so_far.going so_far.taken taken;
        ended = ends;
        short = λ _ fault. absurd (no_store_fault WriteFailed (sent + count) (gone ++ (piece ++ rest)) failed ends fault);
      }
    where
      h_broke : IsTrue failed ↔ (count < length piece) → count < length piece → failed ≡ true
      h_broke h low = broke_off failed count (length piece) h low
