-- A body stored piece by piece, and given the blocks that rows of references name.
use Rattle.std.proofs.Common.{◌≡◌, ◌≢◌, ◌==◌, false, true≢false, append_assoc, append-nil, ℕ, zero, suc, ◌+◌, ◌≤◌, ◌<◌, List, [], ◌∷◌, ◌++◌, map, flat_map, drop, length, get_or, refl, sym, ap, ap₂, ◌∙◌, arith}
use Rattle.std.proofs.lemmas.List.{map-append, take_all, drop_all}
use Rattle.sqlite.specs.Order.{Row}
use Rattle.bh_tables.specs.Schema.{Octets}
use Rattle.bh_tables.specs.Typed.{RefRow, Tables, rebodied}
use Rattle.bh_tables.specs.Shown.{Name, ref_name, shown_ref}
use Rattle.bh_tables.proofs.ResolvedLemmas.{rebodied_twice}
use Rattle.bh_view.specs.Blocks.{ord_for, blocks_with}
use Rattle.bh_view.specs.Bodies.{pieces, ref_to, refs_after, blocks_after, body_stored, refs_again, body_again}
use Rattle.bh_view.proofs.StoringLemmas.{pieces_next}

-- ---- a piece, and then the rest

pub stored_next : (digest : Octets → Octets) (body : Name) (place : ℕ) (c : Octets) (cs : List Octets) (old new : Tables) → new ≡ body_stored digest body place (c ∷ []) old → body_stored digest body (place + 1) cs new ≡ body_stored digest body place (c ∷ cs) old
stored_next digest body place c cs old new is =
    let blocks = blocks_with (digest c) c old.blocks in
    let refs = old.refs ++ ref_to digest body place c old.blocks ∷ [] in
    ap (body_stored digest body (place + 1) cs) is
    ∙ rebodied_twice old (refs_after digest body (place + 1) cs blocks refs) refs (blocks_after digest cs blocks) blocks

-- a block is stored, and then a reference to it
pub piece_stored : (digest : Octets → Octets) (body : Name) (place : ℕ) (c : Octets) (name : Name) (old mid new : Tables) → mid ≡ rebodied old old.refs (blocks_with (digest c) c old.blocks) → name ≡ (digest c, ord_for (digest c) c old.blocks)
    → new ≡ rebodied mid (mid.refs ++ record { tenant = body.0; body = body.1; place = place; digest = name.0; ord = name.1; size = length c } ∷ []) mid.blocks → new ≡ body_stored digest body place (c ∷ []) old
piece_stored digest body place c name old mid new first called second =
    second
    ∙ (λ i. rebodied (first i) ((first i).refs ++ record { tenant = body.0; body = body.1; place = place; digest = (called i).0; ord = (called i).1; size = length c } ∷ []) (first i).blocks)
    ∙ rebodied_twice old (old.refs ++ ref_to digest body place c old.blocks ∷ []) old.refs (blocks_with (digest c) c old.blocks) (blocks_with (digest c) c old.blocks)

pub not_nil : (xs : Octets) → (length xs == 0) ≡ false → xs ≢ []
not_nil xs h e = true≢false (sym (ap (λ (l : Octets). length l == 0) e) ∙ h)

-- bytes that fit are one piece
pub one_piece : (size : ℕ) (xs : Octets) → (length xs == 0) ≡ false → length xs ≤ size → pieces size xs ≡ xs ∷ []
one_piece size [] some fits = absurd (true≢false some)
one_piece size (x ∷ xs) some fits =
    pieces_next size (x ∷ xs) (omega (arith, fits)) (not_nil (x ∷ xs) some)
    ∙ ap₂ (λ p m. p ∷ pieces size m) (take_all size (x ∷ xs) fits) (drop_all size (x ∷ xs) fits)

-- ---- the blocks that rows name

drop_here : {A : Type 0} (xs : List A) (i : ℕ) (x d : A) → i < length xs → x ≡ get_or xs i d → drop i xs ≡ x ∷ drop (i + 1) xs
drop_here {A} xs i x d low here = go xs i low here ∙ ap (λ n. x ∷ drop n xs) (one i)
  where
    one : (n : ℕ) → suc n ≡ n + 1
    one n = omega arith

    go : (xs : List A) (i : ℕ) → i < length xs → x ≡ get_or xs i d → drop i xs ≡ x ∷ drop (suc i) xs
    go [] i low here = absurd (omega (arith, low))
    go (y ∷ ys) zero low here = ap (λ z. z ∷ ys) (sym here)
    go (y ∷ ys) (suc i) low here = go ys i (omega (arith, low)) here

drop_past : {A : Type 0} (xs : List A) (i : ℕ) → (i < length xs → ⊥) → drop i xs ≡ []
drop_past [] zero high = refl
drop_past [] (suc i) high = refl
drop_past (x ∷ xs) zero high = absurd (high (omega arith))
drop_past (x ∷ xs) (suc i) high = drop_past xs i (λ low. high (omega (arith, low)))

pub again_next : (body : Name) (place : ℕ) (r : RefRow) (rs : List RefRow) (old new : Tables) → new ≡ body_again body place (r ∷ []) old → body_again body (place + 1) rs new ≡ body_again body place (r ∷ rs) old
again_next body place r rs old new is =
    let refs = old.refs ++ record r { tenant = body.0; body = body.1; place = place } ∷ [] in
    ap (body_again body (place + 1) rs) is ∙ rebodied_twice old (refs_again body (place + 1) rs refs) refs old.blocks old.blocks

-- a reference as it is named, is one of this size and place
pub again_is : (body : Name) (place : ℕ) (r : RefRow) (name : Name) (size : ℕ) (old new : Tables) → name ≡ ref_name r → size ≡ r.size
    → new ≡ rebodied old (old.refs ++ record { tenant = body.0; body = body.1; place = place; digest = name.0; ord = name.1; size = size } ∷ []) old.blocks → new ≡ body_again body place (r ∷ []) old
again_is body place r name size old new called sized is =
    is ∙ (λ i. rebodied old (old.refs ++ record { tenant = body.0; body = body.1; place = place; digest = (called i).0; ord = (called i).1; size = sized i } ∷ []) old.blocks)

-- the rows of several bodies, one after the other
module _ {A : Type 0} (f : A → List RefRow) (xs : List A) where
  pub named_next : (i : ℕ) (x d : A) (rows found all : List Row) → i < length xs → x ≡ get_or xs i d → found ≡ map shown_ref (f x) → rows ++ map shown_ref (flat_map f (drop i xs)) ≡ all → (rows ++ found) ++ map shown_ref (flat_map f (drop (i + 1) xs)) ≡ all
  named_next i x d rows found all low here is so_far =
      append_assoc rows found (map shown_ref (flat_map f (drop (i + 1) xs)))
      ∙ ap (λ l. rows ++ (l ++ map shown_ref (flat_map f (drop (i + 1) xs)))) is
      ∙ ap (λ l. rows ++ l) (sym (map-append shown_ref (f x) (flat_map f (drop (i + 1) xs))))
      ∙ ap (λ l. rows ++ map shown_ref (flat_map f l)) (sym (drop_here xs i x d low here))
      ∙ so_far

  pub named_all : (i : ℕ) (rows all : List Row) → (i < length xs → ⊥) → rows ++ map shown_ref (flat_map f (drop i xs)) ≡ all → rows ≡ all
  named_all i rows all high so_far = sym (append-nil rows) ∙ ap (λ l. rows ++ map shown_ref (flat_map f l)) (sym (drop_past xs i high)) ∙ so_far

pub flat_named : {A B C : Type 0} (g : B → List C) (f : A → B) (xs : List A) → flat_map g (map f xs) ≡ flat_map (λ x. g (f x)) xs
flat_named g f [] = refl
flat_named g f (x ∷ xs) = ap (λ l. g (f x) ++ l) (flat_named g f xs)
