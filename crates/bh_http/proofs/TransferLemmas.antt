-- What moved so far, and one call more.
use Rattle.std.proofs.Common.{◌≡◌, ℕ, Bool, true, false, List, [], ◌∷◌, ◌++◌, map, take, refl, sym, ap, subst, ◌∙◌, Option, Some, None, Ok, inl, inr, append_assoc, append-nil}
use Rattle.std.specs.Prelude.{IsTrue}
use Rattle.std.specs.Io.KnownBytes.{Appends}
use Rattle.std.specs.List.{concat}
use Rattle.std.proofs.lemmas.List.{map-append}
use Rattle.std.proofs.lemmas.List.Folds.{concat-append}
use Rattle.bh_http.specs.Transfers.{Transfer, Moved, Failed, byte_transfer, Logs, MovesThen, Gives, Takes}

pub logs_nothing : {A : Type 0} (a : Option (List A)) → Logs a a []
logs_nothing None = tt
logs_nothing (Some xs) = sym (append-nil xs)

pub logs_then : {A : Type 0} (a b c : Option (List A)) (x y : List A) → Logs a b x → Logs b c y → Logs a c (x ++ y)
logs_then None b c x y p q = tt
logs_then (Some xs) None c x y p q = absurd p
logs_then (Some xs) (Some ys) None x y p q = absurd q
logs_then (Some xs) (Some ys) (Some zs) x y p q = q ∙ ap (λ l. l ++ y) p ∙ append_assoc xs x y

pub nothing_appended : (a : Option (List ℕ)) → Appends a a []
nothing_appended None = tt
nothing_appended (Some xs) = sym (append-nil xs)

moves_then : (a b c : Option (List Transfer)) (x y : List ℕ) (last : List Transfer) → MovesThen a b x [] → MovesThen b c y last → MovesThen a c (x ++ y) last
moves_then a b c x y last (xs, xs_is, p) (ys, ys_is, q) =
    let joined : (map Moved xs ++ []) ++ (map Moved ys ++ last) ≡ map Moved (xs ++ ys) ++ last =
    ap (λ l. l ++ (map Moved ys ++ last)) (append-nil (map Moved xs)) ∙ sym (append_assoc (map Moved xs) (map Moved ys) last) ∙ ap (λ l. l ++ last) (sym (map-append Moved xs ys)) in
    let bytes : x ++ y ≡ concat (xs ++ ys) = ap (λ l. l ++ y) xs_is ∙ ap (λ l. concat xs ++ l) ys_is ∙ sym (concat-append xs ys) in
    (xs ++ ys, bytes, subst (Logs a c) joined (logs_then a b c (map Moved xs ++ []) (map Moved ys ++ last) p q))

moves_last : (a b c : Option (List Transfer)) (x : List ℕ) (last : List Transfer) → MovesThen a b x [] → Logs b c last → MovesThen a c x last
moves_last a b c x last p q =
    let P : List ℕ → Type 0 = λ l. MovesThen a c l last in
    subst P (append-nil x) (moves_then a b c x [] last p ([], refl, q))

-- ---- a source

pub gives_nothing : (a : Option (List Transfer)) → Gives a a [] false
gives_nothing a = ([], refl, logs_nothing a)

pub gives_none : (a : Option (List Transfer)) (items : List ℕ) → items ≡ [] → Gives a a items false
gives_none a items none = let P : List ℕ → Type 0 = λ l. Gives a a l false in subst P (sym none) (gives_nothing a)

pub gives_piece : (a b : Option (List Transfer)) (x : List ℕ) → Logs a b (Moved x ∷ []) → Gives a b x false
gives_piece a b x told = (x ∷ [], sym (append-nil x), told)

pub gives_then : (a b c : Option (List Transfer)) (x y : List ℕ) (failed : Bool) → Gives a b x false → Gives b c y failed → Gives a c (x ++ y) failed
gives_then a b c x y false p q = moves_then a b c x y [] p q
gives_then a b c x y true p q = moves_then a b c x y (Failed ∷ []) p q

-- the next call of a source failed
pub gives_fault : (a b c : Option (List Transfer)) (x : List ℕ) (failed : Bool) → IsTrue failed → Gives a b x false → Logs b c (Failed ∷ []) → Gives a c x failed
gives_fault a b c x failed is p told = let P : Bool → Type 0 = λ f. Gives a c x f in subst P (sym is) (moves_last a b c x (Failed ∷ []) p told)

-- it told its end
gives_end : (a b c : Option (List Transfer)) (x : List ℕ) → Gives a b x false → Logs b c (Moved [] ∷ []) → Gives a c x false
gives_end a b c x p told =
    let P : List ℕ → Type 0 = λ l. Gives a c l false in
    subst P (append-nil x) (gives_then a b c x [] false p (gives_piece b c [] told))

pub gives_byte_end : (E : Type 0) (a b c : Option (List Transfer)) (x : List ℕ) (byte : Option ℕ) → byte ≡ None → Gives a b x false → Logs b c (byte_transfer {E = E} (Ok byte) ∷ []) → Gives a c x false
gives_byte_end E a b c x byte none p told = gives_end a b c x p (subst (λ o. Logs b c (byte_transfer {E = E} (Ok o) ∷ [])) none told)

pub gives_pushed : (a b c : Option (List Transfer)) (x next : List ℕ) (byte : ℕ) → next ≡ x ++ byte ∷ [] → Gives a b x false → Logs b c (Moved (byte ∷ []) ∷ []) → Gives a c next false
gives_pushed a b c x next byte same p told =
    let P : List ℕ → Type 0 = λ l. Gives a c l false in
    subst P (sym same) (gives_then a b c x (byte ∷ []) false p (gives_piece b c (byte ∷ []) told))

pub gives_going : (a b : Option (List Transfer)) (x : List ℕ) (failed : Bool) → failed ≡ false → Gives a b x false → Gives a b x failed
gives_going a b x failed is p = let P : Bool → Type 0 = λ f. Gives a b x f in subst P (sym is) p

-- ---- a sink

pub takes_none : (a : Option (List Transfer)) → Takes a a [] false
takes_none a = ([], refl, logs_nothing a)

pub takes_then : (a b c : Option (List Transfer)) (x y z : List ℕ) → z ≡ x ++ y → Takes a b x false → Logs b c (Moved y ∷ []) → Takes a c z false
takes_then a b c x y z same p told = let P : List ℕ → Type 0 = λ l. Gives a c l false in subst P (sym same) (gives_then a b c x y false p (gives_piece b c y told))

pub takes_fault : (a b c : Option (List Transfer)) (x : List ℕ) → Takes a b x false → Logs b c (Failed ∷ []) → Takes a c x true
takes_fault a b c x p told = inl (moves_last a b c x (Failed ∷ []) p told)

none_taken : (y : List ℕ) (n : ℕ) → n ≡ 0 → take n y ≡ []
none_taken [] n zero = ap (λ k. take k []) zero
none_taken (b ∷ y) n zero = ap (λ k. take k (b ∷ y)) zero

pub takes_no_more : (a b c : Option (List Transfer)) (x y : List ℕ) (n : ℕ) → n ≡ 0 → Takes a b x false → Logs b c (Moved (take n y) ∷ []) → Takes a c x true
takes_no_more a b c x y n zero p told = inr (moves_last a b c x (Moved [] ∷ []) p (subst (λ t. Logs b c (Moved t ∷ [])) (none_taken y n zero) told))
