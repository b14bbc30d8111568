-- What came of a body, and then more.
use Rattle.std.proofs.Common.{◌≡◌, ℕ, ◌+◌, List, [], ◌∷◌, ◌++◌, length, length-append, append_assoc, append-nil, refl, sym, ap, subst, ◌∙◌, arith, Option, Some, None, Result, Ok, Err, IfErr}
use Rattle.std.specs.Io.KnownBytes.{Consumes}
use Rattle.std.specs.Prelude.{IfSome}
use Rattle.bh_http.specs.Bodies.{Coming, Gives, BreaksOff, MayBreak, is_fault, whole}
use Rattle.bh_http.specs.Transfers as transfers
use Rattle.bh_http.proofs.TransferLemmas.{gives_nothing}
use Rattle.bh_http.proofs.TransferLemmas.{gives_then as more}
use Rattle.bh_http.specs.declared.body.Break.{Break}

pub gives_none : (a : Coming) → a.broken ≡ None → Gives a a []
gives_none a going = record {
  consumed = none a.left;
  gave = subst (λ (b : Option Break). transfers.Gives a.gave a.gave [] (is_fault b)) (sym going) (gives_nothing a.gave);
  counted = omega arith;
}
  where
    none : (l : Option (List ℕ)) → Consumes l l []
    none None = tt
    none (Some xs) = refl

pub gives_then : (a b c : Coming) (x y : List ℕ) → b.broken ≡ None → Gives a b x → Gives b c y → Gives a c (x ++ y)
gives_then a b c x y going h k = record {
  consumed = then a.left b.left c.left h.consumed k.consumed;
  gave = more a.gave b.gave c.gave x y (is_fault c.broken) (subst (λ (o : Option Break). transfers.Gives a.gave b.gave x (is_fault o)) going h.gave) k.gave;
  counted = (let e = length-append x y in let f = h.counted in let g = k.counted in omega (arith, e, f, g));
}
  where
    then : (a b c : Option (List ℕ)) → Consumes a b x → Consumes b c y → Consumes a c (x ++ y)
    then None b c h k = tt
    then (Some xs) None c h k = absurd h
    then (Some xs) (Some ys) None h k = absurd k
    then (Some xs) (Some ys) (Some zs) h k = h ∙ ap (λ t. x ++ t) k ∙ sym (append_assoc x y zs)

-- of one that is there as a whole
pub whole_gives : (xs ys bytes : List ℕ) → xs ≡ bytes ++ ys → Gives (whole xs) (whole ys) bytes
whole_gives xs ys bytes e = record {
  consumed = e;
  gave = (bytes ∷ [], sym (append-nil bytes), tt);
  counted = ap length e ∙ length-append bytes ys;
}

pub if_err : {X E : Type 0} (r : Result X E) {Q : Type 0} → Q → IfErr r (λ _. Q)
if_err (Ok x) q = tt
if_err (Err e) q = q

-- a body that is not broken, or broke off
pub going_may : (c : Coming) → c.broken ≡ None → MayBreak c
going_may c going = let P : Option Break → Type 0 = λ b. IfSome b (λ _. BreaksOff c) in subst P (sym going) tt

pub breaks_may : (c : Coming) → BreaksOff c → MayBreak c
breaks_may c off = go c.broken
  where
    go : (b : Option Break) → IfSome b (λ _. BreaksOff c)
    go None = tt
    go (Some b) = off
