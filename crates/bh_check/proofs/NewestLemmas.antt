-- The greatest number of the entries of each key, as it is raised by one entry after the other.
use Rattle.std.proofs.Common.{arith, ◌≡◌, ℕ, zero, suc, ◌+◌, ◌<◌, pos, int_lt, Bool, true, false, ◌&&◌, ◌||◌, if◌then◌else◌, List, [], ◌∷◌, ◌++◌, length, take, get_or, Result, Ok, Err, IfOk, refl, sym, ap, ◌∙◌}
use Rattle.std.specs.List.{list_any}
use Rattle.std.proofs.lemmas.Int.{ints}
use Rattle.sqlite.specs.Order.{Row}
use Rattle.bh_tables.specs.Bodies.{Name, same_name}
use Rattle.bh_tables.proofs.TotalLemmas.{name_Decides}
use Rattle.bh_check.specs.Holds.{number_at}
use Rattle.bh_check.specs.Tallies.{entry_key, is_past}

-- what follows from a fact on a value that is there
pub ok_weaker : {T E : Type 0} (r : Result T E) (P Q : T → Type 0) → ((x : T) → P x → Q x) → IfOk r P → IfOk r Q
ok_weaker (Ok x) P Q f p = f x p
ok_weaker (Err e) P Q f p = tt

or_false : (b : Bool) → (b || false) ≡ b
or_false true = refl
or_false false = refl

any_more : {X : Type 0} (p : X → Bool) (xs : List X) (x : X) → list_any p (xs ++ x ∷ []) ≡ (list_any p xs || p x)
any_more p [] x = or_false (p x)
any_more p (y ∷ xs) x = go (p y) (any_more p xs x)
  where
    go : (b : Bool) → list_any p (xs ++ x ∷ []) ≡ (list_any p xs || p x) → (b || list_any p (xs ++ x ∷ [])) ≡ ((b || list_any p xs) || p x)
    go true rest = refl
    go false rest = rest

greater : (n a more b : ℕ) → a + more ≡ b → (int_lt (pos n) (pos a) || int_lt (pos n) (pos b)) ≡ int_lt (pos n) (pos (a + more))
greater n a more b is = grind (arith, ints, is)

as_great : (n a b : ℕ) → b < a → (int_lt (pos n) (pos a) || int_lt (pos n) (pos b)) ≡ int_lt (pos n) (pos a)
as_great n a b low = grind (arith, ints, low)

pub none_less : (n : ℕ) → false ≡ int_lt (pos n) (pos 0)
none_less n = grind (arith, ints)

more_none : (n : ℕ) → n ≡ n + 0
more_none n = omega arith

module _ (rows : List Row) (r : Row) (of : Name → ℕ) (greatest : (q : Name) (n : ℕ) → list_any (is_past q n) rows ≡ int_lt (pos n) (pos (of q))) where
  step : (q : Name) (n : ℕ) → list_any (is_past q n) (rows ++ r ∷ []) ≡ (int_lt (pos n) (pos (of q)) || is_past q n r)
  step q n = any_more (is_past q n) rows r ∙ ap (λ b. b || is_past q n r) (greatest q n)

  -- to the number of this entry, which is greater by so many
  pub raised : (more : ℕ) → of (entry_key r) + more ≡ number_at 2 r → (q : Name) (n : ℕ) → list_any (is_past q n) (rows ++ r ∷ []) ≡ int_lt (pos n) (pos (of q + (if same_name (entry_key r) q then more else 0)))
  raised more is q n = step q n ∙ go (same_name (entry_key r) q) refl
    where
      go : (b : Bool) → same_name (entry_key r) q ≡ b → (int_lt (pos n) (pos (of q)) || (b && int_lt (pos n) (pos (number_at 2 r)))) ≡ int_lt (pos n) (pos (of q + (if b then more else 0)))
      go true same = greater n (of q) more (number_at 2 r) (ap (λ k. of k + more) (sym ((name_Decides (entry_key r) q).0 same)) ∙ is)
      go false other = or_false (int_lt (pos n) (pos (of q))) ∙ ap (λ k. int_lt (pos n) (pos k)) (more_none (of q))

  -- this entry has a smaller one
  pub unraised : number_at 2 r < of (entry_key r) → (q : Name) (n : ℕ) → list_any (is_past q n) (rows ++ r ∷ []) ≡ int_lt (pos n) (pos (of q))
  unraised low q n = step q n ∙ go (same_name (entry_key r) q) refl
    where
      go : (b : Bool) → same_name (entry_key r) q ≡ b → (int_lt (pos n) (pos (of q)) || (b && int_lt (pos n) (pos (number_at 2 r)))) ≡ int_lt (pos n) (pos (of q))
      go true same = let less = rw ((name_Decides (entry_key r) q).0 same) at low in as_great n (of q) (number_at 2 r) less
      go false other = or_false (int_lt (pos n) (pos (of q)))

-- ---- a walk over rows, one row more

pub take_more : {T : Type 0} (rows : List T) (i : ℕ) (row : T) → i < length rows → row ≡ get_or rows i row → take i rows ++ row ∷ [] ≡ take (i + 1) rows
take_more {T} rows i row low is = go rows i low is ∙ ap (λ n. take n rows) (one i)
  where
    one : (n : ℕ) → suc n ≡ n + 1
    one n = omega arith

    go : (rows : List T) (i : ℕ) → i < length rows → row ≡ get_or rows i row → take i rows ++ row ∷ [] ≡ take (suc i) rows
    go [] i low is = absurd (omega (arith, low))
    go (r ∷ rows) zero low is = ap (λ x. x ∷ []) is
    go (r ∷ rows) (suc i) low is = ap (λ l. r ∷ l) (go rows i (omega (arith, low)) is)

pub take_all : {T : Type 0} (rows : List T) (i : ℕ) → (i < length rows → ⊥) → take i rows ≡ rows
take_all [] zero high = refl
take_all [] (suc i) high = refl
take_all (r ∷ rows) zero high = absurd (high (omega arith))
take_all (r ∷ rows) (suc i) high = ap (λ l. r ∷ l) (take_all rows i (λ low. high (omega (arith, low))))
