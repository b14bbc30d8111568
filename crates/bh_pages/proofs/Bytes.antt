-- The order of texts, and those that begin with another.
use Rattle.std.proofs.Common.{◌≡◌, ℕ, zero, suc, ◌<◌, ◌≤◌, Bool, true, false, true≢false, cond, ◌==◌, ◌&&◌, [], ◌∷◌, ◌++◌, length, drop, Option, Some, None, option_map, refl, sym, ap, subst, ◌∙◌, arith, Ordering, Less, Equal, Greater, nat_cmp, le_refl}
use Rattle.std.specs.List.{AllByRecursion}
use Rattle.std.specs.Ordering.{is_eq, is_le, is_gt, ordering_then, ordering_reverse}
use Rattle.std.specs.Cmp.{nat_cmp_is, Equal-is}
use Rattle.std.specs.FinMap.{nat_cmp-IsAntisymmetric, slice_cmp-IsAntisymmetric}
use Rattle.std.proofs.lemmas.Bool.Decides.{nat_tests}
use Rattle.std.proofs.lemmas.Cmp.{ranked, upto, nat_list_cmp_total, tied_itself, nat_cmp_total}
use Rattle.std.proofs.lemmas.Bool.{eqb-true}
use Rattle.bh_model.specs.State.{Octets, octets_cmp}
use Rattle.bh_model.specs.Pages.{same, is_upto, begins, up_to_delimiter, rolled}
use Rattle.bh_pages.specs.Gathered.{past_key, past_name}

not_gt : (o : Ordering) → is_le o ≡ true → is_gt o ≡ false
not_gt Less h = refl
not_gt Equal h = refl
not_gt Greater h = absurd (true≢false (sym h))

from_not_gt : (o : Ordering) → is_gt o ≡ false → is_le o ≡ true
from_not_gt Less h = refl
from_not_gt Equal h = refl
from_not_gt Greater h = absurd (true≢false h)

pub upto_trans : (a b c : Octets) → is_upto a b ≡ true → is_upto b c ≡ true → is_upto a c ≡ true
upto_trans a b c h k = from_not_gt _ (upto nat_list_cmp_total a b c (not_gt _ h) (not_gt _ k))

pub upto_self : (a : Octets) → is_upto a a ≡ true
upto_self a = ap is_le (tied_itself nat_list_cmp_total a)

-- what stands before the next text on stands before a text
pub not_upto : (a b c : Octets) → is_upto a b ≡ true → is_upto a c ≡ false → is_upto b c ≡ false
not_upto a b c h k = elim (is_upto b c) as (λ t. is_upto b c ≡ t → t ≡ false) [ true ↦ λ e. absurd (true≢false (sym (upto_trans a b c h e) ∙ k)) | false ↦ λ _. refl ] refl

pub same_is : (a b : Octets) → same a b ≡ true → a ≡ b
same_is a b h = slice_cmp-IsAntisymmetric nat_cmp-IsAntisymmetric a b ((Equal-is _).0 h)

turned_le : (o : Ordering) → is_le o ≡ false → is_le (ordering_reverse o) ≡ true
turned_le Less h = absurd (true≢false h)
turned_le Equal h = absurd (true≢false h)
turned_le Greater h = refl

pub upto_other : (a b : Octets) → is_upto a b ≡ false → is_upto b a ≡ true
upto_other a b h = ap is_le (nat_list_cmp_total.antisymm b a) ∙ turned_le _ h

zero_least : (c : ℕ) (cs : Octets) → is_upto (0 ∷ []) (c ∷ cs) ≡ true
zero_least zero [] = refl
zero_least zero (c ∷ cs) = refl
zero_least (suc c) cs = ap (λ o. is_le (ordering_then o (octets_cmp [] cs))) (sym (nat_cmp_is 0 (suc c) Less (omega arith)))

-- a greater text is not before the least text after one
pub from_past_key : (k y : Octets) → is_upto k y ≡ true → same k y ≡ false → is_upto (past_key k) y ≡ true
from_past_key [] [] h d = absurd (true≢false d)
from_past_key [] (c ∷ cs) h d = zero_least c cs
from_past_key (x ∷ k) [] h d = absurd (true≢false (sym h))
from_past_key (x ∷ k) (y ∷ ys) h d = go (nat_cmp x y) h d (from_past_key k ys)
  where
    go : (o : Ordering) → is_le (ordering_then o (octets_cmp k ys)) ≡ true → is_eq (ordering_then o (octets_cmp k ys)) ≡ false → (is_upto k ys ≡ true → same k ys ≡ false → is_upto (past_key k) ys ≡ true)
        → is_le (ordering_then o (octets_cmp (past_key k) ys)) ≡ true
    go Less h d more = refl
    go Equal h d more = more h d
    go Greater h d more = absurd (true≢false (sym h))

-- a text is before the least text after it
pub before_past_key : (k : Octets) → is_upto (past_key k) k ≡ false
before_past_key [] = refl
before_past_key (x ∷ k) = ap (λ o. is_le (ordering_then o (octets_cmp (past_key k) k))) (tied_itself nat_cmp_total x) ∙ before_past_key k

pub past_key_above : (k y : Octets) → is_upto y k ≡ true → is_upto (past_key k) y ≡ false
past_key_above k y h = elim (is_upto (past_key k) y) as (λ t. is_upto (past_key k) y ≡ t → t ≡ false) [ true ↦ λ e. absurd (true≢false (sym (upto_trans (past_key k) y k e h) ∙ before_past_key k)) | false ↦ λ _. refl ] refl

-- the least text after a text is past it
pub upto_past_key : (k : Octets) → is_upto k (past_key k) ≡ true
upto_past_key [] = refl
upto_past_key (x ∷ k) = ap (λ o. is_le (ordering_then o (octets_cmp k (past_key k)))) (tied_itself nat_cmp_total x) ∙ upto_past_key k

pub both : {a b : Bool} → (a && b) ≡ true → (a ≡ true) × (b ≡ true)
both {a} {b} h = elim a as (λ a. (a && b) ≡ true → (a ≡ true) × (b ≡ true)) [ true ↦ λ h. (refl, h) | false ↦ λ h. absurd (true≢false (sym h)) ] h

pub same_number : (a : ℕ) → (a == a) ≡ true
same_number a = grind (arith, nat_tests)

tied : (a b : ℕ) → (a == b) ≡ true → nat_cmp a b ≡ Equal
tied a b h = subst (λ c. nat_cmp a c ≡ Equal) (eqb-true a b h) (tied_itself nat_cmp_total a)

-- between a name and the text past it stands only what begins with it
pub begins_between : (p y : Octets) → is_upto p y ≡ true → is_upto (past_name p) y ≡ false → begins p y ≡ true
begins_between [] y h n = refl
begins_between (a ∷ p) [] h n = absurd (true≢false (sym h))
begins_between (a ∷ p) (b ∷ y) h n = go (nat_cmp a b) refl h n (begins_between p y)
  where
    go : (o : Ordering) → nat_cmp a b ≡ o → is_le (ordering_then o (octets_cmp p y)) ≡ true → is_le (ordering_then o (octets_cmp (past_name p) y)) ≡ false
        → (is_upto p y ≡ true → is_upto (past_name p) y ≡ false → begins p y ≡ true) → ((a == b) && begins p y) ≡ true
    go Less e h n more = absurd (true≢false n)
    go Equal e h n more = ap (λ c. (a == c) && begins p y) (sym (ranked a b Equal (sym e))) ∙ ap (λ t. t && begins p y) (same_number a) ∙ more h n
    go Greater e h n more = absurd (true≢false (sym h))

large : (c : ℕ) → c < 255 → nat_cmp 255 c ≡ Greater
large c h = grind (arith)

-- what begins with a name stands before the text past it
pub before_past_name : (p y : Octets) → begins p y ≡ true → AllByRecursion (λ b. b < 255) y → is_upto (past_name p) y ≡ false
before_past_name [] [] h small = refl
before_past_name [] (c ∷ cs) h small = ap (λ o. is_le (ordering_then o (octets_cmp [] cs))) (large c small.0)
before_past_name (a ∷ p) [] h small = absurd (true≢false (sym h))
before_past_name (a ∷ p) (b ∷ y) h small = ap (λ o. is_le (ordering_then o (octets_cmp (past_name p) y))) (tied a b (both h).0) ∙ before_past_name p y (both h).1 small.1

pub upto_begun : (p y : Octets) → begins p y ≡ true → is_upto p y ≡ true
upto_begun [] [] h = refl
upto_begun [] (c ∷ cs) h = refl
upto_begun (a ∷ p) [] h = absurd (true≢false (sym h))
upto_begun (a ∷ p) (b ∷ y) h = ap (λ o. is_le (ordering_then o (octets_cmp p y))) (tied a b (both h).0) ∙ upto_begun p y (both h).1

-- ---- beginnings

begins_append : (a b y : Octets) → begins (a ++ b) y ≡ true → (begins a y ≡ true) × (begins b (drop (length a) y) ≡ true)
begins_append [] b y h = (refl, h)
begins_append (x ∷ a) b [] h = absurd (true≢false (sym h))
begins_append (x ∷ a) b (c ∷ y) h =
    let more = begins_append a b y (both h).1 in (ap (λ t. t && begins a y) (both h).0 ∙ more.0, more.1)

append_begins : (a b y : Octets) → begins a y ≡ true → begins b (drop (length a) y) ≡ true → begins (a ++ b) y ≡ true
append_begins [] b y h k = k
append_begins (x ∷ a) b [] h k = absurd (true≢false (sym h))
append_begins (x ∷ a) b (c ∷ y) h k = ap (λ t. t && begins (a ++ b) y) (both h).0 ∙ append_begins a b y (both h).1 k

-- two texts that begin alike begin alike with anything shorter
begins_alike : (n d x y : Octets) → begins n x ≡ true → begins n y ≡ true → length d ≤ length n → begins d y ≡ true → begins d x ≡ true
begins_alike n [] x y hx hy short h = refl
begins_alike [] (c ∷ d) x y hx hy short h = absurd (omega (arith, short))
begins_alike (a ∷ n) (c ∷ d) [] y hx hy short h = absurd (true≢false (sym hx))
begins_alike (a ∷ n) (c ∷ d) (b ∷ x) [] hx hy short h = absurd (true≢false (sym h))
begins_alike (a ∷ n) (c ∷ d) (b ∷ x) (e ∷ y) hx hy short h =
    let is : b ≡ e = sym (eqb-true a b (both hx).0) ∙ eqb-true a e (both hy).0 in
    ap (λ t. t && begins d x) (ap (λ z. c == z) is ∙ (both h).0) ∙ begins_alike n d x y (both hx).1 (both hy).1 (omega (arith, short)) (both h).1

pub none_some : {T : Type 0} {x : T} → None ≡ Some x → ⊥
none_some h = cc

pub some_same : {T : Type 0} {x y : T} → Some x ≡ Some y → x ≡ y
some_same h = cc

-- ---- names

cut_long : (d x n : Octets) → up_to_delimiter d x ≡ Some n → length d ≤ length n
cut_long d [] n h = absurd (none_some h)
cut_long d (b ∷ x) n h = go (begins d (b ∷ x)) h (up_to_delimiter d x) (cut_long d x)
  where
    tail : (o : Option Octets) → ((m : Octets) → o ≡ Some m → length d ≤ length m) → option_map (λ (m : Octets). b ∷ m) o ≡ Some n → length d ≤ length n
    tail None more h = absurd (none_some h)
    tail (Some m) more h = subst (λ z. length d ≤ length z) (some_same h) (le_up (more m refl))
      where
        le_up : length d ≤ length m → length d ≤ length (b ∷ m)
        le_up k = omega (arith, k)

    go : (t : Bool) → cond t (Some d) (option_map (λ (m : Octets). b ∷ m) (up_to_delimiter d x)) ≡ Some n → (o : Option Octets) → ((m : Octets) → up_to_delimiter d x ≡ Some m → length d ≤ length m) → length d ≤ length n
    go true h o more = subst (λ z. length d ≤ length z) (some_same h) (le_refl (length d))
    go false h o more = tail (up_to_delimiter d x) more h

-- a text begins with what is cut of it
cut_begins : (d x n : Octets) → up_to_delimiter d x ≡ Some n → begins n x ≡ true
cut_begins d [] n h = absurd (none_some h)
cut_begins d (b ∷ x) n h = go (begins d (b ∷ x)) refl h (cut_begins d x)
  where
    tail : (o : Option Octets) → ((m : Octets) → o ≡ Some m → begins m x ≡ true) → option_map (λ (m : Octets). b ∷ m) o ≡ Some n → begins n (b ∷ x) ≡ true
    tail None more h = absurd (none_some h)
    tail (Some m) more h = subst (λ z. begins z (b ∷ x) ≡ true) (some_same h) (ap (λ t. t && begins m x) (same_number b) ∙ more m refl)

    go : (t : Bool) → begins d (b ∷ x) ≡ t → cond t (Some d) (option_map (λ (m : Octets). b ∷ m) (up_to_delimiter d x)) ≡ Some n → ((m : Octets) → up_to_delimiter d x ≡ Some m → begins m x ≡ true) → begins n (b ∷ x) ≡ true
    go true e h more = subst (λ z. begins z (b ∷ x) ≡ true) (some_same h) e
    go false e h more = tail (up_to_delimiter d x) more h

-- and whatever begins with it is cut there
cut_again : (c : ℕ) (ds x y n : Octets) → up_to_delimiter (c ∷ ds) x ≡ Some n → begins n y ≡ true → up_to_delimiter (c ∷ ds) y ≡ Some n
cut_again c ds [] y n h k = absurd (none_some h)
cut_again c ds (b ∷ x) y n h k = go (begins (c ∷ ds) (b ∷ x)) refl h y k (cut_again c ds x)
  where
    whole : (y : Octets) → begins (c ∷ ds) y ≡ true → up_to_delimiter (c ∷ ds) y ≡ Some (c ∷ ds)
    whole [] k = absurd (true≢false (sym k))
    whole (e ∷ y) k = ap (λ t. cond t (Some (c ∷ ds)) (option_map (λ (m : Octets). e ∷ m) (up_to_delimiter (c ∷ ds) y))) k

    no_sooner : (m : Octets) → begins (c ∷ ds) (b ∷ x) ≡ false → up_to_delimiter (c ∷ ds) x ≡ Some m → (e : ℕ) (y : Octets) → b ≡ e → begins m y ≡ true → begins (c ∷ ds) (e ∷ y) ≡ false
    no_sooner m miss is e y alike k = elim (begins (c ∷ ds) (e ∷ y)) as (λ t. begins (c ∷ ds) (e ∷ y) ≡ t → t ≡ false) [
      | true ↦ λ h. absurd (true≢false (sym (ap (λ z. (c == z) && begins ds x) alike ∙ ap (λ t. t && begins ds x) (both h).0 ∙ begins_alike m ds x y (cut_begins (c ∷ ds) x m is) k (shorter (cut_long (c ∷ ds) x m is)) (both h).1) ∙ miss))
      | false ↦ λ h. refl
    ] refl
      where
        shorter : length (c ∷ ds) ≤ length m → length ds ≤ length m
        shorter h = omega (arith, h)

    later : (m : Octets) → begins (c ∷ ds) (b ∷ x) ≡ false → up_to_delimiter (c ∷ ds) x ≡ Some m → (y : Octets) → begins (b ∷ m) y ≡ true → ((y n : Octets) → up_to_delimiter (c ∷ ds) x ≡ Some n → begins n y ≡ true → up_to_delimiter (c ∷ ds) y ≡ Some n) → up_to_delimiter (c ∷ ds) y ≡ Some (b ∷ m)
    later m miss is [] k more = absurd (true≢false (sym k))
    later m miss is (e ∷ y) k more =
        let alike : b ≡ e = eqb-true b e (both k).0 in
        ap (λ t. cond t (Some (c ∷ ds)) (option_map (λ (z : Octets). e ∷ z) (up_to_delimiter (c ∷ ds) y))) (no_sooner m miss is e y alike (both k).1)
        ∙ ap (option_map (λ (z : Octets). e ∷ z)) (more y m is (both k).1) ∙ ap (λ z. Some (z ∷ m)) (sym alike)

    tail : (o : Option Octets) → up_to_delimiter (c ∷ ds) x ≡ o → begins (c ∷ ds) (b ∷ x) ≡ false → option_map (λ (m : Octets). b ∷ m) o ≡ Some n → (y : Octets) → begins n y ≡ true
        → ((y n : Octets) → up_to_delimiter (c ∷ ds) x ≡ Some n → begins n y ≡ true → up_to_delimiter (c ∷ ds) y ≡ Some n) → up_to_delimiter (c ∷ ds) y ≡ Some n
    tail None is miss h y k more = absurd (none_some h)
    tail (Some m) is miss h y k more = later m miss is y (subst (λ z. begins z y ≡ true) (sym (some_same h)) k) more ∙ h

    go : (t : Bool) → begins (c ∷ ds) (b ∷ x) ≡ t → cond t (Some (c ∷ ds)) (option_map (λ (m : Octets). b ∷ m) (up_to_delimiter (c ∷ ds) x)) ≡ Some n → (y : Octets) → begins n y ≡ true
        → ((y n : Octets) → up_to_delimiter (c ∷ ds) x ≡ Some n → begins n y ≡ true → up_to_delimiter (c ∷ ds) y ≡ Some n) → up_to_delimiter (c ∷ ds) y ≡ Some n
    go true e h y k more = whole y (subst (λ z. begins z y ≡ true) (sym (some_same h)) k) ∙ h
    go false e h y k more = tail (up_to_delimiter (c ∷ ds) x) refl e h y k more

module _ (prefix : Octets) where
  -- a key begins with the name that it is rolled up under
  pub rolled_begins : (delimiter k p : Octets) → begins prefix k ≡ true → rolled prefix delimiter k ≡ Some p → begins p k ≡ true
  rolled_begins [] k p b h = absurd (none_some h)
  rolled_begins (c ∷ ds) k p b h = go (up_to_delimiter (c ∷ ds) (drop (length prefix) k)) refl h
    where
      go : (o : Option Octets) → up_to_delimiter (c ∷ ds) (drop (length prefix) k) ≡ o → option_map (λ (n : Octets). prefix ++ n) o ≡ Some p → begins p k ≡ true
      go None is h = absurd (none_some h)
      go (Some n) is h = subst (λ z. begins z k ≡ true) (some_same h) (append_begins prefix n k b (cut_begins (c ∷ ds) _ n is))

  -- and each key that begins with the name is rolled up under it
  pub rolled_again : (delimiter k p y : Octets) → rolled prefix delimiter k ≡ Some p → begins p y ≡ true → rolled prefix delimiter y ≡ Some p
  rolled_again [] k p y h b = absurd (none_some h)
  rolled_again (c ∷ ds) k p y h b = go (up_to_delimiter (c ∷ ds) (drop (length prefix) k)) refl h
    where
      go : (o : Option Octets) → up_to_delimiter (c ∷ ds) (drop (length prefix) k) ≡ o → option_map (λ (n : Octets). prefix ++ n) o ≡ Some p → option_map (λ (n : Octets). prefix ++ n) (up_to_delimiter (c ∷ ds) (drop (length prefix) y)) ≡ Some p
      go None is h = absurd (none_some h)
      go (Some n) is h = ap (option_map (λ (n : Octets). prefix ++ n)) (cut_again c ds _ _ n is (begins_append prefix n y (subst (λ z. begins z y ≡ true) (sym (some_same h)) b)).1) ∙ h
