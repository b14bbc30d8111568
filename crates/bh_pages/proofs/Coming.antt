-- The entries of items that stand in the order of their keys: each comes before those of later items, or shares its rolled-up name
-- with them.
use Rattle.std.proofs.Common.{◌≡◌, ◌⊎◌, inl, inr, Bool, true, false, true≢false, cond, not, ◌==◌, ◌&&◌, List, [], ◌∷◌, map, filter, Option, Some, None, refl, sym, ap, subst, ◌∙◌, Ordering, Less, Equal, Greater, nat_cmp}
use Rattle.std.specs.List.{AllByRecursion}
use Rattle.std.specs.FinMap.{nat_cmp-IsAntisymmetric}
use Rattle.std.specs.Ordering.{is_eq, is_lt, is_le, ordering_then, ordering_reverse}
use Rattle.std.proofs.lemmas.Bool.{eqb-true, cases_Bool}
use Rattle.std.proofs.lemmas.Cmp.{nat_list_cmp_total, nat_cmp_total, tied_itself}
use Rattle.bh_model.specs.State.{Octets, octets_cmp}
use Rattle.bh_model.specs.Pages.{Listed, Listed.Single, Listed.Common, same, is_before, is_upto, begins, rolled, as_listed, name_of, merged, entry_of}
use Rattle.bh_pages.proofs.Bytes.{same_number, upto_trans, upto_self, both, upto_begun, none_some, some_same, rolled_begins, rolled_again}
use Rattle.bh_pages.proofs.Before.{less_not_equal, before_upto}
use Rattle.bh_pages.proofs.Filters.{filter_whole, filter_same}
use Rattle.bh_pages.proofs.Pairs.{Pairs}
use Rattle.bh_pages.proofs.Resuming.{Resumes, so_far}

-- ---- the order of texts

-- a text is before another where the other is not up to it
pub before_is : (a b : Octets) → is_before a b ≡ not (is_upto b a)
before_is a b = go (octets_cmp b a) (ap is_lt (nat_list_cmp_total.antisymm a b))
  where
    go : (o : Ordering) → is_before a b ≡ is_lt (ordering_reverse o) → is_before a b ≡ not (is_le o)
    go Less h = h
    go Equal h = h
    go Greater h = h

-- what lies between a text and one that begins with it begins with it
between : (p k y : Octets) → is_upto p k ≡ true → is_upto k y ≡ true → begins p y ≡ true → begins p k ≡ true
between [] k y low high b = refl
between (x ∷ p) [] y low high b = absurd (true≢false (sym low))
between (x ∷ p) (c ∷ k) [] low high b = absurd (true≢false (sym b))
between (x ∷ p) (c ∷ k) (d ∷ y) low high b =
    let parts = both {a = x == d} {b = begins p y} b in
    let high2 : is_le (ordering_then (nat_cmp c x) (octets_cmp k y)) ≡ true = subst (λ z. is_le (ordering_then (nat_cmp c z) (octets_cmp k y)) ≡ true) (sym (eqb-true x d parts.0)) high in
    go (nat_cmp c x) refl (nat_cmp_total.antisymm x c) low high2 parts.1 (between p k y)
  where
    go : (o : Ordering) → nat_cmp c x ≡ o → nat_cmp x c ≡ ordering_reverse (nat_cmp c x) → is_le (ordering_then (nat_cmp x c) (octets_cmp p k)) ≡ true → is_le (ordering_then (nat_cmp c x) (octets_cmp k y)) ≡ true → begins p y ≡ true → (is_upto p k ≡ true → is_upto k y ≡ true → begins p y ≡ true → begins p k ≡ true) → begins (x ∷ p) (c ∷ k) ≡ true
    go Less is turned low high b more = absurd (true≢false (sym low ∙ ap (λ o. is_le (ordering_then o (octets_cmp p k))) (turned ∙ ap ordering_reverse is)))
    go Equal is turned low high b more =
        let same_byte : x ≡ c = nat_cmp-IsAntisymmetric x c (turned ∙ ap ordering_reverse is) in
        ap (λ z. (x == z) && begins p k) (sym same_byte) ∙ ap (λ t. t && begins p k) (same_number x)
        ∙ more (ap (λ o. is_le (ordering_then o (octets_cmp p k))) (sym (turned ∙ ap ordering_reverse is)) ∙ low) (ap (λ o. is_le (ordering_then o (octets_cmp k y))) (sym is) ∙ high) b
    go Greater is turned low high b more = absurd (true≢false (sym high ∙ ap (λ o. is_le (ordering_then o (octets_cmp k y))) is))

pub upto_before : (a b : Octets) → is_before a b ≡ true → is_upto a b ≡ true
upto_before a b h = go (octets_cmp a b) h
  where
    go : (o : Ordering) → is_lt o ≡ true → is_le o ≡ true
    go Less h = refl
    go Equal h = refl
    go Greater h = absurd (true≢false (sym h))

pub not_before : (a b : Octets) → is_upto a b ≡ true → is_before b a ≡ false
not_before a b h = before_is b a ∙ ap not h

pub before_back : (a b : Octets) → is_before a b ≡ true → is_before b a ≡ false
before_back a b h = not_before a b (upto_before a b h)

pub before_self : (a : Octets) → is_before a a ≡ false
before_self a = not_before a a (upto_self a)

before_trans : (a b c : Octets) → is_before a b ≡ true → is_before b c ≡ true → is_before a c ≡ true
before_trans a b c h k = before_upto a b c h (upto_before b c k)

above : (a b : Octets) → is_upto b a ≡ false → is_before a b ≡ true
above a b h = before_is a b ∙ ap not h

-- ---- the entries of items in the order of their keys

module _ {T : Type 0} (prefix delimiter : Octets) (key : T → Octets) where
  abbrev entry : T → Listed T
  entry = entry_of prefix delimiter key

  abbrev pub Comes : Listed T → Listed T → Type 0
  Comes (Single x) (Single y) = Unit {0}
  Comes (Single x) (Common m) = is_before (key x) m ≡ true
  Comes (Common n) (Single y) = is_before n (key y) ≡ true
  Comes (Common n) (Common m) = (n ≡ m) ⊎ (is_before n m ≡ true)

  entry_comes : (x y : T) → begins prefix (key x) ≡ true → begins prefix (key y) ≡ true → is_upto (key x) (key y) ≡ true → Comes (entry x) (entry y)
  entry_comes x y bx b low = go (rolled prefix delimiter (key x)) (rolled prefix delimiter (key y)) refl refl
    where
      -- a rolled-up name of the later one that is up to a name of the earlier one is the earlier one's too
      rolls : (q n : Octets) → rolled prefix delimiter (key y) ≡ Some q → is_upto q n ≡ true → is_upto n (key x) ≡ true → rolled prefix delimiter (key x) ≡ Some q
      rolls q n is upto under = rolled_again prefix delimiter (key y) q (key x) is (between q (key x) (key y) (upto_trans q n (key x) upto under) low (rolled_begins prefix delimiter (key y) q b is))

      -- and one of the earlier one from which the later one is not is the later one's too
      rolls_on : (n : Octets) → rolled prefix delimiter (key x) ≡ Some n → is_upto (key y) n ≡ true → rolled prefix delimiter (key y) ≡ Some n
      rolls_on n is upto =
          let begun = rolled_begins prefix delimiter (key x) n bx is in
          let under = upto_begun n (key x) begun in
          rolled_again prefix delimiter (key x) n (key y) is (between n (key y) (key x) (upto_trans n (key x) (key y) under low) (upto_trans (key y) n (key x) upto under) begun)

      go : (o p : Option Octets) → rolled prefix delimiter (key x) ≡ o → rolled prefix delimiter (key y) ≡ p → Comes (as_listed x o) (as_listed y p)
      go None None is is2 = tt
      go None (Some q) is is2 = elim (cases_Bool (is_upto q (key x))) [
        | inl upto ↦ absurd (none_some (sym is ∙ rolls q (key x) is2 upto (upto_self (key x))))
        | inr h ↦ above (key x) q h
      ]
      go (Some n) None is is2 = elim (cases_Bool (is_upto (key y) n)) [
        | inl upto ↦ absurd (none_some (sym is2 ∙ rolls_on n is upto))
        | inr h ↦ above n (key y) h
      ]
      go (Some n) (Some q) is is2 = elim (cases_Bool (is_upto q n)) [
        | inl upto ↦ inl (some_same (sym is ∙ rolls q n is2 upto (upto_begun n (key x) (rolled_begins prefix delimiter (key x) n bx is))))
        | inr h ↦ inr (above n q h)
      ]

  abbrev pub under : List T → List T
  under = filter (λ x. begins prefix (key x))

  abbrev pub Leads : (T → T → Type 0) → T → T → Type 0
  Leads R x y = R x y × Comes (entry x) (entry y)

  module _ (R : T → T → Type 0) (keys : (x y : T) → R x y → is_upto (key x) (key y) ≡ true) where
    pub leads : (items : List T) → Pairs R items → Pairs (Leads R) (under items)
    leads [] up = tt
    leads (x ∷ items) up = elim (begins prefix (key x)) as (λ t. begins prefix (key x) ≡ t → Pairs (Leads R) (cond t (x ∷ under items) (under items))) [
      | true ↦ λ b. (all_led b items up.0, leads items up.1)
      | false ↦ λ b. leads items up.1
    ] refl
      where
        all_led : begins prefix (key x) ≡ true → (ys : List T) → AllByRecursion (R x) ys → AllByRecursion (Leads R x) (under ys)
        all_led bx [] all = tt
        all_led bx (y ∷ ys) all = elim (begins prefix (key y)) as (λ t. begins prefix (key y) ≡ t → AllByRecursion (Leads R x) (cond t (y ∷ under ys) (under ys))) [
          | true ↦ λ b. ((all.0, entry_comes x y bx b (keys x y all.0)), all_led bx ys all.1)
          | false ↦ λ b. all_led bx ys all.1
        ] refl

  -- ---- after a rolled-up name come the greater ones

  abbrev pub past_name : Octets → Listed T → Bool
  past_name n e = is_before n (name_of key e)

  later : (n : Octets) (e f : Listed T) → past_name n e ≡ true → Comes e f → Comes (Common n) f → past_name n f ≡ true
  later n (Single x) (Single y) p c d = d
  later n (Common m) (Single y) p c d = d
  later n (Single x) (Common k) p c d = before_trans n (key x) k p c
  later n (Common m) (Common k) p (inl same) d = subst (λ z. is_before n z ≡ true) same p
  later n (Common m) (Common k) p (inr before) d = before_trans n m k p before

  all_later : (n : Octets) (e : Listed T) → past_name n e ≡ true → (es : List (Listed T)) → AllByRecursion (Comes e) es → AllByRecursion (Comes (Common n)) es → AllByRecursion (λ f. past_name n f ≡ true) es
  all_later n e p [] all ones = tt
  all_later n e p (f ∷ es) all ones = (later n e f p all.0 ones.0, all_later n e p es all.1 ones.1)

  after_common : (n : Octets) (es : List (Listed T)) → Pairs Comes es → AllByRecursion (Comes (Common n)) es → merged None (filter (past_name n) es) ≡ merged (Some n) es
  after_common n [] up all = refl
  after_common n (Single x ∷ es) up all =
      ap (λ t. merged None (cond t (Single x ∷ filter (past_name n) es) (filter (past_name n) es))) all.0
      ∙ ap (λ l. Single x ∷ merged None l) (filter_whole (past_name n) es (all_later n (Single x) all.0 es up.0 all.1))
  after_common n (Common m ∷ es) up all = go all.0 (after_common n es up.1 all.1)
    where
      go : Comes (Common n) (Common m) → merged None (filter (past_name n) es) ≡ merged (Some n) es → merged None (filter (past_name n) (Common m ∷ es)) ≡ merged (Some n) (Common m ∷ es)
      go (inl is) more =
          ap (λ t. merged None (cond t (Common m ∷ filter (past_name n) es) (filter (past_name n) es))) (ap (is_before n) (sym is) ∙ before_self n)
          ∙ more ∙ ap (λ t. cond t (merged (Some n) es) (Common m ∷ merged (Some m) es)) (sym (ap (same n) (sym is) ∙ ap is_eq (tied_itself nat_list_cmp_total n)))
      go (inr before) more =
          ap (λ t. merged None (cond t (Common m ∷ filter (past_name n) es) (filter (past_name n) es))) before
          ∙ ap (λ l. Common m ∷ merged (Some m) l) (filter_whole (past_name n) es (all_later n (Common m) before es up.0 all.1))
          ∙ ap (λ t. cond t (merged (Some n) es) (Common m ∷ merged (Some m) es)) (sym (less_not_equal (octets_cmp n m) before))

  all_come : (R : T → T → Type 0) (x : T) (e : Listed T) (l : List T) → AllByRecursion (λ y. R x y × Comes e (entry y)) l → AllByRecursion (Comes e) (map entry l)
  all_come R x e [] all = tt
  all_come R x e (y ∷ l) all = (all.0.1, all_come R x e l all.1)

  pairs_come : (R : T → T → Type 0) (l : List T) → Pairs (Leads R) l → Pairs Comes (map entry l)
  pairs_come R [] up = tt
  pairs_come R (x ∷ l) up = (all_come R x (entry x) l up.0, pairs_come R l up.1)

  -- the items after one of this name
  pub after_rolled : (R : T → T → Type 0) (x : T) (n : Octets) (l : List T) → Pairs (Leads R) l → AllByRecursion (λ y. R x y × Comes (Common n) (entry y)) l
      → merged None (filter (past_name n) (map entry l)) ≡ merged (Some n) (map entry l)
  after_rolled R x n l up all = after_common n (map entry l) (pairs_come R l up) (all_come R x (Common n) l all)

  -- ---- where the entries that are left pass a test

  module _ (R : T → T → Type 0) (past : Listed T → Listed T → Bool) (from_name : (n : Octets) (e : Listed T) → past (Common n) e ≡ past_name n e) (to_name : (x : T) (n : Octets) → past (Single x) (Common n) ≡ is_before (key x) n)
      (self : (x : T) → past (Single x) (Single x) ≡ false) (ahead : (x y : T) → R x y → past (Single x) (Single y) ≡ true) (back : (x y : T) → R x y → past (Single y) (Single x) ≡ false) where
    abbrev pub left : Listed T → List T → List (Listed T)
    left e l = filter (past e) (map entry l)

    behind : (x y : T) → Leads R x y → past (entry y) (entry x) ≡ false
    behind x y led = go (rolled prefix delimiter (key x)) (rolled prefix delimiter (key y)) led.1
      where
        go : (o p : Option Octets) → Comes (as_listed x o) (as_listed y p) → past (as_listed y p) (as_listed x o) ≡ false
        go None None c = back x y led.0
        go None (Some m) c = from_name m (Single x) ∙ before_back (key x) m c
        go (Some n) None c = to_name y n ∙ before_back n (key y) c
        go (Some n) (Some m) (inl is) = from_name m (Common n) ∙ ap (is_before m) is ∙ before_self m
        go (Some n) (Some m) (inr before) = from_name m (Common n) ∙ before_back n m before

    skipped : (x : T) (l : List T) → AllByRecursion (Leads R x) l → AllByRecursion (λ y. (k : List T) → left (entry y) (x ∷ k) ≡ left (entry y) k) l
    skipped x [] all = tt
    skipped x (y ∷ l) all = (λ k. ap (λ t. cond t (entry x ∷ left (entry y) k) (left (entry y) k)) (behind x y all.0), skipped x l all.1)

    all_ahead : (x : T) (l : List T) → AllByRecursion (λ y. R x y × Comes (Single x) (entry y)) l → AllByRecursion (λ e. past (Single x) e ≡ true) (map entry l)
    all_ahead x [] all = tt
    all_ahead x (y ∷ l) all = (go (rolled prefix delimiter (key y)) all.0.1, all_ahead x l all.1)
      where
        go : (o : Option Octets) → Comes (Single x) (as_listed y o) → past (Single x) (as_listed y o) ≡ true
        go None c = ahead x y all.0.0
        go (Some m) c = to_name x m ∙ c

    all_named : (n : Octets) (es : List (Listed T)) → AllByRecursion (λ e. past (Common n) e ≡ past_name n e) es
    all_named n [] = tt
    all_named n (e ∷ es) = (from_name n e, all_named n es)

    here : (x : T) (l : List T) → AllByRecursion (Leads R x) l → Pairs (Leads R) l → merged None (left (entry x) (x ∷ l)) ≡ merged (so_far (entry x)) (map entry l)
    here x l all up = go (rolled prefix delimiter (key x)) all
      where
        go : (o : Option Octets) → AllByRecursion (λ y. R x y × Comes (as_listed x o) (entry y)) l → merged None (filter (past (as_listed x o)) (as_listed x o ∷ map entry l)) ≡ merged (so_far (as_listed x o)) (map entry l)
        go None all =
            ap (λ t. merged None (cond t (Single x ∷ filter (past (Single x)) (map entry l)) (filter (past (Single x)) (map entry l)))) (self x)
            ∙ ap (merged None) (filter_whole (past (Single x)) (map entry l) (all_ahead x l all))
        go (Some n) all =
            ap (λ t. merged None (cond t (Common n ∷ filter (past (Common n)) (map entry l)) (filter (past (Common n)) (map entry l)))) (from_name n (Common n) ∙ before_self n)
            ∙ ap (merged None) (filter_same (past (Common n)) (past_name n) (map entry l) (all_named n (map entry l))) ∙ after_rolled R x n l up all

    pub led_resumes : (l : List T) → Pairs (Leads R) l → Resumes entry left l
    led_resumes [] up = tt
    led_resumes (x ∷ l) up = ((skipped x l up.0, here x l up.0 up.1), led_resumes l up.1)
