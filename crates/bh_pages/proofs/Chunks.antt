-- A page that is gathered chunk by chunk, each read from the place where the one before leads.
use Rattle.std.proofs.Common.{◌≡◌, ℕ, suc, ◌<◌, ◌≤◌, Bool, true, false, cond, List, [], ◌∷◌, ◌++◌, length, take, drop, nat_lt, not, ◌||◌, Option, Some, None, refl, sym, ap, subst, ◌∙◌, ◌≢◌, arith}
use Rattle.std.specs.List.{filter, AllByRecursion}
use Rattle.std.proofs.lemmas.List.{take-append-drop, length-take, take_all, append-nil}
use Rattle.std.proofs.Math.ListN.{drop_of_length-le}
use Rattle.std.proofs.Math.Seq.{take-append_seam}
use Rattle.std.proofs.lemmas.Bool.Decides.{nat_tests}
use Rattle.bh_model.specs.State.{Octets}
use Rattle.bh_model.specs.Pages.{Listed, Listed.Common, is_name, is_upto, begins, rolled}
use Rattle.bh_pages.specs.Gathered.{InOrder, Gathered, with_row, with_rows, to_come, rows_from, place_after, place_past, past_key, past_name}
use Rattle.bh_pages.proofs.Bytes.{upto_trans, upto_begun, upto_past_key, upto_other, before_past_name, rolled_begins, some_same}
use Rattle.bh_pages.proofs.Skipping.{rows_step, rows_all, rows_key, turned_key, place_step}

module _ {R : Type 0} (row_key : R → Octets) where
  pub all_filter : (P : R → Type 0) (p : R → Bool) (rows : List R) → AllByRecursion P rows → AllByRecursion P (filter p rows)
  all_filter P p [] all = tt
  all_filter P p (r ∷ rows) all = elim (p r) as (λ t. AllByRecursion P (cond t (r ∷ filter p rows) (filter p rows))) [ true ↦ (all.0, all_filter P p rows all.1) | false ↦ all_filter P p rows all.1 ]

  order_filter : (p : R → Bool) (rows : List R) → InOrder row_key rows → InOrder row_key (filter p rows)
  order_filter p [] up = tt
  order_filter p (r ∷ rows) up = elim (p r) as (λ t. InOrder row_key (cond t (r ∷ filter p rows) (filter p rows))) [ true ↦ (all_filter _ p rows up.0, order_filter p rows up.1) | false ↦ order_filter p rows up.1 ]

  pub passes_filter : (p : R → Bool) (rows : List R) → AllByRecursion (λ r. p r ≡ true) (filter p rows)
  passes_filter p [] = tt
  passes_filter p (r ∷ rows) = elim (p r) as (λ t. p r ≡ t → AllByRecursion (λ r. p r ≡ true) (cond t (r ∷ filter p rows) (filter p rows))) [ true ↦ λ e. (e, passes_filter p rows) | false ↦ λ _. passes_filter p rows ] refl

  all_front : (P : R → Type 0) (xs ys : List R) → AllByRecursion P (xs ++ ys) → AllByRecursion P xs × AllByRecursion P ys
  all_front P [] ys all = (tt, all)
  all_front P (x ∷ xs) ys all = let more = all_front P xs ys all.1 in ((all.0, more.0), more.1)

  order_back : (xs ys : List R) → InOrder row_key (xs ++ ys) → InOrder row_key ys
  order_back [] ys up = up
  order_back (x ∷ xs) ys up = order_back xs ys up.1

module _ {R T : Type 0} (row_key : R → Octets) (item : R → Option T) (prefix delimiter : Octets) (item_key : T → Octets) (passes : Listed T → Bool)
    (keyed : (r : R) (x : T) → item r ≡ Some x → item_key x ≡ row_key r)
    (rows : List R) (up : InOrder row_key rows) (under : AllByRecursion (λ r. (begins prefix (row_key r) ≡ true) × AllByRecursion (λ b. b < 255) (row_key r)) rows) where
  abbrev come : Gathered T → List R → List (Listed T)
  come = to_come row_key item prefix delimiter item_key passes

  abbrev turn : Gathered T → R → Gathered T
  turn = with_row row_key item prefix delimiter item_key passes

  abbrev rowed : ℕ → Gathered T → List R → Gathered T
  rowed = with_rows row_key item prefix delimiter item_key passes

  abbrev place : Gathered T → Octets → Octets
  place = place_after row_key item prefix delimiter item_key passes

  -- the key of the row before is one of the rows'
  rows_among : (P : Octets → Type 0) (max : ℕ) (g : Gathered T) (k : Octets) (chunk : List R) → g.key ≡ Some k → P k → AllByRecursion (λ r. P (row_key r)) chunk → (j : Octets) → (rowed max g chunk).key ≡ Some j → P j
  rows_among P max g k [] has good all j is = subst P (some_same (sym has ∙ is)) good
  rows_among P max g k (r ∷ chunk) has good all j is = go (nat_lt max (length g.entries)) is (rows_among P max (turn g r) (row_key r) chunk (turned_key row_key item prefix delimiter item_key passes g r) all.0 all.1 j)
    where
      go : (t : Bool) → (cond t g (rowed max (turn g r) chunk)).key ≡ Some j → ((rowed max (turn g r) chunk).key ≡ Some j → P j) → P j
      go true is more = subst P (some_same (sym has ∙ is)) good
      go false is more = more is

  -- it is no earlier than the prefix
  pub place_low : (g : Gathered T) (j : Octets) → begins prefix j ≡ true → AllByRecursion (λ b. b < 255) j → is_upto prefix (place g j) ≡ true
  place_low g j under small = go (rolled prefix delimiter j) refl
    where
      by_key : is_upto prefix (past_key j) ≡ true
      by_key = upto_trans prefix j (past_key j) (upto_begun prefix j under) (upto_past_key j)

      by_name : (p : Octets) → rolled prefix delimiter j ≡ Some p → is_upto prefix (past_name p) ≡ true
      by_name p is = upto_trans prefix j (past_name p) (upto_begun prefix j under) (upto_other (past_name p) j (before_past_name p j (rolled_begins prefix delimiter j p under is) small))

      go : (o : Option Octets) → rolled prefix delimiter j ≡ o → is_upto prefix (place_past row_key item prefix delimiter item_key passes g j o) ≡ true
      go None is = by_key
      go (Some p) is = elim (is_name p g.name || not (passes (Common p))) as (λ t. is_upto prefix (cond t (past_name p) (past_key j)) ≡ true) [ true ↦ by_name p is | false ↦ by_key ]

  module _ (max : ℕ) (full : List (Listed T)) (g : Gathered T) (at0 : Octets) (n : ℕ)
      (inv : full ≡ g.entries ++ come g (rows_from row_key at0 rows)) (short : length g.entries ≤ suc max) where
    abbrev chunk : List R
    chunk = take n (rows_from row_key at0 rows)

    abbrev rest : List R
    rest = drop n (rows_from row_key at0 rows)

    split : chunk ++ rest ≡ rows_from row_key at0 rows
    split = take-append-drop n (rows_from row_key at0 rows)

    parted : full ≡ g.entries ++ come g (chunk ++ rest)
    parted = inv ∙ ap (λ l. g.entries ++ come g l) (sym split)

    stepped : (take (suc max) full ≡ take (suc max) ((rowed max g chunk).entries ++ come (rowed max g chunk) rest)) × (length (rowed max g chunk).entries ≤ suc max)
    stepped =
        let it = rows_step row_key item prefix delimiter item_key passes max g chunk rest short in
        (ap (take (suc max)) parted ∙ it.0, it.1)

    pub chunk_short : length (rowed max g chunk).entries ≤ suc max
    chunk_short = stepped.1

    -- the page is full
    pub chunk_full : max < length (rowed max g chunk).entries → take (suc max) full ≡ (rowed max g chunk).entries
    chunk_full over = stepped.0 ∙ exact (rowed max g chunk).entries _ over stepped.1
      where
        exact : (es more : List (Listed T)) → max < length es → length es ≤ suc max → take (suc max) (es ++ more) ≡ es
        exact es more over short = let is : length es ≡ suc max = omega (arith, over, short) in subst (λ m. take m (es ++ more) ≡ es) is (take-append_seam es more)

    -- no rows are left
    pub chunk_last : length chunk < n → take (suc max) full ≡ (rowed max g chunk).entries
    chunk_last few = stepped.0 ∙ ap (λ l. take (suc max) ((rowed max g chunk).entries ++ come (rowed max g chunk) l)) (no_rest (rows_from row_key at0 rows) n few) ∙ ap (take (suc max)) (append-nil _) ∙ taken (rowed max g chunk).entries (suc max) stepped.1
      where
        no_rest : (l : List R) (m : ℕ) → length (take m l) < m → drop m l ≡ []
        no_rest l m few = drop_of_length-le l (fits l m few)
          where
            fits : (l : List R) (m : ℕ) → length (take m l) < m → length l ≤ m
            fits l m few = grind (arith, length-take)

        taken : (es : List (Listed T)) (m : ℕ) → length es ≤ m → take m es ≡ es
        taken es m h = take_all m es h

    -- or reading goes on from that place
    pub chunk_next : length (rowed max g chunk).entries ≤ max → (j : Octets) → (rowed max g chunk).key ≡ Some j → length chunk ≢ 0
        → full ≡ (rowed max g chunk).entries ++ come (rowed max g chunk) (rows_from row_key (place (rowed max g chunk) j) rows)
    chunk_next few j is some =
        parted ∙ rows_all row_key item prefix delimiter item_key passes max g chunk rest few ∙ ap (λ l. (rowed max g chunk).entries ++ l) (first chunk split is some few (chunk_in_order))
      where
        chunk_in_order : InOrder row_key (rows_from row_key at0 rows)
        chunk_in_order = order_filter row_key (λ r. is_upto at0 (row_key r)) rows up

        first : (c : List R) → c ++ rest ≡ rows_from row_key at0 rows → (rowed max g c).key ≡ Some j → length c ≢ 0 → length (rowed max g c).entries ≤ max → InOrder row_key (rows_from row_key at0 rows)
            → come (rowed max g c) rest ≡ come (rowed max g c) (rows_from row_key (place (rowed max g c) j) rows)
        first [] split is some few order = absurd (some refl)
        first (r ∷ c) split is some few order =
            let ordered : InOrder row_key (r ∷ (c ++ rest)) = subst (InOrder row_key) (sym split) order in
            let good = subst (AllByRecursion (λ r. (begins prefix (row_key r) ≡ true) × AllByRecursion (λ b. b < 255) (row_key r))) (sym split) (all_filter row_key _ (λ r. is_upto at0 (row_key r)) rows under) in
            let low = subst (AllByRecursion (λ r. is_upto at0 (row_key r) ≡ true)) (sym split) (passes_filter row_key (λ r. is_upto at0 (row_key r)) rows) in
            let opens : rowed max g (r ∷ c) ≡ rowed max (turn g r) c = opened (nat_lt max (length g.entries)) refl few in
            let h : Gathered T = turn g r in
            let few2 : length (rowed max h c).entries ≤ max = subst (λ (z : Gathered T). length z.entries ≤ max) opens few in
            let is2 : (rowed max h c).key ≡ Some j = ap (λ (z : Gathered T). z.key) (sym opens) ∙ is in
            let k = rows_key row_key item prefix delimiter item_key passes max h (row_key r) c rest (turned_key row_key item prefix delimiter item_key passes g r) ordered.1 ordered.0 few2 in
            let same : k.0 ≡ j = some_same (sym k.1 ∙ is2) in
            let fine = rows_among (λ z. (begins prefix z ≡ true) × AllByRecursion (λ b. b < 255) z) max h (row_key r) c (turned_key row_key item prefix delimiter item_key passes g r) good.0 (all_front row_key _ c rest good.1).0 j is2 in
            let upto : is_upto (row_key r) j ≡ true = subst (λ z. is_upto (row_key r) z ≡ true) same k.2 in
            place_step row_key item prefix delimiter item_key passes keyed (rowed max g (r ∷ c)) j at0 rows (r ∷ c) rest is fine.0 fine.1 (upto_trans at0 (row_key r) j low.0 upto) split (order_back row_key (r ∷ c) rest ordered)
            (upto, subst (λ z. AllByRecursion (λ r. is_upto (row_key r) z ≡ true) c) same k.3) (subst (λ z. AllByRecursion (λ r. is_upto z (row_key r) ≡ true) rest) same k.4)
          where
            opened : (t : Bool) → nat_lt max (length g.entries) ≡ t → length (cond t g (rowed max (turn g r) c)).entries ≤ max → cond t g (rowed max (turn g r) c) ≡ rowed max (turn g r) c
            opened true e few = absurd (over max (length g.entries) e few)
              where
                over : (a b : ℕ) → nat_lt a b ≡ true → b ≤ a → ⊥
                over a b h k = grind (arith, nat_tests, h, k)
            opened false e few = refl

    -- the key of the row before is under the prefix
    pub chunk_key : length (rowed max g chunk).entries ≤ max → (j : Octets) → (rowed max g chunk).key ≡ Some j → length chunk ≢ 0 → (begins prefix j ≡ true) × AllByRecursion (λ b. b < 255) j
    chunk_key few j is some = first chunk split is some few
      where
        first : (c : List R) → c ++ rest ≡ rows_from row_key at0 rows → (rowed max g c).key ≡ Some j → length c ≢ 0 → length (rowed max g c).entries ≤ max → (begins prefix j ≡ true) × AllByRecursion (λ b. b < 255) j
        first [] split is some few = absurd (some refl)
        first (r ∷ c) split is some few =
            let good = subst (AllByRecursion (λ r. (begins prefix (row_key r) ≡ true) × AllByRecursion (λ b. b < 255) (row_key r))) (sym split) (all_filter row_key _ (λ r. is_upto at0 (row_key r)) rows under) in
            let opens : rowed max g (r ∷ c) ≡ rowed max (turn g r) c = opened (nat_lt max (length g.entries)) refl few in
            rows_among (λ z. (begins prefix z ≡ true) × AllByRecursion (λ b. b < 255) z) max (turn g r) (row_key r) c (turned_key row_key item prefix delimiter item_key passes g r) good.0 (all_front row_key _ c rest good.1).0 j (ap (λ (z : Gathered T). z.key) (sym opens) ∙ is)
          where
            opened : (t : Bool) → nat_lt max (length g.entries) ≡ t → length (cond t g (rowed max (turn g r) c)).entries ≤ max → cond t g (rowed max (turn g r) c) ≡ rowed max (turn g r) c
            opened true e few = absurd (over max (length g.entries) e few)
              where
                over : (a b : ℕ) → nat_lt a b ≡ true → b ≤ a → ⊥
                over a b h k = grind (arith, nat_tests, h, k)
            opened false e few = refl
