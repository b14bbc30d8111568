-- What is gathered row by row, and what is left out by reading on further behind, is a listing's entries.
use Rattle.std.proofs.Common.{◌≡◌, ℕ, ◌<◌, ◌≤◌, Bool, true, false, true≢false, cond, List, [], ◌∷◌, ◌++◌, length, map, take, suc, ◌⊎◌, inl, inr, nat_lt, not, ◌||◌, Option, Some, None, refl, sym, ap, subst, ◌∙◌, arith}
use Rattle.std.specs.List.{filter, AllByRecursion}
use Rattle.std.proofs.lemmas.List.{append_assoc, length-append}
use Rattle.std.proofs.Math.Seq.{take-append_seam}
use Rattle.std.proofs.lemmas.Bool.Decides.{nat_tests}
use Rattle.std.proofs.lemmas.List.Elements.{filter-append}
use Rattle.bh_model.specs.State.{Octets}
use Rattle.bh_model.specs.Pages.{Listed, Listed.Single, Listed.Common, is_name, is_upto, same, begins, rolled, as_listed, merged, entry_of}
use Rattle.bh_pages.specs.Gathered.{InOrder, Gathered, in_front, with_entry, with_item, with_row, items_after, to_come, rows_from, with_rows, place_past, place_after, past_key, past_name}
use Rattle.bh_pages.proofs.Bytes.{upto_trans, upto_self, not_upto, from_past_key, past_key_above, begins_between, before_past_name, rolled_begins, rolled_again, upto_past_key, same_is, upto_begun, upto_other, before_past_key}

module _ {R T : Type 0} (row_key : R → Octets) (item : R → Option T) (prefix delimiter : Octets) (item_key : T → Octets) (passes : Listed T → Bool) where
  abbrev come : Gathered T → List R → List (Listed T)
  come = to_come row_key item prefix delimiter item_key passes

  abbrev entry : T → Listed T
  entry = entry_of prefix delimiter item_key

  -- ---- a row more

  listing_step : (g : Gathered T) (e : Listed T) (l : List (Listed T)) → g.entries ++ merged g.name (e ∷ l) ≡ (with_entry g e).entries ++ merged (with_entry g e).name l
  listing_step g (Single x) l = sym (append_assoc g.entries (Single x ∷ []) (merged None l))
  listing_step g (Common name) l = elim (is_name name g.name) as (λ t. g.entries ++ cond t (merged g.name l) (Common name ∷ merged (Some name) l)
      ≡ (cond t g (record g { name = Some name; entries = g.entries ++ Common name ∷ [] })).entries ++ merged (cond t g (record g { name = Some name; entries = g.entries ++ Common name ∷ [] })).name l) [
        | true ↦ refl
        | false ↦ sym (append_assoc g.entries (Common name ∷ []) (merged (Some name) l))
      ]

  pub entry_step : (g : Gathered T) (e : Listed T) (l : List (Listed T)) → g.entries ++ merged g.name (cond (passes e) (e ∷ l) l) ≡ (cond (passes e) (with_entry g e) g).entries ++ merged (cond (passes e) (with_entry g e) g).name l
  entry_step g e l = elim (passes e) as (λ t. g.entries ++ merged g.name (cond t (e ∷ l) l) ≡ (cond t (with_entry g e) g).entries ++ merged (cond t (with_entry g e) g).name l) [
    | true ↦ listing_step g e l
    | false ↦ refl
  ]

  -- the key of the row before does not change
  pub key_kept : (g : Gathered T) (e : Listed T) → (with_entry g e).key ≡ g.key
  key_kept g (Single x) = refl
  key_kept g (Common name) = elim (is_name name g.name) as (λ t. (cond t g (record g { name = Some name; entries = g.entries ++ Common name ∷ [] })).key ≡ g.key) [ true ↦ refl | false ↦ refl ]

  abbrev next : Gathered T → Option T → Gathered T
  next = with_item row_key item prefix delimiter item_key passes

  item_kept : (g : Gathered T) (o : Option T) → (next g o).key ≡ g.key
  item_kept g None = refl
  item_kept g (Some x) = elim (passes (entry x)) as (λ t. (cond t (with_entry g (entry x)) g).key ≡ g.key) [ true ↦ key_kept g (entry x) | false ↦ refl ]

  item_step : (g : Gathered T) (o : Option T) (items : List T) → g.entries ++ merged g.name (filter passes (map entry (in_front o items))) ≡ (next g o).entries ++ merged (next g o).name (filter passes (map entry items))
  item_step g None items = refl
  item_step g (Some x) items = entry_step g (entry x) (filter passes (map entry items))

  abbrev turn : Gathered T → R → Gathered T
  turn = with_row row_key item prefix delimiter item_key passes

  -- what is gathered and what is to come stay the same
  pub row_step : (g : Gathered T) (r : R) (rows : List R) → g.entries ++ come g (r ∷ rows) ≡ (turn g r).entries ++ come (turn g r) rows
  row_step g r rows =
      elim (is_name (row_key r) g.key) as (λ t. g.entries ++ merged g.name (filter passes (map entry (cond t (items_after row_key item g.key rows) (in_front (item r) (items_after row_key item (Some (row_key r)) rows)))))
      ≡ (cond t g (next (record g { key = Some (row_key r) }) (item r))).entries ++ come (cond t g (next (record g { key = Some (row_key r) }) (item r))) rows) [
        | true ↦ refl
        | false ↦
            let h : Gathered T = record g { key = Some (row_key r) } in
            item_step h (item r) (items_after row_key item (Some (row_key r)) rows)
            ∙ ap (λ k. (next h (item r)).entries ++ merged (next h (item r)).name (filter passes (map entry (items_after row_key item k rows)))) (sym (item_kept h (item r)))
      ]

  -- ---- rows that are left out

  abbrev from : Octets → List R → List R
  from = rows_from row_key

  pub all_from : (at : Octets) (rows : List R) → AllByRecursion (λ r. is_upto at (row_key r) ≡ true) rows → from at rows ≡ rows
  all_from at [] all = refl
  all_from at (r ∷ rows) all = ap (λ t. cond t (r ∷ from at rows) (from at rows)) all.0 ∙ ap (λ l. r ∷ l) (all_from at rows all.1)

  none_from : (at : Octets) (rows : List R) → AllByRecursion (λ r. is_upto at (row_key r) ≡ false) rows → from at rows ≡ []
  none_from at [] all = refl
  none_from at (r ∷ rows) all = ap (λ t. cond t (r ∷ from at rows) (from at rows)) all.0 ∙ none_from at rows all.1

  later : (at : Octets) (r : R) (rows : List R) → is_upto at (row_key r) ≡ true → AllByRecursion (λ s. is_upto (row_key r) (row_key s) ≡ true) rows → AllByRecursion (λ s. is_upto at (row_key s) ≡ true) rows
  later at r [] h all = tt
  later at r (s ∷ rows) h all = (upto_trans at (row_key r) (row_key s) h all.0, later at r rows h all.1)

  -- older rows of the key that was read last
  pub past_rows : (k : Octets) (rows : List R) → InOrder row_key rows → AllByRecursion (λ r. is_upto k (row_key r) ≡ true) rows
      → items_after row_key item (Some k) rows ≡ items_after row_key item (Some k) (from (past_key k) rows)
  past_rows k [] up all = refl
  past_rows k (r ∷ rows) up all = go (same k (row_key r)) refl (past_rows k rows up.1 all.1)
    where
      go : (t : Bool) → same k (row_key r) ≡ t → items_after row_key item (Some k) rows ≡ items_after row_key item (Some k) (from (past_key k) rows)
          → items_after row_key item (Some k) (r ∷ rows) ≡ items_after row_key item (Some k) (from (past_key k) (r ∷ rows))
      go true e more =
          ap (λ t. cond t (items_after row_key item (Some k) rows) (in_front (item r) (items_after row_key item (Some (row_key r)) rows))) e
          ∙ more
          ∙ ap (λ t. items_after row_key item (Some k) (cond t (r ∷ from (past_key k) rows) (from (past_key k) rows))) (sym (past_key_above k (row_key r) (subst (λ z. is_upto z k ≡ true) (same_is k (row_key r) e) (upto_self k))))
      go false e more = ap (items_after row_key item (Some k)) (sym (all_from (past_key k) (r ∷ rows) (from_past_key k (row_key r) all.0 e, later (past_key k) r rows (from_past_key k (row_key r) all.0 e) up.0)))

  -- the entry adds nothing, where this rolled-up name was listed last
  abbrev pub Skips : Option Octets → Listed T → Type 0
  Skips name e = (l : List (Listed T)) → merged name (cond (passes e) (e ∷ l) l) ≡ merged name l

  pub not_passed : (name : Option Octets) (e : Listed T) → passes e ≡ false → Skips name e
  not_passed name e h l = ap (λ t. merged name (cond t (e ∷ l) l)) h

  pub listed_already : (name : Option Octets) (n : Octets) → is_name n name ≡ true → Skips name (Common n)
  listed_already name n h l = elim (passes (Common n)) as (λ t. merged name (cond t (Common n ∷ l) l) ≡ merged name l) [ true ↦ ap (λ t. cond t (merged name l) (Common n ∷ merged (Some n) l)) h | false ↦ refl ]

  -- the key before this text
  abbrev pub IsBelow : Octets → Option Octets → Type 0
  IsBelow at None = Unit {0}
  IsBelow at (Some k) = is_upto at k ≡ false

  -- a row before this text shows nothing that is not listed
  abbrev pub AreIdle : Octets → Option Octets → List R → Type 0
  AreIdle at name rows = AllByRecursion (λ r. is_upto at (row_key r) ≡ false → (x : T) → item r ≡ Some x → Skips name (entry x)) rows

  other_key : (at : Octets) (key : Option Octets) (k : Octets) → IsBelow at key → is_upto at k ≡ true → is_name k key ≡ false
  other_key at None k below h = refl
  other_key at (Some j) k below h = elim (same j k) as (λ t. same j k ≡ t → t ≡ false) [ true ↦ λ e. absurd (true≢false (sym h ∙ subst (λ z. is_upto at z ≡ false) (same_is j k e) below)) | false ↦ λ _. refl ] refl

  abbrev left : Option Octets → List T → List (Listed T)
  left name items = merged name (filter passes (map entry items))

  pub rows_skipped : (at : Octets) (name : Option Octets) (rows : List R) (k0 k1 : Option Octets) → IsBelow at k0 → IsBelow at k1 → InOrder row_key rows → AreIdle at name rows
      → left name (items_after row_key item k0 rows) ≡ left name (items_after row_key item k1 (from at rows))
  rows_skipped at name [] k0 k1 b0 b1 up idle = refl
  rows_skipped at name (r ∷ rows) k0 k1 b0 b1 up idle = go (is_upto at (row_key r)) refl (rows_skipped at name rows)
    where
      both_here : (key : Option Octets) (l : List R) → is_name (row_key r) key ≡ false → items_after row_key item key (r ∷ l) ≡ in_front (item r) (items_after row_key item (Some (row_key r)) l)
      both_here key l h = ap (λ t. cond t (items_after row_key item key l) (in_front (item r) (items_after row_key item (Some (row_key r)) l))) h

      shown : (o : Option T) → ((x : T) → o ≡ Some x → Skips name (entry x)) → (items : List T) → left name (in_front o items) ≡ left name items
      shown None skips items = refl
      shown (Some x) skips items = skips x refl (filter passes (map entry items))

      go : (t : Bool) → is_upto at (row_key r) ≡ t
          → ((k0 k1 : Option Octets) → IsBelow at k0 → IsBelow at k1 → InOrder row_key rows → AreIdle at name rows → left name (items_after row_key item k0 rows) ≡ left name (items_after row_key item k1 (from at rows)))
          → left name (items_after row_key item k0 (r ∷ rows)) ≡ left name (items_after row_key item k1 (from at (r ∷ rows)))
      go true e more =
          ap (left name) (both_here k0 rows (other_key at k0 (row_key r) b0 e) ∙ sym (both_here k1 rows (other_key at k1 (row_key r) b1 e))
          ∙ ap (items_after row_key item k1) (sym (all_from at (r ∷ rows) (e, later at r rows e up.0))))
      go false e more =
          elim (is_name (row_key r) k0) as (λ t. left name (cond t (items_after row_key item k0 rows) (in_front (item r) (items_after row_key item (Some (row_key r)) rows))) ≡ left name (items_after row_key item k1 (from at rows))) [
            | true ↦ more k0 k1 b0 b1 up.1 idle.1
            | false ↦ shown (item r) (idle.0 e) (items_after row_key item (Some (row_key r)) rows) ∙ more (Some (row_key r)) k1 e b1 up.1 idle.1
          ]
          ∙ ap (λ t. left name (items_after row_key item k1 (cond t (r ∷ from at rows) (from at rows)))) (sym e)

  -- ---- what is under a name

  module _ (keyed : (r : R) (x : T) → item r ≡ Some x → item_key x ≡ row_key r) (k p : Octets) (under : begins prefix k ≡ true) (is : rolled prefix delimiter k ≡ Some p) where
    -- a rolled-up name that was listed last, or that the marker does not let through
    abbrev pub IsDone : Option Octets → Type 0
    IsDone name = (is_name p name ≡ true) ⊎ (passes (Common p) ≡ false)

    done_skips : (name : Option Octets) → IsDone name → Skips name (Common p)
    done_skips name (inl h) = listed_already name p h
    done_skips name (inr h) = not_passed name (Common p) h

    pub name_idle : (name : Option Octets) → IsDone name → (rows : List R) → AllByRecursion (λ r. is_upto k (row_key r) ≡ true) rows → AreIdle (past_name p) name rows
    name_idle name done [] all = tt
    name_idle name done (r ∷ rows) all = (
      λ before x has.
          let begun : begins p (row_key r) ≡ true = begins_between p (row_key r) (upto_trans p k (row_key r) (upto_begun p k (rolled_begins prefix delimiter k p under is)) all.0) before in
          let shown : entry x ≡ Common p = ap (λ z. as_listed x (rolled prefix delimiter z)) (keyed r x has) ∙ ap (as_listed x) (rolled_again prefix delimiter k p (row_key r) is begun) in
          subst (Skips name) (sym shown) (done_skips name done),
      name_idle name done rows all.1,
    )

  -- ---- rows until the page is full

  abbrev rowed : ℕ → Gathered T → List R → Gathered T
  rowed = with_rows row_key item prefix delimiter item_key passes

  pub grown : (g : Gathered T) (e : Listed T) → length (with_entry g e).entries ≤ suc (length g.entries)
  grown g (Single x) = more g.entries (Single x)
    where
      more : (l : List (Listed T)) (e : Listed T) → length (l ++ e ∷ []) ≤ suc (length l)
      more l e = subst (λ n. n ≤ suc (length l)) (sym (length-append l (e ∷ []))) (omega arith)
  grown g (Common n) = elim (is_name n g.name) as (λ t. length (cond t g (record g { name = Some n; entries = g.entries ++ Common n ∷ [] })).entries ≤ suc (length g.entries)) [
    | true ↦ omega arith
    | false ↦ subst (λ m. m ≤ suc (length g.entries)) (sym (length-append g.entries (Common n ∷ []))) (omega arith)
  ]

  item_grown : (g : Gathered T) (o : Option T) → length (next g o).entries ≤ suc (length g.entries)
  item_grown g None = omega arith
  item_grown g (Some x) = elim (passes (entry x)) as (λ t. length (cond t (with_entry g (entry x)) g).entries ≤ suc (length g.entries)) [ true ↦ grown g (entry x) | false ↦ omega arith ]

  row_grown : (g : Gathered T) (r : R) → length (turn g r).entries ≤ suc (length g.entries)
  row_grown g r = elim (is_name (row_key r) g.key) as (λ t. length (cond t g (next (record g { key = Some (row_key r) }) (item r))).entries ≤ suc (length g.entries)) [ true ↦ omega arith | false ↦ item_grown (record g { key = Some (row_key r) }) (item r) ]

  pub turned_key : (g : Gathered T) (r : R) → (turn g r).key ≡ Some (row_key r)
  turned_key g r = go (is_name (row_key r) g.key) refl
    where
      named : (key : Option Octets) → is_name (row_key r) key ≡ true → key ≡ Some (row_key r)
      named None h = absurd (true≢false (sym h))
      named (Some j) h = ap Some (same_is j (row_key r) h)

      go : (t : Bool) → is_name (row_key r) g.key ≡ t → (cond t g (next (record g { key = Some (row_key r) }) (item r))).key ≡ Some (row_key r)
      go true e = named g.key e
      go false e = item_kept (record g { key = Some (row_key r) }) (item r)

  -- a page that is full needs no more
  full_page : (max : ℕ) (es more other : List (Listed T)) → max < length es → length es ≤ suc max → take (suc max) (es ++ more) ≡ take (suc max) (es ++ other)
  full_page max es more other full short =
      let is : length es ≡ suc max = omega (arith, full, short) in
      subst (λ n. take n (es ++ more) ≡ take n (es ++ other)) is (take-append_seam es more ∙ sym (take-append_seam es other))

  pub rows_step : (max : ℕ) (g : Gathered T) (chunk rest : List R) → length g.entries ≤ suc max
      → (take (suc max) (g.entries ++ come g (chunk ++ rest)) ≡ take (suc max) ((rowed max g chunk).entries ++ come (rowed max g chunk) rest)) × (length (rowed max g chunk).entries ≤ suc max)
  rows_step max g [] rest short = (refl, short)
  rows_step max g (r ∷ chunk) rest short = go (nat_lt max (length g.entries)) refl (λ h. rows_step max (turn g r) chunk rest h)
    where
      go : (t : Bool) → nat_lt max (length g.entries) ≡ t
          → (length (turn g r).entries ≤ suc max → (take (suc max) ((turn g r).entries ++ come (turn g r) (chunk ++ rest)) ≡ take (suc max) ((rowed max (turn g r) chunk).entries ++ come (rowed max (turn g r) chunk) rest)) × (length (rowed max (turn g r) chunk).entries ≤ suc max))
          → (take (suc max) (g.entries ++ come g (r ∷ (chunk ++ rest))) ≡ take (suc max) ((cond t g (rowed max (turn g r) chunk)).entries ++ come (cond t g (rowed max (turn g r) chunk)) rest)) × (length (cond t g (rowed max (turn g r) chunk)).entries ≤ suc max)
      go true e more = (full_page max g.entries _ _ (lt_of max (length g.entries) e) short, short)
        where
          lt_of : (a b : ℕ) → nat_lt a b ≡ true → a < b
          lt_of a b h = grind (arith, nat_tests, h)
      go false e more =
          let small : length (turn g r).entries ≤ suc max = fits (length g.entries) (length (turn g r).entries) e (row_grown g r) in
          (ap (take (suc max)) (row_step g r (chunk ++ rest)) ∙ (more small).0, (more small).1)
        where
          fits : (a b : ℕ) → nat_lt max a ≡ false → b ≤ suc a → b ≤ suc max
          fits a b h k = grind (arith, nat_tests, h, k)

  -- a page that has room has taken them all
  pub rows_all : (max : ℕ) (g : Gathered T) (chunk rest : List R) → length (rowed max g chunk).entries ≤ max → g.entries ++ come g (chunk ++ rest) ≡ (rowed max g chunk).entries ++ come (rowed max g chunk) rest
  rows_all max g [] rest few = refl
  rows_all max g (r ∷ chunk) rest few = go (nat_lt max (length g.entries)) refl few (rows_all max (turn g r) chunk rest)
    where
      go : (t : Bool) → nat_lt max (length g.entries) ≡ t → length (cond t g (rowed max (turn g r) chunk)).entries ≤ max
          → (length (rowed max (turn g r) chunk).entries ≤ max → (turn g r).entries ++ come (turn g r) (chunk ++ rest) ≡ (rowed max (turn g r) chunk).entries ++ come (rowed max (turn g r) chunk) rest)
          → g.entries ++ come g (r ∷ (chunk ++ rest)) ≡ (cond t g (rowed max (turn g r) chunk)).entries ++ come (cond t g (rowed max (turn g r) chunk)) rest
      go true e few more = absurd (over max (length g.entries) e few)
        where
          over : (a b : ℕ) → nat_lt a b ≡ true → b ≤ a → ⊥
          over a b h k = grind (arith, nat_tests, h, k)
      go false e few more = row_step g r (chunk ++ rest) ∙ more few

  -- the last key of the rows that were taken, if the page is not full
  pub rows_key : (max : ℕ) (g : Gathered T) (k : Octets) (chunk rest : List R) → g.key ≡ Some k → InOrder row_key (chunk ++ rest) → AllByRecursion (λ r. is_upto k (row_key r) ≡ true) (chunk ++ rest)
      → length (rowed max g chunk).entries ≤ max
      → (j : Octets) × ((rowed max g chunk).key ≡ Some j) × (is_upto k j ≡ true) × AllByRecursion (λ r. is_upto (row_key r) j ≡ true) chunk × AllByRecursion (λ r. is_upto j (row_key r) ≡ true) rest
  rows_key max g k [] rest has up all few = (k, has, upto_self k, tt, all)
  rows_key max g k (r ∷ chunk) rest has up all few = go (nat_lt max (length g.entries)) refl few (λ h. rows_key max (turn g r) (row_key r) chunk rest (turned_key g r) up.1 up.0 h)
    where
      go : (t : Bool) → nat_lt max (length g.entries) ≡ t → length (cond t g (rowed max (turn g r) chunk)).entries ≤ max
          → (length (rowed max (turn g r) chunk).entries ≤ max → (j : Octets) × ((rowed max (turn g r) chunk).key ≡ Some j) × (is_upto (row_key r) j ≡ true) × AllByRecursion (λ r. is_upto (row_key r) j ≡ true) chunk × AllByRecursion (λ r. is_upto j (row_key r) ≡ true) rest)
          → (j : Octets) × ((cond t g (rowed max (turn g r) chunk)).key ≡ Some j) × (is_upto k j ≡ true) × (is_upto (row_key r) j ≡ true × AllByRecursion (λ r. is_upto (row_key r) j ≡ true) chunk) × AllByRecursion (λ r. is_upto j (row_key r) ≡ true) rest
      go true e few more = absurd (over max (length g.entries) e few)
        where
          over : (a b : ℕ) → nat_lt a b ≡ true → b ≤ a → ⊥
          over a b h k = grind (arith, nat_tests, h, k)
      go false e few more = let m = more few in (m.0, m.1, upto_trans k (row_key r) m.0 all.0 m.2, (m.2, m.3), m.4)

  -- ---- the place to read on from

  narrow : (at0 at : Octets) (rows : List R) → is_upto at0 at ≡ true → from at rows ≡ from at (from at0 rows)
  narrow at0 at [] h = refl
  narrow at0 at (r ∷ rows) h =
      elim (is_upto at0 (row_key r)) as (λ t. is_upto at0 (row_key r) ≡ t → from at (r ∷ rows) ≡ from at (cond t (r ∷ from at0 rows) (from at0 rows))) [
        | true ↦ λ e. ap (λ l. cond (is_upto at (row_key r)) (r ∷ l) l) (narrow at0 at rows h)
        | false ↦ λ e. ap (λ t. cond t (r ∷ from at rows) (from at rows)) (not_upto at0 at (row_key r) h e) ∙ narrow at0 at rows h
      ] refl

  below_all : (at j : Octets) (rows : List R) → is_upto at j ≡ false → AllByRecursion (λ r. is_upto (row_key r) j ≡ true) rows → AllByRecursion (λ r. is_upto at (row_key r) ≡ false) rows
  below_all at j [] h all = tt
  below_all at j (r ∷ rows) h all =
      (elim (is_upto at (row_key r)) as (λ t. is_upto at (row_key r) ≡ t → t ≡ false) [ true ↦ λ e. absurd (true≢false (sym (upto_trans at (row_key r) j e all.0) ∙ h)) | false ↦ λ _. refl ] refl, below_all at j rows h all.1)

  -- the rows that are left over, from a later place on
  left_over : (at0 at j : Octets) (rows chunk rest : List R) → chunk ++ rest ≡ from at0 rows → is_upto at0 at ≡ true → is_upto at j ≡ false → AllByRecursion (λ r. is_upto (row_key r) j ≡ true) chunk → from at rows ≡ from at rest
  left_over at0 at j rows chunk rest split h k all =
      narrow at0 at rows h ∙ ap (from at) (sym split) ∙ filter-append (λ r. is_upto at (row_key r)) chunk rest ∙ ap (λ l. l ++ from at rest) (none_from at chunk (below_all at j chunk k all))

  or_done : (keyed : (r : R) (x : T) → item r ≡ Some x → item_key x ≡ row_key r) (k p : Octets) (under : begins prefix k ≡ true) (is : rolled prefix delimiter k ≡ Some p) (name : Option Octets)
      → (is_name p name || not (passes (Common p))) ≡ true → IsDone keyed k p under is name
  or_done keyed k p under is name h = elim (is_name p name) as (λ t. is_name p name ≡ t → (t || not (passes (Common p))) ≡ true → IsDone keyed k p under is name) [
    | true ↦ λ e h. inl e
    | false ↦ λ e h. inr (elim (passes (Common p)) as (λ t. not t ≡ true → t ≡ false) [ true ↦ λ h. absurd (true≢false (sym h)) | false ↦ λ _. refl ] h)
  ] refl h

  abbrev place : Gathered T → Octets → Octets
  place = place_after row_key item prefix delimiter item_key passes

  -- what is to come of the rows that are left over is what is to come from that place on
  pub place_step : (keyed : (r : R) (x : T) → item r ≡ Some x → item_key x ≡ row_key r) (g : Gathered T) (j at0 : Octets) (rows chunk rest : List R)
      → g.key ≡ Some j → begins prefix j ≡ true → AllByRecursion (λ b. b < 255) j → is_upto at0 j ≡ true → chunk ++ rest ≡ from at0 rows → InOrder row_key rest
      → AllByRecursion (λ r. is_upto (row_key r) j ≡ true) chunk → AllByRecursion (λ r. is_upto j (row_key r) ≡ true) rest
      → come g rest ≡ come g (from (place g j) rows)
  place_step keyed g j at0 rows chunk rest has under small low split up below above = go (rolled prefix delimiter j) refl
    where
      by_key : come g rest ≡ come g (from (past_key j) rows)
      by_key =
          ap (λ k. left g.name (items_after row_key item k rest)) has ∙ ap (left g.name) (past_rows j rest up above)
          ∙ ap (λ k. left g.name (items_after row_key item k (from (past_key j) rest))) (sym has)
          ∙ ap (come g) (sym (left_over at0 (past_key j) j rows chunk rest split (upto_trans at0 j (past_key j) low (upto_past_key j)) (before_past_key j) below))

      by_name : (p : Octets) → rolled prefix delimiter j ≡ Some p → (is_name p g.name || not (passes (Common p))) ≡ true → come g rest ≡ come g (from (past_name p) rows)
      by_name p is done =
          let before : is_upto (past_name p) j ≡ false = before_past_name p j (rolled_begins prefix delimiter j p under is) small in
          ap (λ k. left g.name (items_after row_key item k rest)) has
          ∙ rows_skipped (past_name p) g.name rest (Some j) (Some j) before before up (name_idle keyed j p under is g.name (or_done keyed j p under is g.name done) rest above)
          ∙ ap (λ k. left g.name (items_after row_key item k (from (past_name p) rest))) (sym has)
          ∙ ap (come g) (sym (left_over at0 (past_name p) j rows chunk rest split (upto_trans at0 j (past_name p) low (upto_other (past_name p) j before)) before below))

      choice : (p : Octets) → rolled prefix delimiter j ≡ Some p → (t : Bool) → (is_name p g.name || not (passes (Common p))) ≡ t → come g rest ≡ come g (from (cond t (past_name p) (past_key j)) rows)
      choice p is true e = by_name p is e
      choice p is false e = by_key

      go : (o : Option Octets) → rolled prefix delimiter j ≡ o → come g rest ≡ come g (from (place_past row_key item prefix delimiter item_key passes g j o) rows)
      go None is = by_key
      go (Some p) is = choice p is (is_name p g.name || not (passes (Common p))) refl
