-- A page of versions that is gathered chunk by chunk, each read from the place where the one before leads.
use Rattle.std.proofs.Common.{◌≡◌, ℕ, suc, ◌<◌, ◌≤◌, not, nat_lt, Bool, true, false, true≢false, cond, List, [], ◌∷◌, ◌++◌, length, map, take, drop, ◌⊎◌, inl, inr, Option, Some, None, refl, sym, ap, subst, ◌∙◌, arith, Ordering, Less, Equal, Greater}
use Rattle.std.specs.List.{filter, AllByRecursion}
use Rattle.std.specs.Ordering.{is_lt, is_le, is_eq, ordering_then, ordering_reverse}
use Rattle.std.proofs.lemmas.Cmp.{nat_list_cmp_total, tied_itself}
use Rattle.std.proofs.lemmas.Bool.Decides.{nat_tests}
use Rattle.std.proofs.lemmas.List.{take-append-drop, length-take, take_all, append-nil, append_assoc}
use Rattle.std.proofs.Math.ListN.{drop_of_length-le}
use Rattle.std.proofs.Math.Seq.{take-append_seam}
use Rattle.bh_model.specs.State.{Octets, octets_cmp}
use Rattle.bh_model.specs.Pages.{Listed, Listed.Common, VersionItem, begins, is_upto, is_before, is_name, same, merged, as_listed, rolled, last_of, passes_version}
use Rattle.bh_pages.specs.Gathered.{Gathered, with_entry, past_key, past_name}
use Rattle.bh_pages.specs.Versions as spec
use Rattle.bh_pages.specs.Versions.{Numbered, row_key, spot, Place, IsStrict, is_from, is_older, at_key, after_entry, past_row, version_after, items_next, version_entry, with_passing, with_version, with_versions, versions_to_come}
use Rattle.bh_pages.proofs.Bytes.{upto_trans, upto_begun, same_is, before_past_name, begins_between, rolled_begins, rolled_again, some_same, none_some}
use Rattle.bh_pages.proofs.Skipping.{entry_step, key_kept, grown}
use Rattle.bh_pages.proofs.VersionRows.{precedes_key, all_map, filter_narrow, filter_whole, filter_passes, before_upto, rest_is, older_split, strict_filter}

pub over : (a b : ℕ) → nat_lt a b ≡ true → b ≤ a → ⊥
over a b h k = grind (arith, nat_tests, h, k)

pub past_lt : (a b : ℕ) → nat_lt a b ≡ true → a < b
past_lt a b h = grind (arith, nat_tests, h)

-- the key before a text
abbrev IsBelow : Octets → Option Octets → Type 0
IsBelow at None = Unit {0}
IsBelow at (Some k) = is_upto at k ≡ false

other_key : (at : Octets) (key : Option Octets) (k : Octets) → IsBelow at key → is_upto at k ≡ true → is_name k key ≡ false
other_key at None k below h = refl
other_key at (Some j) k below h = elim (same j k) as (λ t. same j k ≡ t → t ≡ false) [ true ↦ λ e. absurd (true≢false (sym h ∙ subst (λ z. is_upto at z ≡ false) (same_is j k e) below)) | false ↦ λ _. refl ] refl

pub turned_before : (o : Ordering) → is_le o ≡ false → is_lt (ordering_reverse o) ≡ true
turned_before Less h = absurd (true≢false h)
turned_before Equal h = absurd (true≢false h)
turned_before Greater h = refl

pub less_key : (a b : Ordering) → is_lt a ≡ true → is_lt (ordering_then a b) ≡ true
less_key Less b h = refl
less_key Equal b h = absurd (true≢false (sym h))
less_key Greater b h = absurd (true≢false (sym h))

-- of a full page nothing more is seen
pub full_page : {E : Type 0} (max : ℕ) (es more other : List E) → max < length es → length es ≤ suc max → take (suc max) (es ++ more) ≡ take (suc max) (es ++ other)
full_page max es more other full short =
    let is : length es ≡ suc max = omega (arith, full, short) in
    subst (λ n. take n (es ++ more) ≡ take n (es ++ other)) is (take-append_seam es more ∙ sym (take-append_seam es other))

-- where a page has room for one more, it has room afterwards
pub fits : (max a b : ℕ) → nat_lt max a ≡ false → b ≤ suc a → b ≤ suc max
fits max a b h k = grind (arith, nat_tests, h, k)

module _ (prefix delimiter : Octets) (marker : Option Octets) where
  abbrev come : Gathered VersionItem → List Numbered → List (Listed VersionItem)
  come = versions_to_come prefix delimiter marker

  abbrev turn : Gathered VersionItem → Numbered → Gathered VersionItem
  turn = with_version prefix delimiter marker

  abbrev rowed : ℕ → Gathered VersionItem → List Numbered → Gathered VersionItem
  rowed = with_versions prefix delimiter marker

  abbrev passes : Listed VersionItem → Bool
  passes = passes_version marker

  abbrev entry : VersionItem → Listed VersionItem
  entry = version_entry prefix delimiter marker

  abbrev left : Option Octets → List VersionItem → List (Listed VersionItem)
  left name items = merged name (filter passes (map entry items))

  abbrev none_of : Numbered → Option VersionItem
  none_of r = None

  -- ---- a row more

  abbrev keyed : Gathered VersionItem → Numbered → Gathered VersionItem
  keyed g r = record g { key = Some (row_key r) }

  pub turned : (g : Gathered VersionItem) (r : Numbered) → (turn g r).key ≡ Some (row_key r)
  turned g r = elim (passes (entry (version_after g.key r))) as (λ t. (cond t (with_entry (keyed g r) (entry (version_after g.key r))) (keyed g r)).key ≡ Some (row_key r)) [
    | true ↦ key_kept row_key none_of prefix delimiter (λ (v : VersionItem). v.key) passes (keyed g r) (entry (version_after g.key r))
    | false ↦ refl
  ]

  pub version_step : (g : Gathered VersionItem) (r : Numbered) (rows : List Numbered) → g.entries ++ come g (r ∷ rows) ≡ (turn g r).entries ++ come (turn g r) rows
  version_step g r rows =
      entry_step row_key none_of prefix delimiter (λ (v : VersionItem). v.key) passes (keyed g r) (entry (version_after g.key r)) (filter passes (map entry (items_next (Some (row_key r)) rows)))
      ∙ ap (λ k. (turn g r).entries ++ left (turn g r).name (items_next k rows)) (sym (turned g r))

  row_grown : (g : Gathered VersionItem) (r : Numbered) → length (turn g r).entries ≤ suc (length g.entries)
  row_grown g r = elim (passes (entry (version_after g.key r))) as (λ t. length (cond t (with_entry (keyed g r) (entry (version_after g.key r))) (keyed g r)).entries ≤ suc (length g.entries)) [
    | true ↦ grown row_key none_of prefix delimiter (λ (v : VersionItem). v.key) passes (keyed g r) (entry (version_after g.key r))
    | false ↦ omega arith
  ]

  abbrev Stepped : ℕ → Gathered VersionItem → Gathered VersionItem → List Numbered → List Numbered → Type 0
  Stepped max g h whole rest = (take (suc max) (g.entries ++ come g whole) ≡ take (suc max) (h.entries ++ come h rest)) × (length h.entries ≤ suc max)

  pub versions_step : (max : ℕ) (g : Gathered VersionItem) (chunk rest : List Numbered) → length g.entries ≤ suc max → Stepped max g (rowed max g chunk) (chunk ++ rest) rest
  versions_step max g [] rest short = (refl, short)
  versions_step max g (r ∷ chunk) rest short = go (nat_lt max (length g.entries)) refl (λ h. versions_step max (turn g r) chunk rest h)
    where
      go : (t : Bool) → nat_lt max (length g.entries) ≡ t → (length (turn g r).entries ≤ suc max → Stepped max (turn g r) (rowed max (turn g r) chunk) (chunk ++ rest) rest)
          → Stepped max g (cond t g (rowed max (turn g r) chunk)) (r ∷ (chunk ++ rest)) rest
      go true e more = (full_page max g.entries _ _ (past_lt max (length g.entries) e) short, short)
      go false e more =
          let small : length (turn g r).entries ≤ suc max = fits max (length g.entries) (length (turn g r).entries) e (row_grown g r) in
          (ap (take (suc max)) (version_step g r (chunk ++ rest)) ∙ (more small).0, (more small).1)

  -- a page that has room has taken them all
  versions_all : (max : ℕ) (g : Gathered VersionItem) (chunk rest : List Numbered) → length (rowed max g chunk).entries ≤ max → g.entries ++ come g (chunk ++ rest) ≡ (rowed max g chunk).entries ++ come (rowed max g chunk) rest
  versions_all max g [] rest few = refl
  versions_all max g (r ∷ chunk) rest few = go (nat_lt max (length g.entries)) refl few (versions_all max (turn g r) chunk rest)
    where
      go : (t : Bool) → nat_lt max (length g.entries) ≡ t → length (cond t g (rowed max (turn g r) chunk)).entries ≤ max
          → (length (rowed max (turn g r) chunk).entries ≤ max → (turn g r).entries ++ come (turn g r) (chunk ++ rest) ≡ (rowed max (turn g r) chunk).entries ++ come (rowed max (turn g r) chunk) rest)
          → g.entries ++ come g (r ∷ (chunk ++ rest)) ≡ (cond t g (rowed max (turn g r) chunk)).entries ++ come (cond t g (rowed max (turn g r) chunk)) rest
      go true e few more = absurd (over max (length g.entries) e few)
      go false e few more = version_step g r (chunk ++ rest) ∙ more few

  -- ---- after the last row of a chunk that leaves room, its rolled-up name is listed or not let through

  abbrev pub IsDone : Octets → Option Octets → Type 0
  IsDone p name = (is_name p name ≡ true) ⊎ (passes (Common p) ≡ false)

  name_done : (g : Gathered VersionItem) (p : Octets) → IsDone p (with_passing prefix delimiter marker g (Common p)).name
  name_done g p = pass (passes (Common p)) refl
    where
      listed : (t : Bool) → is_name p g.name ≡ t → is_name p (cond t g (record g { name = Some p; entries = g.entries ++ Common p ∷ [] })).name ≡ true
      listed true e = e
      listed false e = ap is_eq (tied_itself nat_list_cmp_total p)

      pass : (t : Bool) → passes (Common p) ≡ t → IsDone p (cond t (with_entry g (Common p)) g).name
      pass true e = inl (listed (is_name p g.name) refl)
      pass false e = inr e

  turn_done : (g : Gathered VersionItem) (r : Numbered) (p : Octets) → rolled prefix delimiter (row_key r) ≡ Some p → IsDone p (turn g r).name
  turn_done g r p is = subst (λ (e : Listed VersionItem). IsDone p (with_passing prefix delimiter marker (keyed g r) e).name) (sym (ap (as_listed (version_after g.key r)) is)) (name_done (keyed g r) p)

  abbrev Turned : Gathered VersionItem → Numbered → Type 0
  Turned h r = (h.key ≡ Some (row_key r)) × ((p : Octets) → rolled prefix delimiter (row_key r) ≡ Some p → IsDone p h.name)

  pub last_turned : (max : ℕ) (g : Gathered VersionItem) (c : List Numbered) (r : Numbered) → last_of c ≡ Some r → length (rowed max g c).entries ≤ max → Turned (rowed max g c) r
  last_turned max g [] r h few = absurd (none_some h)
  last_turned max g (x ∷ []) r h few = go (nat_lt max (length g.entries)) refl few
    where
      go : (t : Bool) → nat_lt max (length g.entries) ≡ t → length (cond t g (turn g x)).entries ≤ max → Turned (cond t g (turn g x)) r
      go true e few = absurd (over max (length g.entries) e few)
      go false e few = subst (λ z. Turned (turn g x) z) (some_same h) (turned g x, λ p is. turn_done g x p is)
  last_turned max g (x ∷ y ∷ l) r h few = go (nat_lt max (length g.entries)) refl few (λ f. last_turned max (turn g x) (y ∷ l) r h f)
    where
      go : (t : Bool) → nat_lt max (length g.entries) ≡ t → length (cond t g (rowed max (turn g x) (y ∷ l))).entries ≤ max → (length (rowed max (turn g x) (y ∷ l)).entries ≤ max → Turned (rowed max (turn g x) (y ∷ l)) r)
          → Turned (cond t g (rowed max (turn g x) (y ∷ l))) r
      go true e few more = absurd (over max (length g.entries) e few)
      go false e few more = more few

  -- ---- past a rolled-up name

  done_skips : (p : Octets) (name : Option Octets) → IsDone p name → (l : List (Listed VersionItem)) → merged name (cond (passes (Common p)) (Common p ∷ l) l) ≡ merged name l
  done_skips p name (inl h) l = elim (passes (Common p)) as (λ t. merged name (cond t (Common p ∷ l) l) ≡ merged name l) [ true ↦ ap (λ t. cond t (merged name l) (Common p ∷ merged (Some p) l)) h | false ↦ refl ]
  done_skips p name (inr h) l = ap (λ t. merged name (cond t (Common p ∷ l) l)) h

  abbrev IsUnder : Octets → Octets → Numbered → Type 0
  IsUnder p at r = is_upto at (row_key r) ≡ false → rolled prefix delimiter (row_key r) ≡ Some p

  skip_name : (p at : Octets) (name : Option Octets) → IsDone p name → (rows : List Numbered) (k0 k1 : Option Octets) → IsStrict rows → AllByRecursion (IsUnder p at) rows → IsBelow at k0 → IsBelow at k1
      → left name (items_next k0 rows) ≡ left name (items_next k1 (filter (is_from (at_key at)) rows))
  skip_name p at name done [] k0 k1 up under b0 b1 = refl
  skip_name p at name done (r ∷ rows) k0 k1 up under b0 b1 = go (is_upto at (row_key r)) refl (λ b. skip_name p at name done rows (Some (row_key r)) k1 up.1 under.1 b b1)
    where
      first : (k : Option Octets) → IsBelow at k → is_upto at (row_key r) ≡ true → version_after k r ≡ version_after None r
      first k below e = ap (λ t. record r.1 { latest = not t }) (other_key at k (row_key r) below e)

      go : (t : Bool) → is_upto at (row_key r) ≡ t → (is_upto at (row_key r) ≡ false → left name (items_next (Some (row_key r)) rows) ≡ left name (items_next k1 (filter (is_from (at_key at)) rows)))
          → left name (items_next k0 (r ∷ rows)) ≡ left name (items_next k1 (cond t (r ∷ filter (is_from (at_key at)) rows) (filter (is_from (at_key at)) rows)))
      go true e more =
          ap (λ x. left name (x ∷ items_next (Some (row_key r)) rows)) (first k0 b0 e ∙ sym (first k1 b1 e))
          ∙ ap (λ l. left name (version_after k1 r ∷ items_next (Some (row_key r)) l)) (sym (filter_whole (is_from (at_key at)) rows (all_map (λ x k. upto_trans at (row_key r) (row_key x) e (precedes_key (spot r) (spot x) k)) rows up.0)))
      go false e more =
          ap (λ (z : Listed VersionItem). merged name (cond (passes z) (z ∷ filter passes (map entry (items_next (Some (row_key r)) rows))) (filter passes (map entry (items_next (Some (row_key r)) rows))))) (ap (as_listed (version_after k0 r)) (under.0 e))
          ∙ done_skips p name done (filter passes (map entry (items_next (Some (row_key r)) rows))) ∙ more e

  module _ (rows : List Numbered) (up : IsStrict rows) (fine : AllByRecursion (λ r. (begins prefix (row_key r) ≡ true) × AllByRecursion (λ b. b < 255) (row_key r)) rows) where
    abbrev from : Place → List Numbered
    from place = filter (is_from place) rows

    -- what is to come of the rows past the last of a chunk is what is to come from the place past it on
    pub next_is : (place : Place) (c rest : List Numbered) (r : Numbered) (g : Gathered VersionItem) → c ++ rest ≡ from place → last_of c ≡ Some r → Turned g r
        → (begins prefix (row_key r) ≡ true) × AllByRecursion (λ b. b < 255) (row_key r)
        → come g rest ≡ come g (from (past_row (row_key r) r.0 (rolled prefix delimiter (row_key r))))
    next_is place c rest r g split last turned good = go (rolled prefix delimiter (row_key r)) refl
      where
        rest_after : rest ≡ filter (is_from (after_entry (row_key r) r.0)) rows
        rest_after = rest_is place rows c rest r up split last

        by_name : (p : Octets) → rolled prefix delimiter (row_key r) ≡ Some p → come g rest ≡ come g (from (at_key (past_name p)))
        by_name p is =
            let begun = rolled_begins prefix delimiter (row_key r) p good.0 is in
            let low : is_upto (past_name p) (row_key r) ≡ false = before_past_name p (row_key r) begun good.1 in
            let before : is_before (row_key r) (past_name p) ≡ true = ap is_lt (nat_list_cmp_total.antisymm (row_key r) (past_name p)) ∙ turned_before (octets_cmp (past_name p) (row_key r)) low in
            let later : AllByRecursion (λ x. is_from (after_entry (row_key r) r.0) x ≡ true) rest = subst (AllByRecursion (λ x. is_from (after_entry (row_key r) r.0) x ≡ true)) (sym rest_after) (filter_passes (is_from (after_entry (row_key r) r.0)) rows) in
            let strict : IsStrict rest = subst IsStrict (sym rest_after) (strict_filter (is_from (after_entry (row_key r) r.0)) rows up) in
            ap (λ k. left g.name (items_next k rest)) turned.0
            ∙ skip_name p (past_name p) g.name (turned.1 p is) rest (Some (row_key r)) (Some (row_key r)) strict
            (all_map (λ x k low. rolled_again prefix delimiter (row_key r) p (row_key x) is (begins_between p (row_key x) (upto_trans p (row_key r) (row_key x) (upto_begun p (row_key r) begun) (precedes_key (spot r) (spot x) k)) low)) rest later) low low
            ∙ ap (λ k. left g.name (items_next k (filter (is_from (at_key (past_name p))) rest))) (sym turned.0)
            ∙ ap (λ l. come g (filter (is_from (at_key (past_name p))) l)) rest_after
            ∙ ap (come g) (sym (filter_narrow (is_from (after_entry (row_key r) r.0)) (is_from (at_key (past_name p))) (λ x h. less_key _ _ (before_upto (row_key r) (past_name p) (row_key x) before h)) rows))

        go : (o : Option Octets) → rolled prefix delimiter (row_key r) ≡ o → come g rest ≡ come g (from (past_row (row_key r) r.0 o))
        go None is = ap (come g) rest_after
        go (Some p) is = by_name p is

    -- the rows that are read at a place: older ones of a key, or all
    abbrev pub rows_at : Octets → Option ℕ → List Numbered
    rows_at key older = spec.rows_at key older rows

    abbrev left_over : ℕ → Octets → Option ℕ → List Numbered
    left_over n key None = drop n (from (at_key key))
    left_over n key (Some seq) = drop n (filter (is_older key seq) rows) ++ from (at_key (past_key key))

    abbrev placed : Octets → Option ℕ → Place
    placed key older = record { key = key; after = older }

    split : (n : ℕ) (key : Octets) (older : Option ℕ) → take n (rows_at key older) ++ left_over n key older ≡ from (placed key older)
    split n key None = take-append-drop n (from (at_key key))
    split n key (Some seq) =
        sym (append_assoc (take n (filter (is_older key seq) rows)) (drop n (filter (is_older key seq) rows)) (from (at_key (past_key key))))
        ∙ ap (λ l. l ++ from (at_key (past_key key))) (take-append-drop n (filter (is_older key seq) rows)) ∙ sym (older_split key seq rows up)

    module _ (max : ℕ) (full : List (Listed VersionItem)) (g : Gathered VersionItem) (key : Octets) (older : Option ℕ) (n : ℕ)
        (inv : full ≡ g.entries ++ come g (from (placed key older))) (short : length g.entries ≤ suc max) where
      abbrev chunk : List Numbered
      chunk = take n (rows_at key older)

      parted : full ≡ g.entries ++ come g (chunk ++ left_over n key older)
      parted = inv ∙ ap (λ l. g.entries ++ come g l) (sym (split n key older))

      stepped : (take (suc max) full ≡ take (suc max) ((rowed max g chunk).entries ++ come (rowed max g chunk) (left_over n key older))) × (length (rowed max g chunk).entries ≤ suc max)
      stepped = let it = versions_step max g chunk (left_over n key older) short in (ap (take (suc max)) parted ∙ it.0, it.1)

      -- the page is full
      pub chunk_full : max < length (rowed max g chunk).entries → take (suc max) full ≡ (rowed max g chunk).entries
      chunk_full many = stepped.0 ∙ exact (rowed max g chunk).entries _ many stepped.1
        where
          exact : (es more : List (Listed VersionItem)) → max < length es → length es ≤ suc max → take (suc max) (es ++ more) ≡ es
          exact es more many short = let is : length es ≡ suc max = omega (arith, many, short) in subst (λ m. take m (es ++ more) ≡ es) is (take-append_seam es more)

      none_left : (l : List Numbered) → length (take n l) < n → drop n l ≡ []
      none_left l few = drop_of_length-le l (fits l n few)
        where
          fits : (l : List Numbered) (m : ℕ) → length (take m l) < m → length l ≤ m
          fits l m few = grind (arith, length-take)

      -- no rows are left
      pub chunk_ends : older ≡ None → length chunk < n → take (suc max) full ≡ (rowed max g chunk).entries
      chunk_ends is few =
          stepped.0 ∙ ap (λ l. take (suc max) ((rowed max g chunk).entries ++ come (rowed max g chunk) l)) (nothing older is few) ∙ ap (take (suc max)) (append-nil _) ∙ take_all (suc max) (rowed max g chunk).entries stepped.1
        where
          nothing : (o : Option ℕ) → o ≡ None → length (take n (rows_at key o)) < n → left_over n key o ≡ []
          nothing None is few = none_left (from (at_key key)) few
          nothing (Some seq) is few = absurd (none_some (sym is))

      -- no older rows of the key are left
      pub chunk_past : length (rowed max g chunk).entries ≤ max → (seq : ℕ) → older ≡ Some seq → length chunk < n → full ≡ (rowed max g chunk).entries ++ come (rowed max g chunk) (from (at_key (past_key key)))
      chunk_past room seq is few = parted ∙ versions_all max g chunk (left_over n key older) room ∙ ap (λ l. (rowed max g chunk).entries ++ come (rowed max g chunk) l) (keys older is few)
        where
          keys : (o : Option ℕ) → o ≡ Some seq → length (take n (rows_at key o)) < n → left_over n key o ≡ from (at_key (past_key key))
          keys None is few = absurd (none_some is)
          keys (Some s) is few = ap (λ l. l ++ from (at_key (past_key key))) (none_left (filter (is_older key s) rows) few)

      -- or reading goes on past the last row
      pub chunk_on : (r : Numbered) → last_of chunk ≡ Some r → length (rowed max g chunk).entries ≤ max → (begins prefix (row_key r) ≡ true) × AllByRecursion (λ b. b < 255) (row_key r)
          → full ≡ (rowed max g chunk).entries ++ come (rowed max g chunk) (from (past_row (row_key r) r.0 (rolled prefix delimiter (row_key r))))
      chunk_on r last few good =
          parted ∙ versions_all max g chunk (left_over n key older) few ∙ ap (λ l. (rowed max g chunk).entries ++ l)
          (next_is (placed key older) chunk (left_over n key older) r (rowed max g chunk) (split n key older) last (last_turned max g chunk r last few) good)
