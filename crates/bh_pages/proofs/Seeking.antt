-- A page of items that is gathered chunk by chunk, each read from the place where the one before leads. The items stand in the
-- order of their keys, those of a key in an order of their numbers, and each tells its entry alone.
use Rattle.std.proofs.Common.{◌≡◌, ℕ, suc, ◌<◌, ◌≤◌, nat_lt, Bool, true, false, cond, List, [], ◌∷◌, ◌++◌, length, map, take, drop, ◌⊎◌, inl, inr, Option, Some, None, refl, sym, ap, subst, ◌∙◌, arith, Ordering}
use Rattle.std.specs.List.{filter, AllByRecursion}
use Rattle.std.specs.Cmp.{IsTotalOrder}
use Rattle.std.specs.Ordering.{is_lt, is_eq}
use Rattle.std.proofs.lemmas.Cmp.{nat_list_cmp_total, tied_itself}
use Rattle.std.proofs.lemmas.List.{take-append-drop, length-take, take_all, append-nil, append_assoc}
use Rattle.std.proofs.Math.ListN.{drop_of_length-le}
use Rattle.std.proofs.Math.Seq.{take-append_seam}
use Rattle.bh_model.specs.State.{Octets, octets_cmp}
use Rattle.bh_model.specs.Pages.{Listed, Listed.Common, begins, is_upto, is_before, is_name, merged, as_listed, rolled, last_of, entry_of}
use Rattle.bh_pages.specs.Gathered.{Gathered, with_entry, past_key, past_name}
use Rattle.bh_pages.specs.Places.{Spot, Place, at_key, after_entry, past_row}
use Rattle.bh_pages.specs.Places as places
use Rattle.bh_pages.proofs.Bytes.{upto_trans, upto_begun, before_past_name, begins_between, rolled_begins, rolled_again, some_same, none_some}
use Rattle.bh_pages.proofs.Skipping.{entry_step, grown}
use Rattle.bh_pages.proofs.Before.{before_upto}
use Rattle.bh_pages.proofs.Filters.{all_map, filter_narrow, filter_whole, filter_passes}
use Rattle.bh_pages.proofs.VersionSteps.{over, past_lt, turned_before, less_key, full_page, fits}
use Rattle.bh_pages.proofs.Placing.{strict_filter, precedes_key, rest_is, behind_split}

module _ {T : Type 0} (by_number : ℕ → ℕ → Ordering) (numbers : IsTotalOrder by_number) (item_key : T → Octets) (number : T → ℕ) (prefix delimiter : Octets) (passes : Listed T → Bool) where
  abbrev precedes : Spot → Spot → Bool
  precedes = places.precedes by_number

  abbrev spot : T → Spot
  spot = places.spot by_number item_key number

  abbrev is_from : Place → T → Bool
  is_from = places.is_from by_number item_key number

  abbrev is_behind : Octets → ℕ → T → Bool
  is_behind = places.is_behind by_number item_key number

  abbrev IsStrict : List T → Type 0
  IsStrict = places.IsStrict by_number item_key number

  abbrev entry : T → Listed T
  entry = entry_of prefix delimiter item_key

  abbrev come : Gathered T → List T → List (Listed T)
  come = places.left_of item_key prefix delimiter passes

  abbrev turn : Gathered T → T → Gathered T
  turn = places.with_next item_key prefix delimiter passes

  abbrev gathered : ℕ → Gathered T → List T → Gathered T
  gathered = places.with_items item_key prefix delimiter passes

  abbrev none_of : T → Option T
  none_of x = None

  -- ---- an item more

  abbrev keyed : Gathered T → T → Gathered T
  keyed g x = record g { key = Some (item_key x) }

  item_step : (g : Gathered T) (x : T) (items : List T) → g.entries ++ come g (x ∷ items) ≡ (turn g x).entries ++ come (turn g x) items
  item_step g x items = entry_step item_key none_of prefix delimiter item_key passes (keyed g x) (entry x) (filter passes (map entry items))

  item_grown : (g : Gathered T) (x : T) → length (turn g x).entries ≤ suc (length g.entries)
  item_grown g x = elim (passes (entry x)) as (λ t. length (cond t (with_entry (keyed g x) (entry x)) (keyed g x)).entries ≤ suc (length g.entries)) [
    | true ↦ grown item_key none_of prefix delimiter item_key passes (keyed g x) (entry x)
    | false ↦ omega arith
  ]

  abbrev Stepped : ℕ → Gathered T → Gathered T → List T → List T → Type 0
  Stepped max g h whole rest = (take (suc max) (g.entries ++ come g whole) ≡ take (suc max) (h.entries ++ come h rest)) × (length h.entries ≤ suc max)

  items_step : (max : ℕ) (g : Gathered T) (chunk rest : List T) → length g.entries ≤ suc max → Stepped max g (gathered max g chunk) (chunk ++ rest) rest
  items_step max g [] rest short = (refl, short)
  items_step max g (x ∷ chunk) rest short = go (nat_lt max (length g.entries)) refl (λ h. items_step max (turn g x) chunk rest h)
    where
      go : (t : Bool) → nat_lt max (length g.entries) ≡ t → (length (turn g x).entries ≤ suc max → Stepped max (turn g x) (gathered max (turn g x) chunk) (chunk ++ rest) rest)
          → Stepped max g (cond t g (gathered max (turn g x) chunk)) (x ∷ (chunk ++ rest)) rest
      go true e more = (full_page max g.entries _ _ (past_lt max (length g.entries) e) short, short)
      go false e more =
          let small : length (turn g x).entries ≤ suc max = fits max (length g.entries) (length (turn g x).entries) e (item_grown g x) in
          (ap (take (suc max)) (item_step g x (chunk ++ rest)) ∙ (more small).0, (more small).1)

  -- a page that has room has taken them all
  items_all : (max : ℕ) (g : Gathered T) (chunk rest : List T) → length (gathered max g chunk).entries ≤ max → g.entries ++ come g (chunk ++ rest) ≡ (gathered max g chunk).entries ++ come (gathered max g chunk) rest
  items_all max g [] rest few = refl
  items_all max g (x ∷ chunk) rest few = go (nat_lt max (length g.entries)) refl few (items_all max (turn g x) chunk rest)
    where
      go : (t : Bool) → nat_lt max (length g.entries) ≡ t → length (cond t g (gathered max (turn g x) chunk)).entries ≤ max
          → (length (gathered max (turn g x) chunk).entries ≤ max → (turn g x).entries ++ come (turn g x) (chunk ++ rest) ≡ (gathered max (turn g x) chunk).entries ++ come (gathered max (turn g x) chunk) rest)
          → g.entries ++ come g (x ∷ (chunk ++ rest)) ≡ (cond t g (gathered max (turn g x) chunk)).entries ++ come (cond t g (gathered max (turn g x) chunk)) rest
      go true e few more = absurd (over max (length g.entries) e few)
      go false e few more = item_step g x (chunk ++ rest) ∙ more few

  -- ---- after the last item of a chunk that leaves room, its rolled-up name is listed or not let through

  abbrev IsDone : Octets → Option Octets → Type 0
  IsDone p name = (is_name p name ≡ true) ⊎ (passes (Common p) ≡ false)

  name_done : (g : Gathered T) (p : Octets) → IsDone p (places.with_passing item_key prefix delimiter passes g (Common p)).name
  name_done g p = pass (passes (Common p)) refl
    where
      listed : (t : Bool) → is_name p g.name ≡ t → is_name p (cond t g (record g { name = Some p; entries = g.entries ++ Common p ∷ [] })).name ≡ true
      listed true e = e
      listed false e = ap is_eq (tied_itself nat_list_cmp_total p)

      pass : (t : Bool) → passes (Common p) ≡ t → IsDone p (cond t (with_entry g (Common p)) g).name
      pass true e = inl (listed (is_name p g.name) refl)
      pass false e = inr e

  abbrev Turned : Gathered T → T → Type 0
  Turned h x = (p : Octets) → rolled prefix delimiter (item_key x) ≡ Some p → IsDone p h.name

  turn_done : (g : Gathered T) (x : T) → Turned (turn g x) x
  turn_done g x p is = subst (λ (e : Listed T). IsDone p (places.with_passing item_key prefix delimiter passes (keyed g x) e).name) (sym (ap (as_listed x) is)) (name_done (keyed g x) p)

  last_turned : (max : ℕ) (g : Gathered T) (c : List T) (x : T) → last_of c ≡ Some x → length (gathered max g c).entries ≤ max → Turned (gathered max g c) x
  last_turned max g [] x h few = absurd (none_some h)
  last_turned max g (y ∷ []) x h few = go (nat_lt max (length g.entries)) refl few
    where
      go : (t : Bool) → nat_lt max (length g.entries) ≡ t → length (cond t g (turn g y)).entries ≤ max → Turned (cond t g (turn g y)) x
      go true e few = absurd (over max (length g.entries) e few)
      go false e few = subst (λ z. Turned (turn g y) z) (some_same h) (turn_done g y)
  last_turned max g (y ∷ z ∷ l) x h few = go (nat_lt max (length g.entries)) refl few (λ f. last_turned max (turn g y) (z ∷ l) x h f)
    where
      go : (t : Bool) → nat_lt max (length g.entries) ≡ t → length (cond t g (gathered max (turn g y) (z ∷ l))).entries ≤ max → (length (gathered max (turn g y) (z ∷ l)).entries ≤ max → Turned (gathered max (turn g y) (z ∷ l)) x)
          → Turned (cond t g (gathered max (turn g y) (z ∷ l))) x
      go true e few more = absurd (over max (length g.entries) e few)
      go false e few more = more few

  -- ---- past a rolled-up name

  done_skips : (p : Octets) (name : Option Octets) → IsDone p name → (l : List (Listed T)) → merged name (cond (passes (Common p)) (Common p ∷ l) l) ≡ merged name l
  done_skips p name (inl h) l = elim (passes (Common p)) as (λ t. merged name (cond t (Common p ∷ l) l) ≡ merged name l) [ true ↦ ap (λ t. cond t (merged name l) (Common p ∷ merged (Some p) l)) h | false ↦ refl ]
  done_skips p name (inr h) l = ap (λ t. merged name (cond t (Common p ∷ l) l)) h

  abbrev IsUnder : Octets → Octets → T → Type 0
  IsUnder p at x = is_upto at (item_key x) ≡ false → rolled prefix delimiter (item_key x) ≡ Some p

  abbrev left : Option Octets → List T → List (Listed T)
  left name items = merged name (filter passes (map entry items))

  skip_name : (p at : Octets) (name : Option Octets) → IsDone p name → (items : List T) → IsStrict items → AllByRecursion (IsUnder p at) items → left name items ≡ left name (filter (is_from (at_key at)) items)
  skip_name p at name done [] up under = refl
  skip_name p at name done (x ∷ items) up under = go (is_upto at (item_key x)) refl (skip_name p at name done items up.1 under.1)
    where
      go : (t : Bool) → is_upto at (item_key x) ≡ t → left name items ≡ left name (filter (is_from (at_key at)) items) → left name (x ∷ items) ≡ left name (cond t (x ∷ filter (is_from (at_key at)) items) (filter (is_from (at_key at)) items))
      go true e more = ap (λ l. left name (x ∷ l)) (sym (filter_whole (is_from (at_key at)) items (all_map (λ y k. upto_trans at (item_key x) (item_key y) e (precedes_key by_number numbers item_key number (spot x) (spot y) k)) items up.0)))
      go false e more =
          ap (λ (z : Listed T). merged name (cond (passes z) (z ∷ filter passes (map entry items)) (filter passes (map entry items)))) (ap (as_listed x) (under.0 e))
          ∙ done_skips p name done (filter passes (map entry items)) ∙ more

  module _ (items : List T) (up : IsStrict items) (fine : AllByRecursion (λ x. (begins prefix (item_key x) ≡ true) × AllByRecursion (λ b. b < 255) (item_key x)) items) where
    abbrev from : Place → List T
    from place = filter (is_from place) items

    -- what is to come of the items past the last of a chunk is what is to come from the place past it on
    next_is : (place : Place) (c rest : List T) (x : T) (g : Gathered T) → c ++ rest ≡ from place → last_of c ≡ Some x → Turned g x
        → (begins prefix (item_key x) ≡ true) × AllByRecursion (λ b. b < 255) (item_key x)
        → come g rest ≡ come g (from (past_row (item_key x) (number x) (rolled prefix delimiter (item_key x))))
    next_is place c rest x g split last turned good = go (rolled prefix delimiter (item_key x)) refl
      where
        rest_after : rest ≡ filter (is_from (after_entry (item_key x) (number x))) items
        rest_after = rest_is by_number numbers item_key number place items c rest x up split last

        by_name : (p : Octets) → rolled prefix delimiter (item_key x) ≡ Some p → come g rest ≡ come g (from (at_key (past_name p)))
        by_name p is =
            let begun = rolled_begins prefix delimiter (item_key x) p good.0 is in
            let low : is_upto (past_name p) (item_key x) ≡ false = before_past_name p (item_key x) begun good.1 in
            let before : is_before (item_key x) (past_name p) ≡ true = ap is_lt (nat_list_cmp_total.antisymm (item_key x) (past_name p)) ∙ turned_before (octets_cmp (past_name p) (item_key x)) low in
            let later : AllByRecursion (λ y. is_from (after_entry (item_key x) (number x)) y ≡ true) rest = subst (AllByRecursion (λ y. is_from (after_entry (item_key x) (number x)) y ≡ true)) (sym rest_after) (filter_passes (is_from (after_entry (item_key x) (number x))) items) in
            let strict : IsStrict rest = subst IsStrict (sym rest_after) (strict_filter by_number numbers item_key number (is_from (after_entry (item_key x) (number x))) items up) in
            skip_name p (past_name p) g.name (turned p is) rest strict
            (all_map (λ y k low. rolled_again prefix delimiter (item_key x) p (item_key y) is (begins_between p (item_key y) (upto_trans p (item_key x) (item_key y) (upto_begun p (item_key x) begun) (precedes_key by_number numbers item_key number (spot x) (spot y) k)) low)) rest later)
            ∙ ap (λ l. come g (filter (is_from (at_key (past_name p))) l)) rest_after
            ∙ ap (come g) (sym (filter_narrow (is_from (after_entry (item_key x) (number x))) (is_from (at_key (past_name p))) (λ y h. less_key _ _ (before_upto (item_key x) (past_name p) (item_key y) before h)) items))

        go : (o : Option Octets) → rolled prefix delimiter (item_key x) ≡ o → come g rest ≡ come g (from (past_row (item_key x) (number x) o))
        go None is = ap (come g) rest_after
        go (Some p) is = by_name p is

    -- the items that are read at a place: later ones of a key, or all
    abbrev pub items_at : Octets → Option ℕ → List T
    items_at key after = places.rows_at by_number item_key number key after items

    abbrev left_over : ℕ → Octets → Option ℕ → List T
    left_over n key None = drop n (from (at_key key))
    left_over n key (Some m) = drop n (filter (is_behind key m) items) ++ from (at_key (past_key key))

    abbrev placed : Octets → Option ℕ → Place
    placed key after = record { key = key; after = after }

    split : (n : ℕ) (key : Octets) (after : Option ℕ) → take n (items_at key after) ++ left_over n key after ≡ from (placed key after)
    split n key None = take-append-drop n (from (at_key key))
    split n key (Some m) =
        sym (append_assoc (take n (filter (is_behind key m) items)) (drop n (filter (is_behind key m) items)) (from (at_key (past_key key))))
        ∙ ap (λ l. l ++ from (at_key (past_key key))) (take-append-drop n (filter (is_behind key m) items)) ∙ sym (behind_split by_number numbers item_key number key m items up)

    module _ (max : ℕ) (full : List (Listed T)) (g : Gathered T) (key : Octets) (after : Option ℕ) (n : ℕ)
        (inv : full ≡ g.entries ++ come g (from (placed key after))) (short : length g.entries ≤ suc max) where
      abbrev chunk : List T
      chunk = take n (items_at key after)

      parted : full ≡ g.entries ++ come g (chunk ++ left_over n key after)
      parted = inv ∙ ap (λ l. g.entries ++ come g l) (sym (split n key after))

      stepped : (take (suc max) full ≡ take (suc max) ((gathered max g chunk).entries ++ come (gathered max g chunk) (left_over n key after))) × (length (gathered max g chunk).entries ≤ suc max)
      stepped = let it = items_step max g chunk (left_over n key after) short in (ap (take (suc max)) parted ∙ it.0, it.1)

      -- the page is full
      pub chunk_full : max < length (gathered max g chunk).entries → take (suc max) full ≡ (gathered max g chunk).entries
      chunk_full many = stepped.0 ∙ exact (gathered max g chunk).entries _ many stepped.1
        where
          exact : (es more : List (Listed T)) → max < length es → length es ≤ suc max → take (suc max) (es ++ more) ≡ es
          exact es more many short = let is : length es ≡ suc max = omega (arith, many, short) in subst (λ m. take m (es ++ more) ≡ es) is (take-append_seam es more)

      none_left : (l : List T) → length (take n l) < n → drop n l ≡ []
      none_left l few = drop_of_length-le l (room l n few)
        where
          room : (l : List T) (m : ℕ) → length (take m l) < m → length l ≤ m
          room l m few = grind (arith, length-take)

      -- no items are left
      pub chunk_ends : after ≡ None → length chunk < n → take (suc max) full ≡ (gathered max g chunk).entries
      chunk_ends is few =
          stepped.0 ∙ ap (λ l. take (suc max) ((gathered max g chunk).entries ++ come (gathered max g chunk) l)) (nothing after is few) ∙ ap (take (suc max)) (append-nil _) ∙ take_all (suc max) (gathered max g chunk).entries stepped.1
        where
          nothing : (o : Option ℕ) → o ≡ None → length (take n (items_at key o)) < n → left_over n key o ≡ []
          nothing None is few = none_left (from (at_key key)) few
          nothing (Some m) is few = absurd (none_some (sym is))

      -- no later items of the key are left
      pub chunk_past : length (gathered max g chunk).entries ≤ max → (m : ℕ) → after ≡ Some m → length chunk < n → full ≡ (gathered max g chunk).entries ++ come (gathered max g chunk) (from (at_key (past_key key)))
      chunk_past room m is few = parted ∙ items_all max g chunk (left_over n key after) room ∙ ap (λ l. (gathered max g chunk).entries ++ come (gathered max g chunk) l) (keys after is few)
        where
          keys : (o : Option ℕ) → o ≡ Some m → length (take n (items_at key o)) < n → left_over n key o ≡ from (at_key (past_key key))
          keys None is few = absurd (none_some is)
          keys (Some s) is few = ap (λ l. l ++ from (at_key (past_key key))) (none_left (filter (is_behind key s) items) few)

      -- or reading goes on past the last item
      pub chunk_on : (x : T) → last_of chunk ≡ Some x → length (gathered max g chunk).entries ≤ max → (begins prefix (item_key x) ≡ true) × AllByRecursion (λ b. b < 255) (item_key x)
          → full ≡ (gathered max g chunk).entries ++ come (gathered max g chunk) (from (past_row (item_key x) (number x) (rolled prefix delimiter (item_key x))))
      chunk_on x last few good =
          parted ∙ items_all max g chunk (left_over n key after) few ∙ ap (λ l. (gathered max g chunk).entries ++ l)
          (next_is (placed key after) chunk (left_over n key after) x (gathered max g chunk) (split n key after) last (last_turned max g chunk x last few) good)
