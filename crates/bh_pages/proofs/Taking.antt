-- What a page of objects has read after the next rows.
use Rattle.std.proofs.Common.{◌≡◌, ℕ, zero, suc, ◌<◌, ◌≤◌, Bool, true, false, List, [], ◌∷◌, ◌++◌, length, map, filter, take, Option, Some, None, option_map, cond, refl, sym, ap, subst, ◌∙◌, ◌≢◌, arith}
use Rattle.std.proofs.lemmas.List.{length-map}
use Rattle.std.specs.List.{AllByRecursion}
use Rattle.bh_model.specs.State.{Octets}
use Rattle.bh_model.specs.Pages.{Listed, begins, is_name, is_upto, after_name, merged, entry_of, ObjectItem}
use Rattle.bh_pages.specs.Gathered.{IsKeyUnder, IsBeginning, Gathered, rows_from, start_of, nothing_gathered, items_after, in_front}
use Rattle.bh_pages.specs.Seen.{Shown, seen, seen_entry, seen_line, item_in, token_of, rows_added, still_to_come, read_on}
use Rattle.bh_pages.specs.Reading.{AreRows, listing, rows_left, IsUnderway, AreNext}
use Rattle.bh_pages.specs.declared.reading.Reading.{Reading}
use Rattle.bh_pages.specs.declared.gathering.PageAsked.{PageAsked}
use Rattle.bh_pages.specs.declared.gathering.Line.{Line}
use Rattle.bh_pages.specs.declared.gathering.Gathering.{Gathering}
use Rattle.bh_pages.specs.declared.gathering.ObjectLine.{ObjectLine}
use Rattle.bh_pages.proofs.Bytes.{some_same, none_some}
use Rattle.bh_pages.proofs.Filters.{filter_whole}
use Rattle.bh_pages.proofs.Starting.{start_any, start_low}
use Rattle.bh_pages.proofs.Chunks.{all_filter, chunk_full, chunk_last, chunk_next, chunk_key, place_low}

abbrev row_key : Shown → Octets
row_key r = r.0

pub all_take : {X : Type 0} (P : X → Type 0) (n : ℕ) (l : List X) → AllByRecursion P l → AllByRecursion P (take n l)
all_take P zero l all = tt
all_take P (suc n) [] all = tt
all_take P (suc n) (x ∷ l) all = (all.0, all_take P n l all.1)

keyed : (r : Shown) (x : ObjectItem) → item_in r ≡ Some x → x.key ≡ r.0
keyed r x h = go r.1 h
  where
    go : (o : Option ObjectItem) → option_map (λ (o : ObjectItem). record o { key = r.0 }) o ≡ Some x → x.key ≡ r.0
    go None h = absurd (none_some h)
    go (Some y) h = ap (λ (z : ObjectItem). z.key) (sym (some_same h))

begun_rows : (prefix : Octets) (l : List Shown) → AllByRecursion (λ (r : Shown). IsKeyUnder prefix r.0) l → AllByRecursion (λ (r : Shown). begins prefix r.0 ≡ true) l
begun_rows prefix [] all = tt
begun_rows prefix (r ∷ l) all = (all.0.0, begun_rows prefix l all.1)

begun_lines : (prefix : Octets) (lines : List Line) → AllByRecursion (λ (r : Shown). IsKeyUnder prefix r.0) (map seen_line lines) → AllByRecursion (λ (l : Line). begins prefix l.key.items ≡ true) lines
begun_lines prefix [] all = tt
begun_lines prefix (l ∷ lines) all = (all.0.0, begun_lines prefix lines all.1)

-- the items of rows under the prefix are under it
module _ (prefix : Octets) where
  items_under : (key : Option Octets) (l : List Shown) → AllByRecursion (λ (r : Shown). begins prefix r.0 ≡ true) l → AllByRecursion (λ (o : ObjectItem). begins prefix o.key ≡ true) (items_after row_key item_in key l)
  items_under key [] all = tt
  items_under key (r ∷ l) all = elim (is_name r.0 key) as (λ t. AllByRecursion (λ (o : ObjectItem). begins prefix o.key ≡ true) (cond t (items_after row_key item_in key l) (in_front (item_in r) (items_after row_key item_in (Some r.0) l)))) [
    | true ↦ items_under key l all.1
    | false ↦ front (item_in r) (λ x is. ap (begins prefix) (keyed r x is) ∙ all.0) _ (items_under (Some r.0) l all.1)
  ]
    where
      front : (o : Option ObjectItem) → ((x : ObjectItem) → o ≡ Some x → begins prefix x.key ≡ true) → (items : List ObjectItem) → AllByRecursion (λ (o : ObjectItem). begins prefix o.key ≡ true) items → AllByRecursion (λ (o : ObjectItem). begins prefix o.key ≡ true) (in_front o items)
      front None begun items all = all
      front (Some x) begun items all = (begun x refl, all)

pub begun_low : (asked : PageAsked) (from : Octets) → from ≡ start_of asked.prefix.now (token_of asked) → is_upto asked.prefix.now from ≡ true
begun_low asked from at = ap (is_upto asked.prefix.now) at ∙ start_low asked.prefix.now (token_of asked)

pub none_shown : (asked : PageAsked) (g : Gathering ObjectLine) → seen g ≡ nothing_gathered → length (map seen_entry g.entries.items) ≤ asked.max
none_shown asked g is = subst (λ (l : List (Listed ObjectItem)). length l ≤ asked.max) (sym (ap (λ (h : Gathered ObjectItem). h.entries) is)) (omega arith)

module _ (asked : PageAsked) (rows : List Shown) (are : AreRows asked.prefix.now rows) where
  abbrev passes : Listed ObjectItem → Bool
  passes = after_name (λ (o : ObjectItem). o.key) (token_of asked)

  -- what is to come of all rows is the listing
  pub all_to_come : still_to_come asked nothing_gathered rows ≡ listing asked rows
  all_to_come = ap (λ l. merged None (filter passes (map (entry_of asked.prefix.now asked.delimiter.now (λ (o : ObjectItem). o.key)) l)))
      (sym (filter_whole (λ (o : ObjectItem). begins asked.prefix.now o.key) (items_after row_key item_in None rows) (items_under asked.prefix.now None rows (begun_rows asked.prefix.now rows are.under))))

  pub begun : (g : Gathering ObjectLine) → seen g ≡ nothing_gathered → (from : Octets) → from ≡ start_of asked.prefix.now (token_of asked)
      → map seen_entry g.entries.items ++ still_to_come asked (seen g) (rows_from row_key from rows) ≡ listing asked rows
  begun g is from at =
      (λ i. (is i).entries ++ still_to_come asked (is i) (rows_from row_key (at i) rows))
      ∙ sym (start_any row_key item_in asked.prefix.now asked.delimiter.now (λ (o : ObjectItem). o.key) keyed rows are.in_order (begun_rows asked.prefix.now rows are.under) (token_of asked))
      ∙ all_to_come

  module _ (old : Reading) (was : IsUnderway asked rows old) (lines : List Line) (next : AreNext rows old lines) where
    pub lines_begin : AllByRecursion (λ (l : Line). begins asked.prefix.now l.key.items ≡ true) lines
    lines_begin = begun_lines asked.prefix.now lines
        (subst (AllByRecursion (λ (r : Shown). IsKeyUnder asked.prefix.now r.0)) (sym next) (all_take (λ (r : Shown). IsKeyUnder asked.prefix.now r.0) old.count _ (all_filter row_key (λ (r : Shown). IsKeyUnder asked.prefix.now r.0) _ rows are.under)))

    short : length (map seen_entry old.gathering.entries.items) ≤ suc asked.max
    short = up was.part.room
      where
        up : {m k : ℕ} → m ≤ k → m ≤ suc k
        up h = omega (arith, h)

    abbrev chunked : Gathered ObjectItem
    chunked = rows_added asked (seen old.gathering) (take old.count (rows_left old rows))

    module _ (new : Gathering ObjectLine) (added : seen new ≡ rows_added asked (seen old.gathering) (map seen_line lines)) where
      next_is : chunked ≡ seen new
      next_is = ap (rows_added asked (seen old.gathering)) (sym next) ∙ sym added

      abbrev shown : List (Listed ObjectItem)
      shown = map seen_entry new.entries.items

      sized : length shown ≡ length new.entries.items
      sized = length-map new.entries.items seen_entry

      -- the page is full
      pub full : asked.max < length new.entries.items → shown ≡ take (suc asked.max) (listing asked rows)
      full over = ap (λ (h : Gathered ObjectItem). h.entries) (sym next_is)
          ∙ sym (chunk_full row_key item_in asked.prefix.now asked.delimiter.now (λ (o : ObjectItem). o.key) passes keyed rows are.in_order are.under asked.max (listing asked rows) (seen old.gathering) old.from.items old.count (sym was.part.whole) short
          (subst (λ (h : Gathered ObjectItem). asked.max < length h.entries) (sym next_is) (subst (λ k. asked.max < k) (sym sized) over)))

      -- no rows are left
      pub last : length lines < old.count → shown ≡ take (suc asked.max) (listing asked rows)
      last few = ap (λ (h : Gathered ObjectItem). h.entries) (sym next_is)
          ∙ sym (chunk_last row_key item_in asked.prefix.now asked.delimiter.now (λ (o : ObjectItem). o.key) passes keyed rows are.in_order are.under asked.max (listing asked rows) (seen old.gathering) old.from.items old.count (sym was.part.whole) short
          (subst (λ m. m < old.count) (sym (length-map lines seen_line) ∙ ap length next) few))

      none_left : (n m : ℕ) → n ≤ m → m ≡ 0 → n ≡ 0
      none_left n m h e = omega (arith, h, e)

      not_none : (n : ℕ) → 1 ≤ n → n ≢ 0
      not_none n h e = omega (arith, h, e)

      module _ (room : length new.entries.items ≤ asked.max) (all : old.count ≤ length lines) (key : Octets) (is : (seen new).key ≡ Some key) where
        few : length chunked.entries ≤ asked.max
        few = subst (λ (h : Gathered ObjectItem). length h.entries ≤ asked.max) (sym next_is) (subst (λ k. k ≤ asked.max) (sym sized) room)

        there : chunked.key ≡ Some key
        there = ap (λ (h : Gathered ObjectItem). h.key) next_is ∙ is

        some : length (take old.count (rows_left old rows)) ≢ 0
        some none = not_none old.count was.few.some (none_left old.count (length lines) all (sym (length-map lines seen_line) ∙ ap length next ∙ none))

        pub key_under : IsKeyUnder asked.prefix.now key
        key_under = chunk_key row_key item_in asked.prefix.now asked.delimiter.now (λ (o : ObjectItem). o.key) passes keyed rows are.in_order are.under asked.max (listing asked rows) (seen old.gathering) old.from.items old.count (sym was.part.whole) short few key there some

        -- reading goes on from there
        pub goes_on : (from : Octets) → from ≡ read_on asked (seen new) key → (is_upto asked.prefix.now from ≡ true) × IsBeginning asked.max shown (still_to_come asked (seen new) (rows_from row_key from rows)) (listing asked rows)
        goes_on from at = (
          ap (is_upto asked.prefix.now) at ∙ place_low row_key item_in asked.prefix.now asked.delimiter.now (λ (o : ObjectItem). o.key) passes keyed rows are.in_order are.under (seen new) key key_under.0 key_under.1,
          record {
            room = subst (λ k. k ≤ asked.max) (sym sized) room;
            whole = ap (λ f. shown ++ still_to_come asked (seen new) (rows_from row_key f rows)) at
                ∙ sym (subst (λ (h : Gathered ObjectItem). listing asked rows ≡ h.entries ++ still_to_come asked h (rows_from row_key (read_on asked h key) rows)) next_is
                (chunk_next row_key item_in asked.prefix.now asked.delimiter.now (λ (o : ObjectItem). o.key) passes keyed rows are.in_order are.under asked.max (listing asked rows) (seen old.gathering) old.from.items old.count (sym was.part.whole) short few key there some));
          },
        )
