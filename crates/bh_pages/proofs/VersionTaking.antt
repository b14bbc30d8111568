-- What a page of versions has read after the next rows.
use Rattle.std.proofs.Common.{◌≡◌, ℕ, suc, ◌<◌, ◌≤◌, nat_lt, not, cond, Bool, true, false, true≢false, inl, inr, List, [], ◌∷◌, ◌++◌, length, map, filter, take, Option, Some, None, IfSome, is_none, refl, sym, ap, subst, ◌∙◌, arith}
use Rattle.std.proofs.lemmas.Bool.Decides.{nat_tests}
use Rattle.std.proofs.lemmas.List.{length-map}
use Rattle.std.specs.List.{AllByRecursion}
use Rattle.bh_model.specs.State.{Octets}
use Rattle.bh_model.specs.Pages.{Listed, Listed.Single, Listed.Common, as_listed, is_name, VersionItem, begins, is_upto, last_of, rolled, passes_version}
use Rattle.bh_pages.specs.Gathered.{IsKeyUnder, IsBeginning, Gathered, with_entry, past_name, past_key}
use Rattle.bh_pages.specs.Seen.{token_of}
use Rattle.bh_pages.specs.Versions.{Numbered, row_key, Place, IsUnder, is_from, is_older, at_key, past_row, past_few, versions_to_come, seen, seen_line, seen_version, seen_entry, line_spot, line_item, version_in, with_version, rows_added, rows_at, AreRows, IsUnderway, Stands, AreNext}
use Rattle.bh_pages.specs.Taken as taken
use Rattle.bh_pages.specs.Taken.{seen_place, passes_name, AreUnder, PastLast, GoesOn, Taken}
use Rattle.bh_pages.specs.declared.gathering.PageAsked.{PageAsked}
use Rattle.bh_pages.specs.declared.versions.VersionLine.{VersionLine}
use Rattle.bh_pages.specs.declared.gathering.Gathering.{Gathering}
use Rattle.bh_pages.specs.declared.versions.ShownVersion.{ShownVersion}
use Rattle.bh_pages.specs.declared.places.PlaceReading.{PlaceReading}
use Rattle.bh_pages.proofs.Bytes.{upto_begun, upto_trans, upto_past_key, upto_other, before_past_name, rolled_begins, some_same, none_some}
use Rattle.bh_pages.proofs.Taking.{all_take}
use Rattle.bh_pages.proofs.Filters.{filter_all, last_all}
use Rattle.bh_pages.proofs.VersionSteps.{chunk_full, chunk_ends, chunk_past, chunk_on}

pub past_nat : (m n : ℕ) → nat_lt m n ≡ true → m < n
past_nat m n h = grind (arith, nat_tests, h)

pub last_map : {X Y : Type 0} (f : X → Y) (l : List X) (x : X) → last_of l ≡ Some x → last_of (map f l) ≡ Some (f x)
last_map f [] x h = absurd (none_some h)
last_map f (y ∷ []) x h = ap (λ z. Some (f z)) (some_same h)
last_map f (y ∷ z ∷ l) x h = last_map f (z ∷ l) x h

passes_same : (marker : Option Octets) (e : Listed VersionItem) → passes_name marker e ≡ passes_version marker e
passes_same None e = refl
passes_same (Some m) (Single v) = refl
passes_same (Some m) (Common name) = refl

module _ (asked : PageAsked) where
  row_seen : (g : Gathered VersionItem) (l : VersionLine) → taken.row_added line_spot line_item seen_version asked g l ≡ with_version asked.prefix.now asked.delimiter.now (token_of asked) g (seen_line l)
  row_seen g l =
      let h : Gathered VersionItem = record g { key = Some l.key.items } in
      let e : Listed VersionItem = as_listed (version_in l (not (is_name l.key.items g.key))) (rolled asked.prefix.now asked.delimiter.now l.key.items) in
      ap (λ t. cond t (with_entry h e) h) (passes_same (token_of asked) e)

  -- what lines add is what they show adds
  rows_seen : (g : Gathered VersionItem) (lines : List VersionLine) → taken.rows_added line_spot line_item seen_version asked g lines ≡ rows_added asked g (map seen_line lines)
  rows_seen g [] = refl
  rows_seen g (l ∷ more) =
      ap (cond (nat_lt asked.max (length g.entries)) g)
      (rows_seen (taken.row_added line_spot line_item seen_version asked g l) more ∙ ap (λ h. rows_added asked h (map seen_line more)) (row_seen g l))

module _ (asked : PageAsked) (rows : List Numbered) (listing : List (Listed VersionItem)) (are : AreRows asked.prefix.now rows)
    (old : PlaceReading ShownVersion) (was : IsUnderway asked rows listing old) (lines : List VersionLine) (next : AreNext rows old lines) where
  abbrev IsFine : Numbered → Type 0
  IsFine r = IsKeyUnder asked.prefix.now (row_key r)

  abbrev chunk : List Numbered
  chunk = take old.count (rows_at old.place.key.items old.place.after rows)

  chunk_fine : (key : Octets) (after : Option ℕ) → AllByRecursion IsFine (take old.count (rows_at key after rows))
  chunk_fine key None = all_take IsFine old.count _ (filter_all IsFine (is_from (at_key key)) rows are.under)
  chunk_fine key (Some n) = all_take IsFine old.count _ (filter_all IsFine (is_older key n) rows are.under)

  pub lines_under : AreUnder line_spot asked lines
  lines_under = begun lines (subst (AllByRecursion IsFine) (sym next) (chunk_fine old.place.key.items old.place.after))
    where
      begun : (l : List VersionLine) → AllByRecursion IsFine (map seen_line l) → AllByRecursion (λ (l : VersionLine). begins asked.prefix.now l.key.items ≡ true) l
      begun [] all = tt
      begun (l ∷ more) all = (all.0.0, begun more all.1)

  -- past a row the prefix is behind
  row_low : (key : Octets) (n : ℕ) (name : Option Octets) → rolled asked.prefix.now asked.delimiter.now key ≡ name → IsKeyUnder asked.prefix.now key
      → IsUnder asked.prefix.now (past_row key n name).key (past_row key n name).after
  row_low key n None is good = good.0
  row_low key n (Some p) is good =
      upto_trans asked.prefix.now key (past_name p) (upto_begun asked.prefix.now key good.0)
      (upto_other (past_name p) key (before_past_name p key (rolled_begins asked.prefix.now asked.delimiter.now key p good.0 is) good.1))

  key_low : (key : Octets) (n : ℕ) (after : Option ℕ) → after ≡ Some n → IsUnder asked.prefix.now key after → is_upto asked.prefix.now (past_key key) ≡ true
  key_low key n None is low = absurd (none_some is)
  key_low key n (Some m) is low = upto_trans asked.prefix.now key (past_key key) (upto_begun asked.prefix.now key low) (upto_past_key key)

  short : length (map seen_entry old.gathering.entries.items) ≤ suc asked.max
  short = up was.part.room
    where
      up : {m k : ℕ} → m ≤ k → m ≤ suc k
      up h = omega (arith, h)

  module _ (new : Gathering ShownVersion) (added : seen new ≡ rows_added asked (seen old.gathering) (map seen_line lines)) where
    abbrev chunked : Gathered VersionItem
    chunked = rows_added asked (seen old.gathering) chunk

    next_is : chunked ≡ seen new
    next_is = ap (rows_added asked (seen old.gathering)) (sym next) ∙ sym added

    abbrev shown : List (Listed VersionItem)
    shown = map seen_entry new.entries.items

    sized : length shown ≡ length new.entries.items
    sized = length-map new.entries.items seen_entry

    fewer : nat_lt (length lines) old.count ≡ true → length chunk < old.count
    fewer few = subst (λ m. m < old.count) (sym (length-map lines seen_line) ∙ ap length next) (past_nat _ _ few)

    -- the page is full
    pub full : asked.max < length new.entries.items → shown ≡ take (suc asked.max) listing
    full over = ap (λ (h : Gathered VersionItem). h.entries) (sym next_is)
        ∙ sym (chunk_full asked.prefix.now asked.delimiter.now (token_of asked) rows are.in_order are.under asked.max listing (seen old.gathering) old.place.key.items old.place.after old.count (sym was.part.whole) short
        (subst (λ (h : Gathered VersionItem). asked.max < length h.entries) (sym next_is) (subst (λ k. asked.max < k) (sym sized) over)))

    -- no rows are left
    last : old.place.after ≡ None → nat_lt (length lines) old.count ≡ true → shown ≡ take (suc asked.max) listing
    last is few = ap (λ (h : Gathered VersionItem). h.entries) (sym next_is)
        ∙ sym (chunk_ends asked.prefix.now asked.delimiter.now (token_of asked) rows are.in_order are.under asked.max listing (seen old.gathering) old.place.key.items old.place.after old.count (sym was.part.whole) short is (fewer few))

    pub ended : (o : Option Place) → o ≡ None → GoesOn line_spot asked (seen_place old.place) lines old.count o → shown ≡ take (suc asked.max) listing
    ended o is goes = go (nat_lt (length lines) old.count) refl
      where
        none_on : (after : Option ℕ) → old.place.after ≡ after → o ≡ past_few (record { key = old.place.key.items; after = after }) → nat_lt (length lines) old.count ≡ true → shown ≡ take (suc asked.max) listing
        none_on None at on few = last at few
        none_on (Some n) at on few = absurd (none_some (sym is ∙ on))

        go : (t : Bool) → nat_lt (length lines) old.count ≡ t → shown ≡ take (suc asked.max) listing
        go true e = none_on old.place.after refl (goes.few e) e
        go false e = absurd (true≢false (ap is_none (sym is) ∙ (goes.on e).1))

    -- or reading goes on
    module _ (room : length new.entries.items ≤ asked.max) where
      abbrev GoesFrom : Place → Type 0
      GoesFrom place = IsUnder asked.prefix.now place.key place.after
          × IsBeginning asked.max shown (versions_to_come asked.prefix.now asked.delimiter.now (token_of asked) (seen new) (filter (is_from place) rows)) listing

      roomy : length shown ≤ asked.max
      roomy = subst (λ k. k ≤ asked.max) (sym sized) room

      few_chunked : length chunked.entries ≤ asked.max
      few_chunked = subst (λ (h : Gathered VersionItem). length h.entries ≤ asked.max) (sym next_is) roomy

      abbrev Come : Place → Gathered VersionItem → Type 0
      Come place h = listing ≡ h.entries ++ versions_to_come asked.prefix.now asked.delimiter.now (token_of asked) h (filter (is_from place) rows)

      -- past the rows of a key
      next_key : (n : ℕ) → old.place.after ≡ Some n → nat_lt (length lines) old.count ≡ true → GoesFrom (at_key (past_key old.place.key.items))
      next_key n is few = (
        key_low old.place.key.items n old.place.after is was.low,
        record {
          room = roomy;
          whole = sym (subst (Come (at_key (past_key old.place.key.items))) next_is
              (chunk_past asked.prefix.now asked.delimiter.now (token_of asked) rows are.in_order are.under asked.max listing (seen old.gathering) old.place.key.items old.place.after old.count (sym was.part.whole) short few_chunked n is (fewer few)));
        },
      )

      -- or past the last row
      next_row : (row : VersionLine) → last_of lines ≡ Some row → GoesFrom (past_row row.key.items row.seq (rolled asked.prefix.now asked.delimiter.now row.key.items))
      next_row row at =
          let there : last_of chunk ≡ Some (seen_line row) = ap last_of (sym next) ∙ last_map seen_line lines row at in
          let good : IsFine (seen_line row) = last_all IsFine chunk (seen_line row) there (chunk_fine old.place.key.items old.place.after) in (
            row_low row.key.items row.seq (rolled asked.prefix.now asked.delimiter.now row.key.items) refl good,
            record {
              room = roomy;
              whole = sym (subst (Come (past_row row.key.items row.seq (rolled asked.prefix.now asked.delimiter.now row.key.items))) next_is
                  (chunk_on asked.prefix.now asked.delimiter.now (token_of asked) rows are.in_order are.under asked.max listing (seen old.gathering) old.place.key.items old.place.after old.count (sym was.part.whole) short (seen_line row) there few_chunked good));
            },
          )

      pub goes_on : (o : Option Place) (place : Place) → o ≡ Some place → GoesOn line_spot asked (seen_place old.place) lines old.count o → GoesFrom place
      goes_on o place is goes = go (nat_lt (length lines) old.count) refl
        where
          key_on : (after : Option ℕ) → old.place.after ≡ after → o ≡ past_few (record { key = old.place.key.items; after = after }) → nat_lt (length lines) old.count ≡ true → GoesFrom place
          key_on None at on few = absurd (none_some (sym on ∙ is))
          key_on (Some n) at on few = subst GoesFrom (some_same (sym on ∙ is)) (next_key n at few)

          row_on : PastLast line_spot asked lines place → GoesFrom place
          row_on past = subst GoesFrom (sym (past.is (last_all (λ (l : VersionLine). begins asked.prefix.now l.key.items ≡ true) lines past.row past.last lines_under))) (next_row past.row past.last)

          go : (t : Bool) → nat_lt (length lines) old.count ≡ t → GoesFrom place
          go true e = key_on old.place.after refl (goes.few e) e
          go false e = row_on (subst (λ p. IfSome p (PastLast line_spot asked lines)) is (goes.on e).0)

  pub took : (new : PlaceReading ShownVersion) (end : Bool) → Taken line_spot line_item seen_version asked old lines new end → Stands end asked rows listing new
  took new end it = go end it.goes
    where
      added : seen new.gathering ≡ rows_added asked (seen old.gathering) (map seen_line lines)
      added = it.added lines_under ∙ rows_seen asked (seen old.gathering) lines

      go : (t : Bool) → taken.Goes line_spot line_item seen_version t asked old lines new → Stands t asked rows listing new
      go true (inl over) = full new.gathering added over
      go true (inr goes) = ended new.gathering added None refl goes
      go false (room, goes) =
          let on = goes_on new.gathering added room (Some (seen_place new.place)) (seen_place new.place) refl goes in
          record { low = on.0; part = on.1 }
