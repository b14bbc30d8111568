-- What a change of the version rows does to the objects of one bucket.
use Rattle.std.proofs.Common.{◌≡◌, ◌≢◌, ℕ, ◌+◌, ◌<◌, Bool, true, false, cond, not, ◌&&◌, List, [], ◌∷◌, ◌++◌, map, sum_by, unwrap_or, pos, refl, sym, ap, ◌∙◌, arith, Ordering, Greater, is_gt, is_some}
use Rattle.std.proofs.lemmas.Int.{ints}
use Rattle.std.specs.Option.{option_map_or}
use Rattle.std.specs.List.{AllByRecursion}
use Rattle.std.specs.Cmp.{IsTotalOrder, int_cmp_total, int_cmp_is, on_total, back_total}
use Rattle.std.proofs.lemmas.List.Sums.{sum_by-cons}
use Rattle.std.proofs.lemmas.List.Sorted.{sum_by-IsPermutation}
use Rattle.std.specs.FinMap.{FinMap, get, insert}
use Rattle.sqlite_keyed.specs.Lists.{sort_by, delete_where, insert_sorted}
use Rattle.sqlite_keyed.proofs.ListLemmas.{filter-map, all-filter}
use Rattle.sqlite_keyed.proofs.SortLemmas.{IsPermutation-sort_by}
use Rattle.bh_model.specs.FinMaps.{non_empty, set_at, total}
use Rattle.bh_model.specs.State.{Octets, Entry, entry_size}
use Rattle.bh_tables.specs.Typed.{VersionRow}
use Rattle.bh_tables.specs.Shown.{newer}
use Rattle.bh_view.specs.View.{at_key, entry_of, entries_of, objects_of}
use Rattle.bh_view.proofs.Keys.{octets}
use Rattle.bh_view.proofs.FilterLemmas.{push_here, push_other, delete_other, delete_mine}
use Rattle.bh_view.proofs.SortLemmas.{sort_by_push, sort_by-filter}
use Rattle.bh_view.proofs.GroupedLemmas.{get-grouped, grouped_changed, is_itself, is_other, unwrapped}
use Rattle.bh_view.proofs.TotalLemmas.{total_is}
use Rattle.sqlite_typed.specs.Tests.{bytes_eq}

-- the entries of a key, none where it is missing
abbrev pub entries_at : {K X : Type 0} {R : K → K → Ordering} → FinMap R (List X) → K → List X
entries_at m k = unwrap_or (get m k) []

pub newer_total : IsTotalOrder newer
newer_total = on_total (λ (r : VersionRow). pos r.seq) (back_total int_cmp_total)

pub get-objects_of : (rows : List VersionRow) (q : Octets) → get (objects_of rows) q ≡ non_empty (entries_of (at_key q rows))
get-objects_of = get-grouped octets (λ r. r.okey) (λ _ rows. non_empty (entries_of rows)) (λ _. refl)

pub entries_at-objects_of : (rows : List VersionRow) (q : Octets) → entries_at (objects_of rows) q ≡ entries_of (at_key q rows)
entries_at-objects_of rows q = ap (λ o. unwrap_or o []) (get-objects_of rows q) ∙ unwrapped _

objects_changed : (old new : List VersionRow) (at : Octets) → ((q : Octets) → at ≢ q → at_key q new ≡ at_key q old) → objects_of new ≡ set_at (objects_of old) at (non_empty (entries_of (at_key at new)))
objects_changed old new at alike = grouped_changed octets (λ r. r.okey) (λ r. r.okey) (λ _ rows. non_empty (entries_of rows)) (λ _ rows. non_empty (entries_of rows)) (λ _. refl) (λ _. refl) old new at (λ q apart. ap (λ l. non_empty (entries_of l)) (alike q apart))

-- the row's seq is above those of the others
abbrev pub IsLatest : VersionRow → List VersionRow → Type 0
IsLatest v = AllByRecursion (λ x. is_gt (newer x v) ≡ true)

-- a row with the greatest seq is the key's newest entry
pub objects_pushed : (rows : List VersionRow) (v : VersionRow) → IsLatest v rows → objects_of (rows ++ v ∷ []) ≡ insert (objects_of rows) v.okey (entry_of v ∷ entries_at (objects_of rows) v.okey)
objects_pushed rows v latest =
    objects_changed rows (rows ++ v ∷ []) v.okey (λ q apart. push_other _ rows v (is_other octets v.okey q apart))
    ∙ ap (λ l. set_at (objects_of rows) v.okey (non_empty (entries_of l))) (push_here _ rows v (is_itself octets v.okey))
    ∙ ap (λ l. set_at (objects_of rows) v.okey (non_empty (map entry_of l))) (sort_by_push newer (at_key v.okey rows) v (all-filter _ _ rows latest))
    ∙ ap (λ l. insert (objects_of rows) v.okey (entry_of v ∷ l)) (sym (entries_at-objects_of rows v.okey))

-- the rows of a key whose entries pass a test taken out
pub objects_deleted : (rows : List VersionRow) (at : Octets) (d : Entry → Bool) → objects_of (delete_where (λ v. bytes_eq v.okey at && d (entry_of v)) rows) ≡ set_at (objects_of rows) at (non_empty (delete_where d (entries_at (objects_of rows) at)))
objects_deleted rows at d =
    let t = λ (v : VersionRow). d (entry_of v) in
    objects_changed rows _ at (λ q apart. delete_other _ _ rows (λ x here. ap (λ b. b && t x) (is_other octets x.okey at (λ there. apart (sym there ∙ (octets.decides x.okey q).0 here)))))
    ∙ ap (λ l. set_at (objects_of rows) at (non_empty (entries_of l))) (delete_mine (λ (v : VersionRow). bytes_eq v.okey at) t rows)
    ∙ ap (λ l. set_at (objects_of rows) at (non_empty l)) (ap (map entry_of) (sort_by-filter newer newer_total (λ v. not (t v)) (at_key at rows)) ∙ sym (filter-map (λ e. not (d e)) entry_of (sort_by newer (at_key at rows))))
    ∙ ap (λ l. set_at (objects_of rows) at (non_empty (delete_where d l))) (sym (entries_at-objects_of rows at))

pub sum_map : {A B : Type 0} (f : B → ℕ) (g : A → B) (xs : List A) → sum_by f (map g xs) ≡ sum_by (λ x. f (g x)) xs
sum_map f g [] = refl
sum_map f g (x ∷ xs) = sum_by-cons f (g x) (map g xs) ∙ ap (λ n. f (g x) + n) (sum_map f g xs) ∙ sym (sum_by-cons (λ x. f (g x)) x xs)

-- over the entries of a key, in whatever order
pub entries_total : (f : Entry → ℕ) (rows : List VersionRow) → sum_by f (entries_of rows) ≡ sum_by (λ v. f (entry_of v)) rows
entries_total f rows = sum_map f entry_of (sort_by newer rows) ∙ sym (sum_by-IsPermutation (λ v. f (entry_of v)) _ _ (IsPermutation-sort_by newer newer_total rows))

-- of a bucket's objects: a size of the entries of each key, that none have too, and that comes to that of the key's rows
pub objects_sized : (f : List Entry → ℕ) → f [] ≡ 0 → (w : VersionRow → ℕ) (rows : List VersionRow) → ((q : Octets) → f (entries_of (at_key q rows)) ≡ sum_by w (at_key q rows)) → total f (objects_of rows) ≡ sum_by w rows
objects_sized f none w rows each = total_is octets f (λ v. v.okey) w (objects_of rows) rows (λ q. ap (λ o. option_map_or f o 0) (get-objects_of rows q) ∙ whole (entries_of (at_key q rows)) ∙ each q)
  where
    whole : (l : List Entry) → option_map_or f (non_empty l) 0 ≡ f l
    whole [] = sym none
    whole (x ∷ xs) = refl

abbrev pub version_size : VersionRow → ℕ
version_size v = entry_size (entry_of v)

pub objects_total : (rows : List VersionRow) → total (sum_by entry_size) (objects_of rows) ≡ sum_by version_size rows
objects_total rows = objects_sized (sum_by entry_size) refl version_size rows (λ q. entries_total entry_size (at_key q rows))

-- in numbers
pub latest_of_seq : (v x : VersionRow) → x.seq < v.seq → is_gt (newer x v) ≡ true
latest_of_seq v x h = ap is_gt (sym (int_cmp_is (pos v.seq) (pos x.seq) Greater (omega (arith, ints))))

-- the rows of a key are never an empty list of entries
pub some_entries : (q : Octets) (r : VersionRow) (rs : List VersionRow) → is_some (non_empty (entries_of (r ∷ rs))) ≡ true
some_entries q r rs = go (sort_by newer rs)
  where
    go : (l : List VersionRow) → is_some (non_empty (map entry_of (insert_sorted newer r l))) ≡ true
    go [] = refl
    go (x ∷ xs) = elim (is_gt (newer r x)) as (λ b. is_some (non_empty (map entry_of (cond b (x ∷ insert_sorted newer r xs) (r ∷ x ∷ xs)))) ≡ true) [ true ↦ refl | false ↦ refl ]
