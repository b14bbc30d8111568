-- The rows of a database that was checked are sound: locks and dates, of each tenant.
use Rattle.std.proofs.Common.{arith, ◌≡◌, ℕ, zero, suc, ◌<◌, ◌≤◌, Bool, true, false, true≢false, ◌&&◌, is_some, List, [], ◌∷◌, ◌++◌, length, map, filter, None, option_map, refl, sym, ap, ◌∙◌, subst}
use Rattle.std.specs.List.{AllByRecursion, list_any}
use Rattle.sqlite.specs.Effect.{Database, IsDatabase}
use Rattle.sqlite.specs.Order.{Row, column}
use Rattle.sqlite.specs.Tree.{Trees}
use Rattle.sqlite_keyed.proofs.ListLemmas.{all_map, all_weaker, all_both, all-filter, filter-map}
use Rattle.sqlite_typed.specs.Columns.{bytes_of}
use Rattle.sqlite_typed.specs.Tests.{bytes_eq}
use Rattle.sqlite_typed.proofs.TestLemmas.{same_bytes}
use Rattle.bh_rows.specs.Form.{typed}
use Rattle.bh_tables.specs.Schema.{Octets, host_schema}
use Rattle.bh_tables.specs.Bodies.{first, resolved, same_name}
use Rattle.bh_tables.specs.Typed.{Totals, totals_of, tables_in, BucketRow, VersionRow, VersionColumns, LockRow, RetainRow, bucket_of, version_of, version_form, lock_of, lock_form, retain_of, retain_form, ref_form, block_form}
use Rattle.bh_view.specs.Grouped.{same_number}
use Rattle.bh_view.specs.Sound.{AreLocks, MayBeDated, AreRetains}
use Rattle.bh_view.specs.View.{rows_of, is_locked, date_in}
use Rattle.bh_view.proofs.FilterLemmas.{filter_both}
use Rattle.bh_stored.specs.Stored.{seen}
use Rattle.bh_stored.specs.declared.stored.Edition.{Edition}
use Rattle.bh_check.specs.Checked.{IsChecked}
use Rattle.bh_check.specs.Holds.{first_two, bucket_name, number_at, bucket_locks, version_dates, Holds}
use Rattle.bh_check.specs.declared.rows.Table.TheVariants as table
use Rattle.bh_check.proofs.BucketNames.{same_bucket, any_same}
use Rattle.bh_check.proofs.Counted.{none_has, some_has_it, any_in, any_map, filter_of_none}
use Rattle.bh_check.proofs.HostIs.{held_is}
use Rattle.bh_check.proofs.OneLemmas.{one_lock, one_retain}
use Rattle.bh_check.proofs.Parents.{locks_owned, retains_owned}
use Rattle.bh_check.proofs.Schemas.{over, kept}
use Rattle.bh_check.proofs.SoundOwned.{all_in}

positive : (n : ℕ) → (n ≡ 0 → ⊥) → 0 < n
positive zero not = absurd (not refl)
positive (suc n) not = omega arith

first_unmapped : {C T : Type 0} (f : C → T) (cs : List C) → first (map f cs) ≡ None → first cs ≡ None
first_unmapped f [] h = refl
first_unmapped f (c ∷ cs) h = absurd (cc)

module _ (edition : Edition) (digest : Octets → Octets) (trees : Trees) (c : IsChecked edition digest (seen edition trees)) (sound : IsDatabase (record { schema = over edition; trees = trees })) (t : Octets) where
  abbrev d : Trees
  d = seen edition trees

  abbrev db : Database
  db = record { schema = host_schema; trees = d }

  abbrev sums : Totals
  sums = kept edition (totals_of (tables_in db))

  abbrev buckets : List BucketRow
  buckets = (rows_of t (tables_in db)).buckets

  abbrev shown : VersionColumns → VersionRow
  shown = resolved (typed ref_form (d 12)) (typed block_form (d 10))

  abbrev versions : List VersionRow
  versions = (rows_of t (tables_in db)).versions

  abbrev locks : List LockRow
  locks = (rows_of t (tables_in db)).locks

  abbrev retains : List RetainRow
  retains = (rows_of t (tables_in db)).retains

  abbrev my_bucket : BucketRow → Bool
  my_bucket b = bytes_eq b.tenant t

  abbrev mine : VersionRow → Bool
  mine v = bytes_eq v.tenant t

  abbrev my_lock : LockRow → Bool
  my_lock l = bytes_eq l.tenant t

  abbrev my_date : RetainRow → Bool
  my_date r = bytes_eq r.tenant t

  -- ---- locks are those that were counted

  locked_is : (name : Octets) → is_locked name locks ≡ list_any (λ r. same_name (bucket_name 2 r) (t ++ name, length t)) (d 26)
  locked_is name =
      any_in my_lock (λ (l : LockRow). bytes_eq l.bucket name) (map lock_of (d 26))
      ∙ any_map lock_of (λ (l : LockRow). my_lock l && bytes_eq l.bucket name) (d 26)
      ∙ any_same (λ r. bytes_eq (bytes_of (column r 1)) t && bytes_eq (bytes_of (column r 2)) name) (λ r. same_name (bucket_name 2 r) (t ++ name, length t))
      (λ r. sym (same_bucket (bytes_of (column r 1)) (bytes_of (column r 2)) t name)) (d 26)

  some_locked : (name : Octets) → 0 < bucket_locks d (t ++ name, length t) → is_locked name locks ≡ true
  some_locked name more = locked_is name ∙ some_has_it (bucket_name 2) (d 26) (t ++ name, length t) more

  locked_counts : (name : Octets) → is_locked name locks ≡ true → 0 < bucket_locks d (t ++ name, length t)
  locked_counts name locked = positive (bucket_locks d (t ++ name, length t)) (λ none. true≢false (sym locked ∙ locked_is name ∙ none_has (bucket_name 2) (d 26) (t ++ name, length t) none))

  -- ---- a locked bucket is Enabled

  abbrev IsEnabled : BucketRow → Type 0
  IsEnabled b = is_locked b.bucket locks ≡ true → b.state ≡ 1

  enabled_is : (r : Row) → Holds d c.latest table.Locked r → my_bucket (bucket_of r) ≡ true → IsEnabled (bucket_of r)
  enabled_is r h is locked =
      h.enabled (subst (λ x. 0 < bucket_locks d (x ++ bytes_of (column r 2), length x)) (sym (same_bytes (bytes_of (column r 1)) t is)) (locked_counts (bytes_of (column r 2)) locked))

  pub locks_are : AreLocks buckets locks
  locks_are = record {
    one = λ name. subst (λ l. length l ≤ 1) (sym (filter_both my_lock (λ l. bytes_eq l.bucket name) (typed lock_form (d 26)))) (one_lock sums trees edition sound (held_is edition digest trees c) t name);
    owned = λ name none. filter_both my_lock (λ l. bytes_eq l.bucket name) (typed lock_form (d 26))
        ∙ locks_owned sums trees edition sound (held_is edition digest trees c) t name (sym (ap first (filter_both my_bucket (λ b. bytes_eq b.bucket name) (tables_in db).buckets)) ∙ none);
    enabled = all_in IsEnabled my_bucket (map bucket_of (d 5)) (all_map (λ b. my_bucket b ≡ true → IsEnabled b) bucket_of (d 5)
        (all_weaker (Holds d c.latest table.Locked) (λ r. my_bucket (bucket_of r) ≡ true → IsEnabled (bucket_of r)) enabled_is (d 5) c.dates.locked));
  }

  -- ---- dates are those that were counted

  dates_at : (seq : ℕ) → filter (λ (r : RetainRow). same_number r.seq seq) retains ≡ map retain_of (filter (λ r. same_name (first_two r) (t, seq)) (d 28))
  dates_at seq = filter_both my_date (λ (r : RetainRow). same_number r.seq seq) (map retain_of (d 28)) ∙ filter-map (λ (r : RetainRow). my_date r && same_number r.seq seq) retain_of (d 28)

  dated_counts : (v : VersionRow) → is_some (date_in retains v) ≡ true → 0 < version_dates d (t, v.seq)
  dated_counts v dated = positive (version_dates d (t, v.seq)) (λ none.
      let gone = dates_at v.seq ∙ ap (map retain_of) (filter_of_none (λ r. same_name (first_two r) (t, v.seq)) (d 28) (none_has first_two (d 28) (t, v.seq) none)) in
      true≢false (sym dated ∙ ap (λ rows. is_some (option_map (λ (r : RetainRow). r.until) (first rows))) gone))

  -- ---- a version with a date may have one

  abbrev IsAllowed : VersionRow → Type 0
  IsAllowed v = is_some (date_in retains v) ≡ true → MayBeDated locks v

  abbrev HoldsBoth : Row → Type 0
  HoldsBoth r = Holds d c.latest table.Dated r × Holds d c.latest table.Kept r

  hold_both : AllByRecursion HoldsBoth (d 7)
  hold_both = all_both (Holds d c.latest table.Dated) (Holds d c.latest table.Kept) HoldsBoth (λ r a b. (a, b)) (d 7) c.dates.dated c.dates.kept

  allowed_is : (r : Row) → HoldsBoth r → mine (shown (version_of r)) ≡ true → IsAllowed (shown (version_of r))
  allowed_is r h is dated =
      let own = same_bytes (bytes_of (column r 1)) t is in
      let more = subst (λ x. 0 < version_dates d (x, number_at 2 r)) (sym own) (dated_counts (shown (version_of r)) dated) in
      record {
        numbered = h.0.numbered more;
        content = h.0.content more;
        locked = some_locked (bytes_of (column r 3)) (subst (λ x. 0 < bucket_locks d (x ++ bytes_of (column r 3), length x)) own (h.1.locked more));
      }

  pub retains_are : AreRetains versions locks retains
  retains_are = record {
    each = all-filter (λ (r : RetainRow). r.until ≤ 251_000_000_000) my_date (typed retain_form (d 28)) (all_map (λ (r : RetainRow). r.until ≤ 251_000_000_000) retain_of (d 28) c.dates.retains);
    one = λ seq. subst (λ l. length l ≤ 1) (sym (filter_both my_date (λ r. same_number r.seq seq) (typed retain_form (d 28)))) (one_retain sums trees edition sound (held_is edition digest trees c) t seq);
    owned = λ seq none. filter_both my_date (λ r. same_number r.seq seq) (typed retain_form (d 28))
        ∙ retains_owned sums trees edition sound (held_is edition digest trees c) t seq
        (first_unmapped shown (filter (λ x. mine (shown x) && same_number (shown x).seq seq) (typed version_form (d 7)))
        (sym (ap first (filter_both mine (λ v. same_number v.seq seq) (tables_in db).versions ∙ filter-map (λ v. mine v && same_number v.seq seq) shown (typed version_form (d 7)))) ∙ none));
    kept = all_in IsAllowed mine (map shown (map version_of (d 7)))
        (all_map (λ v. mine v ≡ true → IsAllowed v) shown (map version_of (d 7)) (all_map (λ x. mine (shown x) ≡ true → IsAllowed (shown x)) version_of (d 7)
        (all_weaker HoldsBoth (λ r. mine (shown (version_of r)) ≡ true → IsAllowed (shown (version_of r))) allowed_is (d 7) hold_both)));
  }
