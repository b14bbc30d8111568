-- A row of `locks` added or taken out: a bucket is locked, or no longer so.
use Rattle.std.proofs.Common.{◌≡◌, ◌≢◌, ℕ, zero, suc, Bool, true, false, true≢false, cond, not, ◌&&◌, ◌||◌, List, [], ◌∷◌, ◌++◌, filter, Some, option_map, refl, sym, ap, ◌∙◌, subst}
use Rattle.std.specs.FinMap.{get, insert}
use Rattle.std.specs.List.{AllByRecursion, list_any}
use Rattle.std.proofs.lemmas.Bool.{and_parts}
use Rattle.sqlite_keyed.specs.Lists.{delete_where}
use Rattle.sqlite_keyed.proofs.ListLemmas.{all_weaker, all-filter, filter_none, none_from_any}
use Rattle.sqlite_typed.specs.Tests.{bytes_eq}
use Rattle.bh_types.specs.declared.bucket_state.BucketState.TheVariants.{Enabled}
use Rattle.bh_model.specs.FinMaps.{set_at}
use Rattle.bh_model.specs.State.{Octets, Bucket, State}
use Rattle.bh_model.specs.Operations.{with_bucket}
use Rattle.bh_tables.specs.Typed.{BucketRow, VersionRow, LockRow, Tables}
use Rattle.bh_tables.specs.Shown.{is_lock}
use Rattle.bh_view.specs.Becomes.{Becomes}
use Rattle.bh_view.specs.Grouped.{first, HasUnique}
use Rattle.bh_view.specs.Sound.{AreLocks, MayBeDated, AreRetains, AreSound, IsSound}
use Rattle.bh_view.specs.View.{TenantRows, mode_of, rows_of, named, in_bucket, is_locked, bucket_shown, buckets_of, view, latest_of}
use Rattle.bh_view.proofs.BucketLemmas.{bucket_row}
use Rattle.bh_view.proofs.DatedLemmas.{empty_any}
use Rattle.bh_view.proofs.FactLemmas.{all_first, each_first, refers_deleted, refers_pushed, unique_deleted, unique_pushed}
use Rattle.bh_view.proofs.FilterLemmas.{first_passes, none_some, same_Some}
use Rattle.bh_view.proofs.GroupedLemmas.{grouped_changed, is_itself, is_other}
use Rattle.bh_view.proofs.Keys.{octets}
use Rattle.bh_view.proofs.OwnLemmas.{mine_deleted, mine_pushed, others_deleted, others_pushed, rows_at, within_own}
use Rattle.bh_view.proofs.ViewLemmas.{becomes, buckets_shown, own_row, view_is}

abbrev own : LockRow → Octets
own l = l.tenant

abbrev its : LockRow → Octets
its l = l.bucket

-- ---- whether a bucket is locked

any_pushed : {T : Type 0} (p : T → Bool) (xs : List T) (x : T) → list_any p (xs ++ x ∷ []) ≡ (list_any p xs || p x)
any_pushed p [] x = elim (p x) as (λ b. (b || false) ≡ b) [ true ↦ refl | false ↦ refl ]
any_pushed p (y ∷ ys) x = elim (p y) as (λ b. (b || list_any p (ys ++ x ∷ [])) ≡ ((b || list_any p ys) || p x)) [ true ↦ refl | false ↦ any_pushed p ys x ]

-- by other rows than those that are taken out
pub any_left : {T : Type 0} (p gone : T → Bool) → ((x : T) → p x ≡ true → gone x ≡ false) → (xs : List T) → list_any p (delete_where gone xs) ≡ list_any p xs
any_left p gone apart [] = refl
any_left p gone apart (x ∷ xs) = elim (gone x) as (λ b. gone x ≡ b → list_any p (cond (not b) (x ∷ delete_where gone xs) (delete_where gone xs)) ≡ (p x || list_any p xs)) [
  | true ↦ λ e. any_left p gone apart xs
      ∙ elim (p x) as (λ b. p x ≡ b → list_any p xs ≡ (b || list_any p xs)) [ true ↦ λ h. absurd (true≢false (sym e ∙ apart x h)) | false ↦ λ h. refl ] refl
  | false ↦ λ e. ap (λ b. p x || b) (any_left p gone apart xs)
] refl

-- by none of those
any_deleted : {T : Type 0} (p : T → Bool) (xs : List T) → list_any p (delete_where p xs) ≡ false
any_deleted p [] = refl
any_deleted p (x ∷ xs) = elim (p x) as (λ b. p x ≡ b → list_any p (cond (not b) (x ∷ delete_where p xs) (delete_where p xs)) ≡ false) [
  | true ↦ λ e. any_deleted p xs
  | false ↦ λ e. ap (λ b. b || list_any p (delete_where p xs)) e ∙ any_deleted p xs
] refl

pub any_both : {T : Type 0} (p q : T → Bool) (xs : List T) → list_any q (filter p xs) ≡ list_any (λ x. p x && q x) xs
any_both p q [] = refl
any_both p q (x ∷ xs) = elim (p x) as (λ b. list_any q (cond b (x ∷ filter p xs) (filter p xs)) ≡ ((b && q x) || list_any (λ y. p y && q y) xs)) [
  | true ↦ ap (λ b. q x || b) (any_both p q xs)
  | false ↦ any_both p q xs
]

module _ (locks : List LockRow) where
  pub locked_more : (l : LockRow) (q : Octets) → is_locked q locks ≡ true → is_locked q (locks ++ l ∷ []) ≡ true
  locked_more l q locked = any_pushed (λ (x : LockRow). bytes_eq x.bucket q) locks l ∙ ap (λ b. b || bytes_eq l.bucket q) locked

  locked_here : (l : LockRow) → is_locked l.bucket (locks ++ l ∷ []) ≡ true
  locked_here l = any_pushed (λ (x : LockRow). bytes_eq x.bucket l.bucket) locks l ∙ ap (λ b. is_locked l.bucket locks || b) (is_itself octets l.bucket) ∙ or_true (is_locked l.bucket locks)
    where
      or_true : (b : Bool) → (b || true) ≡ true
      or_true true = refl
      or_true false = refl

  locked_other : (l : LockRow) (q : Octets) → l.bucket ≢ q → is_locked q (locks ++ l ∷ []) ≡ is_locked q locks
  locked_other l q apart = any_pushed (λ (x : LockRow). bytes_eq x.bucket q) locks l ∙ ap (λ b. is_locked q locks || b) (is_other octets l.bucket q apart) ∙ or_false (is_locked q locks)
    where
      or_false : (b : Bool) → (b || false) ≡ b
      or_false true = refl
      or_false false = refl

  locked_without : (b q : Octets) → b ≢ q → is_locked q (delete_where (λ (l : LockRow). bytes_eq l.bucket b) locks) ≡ is_locked q locks
  locked_without b q apart = any_left (λ (l : LockRow). bytes_eq l.bucket q) (λ l. bytes_eq l.bucket b) (λ l here. is_other octets l.bucket b (λ there. apart (sym there ∙ (octets.decides l.bucket q).0 here))) locks

  unlocked_here : (b : Octets) → is_locked b (delete_where (λ (l : LockRow). bytes_eq l.bucket b) locks) ≡ false
  unlocked_here b = any_deleted (λ (l : LockRow). bytes_eq l.bucket b) locks

-- ---- the bucket of a lock

enabled_number : (n : ℕ) → mode_of n ≡ Enabled → n ≡ 1
enabled_number zero e = absurd (cc e)
enabled_number (suc zero) e = refl
enabled_number (suc (suc n)) e = absurd (cc e)

module _ (rows : TenantRows) (b : Octets) (B : Bucket) (at : get (buckets_of rows) b ≡ Some B) where
  -- locks of one bucket change
  locks_shown : (locks : List LockRow) (l : Bool) → ((q : Octets) → b ≢ q → is_locked q locks ≡ is_locked q rows.locks) → is_locked b locks ≡ l → buckets_of (record rows { locks = locks }) ≡ insert (buckets_of rows) b (record B { locked = l })
  locks_shown locks l others here =
      let after : TenantRows = record rows { locks = locks } in
      let row = bucket_row rows b B at in
      grouped_changed octets (λ (r : BucketRow). r.bucket) (λ (r : BucketRow). r.bucket) (λ q rs. option_map (bucket_shown rows q) (first rs)) (λ q rs. option_map (bucket_shown after q) (first rs)) (λ _. refl) (λ _. refl) rows.buckets rows.buckets b
      (λ q apart i. option_map (λ r. record (bucket_shown rows q r) { locked = others q apart i }) (first (named q rows.buckets)))
      ∙ ap (λ o. set_at (buckets_of rows) b (option_map (bucket_shown after b) o)) row.1
      ∙ (λ i. insert (buckets_of rows) b (record (bucket_shown rows b row.0) { locked = here i }))
      ∙ ap (λ x. insert (buckets_of rows) b (record x { locked = l })) row.2

  -- the rows of its name are its row
  one_named : HasUnique bytes_eq (λ (r : BucketRow). r.bucket) rows.buckets → AllByRecursion (λ (r : BucketRow). r.bucket ≡ b → bucket_shown rows b r ≡ B) rows.buckets
  one_named one = all_weaker _ _ (λ r only same. ap (bucket_shown rows b) (same_Some (sym only ∙ ap (λ q. first (named q rows.buckets)) same ∙ (bucket_row rows b B at).1)) ∙ (bucket_row rows b B at).2) rows.buckets (each_first octets (λ (r : BucketRow). r.bucket) rows.buckets one)

-- ---- what is seen of it

module _ (tables : Tables) (t : Octets) (s : State) (sound : IsSound tables) (is : view tables t ≡ Some s) (b : Octets) (B : Bucket) (at : get s.buckets b ≡ Some B) where
  seen_there : get (buckets_of (rows_of t tables)) b ≡ Some B
  seen_there = ap (λ (x : State). get x.buckets b) (own_row tables t s is).2 ∙ at

  -- by one query of the locks alone
  pub lock_shown : B.locked ≡ list_any (is_lock t b) tables.locks
  lock_shown = ap (λ (x : Bucket). x.locked) (sym (bucket_row (rows_of t tables) b B seen_there).2) ∙ any_both (λ (l : LockRow). bytes_eq l.tenant t) (λ l. bytes_eq l.bucket b) tables.locks

  pub locked_enabled : B.locked ≡ true → B.mode ≡ Enabled
  locked_enabled locked =
      let mine = rows_of t tables in
      let row = bucket_row mine b B seen_there in
      let named_so : row.0.bucket ≡ b = (octets.decides row.0.bucket b).0 (first_passes (λ (r : BucketRow). bytes_eq r.bucket b) mine.buckets row.0 row.1) in
      let rule : is_locked row.0.bucket mine.locks ≡ true → row.0.state ≡ 1 =
      all_first _ (named b mine.buckets) row.0 row.1 (all-filter (λ (r : BucketRow). is_locked r.bucket mine.locks ≡ true → r.state ≡ 1) (λ (r : BucketRow). bytes_eq r.bucket b) mine.buckets (sound.tenants t).locks.enabled) in
      ap (λ (x : Bucket). x.mode) (sym row.2) ∙ ap mode_of (rule (ap (λ q. is_locked q mine.locks) named_so ∙ ap (λ (x : Bucket). x.locked) row.2 ∙ locked))

-- ---- the statements

module _ (old new : Tables) (t : Octets) (s : State) (sound : IsSound old) (is : view old t ≡ Some s) (b : Octets) (B : Bucket) (at : get s.buckets b ≡ Some B) where
  there_before : get (buckets_of (rows_of t old)) b ≡ Some B
  there_before = ap (λ (x : State). get x.buckets b) (own_row old t s is).2 ∙ at

  locks_become : (locks mine : List LockRow) (l : Bool) → ((u : Octets) → u ≢ t → rows_at own u locks ≡ rows_at own u old.locks) → rows_at own t locks ≡ mine
      → ((q : Octets) → b ≢ q → is_locked q mine ≡ is_locked q (rows_of t old).locks) → is_locked b mine ≡ l → AreLocks (rows_of t old).buckets mine → AreRetains (rows_of t old).versions mine (rows_of t old).retains
      → new ≡ record old { locks = locks } → Becomes t (Some (with_bucket b (record B { locked = l }) s)) old new
  locks_become locks mine l others here apart its_own good dated e =
      let all = sound.tenants t in
      let after : Tables = record old { locks = locks } in
      subst (Becomes t (Some (with_bucket b (record B { locked = l }) s)) old) (sym e)
      (becomes t _ old after sound refl refl refl (λ u other i. record (rows_of u old) { locks = others u other i })
      (buckets_shown (rows_of t old) s (sym (view_is old t) ∙ is) (rows_of t after) (λ m. insert m b (record B { locked = l })) refl refl
      (ap (λ x. buckets_of (record (rows_of t old) { locks = x })) here ∙ locks_shown (rows_of t old) b B there_before mine l apart its_own))
      (subst (λ x. AreSound (latest_of old) (record (rows_of t old) { locks = x })) (sym here) (record { tenants = all.tenants; keys = all.keys; buckets = all.buckets; versions = all.versions; uploads = all.uploads; parts = all.parts; locks = good; retains = dated })))

  -- an Enabled bucket, which is not locked, is locked
  pub lock_added : B.mode ≡ Enabled → B.locked ≡ false → new ≡ record old { locks = old.locks ++ record { tenant = t; bucket = b } ∷ [] } → Becomes t (Some (with_bucket b (record B { locked = true }) s)) old new
  lock_added enabled unlocked =
      let mine = rows_of t old in
      let all = sound.tenants t in
      let l : LockRow = record { tenant = t; bucket = b } in
      let row = bucket_row mine b B there_before in
      let none : is_locked b mine.locks ≡ false = ap (λ (x : Bucket). x.locked) row.2 ∙ unlocked in
      locks_become (old.locks ++ l ∷ []) (mine.locks ++ l ∷ []) true (others_pushed own old.locks l) (mine_pushed own old.locks l) (locked_other mine.locks l) (locked_here mine.locks l)
      (record {
        one = unique_pushed octets its mine.locks l all.locks.one (filter_none _ mine.locks (none_from_any _ mine.locks none));
        owned = refers_pushed octets (λ (r : BucketRow). r.bucket) its mine.buckets mine.locks l all.locks.owned (λ gone. none_some (sym gone ∙ row.1));
        enabled = all_enabled mine.buckets (one_named mine b B there_before all.buckets.one) all.locks.enabled;
      })
      (record { each = all.retains.each; one = all.retains.one; owned = all.retains.owned; kept = all_weaker _ _ (λ v may dated. let was = may dated in record { numbered = was.numbered; content = was.content; locked = locked_more mine.locks l v.bucket was.locked }) mine.versions all.retains.kept })
    where
      all_enabled : (rows : List BucketRow) → AllByRecursion (λ (r : BucketRow). r.bucket ≡ b → bucket_shown (rows_of t old) b r ≡ B) rows → AllByRecursion (λ (r : BucketRow). is_locked r.bucket (rows_of t old).locks ≡ true → r.state ≡ 1) rows
          → AllByRecursion (λ (r : BucketRow). is_locked r.bucket ((rows_of t old).locks ++ record { tenant = t; bucket = b } ∷ []) ≡ true → r.state ≡ 1) rows
      all_enabled [] only was = tt
      all_enabled (r ∷ rows) only was = (
        elim (bytes_eq b r.bucket) as (λ c. bytes_eq b r.bucket ≡ c → is_locked r.bucket ((rows_of t old).locks ++ record { tenant = t; bucket = b } ∷ []) ≡ true → r.state ≡ 1) [
          | true ↦ λ same _. enabled_number r.state (ap (λ (x : Bucket). x.mode) (only.0 (sym ((octets.decides b r.bucket).0 same))) ∙ enabled)
          | false ↦ λ apart locked. was.0 (sym (locked_other (rows_of t old).locks (record { tenant = t; bucket = b }) r.bucket (λ e. true≢false (sym ((octets.decides b r.bucket).1 e) ∙ apart))) ∙ locked)
        ] refl,
        all_enabled rows only.1 was.1,
      )

  -- a bucket without versions is no longer locked, if it was
  pub lock_removed : in_bucket b (rows_of t old).versions ≡ [] → new ≡ record old { locks = delete_where (is_lock t b) old.locks } → Becomes t (Some (with_bucket b (record B { locked = false }) s)) old new
  lock_removed empty =
      let mine = rows_of t old in
      let all = sound.tenants t in
      let test = λ (l : LockRow). bytes_eq l.bucket b in
      locks_become (delete_where (is_lock t b) old.locks) (delete_where test mine.locks) false (others_deleted own t (is_lock t b) (λ l h. within_own own t l (and_parts _ _ h).0) old.locks) (mine_deleted own t test old.locks)
      (locked_without mine.locks b) (unlocked_here mine.locks b)
      (record {
        one = unique_deleted octets its mine.locks test all.locks.one;
        owned = refers_deleted octets (λ (r : BucketRow). r.bucket) its mine.buckets mine.locks test all.locks.owned;
        enabled = all_weaker (λ (r : BucketRow). is_locked r.bucket mine.locks ≡ true → r.state ≡ 1) (λ (r : BucketRow). is_locked r.bucket (delete_where test mine.locks) ≡ true → r.state ≡ 1) (λ r was locked. was (fewer r.bucket locked)) mine.buckets all.locks.enabled;
      })
      (record { each = all.retains.each; one = all.retains.one; owned = all.retains.owned; kept = still _ mine.versions (none_from_any _ mine.versions (empty_any (λ (v : VersionRow). bytes_eq v.bucket b) mine.versions empty)) all.retains.kept })
    where
      rest : List LockRow
      rest = delete_where (λ (l : LockRow). bytes_eq l.bucket b) (rows_of t old).locks

      fewer : (q : Octets) → is_locked q rest ≡ true → is_locked q (rows_of t old).locks ≡ true
      fewer q locked = elim (bytes_eq b q) as (λ c. bytes_eq b q ≡ c → is_locked q (rows_of t old).locks ≡ true) [
        | true ↦ λ same. absurd (true≢false (sym locked ∙ subst (λ z. is_locked z rest ≡ false) ((octets.decides b q).0 same) (unlocked_here (rows_of t old).locks b)))
        | false ↦ λ apart. sym (locked_without (rows_of t old).locks b q (λ e. true≢false (sym ((octets.decides b q).1 e) ∙ apart))) ∙ locked
      ] refl

      still : (P : VersionRow → Type 0) (versions : List VersionRow) → AllByRecursion (λ (v : VersionRow). bytes_eq v.bucket b ≡ false) versions → AllByRecursion (λ v. P v → MayBeDated (rows_of t old).locks v) versions → AllByRecursion (λ v. P v → MayBeDated rest v) versions
      still P [] apart was = tt
      still P (v ∷ versions) apart was = (
        λ p. let may = was.0 p in record {
          numbered = may.numbered;
          content = may.content;
          locked = locked_without (rows_of t old).locks b v.bucket (λ e. true≢false (sym ((octets.decides v.bucket b).1 (sym e)) ∙ apart.0)) ∙ may.locked;
        },
        still P versions apart.1 was.1,
      )
