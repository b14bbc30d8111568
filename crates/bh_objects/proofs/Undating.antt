-- A version that goes with its date: what was read of the date, and the rows that went, as changes of the tenant's state.
use Rattle.std.proofs.Common.{◌≡◌, ℕ, zero, suc, ◌≤◌, Bool, true, false, true≢false, cond, ◌&&◌, List, [], ◌∷◌, length, find, filter, Option, Some, None, option_map, option_and_then, Result, Ok, Err, is_ok, refl, sym, ap, ◌∙◌, subst, arith}
use Rattle.std.specs.FinMap.{get}
use Rattle.std.specs.List.{AllByRecursion}
use Rattle.std.proofs.lemmas.Bool.{and_parts}
use Rattle.sqlite_keyed.specs.Lists.{delete_where}
use Rattle.sqlite_keyed.proofs.ListLemmas.{all_weaker}
use Rattle.sqlite_typed.specs.Tests.{bytes_eq}
use Rattle.bh_types.specs.Outcomes.{◌>>=◌, require}
use Rattle.bh_types.specs.declared.id.VersionId.{VersionId}
use Rattle.bh_types.specs.declared.id.VersionId.TheVariants.{Null, Numbered}
use Rattle.bh_types.specs.declared.refusal.Refusal.{Refusal}
use Rattle.bh_types.specs.declared.refusal.Refusal.TheVariants.{AccessDenied}
use Rattle.bh_types.specs.declared.wanted.Wanted.TheVariants.{Named}
use Rattle.bh_model.specs.Entries.{without}
use Rattle.bh_model.specs.FinMaps.{set_at}
use Rattle.bh_model.specs.Operations.{listed, with_bucket, with_entries}
use Rattle.bh_model.specs.Retention.{date_of, undated, without_date}
use Rattle.bh_model.specs.State.{Octets, State, Bucket}
use Rattle.bh_tables.specs.Typed.{VersionRow, RetainRow, Tables}
use Rattle.bh_tables.specs.Shown.{is_entry, is_retain, is_version}
use Rattle.bh_view.specs.Becomes.{Becomes}
use Rattle.bh_view.specs.Bodies.{HasBodies}
use Rattle.bh_view.specs.Grouped.{first, same_number}
use Rattle.bh_view.specs.Sound.{IsSound}
use Rattle.bh_view.specs.View.{TenantRows, rows_of, in_bucket, id_of, buckets_of, version_name, date_in, view}
use Rattle.bh_view.specs.Wanted.{wanted_row}
use Rattle.bh_view.proofs.BucketLemmas.{bucket_row}
use Rattle.bh_view.proofs.DateChanges.{date_found, date_shown, date_removed}
use Rattle.bh_view.proofs.FilterLemmas.{none_some, same_Some, first_passes, filter_both, delete_all, delete_none}
use Rattle.bh_view.proofs.FactLemmas.{none_first}
use Rattle.bh_view.proofs.FindLemmas.{first_find}
use Rattle.bh_view.proofs.GroupedLemmas.{get_here, get-grouped, set_at_same}
use Rattle.bh_view.proofs.Keys.{octets, numbers, version_names}
use Rattle.bh_view.proofs.PutLemmas.{bucket_again}
use Rattle.bh_view.proofs.VersionChanges.{one_version, version_removed}
use Rattle.bh_view.proofs.ViewLemmas.{own_row, becomes_then}
use Rattle.bh_view.proofs.WantedLemmas.{named_row, no_row, wanted_entry}
use Rattle.bh_schema.specs.Rows.{until_in}
use Rattle.bh_schema.specs.Written.{bytes_of_id}
use Rattle.bh_objects.specs.Dates.{date_at, with_date as with_date_row}
use Rattle.bh_objects.specs.Writes.{without_entry}
use Rattle.bh_objects.proofs.Dropping.{Leaves, entry_gone}
use Rattle.bh_objects.proofs.Written.{IsHostOf, becomes_so, left_written, whole_host}

-- the date of a row that was found
abbrev pub row_date : Octets → Option VersionRow → Tables → Option ℕ
row_date t row tables = option_and_then (λ (v : VersionRow). date_at t v.seq tables) row

-- taking a date away is no change where there is none
pub no_date : (k : Octets) (id : VersionId) (B : Bucket) → date_of k id B ≡ None → undated k id B.dates ≡ B.dates
no_date k Null B none = refl
no_date k (Numbered n) B none = ap (set_at B.dates (k, n)) (sym none) ∙ set_at_same version_names B.dates (k, n)

-- what a row of a key's number is
pub record IsNamed (t b k : Octets) (n : ℕ) (v : VersionRow) : Type 0 where
  pub bucket : v.bucket ≡ b
  pub key : v.okey ≡ k
  pub id : v.id ≡ n

pub row_named : (t b k : Octets) (n : ℕ) (versions : List VersionRow) (v : VersionRow) → find (is_version t b k n) versions ≡ Some v → IsNamed t b k n v
row_named t b k n versions v there =
    let passes = first_passes (is_version t b k n) versions v (first_find (is_version t b k n) versions ∙ there) in
    let in_tenant = and_parts (bytes_eq v.tenant t) (bytes_eq v.bucket b && (bytes_eq v.okey k && same_number v.id n)) passes in
    let here = and_parts (bytes_eq v.bucket b) (bytes_eq v.okey k && same_number v.id n) in_tenant.1 in
    let both = and_parts (bytes_eq v.okey k) (same_number v.id n) here.1 in
    record { bucket = (octets.decides v.bucket b).0 here.0; key = (octets.decides v.okey k).0 both.0; id = (numbers.decides v.id n).0 both.1 }

-- where one row at most passes a test
module _ {T : Type 0} (p : T → Bool) where
  none_pass : (r : T) (xs : List T) → filter p xs ≡ [] → AllByRecursion (λ x. p x ≡ true → x ≡ r) xs
  none_pass r [] none = tt
  none_pass r (x ∷ xs) none = elim (p x) as (λ b. cond b (x ∷ filter p xs) (filter p xs) ≡ [] → (b ≡ true → x ≡ r) × AllByRecursion (λ x. p x ≡ true → x ≡ r) xs) [
    | true ↦ λ some. absurd (none_some (sym (ap first some)))
    | false ↦ λ rest. (λ e. absurd (true≢false (sym e)), none_pass r xs rest)
  ] none

  pub only_one : (r : T) (xs : List T) → length (filter p xs) ≤ 1 → first (filter p xs) ≡ Some r → AllByRecursion (λ x. p x ≡ true → x ≡ r) xs
  only_one r [] short there = tt
  only_one r (x ∷ xs) short there = elim (p x) as (λ b. length (cond b (x ∷ filter p xs) (filter p xs)) ≤ 1 → first (cond b (x ∷ filter p xs) (filter p xs)) ≡ Some r → (b ≡ true → x ≡ r) × AllByRecursion (λ x. p x ≡ true → x ≡ r) xs) [
    | true ↦ λ short there. (λ _. same_Some there, none_pass r xs (empty (filter p xs) short))
    | false ↦ λ short there. (λ e. absurd (true≢false (sym e)), only_one r xs short there)
  ] short there
    where
      empty : (l : List T) → length (x ∷ l) ≤ 1 → l ≡ []
      empty [] short = refl
      empty (y ∷ l) short = absurd (omega (arith, short))

-- ---- whether a version may go

abbrev goes_then : Option ℕ → Bool → Result (Option ℕ) Refusal
goes_then date goes = require goes AccessDenied >>= (λ _. Ok date)

abbrev date_or : Result (Option ℕ) Refusal → Option ℕ → Option ℕ
date_or (Ok date) other = date
date_or (Err x) other = other

abbrev refusal_or : Result (Option ℕ) Refusal → Refusal → Refusal
refusal_or (Ok date) other = other
refusal_or (Err x) other = x

pub may_if : (date present : Option ℕ) (goes : Bool) → goes_then date goes ≡ Ok present → (goes ≡ true) × (date ≡ present)
may_if date present true e = (refl, ap (λ r. date_or r present) e)
may_if date present false e = absurd (true≢false (sym (ap is_ok e)))

pub may_not : (date : Option ℕ) (x : Refusal) (goes : Bool) → goes_then date goes ≡ Err x → (goes ≡ false) × (AccessDenied ≡ x)
may_not date x true e = absurd (true≢false (ap is_ok e))
may_not date x false e = (refl, ap (λ r. refusal_or r x) e)

-- ---- the date of a key's id

module _ (old : Tables) (t : Octets) (sound : IsSound old) (s : State) (is : view old t ≡ Some s) (b k : Octets) (B : Bucket) (at : get s.buckets b ≡ Some B) where
  abbrev mine : TenantRows
  mine = rows_of t old

  -- of a row that is there
  row_shown : (n : ℕ) (v : VersionRow) → find (is_version t b k n) old.versions ≡ Some v → date_of k (id_of n) B ≡ date_at t v.seq old
  row_shown n v there =
      let its = row_named t b k n old.versions v there in
      let seq = wanted_entry old t sound b k (Named (id_of n)) v (named_row t b k n old.versions ∙ there) in
      (λ i. date_of (sym its.key i) (id_of (sym its.id i)) B) ∙ date_shown old t sound v seq s is B (subst (λ q. get s.buckets q ≡ Some B) (sym its.bucket) at) ∙ date_found old t sound v seq

  -- by the rows of its number
  number_shown : (n : ℕ) → get B.dates (k, n) ≡ option_and_then (date_in mine.retains) (first (filter (is_version t b k n) old.versions))
  number_shown n =
      let here : get (buckets_of mine) b ≡ Some B = ap (λ (x : State). get x.buckets b) (own_row old t s is).2 ∙ at in
      ap (λ (x : Bucket). get x.dates (k, n)) (sym (bucket_row mine b B here).2)
      ∙ get-grouped version_names version_name (λ _ rows. option_and_then (date_in mine.retains) (first rows)) (λ _. refl) (in_bucket b mine.versions) (k, n)
      ∙ ap (λ l. option_and_then (date_in mine.retains) (first l)) (sym (filter_both (λ (x : VersionRow). bytes_eq x.okey k) (λ x. same_number x.id n) (in_bucket b mine.versions)) ∙ one_version t b k n old.versions)

  none_shown : (n : ℕ) → find (is_version t b k n) old.versions ≡ None → get B.dates (k, n) ≡ None
  none_shown n none = number_shown n ∙ ap (option_and_then (date_in mine.retains)) (first_find (is_version t b k n) old.versions ∙ none)

  of_number : (n : ℕ) (o : Option VersionRow) → find (is_version t b k n) old.versions ≡ o → date_of k (id_of n) B ≡ row_date t o old
  of_number zero None none = refl
  of_number (suc n) None none = none_shown (suc n) none
  of_number n (Some v) there = row_shown n v there

  by_number : (n : ℕ) → date_of k (id_of n) B ≡ row_date t (wanted_row t b k (Named (id_of n)) old.versions) old
  by_number n = of_number n (find (is_version t b k n) old.versions) refl ∙ ap (λ o. row_date t o old) (sym (named_row t b k n old.versions))

  -- no version has the number 0, and `null` has no date
  zero_shown : (o : Option VersionRow) → find (is_version t b k 0) old.versions ≡ o → get B.dates (k, 0) ≡ None
  zero_shown None none = none_shown 0 none
  zero_shown (Some v) there =
      let its = row_named t b k 0 old.versions v there in
      let seq = wanted_entry old t sound b k (Named (id_of 0)) v (named_row t b k 0 old.versions ∙ there) in
      number_shown 0 ∙ ap (option_and_then (date_in mine.retains)) (first_find (is_version t b k 0) old.versions ∙ there)
      ∙ date_found old t sound v seq ∙ sym (row_shown 0 v there)

  pub named_date_is : (id : VersionId) → date_of k id B ≡ row_date t (wanted_row t b k (Named id) old.versions) old
  named_date_is Null = by_number 0
  named_date_is (Numbered zero) = zero_shown (find (is_version t b k 0) old.versions) refl ∙ ap (λ o. row_date t o old) (sym (no_row old t sound b k (Numbered 0) (λ n small. not_numbered n)))
    where
      not_numbered : (n : ℕ) → id_of n ≡ Numbered 0 → ⊥
      not_numbered zero e = cc
      not_numbered (suc n) e = let same : suc n ≡ 0 = cc in omega (arith, same)
  named_date_is (Numbered (suc n)) = by_number (suc n)

-- the sizes of entries stay where a date goes
pub sizes_stay : (t b k : Octets) (n seq : ℕ) (date : Option ℕ) (x : Tables) → bytes_of_id t b k n (with_date_row t seq date None x) ≡ bytes_of_id t b k n x
sizes_stay t b k n seq None x = refl
sizes_stay t b k n seq (Some until) x = refl

-- ---- the entry goes

module _ (old : Tables) (host : IsHostOf old) (t : Octets) (s : State) (is : view old t ≡ Some s) (b k : Octets) (B : Bucket) (at : get s.buckets b ≡ Some B) (n : ℕ) (row : VersionRow) (there : find (is_version t b k n) old.versions ≡ Some row) where
  abbrev undated_now : Tables
  undated_now = record old { retains = delete_where (is_retain t row.seq) old.retains }

  -- also where it had no date
  date_gone : (date : Option ℕ) → date_at t row.seq old ≡ date → with_date_row t row.seq date None old ≡ undated_now
  date_gone None none = ap (λ l. record old { retains = l }) (sym (delete_none (is_retain t row.seq) old.retains (none_first _ (first_find (is_retain t row.seq) old.retains ∙ none_date (find (is_retain t row.seq) old.retains) none))))
    where
      none_date : (o : Option RetainRow) → option_map until_in o ≡ None → o ≡ None
      none_date None e = refl
      none_date (Some r) e = absurd (none_some (sym e))
  date_gone (Some until) some = refl

  abbrev sound : IsSound old
  sound = host.sound

  its : IsNamed t b k n row
  its = row_named t b k n old.versions row there

  seq_there : find (is_entry t row.seq) old.versions ≡ Some row
  seq_there = wanted_entry old t sound b k (Named (id_of n)) row (named_row t b k n old.versions ∙ there)

  abbrev bare : Bucket
  bare = record B { dates = undated k (id_of n) B.dates }

  -- the date first
  date_goes : Becomes t (Some (with_bucket b bare s)) old undated_now
  date_goes = subst (λ (x : State). Becomes t (Some x) old undated_now) (λ i. with_bucket (its.bucket i) (record B { dates = undated (its.key i) (id_of (its.id i)) B.dates }) s)
      (date_removed old undated_now t s sound is row seq_there B (subst (λ q. get s.buckets q ≡ Some B) (sym its.bucket) at) refl)

  host_undated : IsHostOf undated_now
  host_undated = record { sound = date_goes.sound; bodies = host.bodies; resolved = record { versions = host.resolved.versions; parts = host.resolved.parts } }

  no_date_left : date_in (rows_of t undated_now).retains row ≡ None
  no_date_left = date_found undated_now t date_goes.sound row seq_there
      ∙ ap (option_map until_in) (sym (first_find (is_retain t row.seq) undated_now.retains) ∙ ap first (delete_all (is_retain t row.seq) old.retains))

  abbrev has_name : VersionRow → Bool
  has_name v = bytes_eq v.bucket b && (bytes_eq v.okey k && same_number v.id n)

  all_undated : AllByRecursion (λ (v : VersionRow). has_name v ≡ true → date_in (rows_of t undated_now).retains v ≡ None) (rows_of t undated_now).versions
  all_undated =
      let named_so : filter has_name (rows_of t old).versions ≡ filter (is_version t b k n) old.versions = filter_both (λ (v : VersionRow). bytes_eq v.tenant t) has_name old.versions in
      all_weaker _ _ (λ v same passes. subst (λ x. date_in (rows_of t undated_now).retains x ≡ None) (sym (same passes)) no_date_left) (rows_of t old).versions
      (only_one has_name row (rows_of t old).versions (subst (λ l. length l ≤ 1) (one_version t b k n old.versions ∙ sym named_so) ((sound.tenants t).versions.one_id b k n)) (ap first named_so ∙ first_find (is_version t b k n) old.versions ∙ there))

  -- and then the entry
  pub dated_gone : (new : Tables) → new ≡ without_entry t b k n row.seq (with_date_row t row.seq (date_at t row.seq old) None old)
      → Becomes t (Some (with_bucket b (without_date k (Named (id_of n)) (with_entries k (without (id_of n) (listed k B)) B)) s)) old new × HasBodies new × (new.blocks ≡ old.blocks)
  dated_gone new e =
      let s1 = with_bucket b bare s in
      let target : Tables = record undated_now { versions = delete_where (is_version t b k n) old.versions } in
      let is_so : new ≡ without_entry t b k n row.seq undated_now = e ∙ ap (without_entry t b k n row.seq) (date_gone (date_at t row.seq old) refl) in
      let it = left_written undated_now new target.versions (subst (Leaves [] target.versions undated_now) (sym is_so) (entry_gone undated_now date_goes.sound [] undated_now (whole_host undated_now host_undated) refl refl t b k n row there)) in
      let second = becomes_so t _ undated_now target new (version_removed undated_now target t s1 date_goes.sound date_goes.shown b k n bare (get_here octets s.buckets b (Some bare)) all_undated refl) it.0.rows in
      (subst (λ (x : State). Becomes t (Some x) old new) (bucket_again b bare _ s) (becomes_then t _ _ old undated_now new date_goes second), it.0.bodies, it.1)
