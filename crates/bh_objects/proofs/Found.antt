-- What is read of a bucket and of a tenant, in the words of the machine.
use Rattle.std.proofs.Common.{◌≡◌, ℕ, true≢false, Option, Some, None, option_map, option_and_then, is_none, ok_or, find, Result, Ok, Err, is_ok, refl, sym, ap, ◌∙◌}
use Rattle.std.specs.Result.{result_map_both}
use Rattle.std.specs.FinMap.{get}
use Rattle.bh_types.specs.Counts.{Counts}
use Rattle.bh_types.specs.BucketStates.{state_number}
use Rattle.bh_types.specs.declared.bucket_state.BucketState.{BucketState}
use Rattle.bh_types.specs.declared.bucket_state.BucketState.TheVariants.{Unversioned, Enabled, Suspended}
use Rattle.bh_types.specs.declared.refusal.Refusal.{Refusal}
use Rattle.bh_types.specs.declared.refusal.Refusal.TheVariants.{NoSuchBucket, NoSuchTenant, BucketAlreadyOwnedByYou}
use Rattle.bh_model.specs.State.{Octets, State, Bucket}
use Rattle.bh_types.specs.Outcomes.{require}
use Rattle.bh_storage.specs.Calls.{Decides}
use Rattle.bh_storage.specs.declared.error.StepError.{StepError}
use Rattle.bh_storage.specs.declared.error.StepError.TheVariants.{Refused, Failed}
use Rattle.sqlite_typed.proofs.TestLemmas.{same_bytes}
use Rattle.bh_tables.specs.Typed.{Tables, TenantRow, BucketRow, bytes_used}
use Rattle.bh_tables.specs.Shown.{is_tenant, is_bucket}
use Rattle.bh_view.specs.View.{view, mode_of, rows_of, bucket_shown, state_of}
use Rattle.bh_view.specs.Sound.{IsSound}
use Rattle.bh_view.proofs.FilterLemmas.{first_passes}
use Rattle.bh_view.proofs.FindLemmas.{first_find, bucket_found, tenant_found}
use Rattle.bh_schema.specs.Rows.{bucket_numbers, tenant_numbers, tenant_account}
use Rattle.bh_schema.specs.declared.rows.tenants.TenantAccount.{TenantAccount}
use Rattle.bh_schema.specs.declared.rows.tenants.TenantNumbers.{TenantNumbers}
use Rattle.bh_schema.specs.declared.rows.buckets.BucketNumbers.{BucketNumbers}
use Rattle.bh_objects.specs.Found.{mode_in, account_in, bytes_in, counts_in, tenant_in, name_free}

abbrev mode_or : Option Bucket → Result BucketState Refusal
mode_or o = ok_or (option_map (λ (b : Bucket). b.mode) o) NoSuchBucket

mode_shape : (name : Octets) (v : Option State) → mode_in name v ≡ mode_or (option_and_then (λ (s : State). get s.buckets name) v)
mode_shape name None = refl
mode_shape name (Some s) = go (get s.buckets name)
  where
    go : (o : Option Bucket) → result_map_both (λ (f : State × Bucket). f.1.mode) (λ refusal. refusal) (ok_or (option_map (λ b. (s, b)) o) NoSuchBucket) ≡ mode_or o
    go None = refl
    go (Some b) = refl

number_back : (mode : BucketState) (n : ℕ) → state_number mode ≡ n → mode_of n ≡ mode
number_back Unversioned n e = ap mode_of (sym e)
number_back Enabled n e = ap mode_of (sym e)
number_back Suspended n e = ap mode_of (sym e)

module _ (tables : Tables) (t name : Octets) (sound : IsSound tables) where
  abbrev row : Option BucketRow
  row = find (is_bucket t name) tables.buckets

  shown : mode_in name (view tables t) ≡ mode_or (option_map (bucket_shown (rows_of t tables) name) row)
  shown = mode_shape name (view tables t) ∙ ap mode_or (bucket_found tables t sound name) ∙ ap (λ o. mode_or (option_map (bucket_shown (rows_of t tables) name) o)) (first_find (is_bucket t name) tables.buckets)

  pub mode_found : (numbers : BucketNumbers) (mode : BucketState) → Some numbers ≡ option_map bucket_numbers row → state_number mode ≡ numbers.state → mode_in name (view tables t) ≡ Ok mode
  mode_found numbers mode is its = shown ∙ go row is
    where
      go : (o : Option BucketRow) → Some numbers ≡ option_map bucket_numbers o → mode_or (option_map (bucket_shown (rows_of t tables) name) o) ≡ Ok mode
      go None e = cc
      go (Some r) e = ap (λ m. Ok m) (number_back mode r.state (its ∙ (let same : numbers ≡ bucket_numbers r = cc in ap (λ (n : BucketNumbers). n.state) same)))

  pub no_mode : None ≡ option_map bucket_numbers row → mode_in name (view tables t) ≡ Err NoSuchBucket
  no_mode is = shown ∙ go row is
    where
      go : (o : Option BucketRow) → None ≡ option_map bucket_numbers o → mode_or (option_map (bucket_shown (rows_of t tables) name) o) ≡ Err NoSuchBucket
      go None e = refl
      go (Some r) e = cc

-- the counters of an account
pub account_counts : (v : Option State) (a : ℕ × Counts) → account_in v ≡ Ok a → counts_in v ≡ Ok a.1
account_counts None a e = cc
account_counts (Some s) a e = ap (result_map_both (λ (x : ℕ × Counts). x.1) (λ refusal. refusal)) e

pub counts_failed : {X Y : Type 0} (asked : X → ℕ × Counts) (told : Y → Counts) (v : Option State) (old new : Tables) (error : StepError Refusal) → Decides asked (account_in v) old new (Err error) → Decides told (counts_in v) old new (Err error)
counts_failed asked told None old new (Refused x) d = (ap (result_map_both (λ (a : ℕ × Counts). a.1) (λ refusal. refusal)) d.0, d.1)
counts_failed asked told (Some s) old new (Refused x) d = absurd (true≢false (ap is_ok d.0))
counts_failed asked told v old new (Failed trouble) d = tt

module _ (tables : Tables) (t : Octets) where
  abbrev own : Option TenantRow
  own = find (is_tenant t) tables.tenants

  tenant_shown : view tables t ≡ option_map (state_of (rows_of t tables)) own
  tenant_shown = tenant_found tables t ∙ ap (option_map (state_of (rows_of t tables))) (first_find (is_tenant t) tables.tenants)

  pub account_read : (n : TenantNumbers) (c : Counts) → Some n ≡ option_map tenant_numbers own → c ≡ record { version = n.next_version; upload = n.next_upload; entry = n.next_entry } → account_in (view tables t) ≡ Ok (n.quota, c)
  account_read n c is its = ap account_in tenant_shown ∙ go own is
    where
      go : (o : Option TenantRow) → Some n ≡ option_map tenant_numbers o → account_in (option_map (state_of (rows_of t tables)) o) ≡ Ok (n.quota, c)
      go None e = cc
      go (Some r) e =
          let same : n ≡ tenant_numbers r = cc in
          ap (λ (x : TenantNumbers). Ok (x.quota, record { version = x.next_version; upload = x.next_upload; entry = x.next_entry })) (sym same) ∙ ap (λ x. Ok (n.quota, x)) (sym its)

  pub no_account : None ≡ option_map tenant_numbers own → account_in (view tables t) ≡ Err NoSuchBucket
  no_account is = ap account_in tenant_shown ∙ go own is
    where
      go : (o : Option TenantRow) → None ≡ option_map tenant_numbers o → account_in (option_map (state_of (rows_of t tables)) o) ≡ Err NoSuchBucket
      go None e = refl
      go (Some r) e = cc

  -- with what it uses
  pub account_numbers : (a : TenantAccount) → Some a ≡ option_map (tenant_account tables) own → (Some a.numbers ≡ option_map tenant_numbers own) × (a.used ≡ bytes_in t tables)
  account_numbers a is = go own refl is
    where
      go : (o : Option TenantRow) → own ≡ o → Some a ≡ option_map (tenant_account tables) o → (Some a.numbers ≡ option_map tenant_numbers o) × (a.used ≡ bytes_in t tables)
      go None there e = absurd (cc)
      go (Some r) there e =
          let same : a ≡ tenant_account tables r = cc in
          let name = same_bytes r.tenant t (first_passes (is_tenant t) tables.tenants r (first_find (is_tenant t) tables.tenants ∙ there)) in
          (ap (λ (x : TenantAccount). Some x.numbers) same, ap (λ (x : TenantAccount). x.used) same ∙ ap (bytes_used tables.versions tables.parts) name)

  pub no_numbers : None ≡ option_map (tenant_account tables) own → None ≡ option_map tenant_numbers own
  no_numbers is = go own is
    where
      go : (o : Option TenantRow) → None ≡ option_map (tenant_account tables) o → None ≡ option_map tenant_numbers o
      go None e = refl
      go (Some r) e = absurd (cc)

  pub has_tenant : (n : TenantNumbers) → Some n ≡ option_map tenant_numbers own → tenant_in (view tables t) ≡ Ok tt
  has_tenant n is = ap tenant_in tenant_shown ∙ go own is
    where
      go : (o : Option TenantRow) → Some n ≡ option_map tenant_numbers o → tenant_in (option_map (state_of (rows_of t tables)) o) ≡ Ok tt
      go None e = cc
      go (Some r) e = refl

  pub no_tenant : None ≡ option_map tenant_numbers own → tenant_in (view tables t) ≡ Err NoSuchTenant
  no_tenant is = ap tenant_in tenant_shown ∙ go own is
    where
      go : (o : Option TenantRow) → None ≡ option_map tenant_numbers o → tenant_in (option_map (state_of (rows_of t tables)) o) ≡ Err NoSuchTenant
      go None e = refl
      go (Some r) e = cc

module _ (tables : Tables) (t name : Octets) (sound : IsSound tables) where
  abbrev bucket_row : Option BucketRow
  bucket_row = find (is_bucket t name) tables.buckets

  free_shown : name_free name (view tables t) ≡ require (is_none (option_map (bucket_shown (rows_of t tables) name) bucket_row)) BucketAlreadyOwnedByYou
  free_shown = ap (λ o. require (is_none o) BucketAlreadyOwnedByYou) (bucket_found tables t sound name ∙ ap (option_map (bucket_shown (rows_of t tables) name)) (first_find (is_bucket t name) tables.buckets))

  pub is_free : None ≡ option_map bucket_numbers bucket_row → name_free name (view tables t) ≡ Ok tt
  is_free is = free_shown ∙ go bucket_row is
    where
      go : (o : Option BucketRow) → None ≡ option_map bucket_numbers o → require (is_none (option_map (bucket_shown (rows_of t tables) name) o)) BucketAlreadyOwnedByYou ≡ Ok tt
      go None e = refl
      go (Some r) e = cc

  pub is_taken : (n : BucketNumbers) → Some n ≡ option_map bucket_numbers bucket_row → name_free name (view tables t) ≡ Err BucketAlreadyOwnedByYou
  is_taken n is = free_shown ∙ go bucket_row is
    where
      go : (o : Option BucketRow) → Some n ≡ option_map bucket_numbers o → require (is_none (option_map (bucket_shown (rows_of t tables) name) o)) BucketAlreadyOwnedByYou ≡ Err BucketAlreadyOwnedByYou
      go None e = cc
      go (Some r) e = refl
