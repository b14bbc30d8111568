-- What was counted over a tenant's rows is what the machine tells.
use Rattle.std.proofs.Common.{arith, ◌≡◌, ◌+◌, ℕ, Option, Some, None, option_map, find, Ok, Err, refl, sym, ap, ◌∙◌}
use Rattle.bh_types.specs.declared.refusal.Refusal.TheVariants.{NoSuchTenant}
use Rattle.bh_model.specs.Operations.{Used, tell_usage}
use Rattle.bh_model.specs.State.{Octets, State}
use Rattle.bh_model.specs.Usage.{Usage, usage_of}
use Rattle.sqlite_typed.proofs.TestLemmas.{same_bytes}
use Rattle.bh_tables.specs.Typed.{Tables, TenantRow, bytes_used}
use Rattle.bh_tables.specs.Shown.{is_tenant}
use Rattle.bh_view.specs.View.{view, latest_of, rows_of, state_of}
use Rattle.bh_view.specs.Sound.{IsSound}
use Rattle.bh_view.proofs.FilterLemmas.{first_passes}
use Rattle.bh_view.proofs.FindLemmas.{first_find, tenant_found}
use Rattle.bh_view.proofs.SharedLemmas.{shared_none}
use Rattle.bh_view.proofs.UsageLemmas.{versions_counted, markers_counted, objects_counted, version_bytes_summed, part_bytes_summed, buckets_counted, uploads_counted}
use Rattle.bh_view.proofs.UsedLemmas.{used_is}
use Rattle.bh_storage.specs.Calls.{GivesStep}
use Rattle.bh_schema.specs.Rows.{tenant_account}
use Rattle.bh_schema.specs.declared.rows.tenants.TenantAccount.{TenantAccount}
use Rattle.bh_usage.specs.Counted.{quota_in, used_in, bytes_in, rows_in, usage_told}
use Rattle.bh_usage.specs.declared.counts.RowCounts.{RowCounts}

-- ---- the quota

module _ (tables : Tables) (t : Octets) where
  abbrev own : Option TenantRow
  own = find (is_tenant t) tables.tenants

  shown : view tables t ≡ option_map (state_of (rows_of t tables)) own
  shown = tenant_found tables t ∙ ap (option_map (state_of (rows_of t tables))) (first_find (is_tenant t) tables.tenants)

  pub account_read : (a : TenantAccount) → Some a ≡ option_map (tenant_account tables) own → (quota_in (view tables t) ≡ Ok a.numbers.quota) × (a.used ≡ used_in t tables)
  account_read a is = let it = go own refl is in (ap quota_in shown ∙ it.0, it.1)
    where
      go : (o : Option TenantRow) → own ≡ o → Some a ≡ option_map (tenant_account tables) o → (quota_in (option_map (state_of (rows_of t tables)) o) ≡ Ok a.numbers.quota) × (a.used ≡ used_in t tables)
      go None there e = absurd (cc)
      go (Some r) there e =
          let same : a ≡ tenant_account tables r = cc in
          let name = same_bytes r.tenant t (first_passes (is_tenant t) tables.tenants r (first_find (is_tenant t) tables.tenants ∙ there)) in
          (ap (λ (x : TenantAccount). Ok x.numbers.quota) (sym same), ap (λ (x : TenantAccount). x.used) same ∙ ap (bytes_used tables.versions tables.parts) name)

  pub no_account : None ≡ option_map (tenant_account tables) own → quota_in (view tables t) ≡ Err NoSuchTenant
  no_account is = ap quota_in shown ∙ go own is
    where
      go : (o : Option TenantRow) → None ≡ option_map (tenant_account tables) o → quota_in (option_map (state_of (rows_of t tables)) o) ≡ Err NoSuchTenant
      go None e = refl
      go (Some r) e = cc

-- its versions have what its parts have not
pub less_parts : (t : Octets) (tables : Tables) (used parts versions : ℕ) → used ≡ used_in t tables → parts ≡ (bytes_in t tables).parts → versions + parts ≡ used → versions ≡ (bytes_in t tables).versions
less_parts t tables used parts versions all some is = omega (arith, all, some, is)

-- ---- the usage

module _ (tables : Tables) (t : Octets) (sound : IsSound tables) where
  usage_is : (s : State) → view tables t ≡ Some s → usage_of s ≡ usage_told s.quota (rows_in t tables)
  usage_is s is = λ i. record {
    buckets = buckets_counted tables t s sound is i;
    bytes = used_is tables t s sound is i;
    markers = markers_counted tables t s sound is i;
    objects = objects_counted tables t s sound is i;
    part_bytes = part_bytes_summed tables t s sound is i;
    quota = s.quota;
    uploads = uploads_counted tables t s sound is i;
    version_bytes = version_bytes_summed tables t s sound is i;
    versions = versions_counted tables t s sound is i;
  }

  told_of : (v : Option State) (quota : ℕ) → view tables t ≡ v → quota_in v ≡ Ok quota → tell_usage v ≡ Ok (Used (usage_told quota (rows_in t tables)), v)
  told_of None quota is its = cc
  told_of (Some s) quota is its =
      let same : s.quota ≡ quota = cc in
      ap (λ u. Ok (Used u, Some s)) (usage_is s is ∙ ap (λ q. usage_told q (rows_in t tables)) same)

  -- the quota was read first, and then the rows were counted
  pub tells : (middle new : Tables) (quota : ℕ) (rows : RowCounts) (u : Usage) → (quota_in (view tables t) ≡ Ok quota) × (middle ≡ tables) → rows ≡ rows_in t middle → new ≡ middle → u ≡ usage_told quota rows → GivesStep t tell_usage (Used u) tables new
  tells middle new quota rows u its counted still is =
      let same : new ≡ tables = still ∙ its.1 in
      let told : usage_told quota (rows_in t tables) ≡ u = ap (λ x. usage_told quota (rows_in t x)) (sym its.1) ∙ ap (usage_told quota) (sym counted) ∙ sym is in
      record {
        gives = told_of (view tables t) quota refl its.0 ∙ ap (λ x. Ok (Used x, view tables t)) told ∙ ap (λ (x : Tables). Ok (Used u, view x t)) (sym same);
        others = λ w apart. ap (λ (x : Tables). view x w) same;
        latest = ap latest_of same;
        shared = shared_none tables new same;
      }
