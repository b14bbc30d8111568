-- What is seen of a tenant, and the step that adds one.
use Rattle.std.proofs.Common.{◌≡◌, ◌≤◌, ℕ, nat_le, ◌^◌, Bool, true, false, List, [], ◌∷◌, ◌++◌, find, Option, Some, None, option_map, is_some, IsTrue, Result, Ok, Err, refl, sym, ap, ◌∙◌, subst}
use Rattle.sqlite.specs.State.{State}
use Rattle.sqlite_keyed.specs.Lists.{update_where}
use Rattle.sqlite_keyed.proofs.SliceLemmas.{is_some-map}
use Rattle.bh_types.specs.Limits.{HostLimits}
use Rattle.bh_types.specs.Names.{is_tenant_name}
use Rattle.bh_types.specs.declared.refusal.Refusal.{Refusal}
use Rattle.bh_types.specs.declared.refusal.Refusal.TheVariants.{TenantExists, NoSuchTenant}
use Rattle.bh_model.specs.State.{Octets, State as Machine, new_tenant}
use Rattle.bh_model.specs.Operations.{Done, add_tenant, set_quota}
use Rattle.bh_model.specs.QuotaLaws.{IsBounded, StaysBounded}
use Rattle.bh_tables.specs.Typed.{TenantRow, VersionRow, PartRow, BlockRow, RefRow, Tables, tables_in}
use Rattle.bh_tables.specs.Shown.{is_tenant}
use Rattle.bh_view.specs.Bodies.{IsSoundHost}
use Rattle.bh_view.specs.View.{view}
use Rattle.bh_view.specs.Becomes.{Becomes}
use Rattle.bh_view.proofs.BoundLemmas.{bounded_but, bounded_step}
use Rattle.bh_view.proofs.FindLemmas.{first_find, tenant_found}
use Rattle.bh_view.proofs.SharedLemmas.{shared_same}
use Rattle.bh_view.proofs.TenantChanges.{tenant_added, quota_set}
use Rattle.bh_storage.specs.Calls.{IsWorking, GivesStep}
use Rattle.bh_base.specs.Layer.{standing, Holds}
use Rattle.bh_schema.specs.Storage.{seen_in}
use Rattle.bh_schema.proofs.Storing.{shows_in, holds_seen, same_limits, bodied, sound_still, bodied_still}

-- ---- options

pub none_of : {X : Type 0} (o : Option X) → is_some o ≡ false → o ≡ None
none_of None h = refl
none_of (Some x) h = absurd (cc)

pub some_of : {X : Type 0} (o : Option X) → is_some o ≡ true → (x : X) × (o ≡ Some x)
some_of None h = absurd (cc)
some_of (Some x) h = (x, refl)

-- ---- a tenant that is found

pub view_found : (tables : Tables) (t : Octets) → is_some (view tables t) ≡ is_some (find (is_tenant t) tables.tenants)
view_found tables t = ap is_some (tenant_found tables t) ∙ is_some-map _ _ ∙ ap is_some (first_find (is_tenant t) tables.tenants)

pub tenant_seen : {digest : Octets → Octets} (l : HostLimits) {X : Type 0} (s : State) (t : Octets) (read : TenantRow → X) (found : Option X) → IsWorking (IsSoundHost digest) (seen_in l s) → found ≡ option_map read (find (is_tenant t) (tables_in (standing s).now).tenants)
    → is_some (view (seen_in l s).now t) ≡ is_some found
tenant_seen l s t read found working is = view_found (seen_in l s).now t ∙ ap (λ (x : Tables). is_some (find (is_tenant t) x.tenants)) (shows_in _ s working) ∙ sym (ap is_some is ∙ is_some-map read _)

-- ---- the step

pub required : {E : Type 0} (b : Bool) (e : E) → b ≡ true → Rattle.bh_types.specs.Outcomes.require b e ≡ Ok tt
required b e h = ap (λ x. Rattle.bh_types.specs.Outcomes.require x e) h

pub adds_tenant : (t : Octets) (quota : ℕ) (s : Option Machine) → IsTrue (is_tenant_name t) → nat_le quota (2 ^ 60) ≡ true → s ≡ None → add_tenant t quota s ≡ Ok (Done, Some (new_tenant quota))
adds_tenant t quota s name few none = rw (required (is_tenant_name t) _ name, required (nat_le quota (2 ^ 60)) _ few, none) refl

pub tenant_exists : (t : Octets) (quota : ℕ) (s : Option Machine) → IsTrue (is_tenant_name t) → nat_le quota (2 ^ 60) ≡ true → is_some s ≡ true → add_tenant t quota s ≡ Err TenantExists
tenant_exists t quota s name few there = let it = some_of s there in rw (required (is_tenant_name t) _ name, required (nat_le quota (2 ^ 60)) _ few, it.1) refl

pub sets_quota : (t : Octets) (quota : ℕ) (s : Option Machine) (x : Machine) → IsTrue (is_tenant_name t) → nat_le quota (2 ^ 60) ≡ true → s ≡ Some x → set_quota t quota s ≡ Ok (Done, Some (record x { quota = quota }))
sets_quota t quota s x name few there = rw (required (is_tenant_name t) _ name, required (nat_le quota (2 ^ 60)) _ few, there) refl

pub quota_of_nobody : (t : Octets) (quota : ℕ) (s : Option Machine) → IsTrue (is_tenant_name t) → nat_le quota (2 ^ 60) ≡ true → s ≡ None → set_quota t quota s ≡ Err NoSuchTenant
quota_of_nobody t quota s name few none = rw (required (is_tenant_name t) _ name, required (nat_le quota (2 ^ 60)) _ few, none) refl

pub gives_of : {Y : Type 0} (t : Octets) (step : Option Machine → Result (Y × Option Machine) Refusal) (y : Y) (s : Option Machine) (old new : Tables) → step (view old t) ≡ Ok (y, s) → Becomes t s old new → bodied new ≡ bodied old → GivesStep t step y old new
gives_of t step y s old new given b same = record {
  gives = given ∙ ap (λ v. Ok (y, v)) (sym b.shown);
  others = b.others;
  latest = b.latest;
  shared = shared_same old new (ap (λ (x : List VersionRow × List PartRow × List RefRow × List BlockRow). x.3) same);
}

-- its state then
pub bound_of : {digest : Octets → Octets} {Y E : Type 0} (l : HostLimits) (t : Octets) (step : Option Machine → Result (Y × Option Machine) E) (y : Y) (s : Option Machine) (old : State)
    → StaysBounded step → step (view (seen_in l old).now t) ≡ Ok (y, s) → IsWorking (IsSoundHost digest) (seen_in l old) → IsBounded s
bound_of l t step y s old stays given working = bounded_step step stays y (view (seen_in l old).now t) s given (working.sound.bounded t)

-- a write of rows that bodies are not of
pub works_of : {digest : Octets → Octets} (l : HostLimits) (t : Octets) (s : Option Machine) (old new : State) (change : Tables → Tables) → ((x : Tables) → bodied (change x) ≡ bodied x)
    → IsWorking (IsSoundHost digest) (seen_in l old) → Holds (change (tables_in (standing old).now)) (standing new) → Becomes t s (seen_in l old).now (seen_in l new).now → IsBounded s → IsWorking (IsSoundHost digest) (seen_in l new)
works_of l t s old new change stays working h b bound = record {
  inside = (holds_seen l _ new h).1;
  sound = sound_still (seen_in l old).now (seen_in l new).now working.sound b.sound
      (bounded_but t (seen_in l old).now (seen_in l new).now b.others (subst IsBounded (sym b.shown) bound) working.sound.bounded) (bodied_still l old new change stays working h);
  limits = b.limits ∙ working.limits ∙ same_limits l new old;
}

-- a tenant's row that was added
pub tenant_becomes : {digest : Octets → Octets} (l : HostLimits) (old new : State) (t : Octets) (quota : ℕ) → IsWorking (IsSoundHost digest) (seen_in l old) → view (seen_in l old).now t ≡ None → IsTrue (is_tenant_name t) → quota ≤ 2 ^ 60
    → Holds (record (tables_in (standing old).now) { tenants = (tables_in (standing old).now).tenants ++ record { tenant = t; quota = quota; next_version = 1; next_upload = 1; next_entry = 1 } ∷ [] }) (standing new)
    → Becomes t (Some (new_tenant quota)) (seen_in l old).now (seen_in l new).now
tenant_becomes l old new t quota working none name few h =
    tenant_added (seen_in l old).now (seen_in l new).now t quota working.sound.sound none name few ((holds_seen _ _ new h).0
    ∙ ap (λ (x : Tables). record x { tenants = x.tenants ++ record { tenant = t; quota = quota; next_version = 1; next_upload = 1; next_entry = 1 } ∷ [] }) (sym (shows_in _ old working)))

-- a tenant's quota that was set
pub quota_becomes : {digest : Octets → Octets} (l : HostLimits) (old new : State) (t : Octets) (quota : ℕ) (s : Machine) → IsWorking (IsSoundHost digest) (seen_in l old) → view (seen_in l old).now t ≡ Some s → quota ≤ 2 ^ 60
    → Holds (record (tables_in (standing old).now) { tenants = update_where (is_tenant t) (λ r. record r { quota = quota }) (tables_in (standing old).now).tenants }) (standing new)
    → Becomes t (Some (record s { quota = quota })) (seen_in l old).now (seen_in l new).now
quota_becomes l old new t quota s working is few h =
    quota_set (seen_in l old).now (seen_in l new).now t s working.sound.sound is quota few ((holds_seen _ _ new h).0
    ∙ ap (λ (x : Tables). record x { tenants = update_where (is_tenant t) (λ r. record r { quota = quota }) x.tenants }) (sym (shows_in _ old working)))

-- the tables that a write holds, after questions that changed nothing
pub holds_after : (old mid new : State) (change : Tables → Tables) → standing mid ≡ standing old → Holds (change (tables_in (standing mid).now)) (standing new) → Holds (change (tables_in (standing old).now)) (standing new)
holds_after old mid new change same = subst (λ x. Holds (change (tables_in x.now)) (standing new)) same
