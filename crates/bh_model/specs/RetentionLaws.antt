-- Evidence that the definitions of locked buckets are the intended ones.
use Rattle.std.specs.Prelude.{◌≡◌, ℕ, ◌<◌, ◌≤◌, true, Option, Some, Ok, Err, IfOk}
use Rattle.std.specs.FinMap.{get}
use Rattle.bh_types.specs.declared.id.VersionId.{VersionId}
use Rattle.bh_types.specs.declared.id.VersionId.TheVariants.{Numbered}
use Rattle.bh_types.specs.declared.refusal.Refusal.TheVariants.{AccessDenied, TenantRetained}
use Rattle.bh_types.specs.Names.{is_tenant_name}
use Rattle.bh_types.specs.declared.wanted.Wanted.TheVariants.{Named}
use Rattle.bh_model.specs.State.{Octets, Bucket, State}
use Rattle.bh_model.specs.Operations.{Answer.Retention, delete_object, get_retention, put_retention, remove_tenant}
use Rattle.bh_model.specs.Retention.{date_of}

-- a version that has a date can't be deleted before it
abbrev pub DatedVersionStays : Type 0
DatedVersionStays = (moment : ℕ) (name key : Octets) (id : VersionId) (t : State) (b : Bucket) (date : ℕ)
    → get t.buckets name ≡ Some b → date_of key id b ≡ Some date → moment < date → delete_object moment name key (Named id) (Some t)
    ≡ Err AccessDenied

-- nor can its tenant be removed before it
abbrev pub DatedTenantStays : Type 0
DatedTenantStays = (moment : ℕ) (tenant name key : Octets) (id : VersionId) (t : State) (b : Bucket) (date : ℕ)
    → get t.buckets name ≡ Some b → date_of key id b ≡ Some date → moment < date → is_tenant_name tenant ≡ true
    → remove_tenant moment tenant true (Some t) ≡ Err TenantRetained

-- a date that was put is returned from then on. It is after the moment, and not before the date
-- returned earlier
abbrev pub PutDateIsTold : Type 0
PutDateIsTold = (moment : ℕ) (name key : Octets) (n date : ℕ) (s : Option State)
    → IfOk (put_retention moment name key (Named (Numbered n)) date s) (λ put.
    (get_retention name key (Named (Numbered n)) put.1 ≡ Ok (Retention (Some date), put.1)) × (moment < date)
    × ((before : ℕ) → get_retention name key (Named (Numbered n)) s ≡ Ok (Retention (Some before), s) → before ≤ date))
