-- An order that names no tenant.
use Rattle.std.proofs.Common.{◌≡◌, ℕ, false, Option, Some, None, Err, refl, rules, inl, inr}
use Rattle.std.proofs.lemmas.Bool.{cases_Bool}
use Rattle.bh_event.specs.Events.{Order, AddTenant, SetQuota, RemoveTenant, AddKey, RemoveKey, ShowUsage, ShowKeys, tenant_of}
use Rattle.bh_model.specs.State.{Octets}
use Rattle.bh_types.specs.AccessKeys.{tenant_named}
use Rattle.bh_types.specs.Names.{is_tenant_name}
use Rattle.bh_types.specs.declared.refusal.Refusal.TheVariants.{InvalidName}
use Rattle.bh_machine.specs.Machine.{ordered}

none_is_none : {X : Type 0} (o : Option X) (x : X) → o ≡ None → o ≡ Some x → ⊥
none_is_none o x none some = search rules

unnamed : (text : Octets) → tenant_named text ≡ None → is_tenant_name text ≡ false
unnamed text none = elim (cases_Bool (is_tenant_name text)) [
  | inl good ↦ absurd (none_is_none (tenant_named text) text none (rw good refl))
  | inr bad ↦ bad
]

refused : (now : ℕ) (order : Order) → is_tenant_name (tenant_of order) ≡ false → ordered now order None ≡ Err InvalidName
refused now (AddTenant tenant quota) bad = rw bad refl
refused now (SetQuota tenant quota) bad = rw bad refl
refused now (RemoveTenant tenant with_objects) bad = rw bad refl
refused now (AddKey tenant name secret) bad = rw bad refl
refused now (RemoveKey tenant name) bad = rw bad refl
refused now (ShowUsage tenant) bad = rw bad refl
refused now (ShowKeys tenant) bad = rw bad refl

-- it is refused as such
pub nameless : (now : ℕ) (order : Order) → tenant_named (tenant_of order) ≡ None → ordered now order None ≡ Err InvalidName
nameless now order none = refused now order (unnamed (tenant_of order) none)
