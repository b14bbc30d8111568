-- What is known of an access key, from what was found of its tenant and then of its secret.
use Rattle.std.proofs.Common.{◌≡◌, true, false, find, is_some, Option, Some, None, option_map, refl, sym, subst, ap, ◌∙◌}
use Rattle.sqlite.specs.State.{State}
use Rattle.bh_tables.specs.Schema.{Octets}
use Rattle.bh_tables.specs.Typed.{tables_in}
use Rattle.bh_tables.specs.Shown.{is_tenant, is_key}
use Rattle.bh_base.specs.Layer.{Standing, standing, IsIntact, IsOpen, IsStateClean, IsInside, StateWithin}
use Rattle.bh_schema.specs.Rows.{tenant_numbers, secret_in}
use Rattle.bh_schema.specs.Known.{key_known}
use Rattle.bh_schema.specs.declared.rows.known.Known.TheVariants.{NoKey, Key}
use Rattle.bh_schema.specs.declared.rows.tenants.TenantNumbers.{TenantNumbers}
use Rattle.bh_schema.proofs.Storing.{within_then}

is_mapped : {A B : Type 0} (f : A → B) (o : Option A) → is_some (option_map f o) ≡ is_some o
is_mapped f None = refl
is_mapped f (Some x) = refl

-- after a question the transaction is open still
pub still_inside : (old mid : State) → (IsIntact mid → standing mid ≡ standing old) → StateWithin old mid → (IsStateClean old → IsInside (standing old))
    → IsStateClean mid → IsInside (standing mid)
still_inside old mid same first inside clean = subst IsInside (sym (same clean.intact)) (inside (first.follows.clean clean))

-- ---- two questions, one after the other

module _ (old mid new : State) (opens : IsIntact mid → IsOpen old × IsOpen mid) (same : IsIntact mid → standing mid ≡ standing old) (first : StateWithin old mid) (second : StateWithin mid new) where
  pub both_within : StateWithin old new
  both_within = within_then old mid new (λ intact up. (opens intact).1) first second

  pub both_open : (IsIntact new → IsOpen mid × IsOpen new) → IsIntact new → IsOpen old × IsOpen new
  both_open then intact = ((opens (second.follows.intact intact)).0, (then intact).1)

  pub both_same : (IsIntact new → standing new ≡ standing mid) → IsIntact new → standing new ≡ standing old
  both_same then intact = then intact ∙ same (second.follows.intact intact)

  module _ (t n : Octets) (numbers : Option TenantNumbers) (tenant : IsStateClean mid → numbers ≡ option_map tenant_numbers (find (is_tenant t) (tables_in (standing old).now).tenants)) where
    there : IsStateClean mid → is_some (find (is_tenant t) (tables_in (standing old).now).tenants) ≡ is_some numbers
    there clean = sym (is_mapped tenant_numbers (find (is_tenant t) (tables_in (standing old).now).tenants)) ∙ sym (ap is_some (tenant clean))

    module _ {S : Type 0} (bytes : S → Octets) (secret : Option S) (key : IsStateClean new → option_map bytes secret ≡ option_map secret_in (find (is_key t n) (tables_in (standing mid).now).keys)) where
      held : IsStateClean new → is_some (find (is_key t n) (tables_in (standing old).now).keys) ≡ is_some secret
      held clean =
          ap (λ (x : Standing). is_some (find (is_key t n) (tables_in x.now).keys)) (sym (same (second.follows.intact clean.intact)))
          ∙ sym (is_mapped secret_in (find (is_key t n) (tables_in (standing mid).now).keys)) ∙ sym (ap is_some (key clean)) ∙ is_mapped bytes secret

      pub key_there : is_some numbers ≡ true → is_some secret ≡ true → IsStateClean new → Key ≡ key_known (tables_in (standing old).now) t n
      key_there some has clean = rw (there (second.follows.clean clean) ∙ some, held clean ∙ has) refl

      pub no_key_there : is_some numbers ≡ true → is_some secret ≡ false → IsStateClean new → NoKey ≡ key_known (tables_in (standing old).now) t n
      no_key_there some none clean = rw (there (second.follows.clean clean) ∙ some, held clean ∙ none) refl
