-- What is seen of an access key, and the steps that add one and take one away.
use Rattle.std.proofs.Common.{◌≡◌, Bool, true, false, ◌&&◌, [], ◌∷◌, ◌++◌, find, Option, Some, None, is_some, Ok, Err, cond, refl, sym, ap, ◌∙◌}
use Rattle.std.specs.FinMap.{get, insert, remove}
use Rattle.std.proofs.lemmas.Bool.{and_parts}
use Rattle.sqlite.specs.State.{State}
use Rattle.sqlite_keyed.proofs.SliceLemmas.{is_some-map}
use Rattle.sqlite_keyed.specs.Lists.{delete_where}
use Rattle.bh_types.specs.Limits.{HostLimits}
use Rattle.bh_types.specs.Names.{is_tenant_name, is_key_name, is_secret}
use Rattle.bh_types.specs.declared.refusal.Refusal.TheVariants.{NoSuchTenant, KeyExists, NoSuchKeyName}
use Rattle.bh_model.specs.State.{Octets, State as Machine}
use Rattle.bh_model.specs.Operations.{Done, add_key, remove_key}
use Rattle.bh_tables.specs.Typed.{KeyRow, Tables, tables_in}
use Rattle.bh_tables.specs.Shown.{is_key}
use Rattle.bh_view.specs.Bodies.{IsSoundHost}
use Rattle.bh_view.specs.View.{view}
use Rattle.bh_view.specs.Becomes.{Becomes}
use Rattle.bh_view.proofs.FindLemmas.{first_find, key_of_state}
use Rattle.bh_view.proofs.KeyChanges.{key_added, key_removed}
use Rattle.bh_storage.specs.Calls.{IsWorking}
use Rattle.bh_base.specs.Layer.{standing, Holds}
use Rattle.bh_schema.specs.Storage.{seen_in}
use Rattle.bh_schema.specs.Known.{key_known}
use Rattle.bh_schema.specs.declared.rows.known.Known.{Known}
use Rattle.bh_schema.specs.declared.rows.known.Known.TheVariants.{NoTenant, NoKey, Key}
use Rattle.bh_schema.proofs.Storing.{shows_in, holds_seen}
use Rattle.bh_schema.proofs.TenantSteps.{none_of, some_of, view_found, required}

-- ---- what the tables say, of the state

has_key : Octets → Option Machine → Bool
has_key n None = false
has_key n (Some s) = is_some (get s.keys n)

abbrev pub known_of : Octets → Option Machine → Known
known_of n None = NoTenant
known_of n (Some s) = cond (is_some (get s.keys n)) Key NoKey

key_seen_in : (tables : Tables) (t n : Octets) (s : Machine) → view tables t ≡ Some s → is_some (get s.keys n) ≡ is_some (find (is_key t n) tables.keys)
key_seen_in tables t n s is = ap is_some (key_of_state tables t s is n) ∙ is_some-map _ _ ∙ ap is_some (first_find (is_key t n) tables.keys)

known_seen_in : (tables : Tables) (t n : Octets) → key_known tables t n ≡ known_of n (view tables t)
known_seen_in tables t n = go (view tables t) refl
  where
    go : (o : Option Machine) → view tables t ≡ o → key_known tables t n ≡ known_of n o
    go None is = ap (λ b. cond b (cond (is_some (find (is_key t n) tables.keys)) Key NoKey) NoTenant) (sym (view_found tables t) ∙ ap is_some is)
    go (Some s) is = ap (λ b. cond b (cond (is_some (find (is_key t n) tables.keys)) Key NoKey) NoTenant) (sym (view_found tables t) ∙ ap is_some is)
        ∙ ap (λ b. cond b Key NoKey) (sym (key_seen_in tables t n s is))

pub known_seen : {digest : Octets → Octets} (l : HostLimits) (s : State) (t n : Octets) (known : Known) → IsWorking (IsSoundHost digest) (seen_in l s) → known ≡ key_known (tables_in (standing s).now) t n → known ≡ known_of n (view (seen_in l s).now t)
known_seen l s t n known working is = is ∙ ap (λ (x : Tables). key_known x t n) (sym (shows_in _ s working)) ∙ known_seen_in (seen_in l s).now t n

pub no_tenant : (n : Octets) (o : Option Machine) → NoTenant ≡ known_of n o → o ≡ None
no_tenant n None h = refl
no_tenant n (Some s) h = absurd (go (is_some (get s.keys n)) h)
  where
    go : (b : Bool) → NoTenant ≡ cond b Key NoKey → ⊥
    go true e = cc
    go false e = cc

pub no_key : (n : Octets) (o : Option Machine) → NoKey ≡ known_of n o → (s : Machine) × (o ≡ Some s) × (get s.keys n ≡ None)
no_key n None h = absurd (cc)
no_key n (Some s) h = (s, refl, none_of _ (go (is_some (get s.keys n)) h))
  where
    go : (b : Bool) → NoKey ≡ cond b Key NoKey → b ≡ false
    go true e = absurd (cc)
    go false e = refl

pub a_key : (n : Octets) (o : Option Machine) → Key ≡ known_of n o → (s : Machine) × (o ≡ Some s) × (is_some (get s.keys n) ≡ true)
a_key n None h = absurd (cc)
a_key n (Some s) h = (s, refl, go (is_some (get s.keys n)) h)
  where
    go : (b : Bool) → Key ≡ cond b Key NoKey → b ≡ true
    go true e = refl
    go false e = absurd (cc)

-- ---- the steps

module _ (t n secret : Octets) (o : Option Machine) (words : (is_tenant_name t && is_key_name n && is_secret secret) ≡ true) where
  pub adds_key : (s : Machine) → o ≡ Some s → get s.keys n ≡ None → add_key t n secret o ≡ Ok (Done, Some (record s { keys = insert s.keys n secret }))
  adds_key s is none = rw (required (is_tenant_name t && is_key_name n && is_secret secret) _ words, is, none) refl

  pub adds_to_nobody : o ≡ None → add_key t n secret o ≡ Err NoSuchTenant
  adds_to_nobody none = rw (required (is_tenant_name t && is_key_name n && is_secret secret) _ words, none) refl

  pub adds_again : (s : Machine) → o ≡ Some s → is_some (get s.keys n) ≡ true → add_key t n secret o ≡ Err KeyExists
  adds_again s is there = let it = some_of _ there in rw (required (is_tenant_name t && is_key_name n && is_secret secret) _ words, is, it.1) refl

module _ (t n : Octets) (o : Option Machine) (words : (is_tenant_name t && is_key_name n) ≡ true) where
  pub removes_key : (s : Machine) → o ≡ Some s → is_some (get s.keys n) ≡ true → remove_key t n o ≡ Ok (Done, Some (record s { keys = remove s.keys n }))
  removes_key s is there = let it = some_of _ there in rw (required (is_tenant_name t && is_key_name n) _ words, is, it.1) refl

  pub removes_from_nobody : o ≡ None → remove_key t n o ≡ Err NoSuchTenant
  removes_from_nobody none = rw (required (is_tenant_name t && is_key_name n) _ words, none) refl

  pub removes_none : (s : Machine) → o ≡ Some s → get s.keys n ≡ None → remove_key t n o ≡ Err NoSuchKeyName
  removes_none s is none = rw (required (is_tenant_name t && is_key_name n) _ words, is, none) refl

-- ---- the rows

pub key_becomes : {digest : Octets → Octets} (l : HostLimits) (old new : State) (t n secret : Octets) (s : Machine) → IsWorking (IsSoundHost digest) (seen_in l old) → view (seen_in l old).now t ≡ Some s → get s.keys n ≡ None → (is_tenant_name t && is_key_name n && is_secret secret) ≡ true
    → Holds (record (tables_in (standing old).now) { keys = (tables_in (standing old).now).keys ++ record { tenant = t; name = n; secret = secret } ∷ [] }) (standing new)
    → Becomes t (Some (record s { keys = insert s.keys n secret })) (seen_in l old).now (seen_in l new).now
key_becomes l old new t n secret s working is none words h =
    let row : KeyRow = record { tenant = t; name = n; secret = secret } in
    let parts = and_parts _ _ words in
    key_added (seen_in l old).now (seen_in l new).now s row working.sound.sound is none (record { name = (and_parts _ _ parts.0).1; secret = parts.1 })
    ((holds_seen _ _ new h).0 ∙ ap (λ (x : Tables). record x { keys = x.keys ++ row ∷ [] }) (sym (shows_in _ old working)))

pub key_goes : {digest : Octets → Octets} (l : HostLimits) (old new : State) (t n : Octets) (s : Machine) → IsWorking (IsSoundHost digest) (seen_in l old) → view (seen_in l old).now t ≡ Some s
    → Holds (record (tables_in (standing old).now) { keys = delete_where (is_key t n) (tables_in (standing old).now).keys }) (standing new)
    → Becomes t (Some (record s { keys = remove s.keys n })) (seen_in l old).now (seen_in l new).now
key_goes l old new t n s working is h =
    key_removed (seen_in l old).now (seen_in l new).now t s working.sound.sound is n ((holds_seen _ _ new h).0 ∙ ap (λ (x : Tables). record x { keys = delete_where (is_key t n) x.keys }) (sym (shows_in _ old working)))
