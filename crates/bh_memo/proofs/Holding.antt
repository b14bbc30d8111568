-- What is remembered is so, while the tables change and facts come and go.
use Rattle.std.proofs.Common.{rules, ◌≡◌, ◌≢◌, ◌⊎◌, inl, inr, ℕ, Bool, true, false, true≢false, nat_eq, List, get_or, Contains, Option, Some, None, option_map, ok_or, is_ok, bytes_eq, Result, Ok, Err, refl, sym, ap, ◌∙◌, subst}
use Rattle.std.specs.List.{list_all}
use Rattle.std.specs.Option.{option_map_or}
use Rattle.std.specs.Result.{result_map_both}
use Rattle.std.specs.FinMap.{get}
use Rattle.std.specs.Cmp.Derive.{both_true}
use Rattle.std.specs.Cmp.Lexicographic.{bytes_decides}
use Rattle.std.proofs.lemmas.Bool.{and_parts}
use Rattle.std.proofs.lemmas.List.Elements.{Contains-get_or}
use Rattle.std.proofs.lemmas.List.Sums.{AllPass-from_list_all, list_all-from_AllPass}
use Rattle.bh_types.specs.BucketStates.{state_number}
use Rattle.bh_types.specs.declared.access_key.AccessKeyId.{AccessKeyId}
use Rattle.bh_types.specs.declared.bucket_state.BucketState.{BucketState}
use Rattle.bh_types.specs.declared.bucket_state.BucketState.TheVariants.{Unversioned, Enabled, Suspended}
use Rattle.bh_types.specs.declared.refusal.Refusal.{Refusal}
use Rattle.bh_types.specs.declared.refusal.Refusal.TheVariants.{AccessDenied, InvalidAccessKeyId, NoSuchBucket}
use Rattle.bh_types.specs.Outcomes.{◌>>=◌, require}
use Rattle.bh_model.specs.Credentials.{secret_of, authenticate}
use Rattle.bh_model.specs.Operations.{tenant_bucket}
use Rattle.bh_model.specs.State.{Octets, Bucket, State}
use Rattle.bh_tables.specs.Typed.{Tables}
use Rattle.bh_view.specs.View.{view, latest_of}
use Rattle.bh_memo.specs.Facts.{Facts, nothing, has_no_rule, has_state, is_latest, is_quiet, is_known, is_accepted, is_secret, holds}
use Rattle.bh_memo.specs.declared.facts.KnownBucket.{KnownBucket}
use Rattle.bh_memo.specs.declared.facts.KnownSecret.{KnownSecret}

-- ---- each fact

module _ {X : Type 0} (p : X → Bool) (xs : List X) where
  at_each : list_all p xs ≡ true → (x : X) → Contains xs x → p x ≡ true
  at_each all x there = subst (λ y. p y ≡ true) there.2 (AllPass-from_list_all p xs all there.0 x there.1)

  by_each : ((x : X) → Contains xs x → p x ≡ true) → list_all p xs ≡ true
  by_each each = list_all-from_AllPass p xs (λ k d below. each (get_or xs k d) (Contains-get_or xs k d below))

pub record AreSo (facts : Facts) (tables : Tables) : Type 0 where
  pub latest : is_latest facts.latest tables ≡ true
  pub quiet : (t : Octets) → Contains facts.quiet t → is_quiet tables t ≡ true
  pub buckets : (b : KnownBucket) → Contains facts.buckets b → is_known tables b ≡ true
  pub secrets : (k : KnownSecret) → Contains facts.secrets k → is_secret tables k ≡ true

module _ (facts : Facts) (tables : Tables) where
  pub are_so : holds facts tables ≡ true → AreSo facts tables
  are_so h =
      let parts = and_parts _ _ h in
      let lists = and_parts _ _ parts.1 in
      let named = and_parts _ _ lists.1 in
      record {
        latest = parts.0;
        quiet = at_each (is_quiet tables) facts.quiet lists.0;
        buckets = at_each (is_known tables) facts.buckets named.0;
        secrets = at_each (is_secret tables) facts.secrets named.1;
      }

  pub holds_by : AreSo facts tables → holds facts tables ≡ true
  holds_by so =
      both_true so.latest (both_true (by_each (is_quiet tables) facts.quiet so.quiet) (both_true (by_each (is_known tables) facts.buckets so.buckets) (by_each (is_secret tables) facts.secrets so.secrets)))

-- nothing is so of all tables
pub holds_nothing : (tables : Tables) → holds nothing tables ≡ true
holds_nothing tables = refl

-- ---- the tables change

pub same_latest_fact : (latest : Option ℕ) (old new : Tables) → latest_of new ≡ latest_of old → is_latest latest old ≡ true → is_latest latest new ≡ true
same_latest_fact latest old new same h = ap (λ n. option_map_or (λ m. nat_eq m n) latest true) same ∙ h

itself : (n : ℕ) → nat_eq n n ≡ true
itself n = search rules

-- there is a new stamp, and it is remembered
pub holds_stamped : (facts : Facts) (m : ℕ) (old new : Tables) → ((u : Octets) → view new u ≡ view old u) → latest_of new ≡ m → holds facts old ≡ true → holds (record facts { latest = Some m }) new ≡ true
holds_stamped facts m old new views latest h =
    let so = are_so facts old h in
    holds_by (record facts { latest = Some m }) new (record {
      latest = ap (nat_eq m) latest ∙ itself m;
      quiet = λ t there. ap has_no_rule (views t) ∙ so.quiet t there;
      buckets = λ b there. ap (has_state b.bucket b.state) (views b.tenant) ∙ so.buckets b there;
      secrets = λ k there. ap (is_accepted k) (views k.key.tenant) ∙ so.secrets k there;
    })

-- ---- facts go

-- those of a tenant are forgotten
pub record Forgets (t : Octets) (before after : Facts) : Type 0 where
  pub latest : after.latest ≡ before.latest
  pub quiet : (u : Octets) → Contains after.quiet u → Contains before.quiet u × (u ≢ t)
  pub buckets : (b : KnownBucket) → Contains after.buckets b → Contains before.buckets b × (b.tenant ≢ t)
  pub secrets : (k : KnownSecret) → Contains after.secrets k → Contains before.secrets k × (k.key.tenant ≢ t)

-- and only that tenant sees a change
pub holds_others : (t : Octets) (before after : Facts) (old new : Tables) → Forgets t before after → ((u : Octets) → u ≢ t → view new u ≡ view old u) → latest_of new ≡ latest_of old → holds before old ≡ true → holds after new ≡ true
holds_others t before after old new forgets views latest h =
    let so = are_so before old h in
    holds_by after new (record {
      latest = ap (λ l. is_latest l new) forgets.latest ∙ same_latest_fact before.latest old new latest so.latest;
      quiet = λ u there. let was = forgets.quiet u there in ap has_no_rule (views u was.1) ∙ so.quiet u was.0;
      buckets = λ b there. let was = forgets.buckets b there in ap (has_state b.bucket b.state) (views b.tenant was.1) ∙ so.buckets b was.0;
      secrets = λ k there. let was = forgets.secrets k there in ap (is_accepted k) (views k.key.tenant was.1) ∙ so.secrets k was.0;
    })

-- ---- facts come

pub record AddsQuiet (t : Octets) (before after : Facts) : Type 0 where
  pub latest : after.latest ≡ before.latest
  pub quiet : (u : Octets) → Contains after.quiet u → Contains before.quiet u ⊎ (u ≡ t)
  pub buckets : after.buckets ≡ before.buckets
  pub secrets : after.secrets ≡ before.secrets

pub holds_quiet : (t : Octets) (before after : Facts) (tables : Tables) → AddsQuiet t before after → has_no_rule (view tables t) ≡ true → holds before tables ≡ true → holds after tables ≡ true
holds_quiet t before after tables adds is h =
    let so = are_so before tables h in
    holds_by after tables (record {
      latest = ap (λ l. is_latest l tables) adds.latest ∙ so.latest;
      quiet = λ u there. elim (adds.quiet u there) [ inl was ↦ so.quiet u was | inr new ↦ ap (is_quiet tables) new ∙ is ];
      buckets = λ b there. so.buckets b (subst (λ l. Contains l b) adds.buckets there);
      secrets = λ k there. so.secrets k (subst (λ l. Contains l k) adds.secrets there);
    })

pub record AddsBucket (b : KnownBucket) (before after : Facts) : Type 0 where
  pub latest : after.latest ≡ before.latest
  pub quiet : after.quiet ≡ before.quiet
  pub buckets : (c : KnownBucket) → Contains after.buckets c → Contains before.buckets c ⊎ (c ≡ b)
  pub secrets : after.secrets ≡ before.secrets

pub holds_bucket : (b : KnownBucket) (before after : Facts) (tables : Tables) → AddsBucket b before after → is_known tables b ≡ true → holds before tables ≡ true → holds after tables ≡ true
holds_bucket b before after tables adds is h =
    let so = are_so before tables h in
    holds_by after tables (record {
      latest = ap (λ l. is_latest l tables) adds.latest ∙ so.latest;
      quiet = λ u there. so.quiet u (subst (λ l. Contains l u) adds.quiet there);
      buckets = λ c there. elim (adds.buckets c there) [ inl was ↦ so.buckets c was | inr new ↦ ap (is_known tables) new ∙ is ];
      secrets = λ k there. so.secrets k (subst (λ l. Contains l k) adds.secrets there);
    })

pub record AddsSecret (k : KnownSecret) (before after : Facts) : Type 0 where
  pub latest : after.latest ≡ before.latest
  pub quiet : after.quiet ≡ before.quiet
  pub buckets : after.buckets ≡ before.buckets
  pub secrets : (other : KnownSecret) → Contains after.secrets other → Contains before.secrets other ⊎ (other ≡ k)

pub holds_secret : (k : KnownSecret) (before after : Facts) (tables : Tables) → AddsSecret k before after → is_secret tables k ≡ true → holds before tables ≡ true → holds after tables ≡ true
holds_secret k before after tables adds is h =
    let so = are_so before tables h in
    holds_by after tables (record {
      latest = ap (λ l. is_latest l tables) adds.latest ∙ so.latest;
      quiet = λ u there. so.quiet u (subst (λ l. Contains l u) adds.quiet there);
      buckets = λ b there. so.buckets b (subst (λ l. Contains l b) adds.buckets there);
      secrets = λ other there. elim (adds.secrets other there) [ inl was ↦ so.secrets other was | inr new ↦ ap (is_secret tables) new ∙ is ];
    })

-- ---- what a fact says

-- the last stamp
pub latest_is : (facts : Facts) (tables : Tables) (m : ℕ) → facts.latest ≡ Some m → holds facts tables ≡ true → m ≡ latest_of tables
latest_is facts tables m is h =
    let same : nat_eq m (latest_of tables) ≡ true = ap (λ l. is_latest l tables) (sym is) ∙ (are_so facts tables h).latest in
    search (rules, same)

-- the state of a bucket
abbrev pub mode_of_bucket : Octets → Option State → Result BucketState Refusal
mode_of_bucket name s = result_map_both (λ (f : State × Bucket). f.1.mode) (λ refusal. refusal) (tenant_bucket name s)

same_state : (a b : BucketState) → nat_eq (state_number a) (state_number b) ≡ true → a ≡ b
same_state Unversioned Unversioned h = refl
same_state Enabled Enabled h = refl
same_state Suspended Suspended h = refl
same_state Unversioned Enabled h = absurd (true≢false (sym h))
same_state Unversioned Suspended h = absurd (true≢false (sym h))
same_state Enabled Unversioned h = absurd (true≢false (sym h))
same_state Enabled Suspended h = absurd (true≢false (sym h))
same_state Suspended Unversioned h = absurd (true≢false (sym h))
same_state Suspended Enabled h = absurd (true≢false (sym h))

same_itself : (a : BucketState) → nat_eq (state_number a) (state_number a) ≡ true
same_itself a = itself (state_number a)

no_ok : {r : Refusal} {state : BucketState} → Err r ≡ Ok state → ⊥
no_ok e = cc

module _ (name : Octets) (state : BucketState) where
  abbrev of_found : State → Option Bucket → Result BucketState Refusal
  of_found t o = result_map_both (λ (f : State × Bucket). f.1.mode) (λ refusal. refusal) (ok_or (option_map (λ b. (t, b)) o) NoSuchBucket)

  abbrev has : Option Bucket → Bool
  has o = option_map_or (λ (b : Bucket). nat_eq (state_number b.mode) (state_number state)) o false

  found_mode : (t : State) (o : Option Bucket) → has o ≡ true → of_found t o ≡ Ok state
  found_mode t None h = absurd (true≢false (sym h))
  found_mode t (Some b) h = ap Ok (same_state b.mode state h)

  mode_found : (t : State) (o : Option Bucket) → of_found t o ≡ Ok state → has o ≡ true
  mode_found t None h = absurd (no_ok h)
  mode_found t (Some b) h = let same : b.mode ≡ state = cc in ap (λ m. nat_eq (state_number b.mode) (state_number m)) (sym same) ∙ same_itself b.mode

  pub mode_by : (s : Option State) → has_state name state s ≡ true → mode_of_bucket name s ≡ Ok state
  mode_by None h = absurd (true≢false (sym h))
  mode_by (Some t) h = found_mode t (get t.buckets name) h

  pub state_by : (s : Option State) → mode_of_bucket name s ≡ Ok state → has_state name state s ≡ true
  state_by None h = absurd (no_ok h)
  state_by (Some t) h = mode_found t (get t.buckets name) h

-- the secret of an access key
module _ (known given : Octets) where
  same_given : bytes_eq given known ≡ true → given ≡ known
  same_given same = (bytes_decides given known).0 same

  -- against the key's own
  abbrev of_own : Octets → Option Octets → Result (Unit {0}) Refusal
  of_own secret o = ◌>>=◌ {A = Octets} {B = Unit {0}} (ok_or o InvalidAccessKeyId) (λ own. require (bytes_eq secret own) AccessDenied)

  abbrev allowed : Bool → Result (Unit {0}) Refusal
  allowed is_right = require is_right AccessDenied

  own_denies : (o : Option Octets) → is_ok (of_own known o) ≡ true → bytes_eq given known ≡ false → of_own given o ≡ Err AccessDenied
  own_denies None h other = absurd (true≢false (sym h))
  own_denies (Some own) h other = go (bytes_eq known own) refl h
    where
      go : (b : Bool) → bytes_eq known own ≡ b → is_ok (allowed b) ≡ true → allowed (bytes_eq given own) ≡ Err AccessDenied
      go true is h = ap allowed (ap (bytes_eq given) (sym ((bytes_decides known own).0 is)) ∙ other)
      go false is h = absurd (true≢false (sym h))

  module _ (s : Option State) where
    abbrev of_name : Octets → Option Octets → Result (Unit {0}) Refusal
    of_name secret o = ◌>>=◌ {A = Octets} {B = Unit {0}} (ok_or o InvalidAccessKeyId) (λ name. of_own secret (secret_of name s))

    name_denies : (o : Option Octets) → is_ok (of_name known o) ≡ true → bytes_eq given known ≡ false → of_name given o ≡ Err AccessDenied
    name_denies None h other = absurd (true≢false (sym h))
    name_denies (Some name) h other = own_denies (secret_of name s) h other

    module _ (key : AccessKeyId) (accepted : is_accepted (record { key = key; secret = known }) s ≡ true) where
      pub accepts_same : bytes_eq given known ≡ true → authenticate key given s ≡ Ok tt
      accepts_same same = ap (λ secret. authenticate key secret s) (same_given same) ∙ done (authenticate key known s) accepted
        where
          done : (r : Result (Unit {0}) Refusal) → is_ok r ≡ true → r ≡ Ok tt
          done (Ok u) h = refl
          done (Err e) h = absurd (true≢false (sym h))

      pub denies_other : bytes_eq given known ≡ false → authenticate key given s ≡ Err AccessDenied
      denies_other other = name_denies key.name accepted other
