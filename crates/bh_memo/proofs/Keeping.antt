-- What is remembered of a tenant stays so while its buckets keep their states and rules, and it its keys.
use Rattle.std.proofs.Common.{◌≡◌, ◌≢◌, ℕ, Bool, true, false, true≢false, nat_eq, cond, List, [], ◌∷◌, Option, Some, None, is_none, option_map, option_and_then, is_eq, refl, sym, ap, ◌∙◌, subst}
use Rattle.std.specs.List.{list_all, filter_map, cons_option}
use Rattle.std.specs.Option.{option_map_or}
use Rattle.std.specs.Cmp.{Equal-is}
use Rattle.std.specs.Cmp.Derive.{both_true}
use Rattle.std.specs.FinMap.{FinMap, entries, get, insert, get-entries, get-insert, entries-insert}
use Rattle.sqlite_typed.specs.Tests.{bytes_eq}
use Rattle.bh_types.specs.BucketStates.{state_number}
use Rattle.bh_types.specs.declared.bucket_state.BucketState.{BucketState}
use Rattle.bh_model.specs.FinMaps.{adjusted}
use Rattle.bh_model.specs.Runs.{purged_tenant}
use Rattle.bh_model.specs.State.{Octets, octets_cmp, Bucket, State, purged, purged_bucket}
use Rattle.bh_model.proofs.MapLemmas.{get-adjusted}
use Rattle.bh_tables.specs.Typed.{Tables}
use Rattle.bh_view.specs.View.{view, latest_of}
use Rattle.bh_view.proofs.Keys.{octets}
use Rattle.bh_memo.specs.Facts.{Facts, has_no_rule, has_state, is_accepted, holds}
use Rattle.bh_memo.specs.declared.facts.KnownSecret.{KnownSecret}
use Rattle.bh_memo.proofs.Holding.{are_so, holds_by, same_latest_fact}
use Rattle.bh_memo.proofs.Rules.{found_of, put_of, made_of}

-- each fact of a tenant is so of a later state
pub record Keeps (s after : Option State) : Type 0 where
  pub ruleless : has_no_rule s ≡ true → has_no_rule after ≡ true
  pub states : (name : Octets) (state : BucketState) → has_state name state s ≡ true → has_state name state after ≡ true
  pub secrets : (k : KnownSecret) → is_accepted k s ≡ true → is_accepted k after ≡ true

abbrev is_in_state : BucketState → Option Bucket → Bool
is_in_state state o = option_map_or (λ (x : Bucket). nat_eq (state_number x.mode) (state_number state)) o false

pub keeps_same : (s : Option State) → Keeps s s
keeps_same s = record { ruleless = λ h. h; states = λ name state h. h; secrets = λ k h. h }

-- ---- one bucket is put in place of the one of its name, with its state and its rule

module _ (t r : State) (name : Octets) (b c : Bucket) (there : get t.buckets name ≡ Some b) (mode : c.mode ≡ b.mode) (days : c.days ≡ b.days)
    (keys : r.keys ≡ t.keys) (buckets : r.buckets ≡ insert t.buckets name c) where
  abbrev ruled_not : Bucket → Bool
  ruled_not x = is_none x.days

  put_ruleless : has_no_rule (Some t) ≡ true → has_no_rule (Some r) ≡ true
  put_ruleless none =
      let own : ruled_not b ≡ true = found_of ruled_not name (entries t.buckets) b (sym (get-entries t.buckets name) ∙ there) none in
      ap (λ (m : FinMap octets_cmp Bucket). has_no_rule (Some (record t { buckets = m }))) buckets
      ∙ ap (λ es. put_all es) (entries-insert octets.total t.buckets name c)
      ∙ put_of ruled_not name c (entries t.buckets) (ap is_none days ∙ own) none
    where
      put_all : List (Octets × Bucket) → Bool
      put_all es = list_all (λ (e : Octets × Bucket). is_none e.1.days) es

  module _ (q : Octets) (state : BucketState) where
    abbrev is_so : Option Bucket → Bool
    is_so = is_in_state state

    own : is_so (Some b) ≡ true → is_so (Some c) ≡ true
    own h = ap (λ m. nat_eq (state_number m) (state_number state)) mode ∙ h

    put_state : has_state q state (Some t) ≡ true → has_state q state (Some r) ≡ true
    put_state h =
        ap (λ (m : FinMap octets_cmp Bucket). is_so (get m q)) buckets
        ∙ ap is_so (get-insert octets.total t.buckets name c q)
        ∙ elim (is_eq (octets_cmp q name)) as (λ here. is_eq (octets_cmp q name) ≡ here → is_so (cond here (Some c) (get t.buckets q)) ≡ true) [
          | true ↦ λ e. own (sym (ap is_so (ap (get t.buckets) (octets.same q name ((Equal-is _).0 e)) ∙ there)) ∙ h)
          | false ↦ λ e. h
        ] refl

  put_secret : (k : KnownSecret) → is_accepted k (Some t) ≡ true → is_accepted k (Some r) ≡ true
  put_secret k h = ap (λ (m : FinMap octets_cmp Octets). is_accepted k (Some (record t { keys = m }))) keys ∙ h

  pub bucket_put : Keeps (Some t) (Some r)
  bucket_put = record { ruleless = put_ruleless; states = put_state; secrets = put_secret }

-- ---- stale uploads go

module _ (t : State) (at : ℕ) where
  abbrev purge : Bucket → Option Bucket
  purge b = Some (purged_bucket at b)

  module _ (none : has_no_rule (Some t) ≡ true) where
    abbrev unruled : List (Octets × Bucket) → Bool
    unruled es = list_all (λ (e : Octets × Bucket). is_none e.1.days) es

    one_unruled : (q : Octets) (es : List (Octets × Bucket)) → unruled es ≡ true → (o : Option Bucket) → get t.buckets q ≡ o
        → unruled (cons_option (option_map (λ x. (q, x)) (option_and_then purge o)) es) ≡ true
    one_unruled q es rest None is = rest
    one_unruled q es rest (Some b) is =
        both_true (found_of (λ (x : Bucket). is_none x.days) q (entries t.buckets) b (sym (get-entries t.buckets q) ∙ is) none) rest

    all_unruled : (items : List (Octets × Bucket))
        → unruled (filter_map (λ (e : Octets × Bucket). option_map (λ x. (e.0, x)) (option_and_then purge (get t.buckets e.0))) items) ≡ true
    all_unruled [] = refl
    all_unruled (e ∷ items) = one_unruled e.0 _ (all_unruled items) (get t.buckets e.0) refl

    purged_ruleless : has_no_rule (Some (purged t at)) ≡ true
    unfolding adjusted
    purged_ruleless = made_of (λ (x : Bucket). is_none x.days) _ (all_unruled (entries t.buckets))

  purged_state : (q : Octets) (state : BucketState) → has_state q state (Some t) ≡ true → has_state q state (Some (purged t at)) ≡ true
  purged_state q state h =
      ap (is_in_state state) (get-adjusted octets.total octets.same purge t.buckets q) ∙ go (get t.buckets q) h
    where
      go : (o : Option Bucket) → is_in_state state o ≡ true → is_in_state state (option_and_then purge o) ≡ true
      go None h = absurd (true≢false (sym h))
      go (Some b) h = h

pub purge_keeps : (s : Option State) (at : ℕ) → Keeps s (purged_tenant s at)
purge_keeps None at = keeps_same None
purge_keeps (Some t) at = record { ruleless = purged_ruleless t at; states = purged_state t at; secrets = λ k h. h }

-- ---- a tenant's state changes so, and no other tenant sees a change

module _ (t : Octets) (old new : Tables) (others : (u : Octets) → u ≢ t → view new u ≡ view old u) where
  each : (P : Option State → Type 0) → (P (view old t) → P (view new t)) → (u : Octets) → P (view old u) → P (view new u)
  each P own u was = elim (bytes_eq u t) as (λ b. bytes_eq u t ≡ b → P (view new u)) [
    | true ↦ λ e. let same = (octets.decides u t).0 e in subst (λ z. P (view new z)) (sym same) (own (subst (λ z. P (view old z)) same was))
    | false ↦ λ e. subst P (sym (others u (λ same. true≢false (sym ((octets.decides u t).1 same) ∙ e)))) was
  ] refl

  pub holds_kept : (facts : Facts) → Keeps (view old t) (view new t) → latest_of new ≡ latest_of old → holds facts old ≡ true → holds facts new ≡ true
  holds_kept facts keeps latest h =
      let so = are_so facts old h in
      holds_by facts new (record {
        latest = same_latest_fact facts.latest old new latest so.latest;
        quiet = λ u there. each (λ s. has_no_rule s ≡ true) keeps.ruleless u (so.quiet u there);
        buckets = λ b there. each (λ s. has_state b.bucket b.state s ≡ true) (keeps.states b.bucket b.state) b.tenant (so.buckets b there);
        secrets = λ k there. each (λ s. is_accepted k s ≡ true) (keeps.secrets k) k.key.tenant (so.secrets k there);
      })
