-- That a tenant goes whole, and only once the dates of its versions are over.
use Rattle.std.proofs.Common.{◌≡◌, ℕ, ◌<◌, Bool, true, false, true≢false, cond, not, ◌||◌, nat_lt, T, List, [], ◌∷◌, Option, Some, None, refl, sym, ap, ap₂, ◌∙◌, arith, lt-ltb, is_eq}
use Rattle.std.specs.List.{list_any}
use Rattle.std.specs.Ordering.{eq_by_cmp}
use Rattle.std.specs.Cmp.{IsTotalOrder, Equal-is}
use Rattle.std.proofs.lemmas.Cmp.{tied_itself}
use Rattle.std.specs.FinMap.{FinMap, IsAntisymmetric, entries, entries_sorted, find, get, get-entries, is_sorted}
use Rattle.std.specs.FinMap.Entries.{below_all}
use Rattle.std.specs.declared.cmp.Ordering.{Ordering}
use Rattle.std.proofs.lemmas.Option.{none-some, same_Some}
use Rattle.bh_types.specs.Names.{is_tenant_name}
use Rattle.bh_types.specs.declared.id.VersionId.{VersionId}
use Rattle.bh_types.specs.declared.id.VersionId.TheVariants.{Null, Numbered}
use Rattle.bh_types.specs.declared.refusal.Refusal.TheVariants.{InvalidName, TenantNotEmpty, TenantRetained}
use Rattle.bh_model.specs.FinMaps.{any_value, is_empty}
use Rattle.bh_model.specs.State.{Octets, Bucket, State, absent}
use Rattle.bh_model.specs.Laws.{GoesOrRises, RemovedTenantIsUnknown}
use Rattle.bh_model.specs.Operations.{remove_tenant}
use Rattle.bh_model.specs.QuotaLaws.{UsesNoMore}
use Rattle.bh_model.specs.Retained.{Retained, IsNotBefore, IsRetained}
use Rattle.bh_model.specs.Retention.{date_of, bucket_retains, retains}
use Rattle.bh_model.specs.RetentionLaws.{DatedTenantStays}
use Rattle.bh_model.proofs.BoundLemmas.{KeepsBound}
use Rattle.bh_model.proofs.Changes.{Always, Removal}
use Rattle.bh_model.proofs.IdLemmas.{KeepsIds}
use Rattle.bh_model.proofs.KeyLemmas.{tested}
use Rattle.bh_model.proofs.MapLemmas.{left, right, find_below}
use Rattle.bh_model.proofs.RetainedLemmas.{KeepsRetained}

-- a value at a key is some value
module _ {K X : Type 0} (R : K → K → Ordering) (test : X → Bool) where
  found_any : (q : K) (es : List (K × X)) (x : X) → find R q es ≡ Some x → test x ≡ true → list_any (λ e. test e.1) es ≡ true
  found_any q [] x is passes = absurd (none-some x is)
  found_any q (e ∷ es) x is passes = here (eq_by_cmp R q e.0) (λ rest. found_any q es x rest passes) is
    where
      later : (b : Bool) {c : Bool} → c ≡ true → b || c ≡ true
      later true h = refl
      later false h = h

      here : (b : Bool) → (find R q es ≡ Some x → list_any (λ e. test e.1) es ≡ true) → cond b (Some e.1) (find R q es) ≡ Some x → test e.1 || list_any (λ e. test e.1) es ≡ true
      here true more is = ap (λ y. test y || list_any (λ e. test e.1) es) (same_Some e.1 x is) ∙ ap (λ b. b || list_any (λ e. test e.1) es) passes
      here false more is = later (test e.1) (more is)

pub got_any : {K X : Type 0} {R : K → K → Ordering} (test : X → Bool) (m : FinMap R X) (q : K) (x : X) → get m q ≡ Some x → test x ≡ true → any_value test m ≡ true
unfolding any_value
got_any {R = R} test m q x is passes = found_any R test q (entries m) x (sym (get-entries m q) ∙ is) passes

-- and if no value at a key passes, none does
module _ {K X : Type 0} (R : K → K → Ordering) (total : IsTotalOrder R) (same : IsAntisymmetric R) (test : X → Bool) where
  none_found : (es : List (K × X)) → T (is_sorted R es) → ((q : K) (x : X) → find R q es ≡ Some x → test x ≡ false) → list_any (λ e. test e.1) es ≡ false
  none_found [] up none = refl
  none_found (e ∷ es) up none =
      ap₂ ◌||◌ (none e.0 e.1 (ap (λ o. cond (is_eq o) (Some e.1) (find R e.0 es)) (tied_itself total e.0)))
      (none_found es (right (below_all R e.0 es) (is_sorted R es) up) (λ q x is. none q x (later q x is (eq_by_cmp R q e.0) refl)))
    where
      later : (q : K) (x : X) → find R q es ≡ Some x → (b : Bool) → eq_by_cmp R q e.0 ≡ b → cond b (Some e.1) (find R q es) ≡ Some x
      later q x is false other = is
      later q x is true tied = absurd (none-some x (sym (ap (λ k. find R k es) (same q e.0 ((Equal-is _).0 tied)) ∙ find_below R e.0 es (left (below_all R e.0 es) (is_sorted R es) up)) ∙ is))

  pub none_got : (m : FinMap R X) → ((q : K) (x : X) → get m q ≡ Some x → test x ≡ false) → any_value test m ≡ false
  unfolding any_value
  none_got m none = none_found (entries m) (entries_sorted m) (λ q x is. none q x (get-entries m q ∙ is))

-- so a date that isn't over is told of its tenant
dated_retains : (moment : ℕ) (key : Octets) (id : VersionId) (b : Bucket) (date : ℕ) → date_of key id b ≡ Some date → moment < date → bucket_retains moment b ≡ true
dated_retains moment key Null b date is late = absurd (none-some date is)
dated_retains moment key (Numbered n) b date is late = got_any (nat_lt moment) b.dates (key, n) date is (lt-ltb moment date late)

pub retains_dated : (moment : ℕ) (name key : Octets) (id : VersionId) (t : State) (b : Bucket) (date : ℕ) → get t.buckets name ≡ Some b → date_of key id b ≡ Some date → moment < date → retains moment t ≡ true
retains_dated moment name key id t b date there is late = got_any (bucket_retains moment) t.buckets name b there (dated_retains moment key id b date is late)

pub dated_tenant_stays : DatedTenantStays
dated_tenant_stays moment tenant name key id t b date there is late good = rw (good, retains_dated moment name key id t b date there is late) refl

-- what holds of its absence holds after it
gone : (R : Option State → Option State → Type 0) (moment : ℕ) → ((t : State) → retains moment t ≡ false → R (Some t) absent) → Removal R moment
gone R moment h = record { tenant_removed = removed }
  where
    unretained : (b : Bool) → not b ≡ true → b ≡ false
    unretained true is = absurd (true≢false (sym is))
    unretained false is = refl

    removed : (name : Octets) (with_objects : Bool) → Always R (remove_tenant moment name with_objects)
    removed name with_objects None = tested (is_tenant_name name) tt InvalidName _ _ (λ _. tt)
    removed name with_objects (Some t) =
        tested (is_tenant_name name) tt InvalidName _ _ (λ _.
        tested (with_objects || is_empty t.buckets) tt TenantNotEmpty _ _ (λ _.
        tested (not (retains moment t)) tt TenantRetained _ _ (λ none. h t (unretained (retains moment t) none))))

pub removal_keeps_ids : (moment : ℕ) → Removal KeepsIds moment
removal_keeps_ids moment = gone KeepsIds moment (λ t none all. tt)

pub removal_keeps_bound : (moment : ℕ) → Removal KeepsBound moment
removal_keeps_bound moment = gone KeepsBound moment (λ t none bound. tt)

pub removal_uses_no_more : (moment : ℕ) → Removal UsesNoMore moment
removal_uses_no_more moment = gone UsesNoMore moment (λ t none. omega arith)

pub removal_goes : (moment : ℕ) → Removal GoesOrRises moment
removal_goes moment = gone GoesOrRises moment (λ t none. tt)

pub removal_keeps_retained : (r : Retained) (moment : ℕ) → moment < r.until → Removal (KeepsRetained r) moment
removal_keeps_retained r moment early = gone (KeepsRetained r) moment (λ t none all was. absurd (true≢false (sym (standing t was) ∙ none)))
  where
    dated : (b : Bucket) (o : Option ℕ) → date_of r.key (Numbered r.number) b ≡ o → IsNotBefore r.until o → bucket_retains moment b ≡ true
    dated b None is h = absurd h
    dated b (Some date) is h = dated_retains moment r.key (Numbered r.number) b date is (omega (arith, early, h))

    standing : (t : State) → IsRetained r (Some t) → retains moment t ≡ true
    standing t (b, there, kept) = got_any (bucket_retains moment) t.buckets r.bucket b there (dated b (date_of r.key (Numbered r.number) b) refl kept.dated)

pub removed_tenant_is_unknown : RemovedTenantIsUnknown
removed_tenant_is_unknown moment tenant with_objects None = tested (is_tenant_name tenant) tt InvalidName _ _ (λ _. tt)
removed_tenant_is_unknown moment tenant with_objects (Some t) =
    tested (is_tenant_name tenant) tt InvalidName _ _ (λ _.
    tested (with_objects || is_empty t.buckets) tt TenantNotEmpty _ _ (λ _.
    tested (not (retains moment t)) tt TenantRetained _ _ (λ _. (refl, λ name secret. refl))))
