-- A tenant's rows go, with the references of its bodies: the tenant is not there, and for the others nothing changes.
use Rattle.std.proofs.Common.{inl, inr, ◌≡◌, ◌≢◌, ℕ, pos, Bool, true, false, true≢false, cond, not, ◌&&◌, ◌||◌, List, [], ◌∷◌, map, filter, None, refl, sym, ap, ap₂, subst, ◌∙◌}
use Rattle.std.specs.List.{AllByRecursion, list_any}
use Rattle.std.specs.Ordering.{int_eq}
use Rattle.std.proofs.lemmas.Bool.{and_parts, or_parts, cases_Bool}
use Rattle.std.proofs.lemmas.List.Folds.{list_any-append}
use Rattle.sqlite_keyed.specs.Lists.{delete_where}
use Rattle.sqlite_keyed.proofs.ListLemmas.{all-filter, any_from_none, none_from_any}
use Rattle.sqlite_typed.specs.Tests.{bytes_eq}
use Rattle.sqlite_typed.proofs.TestLemmas.{same_bytes}
use Rattle.bh_model.specs.State.{Octets}
use Rattle.bh_tables.specs.Bodies.{version_name, part_name}
use Rattle.bh_tables.specs.Typed.{TenantRow, KeyRow, BucketRow, VersionRow, UploadRow, PartRow, LockRow, RetainRow, RefRow, Tables, no_rows}
use Rattle.bh_tables.specs.Shown.{Name, same_name, block_name, ref_name, body_name, is_of_body, is_version_of, is_part_used}
use Rattle.bh_view.specs.Grouped.{first, matching, same_number}
use Rattle.bh_view.specs.Blocks.{placed}
use Rattle.bh_view.specs.Bodies.{bodies_of, bodies_in, HasBodies}
use Rattle.bh_view.specs.View.{rows_of, state_shown, latest_of}
use Rattle.bh_view.specs.Sound.{AreSound, IsSound}
use Rattle.bh_view.specs.Becomes.{Becomes}
use Rattle.bh_view.specs.Removal.{is_ref_of, body_numbers, without_tenant}
use Rattle.bh_view.proofs.Keys.{octets}
use Rattle.bh_view.proofs.GroupedLemmas.{is_other}
use Rattle.bh_view.proofs.NameLemmas.{names, none_both, none_either}
use Rattle.bh_view.proofs.FactLemmas.{refers_deleted}
use Rattle.bh_view.proofs.FilterLemmas.{none_some, delete_all, delete_other, filter_swap, filter_both}
use Rattle.bh_view.proofs.HostChanges.{nothing_sound}
use Rattle.bh_view.proofs.OwnLemmas.{rows_at, others_deleted, within_own}
use Rattle.bh_view.proofs.BodyLemmas.{PlacesAre, places_same}
use Rattle.bh_view.proofs.LockChanges.{any_left}
use Rattle.bh_view.proofs.ViewLemmas.{view_is, same_view, same_latest, same_limits}

any_mapped : {X Y : Type 0} (f : X → Y) (p : Y → Bool) (xs : List X) → list_any p (map f xs) ≡ list_any (λ x. p (f x)) xs
any_mapped f p [] = refl
any_mapped f p (x ∷ xs) = ap (λ b. p (f x) || b) (any_mapped f p xs)

-- whether a reference is of one of these bodies of a tenant
abbrev pub is_of_one : Octets → List ℕ → RefRow → Bool
is_of_one t bodies r = list_any (λ n. is_of_body (t, n) r) bodies

module _ (old : Tables) (t : Octets) where
  abbrev after : Tables
  after = without_tenant t old

  -- ---- rows

  none_left : rows_of t after ≡ rows_of [] no_rows
  none_left = λ i. record {
    tenants = delete_all (λ (r : TenantRow). bytes_eq r.tenant t) old.tenants i;
    keys = delete_all (λ (r : KeyRow). bytes_eq r.tenant t) old.keys i;
    buckets = delete_all (λ (r : BucketRow). bytes_eq r.tenant t) old.buckets i;
    versions = delete_all (λ (r : VersionRow). bytes_eq r.tenant t) old.versions i;
    uploads = delete_all (λ (r : UploadRow). bytes_eq r.tenant t) old.uploads i;
    parts = delete_all (λ (r : PartRow). bytes_eq r.tenant t) old.parts i;
    locks = delete_all (λ (r : LockRow). bytes_eq r.tenant t) old.locks i;
    retains = delete_all (λ (r : RetainRow). bytes_eq r.tenant t) old.retains i;
  }

  its_own : {T : Type 0} (own : T → Octets) (rows : List T) (u : Octets) → u ≢ t → rows_at own u (delete_where (λ x. bytes_eq (own x) t) rows) ≡ rows_at own u rows
  its_own own rows u apart = others_deleted own t (λ x. bytes_eq (own x) t) (within_own own t) rows u apart

  others_left : (u : Octets) → u ≢ t → rows_of u after ≡ rows_of u old
  others_left u apart = λ i. record {
    tenants = its_own (λ (r : TenantRow). r.tenant) old.tenants u apart i;
    keys = its_own (λ (r : KeyRow). r.tenant) old.keys u apart i;
    buckets = its_own (λ (r : BucketRow). r.tenant) old.buckets u apart i;
    versions = its_own (λ (r : VersionRow). r.tenant) old.versions u apart i;
    uploads = its_own (λ (r : UploadRow). r.tenant) old.uploads u apart i;
    parts = its_own (λ (r : PartRow). r.tenant) old.parts u apart i;
    locks = its_own (λ (r : LockRow). r.tenant) old.locks u apart i;
    retains = its_own (λ (r : RetainRow). r.tenant) old.retains u apart i;
  }

  pub tenant_gone : IsSound old → Becomes t None old after
  tenant_gone sound =
      let latest = same_latest old after refl in
      record {
        shown = view_is after t ∙ ap state_shown none_left;
        others = λ u apart. same_view u old after (others_left u apart);
        latest = latest;
        limits = same_limits old after refl;
        sound = record {
          host = sound.host;
          tenants = λ u. elim (bytes_eq u t) as (λ b. bytes_eq u t ≡ b → AreSound (latest_of after) (rows_of u after)) [
            | true ↦ λ e. subst (λ z. AreSound (latest_of after) (rows_of z after)) (sym ((octets.decides u t).0 e)) (subst (AreSound (latest_of after)) (sym none_left) (nothing_sound (latest_of after)))
            | false ↦ λ e. subst (λ n. AreSound n (rows_of u after)) (sym latest) (subst (AreSound (latest_of old)) (sym (others_left u (λ h. true≢false (sym ((octets.decides u t).1 h) ∙ e)))) (sound.tenants u))
          ] refl;
          stored = record { one = sound.stored.one; once = sound.stored.once; named = refers_deleted names block_name ref_name old.blocks old.refs (is_ref_of t) sound.stored.named };
        };
      }

  -- ---- bodies

  its_refs : (n : ℕ) → matching same_name body_name (t, n) after.refs ≡ []
  its_refs n = sym (filter_both (is_ref_of t) (λ r. int_eq (pos r.body) (pos n)) after.refs) ∙ ap (filter (λ (r : RefRow). int_eq (pos r.body) (pos n))) (delete_all (is_ref_of t) old.refs)

  module _ (body : Name) (other : bytes_eq body.0 t ≡ false) where
    -- what has its name has another tenant
    apart_from : (z : Octets) → bytes_eq z body.0 ≡ true → bytes_eq z t ≡ false
    apart_from z is = ap (λ o. bytes_eq o t) (same_bytes z body.0 is) ∙ other

    apart_to : (z : Octets) → bytes_eq body.0 z ≡ true → bytes_eq z t ≡ false
    apart_to z is = ap (λ o. bytes_eq o t) (sym (same_bytes body.0 z is)) ∙ other

    refs_left : matching same_name body_name body after.refs ≡ matching same_name body_name body old.refs
    refs_left = delete_other (λ (r : RefRow). same_name (body_name r) body) (is_ref_of t) old.refs (λ r is. apart_from r.tenant (and_parts _ _ is).0)

    named_left : list_any (same_name body) (bodies_in after) ≡ list_any (same_name body) (bodies_in old)
    named_left =
        list_any-append (same_name body) (bodies_of after.versions) (map part_name after.parts)
        ∙ ap₂ ◌||◌
        (any_mapped version_name (same_name body) (filter (λ (v : VersionRow). same_number v.marker 0) after.versions)
        ∙ ap (list_any (λ (v : VersionRow). same_name body (version_name v))) (filter_swap (λ (v : VersionRow). same_number v.marker 0) (λ v. not (is_version_of t v)) old.versions)
        ∙ any_left (λ (v : VersionRow). same_name body (version_name v)) (is_version_of t) (λ v is. apart_to v.tenant (and_parts _ _ is).0) (filter (λ (v : VersionRow). same_number v.marker 0) old.versions)
        ∙ sym (any_mapped version_name (same_name body) (filter (λ (v : VersionRow). same_number v.marker 0) old.versions)))
        (any_mapped part_name (same_name body) after.parts ∙ any_left (λ (p : PartRow). same_name body (part_name p)) (is_part_used t) (λ p is. apart_to p.tenant (and_parts _ _ is).0) old.parts ∙ sym (any_mapped part_name (same_name body) old.parts))
        ∙ sym (list_any-append (same_name body) (bodies_of old.versions) (map part_name old.parts))

  its_body : (body : Name) → bytes_eq body.0 t ≡ true → matching same_name body_name body after.refs ≡ []
  its_body body is = subst (λ z. matching same_name body_name (z, body.1) after.refs ≡ []) (sym (same_bytes body.0 t is)) (its_refs body.1)

  pub bodies_left : HasBodies old → HasBodies after
  bodies_left b = record {
    placed = λ body. elim (bytes_eq body.0 t) as (λ s. bytes_eq body.0 t ≡ s → PlacesAre after.refs body) [
      | true ↦ λ e. places_same after.refs [] body (its_body body e) refl
      | false ↦ λ e. places_same after.refs old.refs body (refs_left body e) (b.placed body)
    ] refl;
    owned = λ body none. elim (bytes_eq body.0 t) as (λ s. bytes_eq body.0 t ≡ s → matching same_name body_name body after.refs ≡ []) [
      | true ↦ λ e. its_body body e
      | false ↦ λ e. refs_left body e ∙ b.owned body (sym (named_left body e) ∙ none)
    ] refl;
    measured = all-filter _ _ old.refs b.measured;
  }

  -- ---- the references of its bodies are those that have its name

  -- each reference is of a body that a version or a part has
  all_owned : (bodies : List Name) (rs : List RefRow) → ((body : Name) → list_any (same_name body) bodies ≡ false → matching same_name body_name body rs ≡ []) → AllByRecursion (λ r. list_any (same_name (body_name r)) bodies ≡ true) rs
  all_owned bodies [] none = tt
  all_owned bodies (r ∷ rs) none = (
    elim (cases_Bool (list_any (same_name (body_name r)) bodies)) [
      | inl there ↦ there
      | inr away ↦ absurd (none_some (sym (ap (λ b. first (cond b (r ∷ matching same_name body_name (body_name r) rs) (matching same_name body_name (body_name r) rs))) (sym ((names.decides (body_name r) (body_name r)).1 refl)) ∙ ap first (none (body_name r) away))))
    ],
    all_owned bodies rs (λ body away. elim (same_name (body_name r) body) as (λ b. cond b (r ∷ matching same_name body_name body rs) (matching same_name body_name body rs) ≡ [] → matching same_name body_name body rs ≡ []) [
      | true ↦ λ some. absurd (none_some (sym (ap first some)))
      | false ↦ λ h. h
    ] (none body away)),
  )

  module _ (q : Name) (its : q.0 ≡ t) where
    -- a name that is none of the tenant's rows' is none of all rows'
    none_named : {X : Type 0} (own : X → Octets) (key : X → ℕ) (xs : List X) → list_any (λ n. same_name q (t, n)) (map key (filter (λ x. bytes_eq (own x) t) xs)) ≡ false → list_any (λ x. same_name q (own x, key x)) xs ≡ false
    none_named own key [] none = refl
    none_named {X} own key (x ∷ xs) none = go (bytes_eq (own x) t) refl none (none_named own key xs)
      where
        rest : (b : Bool) → list_any (λ n. same_name q (t, n)) (map key (cond b (x ∷ filter (λ x. bytes_eq (own x) t) xs) (filter (λ x. bytes_eq (own x) t) xs))) ≡ false → list_any (λ n. same_name q (t, n)) (map key (filter (λ x. bytes_eq (own x) t) xs)) ≡ false
        rest true h = (or_parts _ _ h).1
        rest false h = h

        here : (b : Bool) → bytes_eq (own x) t ≡ b → list_any (λ n. same_name q (t, n)) (map key (cond b (x ∷ filter (λ x. bytes_eq (own x) t) xs) (filter (λ x. bytes_eq (own x) t) xs))) ≡ false → same_name q (own x, key x) ≡ false
        here true is h = ap (λ o. same_name q (o, key x)) (same_bytes (own x) t is) ∙ (or_parts _ _ h).0
        here false is h = ap (λ b. b && int_eq (pos q.1) (pos (key x))) (is_other octets q.0 (own x) (λ e. true≢false (sym ((octets.decides (own x) t).1 (sym e ∙ its)) ∙ is)))

        go : (b : Bool) → bytes_eq (own x) t ≡ b → list_any (λ n. same_name q (t, n)) (map key (cond b (x ∷ filter (λ x. bytes_eq (own x) t) xs) (filter (λ x. bytes_eq (own x) t) xs))) ≡ false
            → (list_any (λ n. same_name q (t, n)) (map key (filter (λ x. bytes_eq (own x) t) xs)) ≡ false → list_any (λ x. same_name q (own x, key x)) xs ≡ false) → list_any (λ x. same_name q (own x, key x)) (x ∷ xs) ≡ false
        go b is h later = ap₂ ◌||◌ (here b is h) (later (rest b h))

  fewer : {X : Type 0} (p m : X → Bool) (xs : List X) → list_any p xs ≡ false → list_any p (filter m xs) ≡ false
  fewer p m xs none = any_from_none p (filter m xs) (all-filter (λ x. p x ≡ false) m xs (none_from_any p xs none))

  pub refs_of_all : HasBodies old → delete_where (is_of_one t (body_numbers t old)) old.refs ≡ delete_where (is_ref_of t) old.refs
  refs_of_all b = each old.refs (all_owned (bodies_in old) old.refs b.owned)
    where
      -- one that has the tenant's name has one of its bodies
      away : (r : RefRow) → bytes_eq r.tenant t ≡ true → is_of_one t (body_numbers t old) r ≡ false → list_any (same_name (body_name r)) (bodies_in old) ≡ false
      away r is none =
          let parts = none_both (λ n. same_name (body_name r) (t, n)) (map (λ (v : VersionRow). v.seq) (filter (is_version_of t) old.versions)) (map (λ (p : PartRow). p.body) (filter (is_part_used t) old.parts)) none in
          let its = same_bytes r.tenant t is in
          none_either (same_name (body_name r)) (bodies_of old.versions) (map part_name old.parts)
          (any_mapped version_name (same_name (body_name r)) (filter (λ (v : VersionRow). same_number v.marker 0) old.versions)
          ∙ fewer (λ (v : VersionRow). same_name (body_name r) (version_name v)) (λ (v : VersionRow). same_number v.marker 0) old.versions (none_named (body_name r) its (λ (v : VersionRow). v.tenant) (λ v. v.seq) old.versions parts.0))
          (any_mapped part_name (same_name (body_name r)) old.parts ∙ none_named (body_name r) its (λ (p : PartRow). p.tenant) (λ p. p.body) old.parts parts.1)

      off : (r : RefRow) (bodies : List ℕ) → bytes_eq r.tenant t ≡ false → is_of_one t bodies r ≡ false
      off r [] is = refl
      off r (n ∷ bodies) is = ap₂ ◌||◌ (ap (λ b. b && int_eq (pos r.body) (pos n)) is) (off r bodies is)

      same : (r : RefRow) → list_any (same_name (body_name r)) (bodies_in old) ≡ true → is_of_one t (body_numbers t old) r ≡ is_ref_of t r
      same r there = elim (cases_Bool (bytes_eq r.tenant t)) [
        | inl is ↦ elim (cases_Bool (is_of_one t (body_numbers t old) r)) [
          | inl one ↦ one ∙ sym is
          | inr none ↦ absurd (true≢false (sym there ∙ away r is none))
        ]
        | inr is ↦ off r (body_numbers t old) is ∙ sym is
      ]

      each : (rs : List RefRow) → AllByRecursion (λ r. list_any (same_name (body_name r)) (bodies_in old) ≡ true) rs → delete_where (is_of_one t (body_numbers t old)) rs ≡ delete_where (is_ref_of t) rs
      each [] all = refl
      each (r ∷ rs) all = ap₂ (λ b l. cond (not b) (r ∷ l) l) (same r all.0) (each rs all.1)
