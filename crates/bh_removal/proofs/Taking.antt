-- A tenant's rows go, and then its bodies: the tables are those without the tenant.
use Rattle.std.proofs.Common.{◌≡◌, ℕ, pos, Bool, true, false, true≢false, not, ◌&&◌, cond, List, [], ◌∷◌, Ok, refl, sym, ap, subst, ◌∙◌}
use Rattle.std.specs.List.{AllByRecursion}
use Rattle.sqlite.specs.State.{State}
use Rattle.std.specs.Ordering.{int_eq}
use Rattle.sqlite_keyed.specs.Lists.{delete_where}
use Rattle.sqlite_keyed.proofs.ListLemmas.{all-filter}
use Rattle.sqlite_typed.specs.Tests.{bytes_eq}
use Rattle.bh_model.specs.State.{Octets}
use Rattle.bh_tables.specs.Bodies.{version_name, part_name}
use Rattle.bh_tables.specs.Removal.{without_rows}
use Rattle.bh_tables.specs.Shown.{same_name, is_of_body, is_version_of, is_part_used}
use Rattle.bh_tables.specs.Typed.{VersionRow, PartRow, RefRow, Tables}
use Rattle.bh_view.specs.Bodies.{HasBodies, IsResolved, IsUnnamed}
use Rattle.bh_view.specs.Removal.{body_numbers, without_tenant}
use Rattle.bh_view.specs.Sound.{IsSound}
use Rattle.bh_view.specs.View.{view, latest_of, limits_in}
use Rattle.bh_view.proofs.Keys.{octets}
use Rattle.bh_view.proofs.GroupedLemmas.{is_other}
use Rattle.bh_view.proofs.NameLemmas.{each_unnamed}
use Rattle.bh_view.proofs.RemovalChanges.{is_of_one, refs_of_all, tenant_gone, bodies_left}
use Rattle.bh_view.proofs.ResolvedLemmas.{rebodied_same, unnamed_stays}
use Rattle.bh_view.proofs.SharedLemmas.{shared_same}
use Rattle.bh_view.proofs.WholeLemmas.{refs_dropped}
use Rattle.bh_storage.specs.Calls.{GivesStep}
use Rattle.bh_base.specs.Layer.{standing, IsInside}
use Rattle.bh_schema.specs.Working.{tables_at, IsWorking, StillWorking}
use Rattle.bh_objects.proofs.Working.{still_working}
use Rattle.bh_objects.proofs.Written.{IsHostOf}
use Rattle.bh_uploads.specs.Writes.{without_bodies}
use Rattle.bh_uploads.proofs.Gone.{deleted_twice}
use Rattle.bh_model.specs.Operations.{Done}
use Rattle.bh_removal.specs.Removal.{leaves, may_be_removed, taken_away}
use Rattle.bh_removal.proofs.Deciding.{removed_so}

all_kept : (rs : List RefRow) → rs ≡ delete_where (λ _. false) rs
all_kept [] = refl
all_kept (r ∷ rs) = ap (λ l. r ∷ l) (all_kept rs)

-- ---- bodies that no row has

module _ (t : Octets) where
  pub dropped_alone : (bodies : List ℕ) (x : Tables) → IsResolved x → ((n : ℕ) → IsUnnamed (t, n) x) → without_bodies t bodies x ≡ record x { refs = delete_where (is_of_one t bodies) x.refs }
  dropped_alone [] x resolved unnamed = ap (λ rs. record x { refs = rs }) (all_kept x.refs)
  dropped_alone (n ∷ bodies) x resolved unnamed =
      let left = delete_where (is_of_body (t, n)) x.refs in
      let y : Tables = record x { refs = left } in
      let resolved_y = unnamed_stays x (t, n) (unnamed n) resolved left x.blocks [] (refs_dropped x.refs x.blocks (t, n)) in
      ap (without_bodies t bodies) (rebodied_same x left x.blocks resolved_y)
      ∙ dropped_alone bodies y resolved_y (λ m. record { versions = (unnamed m).versions; parts = (unnamed m).parts })
      ∙ ap (λ rs. record x { refs = rs }) (deleted_twice (is_of_body (t, n)) (is_of_one t bodies) x.refs)

  -- those of a tenant whose rows are gone
  each_other : {X : Type 0} (own : X → Octets) (key : X → ℕ) (n : ℕ) (xs : List X) → AllByRecursion (λ x. same_name (t, n) (own x, key x) ≡ false) (delete_where (λ x. bytes_eq (own x) t) xs)
  each_other own key n [] = tt
  each_other {X} own key n (x ∷ xs) = go (bytes_eq (own x) t) refl (each_other own key n xs)
    where
      go : (b : Bool) → bytes_eq (own x) t ≡ b → AllByRecursion (λ x. same_name (t, n) (own x, key x) ≡ false) (delete_where (λ x. bytes_eq (own x) t) xs) → AllByRecursion (λ x. same_name (t, n) (own x, key x) ≡ false) (cond (not b) (x ∷ delete_where (λ x. bytes_eq (own x) t) xs) (delete_where (λ x. bytes_eq (own x) t) xs))
      go true is rest = rest
      go false is rest = (unnamed_here is, rest)
        where
          unnamed_here : bytes_eq (own x) t ≡ false → same_name (t, n) (own x, key x) ≡ false
          unnamed_here is = ap (λ b. b && int_eq (pos n) (pos (key x))) (is_other octets t (own x) (λ e. true≢false (sym ((octets.decides (own x) t).1 (sym e)) ∙ is)))

  pub taken_is : (old : Tables) → IsHostOf old → taken_away t (body_numbers t old) old ≡ without_tenant t old
  taken_is old host =
      dropped_alone (body_numbers t old) (without_rows t old)
      (record { versions = all-filter _ _ old.versions host.resolved.versions; parts = all-filter _ _ old.parts host.resolved.parts })
      (λ n. record {
        versions = each_unnamed version_name (t, n) (delete_where (is_version_of t) old.versions) (each_other (λ (v : VersionRow). v.tenant) (λ v. v.seq) n old.versions);
        parts = each_unnamed part_name (t, n) (delete_where (is_part_used t) old.parts) (each_other (λ (p : PartRow). p.tenant) (λ p. p.body) n old.parts);
      })
      ∙ ap (λ rs. record (without_rows t old) { refs = rs }) (refs_of_all old t host.bodies)

-- ---- so the tenant is absent, and the others stay

pub still_without : (t : Octets) (old new : State) → IsWorking old → IsInside (standing new) → tables_at new ≡ without_tenant t (tables_at old) → StillWorking old new
still_without t old new works inside is =
    let gone = tenant_gone (tables_at old) t works.sound in
    still_working old new inside (subst IsSound (sym is) gone.sound) (subst HasBodies (sym is) (bodies_left (tables_at old) t works.bodies)) (ap limits_in is ∙ gone.limits) (ap (λ (x : Tables). x.blocks) is)

pub gives_absence : (t : Octets) (moment : ℕ) (with_objects : Bool) (old mid new : Tables) → IsSound old → may_be_removed moment with_objects (view old t) ≡ Ok tt → mid ≡ old → new ≡ without_tenant t mid → GivesStep t (leaves moment with_objects) Done old new
gives_absence t moment with_objects old mid new sound may same is =
    let gone = tenant_gone old t sound in
    let new_is : new ≡ without_tenant t old = is ∙ ap (without_tenant t) same in
    record {
      gives = removed_so moment with_objects (view old t) may ∙ ap (λ v. Ok (Done, v)) (sym (ap (λ (x : Tables). view x t) new_is ∙ gone.shown));
      others = λ u apart. ap (λ (x : Tables). view x u) new_is ∙ gone.others u apart;
      latest = ap latest_of new_is ∙ gone.latest;
      shared = shared_same old new (ap (λ (x : Tables). x.blocks) new_is);
    }
