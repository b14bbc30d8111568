-- An upload goes with its parts: what is left is the tenant's state without it, and all other bodies.
use Rattle.std.proofs.Common.{◌≡◌, ℕ, Bool, true, false, cond, List, [], ◌∷◌, ◌++◌, map, filter, Option, Some, refl, sym, ap, ◌∙◌, subst}
use Rattle.std.specs.List.{AllByRecursion, list_any}
use Rattle.std.specs.FinMap.{get}
use Rattle.std.proofs.lemmas.Bool.{and_parts}
use Rattle.sqlite_keyed.specs.Lists.{delete_where}
use Rattle.sqlite_keyed.proofs.ListLemmas.{all_weaker, all_both, all_map, all_unmap, all-filter}
use Rattle.sqlite_typed.specs.Tests.{bytes_eq}
use Rattle.bh_model.specs.State.{Octets, State, Bucket, Upload}
use Rattle.bh_model.specs.Operations.{with_bucket}
use Rattle.bh_model.specs.Uploads.{without_upload}
use Rattle.bh_tables.specs.Bodies.{Name, same_name, part_name}
use Rattle.bh_tables.specs.Typed.{PartRow, Tables}
use Rattle.bh_tables.specs.Shown.{is_upload, is_part_of, by_part}
use Rattle.bh_view.specs.Becomes.{Becomes}
use Rattle.bh_view.specs.Bodies.{bodies_in, HasBodies, IsUnnamed, AreWhole, body_dropped}
use Rattle.bh_view.specs.Grouped.{same_number}
use Rattle.bh_view.specs.Sound.{IsSound}
use Rattle.bh_view.specs.View.{rows_of, view}
use Rattle.bh_view.proofs.BodyLemmas.{whole_for}
use Rattle.bh_view.proofs.BodyNames.{taken_unnamed}
use Rattle.bh_view.proofs.FilterLemmas.{filter_both}
use Rattle.bh_view.proofs.NameLemmas.{none_both, none_either, unnamed_each, each_unnamed, all-unsorted}
use Rattle.bh_view.proofs.OwnLemmas.{within_own}
use Rattle.bh_view.proofs.SortLemmas.{all-sort_by}
use Rattle.bh_view.proofs.UploadChanges.{upload_closed as closed}
use Rattle.bh_view.proofs.WriteLemmas.{parts_taken, body_goes, gone_whole, whole_of}
use Rattle.bh_objects.proofs.Written.{becomes_so, IsHostOf}
use Rattle.bh_uploads.specs.Rows.{listed_parts}
use Rattle.bh_uploads.specs.Writes.{without_bodies, without_parts, without_row, upload_closed}

-- ---- lists

pub each_passes : {T : Type 0} (p : T → Bool) (xs : List T) → AllByRecursion (λ x. p x ≡ true) (filter p xs)
each_passes p [] = tt
each_passes p (x ∷ xs) = elim (p x) as (λ b. p x ≡ b → AllByRecursion (λ x. p x ≡ true) (cond b (x ∷ filter p xs) (filter p xs))) [ true ↦ λ e. (e, each_passes p xs) | false ↦ λ e. each_passes p xs ] refl

-- ---- bodies go one after another

-- the tables without bodies that no version and no part has
pub record LeavesRows (more : List Name) (x y : Tables) : Type 0 where
  pub is_whole : AreWhole more y
  pub is : y ≡ record x { refs = y.refs }

module _ (t : Octets) where
  abbrev pub names : List ℕ → List Name
  names bodies = map (λ (body : ℕ). (t, body)) bodies

  pub bodies_go : (bodies : List ℕ) (more : List Name) (x : Tables) → AreWhole (names bodies ++ more) x → AllByRecursion (λ (body : ℕ). IsUnnamed (t, body) x) bodies → LeavesRows more x (without_bodies t bodies x)
  bodies_go [] more x w none = record { is_whole = w; is = refl }
  bodies_go (body ∷ bodies) more x w none =
      let y = body_dropped (t, body) x in
      let goes = body_goes x (t, body) none.0 w.resolved in
      let rest = bodies_go bodies more y (gone_whole x (t, body) none.0 (names bodies ++ more) w)
      (all_weaker _ (λ (b : ℕ). IsUnnamed (t, b) y) (λ b (u : IsUnnamed (t, b) x). subst (IsUnnamed (t, b)) (sym goes) (record { versions = u.versions; parts = u.parts })) bodies none.1) in
      let last = without_bodies t bodies y in
      record { is_whole = rest.is_whole; is = rest.is ∙ ap (λ (z : Tables). record z { refs = last.refs }) goes }

-- ---- the parts of an upload

module _ (old : Tables) (t : Octets) (n : ℕ) (sound : IsSound old) where
  abbrev gone : List PartRow
  gone = filter (is_part_of t n) old.parts

  -- each is the tenant's
  pub its_tenant : AllByRecursion (λ (p : PartRow). p.tenant ≡ t) gone
  its_tenant = all_weaker _ _ (λ (p : PartRow) passes. within_own (λ (x : PartRow). x.tenant) t p (and_parts _ _ passes).0) gone (each_passes (is_part_of t n) old.parts)

  -- without them, their bodies are of no row
  unnamed_then : AllByRecursion (λ (p : PartRow). IsUnnamed (t, p.body) (without_parts t n old)) gone
  unnamed_then = all_both _ _ _ (λ (p : PartRow) passes (f : is_part_of t n p ≡ true → IsUnnamed (t, p.body) (without_parts t n old)). f passes) gone (each_passes (is_part_of t n) old.parts)
      (subst (AllByRecursion (λ (p : PartRow). is_part_of t n p ≡ true → IsUnnamed (t, p.body) (without_parts t n old))) (filter_both (λ (p : PartRow). bytes_eq p.tenant t) (λ p. same_number p.upload n) old.parts)
      (all-filter _ (λ (p : PartRow). same_number p.upload n) (rows_of t old).parts (taken_unnamed old t sound (is_part_of t n))))

  module _ (bodies : List ℕ) (are : bodies ≡ map (λ (p : PartRow). p.body) (listed_parts t n old)) where
    pub bodies_unnamed : AllByRecursion (λ (body : ℕ). IsUnnamed (t, body) (without_parts t n old)) bodies
    bodies_unnamed = subst (AllByRecursion (λ (body : ℕ). IsUnnamed (t, body) (without_parts t n old))) (sym are)
        (all_map (λ (body : ℕ). IsUnnamed (t, body) (without_parts t n old)) (λ (p : PartRow). p.body) (listed_parts t n old) (all-sort_by by_part _ gone unnamed_then))

    -- a name of none of the bodies is of none of the parts
    none_gone : (q : Name) → list_any (same_name q) (names t bodies) ≡ false → list_any (same_name q) (map part_name gone) ≡ false
    none_gone q none =
        let each : AllByRecursion (λ (body : ℕ). same_name q (t, body) ≡ false) bodies = unnamed_each (λ (body : ℕ). (t, body)) q bodies none in
        let listed = all_unmap (λ (body : ℕ). same_name q (t, body) ≡ false) (λ (p : PartRow). p.body) (listed_parts t n old) (subst (AllByRecursion (λ (body : ℕ). same_name q (t, body) ≡ false)) are each) in
        each_unnamed part_name q gone (all_both _ _ _ (λ (p : PartRow) other its. ap (λ z. same_name q (z, p.body)) its ∙ other) gone (all-unsorted by_part (λ (p : PartRow). same_name q (t, p.body) ≡ false) gone listed) its_tenant)

    pub taken_whole : (more : List Name) → AreWhole more old → AreWhole (names t bodies ++ more) (without_parts t n old)
    taken_whole more w =
        let x = without_parts t n old in
        let taken = parts_taken old (is_part_of t n) more w in
        whole_for (map part_name gone ++ more) (names t bodies ++ more) x x.versions x.parts taken.resolved
        (λ q none.
        let a = none_both (same_name q) (names t bodies ++ more) (bodies_in x) none in
        let c = none_both (same_name q) (names t bodies) more a.0 in
        none_either (same_name q) (map part_name gone ++ more) (bodies_in x) (none_either (same_name q) (map part_name gone) more (none_gone q c.0) c.1) a.1)
        taken

-- ---- the upload goes

pub record Closes (t : Octets) (state : Option State) (old new : Tables) : Type 0 where
  pub change : Becomes t state old new
  pub bodies : HasBodies new
  pub blocks : new.blocks ≡ old.blocks

pub closes : (old new : Tables) → IsHostOf old → (t : Octets) (s : State) → view old t ≡ Some s → (b : Octets) (B : Bucket) → get s.buckets b ≡ Some B → (n : ℕ) (U : Upload) → get B.uploads n ≡ Some U
    → (bodies : List ℕ) → bodies ≡ map (λ (p : PartRow). p.body) (listed_parts t n old) → new ≡ upload_closed t n bodies old → Closes t (Some (with_bucket b (without_upload n B) s)) old new
closes old new host t s is b B at n U there bodies are e =
    let x = without_parts t n old in
    let y = without_bodies t bodies x in
    let left = bodies_go t bodies [] x (taken_whole old t n host.sound bodies are [] (whole_of old host.sound host.bodies host.resolved)) (bodies_unnamed old t n host.sound bodies are) in
    let target : Tables = record old { uploads = delete_where (is_upload t n) old.uploads; parts = delete_where (is_part_of t n) old.parts } in
    let same : y.blocks ≡ old.blocks = ap (λ (z : Tables). z.blocks) left.is in
    let last : without_row t n y ≡ record target { refs = y.refs; blocks = y.blocks } = ap (without_row t n) left.is ∙ (λ i. record target { refs = y.refs; blocks = sym same i }) in
    subst (Closes t (Some (with_bucket b (without_upload n B) s)) old) (sym e) (record {
      change = becomes_so t _ old target (without_row t n y) (closed old target t s host.sound is b B at n U there refl) (record { is = last; stored = left.is_whole.stored });
      bodies = left.is_whole.bodies;
      blocks = same;
    })
