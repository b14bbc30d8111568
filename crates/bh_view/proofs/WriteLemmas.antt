-- Tables in the midst of a write: a body is there before its version, other rows come, and all bodies are whole at the end.
use Rattle.std.proofs.Common.{◌≡◌, ℕ, ◌≤◌, Bool, false, not, ◌||◌, List, [], ◌∷◌, ◌++◌, map, filter, Option, refl, sym, ap, ◌∙◌, subst}
use Rattle.std.specs.List.{list_any}
use Rattle.std.proofs.lemmas.List.{map-append}
use Rattle.sqlite_keyed.specs.Lists.{delete_where}
use Rattle.sqlite_keyed.proofs.ListLemmas.{all-filter}
use Rattle.bh_types.specs.Limits.{AreLimits}
use Rattle.bh_model.specs.QuotaLaws.{IsBounded}
use Rattle.bh_model.specs.State.{Octets, State}
use Rattle.bh_tables.specs.Bodies.{version_name, part_name}
use Rattle.bh_tables.specs.Typed.{VersionRow, PartRow, BlockRow, RefRow, Tables}
use Rattle.bh_tables.specs.Shown.{Name, same_name, is_of_body}
use Rattle.bh_view.specs.Grouped.{same_number}
use Rattle.bh_view.specs.View.{rows_of}
use Rattle.bh_view.specs.Blocks.{whole, AreStored, AreDigests}
use Rattle.bh_view.specs.Bodies.{bodies_of, bodies_in, AreBodies, HasBodies, IsResolved, IsUnnamed, AreWhole, AreBounded, IsSoundHost, AddsBody, body_dropped}
use Rattle.bh_view.specs.Sound.{AreSound, IsSound}
use Rattle.bh_view.specs.Becomes.{Becomes}
use Rattle.bh_view.specs.Laws.{new_host}
use Rattle.bh_view.proofs.FactLemmas.{all_pushed}
use Rattle.bh_view.proofs.FilterLemmas.{push_here, push_other, filter_swap}
use Rattle.bh_view.proofs.HostChanges.{created}
use Rattle.bh_view.proofs.Keys.{numbers}
use Rattle.bh_view.proofs.NameLemmas.{name_swap, none_both, none_either, unnamed_each, each_unnamed, none_parted}
use Rattle.bh_view.proofs.ResolvedLemmas.{rebodied_same, unnamed_stays}
use Rattle.bh_view.proofs.SetLemmas.{set_here}
use Rattle.bh_view.proofs.ViewLemmas.{same_view, same_latest, same_limits}
use Rattle.bh_view.proofs.WholeLemmas.{empty_body, refs_dropped}
use Rattle.bh_view.proofs.BodyLemmas.{whole_for, stored_dropped, bodies_dropped}

-- ---- the same versions, parts, references and blocks

module _ (old new : Tables) (versions : new.versions ≡ old.versions) (parts : new.parts ≡ old.parts) (refs : new.refs ≡ old.refs) (blocks : new.blocks ≡ old.blocks) where
  abbrev path : record new { versions = old.versions; parts = old.parts; refs = old.refs; blocks = old.blocks } ≡ new
  path = λ i. record new { versions = sym versions i; parts = sym parts i; refs = sym refs i; blocks = sym blocks i }

  pub same_resolved : IsResolved old → IsResolved new
  same_resolved resolved = subst IsResolved path (record { versions = resolved.versions; parts = resolved.parts })

  pub same_unnamed : (at : Name) → IsUnnamed at old → IsUnnamed at new
  same_unnamed at none = subst (IsUnnamed at) path (record { versions = none.versions; parts = none.parts })

  pub same_bodies : HasBodies old → HasBodies new
  same_bodies b = subst HasBodies path b

  pub same_whole : (more : List Name) → AreWhole more old → AreWhole more new
  same_whole more w = subst (AreWhole more) path (record { resolved = record { versions = w.resolved.versions; parts = w.resolved.parts }; stored = w.stored; bodies = w.bodies })

  pub same_host : (digest : Octets → Octets) → IsSound new → AreBounded new → IsSoundHost digest old → IsSoundHost digest new
  same_host digest sound bounded h = record { sound = sound; bodies = same_bodies h.bodies; digests = subst (AreDigests digest) (sym blocks) h.digests; bounded = bounded }

-- a new host's
pub created_host : (digest : Octets → Octets) (tables : Tables) (min_part max_body number : ℕ) → AreLimits min_part max_body → number ≤ 1 → tables ≡ new_host min_part max_body number → IsSoundHost digest tables
created_host digest tables min_part max_body number limits known e = let made = created (new_host min_part max_body number) min_part max_body number limits known refl in subst (IsSoundHost digest) (sym e) (record {
  sound = made.0;
  bodies = record { placed = λ body. refl; owned = λ body none. refl; measured = tt };
  digests = tt;
  bounded = λ t. subst IsBounded (sym (made.2 t)) tt;
})

-- ---- other references and blocks

module _ (old : Tables) (refs : List RefRow) (blocks : List BlockRow) where
  abbrev with_them : Tables
  with_them = record old { refs = refs; blocks = blocks }

  pub sound_with : IsSound old → AreStored refs blocks → IsSound with_them
  sound_with sound stored = record { host = sound.host; tenants = λ t. subst (λ n. AreSound n (rows_of t old)) (sym (same_latest old with_them refl)) (sound.tenants t); stored = stored }

  -- no tenant sees them, so that a change of the rows may be told of the tables with them
  pub becomes_with : (t : Octets) (state : Option State) (new : Tables) → Becomes t state with_them new → Becomes t state old new
  becomes_with t state new change = record {
    shown = change.shown;
    others = λ u apart. change.others u apart ∙ same_view u old with_them refl;
    latest = change.latest ∙ same_latest old with_them refl;
    limits = change.limits ∙ same_limits old with_them refl;
    sound = change.sound;
  }

-- ---- a body is there, and no version or part of it yet

module _ (digest : Octets → Octets) (at : Name) (bytes : Octets) (old new : Tables) (adds : AddsBody digest at bytes old new) where
  pub added_bytes : whole new.refs new.blocks at ≡ bytes
  added_bytes = (λ i. adds.bytes i at) ∙ set_here at (whole old.refs old.blocks) bytes

  pub added_sound : IsSound old → IsSound new
  added_sound sound = subst IsSound (sym adds.is) (sound_with old new.refs new.blocks sound adds.stored)

  pub added_whole : IsResolved new → AreWhole (at ∷ []) new
  added_whole resolved = record {
    resolved = resolved;
    stored = adds.stored;
    bodies = subst (λ names. AreBodies (at ∷ names) new.refs new.blocks) (λ i. bodies_in (record (sym adds.is i) { refs = old.refs; blocks = old.blocks })) adds.bodies;
  }

pub whole_of : (tables : Tables) → IsSound tables → HasBodies tables → IsResolved tables → AreWhole [] tables
whole_of tables sound bodies resolved = record { resolved = resolved; stored = sound.stored; bodies = bodies }

-- ---- a row comes

-- a body of no version and no part is empty
pub no_body : (bodies : List Name) (refs : List RefRow) (blocks : List BlockRow) (at : Name) → AreBodies bodies refs blocks → list_any (same_name at) bodies ≡ false → whole refs blocks at ≡ []
no_body bodies refs blocks at b none = empty_body refs blocks at (b.owned at none)

-- a name that stood first stands last in the first of two lists, or of the second
name_last : (p : Name → Bool) (at : Name) (more xs ys : List Name) → list_any p (more ++ ((xs ++ at ∷ []) ++ ys)) ≡ false → list_any p ((at ∷ more) ++ (xs ++ ys)) ≡ false
name_last p at more xs ys none =
    let a = none_both p more ((xs ++ at ∷ []) ++ ys) none in
    let b = none_both p (xs ++ at ∷ []) ys a.1 in
    let c = none_both p xs (at ∷ []) b.0 in
    none_either p (at ∷ []) (more ++ (xs ++ ys)) c.1 (none_either p more (xs ++ ys) a.0 (none_either p xs ys c.0 b.1))

module _ (x : Tables) (v : VersionRow) (its : v.bytes ≡ whole x.refs x.blocks (version_name v)) where
  abbrev with_row : Tables
  with_row = record x { versions = x.versions ++ v ∷ [] }

  resolved_more : IsResolved x → IsResolved with_row
  resolved_more resolved = record { versions = all_pushed _ x.versions v resolved.versions its; parts = resolved.parts }

  -- of the body that is there
  pub row_added : (more : List Name) → v.marker ≡ 0 → AreWhole (version_name v ∷ more) x → AreWhole more with_row
  row_added more body w = whole_for (version_name v ∷ more) more x (x.versions ++ v ∷ []) x.parts (resolved_more w.resolved)
      (λ q none. name_last (same_name q) (version_name v) more (bodies_of x.versions) (map part_name x.parts) (ap (λ l. list_any (same_name q) (more ++ (l ++ map part_name x.parts))) (sym grown) ∙ none)) w
    where
      grown : bodies_of (x.versions ++ v ∷ []) ≡ bodies_of x.versions ++ version_name v ∷ []
      grown = ap (map version_name) (push_here (λ (y : VersionRow). same_number y.marker 0) x.versions v ((numbers.decides v.marker 0).1 body)) ∙ map-append version_name _ (v ∷ [])

  -- of a marker, which has no body
  pub marker_added : (more : List Name) → v.marker ≡ 1 → AreWhole more x → AreWhole more with_row
  marker_added more marked w = whole_for more more x (x.versions ++ v ∷ []) x.parts (resolved_more w.resolved) (λ q none. ap (λ l. list_any (same_name q) (more ++ (l ++ map part_name x.parts))) (sym grown) ∙ none) w
    where
      grown : bodies_of (x.versions ++ v ∷ []) ≡ bodies_of x.versions
      grown = ap (map version_name) (push_other (λ (y : VersionRow). same_number y.marker 0) x.versions v (ap (λ n. same_number n 0) marked))

-- a part, of the body that is there
pub part_added : (x : Tables) (p : PartRow) (more : List Name) → p.bytes ≡ whole x.refs x.blocks (part_name p) → AreWhole (part_name p ∷ more) x → AreWhole more (record x { parts = x.parts ++ p ∷ [] })
part_added x p more its w = whole_for (part_name p ∷ more) more x x.versions (x.parts ++ p ∷ []) (record { versions = w.resolved.versions; parts = all_pushed _ x.parts p w.resolved.parts its }) fewer w
  where
    fewer : (q : Name) → list_any (same_name q) (more ++ (bodies_of x.versions ++ map part_name (x.parts ++ p ∷ []))) ≡ false → list_any (same_name q) ((part_name p ∷ more) ++ bodies_in x) ≡ false
    fewer q none =
        let was = bodies_of x.versions in
        let a = none_both (same_name q) more (was ++ map part_name (x.parts ++ p ∷ [])) none in
        let b = none_both (same_name q) was (map part_name (x.parts ++ p ∷ [])) a.1 in
        let c = none_both (same_name q) (map part_name x.parts) (part_name p ∷ []) (ap (list_any (same_name q)) (sym (map-append part_name x.parts (p ∷ []))) ∙ b.1) in
        none_either (same_name q) (part_name p ∷ []) (more ++ bodies_in x) c.1 (none_either (same_name q) more (bodies_in x) a.0 (none_either (same_name q) was (map part_name x.parts) b.0 c.0))

-- ---- rows go, and their bodies stay

-- parts of a test
pub parts_taken : (x : Tables) (test : PartRow → Bool) (more : List Name) → AreWhole more x → AreWhole (map part_name (filter test x.parts) ++ more) (record x { parts = delete_where test x.parts })
parts_taken x test more w = whole_for more (map part_name (filter test x.parts) ++ more) x x.versions (delete_where test x.parts) (record { versions = w.resolved.versions; parts = all-filter _ _ x.parts w.resolved.parts }) fewer w
  where
    fewer : (q : Name) → list_any (same_name q) ((map part_name (filter test x.parts) ++ more) ++ (bodies_of x.versions ++ map part_name (delete_where test x.parts))) ≡ false → list_any (same_name q) (more ++ bodies_in x) ≡ false
    fewer q none =
        let a = none_both (same_name q) (map part_name (filter test x.parts) ++ more) (bodies_of x.versions ++ map part_name (delete_where test x.parts)) none in
        let b = none_both (same_name q) (map part_name (filter test x.parts)) more a.0 in
        let c = none_both (same_name q) (bodies_of x.versions) (map part_name (delete_where test x.parts)) a.1 in
        none_either (same_name q) more (bodies_in x) b.1 (none_either (same_name q) (bodies_of x.versions) (map part_name x.parts) c.0 (none_parted part_name (same_name q) test x.parts b.0 c.1))

-- versions of a test
pub versions_taken : (x : Tables) (test : VersionRow → Bool) (more : List Name) → AreWhole more x → AreWhole (map version_name (filter test x.versions) ++ more) (record x { versions = delete_where test x.versions })
versions_taken x test more w = whole_for more (map version_name (filter test x.versions) ++ more) x (delete_where test x.versions) x.parts (record { versions = all-filter _ _ x.versions w.resolved.versions; parts = w.resolved.parts }) fewer w
  where
    is_body : VersionRow → Bool
    is_body v = same_number v.marker 0

    fewer : (q : Name) → list_any (same_name q) ((map version_name (filter test x.versions) ++ more) ++ (bodies_of (delete_where test x.versions) ++ map part_name x.parts)) ≡ false → list_any (same_name q) (more ++ bodies_in x) ≡ false
    fewer q none =
        let a = none_both (same_name q) (map version_name (filter test x.versions) ++ more) (bodies_of (delete_where test x.versions) ++ map part_name x.parts) none in
        let b = none_both (same_name q) (map version_name (filter test x.versions)) more a.0 in
        let c = none_both (same_name q) (bodies_of (delete_where test x.versions)) (map part_name x.parts) a.1 in
        let gone : list_any (same_name q) (map version_name (filter test (filter is_body x.versions))) ≡ false =
        ap (λ l. list_any (same_name q) (map version_name l)) (filter_swap test is_body x.versions) ∙ each_unnamed version_name q _ (all-filter _ is_body (filter test x.versions) (unnamed_each version_name q (filter test x.versions) b.0)) in
        let left : list_any (same_name q) (map version_name (delete_where test (filter is_body x.versions))) ≡ false = ap (λ l. list_any (same_name q) (map version_name l)) (filter_swap (λ v. not (test v)) is_body x.versions) ∙ c.0 in
        none_either (same_name q) more (bodies_in x) b.1 (none_either (same_name q) (bodies_of x.versions) (map part_name x.parts) (none_parted version_name (same_name q) test (filter is_body x.versions) gone left) c.1)

-- ---- a body goes that no version and no part has

module _ (x : Tables) (at : Name) (none : IsUnnamed at x) where
  abbrev left : List RefRow
  left = delete_where (is_of_body at) x.refs

  pub body_goes : IsResolved x → body_dropped at x ≡ record x { refs = left }
  body_goes resolved = rebodied_same x left x.blocks (unnamed_stays x at none resolved left x.blocks [] (refs_dropped x.refs x.blocks at))

  -- a name that is to come no more
  pub gone_whole : (more : List Name) → AreWhole (at ∷ more) x → AreWhole more (body_dropped at x)
  gone_whole more w = subst (AreWhole more) (sym (body_goes w.resolved)) (record {
    resolved = unnamed_stays x at none w.resolved left x.blocks [] (refs_dropped x.refs x.blocks at);
    stored = stored_dropped x.refs x.blocks at w.stored;
    bodies = bodies_dropped (at ∷ (more ++ bodies_in x)) (more ++ bodies_in x) x.refs x.blocks at (λ q apart gone. ap (λ c. c || list_any (same_name q) (more ++ bodies_in x)) (name_swap q at ∙ apart) ∙ gone) w.bodies;
  })
