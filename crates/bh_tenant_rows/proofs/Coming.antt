-- Versions and parts come with their bodies: each is after those that were there, and references and bodies stay sound.
use Rattle.std.proofs.Common.{◌≡◌, ◌⊎◌, inl, inr, ℕ, ◌≤◌, false, true≢false, if◌then◌else◌, ◌||◌, List, [], ◌∷◌, ◌++◌, map, append_assoc, append-nil, refl, sym, ap, ◌∙◌, subst, arith}
use Rattle.std.specs.List.{AllByRecursion, list_any}
use Rattle.std.proofs.lemmas.List.{map-append}
use Rattle.sqlite_keyed.proofs.ListLemmas.{all_weaker, all_both}
use Rattle.bh_model.specs.State.{Octets}
use Rattle.bh_tables.specs.Bodies.{Name, same_name, version_name, part_name}
use Rattle.bh_tables.specs.Typed.{VersionRow, PartRow, Tables}
use Rattle.bh_view.specs.Grouped.{same_number}
use Rattle.bh_view.specs.Blocks.{whole, AreDigests}
use Rattle.bh_view.specs.Bodies.{bodies_in, pieces, refs_after, blocks_after, body_stored, AreWhole, IsUnnamed}
use Rattle.bh_view.proofs.BodyChanges.{body_stores, unnamed_bodies}
use Rattle.bh_view.proofs.GroupedLemmas.{is_other}
use Rattle.bh_view.proofs.Keys.{octets, numbers}
use Rattle.bh_view.proofs.NameLemmas.{names, none_either, none_pass, each_unnamed}
use Rattle.bh_view.proofs.OwnLemmas.{rows_at}
use Rattle.bh_view.proofs.ResolvedLemmas.{row_resolved, part_resolved, rebodied_resolved}
use Rattle.bh_view.proofs.WriteLemmas.{added_bytes, added_whole, no_body, row_added, marker_added, part_added}
use Rattle.bh_tenant_rows.specs.Brought.{version_after, part_after, with_version, with_versions, with_part, with_parts}
use Rattle.bh_tenant_rows.proofs.Lists.{Differ}

-- ---- names of bodies

-- of two numbers
pub names_differ : (a b : Octets) (m n : ℕ) → same_number m n ≡ false → same_name (a, m) (b, n) ≡ false
names_differ a b m n apart = is_other names (a, m) (b, n) (λ same. true≢false (sym ((numbers.decides m n).1 (ap (λ (q : Name). q.1) same)) ∙ apart))

-- of a tenant that has no row
pub none_named : {T : Type 0} (own : T → Octets) (number : T → ℕ) (t : Octets) (n : ℕ) (rows : List T) → rows_at own t rows ≡ [] → list_any (same_name (t, n)) (map (λ r. (own r, number r)) rows) ≡ false
none_named own number t n rows none = each_unnamed (λ r. (own r, number r)) (t, n) rows
    (all_weaker _ _ (λ r other. is_other names (t, n) (own r, number r) (λ same. true≢false (sym ((octets.decides (own r) t).1 (sym (ap (λ (q : Name). q.0) same))) ∙ other))) rows (none_pass _ rows none))

-- one name more
one_more : {T : Type 0} (name : T → Name) (at : Name) (was now : List T) (x : T) → now ≡ was ++ x ∷ [] → list_any (same_name at) (map name was) ≡ false → same_name at (name x) ≡ false → list_any (same_name at) (map name now) ≡ false
one_more name at was now x is none other =
    ap (λ l. list_any (same_name at) (map name l)) is ∙ ap (list_any (same_name at)) (map-append name was (x ∷ []))
    ∙ none_either (same_name at) (map name was) (name x ∷ []) none (ap (λ b. b || false) other)

-- ---- what comes

-- the tables have these versions and parts; other rows stay, and references and bodies are sound
pub record IsMore (digest : Octets → Octets) (old new : Tables) (versions : List VersionRow) (parts : List PartRow) : Type 0 where
  pub is : new ≡ record old { versions = versions; parts = parts; refs = new.refs; blocks = new.blocks }
  pub whole : AreWhole [] new
  pub digests : AreDigests digest new.blocks

-- a version that has a body, or a marker, which has none
abbrev pub IsEither : VersionRow → Type 0
IsEither v = (v.marker ≡ 0) ⊎ ((v.marker ≡ 1) × (v.bytes ≡ []))

module _ (digest : Octets → Octets) (size : ℕ) (low : 1 ≤ size) where
  -- a body is there, before its row
  pub record IsStored (at : Name) (bytes : Octets) (old new : Tables) : Type 0 where
    pub is : new ≡ record old { refs = new.refs; blocks = new.blocks }
    pub bytes_are : whole new.refs new.blocks at ≡ bytes
    pub whole_with : AreWhole (at ∷ []) new
    pub digests : AreDigests digest new.blocks

  body_comes : (old : Tables) (at : Name) (bytes : Octets) → AreWhole [] old → AreDigests digest old.blocks → IsUnnamed at old → IsStored at bytes old (body_stored digest at 0 (pieces size bytes) old)
  body_comes old at bytes w d none =
      let mid = body_stored digest at 0 (pieces size bytes) old in
      let adds = body_stores old at w.resolved w.stored w.bodies none digest size bytes low d in
      record {
        is = adds.is;
        bytes_are = added_bytes digest at bytes old mid adds;
        whole_with = added_whole digest at bytes old mid adds (rebodied_resolved old (refs_after digest at 0 (pieces size bytes) old.blocks old.refs) (blocks_after digest (pieces size bytes) old.blocks));
        digests = adds.digests d;
      }

  version_comes : (old : Tables) (v : VersionRow) → AreWhole [] old → AreDigests digest old.blocks → IsUnnamed (version_name v) old → IsEither v → IsMore digest old (with_version digest size v old) (old.versions ++ v ∷ []) old.parts
  version_comes old v w d none (inl body) =
      let mid = body_stored digest (version_name v) 0 (pieces size v.bytes) old in
      let it = body_comes old (version_name v) v.bytes w d none in
      let chosen : with_version digest size v old ≡ version_after v mid = ap (λ b. if b then version_after v mid else version_after v old) ((numbers.decides v.marker 0).1 body) in
      let row : version_after v mid ≡ record mid { versions = mid.versions ++ v ∷ [] } = ap (λ r. record mid { versions = mid.versions ++ r ∷ [] }) (row_resolved mid.refs mid.blocks v it.bytes_are) in
      subst (λ x. IsMore digest old x (old.versions ++ v ∷ []) old.parts) (sym (chosen ∙ row)) (record {
        is = ap (λ (x : Tables). record x { versions = x.versions ++ v ∷ [] }) it.is;
        whole = row_added mid v (sym it.bytes_are) [] body it.whole_with;
        digests = it.digests;
      })
  version_comes old v w d none (inr marked) =
      let mid = body_stored digest (version_name v) 0 (pieces size v.bytes) old in
      let empty : whole old.refs old.blocks (version_name v) ≡ v.bytes = no_body (bodies_in old) old.refs old.blocks (version_name v) w.bodies (unnamed_bodies (version_name v) old none) ∙ sym marked.1 in
      let chosen : with_version digest size v old ≡ version_after v old = ap (λ b. if b then version_after v mid else version_after v old) (ap (λ n. same_number n 0) marked.0 ∙ is_other numbers 1 0 (λ e. absurd (omega (arith, e)))) in
      let row : version_after v old ≡ record old { versions = old.versions ++ v ∷ [] } = ap (λ r. record old { versions = old.versions ++ r ∷ [] }) (row_resolved old.refs old.blocks v empty) in
      subst (λ x. IsMore digest old x (old.versions ++ v ∷ []) old.parts) (sym (chosen ∙ row)) (record {
        is = refl;
        whole = marker_added old v (sym empty) [] marked.0 w;
        digests = d;
      })

  pub versions_come : (vs : List VersionRow) (old : Tables) → AreWhole [] old → AreDigests digest old.blocks → AllByRecursion (λ v. IsUnnamed (version_name v) old) vs → Differ (λ (v : VersionRow). v.seq) vs → AllByRecursion IsEither vs
      → IsMore digest old (with_versions digest size vs old) (old.versions ++ vs) old.parts
  versions_come [] old w d fresh apart kinds = record { is = ap (λ l. record old { versions = l }) (sym (append-nil old.versions)); whole = w; digests = d }
  versions_come (v ∷ vs) old w d fresh apart kinds =
      let it = version_comes old v w d fresh.0 kinds.0 in
      let mid = with_version digest size v old in
      let new = with_versions digest size vs mid in
      let still : AllByRecursion (λ x. IsUnnamed (version_name x) mid) vs = all_both (λ x. IsUnnamed (version_name x) old) (λ (x : VersionRow). same_number x.seq v.seq ≡ false) _ (λ x none other. record {
        versions = one_more version_name (version_name x) old.versions mid.versions v (ap (λ (y : Tables). y.versions) it.is) none.versions (names_differ x.tenant v.tenant x.seq v.seq other);
        parts = ap (λ (y : Tables). list_any (same_name (version_name x)) (map part_name y.parts)) it.is ∙ none.parts;
      }) vs fresh.1 apart.0 in
      let rest = versions_come vs mid it.whole it.digests still apart.1 kinds.1 in
      record {
        is = rest.is ∙ ap (λ (x : Tables). record x { versions = x.versions ++ vs; refs = new.refs; blocks = new.blocks }) it.is ∙ ap (λ l. record old { versions = l; refs = new.refs; blocks = new.blocks }) (append_assoc old.versions (v ∷ []) vs);
        whole = rest.whole;
        digests = rest.digests;
      }

  part_comes : (old : Tables) (p : PartRow) → AreWhole [] old → AreDigests digest old.blocks → IsUnnamed (part_name p) old → IsMore digest old (with_part digest size p old) old.versions (old.parts ++ p ∷ [])
  part_comes old p w d none =
      let mid = body_stored digest (part_name p) 0 (pieces size p.bytes) old in
      let it = body_comes old (part_name p) p.bytes w d none in
      let row : part_after p mid ≡ record mid { parts = mid.parts ++ p ∷ [] } = ap (λ r. record mid { parts = mid.parts ++ r ∷ [] }) (part_resolved mid.refs mid.blocks p it.bytes_are) in
      subst (λ x. IsMore digest old x old.versions (old.parts ++ p ∷ [])) (sym row) (record {
        is = ap (λ (x : Tables). record x { parts = x.parts ++ p ∷ [] }) it.is;
        whole = part_added mid p [] (sym it.bytes_are) it.whole_with;
        digests = it.digests;
      })

  pub parts_come : (ps : List PartRow) (old : Tables) → AreWhole [] old → AreDigests digest old.blocks → AllByRecursion (λ p. IsUnnamed (part_name p) old) ps → Differ (λ (p : PartRow). p.body) ps
      → IsMore digest old (with_parts digest size ps old) old.versions (old.parts ++ ps)
  parts_come [] old w d fresh apart = record { is = ap (λ l. record old { parts = l }) (sym (append-nil old.parts)); whole = w; digests = d }
  parts_come (p ∷ ps) old w d fresh apart =
      let it = part_comes old p w d fresh.0 in
      let mid = with_part digest size p old in
      let new = with_parts digest size ps mid in
      let still : AllByRecursion (λ x. IsUnnamed (part_name x) mid) ps = all_both (λ x. IsUnnamed (part_name x) old) (λ (x : PartRow). same_number x.body p.body ≡ false) _ (λ x none other. record {
        versions = ap (λ (y : Tables). list_any (same_name (part_name x)) (map version_name y.versions)) it.is ∙ none.versions;
        parts = one_more part_name (part_name x) old.parts mid.parts p (ap (λ (y : Tables). y.parts) it.is) none.parts (names_differ x.tenant p.tenant x.body p.body other);
      }) ps fresh.1 apart.0 in
      let rest = parts_come ps mid it.whole it.digests still apart.1 in
      record {
        is = rest.is ∙ ap (λ (x : Tables). record x { parts = x.parts ++ ps; refs = new.refs; blocks = new.blocks }) it.is ∙ ap (λ l. record old { parts = l; refs = new.refs; blocks = new.blocks }) (append_assoc old.parts (p ∷ []) ps);
        whole = rest.whole;
        digests = rest.digests;
      }
