use Rattle.std.proofs.Common.{◌≡◌, ◌⊎◌, List, subst}
use Rattle.std.specs.List.{AllByRecursion}
use Rattle.sqlite.specs.Order.{Row}
use Rattle.sqlite_rules.specs.Lists.{Has}
use Rattle.bh_rows.specs.Form.{typed}
use Rattle.bh_tables.specs.Rows.{pack_form, place_form}
use Rattle.bh_check.specs.Filled.{AreKnown}
use Rattle.bh_check.specs.Holds.{first_two, part_body, ref_block}
use Rattle.bh_check.specs.Lost.{IsReadable, CountsDamaged, IsWhole, AreWhole}
use Rattle.bh_check.proofs.LostLemmas.{all_so, either_so, whole_of, wholes_of}
use Rattle.bh_check.proofs.lost.lost_of.Goals as goal

pub returns-clause-lost : goal.returns-clause-lost
returns-clause-lost g c clean named =
    let s = c.args.stored.now in
    let well = IsReadable (typed pack_form s.packs.items) (g.P.Shelf.seen c.args.packs.now) (typed place_form s.places.items) g.D.Digester.digest_of in
    let blocks = s.blocks.items in
    let refs = s.refs.items in
    let parts = s.parts.items in
    let counts = c.in_ok-blocks.blocks in
    let bodies = c.in_ok-bodies.bodies in
    let uploads = c.in_ok-uploads.uploads in
    let d = c.in_ok-blocks.ensures.damaged clean (subst (λ (l : List Row). AreKnown l c.in_ok-known.known) c.deref.ensures.value c.in_ok-known.ensures) named in
    let b = subst (λ (l : List Row). CountsDamaged (λ r. d.of (ref_block r) ≡ 0) l bodies) c.deref-3.ensures.value (c.in_ok-bodies.ensures d.of d.are) in
    let u = subst (λ (l : List Row). CountsDamaged (λ p. b.of (part_body p) ≡ 0) l uploads) c.deref-4.ensures.value (c.in_ok-uploads.ensures b.of b.are) in
    let versions = subst (λ (l : List Row). AllByRecursion (λ v. (b.of (first_two v) ≡ 0) ⊎ Has c.in_ok-rows_lost.field-0.items v) l) c.deref-5.ensures.value (c.in_ok-rows_lost.ensures b.of b.are) in
    let lost = subst (λ (l : List Row). AllByRecursion (λ v. (u.of (first_two v) ≡ 0) ⊎ Has c.in_ok-rows_lost-2.field-0.items v) l) c.deref-6.ensures.value (c.in_ok-rows_lost-2.ensures u.of u.are) in
    record {
      versions = all_so (λ v. (b.of (first_two v) ≡ 0) ⊎ Has c.in_ok-rows_lost.field-0.items v) (λ v. IsWhole well blocks refs (first_two v) ⊎ Has c.in_ok-rows_lost.field-0.items v)
          (λ v. either_so (λ none. whole_of well blocks refs counts bodies d b (first_two v) none)) s.versions.items versions;
      uploads = all_so (λ v. (u.of (first_two v) ≡ 0) ⊎ Has c.in_ok-rows_lost-2.field-0.items v) (λ v. AreWhole well blocks refs parts (first_two v) ⊎ Has c.in_ok-rows_lost-2.field-0.items v)
          (λ v. either_so (λ none. wholes_of well blocks refs parts counts bodies uploads d b u (first_two v) none)) s.uploads.items lost;
    }
