use Rattle.std.proofs.Common.{◌≡◌, ◌++◌, ◌∷◌, [], ◌+◌, false, refl, sym, ap, subst, ◌∙◌}
use Rattle.std.proofs.lemmas.Result.{on_ok_weaker}
use Rattle.std.specs.List.{list_any}
use Rattle.sqlite_keyed.specs.Lists.{update_where}
use Rattle.sqlite_rules.specs.Lists.{Has}
use Rattle.bh_packs.specs.declared.place.Place.{Place}
use Rattle.bh_tables.specs.Rows.{BlockRow}
use Rattle.bh_tables.specs.Packs.{is_reached}
use Rattle.bh_tables.specs.Shown.{Name, is_block}
use Rattle.bh_tables.specs.Typed.{Tables, tables_in, rebodied}
use Rattle.bh_base.specs.Connections.{state, contents, packs, HasAt}
use Rattle.bh_base.specs.Layer.{standing}
use Rattle.bh_blocks.specs.Uses.{IsNewName}
use Rattle.bh_blocks.proofs.Cached.{on_any}
use Rattle.bh_base.proofs.PlaceCalls.{empty_new, placed_law}
use Rattle.bh_blocks.proofs.rows.insert_placed.Goals as goal

pub insert_place-requires-clause-there : goal.insert_place-requires-clause-there
insert_place-requires-clause-there g c clean =
    let q : Name = (c.args.digest.now, c.args.ord) in
    let one = c.in_ok-note_place.ensures in
    let two = c.in_ok-insert_row.ensures in
    let first = two.writes.within.follows.clean clean in
    let was = one.writes.within.follows.clean first in
    let there = c.requires.there was in
    let kept = two.still clean in
    let noted = one.noted first in
    let m = one.writes.midst first in
    let b0 : BlockRow = record { digest = q.0; ord = q.1; bytes = [] } in
    let blocks = ap (λ (t : Tables). t.blocks) (two.rewrites clean m.sums m.by).is in
    record {
      bytes = there.bytes;
      there = ap (λ n. n c.in_ok-place.place.pack c.in_ok-place.place.offset c.in_ok-place.place.size) (kept.contents ∙ noted.contents)
          ∙ ap (λ (p : Place). contents g.S.Store g.P.Shelf c.args.connection.now p.pack p.offset p.size) c.in_ok-place.ensures.same ∙ there.there;
      size = ap (λ (p : Place). p.size) c.in_ok-place.ensures.same ∙ there.size;
      reached = ap (λ ks. is_reached ks c.in_ok-place.place.pack (c.in_ok-place.place.offset + c.in_ok-place.place.size)) kept.packs ∙ noted.reached;
      empty = λ b has its. empty_new (tables_in (standing (state g.S.Store g.P.Shelf c.note_place.new.connection)).now).blocks q b0 (two.fresh clean).free refl b (subst (λ l. Has l b) blocks has) its;
    }

pub returns-clause-rewrites : goal.returns-clause-rewrites
returns-clause-rewrites g c = on_ok_weaker c.insert_place.result (λ last bytes has clean sums by.
    let q : Name = (c.args.digest.now, c.args.ord) in
    let one = c.in_ok-note_place.ensures in
    let two = c.in_ok-insert_row.ensures in
    let mid = c.insert_place.ensures.writes.within.follows.clean clean in
    let first = two.writes.within.follows.clean mid in
    let t = tables_in (standing (state g.S.Store g.P.Shelf c.args.connection.now)).now in
    let there : HasAt g.S.Store g.P.Shelf c.insert_row.new.connection c.in_ok-place.place bytes =
    ap (λ n. n c.in_ok-place.place.pack c.in_ok-place.place.offset c.in_ok-place.place.size) ((two.still mid).contents ∙ (one.noted first).contents)
    ∙ ap (λ (p : Place). contents g.S.Store g.P.Shelf c.args.connection.now p.pack p.offset p.size) c.in_ok-place.ensures.same ∙ has in
    let h1 = one.rewrites first sums by in
    let h2 = two.rewrites mid sums h1.within in
    let h3 = last bytes there clean sums h2.within in
    let with_row : Tables → Tables = λ x. rebodied x x.refs (x.blocks ++ record { digest = q.0; ord = q.1; bytes = [] } ∷ []) in
    let set : Tables → Tables = λ x. rebodied x x.refs (update_where (is_block q) (λ b. record b { bytes = bytes }) x.blocks) in
    let free : list_any (is_block q) t.blocks ≡ false = ap (λ (x : Tables). list_any (is_block q) x.blocks) (sym h1.is) ∙ (two.fresh mid).free in
    record { within = h3.within; is = h3.is ∙ ap set (h2.is ∙ ap with_row h1.is) ∙ placed_law t q bytes free }) c.insert_place.ensures.rewrites

pub returns-clause-fresh : goal.returns-clause-fresh
returns-clause-fresh g c = on_any c.insert_place.result _ (λ clean.
    let one = c.in_ok-note_place.ensures in
    let two = c.in_ok-insert_row.ensures in
    let mid = c.insert_place.ensures.writes.within.follows.clean clean in
    let first = two.writes.within.follows.clean mid in
    let m = c.requires.midst (one.writes.within.follows.clean first) in
    subst (IsNewName (c.args.digest.now, c.args.ord)) (one.rewrites first m.sums m.by).is (two.fresh mid))
