use Rattle.std.proofs.Common.{◌++◌, ◌∷◌, [], ◌+◌, ap, subst, ◌∙◌}
use Rattle.std.proofs.lemmas.Result.{on_ok_weaker}
use Rattle.sqlite_keyed.specs.Lists.{update_where}
use Rattle.sqlite_rules.specs.Lists.{Has}
use Rattle.bh_packs.specs.declared.place.Place.{Place}
use Rattle.bh_tables.specs.Shown.{Name, is_block}
use Rattle.bh_tables.specs.Typed.{Tables, rebodied}
use Rattle.bh_base.specs.Connections.{contents, HasAt, places}
use Rattle.bh_base.specs.Places.{row_of_place}
use Rattle.bh_compaction.proofs.moving.put.Goals as goal

pub insert_place-requires-clause-there : goal.insert_place-requires-clause-there
insert_place-requires-clause-there g c clean =
    let one = c.in_ok-note_place.ensures in
    let was = one.writes.within.follows.clean clean in
    let there = c.requires.there was in
    let noted = one.noted clean in
    let m = c.requires.midst was in
    let blocks = ap (λ (t : Tables). t.blocks) (one.rewrites clean m.sums m.by).is in
    record {
      bytes = there.bytes;
      there = ap (λ n. n c.in_ok-place.place.pack c.in_ok-place.place.offset c.in_ok-place.place.size) noted.contents
          ∙ ap (λ (p : Place). contents g.S.Store g.P.Shelf c.args.connection.now p.pack p.offset p.size) c.in_ok-place.ensures.same ∙ there.there;
      size = ap (λ (p : Place). p.size) c.in_ok-place.ensures.same ∙ there.size;
      reached = noted.reached;
      empty = λ b has its. c.requires.empty was b (subst (λ l. Has l b) blocks has) its;
    }

pub returns-clause-rewrites : goal.returns-clause-rewrites
returns-clause-rewrites g c = on_ok_weaker c.insert_place.result (λ last bytes has clean sums by.
    let q : Name = (c.args.digest.now, c.args.ord) in
    let one = c.in_ok-note_place.ensures in
    let mid = c.insert_place.ensures.writes.within.follows.clean clean in
    let there : HasAt g.S.Store g.P.Shelf c.note_place.new.connection c.in_ok-place.place bytes =
    ap (λ n. n c.in_ok-place.place.pack c.in_ok-place.place.offset c.in_ok-place.place.size) (one.noted mid).contents
    ∙ ap (λ (p : Place). contents g.S.Store g.P.Shelf c.args.connection.now p.pack p.offset p.size) c.in_ok-place.ensures.same ∙ has in
    let h1 = one.rewrites mid sums by in
    let h2 = last bytes there clean sums h1.within in
    let set : Tables → Tables = λ x. rebodied x x.refs (update_where (is_block q) (λ b. record b { bytes = bytes }) x.blocks) in
    record { within = h2.within; is = h2.is ∙ ap set h1.is }) c.insert_place.ensures.rewrites

pub returns-clause-placed : goal.returns-clause-placed
returns-clause-placed g c = on_ok_weaker c.insert_place.result (λ set clean.
    let q : Name = (c.args.digest.now, c.args.ord) in
    let mid = c.insert_place.ensures.writes.within.follows.clean clean in
    (set clean).places ∙ ap (λ ps. ps ++ row_of_place q c.in_ok-place.place ∷ []) (c.in_ok-note_place.ensures.noted mid).places
    ∙ ap (λ (p : Place). places g.S.Store g.P.Shelf c.args.connection.now ++ row_of_place q p ∷ []) c.in_ok-place.ensures.same) c.insert_place.ensures.placed
