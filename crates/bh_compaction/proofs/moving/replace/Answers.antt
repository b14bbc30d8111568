use Rattle.std.proofs.Common.{◌++◌, ◌∷◌, [], length, refl, sym, ap, subst, ◌∙◌}
use Rattle.sqlite_keyed.specs.Lists.{update_where}
use Rattle.sqlite_rules.specs.Lists.{Has}
use Rattle.bh_packs.specs.Sums.{sum_of}
use Rattle.bh_tables.specs.Shown.{Name, is_block}
use Rattle.bh_tables.specs.Typed.{Tables, tables_in, rebodied}
use Rattle.bh_base.specs.Connections.{stands}
use Rattle.bh_base.specs.Places.{row_of_place}
use Rattle.bh_compaction.proofs.Chains.{where_found, writes_then}
use Rattle.bh_compaction.proofs.Replacing.{emptied, moved_law}
use Rattle.bh_compaction.proofs.moving.replace.Goals as goal

pub put_bytes-requires-clause-empty : goal.put_bytes-requires-clause-empty
put_bytes-requires-clause-empty g c clean b has its =
    let q : Name = (c.args.digest.now, c.args.ord) in
    let one = c.in_ok-bytes.ensures in
    let m = c.requires.midst (one.writes.within.follows.clean clean) in
    let is = (one.rewrites clean m.sums m.by).is in
    emptied q (tables_in (stands g.S.Store g.P.Shelf c.args.connection.now).now).blocks b (subst (λ (t : Tables). Has t.blocks b) is has) its

pub returns-clause-writes : goal.returns-clause-writes
returns-clause-writes g c =
    writes_then g.S.Store g.P.Shelf c.args.connection.now c.take.new.connection c.put_bytes.new.connection c.in_ok-bytes.ensures.writes.opens c.in_ok-bytes.ensures.writes.within c.put_bytes.ensures.writes

-- they are set again to what they were
pub returns-clause-rewrites : goal.returns-clause-rewrites
returns-clause-rewrites g c = where_found c.put_bytes.result (λ place last clean sums by.
    let q : Name = (c.args.digest.now, c.args.ord) in
    let one = c.in_ok-bytes.ensures in
    let bytes = c.as_slice.result.now in
    let mid = c.put_bytes.ensures.writes.within.follows.clean clean in
    let h1 = one.rewrites mid sums by in
    let h2 = last clean sums h1.within in
    let set : Tables → Tables = λ t. rebodied t t.refs (update_where (is_block q) (λ b. record b { bytes = bytes }) t.blocks) in
    record {
      within = h2.within;
      is = h2.is ∙ ap set h1.is ∙ moved_law (stands g.S.Store g.P.Shelf c.args.connection.now).now q bytes (λ b has its. one.bytes mid b has its ∙ sym c.as_slice.ensures.value);
    }) c.put_bytes.ensures.rewrites

pub returns-clause-moved : goal.returns-clause-moved
returns-clause-moved g c = where_found c.put_bytes.result (λ place put clean.
    let q : Name = (c.args.digest.now, c.args.ord) in
    let one = c.in_ok-bytes.ensures in
    let mid = c.put_bytes.ensures.writes.within.follows.clean clean in
    let it = put clean in
    record {
      block = q;
      from = c.args.old;
      to = place;
      placed = c.requires.placed (one.writes.within.follows.clean mid);
      in_pack = refl;
      size = it.size ∙ ap length c.as_slice.ensures.value ∙ one.size;
      sum = it.sum ∙ ap sum_of c.as_slice.ensures.value ∙ one.sum;
      is = it.is ∙ ap (λ ps. ps ++ row_of_place q place ∷ []) (one.displaced mid);
    }) c.put_bytes.ensures.placed
