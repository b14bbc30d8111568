use Rattle.std.proofs.Common.{◌≡◌, ◌≢◌, [], ◌∷◌, filter, length, arith, sym, ap, ◌∙◌}
use Rattle.sqlite.specs.Held.{state as database_state}
use Rattle.bh_tables.specs.Packs.{place_at}
use Rattle.bh_tables.specs.Shown.{Name, is_block}
use Rattle.bh_base.specs.Connections.{state, backing, places, rows_of_blocks}
use Rattle.bh_base.specs.Layer.{standing}
use Rattle.bh_base.proofs.Blocks.{fills_at}
use Rattle.bh_base.proofs.Calls.{reads_by, reads_inside}
use Rattle.bh_blocks.proofs.Keeping.{still_inside}
use Rattle.bh_base.proofs.Placed.{bytes_own, no_place, bytes_placed, some_bytes, sizes_are}
use Rattle.bh_base.proofs.PlaceCalls.{found_none, found_some}
use Rattle.bh_blocks.proofs.rows.size_of_block.Goals as goal

pub bytes_rows-requires-clause-reads : goal.bytes_rows-requires-clause-reads
bytes_rows-requires-clause-reads g c clean = let x = standing (state g.S.Store g.P.Shelf c.args.connection.now) in reads_by x (reads_inside x (c.requires.inside clean))

pub place_of-requires-clause-reads : goal.place_of-requires-clause-reads
place_of-requires-clause-reads g c clean = reads_by _ (reads_inside _ (still_inside _ _ c.in_ok-rows.ensures.reads.within c.in_ok-rows.ensures.reads.same c.requires.inside clean))

-- a block with bytes in its row has no place
pub returns-then-count-gt0-clause-size : goal.returns-then-count-gt0-clause-size
returns-then-count-gt0-clause-size g c clean =
    let q : Name = (c.args.digest.now, c.args.ord) in
    let old = c.args.connection.now in
    let was = c.in_ok-rows.ensures.reads.within.follows.clean clean in
    let x = standing (state g.S.Store g.P.Shelf old) in
    let f = fills_at (backing g.P.Shelf old.packs) (database_state g.S.Store old.database) (reads_by x (reads_inside x (c.requires.inside was))) in
    let stored = c.in_ok-stored.stored in
    let one = c.in_ok-stored.ensures.bytes (filter (is_block q) (rows_of_blocks g.S.Store g.P.Shelf old)) (c.deref.ensures.value ∙ c.in_ok-rows.ensures.rows clean) in
    let long : c.len-count.result ≡ length stored.items = omega (arith, c.len-count.ensures, stored.ok.0) in
    let many : length stored.items ≢ 0 = (let some = c.if-count-gt0.true in omega (arith, some, long)) in
    sizes_are _ stored.items (bytes_own f q stored.items one (no_place f q stored.items one (some_bytes stored.items many))) ∙ ap (λ n. n ∷ []) (sym long)

pub returns-in-None-clause-size : goal.returns-in-None-clause-size
returns-in-None-clause-size g c clean =
    let q : Name = (c.args.digest.now, c.args.ord) in
    let old = c.args.connection.now in
    let asked = c.in_ok-place_of.ensures.reads.within.follows.clean clean in
    let was = c.in_ok-rows.ensures.reads.within.follows.clean asked in
    let x = standing (state g.S.Store g.P.Shelf old) in
    let f = fills_at (backing g.P.Shelf old.packs) (database_state g.S.Store old.database) (reads_by x (reads_inside x (c.requires.inside was))) in
    let stored = c.in_ok-stored.stored in
    let one = c.in_ok-stored.ensures.bytes (filter (is_block q) (rows_of_blocks g.S.Store g.P.Shelf old)) (c.deref.ensures.value ∙ c.in_ok-rows.ensures.rows asked) in
    let long : c.len-count.result ≡ length stored.items = omega (arith, c.len-count.ensures, stored.ok.0) in
    let none = found_none (place_at (places g.S.Store g.P.Shelf c.bytes_rows.new.connection) q) (rw c.in-None.is at (c.in_ok-place_of.ensures.found clean)) in
    sizes_are _ stored.items (bytes_own f q stored.items one (ap (λ ps. place_at ps q) (sym (c.in_ok-rows.ensures.still asked).places) ∙ none)) ∙ ap (λ n. n ∷ []) (sym long)

pub returns-clause-size : goal.returns-clause-size
returns-clause-size g c clean =
    let q : Name = (c.args.digest.now, c.args.ord) in
    let old = c.args.connection.now in
    let asked = c.in_ok-place_of.ensures.reads.within.follows.clean clean in
    let was = c.in_ok-rows.ensures.reads.within.follows.clean asked in
    let x = standing (state g.S.Store g.P.Shelf old) in
    let f = fills_at (backing g.P.Shelf old.packs) (database_state g.S.Store old.database) (reads_by x (reads_inside x (c.requires.inside was))) in
    let one = c.in_ok-stored.ensures.bytes (filter (is_block q) (rows_of_blocks g.S.Store g.P.Shelf old)) (c.deref.ensures.value ∙ c.in_ok-rows.ensures.rows asked) in
    let place = c.in-Some.place in
    let found = found_some (place_at (places g.S.Store g.P.Shelf c.bytes_rows.new.connection) q) place (rw c.in-Some.is at (c.in_ok-place_of.ensures.found clean)) in
    let there = bytes_placed f q c.in_ok-stored.stored.items one found.0 (ap (λ ps. place_at ps q) (sym (c.in_ok-rows.ensures.still asked).places) ∙ found.1) in
    sizes_are _ there.0 there.3 ∙ ap (λ n. n ∷ []) (sym (found.2.size ∙ there.2))
