use Rattle.std.proofs.Common.{◌≡◌, ◌≢◌, [], ◌∷◌, filter, length, true, false, ◌==◌, arith, sym, ap, ◌∙◌}
use Rattle.std.proofs.lemmas.Bool.{eqb-false}
use Rattle.std.proofs.lemmas.Result.{IfOk-weaker}
use Rattle.sqlite.specs.Held.{state as database_state}
use Rattle.bh_tables.specs.Packs.{place_at}
use Rattle.bh_tables.specs.Shown.{Name, is_block}
use Rattle.bh_base.specs.Connections.{state, backing, contents, places, packs, rows_of_blocks}
use Rattle.bh_base.specs.Layer.{standing}
use Rattle.bh_base.proofs.Blocks.{fills_at}
use Rattle.bh_base.proofs.Calls.{reads_by}
use Rattle.bh_blocks.proofs.Keeping.{still_readable}
use Rattle.bh_base.proofs.Placed.{bytes_own, no_place, bytes_placed, some_bytes}
use Rattle.bh_base.proofs.PlaceCalls.{found_none, found_some, at_place}
use Rattle.bh_blocks.proofs.rows.block_bytes.Goals as goal

pub bytes_rows-requires-clause-reads : goal.bytes_rows-requires-clause-reads
bytes_rows-requires-clause-reads g c clean = reads_by (standing (state g.S.Store g.P.Shelf c.args.connection.now)) (c.requires.reads clean)

pub place_of-requires-clause-reads : goal.place_of-requires-clause-reads
place_of-requires-clause-reads g c clean = reads_by _ (still_readable _ _ c.in_ok-rows.ensures.reads.within c.in_ok-rows.ensures.reads.same c.requires.reads clean)

pub read_at-requires : goal.read_at-requires
read_at-requires g c clean =
    reads_by _ (still_readable _ _ c.in_ok-place_of.ensures.reads.within c.in_ok-place_of.ensures.reads.same (still_readable _ _ c.in_ok-rows.ensures.reads.within c.in_ok-rows.ensures.reads.same c.requires.reads) clean)

-- a block with bytes in its row has no place
pub returns-then-has_some-clause-bytes : goal.returns-then-has_some-clause-bytes
returns-then-has_some-clause-bytes g c clean =
    let q : Name = (c.args.digest.now, c.args.ord) in
    let old = c.args.connection.now in
    let a = backing g.P.Shelf old.packs in
    let s = database_state g.S.Store old.database in
    let was = c.in_ok-rows.ensures.reads.within.follows.clean clean in
    let f = fills_at a s (reads_by _ (c.requires.reads was)) in
    let one = c.in_ok-stored.ensures.bytes (filter (is_block q) (rows_of_blocks g.S.Store g.P.Shelf old)) (c.deref.ensures.value ∙ c.in_ok-rows.ensures.rows clean) in
    let stored = c.in_ok-stored.stored in
    let long : stored.len ≡ length stored.items = omega (arith, stored.ok.0) in
    let off : (stored.len == 0) ≡ false = sym c.is_empty-has_some.ensures ∙ c.if-has_some.true in
    let many : length stored.items ≢ 0 = (let some = eqb-false stored.len 0 off in omega (arith, some, long)) in
    bytes_own f q stored.items one (no_place f q stored.items one (some_bytes stored.items many))

pub returns-in-None-clause-bytes : goal.returns-in-None-clause-bytes
returns-in-None-clause-bytes g c clean =
    let q : Name = (c.args.digest.now, c.args.ord) in
    let old = c.args.connection.now in
    let a = backing g.P.Shelf old.packs in
    let s = database_state g.S.Store old.database in
    let asked = c.in_ok-place_of.ensures.reads.within.follows.clean clean in
    let was = c.in_ok-rows.ensures.reads.within.follows.clean asked in
    let f = fills_at a s (reads_by _ (c.requires.reads was)) in
    let one = c.in_ok-stored.ensures.bytes (filter (is_block q) (rows_of_blocks g.S.Store g.P.Shelf old)) (c.deref.ensures.value ∙ c.in_ok-rows.ensures.rows asked) in
    let none = found_none (place_at (places g.S.Store g.P.Shelf c.bytes_rows.new.connection) q) (rw c.in-None.is at (c.in_ok-place_of.ensures.found clean)) in
    bytes_own f q c.in_ok-stored.stored.items one (ap (λ ps. place_at ps q) (sym (c.in_ok-rows.ensures.still asked).places) ∙ none)

pub returns-clause-bytes : goal.returns-clause-bytes
returns-clause-bytes g c = IfOk-weaker c.read_at.result _ _ (λ bytes read clean.
    let q : Name = (c.args.digest.now, c.args.ord) in
    let old = c.args.connection.now in
    let a = backing g.P.Shelf old.packs in
    let s = database_state g.S.Store old.database in
    let last = c.read_at.ensures.within.follows.clean clean in
    let asked = c.in_ok-place_of.ensures.reads.within.follows.clean last in
    let was = c.in_ok-rows.ensures.reads.within.follows.clean asked in
    let f = fills_at a s (reads_by _ (c.requires.reads was)) in
    let one = c.in_ok-stored.ensures.bytes (filter (is_block q) (rows_of_blocks g.S.Store g.P.Shelf old)) (c.deref.ensures.value ∙ c.in_ok-rows.ensures.rows asked) in
    let kept = c.in_ok-rows.ensures.still asked in
    let place = c.in-Some.place in
    let found = found_some (place_at (places g.S.Store g.P.Shelf c.bytes_rows.new.connection) q) place (rw c.in-Some.is at (c.in_ok-place_of.ensures.found last)) in
    let there = bytes_placed f q c.in_ok-stored.stored.items one found.0 (ap (λ ps. place_at ps q) (sym kept.places) ∙ found.1) in
    let has = ap (λ n. n place.pack place.offset place.size) ((c.in_ok-place_of.ensures.still last).contents ∙ kept.contents) ∙ at_place (contents g.S.Store g.P.Shelf old) found.0 place found.2 ∙ there.1 in
    there.3 ∙ ap (λ x. x ∷ []) (sym (read clean there.0 has (sym there.2 ∙ sym found.2.size)))) c.read_at.ensures.bytes
