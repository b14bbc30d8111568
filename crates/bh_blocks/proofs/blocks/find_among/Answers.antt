use Rattle.std.proofs.Common.{◌≡◌, arith, true, false, Some, None, filter, length, sym, ap, subst, ◌∙◌}
use Rattle.std.proofs.lemmas.Bool.{eqb-true, false_from_ne_true}
use Rattle.sqlite_typed.specs.Tests.{bytes_eq}
use Rattle.sqlite_typed.proofs.TestLemmas.{same_bytes, bytes_eq_refl}
use Rattle.sqlite_rules.specs.Lists.{Has}
use Rattle.bh_base.proofs.Measuring.{none_shown}
use Rattle.bh_tables.specs.Typed.{tables_in}
use Rattle.bh_tables.specs.Shown.{has_digest, shown_ord}
use Rattle.bh_base.specs.Connections.{state}
use Rattle.bh_base.specs.Layer.{Standing, standing}
use Rattle.bh_schema.proofs.Storing.{within_then}
use Rattle.bh_blocks.proofs.Candidates.{found_here, found_later, found_nowhere, copy_found, its_block}
use Rattle.bh_blocks.proofs.Keeping.{still_inside}
use Rattle.bh_blocks.proofs.Loops.{at_row, drop_end}
use Rattle.bh_base.proofs.Calls.{reads_inside}
use Rattle.bh_blocks.proofs.blocks.find_among.Goals as goal

pub has_bytes-requires-clause-reads : goal.has_bytes-requires-clause-reads
has_bytes-requires-clause-reads g c clean = let inv = c.loop-row.invariant in reads_inside _ (still_inside _ _ inv.within inv.same c.requires.inside clean)

pub loop-row-preserved : goal.loop-row-preserved
loop-row-preserved g c =
    let inv = c.loop-row.invariant in
    let digest = c.args.digest.now in
    let bytes = c.args.bytes.now in
    let blocks = (tables_in (standing (state g.S.Store g.P.Shelf c.args.connection.now)).now).blocks in
    let bs = filter (has_digest digest) blocks in
    let step = c.in_ok-is_copy.ensures in
    record {
      within = within_then _ _ _ inv.opens inv.within step.reads.within;
      opens = λ intact up. (step.reads.opens intact).1;
      same = λ intact. step.reads.same intact ∙ inv.same (step.reads.within.follows.intact intact);
      none = λ clean.
          let was = step.reads.within.follows.clean clean in
          let it = at_row shown_ord bs c.args.rows.now c.loop-row.row-index c.row-item.result c.loop-row-test.true c.row-item.is (c.requires.rows (inv.within.follows.clean was)) in
          let there = its_block digest blocks it.0 c.loop-row.row-index c.in_ok-ord.ord it.2 (c.in_ok-ord.ensures.read it.0 it.1) in
          let told = step.other clean c.if-is_copy.false it.0 (subst (λ (x : Standing). Has (tables_in x.now).blocks it.0) (sym (inv.same was.intact)) there.0) there.1 in
          found_later bytes bs c.loop-row.row-index (inv.none was) it.0 it.2 (false_from_ne_true _ (λ on. told (same_bytes it.0.bytes bytes on)));
    }

pub returns-then-is_copy-clause-found : goal.returns-then-is_copy-clause-found
returns-then-is_copy-clause-found g c clean =
    let inv = c.loop-row.invariant in
    let digest = c.args.digest.now in
    let bytes = c.args.bytes.now in
    let blocks = (tables_in (standing (state g.S.Store g.P.Shelf c.args.connection.now)).now).blocks in
    let bs = filter (has_digest digest) blocks in
    let step = c.in_ok-is_copy.ensures in
    let was = step.reads.within.follows.clean clean in
    let it = at_row shown_ord bs c.args.rows.now c.loop-row.row-index c.row-item.result c.loop-row-test.true c.row-item.is (c.requires.rows (inv.within.follows.clean was)) in
    let read = c.in_ok-ord.ensures.read it.0 it.1 in
    let there = its_block digest blocks it.0 c.loop-row.row-index c.in_ok-ord.ord it.2 read in
    let told = step.same clean c.if-is_copy.true it.0 (subst (λ (x : Standing). Has (tables_in x.now).blocks it.0) (sym (inv.same was.intact)) there.0) there.1 in
    ap Some read ∙ copy_found digest bytes blocks (Some it.0) (found_here bytes bs c.loop-row.row-index (inv.none was) it.0 it.2 (ap (λ x. bytes_eq x bytes) told ∙ bytes_eq_refl bytes))

pub returns-then-is_empty-clause-found : goal.returns-then-is_empty-clause-found
returns-then-is_empty-clause-found g c clean =
    let inv = c.loop-row.invariant in
    let none : length c.args.rows.now ≡ 0 = eqb-true (length c.args.rows.now) 0 (sym c.is_empty.ensures ∙ c.if-is_empty.true) in
    none_shown shown_ord (filter (has_digest c.args.digest.now) (tables_in (standing (state g.S.Store g.P.Shelf c.args.connection.now)).now).blocks) c.args.rows.now (c.requires.rows (inv.within.follows.clean clean)) none

pub returns-else-is_empty-clause-found : goal.returns-else-is_empty-clause-found
returns-else-is_empty-clause-found g c clean =
    let inv = c.loop-row.invariant in
    let digest = c.args.digest.now in
    let bytes = c.args.bytes.now in
    let blocks = (tables_in (standing (state g.S.Store g.P.Shelf c.args.connection.now)).now).blocks in
    let bs = filter (has_digest digest) blocks in
    copy_found digest bytes blocks None (found_nowhere bytes bs c.loop-row.row-index (inv.none clean)
    (drop_end shown_ord bs c.args.rows.now c.loop-row.row-index (λ low. let high = c.loop-row-test.false in omega (arith, low, high)) (c.requires.rows (inv.within.follows.clean clean))))
