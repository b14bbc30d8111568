use Rattle.std.proofs.Common.{rules, ◌≤◌, ◌<◌, ℕ, ap, ◌∙◌, subst, arith, map}
use Rattle.bh_base.specs.Connections.{state}
use Rattle.bh_tables.specs.Typed.{Tables}
use Rattle.bh_schema.specs.Working.{tables_at}
use Rattle.bh_objects.proofs.Working.{same_tables}
use Rattle.bh_pages.specs.Seen.{seen_entry}
use Rattle.bh_pages.specs.Reading.{Stands}
use Rattle.bh_listing.proofs.Looping.{shown_rows, are_rows, are_next, lines_are, none_so_far, within_so_far, more_so_far, still_inside}
use Rattle.bh_listing.proofs.Small.{small_keys}
use Rattle.bh_listing.proofs.objects.gather_objects.Goals as goal

pub reading-init : goal.reading-init
reading-init g c =
    let old = state g.S.Store g.P.Shelf c.args.connection.now in
    record {
      far = none_so_far old c.requires.working;
      upto = c.in_ok-upto.ensures;
      count = c.in_ok-reading.ensures.count;
      read = λ clean. c.in_ok-reading.ensures.underway (shown_rows c.args.asked.now c.args.tenant.now c.args.bucket.now (tables_at old).versions)
          (are_rows c.args.asked.now c.args.tenant.now c.args.bucket.now (tables_at old).versions (small_keys (tables_at old) (c.requires.working clean).sound));
    }

pub object_lines-requires-clause-inside : goal.object_lines-requires-clause-inside
object_lines-requires-clause-inside g c = still_inside (state g.S.Store g.P.Shelf c.args.connection.now) (state g.S.Store g.P.Shelf c.reading.connection) c.requires.working c.reading.invariant.far

pub object_lines-requires-clause-small : goal.object_lines-requires-clause-small
object_lines-requires-clause-small g c = low c.reading.reading.count c.reading.invariant.count.few
  where
    low : (n : ℕ) → n ≤ 64 → n < 9223372036854775808
    low n h = omega (arith, h)

pub returns-in_err-lines-clause-reads : goal.returns-in_err-lines-clause-reads
returns-in_err-lines-clause-reads g c = record { within = within_so_far (state g.S.Store g.P.Shelf c.args.connection.now) (state g.S.Store g.P.Shelf c.reading.connection) (state g.S.Store g.P.Shelf c.object_lines.new.connection) c.reading.invariant.far c.in_err-lines.ensures.reads.within; opens = search rules; same = search rules }

pub returns-in_err-take-clause-reads : goal.returns-in_err-take-clause-reads
returns-in_err-take-clause-reads g c = record { within = within_so_far (state g.S.Store g.P.Shelf c.args.connection.now) (state g.S.Store g.P.Shelf c.reading.connection) (state g.S.Store g.P.Shelf c.object_lines.new.connection) c.reading.invariant.far c.in_ok-lines.ensures.reads.within; opens = search rules; same = search rules }

pub returns-then-branch-clause-reads : goal.returns-then-branch-clause-reads
returns-then-branch-clause-reads g c =
    let far = more_so_far (state g.S.Store g.P.Shelf c.args.connection.now) (state g.S.Store g.P.Shelf c.reading.connection) (state g.S.Store g.P.Shelf c.object_lines.new.connection) c.reading.invariant.far c.in_ok-lines.ensures.reads.within c.in_ok-lines.ensures.reads.opens c.in_ok-lines.ensures.reads.same in
    record { within = far.within; opens = far.opens; same = far.same }

pub returns-then-branch-clause-gathered : goal.returns-then-branch-clause-gathered
returns-then-branch-clause-gathered g c = λ clean.
    let old = state g.S.Store g.P.Shelf c.args.connection.now in
    let before = c.in_ok-lines.ensures.reads.within.follows.clean clean in
    let small = small_keys (tables_at old) (c.requires.working (c.reading.invariant.far.within.follows.clean before)).sound in
    let rows = shown_rows c.args.asked.now c.args.tenant.now c.args.bucket.now (tables_at old).versions in
    let had = c.reading.invariant.read before in
    let are = lines_are c.args.asked.now c.args.tenant.now c.args.bucket.now (tables_at (state g.S.Store g.P.Shelf c.reading.connection)).versions (tables_at old).versions c.reading.reading.from.items c.as_slice.result.now c.in_ok-upto.upto.items c.as_slice-in-reading.result.now
    c.in_ok-lines.lines.items c.as_slice-in-reading-2.result.now c.reading.reading.count c.as_slice.ensures.value c.as_slice-in-reading.ensures.value c.reading.invariant.upto c.as_slice-in-reading-2.ensures.value
    (ap (λ (t : Tables). t.versions) (same_tables old (state g.S.Store g.P.Shelf c.reading.connection) (c.reading.invariant.far.same before.intact))) (c.in_ok-lines.ensures.lines clean) in
    let next = are_next c.args.asked.now c.args.tenant.now c.args.bucket.now (tables_at old).versions c.reading.reading had c.as_slice-in-reading-2.result.now are in
    let took = c.in_ok-take.ensures.took rows (are_rows c.args.asked.now c.args.tenant.now c.args.bucket.now (tables_at old).versions small) had next in
    ap (λ v. map seen_entry v.items) c.into_entries.ensures ∙ subst (λ e. Stands e c.args.asked.now rows c.take.new.self) c.if-branch.true took

pub reading-preserved : goal.reading-preserved
reading-preserved g c =
    let old = state g.S.Store g.P.Shelf c.args.connection.now in
    record {
      far = more_so_far old (state g.S.Store g.P.Shelf c.reading.connection) (state g.S.Store g.P.Shelf c.object_lines.new.connection) c.reading.invariant.far c.in_ok-lines.ensures.reads.within c.in_ok-lines.ensures.reads.opens c.in_ok-lines.ensures.reads.same;
      upto = c.reading.invariant.upto;
      count = c.in_ok-take.ensures.count c.reading.invariant.count;
      read = λ clean.
          let before = c.in_ok-lines.ensures.reads.within.follows.clean clean in
          let small = small_keys (tables_at old) (c.requires.working (c.reading.invariant.far.within.follows.clean before)).sound in
          let rows = shown_rows c.args.asked.now c.args.tenant.now c.args.bucket.now (tables_at old).versions in
          let had = c.reading.invariant.read before in
          let are = lines_are c.args.asked.now c.args.tenant.now c.args.bucket.now (tables_at (state g.S.Store g.P.Shelf c.reading.connection)).versions (tables_at old).versions c.reading.reading.from.items c.as_slice.result.now c.in_ok-upto.upto.items c.as_slice-in-reading.result.now
          c.in_ok-lines.lines.items c.as_slice-in-reading-2.result.now c.reading.reading.count c.as_slice.ensures.value c.as_slice-in-reading.ensures.value c.reading.invariant.upto c.as_slice-in-reading-2.ensures.value
          (ap (λ (t : Tables). t.versions) (same_tables old (state g.S.Store g.P.Shelf c.reading.connection) (c.reading.invariant.far.same before.intact))) (c.in_ok-lines.ensures.lines clean) in
          let next = are_next c.args.asked.now c.args.tenant.now c.args.bucket.now (tables_at old).versions c.reading.reading had c.as_slice-in-reading-2.result.now are in
          let took = c.in_ok-take.ensures.took rows (are_rows c.args.asked.now c.args.tenant.now c.args.bucket.now (tables_at old).versions small) had next in
          subst (λ e. Stands e c.args.asked.now rows c.take.new.self) c.if-branch.false took;
    }

pub returns-clause-reads : goal.returns-clause-reads
returns-clause-reads g c = record { within = c.reading.invariant.far.within; opens = tt; same = tt }
