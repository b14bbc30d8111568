use Rattle.std.proofs.Common.{◌≡◌, ◌-◌, length, ap, sym, ◌∙◌}
use Rattle.bh_base.specs.Connections.{state}
use Rattle.bh_tables.specs.Bodies.{block_at}
use Rattle.bh_tables.specs.Schema.{Octets}
use Rattle.bh_tables.specs.Typed.{Tables, tables_in}
use Rattle.bh_view.specs.Bodies.{bodies_in}
use Rattle.bh_base.specs.Layer.{Standing}
use Rattle.bh_schema.specs.Working.{tables_at}
use Rattle.bh_blocks.specs.Named.{named_by}
use Rattle.bh_blocks.specs.Plans.{planned}
use Rattle.bh_blocks.specs.Windows.{seen_in}
use Rattle.bh_blocks.proofs.Keeping.{still_readable}
use Rattle.bh_blocks.proofs.PlanSteps.{piece_given}
use Rattle.bh_blocks.proofs.reading.next_piece.Goals as goal

pub read_part-requires-clause-reads : goal.read_part-requires-clause-reads
read_part-requires-clause-reads g c = still_readable _ _ c.in_ok-find_shown.ensures.within c.in_ok-find_shown.ensures.same c.requires.reads

pub returns-in_ok-place-in-Some-clause-gives : goal.returns-in_ok-place-in-Some-clause-gives
returns-in_ok-place-in-Some-clause-gives g c = λ clean bodies.
    let part = c.in_ok-bytes-in-Some.ensures in
    let found = c.in_ok-find_shown.ensures in
    let was = part.within.follows.clean clean in
    let old = tables_at (state g.S.Store g.P.Shelf c.args.connection.now) in
    let same : tables_at (state g.S.Store g.P.Shelf c.find_shown.new.connection) ≡ old = ap (λ (x : Standing). tables_in x.now) (found.same was.intact) in
    let (first, shows) = rw c.in-Some.is at found.first was bodies in
    let shown = c.in-Some.shown in
    sym shows
    ∙ piece_given old.blocks (bodies_in old) old.refs bodies (planned c.args.plan.now) shown.block shown.window.skip shown.window.left shown.place c.in_ok-place-in-Some.place _ c.in_ok-bytes-in-Some.bytes.items
    first (rw c.in-Some.is at found.shows) c.in_ok-place-in-Some.ensures.next
    (part.bytes clean ∙ ap (λ (t : Tables). seen_in shown.window (block_at t.blocks (named_by shown.block))) same)
    (ap (λ (xs : Octets). shown.window.left - length xs) c.as_slice.ensures.value)
