use Rattle.std.proofs.Common.{◌++◌, refl, sym, ◌∙◌}
use Rattle.bh_base.specs.Connections.{state}
use Rattle.bh_view.specs.Bodies.{pieces, body_stored}
use Rattle.bh_schema.specs.Working.{tables_at}
use Rattle.bh_blocks.specs.Drafts.{drafted}
use Rattle.bh_blocks.proofs.Drafting.{ended, goes_on, none_waits, filled, waits}
use Rattle.bh_blocks.proofs.drafts.push.Goals as goal

pub push_blocks-requires-clause-none : goal.push_blocks-requires-clause-none
push_blocks-requires-clause-none g c = ended c.args.draft.now.waiting.items (sym c.held-waits.ensures ∙ c.if-waits-eq0.true)

-- nothing waited
pub returns-then-waits-eq0-clause-goes : goal.returns-then-waits-eq0-clause-goes
returns-then-waits-eq0-clause-goes g c = λ clean.
    let digest = g.D.Digester.digest_of in
    let draft = c.args.draft.now in
    let new = c.push_blocks.new.draft in
    let now = tables_at (state g.S.Store g.P.Shelf c.args.connection.now) in
    let then = tables_at (state g.S.Store g.P.Shelf c.push_blocks.new.connection) in
    let last = c.in_ok-push_blocks.ensures in
    goes_on digest draft new c.args.bytes.now now then last.of last.size
    (none_waits digest (drafted draft) draft.size draft.place new.place draft.waiting.items c.args.bytes.now new.waiting.items now then
    (ended draft.waiting.items (sym c.held-waits.ensures ∙ c.if-waits-eq0.true)) (last.goes clean))

-- more bytes wait, and make no block
pub returns-then-held-draft-clause-goes : goal.returns-then-held-draft-clause-goes
returns-then-held-draft-clause-goes g c = λ clean.
    let digest = g.D.Digester.digest_of in
    let draft = c.args.draft.now in
    let now = tables_at (state g.S.Store g.P.Shelf c.args.connection.now) in
    goes_on digest draft (record draft { waiting = c.append.new.waiting }) c.args.bytes.now now now refl refl
    (waits digest (drafted draft) draft.size draft.place draft.waiting.items c.args.bytes.now c.cut_off.result.0.now c.append.new.waiting.items now
    (rw c.held-waits.ensures at c.cut_off.ensures.front) c.in_ok-append.ensures c.requires.fewer (rw c.held.ensures at c.if-held-draft.true))

-- they made a block
pub returns-clause-goes : goal.returns-clause-goes
returns-clause-goes g c = λ clean.
    let digest = g.D.Digester.digest_of in
    let draft = c.args.draft.now in
    let new = c.push_blocks-2.new.draft in
    let now = tables_at (state g.S.Store g.P.Shelf c.args.connection.now) in
    let mid = tables_at (state g.S.Store g.P.Shelf c.store_waiting.new.connection) in
    let then = tables_at (state g.S.Store g.P.Shelf c.push_blocks-2.new.connection) in
    let full = c.append.new.waiting.items in
    let first = c.in_ok-store_waiting.ensures in
    let last = c.in_ok-push_blocks-2.ensures in
    let rest = c.cut_off.result.1.now in
    goes_on digest draft new c.args.bytes.now now then (last.of ∙ first.of) (last.size ∙ first.size)
    (λ more.
    sym (λ i. body_stored digest (first.of i) new.place (pieces (first.size i) (new.waiting.items ++ more)) then)
    ∙ last.goes clean more
    ∙ (λ i. body_stored digest (first.of i) (first.next i) (pieces (first.size i) (rest ++ more)) mid)
    ∙ filled digest (drafted draft) draft.size draft.place draft.waiting.items c.args.bytes.now c.cut_off.result.0.now rest full more now mid c.requires.size c.requires.fewer
    (rw c.held-waits.ensures at c.cut_off.ensures.front) (rw c.held-waits.ensures at c.cut_off.ensures.back) c.in_ok-append.ensures (rw c.held.ensures at c.if-held-draft.false)
    (first.stored (last.within.follows.clean clean)).is)
