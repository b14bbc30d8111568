use Rattle.std.proofs.Common.{ℕ, ◌+◌, ◌++◌, ◌∙◌, List, map, ap, subst}
use Rattle.std.specs.List.{AllByRecursion}
use Rattle.sqlite.specs.Order.{Row}
use Rattle.bh_rows.specs.Form.{typed}
use Rattle.bh_tables.specs.Bodies.{Name}
use Rattle.bh_check.specs.Blocks.{HasDigest}
use Rattle.bh_check.specs.Holds.{first_two, block_length}
use Rattle.bh_check.specs.Sums.{Keeps, total}
use Rattle.bh_tables.specs.Rows.{pack_form, place_form}
use Rattle.bh_check.proofs.ShownLemmas.{looked_more}
use Rattle.bh_check.proofs.looked.look_at.Goals as goal

pub returns-clause-looked : goal.returns-clause-looked
returns-clause-looked g c clean known named before was =
    let digest = g.D.Digester.digest_of in
    let rows = c.in_ok-rows.rows.items in
    let old = c.args.looked.now in
    let new = c.add.new.self in
    looked_more (typed pack_form c.args.stored.now.packs.items) (g.P.Shelf.seen c.args.packs.now) (typed place_form c.args.stored.now.places.items) digest
    before c.args.blocks.now rows old new was (c.in_ok-rows.ensures.rows clean known named) (subst (AllByRecursion (HasDigest digest)) c.deref.ensures.value (c.in_ok-row.ensures c.in_default.is))
    (subst (λ (l : List Row). (of : Name → ℕ) → Keeps of old.by_name → Keeps (λ q. of q + total first_two block_length l q) new.by_name) c.deref-2.ensures.value c.in_ok-add.ensures.names)
    (c.in_ok-add.ensures.lengths ∙ ap (λ l. old.lengths.items ++ map block_length l) c.deref-2.ensures.value)
