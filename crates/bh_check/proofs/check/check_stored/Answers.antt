use Rattle.std.proofs.Common.{List, map, sym, ap, subst, ◌∙◌}
use Rattle.std.specs.List.{AllByRecursion}
use Rattle.sqlite.specs.Order.{Row}
use Rattle.bh_base.specs.Placed.{filled_trees}
use Rattle.bh_shelf.specs.Contents.{Contents}
use Rattle.bh_check.specs.Blocks.{AreNamed, HasDigest}
use Rattle.bh_check.specs.Filled.{AreKnown}
use Rattle.bh_check.specs.Holds.{first_two, block_length}
use Rattle.bh_check.specs.Looked.{AreShown}
use Rattle.bh_check.specs.Sums.{Keeps, total}
use Rattle.bh_check.proofs.FilledRows.{store_filled}
use Rattle.bh_check.proofs.check.check_stored.Goals as goal

pub returns-clause-checked : goal.returns-clause-checked
returns-clause-checked g c clean d stored fits named sizes =
    let s = c.args.stored.now in
    let seen = g.P.Shelf.seen c.args.packs.now in
    let digest = g.D.Digester.digest_of in
    let known = c.in_ok-known.known in
    let looked = c.in_ok-looked.looked in
    let mid = c.in_ok-check_looked.ensures.reads.clean clean in
    let known_are = subst (λ (l : List Row). AreKnown l known) c.deref.ensures.value c.in_ok-known.ensures in
    let its = c.in_ok-looked.ensures.looked mid known_are (subst AreNamed (sym stored.places_is) named) in
    let it = store_filled seen d sizes s known its.filled stored fits named known_are its.are in
    c.in_ok-check_looked.ensures.checked clean (filled_trees seen d) it.read
    (subst (λ (p : Contents). AreShown p s known s.blocks.items (filled_trees seen d 10)) (sym (c.in_ok-looked.ensures.reads.seen mid)) it.shown)
    it.fits
    (subst (λ (l : List Row). Keeps (total first_two block_length l) looked.by_name) it.same its.by_name)
    (its.lengths ∙ ap (map block_length) it.same)
    digest (subst (AllByRecursion (HasDigest digest)) it.same its.digests)
