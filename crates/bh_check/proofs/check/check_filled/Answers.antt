use Rattle.std.proofs.Common.{IsTrue, sym, subst}
use Rattle.sqlite.specs.Effect.{IsDatabase}
use Rattle.sqlite.specs.Tree.{Trees}
use Rattle.sqlite_trees.specs.View.{IsClean}
use Rattle.bh_rows.specs.Form.{typed}
use Rattle.bh_shelf.specs.Contents.{Contents}
use Rattle.bh_tables.specs.Rows.{pack_form, place_form}
use Rattle.bh_tables.specs.Schema.{host_schema}
use Rattle.bh_stored.specs.Fits.{AreAllFit}
use Rattle.bh_stored.specs.Stored.{AreStoredIn}
use Rattle.bh_stored.proofs.Fitted.{packs_are, places_are}
use Rattle.bh_check.specs.Blocks.{AreNamed}
use Rattle.bh_check.specs.Lost.{IsReadable, AreLost, AreLostIn}
use Rattle.bh_check.specs.declared.lost.Lost.{Lost}
use Rattle.bh_check.proofs.FilledSound.{seen_fifth, places_named}
use Rattle.bh_check.proofs.LostLemmas.{some_so, lost_in}
use Rattle.bh_check.proofs.check.check_filled.Goals as goal

pub returns-in-Ok-clause-checked : goal.returns-in-Ok-clause-checked
returns-in-Ok-clause-checked g c none clean packs_clean whole sizes =
    let trees = (g.S.Store.view c.args.store.now).trees in
    let stored : AreStoredIn trees c.in_ok-stored.stored = subst (λ (t : Trees). AreStoredIn t c.in_ok-stored.stored) (seen_fifth trees) (c.in_ok-stored.ensures.stored clean) in
    let fits : AreAllFit trees = subst AreAllFit (seen_fifth trees) (c.in_ok-stored.ensures.fit clean) in
    c.in-Ok.ensures.checked packs_clean trees stored fits (places_named trees whole (places_are (trees 34) fits.places)) sizes

pub returns-in-Ok-clause-typed : goal.returns-in-Ok-clause-typed
returns-in-Ok-clause-typed g c clean =
    let trees = (g.S.Store.view c.args.store.now).trees in
    let fits : AreAllFit trees = subst AreAllFit (seen_fifth trees) (c.in_ok-stored.ensures.fit clean) in
    packs_are (trees 32) fits.packs

pub returns-in-Err-Flaw-clause-typed : goal.returns-in-Err-Flaw-clause-typed
returns-in-Err-Flaw-clause-typed g c clean =
    let trees = (g.S.Store.view c.args.store.now).trees in
    let fits : AreAllFit trees = subst AreAllFit (seen_fifth trees) (c.in_ok-stored.ensures.fit clean) in
    packs_are (trees 32) fits.packs

pub returns-in-Err-Flaw-clause-lost : goal.returns-in-Err-Flaw-clause-lost
returns-in-Err-Flaw-clause-lost g c =
    let trees = (g.S.Store.view c.args.store.now).trees in
    let s = c.in_ok-stored.stored in
    let digest = g.D.Digester.digest_of in
    let seen = g.P.Shelf.seen c.args.packs.now in
    let mid = g.P.Shelf.seen c.check_stored.new.packs in
    let found = c.in_ok-with_lost-in-Err-Flaw.field-0 in
    let reads = c.in_ok-with_lost-in-Err-Flaw.ensures.reads in
    some_so (λ (lost : Lost). IsTrue (g.P.Shelf.is_clean c.with_lost.new.packs) → AreNamed s.places.items → AreLost (IsReadable (typed pack_form s.packs.items) mid (typed place_form s.places.items) digest) s lost)
    (λ (lost : Lost). IsClean (g.S.Store.view c.read.new.store) → IsTrue (g.P.Shelf.is_clean c.with_lost.new.packs) → IsDatabase (record { schema = host_schema; trees = trees }) → AreLostIn seen digest trees lost)
    (λ lost its clean packs_clean whole.
    let stored : AreStoredIn trees s = subst (λ (t : Trees). AreStoredIn t s) (seen_fifth trees) (c.in_ok-stored.ensures.stored clean) in
    let fits : AreAllFit trees = subst AreAllFit (seen_fifth trees) (c.in_ok-stored.ensures.fit clean) in
    let named = subst AreNamed (sym stored.places_is) (places_named trees whole (places_are (trees 34) fits.places)) in
    let same = c.in-Err-Flaw.ensures.reads.seen (reads.clean packs_clean) in
    lost_in seen digest trees s lost stored (subst (λ (p : Contents). AreLost (IsReadable (typed pack_form s.packs.items) p (typed place_form s.places.items) digest) s lost) same (its packs_clean named)))
    found.lost c.in_ok-with_lost-in-Err-Flaw.ensures.lost
