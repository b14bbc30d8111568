use Rattle.std.proofs.Common.{◌≡◌, None, IsTrue, Option, refl}
use Rattle.sqlite.specs.Effect.{IsDatabase}
use Rattle.std.proofs.lemmas.Result.{IfOk-weaker}
use Rattle.sqlite.specs.Held.{state}
use Rattle.sqlite.specs.Tree.{Trees}
use Rattle.sqlite_trees.specs.View.{IsClean}
use Rattle.bh_rows.specs.Form.{AreRows}
use Rattle.bh_tables.specs.Packs.{packs_in, places_in}
use Rattle.bh_tables.specs.Rows.{pack_form}
use Rattle.bh_tables.specs.Schema.{host_schema}
use Rattle.bh_view.specs.Bodies.{IsSoundHost}
use Rattle.bh_base.specs.Layer.{IsStateClean}
use Rattle.bh_base.specs.Placed.{filled_trees}
use Rattle.bh_stored.specs.Stores.{KeepsTrees}
use Rattle.bh_stored.specs.declared.stored.Edition.TheVariants.{Fifth}
use Rattle.bh_open.specs.Packed.{tables_beside}
use Rattle.bh_check.specs.Awaits.{HasReached}
use Rattle.bh_check.specs.Checked.{IsChecked}
use Rattle.bh_check.specs.Lost.{AreLostIn}
use Rattle.bh_check.specs.declared.check.Found.{Found}
use Rattle.bh_check.proofs.LostLemmas.{some_so}
use Rattle.bh_check.proofs.ListedPacks.{listed_reached}
use Rattle.bh_check.proofs.LeftSound.{ok_both, judged_with, so_left, state_clean, typed_left}
use Rattle.bh_check.proofs.check.check_with_packs.Goals as goal

pub returns : goal.returns
returns g c =
    let store = g.S.Store in
    let shelf = g.P.Shelf in
    let connection = c.args.connection in
    let bare = c.into_store-store.result in
    let last = c.check_store_with-found.new.store in
    let seen = shelf.seen c.args.packs.now in
    let now = (state store connection).now in
    let packs_clean = IsTrue (shelf.is_clean c.check_store_with-found.new.packs) in
    let digest = g.D.Digester.digest_of in
    let settled = c.is_autocommit-is_settled.ensures.settled c.if-not-is_settled.false in
    let left = c.into_store-store.ensures in
    let sound = ok_both c.check_store_with-found.result
    (λ (found : Option Found). found ≡ None → KeepsTrees (store.view bare) (store.view last))
    (λ (found : Option Found). found ≡ None → IsClean (store.view last) → packs_clean → IsDatabase (record { schema = host_schema; trees = (store.view bare).trees }) → HasReached seen (packs_in (store.view bare).trees) (places_in (store.view bare).trees)
    → IsChecked Fifth digest (filled_trees seen (store.view bare).trees))
    (λ (found : Option Found). found ≡ None → IsClean (store.view last) → IsTrue (store.view last).is_open → packs_clean → HasReached seen (packs_in now.trees) (places_in now.trees)
    → IsStateClean (state store connection) × IsSoundHost digest (tables_beside seen now))
    (λ found keeps checked none clean opened packs sizes.
    judged_with store connection bare last Fifth c.requires.schema c.schema.ensures.live settled left.undone left.quiet.clean (keeps none) clean opened refl digest seen (λ was. checked none was packs) sizes)
    c.check_store_with-found.ensures.keeps c.check_store_with-found.ensures.checked in
    let known = ok_both c.check_store_with-found.result
    (λ (found : Option Found). found ≡ None → KeepsTrees (store.view bare) (store.view last))
    (λ (found : Option Found). found ≡ None → IsClean (store.view last) → AreRows pack_form ((store.view bare).trees 32))
    (λ (found : Option Found). found ≡ None → IsClean (store.view last) → IsTrue (store.view last).is_open → IsStateClean (state store connection) × AreRows pack_form (now.trees 32))
    (λ found keeps typed none clean opened. (
      state_clean store connection bare last Fifth c.requires.schema c.schema.ensures.live settled left.undone left.quiet.clean (keeps none) clean opened,
      typed_left store connection bare last Fifth c.requires.schema c.schema.ensures.live settled left.undone left.quiet.clean (keeps none) clean opened (typed none),
    ))
    c.check_store_with-found.ensures.keeps c.check_store_with-found.ensures.typed in
    record {
      reads = c.check_store_with-found.ensures.reads;
      sound = sound;
      listed = ok_both c.check_store_with-found.result _ _ _
          (λ found its was none clean opened packs files has.
          let both = was none clean opened in
          its none clean opened packs (listed_reached (packs_in now.trees) (places_in now.trees) files seen (has both.0 both.1)))
          sound known;
      lost = IfOk-weaker c.check_store_with-found.result _ _
          (λ found has. some_so _ _
          (λ it more. some_so _ _
          (λ lost both clean opened packs. (
            state_clean store connection bare last Fifth c.requires.schema c.schema.ensures.live settled left.undone left.quiet.clean both.0 clean opened,
            so_left store connection bare last Fifth c.requires.schema c.schema.ensures.live settled left.undone left.quiet.clean both.0 clean opened refl (λ (t : Trees). AreLostIn seen digest t lost) (λ was whole. both.1 was packs whole),
          )) it.lost more) found has)
          c.check_store_with-found.ensures.lost;
    }
