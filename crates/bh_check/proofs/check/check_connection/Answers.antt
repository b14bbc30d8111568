use Rattle.std.proofs.Common.{◌≡◌, length, ap, ◌∙◌, None, IsTrue, Option}
use Rattle.sqlite.specs.Held.{state}
use Rattle.sqlite.specs.Schema.{Schema}
use Rattle.sqlite_trees.specs.View.{IsClean}
use Rattle.bh_tables.specs.Hosts.{tables_opened}
use Rattle.bh_view.specs.Bodies.{IsSoundHost}
use Rattle.bh_base.specs.Layer.{IsStateClean}
use Rattle.bh_stored.specs.Stored.{seen}
use Rattle.bh_stored.specs.Stores.{KeepsTrees}
use Rattle.bh_check.specs.Checked.{edition_with, IsChecked}
use Rattle.bh_check.specs.declared.check.Found.{Found}
use Rattle.bh_check.proofs.LeftSound.{ok_both, sound_left}
use Rattle.bh_check.proofs.check.check_connection.Goals as goal

pub returns : goal.returns
returns g c =
    let store = g.S.Store in
    let connection = c.args.connection in
    let bare = c.into_store-store.result in
    let last = c.check_store-found.new.store in
    let digest = g.D.Digester.digest_of in
    let edition = c.edition_with-edition.result in
    let settled = c.is_autocommit-is_settled.ensures.settled c.if-not-is_settled.false in
    let tells : edition ≡ edition_with (length (state store connection).now.schema.tables) = c.edition_with-edition.ensures ∙ ap edition_with (c.len-tables.ensures ∙ ap (λ (s : Schema). length s.tables) c.schema.ensures.value) in
    let left = c.into_store-store.ensures in
    record {
      sound = ok_both c.check_store-found.result
          (λ (found : Option Found). found ≡ None → KeepsTrees (store.view bare) (store.view last))
          (λ (found : Option Found). found ≡ None → IsClean (store.view last) → IsChecked edition digest (seen edition (store.view bare).trees))
          (λ (found : Option Found). found ≡ None → IsClean (store.view last) → IsTrue (store.view last).is_open → IsStateClean (state store connection) × IsSoundHost digest (tables_opened (state store connection).now))
          (λ found keeps checked none clean opened. sound_left store connection bare last edition digest c.requires.schema tells c.schema.ensures.live settled left.undone left.quiet.clean (keeps none) (checked none) clean opened)
          c.check_store-found.ensures.keeps c.check_store-found.ensures.checked;
    }
