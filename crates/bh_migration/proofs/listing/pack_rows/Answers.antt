use Rattle.std.proofs.Common.{inl}
use Rattle.sqlite.specs.Held.{state}
use Rattle.bh_base.proofs.Calls.{asks_within, asks_opens, asks_same, asks_trouble}
use Rattle.bh_migration.proofs.PacksText.{packs_asks, packs_rows}
use Rattle.bh_migration.proofs.listing.pack_rows.Goals as goal

pub returns : goal.returns
returns g c =
    let h = c.query_all.ensures in
    let old = state g.S.Store c.args.connection.now in
    let new = state g.S.Store c.query_all.new.self in
    let r = c.query_all.result in
    let asks = packs_asks old new (λ clean. (c.requires clean).schema) (λ v. v.items) r h.ok h.survives h.err in
    record {
      within = asks_within old new (λ clean. inl (c.requires clean).inside) r asks;
      opens = asks_opens old new (λ clean. inl (c.requires clean).inside) r asks;
      same = asks_same old new (λ clean. inl (c.requires clean).inside) r asks;
      rows = packs_rows old new (λ clean. (c.requires clean).schema) (λ v. v.items) r h.ok h.survives;
      trouble = asks_trouble old new (λ clean. inl (c.requires clean).inside) r asks;
    }
