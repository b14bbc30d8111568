use Rattle.std.proofs.Common.{inl}
use Rattle.sqlite.specs.Held.{state}
use Rattle.bh_base.proofs.Calls.{asks_within, asks_opens, asks_same, asks_trouble}
use Rattle.bh_open.proofs.Texts.{row_asks, row_rows}
use Rattle.bh_open.proofs.row.host_rows.Goals as goal

pub returns : goal.returns
returns g c =
    let h = c.query_all.ensures in
    let old = state g.S.Store c.args.connection.now in
    let new = state g.S.Store c.query_all.new.self in
    let r = c.query_all.result in
    let asks = row_asks c.args.version old new c.requires.schema (λ v. v.items) r h.ok h.survives h.err in
    record {
      within = asks_within old new (λ clean. inl (c.requires.inside clean)) r asks;
      opens = asks_opens old new (λ clean. inl (c.requires.inside clean)) r asks;
      same = asks_same old new (λ clean. inl (c.requires.inside clean)) r asks;
      rows = row_rows c.args.version old new c.requires.schema (λ v. v.items) r h.ok h.survives;
      trouble = asks_trouble old new (λ clean. inl (c.requires.inside clean)) r asks;
    }
