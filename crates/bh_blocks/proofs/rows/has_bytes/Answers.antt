use Rattle.std.proofs.Common.{rules, ◌≡◌, ◌≢◌, sym, ◌∙◌}
use Rattle.bh_tables.specs.Shown.{Name}
use Rattle.bh_schema.specs.Working.{tables_at}
use Rattle.bh_base.specs.Connections.{state}
use Rattle.bh_base.proofs.Placed.{bytes_of_one}
use Rattle.bh_blocks.proofs.rows.has_bytes.Goals as goal

pub returns-clause-same : goal.returns-clause-same
returns-clause-same g c clean on b has its =
    let q : Name = (c.args.digest.now, c.args.ord) in
    let found : c.in_ok-found.found.items ≡ c.args.bytes.now = search (rules, on) in
    bytes_of_one q (tables_at (state g.S.Store g.P.Shelf c.args.connection.now)).blocks c.in_ok-found.found.items (c.in_ok-found.ensures.bytes clean) b has its ∙ found

pub returns-clause-other : goal.returns-clause-other
returns-clause-other g c clean off b has its equal =
    let q : Name = (c.args.digest.now, c.args.ord) in
    let other : c.in_ok-found.found.items ≢ c.args.bytes.now = search (rules, off) in
    other (sym (bytes_of_one q (tables_at (state g.S.Store g.P.Shelf c.args.connection.now)).blocks c.in_ok-found.found.items (c.in_ok-found.ensures.bytes clean) b has its) ∙ equal)
