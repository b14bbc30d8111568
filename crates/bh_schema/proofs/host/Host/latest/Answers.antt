use Rattle.std.proofs.Common.{rules, ◌≡◌, unwrap_or}
use Rattle.std.proofs.lemmas.Result.{IfOk-at_ok}
use Rattle.bh_base.specs.Connections.{state}
use Rattle.bh_schema.proofs.Storing.{both, parts, under, plain, inside_of}
use Rattle.bh_schema.proofs.Stamping.{latest_read}
use Rattle.bh_schema.proofs.host.Host.latest.Goals as goal

pub find_latest-requires : goal.find_latest-requires
find_latest-requires g c = record { inside = λ clean. inside_of _ (state g.S.Store g.P.Shelf c.args.self.now.connection) (under _ _ (c.requires (parts clean))) }

pub returns-in-Some-clause-latest : goal.returns-in-Some-clause-latest
returns-in-Some-clause-latest g c clean =
    let read : c.in-Some.latest ≡ unwrap_or c.in_ok-found.found 0 = search rules in
    let working = c.requires (parts (c.find_latest.ensures.reads.within.follows.clean (both clean))) in
    rw (plain _ _ working) (latest_read _ (state g.S.Store g.P.Shelf c.args.self.now.connection) c.in_ok-found.found c.in-Some.latest
    (under _ _ working) (IfOk-at_ok _ c.in_ok-found.ensures.ok c.find_latest.ensures.found (both clean)) read)
