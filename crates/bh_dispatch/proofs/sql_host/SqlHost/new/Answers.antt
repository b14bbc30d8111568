use Rattle.std.proofs.Common.{sym, ap, ◌∙◌, subst}
use Rattle.bh_storage.specs.Calls.{IsAtRest}
use Rattle.bh_view.specs.Bodies.{IsSoundHost}
use Rattle.bh_memo.specs.Recalled.{recalled}
use Rattle.bh_memo.proofs.Recalling.{nothing_recalled}
use Rattle.bh_schema.specs.Storage as storage
use Rattle.bh_dispatch.proofs.sql_host.SqlHost.new.Goals as goal

pub returns-clause-rests : goal.returns-clause-rests
returns-clause-rests g c = λ rest.
    let is = storage.seen g.S.Store g.P.Shelf c.args.host in
    subst (IsAtRest (IsSoundHost g.D.Digester.digest_of)) (sym (ap (λ f. recalled f is) c.new.ensures ∙ nothing_recalled is)) rest
