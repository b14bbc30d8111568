use Rattle.std.proofs.Common.{IfOk, Some, sym, subst}
use Rattle.bh_blocks.specs.Digests.{digest_by}
use Rattle.bh_maintenance.specs.Checks.{IsVerdict, IsSoundWith, AreListed}
use Rattle.bh_maintenance.proofs.checks.check_packs_named.Goals as goal

pub returns-in-Sha256 : goal.returns-in-Sha256
returns-in-Sha256 g c has =
    subst (λ d. IfOk c.check_packs_by.result (λ it. AreListed g.S.Store g.P.Shelf has c.args.connection c.args.packs.now
    → IsVerdict (IsSoundWith g.S.Store g.P.Shelf has (digest_by d) c.args.connection it.1 (Some c.check_packs_by.new.packs)) it.0)) (sym c.in-Sha256.is) (c.check_packs_by.ensures has)

pub returns-in-Fast : goal.returns-in-Fast
returns-in-Fast g c has =
    subst (λ d. IfOk c.check_packs_by-in-Fast.result (λ it. AreListed g.S.Store g.P.Shelf has c.args.connection c.args.packs.now
    → IsVerdict (IsSoundWith g.S.Store g.P.Shelf has (digest_by d) c.args.connection it.1 (Some c.check_packs_by-in-Fast.new.packs)) it.0)) (sym c.in-Fast.is) (c.check_packs_by-in-Fast.ensures has)
