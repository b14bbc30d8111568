use Rattle.std.proofs.Common.{IfOk, sym, subst}
use Rattle.bh_blocks.specs.Digests.{digest_by}
use Rattle.bh_maintenance.specs.Checks.{IsVerdict, IsSoundBy}
use Rattle.bh_maintenance.proofs.checks.check_named.Goals as goal

pub returns-in-Sha256 : goal.returns-in-Sha256
returns-in-Sha256 g c = subst (λ d. IfOk c.check_by.result (λ it. IsVerdict (IsSoundBy g.S.Store (digest_by d) c.args.connection it.1) it.0)) (sym c.in-Sha256.is) c.check_by.ensures

pub returns-in-Fast : goal.returns-in-Fast
returns-in-Fast g c = subst (λ d. IfOk c.check_by-in-Fast.result (λ it. IsVerdict (IsSoundBy g.S.Store (digest_by d) c.args.connection it.1) it.0)) (sym c.in-Fast.is) c.check_by-in-Fast.ensures
