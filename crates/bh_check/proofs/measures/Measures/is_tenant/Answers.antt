use Rattle.std.proofs.Common.{subst₂}
use Rattle.bh_check.specs.Holds.{version_bytes, part_bytes, IsTenantBy}
use Rattle.bh_check.proofs.Measured.{at_tenant}
use Rattle.bh_check.proofs.measures.Measures.is_tenant.Goals as goal

pub returns : goal.returns
returns c fits d m =
    let t = m.tenants_are in
    subst₂ (λ v p. IsTenantBy v p c.args.row.now)
    (at_tenant (version_bytes d) _ _ _ (c.in_ok-versions.ensures (version_bytes d) t.version_bytes_is) c.bytes_in-name.ensures)
    (at_tenant (part_bytes d) _ _ _ (c.in_ok-parts.ensures (part_bytes d) t.part_bytes_is) c.bytes_in-name.ensures)
    (c.is_tenant.ensures fits)
