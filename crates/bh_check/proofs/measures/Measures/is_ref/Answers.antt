use Rattle.std.proofs.Common.{subst₂, subst}
use Rattle.bh_check.specs.Holds.{first_two, body_versions, body_parts, block_bytes, IsRefBy}
use Rattle.bh_check.proofs.Measured.{at_name}
use Rattle.bh_check.proofs.measures.Measures.is_ref.Goals as goal

pub returns : goal.returns
returns c fits d m =
    let b = m.bodies_are in
    subst (λ n. IsRefBy (body_versions d (first_two c.args.row.now)) (body_parts d (first_two c.args.row.now)) n c.args.row.now)
    (at_name (block_bytes d) _ _ _ _ _ (c.in_ok-bytes.ensures (block_bytes d) m.block_bytes_is) c.bytes_in.ensures c.number_in.ensures)
    (subst₂ (λ v p. IsRefBy v p c.in_ok-bytes.bytes c.args.row.now)
    (at_name (body_versions d) _ _ _ _ _ (c.in_ok-versions.ensures (body_versions d) b.versions_is) c.bytes_in-tenant.ensures c.number_in-body.ensures)
    (at_name (body_parts d) _ _ _ _ _ (c.in_ok-parts.ensures (body_parts d) b.parts_is) c.bytes_in-tenant.ensures c.number_in-body.ensures)
    (c.is_ref.ensures fits))
