use Rattle.std.proofs.Common.{refl}
use Rattle.bh_check.specs.Holds.{next_entry, body_bytes, body_versions}
use Rattle.bh_check.proofs.Measured.{at_name, at_tenant}
use Rattle.bh_check.proofs.measures.Measures.of_part.Goals as goal

pub returns : goal.returns
returns c d m = record {
  latest_is = refl;
  entry_is = at_tenant (next_entry d) _ _ _ (c.in_ok-at.ensures (next_entry d) m.tenants_are.next_entry_is) c.bytes_in-tenant.ensures;
  bytes_is = at_name (body_bytes d) _ _ _ _ _ (c.in_ok-at-2.ensures (body_bytes d) m.bodies_are.bytes_is) c.bytes_in-tenant.ensures c.number_in-body.ensures;
  versions_is = at_name (body_versions d) _ _ _ _ _ (c.in_ok-at-3.ensures (body_versions d) m.bodies_are.versions_is) c.bytes_in-tenant.ensures c.number_in-body.ensures;
}
