use Rattle.std.proofs.Common.{◌∙◌}
use Rattle.bh_check.specs.Tallies.{versions_of, markers_of, objects_of}
use Rattle.bh_check.proofs.Measured.{at_tenant}
use Rattle.bh_check.proofs.tallies.is_tally_of.Goals as goal

pub returns : goal.returns
returns c fits rows totals =
    let it = c.tallies.ensures fits in
    record {
      tenant_is = it.tenant_is;
      versions_is = it.versions_is ∙ at_tenant (versions_of rows) _ _ _ (c.in_ok-versions.ensures (versions_of rows) totals.versions_is) c.bytes_in-name.ensures;
      markers_is = it.markers_is ∙ at_tenant (markers_of rows) _ _ _ (c.in_ok-markers.ensures (markers_of rows) totals.markers_is) c.bytes_in-name.ensures;
      objects_is = it.objects_is ∙ at_tenant (objects_of rows) _ _ _ (c.in_ok-objects.ensures (objects_of rows) totals.objects_is) c.bytes_in-name.ensures;
    }
