use Rattle.std.proofs.Common.{subst₂}
use Rattle.bh_check.specs.Holds.{next_upload, upload_bytes, IsUploadBy}
use Rattle.bh_check.proofs.Measured.{at_name, at_tenant}
use Rattle.bh_check.proofs.measures.Measures.is_upload.Goals as goal

pub returns : goal.returns
returns c fits d m =
    subst₂ (λ n b. IsUploadBy c.args.self.now.latest n b c.args.row.now)
    (at_tenant (next_upload d) _ _ _ (c.in_ok-next.ensures (next_upload d) m.tenants_are.next_upload_is) c.bytes_in-tenant.ensures)
    (at_name (upload_bytes d) _ _ _ _ _ (c.in_ok-bytes.ensures (upload_bytes d) m.upload_bytes_is) c.bytes_in-tenant.ensures c.number_in.ensures)
    (c.is_upload.ensures fits)
