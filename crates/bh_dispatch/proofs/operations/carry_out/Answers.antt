use Rattle.bh_machine.specs.Machine.{bare_operated}
use Rattle.bh_dispatch.proofs.operations.carry_out.Goals as goal

pub returns-in-Service : goal.returns-in-Service
unfolding bare_operated
returns-in-Service g c = rw c.in-Service.is c.operate_service.ensures

pub returns-in-Bucket : goal.returns-in-Bucket
unfolding bare_operated
returns-in-Bucket g c = rw c.in-Bucket.is c.operate_bucket.ensures

pub returns-in-Listing : goal.returns-in-Listing
unfolding bare_operated
returns-in-Listing g c = rw c.in-Listing.is c.operate_listing.ensures

pub returns-in-Lifecycle : goal.returns-in-Lifecycle
unfolding bare_operated
returns-in-Lifecycle g c = rw c.in-Lifecycle.is c.operate_lifecycle.ensures

pub returns-in-Upload : goal.returns-in-Upload
unfolding bare_operated
returns-in-Upload g c = rw c.in-Upload.is c.operate_upload.ensures

pub returns-in-Object : goal.returns-in-Object
unfolding bare_operated
returns-in-Object g c = rw c.in-Object.is c.operate_object.ensures
