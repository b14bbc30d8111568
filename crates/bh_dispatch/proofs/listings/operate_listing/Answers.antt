use Rattle.std.proofs.Common.{option_map, ap, ◌∙◌, Option, Result}
use Rattle.bh_types.specs.Rejections.{plainly}
use Rattle.bh_types.specs.declared.rejection.Rejection.{Rejection}
use Rattle.bh_machine.specs.Machine.{listing_operated, page_asked}
use Rattle.bh_model.specs.Listings.{list_objects, list_versions, list_uploads}
use Rattle.bh_model.specs.Operations.{Outcome}
use Rattle.bh_model.specs.Pages.{VersionPlace, UploadPlace}
use Rattle.bh_model.specs.State.{Octets, State}
use Rattle.bh_listing.specs.Versions.{place_view}
use Rattle.bh_upload_listing.specs.Places.{place_view as upload_view}
use Rattle.bh_pages.specs.Seen.{token_of}
use Rattle.bh_dispatch.proofs.Operating.{by_step, carried_plainly, responding}
use Rattle.bh_dispatch.proofs.listings.operate_listing.Goals as goal

pub returns-in-ListObjectsV2 : goal.returns-in-ListObjectsV2
unfolding listing_operated
returns-in-ListObjectsV2 g c =
    let it = c.list_objects in
    let at = c.in-ListObjectsV2 in
    let page = c.page_of-page.result in
    let h = c.page_of-page.ensures in
    rw at.is
    (by_step g.S.Store g.P.Shelf c.args.tenant.now c.args.connection.now it.new.connection _ _ _
    (ap responding (ap {B = Option State → Result Outcome Rejection} (λ p s. plainly (list_objects at.bucket p (token_of page) s)) h.asked ∙ ap {B = Option State → Result Outcome Rejection} (λ a s. plainly (list_objects at.bucket (page_asked at.page) a s)) (h.after ∙ c.bytes_of.ensures)))
    (carried_plainly g.S.Store g.P.Shelf c.args.tenant.now c.args.connection.now it.new.connection _ (list_objects at.bucket _ (token_of page)) it.result c.told.result c.told.ensures it.ensures.within it.ensures.opens it.ensures.working it.ensures.carries))

pub returns-in-ListObjectVersions : goal.returns-in-ListObjectVersions
unfolding listing_operated
returns-in-ListObjectVersions g c =
    let it = c.list_versions-listed in
    let at = c.in-ListObjectVersions in
    let page = c.page_of-page-in-ListObjectVersions.result in
    let h = c.page_of-page-in-ListObjectVersions.ensures in
    let place : Octets → VersionPlace = λ key. record { key = key; version = c.version_after-version.result.1 } in
    rw at.is
    (by_step g.S.Store g.P.Shelf c.args.tenant.now c.args.connection.now it.new.connection _ _ _
    (ap responding (ap {B = Option State → Result Outcome Rejection} (λ p s. plainly (list_versions at.bucket p (place_view page c.version_after-version.result.1) s)) h.asked ∙ ap {B = Option State → Result Outcome Rejection} (λ a s. plainly (list_versions at.bucket (page_asked at.page) a s)) (ap (option_map place) h.after ∙ c.version_after-version.ensures)))
    (carried_plainly g.S.Store g.P.Shelf c.args.tenant.now c.args.connection.now it.new.connection _ (list_versions at.bucket _ (place_view page c.version_after-version.result.1)) it.result c.told-in-ListObjectVersions.result c.told-in-ListObjectVersions.ensures it.ensures.within it.ensures.opens it.ensures.working it.ensures.carries))

pub returns-in-ListMultipartUploads : goal.returns-in-ListMultipartUploads
unfolding listing_operated
returns-in-ListMultipartUploads g c =
    let it = c.list_uploads-listed in
    let at = c.in-ListMultipartUploads in
    let page = c.page_of-page-in-ListMultipartUploads.result in
    let h = c.page_of-page-in-ListMultipartUploads.ensures in
    let place : Octets → UploadPlace = λ key. record { key = key; upload = c.upload_after-upload.result.1 } in
    rw at.is
    (by_step g.S.Store g.P.Shelf c.args.tenant.now c.args.connection.now it.new.connection _ _ _
    (ap responding (ap {B = Option State → Result Outcome Rejection} (λ p s. plainly (list_uploads at.bucket p (upload_view page c.upload_after-upload.result.1) s)) h.asked ∙ ap {B = Option State → Result Outcome Rejection} (λ a s. plainly (list_uploads at.bucket (page_asked at.page) a s)) (ap (option_map place) h.after ∙ c.upload_after-upload.ensures)))
    (carried_plainly g.S.Store g.P.Shelf c.args.tenant.now c.args.connection.now it.new.connection _ (list_uploads at.bucket _ (upload_view page c.upload_after-upload.result.1)) it.result c.told-in-ListMultipartUploads.result c.told-in-ListMultipartUploads.ensures it.ensures.within it.ensures.opens it.ensures.working it.ensures.carries))
