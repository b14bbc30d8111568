use Rattle.std.proofs.Common.{ap, option_map}
use Rattle.bh_pages.specs.Seen.{token_of}
use Rattle.bh_upload_listing.proofs.Starting.{marked_there, marked_away}
use Rattle.bh_upload_listing.proofs.uploads.marked_upload.Goals as goal

pub returns-then-starts_with : goal.returns-then-starts_with
returns-then-starts_with c =
    marked_there c.args.asked.now.prefix.now (token_of c.args.asked.now) c.args.upload c.in-Some.key.now c.in-Some-upload.id c.number_of.result c.starts_with.result
    (ap (option_map (λ b. b.now)) c.in-Some.is) c.in-Some-upload.is c.starts_with.ensures.value c.if-starts_with.true c.number_of.ensures

pub returns-else-starts_with : goal.returns-else-starts_with
returns-else-starts_with c =
    marked_away c.args.asked.now.prefix.now (token_of c.args.asked.now) c.args.upload c.in-Some.key.now c.in-Some-upload.id c.starts_with.result (ap (option_map (λ b. b.now)) c.in-Some.is) c.in-Some-upload.is c.starts_with.ensures.value
    c.if-starts_with.false
