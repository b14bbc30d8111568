use Rattle.std.proofs.Common.{rules, [], ◌∷◌, ◌++◌, ap, ◌∙◌}
use Rattle.bh_tables.specs.Typed.{Tables}
use Rattle.bh_schema.proofs.Storing.{on_ok}
use Rattle.bh_uploads.proofs.begin.write_upload.Goals as goal

pub returns-clause-changes : goal.returns-clause-changes
returns-clause-changes g c = record {
  within = search rules;
  opens = search rules;
  holds = λ clean.
      let u = c.args.upload.now in
      let clean_middle = c.insert_upload.ensures.writes.within.follows.clean clean in
      let one = rw c.as_str-tenant.ensures.value at (on_ok _ c.in_ok-or_trouble.ensures.ok c.set_number.ensures.holds clean_middle).is in
      let holds = on_ok _ c.in_ok-or_trouble-2.ensures.ok c.insert_upload.ensures.holds clean in
      let two = rw (c.as_str-tenant.ensures.value, c.as_str.ensures.value, c.as_bytes.ensures.value, c.as_str-2.ensures.value, c.seconds.ensures.value) at holds.is in
      record { within = holds.within; is = two ∙ ap (λ (x : Tables). record x { uploads = x.uploads ++ record { tenant = u.tenant.now; upload = c.args.number; bucket = u.bucket.now; okey = u.key.now; begun = u.at } ∷ [] }) one };
}
