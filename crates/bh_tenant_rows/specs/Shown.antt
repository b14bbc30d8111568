-- A tenant's rows as queries return them: all of their columns but the tenant, and no bytes.
use Rattle.std.specs.Prelude.{[], ◌∷◌}
use Rattle.sqlite.specs.Order.{Row}
use Rattle.sqlite.specs.declared.types.Value.TheVariants.{Text, Blob}
use Rattle.sqlite_typed.specs.Columns.{or_null}
use Rattle.bh_tables.specs.Typed.{TenantRow, KeyRow, BucketRow, VersionRow, UploadRow, PartRow, LockRow, RetainRow, number}

abbrev pub shown_name : TenantRow → Row
shown_name t = Text t.tenant ∷ []

abbrev pub shown_key : KeyRow → Row
shown_key k = Text k.name ∷ Text k.secret ∷ []

abbrev pub shown_bucket : BucketRow → Row
shown_bucket b = Text b.bucket ∷ number b.created ∷ number b.state ∷ or_null number b.days ∷ []

abbrev pub shown_lock : LockRow → Row
shown_lock l = Text l.bucket ∷ []

abbrev pub shown_version : VersionRow → Row
shown_version v = number v.seq ∷ Text v.bucket ∷ Blob v.okey ∷ number v.id ∷ number v.marker ∷ number v.stamp ∷ number v.size
    ∷ Text v.checksum ∷ []

abbrev pub shown_upload : UploadRow → Row
shown_upload u = number u.upload ∷ Text u.bucket ∷ Blob u.okey ∷ number u.begun ∷ []

abbrev pub shown_part : PartRow → Row
shown_part p = number p.upload ∷ number p.part ∷ number p.size ∷ Text p.checksum ∷ number p.stamp ∷ number p.body ∷ []

abbrev pub shown_retain : RetainRow → Row
shown_retain r = number r.seq ∷ number r.until ∷ []
