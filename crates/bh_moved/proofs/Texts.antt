-- The text that adds a bucket with a rule.
use Rattle.std.proofs.Common.{ℕ, codes, [], ◌∷◌, Some, refl}
use Rattle.sqlite.specs.declared.types.Value.TheVariants.{Null, Text}
use Rattle.sqlite.specs.Listing.{understood}
use Rattle.sqlite.specs.Term.{lit, col}
use Rattle.sqlite_tied.specs.Compute.{everything}
use Rattle.bh_rows.specs.Texts.{InsertText}
use Rattle.bh_tables.specs.Schema.{Octets, host_schema, buckets_table, at}
use Rattle.bh_tables.specs.Typed.{bucket_form, number}

pub ruled_inserted : (tenant bucket : Octets) (created state days : ℕ)
    → InsertText bucket_form host_schema 3 (at 5 buckets_table) (codes "INSERT INTO buckets (tenant, bucket, created, state, days) VALUES (?1, ?2, ?3, ?4, ?5)") (Text tenant ∷ Text bucket ∷ number created ∷ number state ∷ number days ∷ [])
    (record { tenant = tenant; bucket = bucket; created = created; state = state; days = Some days })
unfolding understood everything
ruled_inserted tenant bucket created state days = record {
  terms = lit Null ∷ col 0 0 ∷ col 0 1 ∷ col 0 2 ∷ col 0 3 ∷ col 0 4 ∷ [];
  width = 6;
  means = record { is = refl; plain = (refl, refl); unlisted = refl; whole = refl; given = refl };
  gives = refl;
  accepts = refl;
}
