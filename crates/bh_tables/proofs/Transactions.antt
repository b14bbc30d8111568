-- BEGIN, COMMIT and ROLLBACK under any schema.
use Rattle.std.proofs.Common.{codes, refl}
use Rattle.sqlite.specs.Command.TheVariants.{Begin, Commit, Rollback}
use Rattle.sqlite.specs.Listing.{understood}
use Rattle.sqlite_tied.specs.Compute.{everything}
use Rattle.bh_rows.specs.Means.{Means}
use Rattle.sqlite.specs.Schema.{Schema}

pub begin_means : (schema : Schema) → Means schema (codes "BEGIN") Begin 0
unfolding understood everything
begin_means schema = record { is = refl; plain = (refl, refl); unlisted = refl; whole = refl; given = refl }

pub commit_means : (schema : Schema) → Means schema (codes "COMMIT") Commit 0
unfolding understood everything
commit_means schema = record { is = refl; plain = (refl, refl); unlisted = refl; whole = refl; given = refl }

pub rollback_means : (schema : Schema) → Means schema (codes "ROLLBACK") Rollback 0
unfolding understood everything
rollback_means schema = record { is = refl; plain = (refl, refl); unlisted = refl; whole = refl; given = refl }
