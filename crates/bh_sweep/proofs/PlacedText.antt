-- The text that sums the sizes of places.
use Rattle.std.proofs.Common.{codes, true, [], ◌∷◌, refl}
use Rattle.sqlite.specs.Listing.{understood}
use Rattle.sqlite.specs.Term.{col}
use Rattle.sqlite_tied.specs.Compute.{everything}
use Rattle.bh_rows.specs.Texts.{SumText}
use Rattle.bh_tables.specs.Rows.{place_form}
use Rattle.bh_tables.specs.Schema.{host_schema}

pub places_summed : SumText place_form host_schema 34 (codes "SELECT coalesce(sum(size), 0) FROM placed") [] (λ _. true) (λ p. p.size)
unfolding understood everything
places_summed = record {
  test = [];
  argument = col 1 5;
  names = codes "coalesce(sum(size), 0)" ∷ [];
  means = record { is = refl; plain = (refl, refl); unlisted = refl; whole = refl; given = refl };
  low = refl;
  accepts = refl;
  tests = λ id p. refl;
  reads = λ id p. refl;
}
