-- The texts that count packs and add up their bytes.
use Rattle.std.proofs.Common.{codes, pos, true, [], ◌∷◌, refl}
use Rattle.sqlite.specs.declared.types.Value.TheVariants.{Int}
use Rattle.sqlite.specs.Listing.{understood}
use Rattle.sqlite.specs.Term.{lit, col}
use Rattle.sqlite_tied.specs.Compute.{everything}
use Rattle.bh_rows.specs.Texts.{SumText}
use Rattle.bh_tables.specs.Rows.{pack_form}
use Rattle.bh_tables.specs.Schema.{host_schema}

pub packs_numbered : SumText pack_form host_schema 32 (codes "SELECT coalesce(sum(1), 0) FROM packs") [] (λ _. true) (λ p. 1)
unfolding understood everything
packs_numbered = record {
  test = [];
  argument = lit (Int (pos 1));
  names = codes "coalesce(sum(1), 0)" ∷ [];
  means = record { is = refl; plain = (refl, refl); unlisted = refl; whole = refl; given = refl };
  low = refl;
  accepts = refl;
  tests = λ id p. refl;
  reads = λ id p. refl;
}

pub lengths_summed : SumText pack_form host_schema 32 (codes "SELECT coalesce(sum(length), 0) FROM packs") [] (λ _. true) (λ p. p.length)
unfolding understood everything
lengths_summed = record {
  test = [];
  argument = col 1 2;
  names = codes "coalesce(sum(length), 0)" ∷ [];
  means = record { is = refl; plain = (refl, refl); unlisted = refl; whole = refl; given = refl };
  low = refl;
  accepts = refl;
  tests = λ id p. refl;
  reads = λ id p. refl;
}

pub lives_summed : SumText pack_form host_schema 32 (codes "SELECT coalesce(sum(live), 0) FROM packs") [] (λ _. true) (λ p. p.live)
unfolding understood everything
lives_summed = record {
  test = [];
  argument = col 1 3;
  names = codes "coalesce(sum(live), 0)" ∷ [];
  means = record { is = refl; plain = (refl, refl); unlisted = refl; whole = refl; given = refl };
  low = refl;
  accepts = refl;
  tests = λ id p. refl;
  reads = λ id p. refl;
}
