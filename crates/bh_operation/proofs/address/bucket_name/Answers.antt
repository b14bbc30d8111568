use Rattle.std.proofs.Common.{refl, sym}
use Rattle.std.proofs.lemmas.Bool.{false_from_ne_true, false≢true}
use Rattle.bh_types.specs.Names.{is_bucket_name}
use Rattle.bh_operation.specs.Addresses.{bucket_name}
use Rattle.bh_operation.proofs.address.bucket_name.Goals as goal

pub returns-in-None : goal.returns-in-None
unfolding bucket_name
returns-in-None c =
    rw (sym c.into_string.ensures) (rw (false_from_ne_true (is_bucket_name _) (λ h. false≢true (c.in-None.ensures.found.1 h))) refl)
