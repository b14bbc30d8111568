-- Blocks' names are equal where their columns are.
use Rattle.std.proofs.Common.{rules, ◌≡◌, Bool, true, refl, subst}
use Rattle.std.specs.Cmp.{IsEquivalence, nat_eq_equiv}
use Rattle.std.proofs.lemmas.Cmp.{nat_list_eq_equiv}
use Rattle.bh_cache.specs.Names.{name_of}
use Rattle.bh_cache.specs.declared.blocks.BlockName.{BlockName}
use Rattle.bh_cache.specs.contracts.blocks.BlockNamePartialEq.TheImpl.{eq-value}

abbrev pub same : BlockName → BlockName → Bool
same = eq-value.it

pub exact : (x y : BlockName) → same x y ≡ true → x ≡ y
exact x y h = search rules

pub apart : (x y : BlockName) → name_of x ≡ name_of y → x ≡ y
apart x y h i = record { digest = (h i).0; ord = (h i).1 }

pub equivalence : IsEquivalence same
equivalence = record {
  refl = λ x. rw (nat_list_eq_equiv.refl x.digest, nat_eq_equiv.refl x.ord) refl;
  symm = λ x y. rw (nat_list_eq_equiv.symm x.digest y.digest, nat_eq_equiv.symm x.ord y.ord) refl;
  congr = λ x y z h. subst (λ w. same x z ≡ same w z) (exact x y h) refl;
}
