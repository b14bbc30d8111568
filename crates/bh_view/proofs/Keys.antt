-- Texts and numbers as keys, by the tests of SQL.
use Rattle.std.proofs.Common.{◌≡◌, true, pos, nat_cmp, nat_abs, sym, ap, ◌∙◌, is_eq, Decides}
use Rattle.std.proofs.lemmas.Bool.{and_parts, and_from}
use Rattle.std.specs.Cmp.{nat_cmp_total, signed_Decides, Equal-is}
use Rattle.std.specs.Cmp.Lexicographic.{nat_list_cmp_total}
use Rattle.std.proofs.lemmas.Cmp.{tied_itself}
use Rattle.std.specs.FinMap.{nat_cmp-IsAntisymmetric, slice_cmp-IsAntisymmetric}
use Rattle.sqlite_typed.specs.Tests.{bytes_eq}
use Rattle.bh_view.specs.Grouped.{IsKey, same_number}
use Rattle.bh_model.specs.State.{Octets, octets_cmp, version_cmp}
use Rattle.bh_model.proofs.DateLemmas.{version_total, version_same}
use Rattle.bh_tables.specs.Shown.{Name, same_name}

pub text_Decides : (x y : Octets) → Decides (bytes_eq x y) (x ≡ y)
text_Decides x y = (λ h. slice_cmp-IsAntisymmetric nat_cmp-IsAntisymmetric x y ((Equal-is _).0 h), λ e. ap (bytes_eq x) (sym e) ∙ ap is_eq (tied_itself nat_list_cmp_total x))

pub octets : IsKey octets_cmp bytes_eq
octets = record { total = nat_list_cmp_total; same = slice_cmp-IsAntisymmetric nat_cmp-IsAntisymmetric; decides = text_Decides }

pub numbers : IsKey nat_cmp same_number
numbers = record { total = nat_cmp_total; same = nat_cmp-IsAntisymmetric; decides = λ x y. (λ h. ap nat_abs ((signed_Decides (pos x) (pos y)).0 h), λ e. (signed_Decides (pos x) (pos y)).1 (ap pos e)) }

-- a version's key and number
pub version_names : IsKey version_cmp same_name
version_names = record { total = version_total; same = version_same; decides = λ x y. (λ h. alike x y (and_parts _ _ h).0 (and_parts _ _ h).1, λ e. and_from _ _ ((octets.decides x.0 y.0).1 (ap (λ (n : Name). n.0) e)) ((numbers.decides x.1 y.1).1 (ap (λ (n : Name). n.1) e))) }
  where
    alike : (x y : Name) → bytes_eq x.0 y.0 ≡ true → same_number x.1 y.1 ≡ true → x ≡ y
    alike x y first second = λ i. ((octets.decides x.0 y.0).0 first i, (numbers.decides x.1 y.1).0 second i)
