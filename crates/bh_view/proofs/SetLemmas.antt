-- The bytes of all bodies with those of one set.
use Rattle.std.proofs.Common.{◌≡◌, true, false, cond, refl, ap}
use Rattle.bh_model.specs.State.{Octets}
use Rattle.bh_tables.specs.Shown.{Name, same_name}
use Rattle.bh_view.specs.Bodies.{set_body}
use Rattle.bh_view.proofs.GroupedLemmas.{is_itself}
use Rattle.bh_view.proofs.NameLemmas.{names}

module _ (at : Name) (old : Name → Octets) where
  pub set_here : (b : Octets) → set_body at b old at ≡ b
  set_here b = ap (λ t. cond t b (old at)) (is_itself names at)

  pub set_other : (b : Octets) (q : Name) → same_name at q ≡ false → set_body at b old q ≡ old q
  set_other b q e = ap (λ t. cond t b (old q)) e

  pub set_twice : (a b : Octets) → set_body at b (set_body at a old) ≡ set_body at b old
  set_twice a b = λ i. λ q. elim (same_name at q) as (λ t. cond t b (cond t a (old q)) ≡ cond t b (old q)) [ true ↦ refl | false ↦ refl ] i

  pub set_same : set_body at (old at) old ≡ old
  set_same = λ i. λ q. go q i
    where
      go : (q : Name) → set_body at (old at) old q ≡ old q
      go q = elim (same_name at q) as (λ t. same_name at q ≡ t → cond t (old at) (old q) ≡ old q) [ true ↦ λ e. ap old ((names.decides at q).0 e) | false ↦ λ e. refl ] refl
