-- The keys of entries by their tenants, their buckets and themselves.
use Rattle.std.proofs.Common.{arith, ◌≡◌, ℕ, ◌&&◌, [], ◌∷◌, ◌++◌, append_assoc, refl, sym, ap, ◌∙◌}
use Rattle.std.specs.Cmp.Derive.{both_true}
use Rattle.std.proofs.lemmas.Bool.{and_parts}
use Rattle.sqlite_typed.specs.Tests.{bytes_eq}
use Rattle.bh_tables.specs.Schema.{Octets}
use Rattle.bh_tables.specs.Bodies.{Name, same_name}
use Rattle.bh_tables.proofs.TotalLemmas.{bytes_Decides, name_Decides}
use Rattle.bh_check.specs.Tallies.{framed}
use Rattle.bh_check.proofs.SameLemmas.{agree}

-- what is framed ends where it says
framed_same : (a b c d : Octets) → framed a ++ b ≡ framed c ++ d → (a ≡ c) × (b ≡ d)
framed_same [] b [] d e = let rest : b ≡ d = cc in (refl, rest)
framed_same [] b (y ∷ c) d e = let head : ◌≡◌ {A = ℕ} 0 1 = cc in absurd (omega (arith, head))
framed_same (x ∷ a) b [] d e = let head : ◌≡◌ {A = ℕ} 1 0 = cc in absurd (omega (arith, head))
framed_same (x ∷ a) b (y ∷ c) d e =
    let head : x ≡ y = cc in
    let rest : framed a ++ b ≡ framed c ++ d = cc in
    let both = framed_same a b c d rest in
    ((λ i. head i ∷ both.0 i), both.1)

all_same : (a b c x y z : Octets) → ◌≡◌ {A = Name} ((framed a ++ framed b) ++ c, 0) ((framed x ++ framed y) ++ z, 0) → (a ≡ x) × ((b ≡ y) × (c ≡ z))
all_same a b c x y z e =
    let texts = sym (append_assoc (framed a) (framed b) c) ∙ ap (λ (q : Name). q.0) e ∙ append_assoc (framed x) (framed y) z in
    let front = framed_same a (framed b ++ c) x (framed y ++ z) texts in
    (front.0, framed_same b c y z front.1)

-- so the name of a key says which it is
pub same_key : (a b c x y z : Octets) → same_name ((framed a ++ framed b) ++ c, 0) ((framed x ++ framed y) ++ z, 0) ≡ (bytes_eq a x && (bytes_eq b y && bytes_eq c z))
same_key a b c x y z = agree (same_name ((framed a ++ framed b) ++ c, 0) ((framed x ++ framed y) ++ z, 0)) (bytes_eq a x && (bytes_eq b y && bytes_eq c z)) ((a ≡ x) × ((b ≡ y) × (c ≡ z))) (
  λ h. all_same a b c x y z ((name_Decides ((framed a ++ framed b) ++ c, 0) ((framed x ++ framed y) ++ z, 0)).0 h),
  λ e. (name_Decides ((framed a ++ framed b) ++ c, 0) ((framed x ++ framed y) ++ z, 0)).1 (λ i. ((framed (e.0 i) ++ framed (e.1.0 i)) ++ e.1.1 i, 0)),
) (
  λ h. let first = and_parts _ _ h in let rest = and_parts _ _ first.1 in ((bytes_Decides a x).0 first.0, ((bytes_Decides b y).0 rest.0, (bytes_Decides c z).0 rest.1)),
  λ e. both_true ((bytes_Decides a x).1 e.0) (both_true ((bytes_Decides b y).1 e.1.0) ((bytes_Decides c z).1 e.1.1)),
)
