-- Buckets by the names of their tenants and their own, one behind the other.
use Rattle.std.proofs.Common.{arith, ◌≡◌, Bool, ◌&&◌, ◌||◌, List, [], ◌∷◌, ◌++◌, length, refl, sym, ap, ap₂, ◌∙◌}
use Rattle.std.specs.List.{list_any}
use Rattle.std.specs.Cmp.Derive.{both_true}
use Rattle.std.proofs.lemmas.Bool.{and_parts}
use Rattle.std.proofs.lemmas.List.{append_cancel_left}
use Rattle.sqlite_typed.specs.Tests.{bytes_eq}
use Rattle.bh_tables.specs.Schema.{Octets}
use Rattle.bh_tables.specs.Bodies.{Name, same_name}
use Rattle.bh_tables.proofs.TotalLemmas.{bytes_Decides, name_Decides}
use Rattle.bh_check.proofs.SameLemmas.{agree}

-- of two texts the first ends where its length says
firsts_same : (a b c d : Octets) → a ++ b ≡ c ++ d → length a ≡ length c → a ≡ c
firsts_same [] b [] d e same = refl
firsts_same [] b (y ∷ c) d e same = absurd (omega (arith, same))
firsts_same (x ∷ a) b [] d e same = absurd (omega (arith, same))
firsts_same (x ∷ a) b (y ∷ c) d e same =
    let head : x ≡ y = cc in
    let tail : a ++ b ≡ c ++ d = cc in
    ap₂ ◌∷◌ head (firsts_same a b c d tail (omega (arith, same)))

both_same : (a b c d : Octets) → ◌≡◌ {A = Name} (a ++ b, length a) (c ++ d, length c) → (a ≡ c) × (b ≡ d)
both_same a b c d e =
    let texts : a ++ b ≡ c ++ d = ap (λ (q : Name). q.0) e in
    let front = firsts_same a b c d texts (ap (λ (q : Name). q.1) e) in
    (front, append_cancel_left c b d (ap (λ x. x ++ b) (sym front) ∙ texts))

-- so the name of a bucket says which it is
pub same_bucket : (a b c d : Octets) → same_name (a ++ b, length a) (c ++ d, length c) ≡ (bytes_eq a c && bytes_eq b d)
same_bucket a b c d = agree (same_name (a ++ b, length a) (c ++ d, length c)) (bytes_eq a c && bytes_eq b d) ((a ≡ c) × (b ≡ d))
    (λ h. both_same a b c d ((name_Decides (a ++ b, length a) (c ++ d, length c)).0 h), λ e. (name_Decides (a ++ b, length a) (c ++ d, length c)).1 (λ i. (e.0 i ++ e.1 i, length (e.0 i))))
    (λ h. let both = and_parts _ _ h in ((bytes_Decides a c).0 both.0, (bytes_Decides b d).0 both.1), λ e. both_true ((bytes_Decides a c).1 e.0) ((bytes_Decides b d).1 e.1))

pub any_same : {X : Type 0} (p q : X → Bool) → ((x : X) → p x ≡ q x) → (xs : List X) → list_any p xs ≡ list_any q xs
any_same p q same [] = refl
any_same p q same (x ∷ xs) = ap₂ ◌||◌ (same x) (any_same p q same xs)
