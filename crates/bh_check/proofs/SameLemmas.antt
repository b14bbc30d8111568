-- Equality as the code tests it, and as the tables do.
use Rattle.std.proofs.Common.{arith, ◌≡◌, ℕ, pos, nat_eq, Bool, true, false, List, refl, sym}
use Rattle.std.specs.Prelude.{Decides}
use Rattle.std.specs.Cmp.Lexicographic.{pointwise, bytes_decides}
use Rattle.std.specs.Ordering.{int_eq}
use Rattle.std.proofs.lemmas.Int.{ints}
use Rattle.sqlite_typed.specs.Tests.{bytes_eq}
use Rattle.bh_tables.proofs.TotalLemmas.{bytes_Decides}

pub agree : (r s : Bool) (P : Type 0) → Decides r P → Decides s P → r ≡ s
agree true s P d e = sym (e.1 (d.0 refl))
agree false true P d e = d.1 (e.0 refl)
agree false false P d e = refl

pub same_slices : (a b : List ℕ) → pointwise nat_eq a b ≡ bytes_eq a b
same_slices a b = agree (pointwise nat_eq a b) (bytes_eq a b) (a ≡ b) (bytes_decides a b) (bytes_Decides a b)

pub same_counts : (a b : ℕ) → nat_eq a b ≡ int_eq (pos a) (pos b)
same_counts a b = grind (arith, ints)
