-- What packs have: the bytes of a range of a pack, if it has them all.
use Rattle.std.specs.Prelude.{◌≡◌, ◌≢◌, ℕ, ◌+◌, ◌≤◌, List, Option, Some, None}

-- what packs have: of a pack, at an offset, so many bytes or none
abbrev pub Contents : Type 0
Contents = ℕ → ℕ → ℕ → Option (List ℕ)

-- no pack has any
abbrev pub nothing : Contents
nothing pack offset size = None

-- the second have what the first have
abbrev pub Within : Contents → Contents → Type 0
Within a b = (pack offset size : ℕ) (bytes : List ℕ) → a pack offset size ≡ Some bytes → b pack offset size ≡ Some bytes

-- both have the same, but for one pack
abbrev pub AreSameBut : ℕ → Contents → Contents → Type 0
AreSameBut one a b = (pack : ℕ) → pack ≢ one → (offset size : ℕ) → a pack offset size ≡ b pack offset size

-- all that they have of a pack ends here, or before
abbrev pub EndsBy : Contents → ℕ → ℕ → Type 0
EndsBy a pack end = (offset size : ℕ) (bytes : List ℕ) → a pack offset size ≡ Some bytes → offset + size ≤ end

-- they have nothing of a pack
abbrev pub HasNothing : Contents → ℕ → Type 0
HasNothing a pack = (offset size : ℕ) → a pack offset size ≡ None

-- no pack has less
abbrev pub Rises : (ℕ → ℕ) → (ℕ → ℕ) → Type 0
Rises old new = (pack : ℕ) → old pack ≤ new pack

-- as many hold each pack as before
abbrev pub KeepsHolds : (ℕ → ℕ) → (ℕ → ℕ) → Type 0
KeepsHolds old new = (pack : ℕ) → new pack ≡ old pack

-- and each but one
abbrev pub KeepsHoldsBut : ℕ → (ℕ → ℕ) → (ℕ → ℕ) → Type 0
KeepsHoldsBut one old new = (pack : ℕ) → pack ≢ one → new pack ≡ old pack
