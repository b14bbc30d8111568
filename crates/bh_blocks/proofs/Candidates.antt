-- From the blocks of a digest to the one that holds some bytes.
use Rattle.std.proofs.Common.{◌≡◌, inl, inr, pos, ℕ, zero, suc, ◌+◌, Bool, true, false, ◌&&◌, List, [], ◌∷◌, filter, find, length, drop, cond, arith, Option, Some, None, option_map, refl, sym, ap, ◌∙◌, subst, if◌then◌else◌}
use Rattle.sqlite_typed.specs.Tests.{bytes_eq}
use Rattle.bh_tables.specs.Schema.{Octets}
use Rattle.bh_tables.specs.Typed.{BlockRow}
use Rattle.bh_tables.specs.Shown.{has_digest, is_block, is_copy, by_ord}
use Rattle.bh_view.specs.Blocks.{copy_in, free_ord, least}
use Rattle.std.specs.Cmp.Derive.{both_true}
use Rattle.std.specs.Ordering.{int_eq}
use Rattle.std.proofs.lemmas.Bool.{and_parts}
use Rattle.std.proofs.lemmas.Int.{ints}
use Rattle.sqlite_rules.specs.Lists.{Has}
use Rattle.sqlite_rules.proofs.ListLemmas.{has_filtered}
use Rattle.sqlite_typed.proofs.TestLemmas.{same_bytes}
use Rattle.sqlite_keyed.specs.Lists.{sort_by}
use Rattle.bh_blocks.specs.Lookups.{ord_of_copy}
use Rattle.bh_blocks.specs.Uses.{IsSize}

-- what is found is among the elements, and passes
found_at : {X : Type 0} (p : X → Bool) (xs : List X) (x : X) → find p xs ≡ Some x → Has xs x × (p x ≡ true)
found_at p [] x is = absurd (cc)
found_at {X} p (y ∷ xs) x is = go (p y) refl is (found_at p xs x)
  where
    go : (b : Bool) → p y ≡ b → (if b then Some y else find p xs) ≡ Some x → (find p xs ≡ Some x → Has xs x × (p x ≡ true)) → Has (y ∷ xs) x × (p x ≡ true)
    go true on e rest = let same : y ≡ x = cc in (inl (sym same), subst (λ z. p z ≡ true) same on)
    go false off e rest = let it = rest e in (inr it.0, it.1)

-- an element that passes is among those that do
has_passed : {X : Type 0} (p : X → Bool) (xs : List X) (x : X) → Has xs x → p x ≡ true → Has (filter p xs) x
has_passed p [] x has on = absurd has
has_passed p (y ∷ xs) x (inl is) on = subst (λ b. Has (cond b (y ∷ filter p xs) (filter p xs)) x) (sym (ap p (sym is) ∙ on)) (inl is)
has_passed p (y ∷ xs) x (inr has) on = elim (p y) as (λ b. Has (cond b (y ∷ filter p xs) (filter p xs)) x) [ true ↦ inr (has_passed p xs x has on) | false ↦ has_passed p xs x has on ]

int_self : (n : ℕ) → int_eq (pos n) (pos n) ≡ true
int_self n = grind (arith, ints)

abbrev pub has_bytes : Octets → BlockRow → Bool
has_bytes bytes b = bytes_eq b.bytes bytes

has_dropped : {X : Type 0} (xs : List X) (i : ℕ) (x : X) (rest : List X) → drop i xs ≡ x ∷ rest → Has xs x
has_dropped [] zero x rest is = absurd (cc)
has_dropped [] (suc i) x rest is = absurd (cc)
has_dropped (y ∷ xs) zero x rest is = let same : y ≡ x = cc in inl (sym same)
has_dropped (y ∷ xs) (suc i) x rest is = inr (has_dropped xs i x rest is)

-- a block of a digest, by its ordinal
pub its_block : (digest : Octets) (blocks : List BlockRow) (b : BlockRow) (i ord : ℕ) → drop i (filter (has_digest digest) blocks) ≡ b ∷ drop (i + 1) (filter (has_digest digest) blocks) → ord ≡ b.ord → Has blocks b × (is_block (digest, ord) b ≡ true)
its_block digest blocks b i ord left same =
    let there = has_filtered (has_digest digest) blocks b (has_dropped (filter (has_digest digest) blocks) i b _ left) in
    (there.0, both_true there.1 (ap (λ n. int_eq (pos b.ord) (pos n)) same ∙ int_self b.ord))

-- it is looked for among those of the digest
pub copy_among : (digest bytes : Octets) (blocks : List BlockRow) → copy_in digest bytes blocks ≡ find (has_bytes bytes) (filter (has_digest digest) blocks)
copy_among digest bytes [] = refl
copy_among digest bytes (b ∷ blocks) = elim (bytes_eq b.digest digest) as (λ s. (if s && has_bytes bytes b then Some b else find (is_copy digest bytes) blocks) ≡ find (has_bytes bytes) (cond s (b ∷ filter (has_digest digest) blocks) (filter (has_digest digest) blocks))) [
  | true ↦ ap (λ o. if has_bytes bytes b then Some b else o) (copy_among digest bytes blocks)
  | false ↦ copy_among digest bytes blocks
]

module _ (bytes : Octets) (bs : List BlockRow) (i : ℕ) (so_far : find (has_bytes bytes) bs ≡ find (has_bytes bytes) (drop i bs)) where
  module _ (b : BlockRow) (left : drop i bs ≡ b ∷ drop (i + 1) bs) where
    -- the next one holds the bytes
    pub found_here : has_bytes bytes b ≡ true → find (has_bytes bytes) bs ≡ Some b
    found_here is = so_far ∙ ap (find (has_bytes bytes)) left ∙ ap (λ s. if s then Some b else find (has_bytes bytes) (drop (i + 1) bs)) is

    -- it doesn't
    pub found_later : has_bytes bytes b ≡ false → find (has_bytes bytes) bs ≡ find (has_bytes bytes) (drop (i + 1) bs)
    found_later not = so_far ∙ ap (find (has_bytes bytes)) left ∙ ap (λ s. if s then Some b else find (has_bytes bytes) (drop (i + 1) bs)) not

  -- there is no other
  pub found_nowhere : drop i bs ≡ [] → find (has_bytes bytes) bs ≡ None
  found_nowhere none = so_far ∙ ap (find (has_bytes bytes)) none

-- the ordinal of the one that was found
pub copy_found : (digest bytes : Octets) (blocks : List BlockRow) (o : Option BlockRow) → find (has_bytes bytes) (filter (has_digest digest) blocks) ≡ o → option_map (λ (b : BlockRow). b.ord) o ≡ ord_of_copy digest bytes blocks
copy_found digest bytes blocks o is = ap (option_map (λ (b : BlockRow). b.ord)) (sym is ∙ sym (copy_among digest bytes blocks))

-- where no block has the digest, none holds the bytes, and the first ordinal is free
pub none_copied : (digest bytes : Octets) (blocks : List BlockRow) → filter (has_digest digest) blocks ≡ [] → None ≡ ord_of_copy digest bytes blocks
none_copied digest bytes blocks none = copy_found digest bytes blocks None (ap (find (has_bytes bytes)) none)

pub first_free : (digest : Octets) (blocks : List BlockRow) → filter (has_digest digest) blocks ≡ [] → 0 ≡ free_ord digest blocks
first_free digest blocks none = sym (ap (λ bs. least 0 (sort_by by_ord bs)) none)

-- the one block of the name under which some bytes are has these
pub copy_sized : (digest bytes : Octets) (ord : ℕ) (blocks : List BlockRow) → Some ord ≡ ord_of_copy digest bytes blocks → IsSize (digest, ord) (length bytes) blocks
copy_sized digest bytes ord blocks found b one = go (copy_in digest bytes blocks) refl found
  where
    within : (c : BlockRow) → Has blocks c → is_block (digest, ord) c ≡ true → c ≡ b
    within c has on = only (subst (λ l. Has l c) one (has_passed (is_block (digest, ord)) blocks c has on))
      where
        only : Has (b ∷ []) c → c ≡ b
        only (inl is) = is
        only (inr none) = absurd none

    its : (c : BlockRow) → is_copy digest bytes c ≡ true → c.ord ≡ ord → is_block (digest, ord) c ≡ true
    its c copy same = both_true (and_parts _ _ copy).0 (ap (λ n. int_eq (pos n) (pos ord)) same ∙ int_self ord)

    go : (o : Option BlockRow) → copy_in digest bytes blocks ≡ o → Some ord ≡ option_map (λ (c : BlockRow). c.ord) o → length bytes ≡ length b.bytes
    go None is e = absurd (cc)
    go (Some c) is e =
        let same : c.ord ≡ ord = (let z : ord ≡ c.ord = cc in sym z) in
        let at = found_at (is_copy digest bytes) blocks c is in
        ap length (sym (same_bytes c.bytes bytes (and_parts _ _ at.1).1)) ∙ ap (λ (x : BlockRow). length x.bytes) (within c at.0 (its c at.1 same))
