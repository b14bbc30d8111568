-- Blocks with the bytes of their places: what is known of each, and what they are once a block, a place or a pack comes or goes.
use Rattle.std.proofs.Common.{◌≡◌, inl, inr, Bool, true, false, true≢false, ◌||◌, not, cond, List, [], ◌∷◌, ◌++◌, map, filter, Option, Some, None, refl, sym, ap, ap₂, subst, ◌∙◌}
use Rattle.std.proofs.lemmas.Bool.{cases_Bool}
use Rattle.std.specs.List.{list_any}
use Rattle.sqlite_keyed.specs.Lists.{update_where, delete_where}
use Rattle.sqlite_rules.specs.Lists.{Has}
use Rattle.sqlite_rules.proofs.ListLemmas.{has_either, has_filtered}
use Rattle.bh_shelf.specs.Contents.{Contents}
use Rattle.bh_tables.specs.Schema.{Octets}
use Rattle.bh_tables.specs.Bodies.{Name, first, same_name, block_name}
use Rattle.bh_tables.specs.Rows.{BlockRow, PlaceRow}
use Rattle.bh_tables.specs.Packs.{place_name, place_at, is_place}
use Rattle.bh_tables.specs.Shown.{is_block}
use Rattle.bh_tables.proofs.TotalLemmas.{name_Decides, name_swap}
use Rattle.bh_base.specs.Placed.{with_bytes, with_place, filled_block, filled_blocks}

-- ---- a block that has all its bytes

-- those of a place, and none of its own
pub record HasBytes (packs : Contents) (p : PlaceRow) (b : BlockRow) : Type 0 where
  pub own : b.bytes ≡ []
  pub bytes : Octets
  pub there : packs p.pack p.offset p.size ≡ Some bytes

abbrev pub IsHad : Contents → Option PlaceRow → BlockRow → Type 0
IsHad packs None b = Unit {0}
IsHad packs (Some p) b = HasBytes packs p b

abbrev pub AreHad : Contents → List PlaceRow → List BlockRow → Type 0
AreHad packs places blocks = (b : BlockRow) → Has blocks b → IsHad packs (place_at places (block_name b)) b

-- ---- lists

pub same_map : {X Y : Type 0} (f g : X → Y) (xs : List X) → ((x : X) → Has xs x → f x ≡ g x) → map f xs ≡ map g xs
same_map f g [] same = refl
same_map f g (x ∷ xs) same = ap₂ ◌∷◌ (same x (inl refl)) (same_map f g xs (λ y has. same y (inr has)))

mapped_twice : {X Y Z : Type 0} (f : X → Y) (g : Y → Z) (xs : List X) → map g (map f xs) ≡ map (λ x. g (f x)) xs
mapped_twice f g [] = refl
mapped_twice f g (x ∷ xs) = ap (λ l. g (f x) ∷ l) (mapped_twice f g xs)

pub mapped_last : {X Y : Type 0} (f : X → Y) (xs : List X) (x : X) → map f (xs ++ x ∷ []) ≡ map f xs ++ f x ∷ []
mapped_last f [] x = refl
mapped_last f (y ∷ xs) x = ap (λ l. f y ∷ l) (mapped_last f xs x)

-- the first that passes is one of them
pub first_has : {X : Type 0} (m : X → Bool) (xs : List X) (x : X) → first (filter m xs) ≡ Some x → Has xs x
first_has m [] x is = absurd (cc)
first_has {X} m (y ∷ xs) x is = go (m y) (λ h. first_has m xs x h) is
  where
    go : (b : Bool) → (first (filter m xs) ≡ Some x → Has xs x) → first (cond b (y ∷ filter m xs) (filter m xs)) ≡ Some x → Has (y ∷ xs) x
    go true rest h = let same : y ≡ x = cc in inl (sym same)
    go false rest h = inr (rest h)

-- none passes
pub first_none : {X : Type 0} (m : X → Bool) (xs : List X) → list_any m xs ≡ false → first (filter m xs) ≡ None
first_none m [] none = refl
first_none {X} m (y ∷ xs) none = go (m y) (λ h. first_none m xs h) none
  where
    go : (b : Bool) → (list_any m xs ≡ false → first (filter m xs) ≡ None) → (b || list_any m xs) ≡ false → first (cond b (y ∷ filter m xs) (filter m xs)) ≡ None
    go true rest h = absurd (true≢false h)
    go false rest h = rest h

-- one more that doesn't pass
first_other : {X : Type 0} (m : X → Bool) (xs : List X) (y : X) → m y ≡ false → first (filter m (xs ++ y ∷ [])) ≡ first (filter m xs)
first_other m [] y off = ap (λ b. first (cond b (y ∷ []) [])) off
first_other m (x ∷ xs) y off = elim (m x) as (λ b. first (cond b (x ∷ filter m (xs ++ y ∷ [])) (filter m (xs ++ y ∷ []))) ≡ first (cond b (x ∷ filter m xs) (filter m xs))) [ true ↦ refl | false ↦ first_other m xs y off ]

-- one more, where none passed
first_last : {X : Type 0} (m : X → Bool) (xs : List X) (y : X) → list_any m xs ≡ false → m y ≡ true → first (filter m (xs ++ y ∷ [])) ≡ Some y
first_last m [] y none on = ap (λ b. first (cond b (y ∷ []) [])) on
first_last {X} m (x ∷ xs) y none on = go (m x) (λ h. first_last m xs y h on) none
  where
    go : (b : Bool) → (list_any m xs ≡ false → first (filter m (xs ++ y ∷ [])) ≡ Some y) → (b || list_any m xs) ≡ false → first (cond b (x ∷ filter m (xs ++ y ∷ [])) (filter m (xs ++ y ∷ []))) ≡ Some y
    go true rest h = absurd (true≢false h)
    go false rest h = rest h

-- without those that pass another test
first_kept : {X : Type 0} (m n : X → Bool) (xs : List X) → ((x : X) → m x ≡ true → n x ≡ false) → first (filter m (delete_where n xs)) ≡ first (filter m xs)
first_kept m n [] apart = refl
first_kept {X} m n (x ∷ xs) apart = go (m x) (n x) refl refl (first_kept m n xs apart)
  where
    go : (b c : Bool) → m x ≡ b → n x ≡ c → first (filter m (delete_where n xs)) ≡ first (filter m xs)
        → first (filter m (cond (not c) (x ∷ delete_where n xs) (delete_where n xs))) ≡ first (cond b (x ∷ filter m xs) (filter m xs))
    go true true on gone rest = absurd (true≢false (sym gone ∙ apart x on))
    go true false on stays rest = ap (λ b. first (cond b (x ∷ filter m (delete_where n xs)) (filter m (delete_where n xs)))) on
    go false true off gone rest = rest
    go false false off stays rest = ap (λ b. first (cond b (x ∷ filter m (delete_where n xs)) (filter m (delete_where n xs)))) off ∙ rest

-- none is left of those that passed
pub none_left : {X : Type 0} (m n : X → Bool) (xs : List X) → ((x : X) → m x ≡ true → n x ≡ true) → first (filter m (delete_where n xs)) ≡ None
none_left m n [] all = refl
none_left {X} m n (x ∷ xs) all = go (m x) (n x) refl refl (none_left m n xs all)
  where
    go : (b c : Bool) → m x ≡ b → n x ≡ c → first (filter m (delete_where n xs)) ≡ None → first (filter m (cond (not c) (x ∷ delete_where n xs) (delete_where n xs))) ≡ None
    go b true is gone rest = rest
    go true false on stays rest = absurd (true≢false (sym (all x on) ∙ stays))
    go false false off stays rest = ap (λ d. first (cond d (x ∷ filter m (delete_where n xs)) (filter m (delete_where n xs)))) off ∙ rest

-- a map that keeps a test
deleted_map : {X : Type 0} (f : X → X) (m : X → Bool) (xs : List X) → ((x : X) → m (f x) ≡ m x) → map f (delete_where m xs) ≡ delete_where m (map f xs)
deleted_map f m [] keeps = refl
deleted_map f m (x ∷ xs) keeps = elim (m x) as (λ b. map f (cond (not b) (x ∷ delete_where m xs) (delete_where m xs)) ≡ cond (not b) (f x ∷ delete_where m (map f xs)) (delete_where m (map f xs))) [
  | true ↦ deleted_map f m xs keeps
  | false ↦ ap (λ l. f x ∷ l) (deleted_map f m xs keeps)
] ∙ ap (λ b. cond (not b) (f x ∷ delete_where m (map f xs)) (delete_where m (map f xs))) (sym (keeps x))

-- ---- names

-- two that have the name of a third
name_same : (a b q : Name) → same_name a b ≡ true → same_name b q ≡ true → same_name a q ≡ true
name_same a b q one two = (name_Decides a q).1 ((name_Decides a b).0 one ∙ (name_Decides b q).0 two)

-- a place changes no name
pub name_kept : (packs : Contents) (o : Option PlaceRow) (b : BlockRow) → block_name (with_place packs o b) ≡ block_name b
name_kept packs None b = refl
name_kept packs (Some p) b = go (packs p.pack p.offset p.size)
  where
    go : (found : Option Octets) → block_name (with_bytes found b) ≡ block_name b
    go None = refl
    go (Some bytes) = refl

module _ (packs : Contents) where
  -- ---- other contents, which have the same at each place

  module _ (others : Contents) (places : List PlaceRow) (same : (p : PlaceRow) → Has places p → (bytes : Octets) → packs p.pack p.offset p.size ≡ Some bytes → others p.pack p.offset p.size ≡ Some bytes) where
    had_again : (b : BlockRow) (o : Option PlaceRow) → place_at places (block_name b) ≡ o → IsHad packs o b → IsHad others o b × (with_place others o b ≡ with_place packs o b)
    had_again b None is h = (tt, refl)
    had_again b (Some p) is h =
        let there = same p (first_has (is_place (block_name b)) places p is) h.bytes h.there in
        (record { own = h.own; bytes = h.bytes; there = there }, ap (λ o. with_bytes o b) (there ∙ sym h.there))

    pub had_others : (blocks : List BlockRow) → AreHad packs places blocks → AreHad others places blocks
    had_others blocks h b has = (had_again b (place_at places (block_name b)) refl (h b has)).0

    pub shown_others : (blocks : List BlockRow) → AreHad packs places blocks → filled_blocks others places blocks ≡ filled_blocks packs places blocks
    shown_others blocks h = same_map (filled_block others places) (filled_block packs places) blocks (λ b has. (had_again b (place_at places (block_name b)) refl (h b has)).1)

  module _ (places : List PlaceRow) where
    -- ---- a block comes that has no place

    module _ (blocks : List BlockRow) (b : BlockRow) (free : list_any (is_place (block_name b)) places ≡ false) where
      unplaced : place_at places (block_name b) ≡ None
      unplaced = first_none (is_place (block_name b)) places free

      pub had_comes : AreHad packs places blocks → AreHad packs places (blocks ++ b ∷ [])
      had_comes h c has = elim (has_either blocks (b ∷ []) c has) [
        | inl was ↦ h c was
        | inr new ↦ elim new [
          | inl is ↦ subst (λ d. IsHad packs (place_at places (block_name d)) d) (sym is) (subst (λ o. IsHad packs o b) (sym unplaced) tt)
          | inr none ↦ absurd none
        ]
      ]

      pub shown_comes : filled_blocks packs places (blocks ++ b ∷ []) ≡ filled_blocks packs places blocks ++ b ∷ []
      shown_comes = mapped_last (filled_block packs places) blocks b ∙ ap (λ o. filled_blocks packs places blocks ++ with_place packs o b ∷ []) unplaced

    -- ---- a block goes

    module _ (blocks : List BlockRow) (q : Name) where
      pub had_goes : AreHad packs places blocks → AreHad packs places (delete_where (is_block q) blocks)
      had_goes h b has = h b (has_filtered (λ c. not (is_block q c)) blocks b has).0

      pub shown_goes : filled_blocks packs places (delete_where (is_block q) blocks) ≡ delete_where (is_block q) (filled_blocks packs places blocks)
      shown_goes = deleted_map (filled_block packs places) (is_block q) blocks (λ b. ap (λ n. same_name n q) (name_kept packs (place_at places (block_name b)) b))

    -- ---- a place comes, of a block that has none

    module _ (p : PlaceRow) (bytes : Octets) (there : packs p.pack p.offset p.size ≡ Some bytes) (free : list_any (is_place (place_name p)) places ≡ false) (blocks : List BlockRow)
        (empty : (b : BlockRow) → Has blocks b → is_block (place_name p) b ≡ true → b.bytes ≡ []) where
      abbrev more : List PlaceRow
      more = places ++ p ∷ []

      abbrev set : BlockRow → BlockRow
      set b = record b { bytes = bytes }

      no_other : (b : BlockRow) → is_block (place_name p) b ≡ true → list_any (is_place (block_name b)) places ≡ false
      no_other b its = subst (λ n. list_any (is_place n) places ≡ false) (sym ((name_Decides (block_name b) (place_name p)).0 its)) free

      had_its : (b : BlockRow) → Has blocks b → is_block (place_name p) b ≡ true → IsHad packs (place_at more (block_name b)) b × (filled_block packs more b ≡ set (filled_block packs places b))
      had_its b has its =
          let none = first_none (is_place (block_name b)) places (no_other b its) in
          let here : place_at more (block_name b) ≡ Some p = first_last (is_place (block_name b)) places p (no_other b its) (name_swap (place_name p) (block_name b) ∙ its) in
          let had : IsHad packs (Some p) b = record { own = empty b has its; bytes = bytes; there = there } in (
            subst (λ o. IsHad packs o b) (sym here) had,
            ap (λ o. with_place packs o b) here ∙ ap (λ o. with_bytes o b) there ∙ ap (λ o. set (with_place packs o b)) (sym none),
          )

      had_other : (b : BlockRow) → is_block (place_name p) b ≡ false → place_at more (block_name b) ≡ place_at places (block_name b)
      had_other b other = first_other (is_place (block_name b)) places p (name_swap (place_name p) (block_name b) ∙ other)

      each : AreHad packs places blocks → (b : BlockRow) → Has blocks b → (t : Bool) → is_block (place_name p) b ≡ t → IsHad packs (place_at more (block_name b)) b × (filled_block packs more b ≡ cond t (set (filled_block packs places b)) (filled_block packs places b))
      each h b has true its = had_its b has its
      each h b has false other = let same = had_other b other in (subst (λ o. IsHad packs o b) (sym same) (h b has), ap (λ o. with_place packs o b) same)

      pub had_placed : AreHad packs places blocks → AreHad packs more blocks
      had_placed h b has = (each h b has (is_block (place_name p) b) refl).0

      pub shown_placed : AreHad packs places blocks → filled_blocks packs more blocks ≡ update_where (is_block (place_name p)) set (filled_blocks packs places blocks)
      shown_placed h =
          same_map (filled_block packs more) (λ b. cond (is_block (place_name p) (filled_block packs places b)) (set (filled_block packs places b)) (filled_block packs places b)) blocks
          (λ b has. (each h b has (is_block (place_name p) b) refl).1
          ∙ ap (λ n. cond (same_name n (place_name p)) (set (filled_block packs places b)) (filled_block packs places b)) (sym (name_kept packs (place_at places (block_name b)) b)))
          ∙ sym (mapped_twice (filled_block packs places) (λ b. cond (is_block (place_name p) b) (set b) b) blocks)

    -- ---- the place of a block goes

    module _ (q : Name) (p : PlaceRow) (placed : place_at places q ≡ Some p) (blocks : List BlockRow) where
      abbrev fewer : List PlaceRow
      fewer = delete_where (is_place q) places

      abbrev emptied : BlockRow → BlockRow
      emptied b = record b { bytes = [] }

      none_its : (b : BlockRow) → is_block q b ≡ true → place_at fewer (block_name b) ≡ None
      none_its b its = none_left (is_place (block_name b)) (is_place q) places (λ x is. name_same (place_name x) (block_name b) q is its)

      same_other : (b : BlockRow) → is_block q b ≡ false → place_at fewer (block_name b) ≡ place_at places (block_name b)
      same_other b other = first_kept (is_place (block_name b)) (is_place q) places (λ x is. apart x is (same_name (place_name x) q) refl)
        where
          apart : (x : PlaceRow) → same_name (place_name x) (block_name b) ≡ true → (t : Bool) → same_name (place_name x) q ≡ t → t ≡ false
          apart x is false h = refl
          apart x is true h = absurd (true≢false (sym (name_same (block_name b) (place_name x) q (name_swap (block_name b) (place_name x) ∙ is) h) ∙ other))

      -- its own bytes are none
      none_own : AreHad packs places blocks → (b : BlockRow) → Has blocks b → is_block q b ≡ true → b ≡ emptied (filled_block packs places b)
      none_own h b has its =
          let at : place_at places (block_name b) ≡ Some p = ap (place_at places) ((name_Decides (block_name b) q).0 its) ∙ placed in
          let had : HasBytes packs p b = subst (λ o. IsHad packs o b) at (h b has) in
          let is : filled_block packs places b ≡ record b { bytes = had.bytes } = ap (λ o. with_place packs o b) at ∙ ap (λ o. with_bytes o b) had.there in
          (λ i. record b { bytes = had.own i }) ∙ sym (ap emptied is)

      pub had_displaced : AreHad packs places blocks → AreHad packs fewer blocks
      had_displaced h b has = elim (cases_Bool (is_block q b)) [
        | inl its ↦ subst (λ o. IsHad packs o b) (sym (none_its b its)) tt
        | inr other ↦ subst (λ o. IsHad packs o b) (sym (same_other b other)) (h b has)
      ]

      shown_each : AreHad packs places blocks → (b : BlockRow) → Has blocks b → (t : Bool) → is_block q b ≡ t → filled_block packs fewer b ≡ cond t (emptied (filled_block packs places b)) (filled_block packs places b)
      shown_each h b has true its = ap (λ o. with_place packs o b) (none_its b its) ∙ none_own h b has its
      shown_each h b has false other = ap (λ o. with_place packs o b) (same_other b other)

      pub shown_displaced : AreHad packs places blocks → filled_blocks packs fewer blocks ≡ update_where (is_block q) emptied (filled_blocks packs places blocks)
      shown_displaced h =
          same_map (filled_block packs fewer) (λ b. cond (is_block q (filled_block packs places b)) (emptied (filled_block packs places b)) (filled_block packs places b)) blocks
          (λ b has. shown_each h b has (is_block q b) refl
          ∙ ap (λ n. cond (same_name n q) (emptied (filled_block packs places b)) (filled_block packs places b)) (sym (name_kept packs (place_at places (block_name b)) b)))
          ∙ sym (mapped_twice (filled_block packs places) (λ b. cond (is_block q b) (emptied b) b) blocks)
