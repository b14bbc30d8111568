-- Places once others moved: the same blocks have one, and it is the same where it was in another pack.
use Rattle.std.proofs.Common.{◌≡◌, ◌≢◌, ℕ, zero, suc, Bool, true, false, true≢false, not, cond, List, [], ◌∷◌, ◌++◌, filter, Some, None, refl, sym, ap, ◌∙◌}
use Rattle.sqlite_keyed.specs.Lists.{delete_where}
use Rattle.bh_tables.specs.Bodies.{first}
use Rattle.bh_tables.specs.Packs.{place_name, place_at, is_place}
use Rattle.bh_tables.specs.Rows.{PlaceRow, PackRow}
use Rattle.bh_tables.specs.Shown.{Name}
use Rattle.bh_tables.proofs.TotalLemmas.{name_Decides}
use Rattle.bh_base.specs.Places.{row_of_place}
use Rattle.bh_base.proofs.PlaceCalls.{found_some}
use Rattle.bh_compaction.specs.declared.compaction.Sparse.{Sparse}
use Rattle.bh_compaction.specs.Moves.{IsSparse, MovesPlace, Moves, Compacts}

-- ---- lists

-- without those that pass another test
first_kept : {X : Type 0} (m n : X → Bool) (xs : List X) → ((x : X) → m x ≡ true → n x ≡ false) → first (filter m (delete_where n xs)) ≡ first (filter m xs)
first_kept m n [] apart = refl
first_kept {X} m n (x ∷ xs) apart = go (m x) (n x) refl refl (first_kept m n xs apart)
  where
    go : (b c : Bool) → m x ≡ b → n x ≡ c → first (filter m (delete_where n xs)) ≡ first (filter m xs)
        → first (filter m (cond (not c) (x ∷ delete_where n xs) (delete_where n xs))) ≡ first (cond b (x ∷ filter m xs) (filter m xs))
    go true true on gone rest = absurd (true≢false (sym gone ∙ apart x on))
    go true false on stays rest = ap (λ b. first (cond b (x ∷ filter m (delete_where n xs)) (filter m (delete_where n xs)))) on
    go false true off gone rest = rest
    go false false off stays rest = ap (λ b. first (cond b (x ∷ filter m (delete_where n xs)) (filter m (delete_where n xs)))) off ∙ rest

-- one more that doesn't pass
first_other : {X : Type 0} (m : X → Bool) (xs : List X) (y : X) → m y ≡ false → first (filter m (xs ++ y ∷ [])) ≡ first (filter m xs)
first_other m [] y off = ap (λ b. first (cond b (y ∷ []) [])) off
first_other m (x ∷ xs) y off = elim (m x) as (λ b. first (cond b (x ∷ filter m (xs ++ y ∷ [])) (filter m (xs ++ y ∷ []))) ≡ first (cond b (x ∷ filter m xs) (filter m xs))) [ true ↦ refl | false ↦ first_other m xs y off ]

-- one more that does
first_there : {X : Type 0} (m : X → Bool) (xs : List X) (y : X) → m y ≡ true → first (filter m (xs ++ y ∷ [])) ≢ None
first_there m [] y on none = absurd (let e = sym (ap (λ b. first (cond b (y ∷ []) [])) on) ∙ none in cc)
first_there {X} m (x ∷ xs) y on none = go (m x) (first_there m xs y on) none
  where
    go : (b : Bool) → (first (filter m (xs ++ y ∷ [])) ≡ None → ⊥) → first (cond b (x ∷ filter m (xs ++ y ∷ [])) (filter m (xs ++ y ∷ []))) ≡ None → ⊥
    go true rest h = absurd (cc)
    go false rest h = rest h

-- ---- one place

module _ (pack : ℕ) (old new : List PlaceRow) (moves : MovesPlace pack old new) (q : Name) where
  abbrev its : PlaceRow
  its = row_of_place moves.block moves.to

  -- it is another block's
  same_at : is_place q its ≡ false → place_at new q ≡ place_at old q
  same_at off =
      ap (λ ps. place_at ps q) moves.is ∙ first_other (is_place q) (delete_where (is_place moves.block) old) its off
      ∙ first_kept (is_place q) (is_place moves.block) old (λ p on. apart p (is_place moves.block p) refl on)
    where
      apart : (p : PlaceRow) (t : Bool) → is_place moves.block p ≡ t → is_place q p ≡ true → is_place moves.block p ≡ false
      apart p false is on = is
      apart p true is on = absurd (true≢false (sym ((name_Decides moves.block q).1 (sym ((name_Decides (place_name p) moves.block).0 is) ∙ (name_Decides (place_name p) q).0 on)) ∙ off))

  -- it is this block's
  its_name : is_place q its ≡ true → moves.block ≡ q
  its_name on = (name_Decides moves.block q).0 on

  stays_one : (p : PlaceRow) → place_at old q ≡ Some p → p.pack ≢ pack → place_at new q ≡ Some p
  stays_one p at other = go (is_place q its) refl
    where
      go : (t : Bool) → is_place q its ≡ t → place_at new q ≡ Some p
      go false off = same_at off ∙ at
      go true on =
          let found = found_some (place_at old moves.block) moves.from moves.placed in
          let same : found.0 ≡ p = (let e = sym found.1 ∙ ap (place_at old) (its_name on) ∙ at in cc) in
          absurd (other (ap (λ (r : PlaceRow). r.pack) (sym same) ∙ sym found.2.pack ∙ moves.in_pack))

  none_one : place_at old q ≡ None → place_at new q ≡ None
  none_one none = go (is_place q its) refl
    where
      go : (t : Bool) → is_place q its ≡ t → place_at new q ≡ None
      go false off = same_at off ∙ none
      go true on =
          let found = found_some (place_at old moves.block) moves.from moves.placed in
          absurd (let e = sym found.1 ∙ ap (place_at old) (its_name on) ∙ none in cc)

  some_one : place_at old q ≢ None → place_at new q ≢ None
  some_one some none = go (is_place q its) refl
    where
      go : (t : Bool) → is_place q its ≡ t → ⊥
      go false off = some (sym (same_at off) ∙ none)
      go true on = first_there (is_place q) (delete_where (is_place moves.block) old) its on (sym (ap (λ ps. place_at ps q) moves.is) ∙ none)

-- ---- all of them

stays : (pack n : ℕ) (old new : List PlaceRow) → Moves pack n old new → (q : Name) (p : PlaceRow) → place_at old q ≡ Some p → p.pack ≢ pack → place_at new q ≡ Some p
unfolding Moves
stays pack zero old new same q p at other = ap (λ ps. place_at ps q) same ∙ at
stays pack (suc n) old new (mid, so, more) q p at other = stays_one pack mid new more q p (stays pack n old mid so q p at other) other

none_still : (pack n : ℕ) (old new : List PlaceRow) → Moves pack n old new → (q : Name) → place_at old q ≡ None → place_at new q ≡ None
unfolding Moves
none_still pack zero old new same q none = ap (λ ps. place_at ps q) same ∙ none
none_still pack (suc n) old new (mid, so, more) q none = none_one pack mid new more q (none_still pack n old mid so q none)

some_still : (pack n : ℕ) (old new : List PlaceRow) → Moves pack n old new → (q : Name) → place_at old q ≢ None → place_at new q ≢ None
unfolding Moves
some_still pack zero old new same q some none = some (sym (ap (λ ps. place_at ps q) same) ∙ none)
some_still pack (suc n) old new (mid, so, more) q some none = some_one pack mid new more q (some_still pack n old mid so q some) none

pub compacts : (s : Sparse) (n : ℕ) (packs : List PackRow) (old new : List PlaceRow) (pack : ℕ) → (n ≢ 0 → IsSparse s packs pack) → Moves pack n old new → Compacts s n packs old new
compacts s n packs old new pack sparse moves = record {
  pack = pack;
  sparse = sparse;
  moves = moves;
  stays = stays pack n old new moves;
  none = none_still pack n old new moves;
  some = some_still pack n old new moves;
}

-- where none moved
pub compacts_none : (s : Sparse) (packs : List PackRow) (old new : List PlaceRow) → new ≡ old → Compacts s 0 packs old new
unfolding Moves
compacts_none s packs old new same = compacts s 0 packs old new 0 (λ some. absurd (some refl)) same
