-- What keeps references and blocks sound, and bodies whole.
use Rattle.std.proofs.Common.{◌≡◌, ℕ, zero, suc, ◌+◌, ◌<◌, ◌≤◌, pos, true, false, true≢false, List, [], ◌∷◌, ◌++◌, map, length, refl, sym, ap, ap₂, ◌∙◌, subst, is_gt, int_cmp, None, arith, length-append}
use Rattle.std.specs.List.{AllByRecursion, list_any, range_with_len}
use Rattle.std.proofs.lemmas.List.{map-append}
use Rattle.std.proofs.lemmas.Bool.Decides.{nat_tests}
use Rattle.std.proofs.lemmas.Int.{ints}
use Rattle.sqlite_keyed.specs.Lists.{delete_where, sort_by}
use Rattle.sqlite_keyed.proofs.ListLemmas.{all_weaker, all_both, all_unmap, all-filter}
use Rattle.bh_tables.specs.Bodies.{part_name}
use Rattle.bh_tables.specs.Typed.{VersionRow, PartRow, BlockRow, RefRow, Tables}
use Rattle.bh_tables.specs.Shown.{Name, same_name, block_name, ref_name, body_name, is_of_body, by_place}
use Rattle.bh_view.specs.Grouped.{matching}
use Rattle.bh_view.specs.Blocks.{row_at, placed, whole, AreStored}
use Rattle.bh_view.specs.Bodies.{bodies_of, bodies_in, AreBodies, IsResolved, AreWhole, set_body}
use Rattle.bh_view.proofs.FactLemmas.{all_pushed, refers_pushed, refers_deleted}
use Rattle.bh_view.proofs.FilterLemmas.{push_here, push_other, delete_all}
use Rattle.bh_view.proofs.GroupedLemmas.{is_itself, is_other}
use Rattle.bh_view.proofs.NameLemmas.{names, range_last, sort_by_last, all-unsorted}
use Rattle.bh_view.proofs.SortLemmas.{all-sort_by}
use Rattle.bh_view.proofs.WholeLemmas.{piece, Agree, ref_added, others_left}

abbrev pub PlacesAre : List RefRow → Name → Type 0
PlacesAre refs body = map (λ (r : RefRow). r.place) (placed refs body) ≡ range_with_len 0 (length (matching same_name body_name body refs))

pub places_same : (new old : List RefRow) (body : Name) → matching same_name body_name body new ≡ matching same_name body_name body old → PlacesAre old body → PlacesAre new body
places_same new old body e was = ap (λ l. map (λ (x : RefRow). x.place) (sort_by by_place l)) e ∙ was ∙ ap (λ l. range_with_len 0 (length l)) (sym e)

-- ---- blocks, and the names of bodies

-- the blocks that references name keep their bytes
pub bodies_agree : (bodies : List Name) (refs : List RefRow) (new old : List BlockRow) → Agree new old refs → AreBodies bodies refs old → AreBodies bodies refs new
bodies_agree bodies refs new old agree b = record {
  placed = b.placed;
  owned = b.owned;
  measured = all_both (λ (r : RefRow). piece new r ≡ piece old r) (λ r. r.size ≡ length (piece old r)) (λ r. r.size ≡ length (piece new r)) (λ r e size. size ∙ ap length (sym e)) refs agree b.measured;
}

-- other lists of the same names, or more of them
pub bodies_for : (bodies more : List Name) (refs : List RefRow) (blocks : List BlockRow) → ((body : Name) → list_any (same_name body) more ≡ false → list_any (same_name body) bodies ≡ false) → AreBodies bodies refs blocks → AreBodies more refs blocks
bodies_for bodies more refs blocks fewer b = record { placed = b.placed; owned = λ body none. b.owned body (fewer body none); measured = b.measured }

-- other versions and parts, which have the bytes of their bodies: no name goes that is not among those to come
pub whole_for : (was now : List Name) (x : Tables) (versions : List VersionRow) (parts : List PartRow) → IsResolved (record x { versions = versions; parts = parts })
    → ((body : Name) → list_any (same_name body) (now ++ (bodies_of versions ++ map part_name parts)) ≡ false → list_any (same_name body) (was ++ bodies_in x) ≡ false)
    → AreWhole was x → AreWhole now (record x { versions = versions; parts = parts })
whole_for was now x versions parts resolved fewer w = record {
  resolved = resolved;
  stored = w.stored;
  bodies = bodies_for (was ++ bodies_in x) (now ++ (bodies_of versions ++ map part_name parts)) x.refs x.blocks fewer w.bodies;
}

-- a body's references, by place, have the sizes of their blocks
pub placed_measured : (bodies : List Name) (refs : List RefRow) (blocks : List BlockRow) (body : Name) → AreBodies bodies refs blocks → AllByRecursion (λ (r : RefRow). r.size ≡ length (piece blocks r)) (placed refs body)
placed_measured bodies refs blocks body b = all-sort_by by_place _ _ (all-filter _ _ refs b.measured)

-- ---- a reference more

-- places of a body are below their number
all_below : (refs : List RefRow) (body : Name) (place : ℕ) → PlacesAre refs body → place ≡ length (matching same_name body_name body refs) → AllByRecursion (λ (x : RefRow). x.place < place) (matching same_name body_name body refs)
all_below refs body place counts next = all-unsorted by_place _ _ (all_unmap (λ n. n < place) (λ (r : RefRow). r.place) (placed refs body) (subst (AllByRecursion (λ n. n < place)) (sym counts) (ranged 0 (length (matching same_name body_name body refs)) (omega (arith, next)))))
  where
    ranged : (a n : ℕ) → a + n ≤ place → AllByRecursion (λ k. k < place) (range_with_len a n)
    ranged a zero h = tt
    ranged a (suc n) h = (omega (arith, h), ranged (a + 1) n (omega (arith, h)))

behind : (a b : ℕ) → a < b → is_gt (int_cmp (pos a) (pos b)) ≡ false
behind a b h = grind (arith, ints, nat_tests, h)

module _ (owners : List Name) (refs : List RefRow) (blocks : List BlockRow) (r : RefRow) (s : AreStored refs blocks) (b : AreBodies owners refs blocks) (next : r.place ≡ length (matching same_name body_name (body_name r) refs)) where
  abbrev mine : List RefRow
  mine = matching same_name body_name (body_name r) refs

  all_behind : AllByRecursion (λ x. is_gt (by_place x r) ≡ false) mine
  all_behind = all_weaker (λ (x : RefRow). x.place < r.place) (λ x. is_gt (by_place x r) ≡ false) (λ x h. behind x.place r.place h) _ (all_below refs (body_name r) r.place (b.placed (body_name r)) next)

  one_more : matching same_name body_name (body_name r) (refs ++ r ∷ []) ≡ mine ++ r ∷ []
  one_more = push_here (λ (x : RefRow). same_name (body_name x) (body_name r)) refs r (is_itself names (body_name r))

  here : PlacesAre (refs ++ r ∷ []) (body_name r)
  here =
      let more : length mine + 1 ≡ suc (length mine) = omega arith in
      ap (λ l. map (λ (x : RefRow). x.place) (sort_by by_place l)) one_more
      ∙ ap (map (λ (x : RefRow). x.place)) (sort_by_last by_place mine r all_behind)
      ∙ map-append (λ (x : RefRow). x.place) (sort_by by_place mine) (r ∷ [])
      ∙ ap₂ (λ l n. l ++ n ∷ []) (b.placed (body_name r)) next
      ∙ range_last (length mine)
      ∙ ap (range_with_len 0) (sym (ap length one_more ∙ length-append mine (r ∷ []) ∙ more))

  places : (body : Name) → PlacesAre (refs ++ r ∷ []) body
  places body = elim (same_name (body_name r) body) as (λ t. same_name (body_name r) body ≡ t → PlacesAre (refs ++ r ∷ []) body) [
    | true ↦ λ e. subst (PlacesAre (refs ++ r ∷ [])) ((names.decides _ _).0 e) here
    | false ↦ λ e. places_same (refs ++ r ∷ []) refs body (push_other (λ (x : RefRow). same_name (body_name x) body) refs r e) (b.placed body)
  ] refl

  -- at the next place of its body
  pub record IsMore : Type 0 where
    pub stored : AreStored (refs ++ r ∷ []) blocks
    pub bodies : AreBodies owners (refs ++ r ∷ []) blocks
    pub bytes : whole (refs ++ r ∷ []) blocks ≡ set_body (body_name r) (whole refs blocks (body_name r) ++ piece blocks r) (whole refs blocks)
    pub count : r.place + 1 ≡ length (matching same_name body_name (body_name r) (refs ++ r ∷ []))

  pub ref_more : (row_at blocks (ref_name r) ≡ None → ⊥) → r.size ≡ length (piece blocks r) → list_any (same_name (body_name r)) owners ≡ true → IsMore
  ref_more there size has = record {
    stored = record { one = s.one; once = s.once; named = refers_pushed names block_name ref_name blocks refs r s.named there };
    bodies = record {
      placed = places;
      owned = λ body none. push_other (λ (x : RefRow). same_name (body_name x) body) refs r (is_other names (body_name r) body (λ e. true≢false (sym has ∙ ap (λ q. list_any (same_name q) owners) e ∙ none))) ∙ b.owned body none;
      measured = all_pushed (λ (x : RefRow). x.size ≡ length (piece blocks x)) refs r b.measured size;
    };
    bytes = ref_added refs blocks r all_behind;
    count = counted next (ap length one_more ∙ length-append mine (r ∷ []));
  }
    where
      counted : {m n k : ℕ} → m ≡ n → k ≡ n + 1 → m + 1 ≡ k
      counted e f = omega (arith, e, f)

-- ---- the references of a body go

pub stored_dropped : (refs : List RefRow) (blocks : List BlockRow) (at : Name) → AreStored refs blocks → AreStored (delete_where (is_of_body at) refs) blocks
stored_dropped refs blocks at s = record { one = s.one; once = s.once; named = refers_deleted names block_name ref_name blocks refs (is_of_body at) s.named }

-- the name of the body may go with them
pub bodies_dropped : (bodies left : List Name) (refs : List RefRow) (blocks : List BlockRow) (at : Name) → ((body : Name) → same_name at body ≡ false → list_any (same_name body) left ≡ false → list_any (same_name body) bodies ≡ false)
    → AreBodies bodies refs blocks → AreBodies left (delete_where (is_of_body at) refs) blocks
bodies_dropped bodies left refs blocks at fewer b = record {
  placed = λ body. elim (same_name at body) as (λ t. same_name at body ≡ t → PlacesAre (delete_where (is_of_body at) refs) body) [
    | true ↦ λ e. places_same (delete_where (is_of_body at) refs) [] body (gone body e) refl
    | false ↦ λ e. places_same (delete_where (is_of_body at) refs) refs body (others_left refs at body e) (b.placed body)
  ] refl;
  owned = λ body none. elim (same_name at body) as (λ t. same_name at body ≡ t → matching same_name body_name body (delete_where (is_of_body at) refs) ≡ []) [
    | true ↦ λ e. gone body e
    | false ↦ λ e. others_left refs at body e ∙ b.owned body (fewer body e none)
  ] refl;
  measured = all-filter _ _ refs b.measured;
}
  where
    gone : (body : Name) → same_name at body ≡ true → matching same_name body_name body (delete_where (is_of_body at) refs) ≡ []
    gone body e = subst (λ q. matching same_name body_name q (delete_where (is_of_body at) refs) ≡ []) ((names.decides at body).0 e) (delete_all (is_of_body at) refs)
