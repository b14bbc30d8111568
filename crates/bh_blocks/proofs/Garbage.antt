-- What nobody needs, once a write of references or blocks has ended.
use Rattle.std.proofs.Common.{◌≡◌, ◌≤◌, ℕ, zero, suc, ◌+◌, pos, true, false, List, [], ◌∷◌, ◌++◌, map, flat_map, length, cond, arith, refl, sym, ap, ◌∙◌}
use Rattle.std.specs.List.{list_all, AllByRecursion}
use Rattle.std.specs.Ordering.{int_eq}
use Rattle.std.proofs.lemmas.Bool.{eqb-true}
use Rattle.std.proofs.lemmas.Int.{ints}
use Rattle.sqlite_keyed.proofs.ListLemmas.{all_weaker, all-filter, all-append, all_from_test}
use Rattle.bh_tables.specs.Typed.{Totals, totals_of, weight, use_among, raised, lowered_by, lowered, UseRow, RefRow, BlockRow, Tables, tables_in, rebodied}
use Rattle.bh_tables.specs.Bodies.{Name, ref_name, block_at, has_size, unneeded, placed, by_place}
use Rattle.bh_tables.specs.Garbage.{HasUses, freed_of, Frees}
use Rattle.bh_tables.proofs.GarbageLemmas.{one_of, block_is, unneeded_with, measured_with, turned_sums}
use Rattle.bh_tables.proofs.TotalLemmas.{uses_with}
use Rattle.bh_view.proofs.SortLemmas.{all-sort_by}
use Rattle.bh_base.specs.Layer.{Standing, IsInsideBy, Holds, HoldsBy}
use Rattle.bh_base.proofs.Calls.{whole_again}
use Rattle.bh_blocks.specs.Uses.{IsSize}

-- the number is set to that of the references and blocks there are then
pub weighs_whole : (t : Tables) (refs : List RefRow) (blocks : List BlockRow) (uses : List UseRow) (before more less : ℕ) (d e : Standing) → HoldsBy (record (totals_of t) { uses = uses }) (rebodied t refs blocks) d
    → ((sums : Totals) → IsInsideBy sums d → sums.garbage ≡ weight before ∷ [] → (after : ℕ) → after + less ≡ before + more → HoldsBy (record sums { garbage = weight after ∷ [] }) (tables_in d.now) e)
    → before ≡ unneeded t.refs t.blocks → uses ≡ map (use_among refs) blocks → unneeded refs blocks + less ≡ before + more → (totals_of t).measured ≡ true → list_all (has_size blocks) refs ≡ true → Holds (rebodied t refs blocks) e
weighs_whole t refs blocks uses before more less d e h reweighs was counted law measured sized =
    let it = reweighs (record (totals_of t) { uses = uses }) h.within (ap (λ n. weight n ∷ []) (sym was)) (unneeded refs blocks) law in
    whole_again (record (totals_of t) { uses = uses; garbage = weight (unneeded refs blocks) ∷ [] }) (rebodied t refs blocks) e (record { within = it.within; is = it.is ∙ h.is })
    (turned_sums t refs blocks uses (unneeded refs blocks) counted refl measured sized)

-- ---- a reference comes, to a block that had so many uses

pub record IsReferred (t : Tables) (r : RefRow) (n : ℕ) : Type 0 where
  pub counted : raised (ref_name r) (totals_of t).uses ≡ map (use_among (t.refs ++ r ∷ [])) t.blocks
  pub measured : list_all (has_size t.blocks) (t.refs ++ r ∷ []) ≡ true
  pub law : unneeded (t.refs ++ r ∷ []) t.blocks + cond (int_eq (pos n) (pos 0)) r.size 0 ≡ unneeded t.refs t.blocks

pub referred : (t : Tables) (r : RefRow) (n : ℕ) → HasUses (ref_name r) n (totals_of t).uses → IsSize (ref_name r) r.size t.blocks → (totals_of t).measured ≡ true → IsReferred t r n
referred t r n has sized measured =
    let it = one_of (λ b. (use_among t.refs b).uses) t.blocks (ref_name r) n has in
    let size : r.size ≡ length (block_at t.blocks (ref_name r)) = sized it.block it.one ∙ sym (ap length (block_is t.blocks (ref_name r) it.block it.one)) in
    record {
      counted = sym (uses_with t.refs t.blocks r);
      measured = measured_with t.refs t.blocks r measured size;
      law = unneeded_with t.refs r t.blocks n has size;
    }

not_none : (n : ℕ) → 1 ≤ n → int_eq (pos n) (pos 0) ≡ false
not_none n some = grind (arith, ints, some)

pub some_of : (n : ℕ) → (n ≡ 0 → ⊥) → 1 ≤ n
some_of zero none = absurd (none refl)
some_of (suc n) some = omega arith

-- it had some: nothing becomes needed
pub referred_too : (t : Tables) (r : RefRow) (n : ℕ) → 1 ≤ n → IsReferred t r n → (totals_of t).measured ≡ true → (d : Standing) → HoldsBy (record (totals_of t) { uses = raised (ref_name r) (totals_of t).uses }) (rebodied t (t.refs ++ r ∷ []) t.blocks) d
    → Holds (rebodied t (t.refs ++ r ∷ []) t.blocks) d
referred_too t r n some it measured d h =
    let none = ap (λ b. cond b r.size 0) (not_none n some) in
    let law = it.law in
    let same : unneeded t.refs t.blocks ≡ unneeded (t.refs ++ r ∷ []) t.blocks = omega (arith, none, law) in
    whole_again (record (totals_of t) { uses = raised (ref_name r) (totals_of t).uses }) (rebodied t (t.refs ++ r ∷ []) t.blocks) d h
    (turned_sums t (t.refs ++ r ∷ []) t.blocks (raised (ref_name r) (totals_of t).uses) (unneeded t.refs t.blocks) it.counted same measured it.measured)

-- ---- references go, one after another

pub frees_last : (rs : List RefRow) (r : RefRow) (uses : List UseRow) (freed n : ℕ) → Frees rs uses freed → HasUses (ref_name r) n (lowered_by rs uses) → Frees (rs ++ r ∷ []) uses (freed + freed_of n r)
frees_last [] r uses freed n none has = (n, (0, (has, (omega (arith, none), refl))))
frees_last (x ∷ rs) r uses freed n h has =
    let sum = h.1.1.1.0 in
    (h.0, (h.1.0 + freed_of n r, (h.1.1.0, (omega (arith, sum), frees_last rs r (lowered (ref_name x) uses) h.1.0 n h.1.1.1.1 has))))

-- what one use of a number frees
pub freed_is : (n : ℕ) (r : RefRow) (size : ℕ) → size ≡ r.size → cond (int_eq (pos n) (pos 1)) size 0 ≡ freed_of n r
freed_is n r size is = ap (λ s. cond (int_eq (pos n) (pos 1)) s 0) is

-- ---- the references of a body have the sizes of their blocks

sizes_are : (blocks : List BlockRow) (r : RefRow) → has_size blocks r ≡ true → IsSize (ref_name r) r.size blocks
sizes_are blocks r has b one = eqb-true r.size _ has ∙ ap length (block_is blocks (ref_name r) b one)

pub placed_sizes : (t : Tables) (body : Name) → (totals_of t).measured ≡ true → AllByRecursion (λ (r : RefRow). IsSize (ref_name r) r.size t.blocks) (placed t.refs body)
placed_sizes t body measured = all_weaker _ _ (λ (r : RefRow) has. sizes_are t.blocks r has) (placed t.refs body)
    (all-sort_by by_place _ _ (all-filter _ _ t.refs (all_from_test (has_size t.blocks) t.refs measured)))

pub joined_sizes : {A : Type 0} (t : Tables) (name : A → Name) (sources : List A) → (totals_of t).measured ≡ true → AllByRecursion (λ (r : RefRow). IsSize (ref_name r) r.size t.blocks) (flat_map (λ s. placed t.refs (name s)) sources)
joined_sizes t name [] measured = tt
joined_sizes t name (s ∷ sources) measured = all-append _ (placed t.refs (name s)) (flat_map (λ x. placed t.refs (name x)) sources) (placed_sizes t (name s) measured) (joined_sizes t name sources measured)
