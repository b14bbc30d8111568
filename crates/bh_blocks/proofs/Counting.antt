-- Counts of uses and what they count, in the midst of a write: laws of the pairs that come to an end.
use Rattle.std.proofs.Common.{◌≡◌, ℕ, zero, suc, ◌+◌, pos, true, List, [], ◌∷◌, ◌++◌, take, drop, length, None, Ok, Err, Result, IfErr, arith, refl, sym, ap, subst, ◌∙◌}
use Rattle.sqlite.specs.State.{State}
use Rattle.sqlite.specs.declared.error.Error.{Error}
use Rattle.bh_rows.specs.Means.{is_trouble}
use Rattle.bh_tables.specs.Typed.{Totals, totals_of, counted, BlockRow, RefRow, Tables, rebodied, lowered, lowered_by}
use Rattle.bh_tables.specs.Bodies.{placed, block_at, unneeded}
use Rattle.bh_tables.specs.Shown.{Name, ref_name, block_name}
use Rattle.bh_tables.proofs.ResolvedLemmas.{rebodied_twice}
use Rattle.bh_tables.proofs.TotalLemmas.{uses_added, lowered_then, use_left}
use Rattle.bh_tables.proofs.GarbageLemmas.{unneeded_added, measured_with, measured_added, added_at, turned_sums}
use Rattle.bh_base.specs.Layer.{Standing, standing, IsIntact, IsInsideBy, HoldsBy}
use Rattle.bh_blocks.specs.Uses.{IsNewName, IsCounted, IsUsed, AreUsed}

-- an error that is trouble under no premise
pub alone : (old new : State) (r : Result ℕ Error) → IfErr r (λ e. IsIntact new → (standing old).limit ≡ None → Unit {0} → is_trouble e ≡ true) → IfErr r (λ e. IsIntact new → (standing old).limit ≡ None → is_trouble e ≡ true)
alone old new (Ok n) h = tt
alone old new (Err e) h = λ intact unlimited. h intact unlimited tt

-- ---- a new block, with the first reference to it

pub added_twice : (t : Tables) (r : RefRow) (b : BlockRow) → rebodied (rebodied t t.refs (t.blocks ++ b ∷ [])) (t.refs ++ r ∷ []) (t.blocks ++ b ∷ []) ≡ rebodied t (t.refs ++ r ∷ []) (t.blocks ++ b ∷ [])
added_twice t r b = rebodied_twice t (t.refs ++ r ∷ []) t.refs (t.blocks ++ b ∷ []) (t.blocks ++ b ∷ [])

pub piece_law : (t : Tables) (r : RefRow) (b : BlockRow) → ref_name r ≡ block_name b → r.size ≡ length b.bytes → IsNewName (block_name b) t → (totals_of t).measured ≡ true
    → counted (λ us. us ++ record { digest = b.digest; ord = b.ord; uses = pos 1 } ∷ []) (totals_of t) ≡ totals_of (rebodied (rebodied t t.refs (t.blocks ++ b ∷ [])) (t.refs ++ r ∷ []) (t.blocks ++ b ∷ []))
piece_law t r b same size fresh measured =
    let refs = t.refs ++ r ∷ [] in
    let blocks = t.blocks ++ b ∷ [] in
    turned_sums t refs blocks ((totals_of t).uses ++ record { digest = b.digest; ord = b.ord; uses = pos 1 } ∷ []) (unneeded t.refs t.blocks)
    (sym (uses_added t.refs t.blocks r b same fresh.free fresh.unused)) (sym (unneeded_added t.refs r t.blocks b same fresh.free)) measured
    (measured_with t.refs blocks r (measured_added t.refs t.blocks b fresh.unused measured) (size ∙ sym (ap length (ap (block_at blocks) same ∙ added_at t.blocks b fresh.free))))
    ∙ sym (ap totals_of (added_twice t r b))

-- ---- references are taken off, one after another

pub one_further : {A : Type 0} (xs : List A) (i : ℕ) (x : A) → drop i xs ≡ x ∷ drop (i + 1) xs → take (i + 1) xs ≡ take i xs ++ x ∷ []
one_further {A} xs i x is = ap (λ n. take n xs) (one i) ∙ go xs i (is ∙ ap (λ n. x ∷ drop n xs) (one i))
  where
    one : (n : ℕ) → n + 1 ≡ suc n
    one n = omega arith

    go : (xs : List A) (i : ℕ) → drop i xs ≡ x ∷ drop (suc i) xs → take (suc i) xs ≡ take i xs ++ x ∷ []
    go [] zero is = absurd (cc)
    go [] (suc i) is = absurd (cc)
    go (y ∷ ys) zero is = ap (λ z. z ∷ []) (let same : y ≡ x = cc in same)
    go (y ∷ ys) (suc i) is = ap (λ l. y ∷ l) (go ys i is)

pub cut_at : {A : Type 0} (xs : List A) (i : ℕ) (x : A) → drop i xs ≡ x ∷ drop (i + 1) xs → xs ≡ take i xs ++ x ∷ drop (i + 1) xs
cut_at {A} xs i x is = sym (joined xs i) ∙ ap (λ l. take i xs ++ l) is
  where
    joined : (xs : List A) (i : ℕ) → take i xs ++ drop i xs ≡ xs
    joined xs zero = refl
    joined [] (suc i) = refl
    joined (y ∷ ys) (suc i) = ap (λ l. y ∷ l) (joined ys i)

pub all_taken : {A : Type 0} (xs : List A) (i : ℕ) → drop i xs ≡ [] → take i xs ≡ xs
all_taken xs zero none = sym none
all_taken [] (suc i) none = refl
all_taken (y ∷ ys) (suc i) none = ap (λ l. y ∷ l) (all_taken ys i none)

-- the name that was read is the one that the reference has
pub lowered_named : (name q : Name) (sums : Totals) (t : Tables) (x : Standing) → name ≡ q → HoldsBy (counted (lowered name) sums) t x → HoldsBy (counted (lowered q) sums) t x
lowered_named name q sums t x same h = subst (λ n. HoldsBy (counted (lowered n) sums) t x) same h

pub lowered_next : (rs : List RefRow) (i : ℕ) (r : RefRow) (sums : Totals) → drop i rs ≡ r ∷ drop (i + 1) rs → counted (lowered (ref_name r)) (counted (lowered_by (take i rs)) sums) ≡ counted (lowered_by (take (i + 1) rs)) sums
lowered_next rs i r sums is = ap (λ us. record sums { uses = us }) (sym (ap (λ l. lowered_by l sums.uses) (one_further rs i r is) ∙ lowered_then (take i rs) (r ∷ []) sums.uses))

-- the counts that are kept are those that a database has
pub counted_once : (a b : Totals) (x : Standing) → IsInsideBy a x → IsInsideBy b x → a.uses ≡ b.uses
counted_once a b x h k = sym h.host.held.counts ∙ k.host.held.counts

-- so each count that is come to is above 0
pub used_at : (rs : List RefRow) (i : ℕ) (r : RefRow) (sums : Totals) (start now : Standing) → drop i rs ≡ r ∷ drop (i + 1) rs → AreUsed rs start → IsInsideBy sums start → IsInsideBy (counted (lowered_by (take i rs)) sums) now → IsUsed (ref_name r) now
used_at rs i r sums start now is used began within other by =
    subst (IsCounted (ref_name r)) (counted_once (counted (lowered_by (take i rs)) sums) other now within by) (used sums began (take i rs) (drop (i + 1) rs) r (cut_at rs i r is))

-- the references of a body are
pub body_used : (body : Name) (x : Standing) (t : Tables) → IsInsideBy (totals_of t) x → AreUsed (placed t.refs body) x
body_used body x t began sums by before after r is = subst (λ us. IsCounted (ref_name r) (lowered_by before us)) (counted_once (totals_of t) sums x began by) (use_left t.refs t.blocks body before after r is)
