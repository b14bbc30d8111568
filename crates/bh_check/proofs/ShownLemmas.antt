-- What is known of blocks by their names and lengths, and what of those that a host shows with their bytes.
use Rattle.std.proofs.Common.{Option, Some, IfSome, subst, arith, ap₂, length, ◌≡◌, ℕ, ◌+◌, List, [], ◌∷◌, ◌++◌, map, if◌then◌else◌, refl, sym, ap, ◌∙◌}
use mathlib.Core.List.{map-append}
use Rattle.std.specs.List.{AllByRecursion, AllZip}
use Rattle.std.proofs.lemmas.List.Sums.{sum_by-append, sum_by-cons}
use Rattle.sqlite.specs.Order.{Row}
use Rattle.sqlite_exec.proofs.AgreeLemmas.{zip-append}
use Rattle.sqlite_trees.proofs.ListLemmas.{all-append}
use Rattle.bh_shelf.specs.Contents.{Contents}
use Rattle.bh_tables.specs.Bodies.{Name, same_name}
use Rattle.bh_tables.specs.Packs.{place_at}
use Rattle.bh_tables.specs.Rows.{PlaceRow, PackRow}
use Rattle.bh_tables.specs.Schema.{Octets}
use Rattle.bh_check.specs.Blocks.{IsUseOf, HasDigest}
use Rattle.bh_check.specs.Filled.{IsFilled, AreFilled}
use Rattle.bh_check.specs.Holds.{owner, one, first_two, block_length}
use Rattle.bh_check.specs.Looked.{AreLookedAt, IsNamedAs}
use Rattle.bh_check.specs.Sums.{Keeps, total}
use Rattle.bh_check.specs.declared.looked.Looked.{Looked}
use Rattle.bh_check.proofs.Walks.{keeps_same}

-- ---- counts of uses

pub uses_named : (of : Name → ℕ) (us bs cs : List Row) → AllZip (IsUseOf of) us bs → AllZip IsNamedAs bs cs → AllZip (IsUseOf of) us cs
uses_named of [] [] [] uses names = tt
uses_named of [] [] (c ∷ cs) uses names = absurd names
uses_named of [] (b ∷ bs) cs uses names = absurd uses
uses_named of (u ∷ us) [] cs uses names = absurd uses
uses_named of (u ∷ us) (b ∷ bs) [] uses names = absurd names
uses_named of (u ∷ us) (b ∷ bs) (c ∷ cs) uses names = (
  record {
    digest = uses.0.digest ∙ names.0.digest;
    ord = uses.0.ord ∙ names.0.ord;
    count = uses.0.count ∙ (λ i. of (names.0.digest i, names.0.ord i));
  },
  uses_named of us bs cs uses.1 names.1,
)

-- ---- blocks that were looked at, some after others

pub total_both : {T : Type 0} (name : T → Name) (amount : T → ℕ) (xs ys : List T) (q : Name) → total name amount xs q + total name amount ys q ≡ total name amount (xs ++ ys) q
total_both name amount xs ys q = sym (sum_by-append (λ r. if same_name (name r) q then amount r else 0) xs ys)

module _ (rows : List PackRow) (packs : Contents) (places : List PlaceRow) (digest : Octets → Octets) where
  pub looked_none : (l : Looked) → Keeps (λ _. 0) l.by_name → l.lengths.items ≡ [] → AreLookedAt rows packs places digest [] l
  looked_none l names none = record { filled = []; are = tt; digests = tt; by_name = keeps_same _ _ _ (λ q. refl) names; lengths = none }

  pub looked_more : (before blocks fs : List Row) (old new : Looked) → AreLookedAt rows packs places digest before old → AreFilled rows packs places blocks fs → AllByRecursion (HasDigest digest) fs
      → ((of : Name → ℕ) → Keeps of old.by_name → Keeps (λ q. of q + total first_two block_length fs q) new.by_name) → new.lengths.items ≡ old.lengths.items ++ map block_length fs
      → AreLookedAt rows packs places digest (before ++ blocks) new
  looked_more before blocks fs old new was are digests names lengths = record {
    filled = was.filled ++ fs;
    are = zip-append (λ row its. IsFilled rows packs (place_at places (first_two row)) row its) before blocks was.filled fs was.are are;
    digests = all-append (HasDigest digest) was.filled fs was.digests digests;
    by_name = keeps_same _ _ _ (total_both first_two block_length was.filled fs) (names (total first_two block_length was.filled) was.by_name);
    lengths = lengths ∙ ap (λ l. l ++ map block_length fs) was.lengths ∙ sym (map-append block_length was.filled fs);
  }

pub none_left : {T : Type 0} (xs : List T) → length xs ≡ 0 → xs ≡ []
none_left [] none = refl
none_left (x ∷ xs) none = absurd (omega (arith, none))

-- ---- as many of a digest

pub total_named : (q : Name) (xs ys : List Row) → AllZip IsNamedAs xs ys → total owner one xs q ≡ total owner one ys q
total_named q [] [] all = refl
total_named q [] (y ∷ ys) all = absurd all
total_named q (x ∷ xs) [] all = absurd all
total_named q (x ∷ xs) (y ∷ ys) all =
    let first : (if same_name (owner x) q then 1 else 0) ≡ (if same_name (owner y) q then 1 else 0) = ap (λ d. if same_name (d, 0) q then 1 else 0) all.0.digest in
    sum_by-cons (λ r. if same_name (owner r) q then one r else 0) x xs ∙ ap₂ ◌+◌ first (total_named q xs ys all.1) ∙ sym (sum_by-cons (λ r. if same_name (owner r) q then one r else 0) y ys)

pub some_has : {A : Type 0} (P : A → Type 0) (o : Option A) (x : A) → o ≡ Some x → IfSome o P → P x
some_has P o x is has = subst (λ o. IfSome o P) is has
