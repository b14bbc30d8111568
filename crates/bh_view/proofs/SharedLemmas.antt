-- Blocks that stay, and those that come with a reference.
use Rattle.std.proofs.Common.{◌≡◌, Bool, true, false, true≢false, cond, not, ◌&&◌, ◌||◌, List, [], ◌∷◌, ◌++◌, append-nil, refl, sym, ap, ◌∙◌}
use Rattle.std.specs.List.{AllByRecursion, list_any}
use Rattle.std.proofs.lemmas.Bool.{and_parts}
use Rattle.sqlite_keyed.specs.Lists.{delete_where}
use Rattle.sqlite_keyed.proofs.ListLemmas.{all_weaker}
use Rattle.bh_tables.specs.Typed.{BlockRow, RefRow, Tables}
use Rattle.bh_tables.specs.Shown.{Name, same_name, block_name, body_name, is_use, is_of_body}
use Rattle.bh_view.specs.Becomes.{KeepsShared}
use Rattle.bh_view.proofs.NameLemmas.{names}

-- ---- lists

module _ {T : Type 0} where
  pub any_weaker : (p q : T → Bool) (xs : List T) → ((x : T) → p x ≡ true → q x ≡ true) → list_any p xs ≡ true → list_any q xs ≡ true
  any_weaker p q [] weaker none = absurd (true≢false (sym none))
  any_weaker p q (x ∷ xs) weaker h = elim (p x) as (λ a. p x ≡ a → (a || list_any p xs) ≡ true → (q x || list_any q xs) ≡ true) [
    | true ↦ λ e some. ap (λ b. b || list_any q xs) (weaker x e)
    | false ↦ λ e rest. later (q x) (any_weaker p q xs weaker rest)
  ] refl h
    where
      later : (a : Bool) {b : Bool} → b ≡ true → (a || b) ≡ true
      later true e = refl
      later false e = e

  -- where none that passes is deleted
  any_left : (p gone : T → Bool) (xs : List T) → ((x : T) → p x ≡ true → gone x ≡ false) → list_any p xs ≡ true → list_any p (delete_where gone xs) ≡ true
  any_left p gone [] apart none = none
  any_left p gone (x ∷ xs) apart h = elim (p x) as (λ a. p x ≡ a → (a || list_any p xs) ≡ true → list_any p (cond (not (gone x)) (x ∷ delete_where gone xs) (delete_where gone xs)) ≡ true) [
    | true ↦ λ e some. ap (λ g. list_any p (cond (not g) (x ∷ delete_where gone xs) (delete_where gone xs))) (apart x e) ∙ ap (λ b. b || list_any p (delete_where gone xs)) e
    | false ↦ λ e rest. elim (gone x) as (λ g. list_any p (cond (not g) (x ∷ delete_where gone xs) (delete_where gone xs)) ≡ true) [
      | true ↦ any_left p gone xs apart rest
      | false ↦ ap (λ b. b || list_any p (delete_where gone xs)) e ∙ any_left p gone xs apart rest
    ]
  ] refl h

-- ---- references of a body

-- it names this block
abbrev pub names_block : Name → Name → RefRow → Bool
names_block body block r = is_of_body body r && is_use block r

-- another body goes
pub named_still : (body gone block : Name) (refs : List RefRow) → same_name body gone ≡ false → list_any (names_block body block) refs ≡ true → list_any (names_block body block) (delete_where (is_of_body gone) refs) ≡ true
named_still body gone block refs apart = any_left (names_block body block) (is_of_body gone) refs
    (λ r h. ap (λ n. same_name n gone) ((names.decides (body_name r) body).0 (and_parts (is_of_body body r) (is_use block r) h).0) ∙ apart)

-- ---- blocks

pub shared_same : (old new : Tables) → new.blocks ≡ old.blocks → KeepsShared old new
shared_same old new same = record { added = []; grown = same ∙ sym (append-nil old.blocks); named = tt }

-- no table changes
pub shared_none : (old new : Tables) → new ≡ old → KeepsShared old new
shared_none old new same = shared_same old new (ap (λ (x : Tables). x.blocks) same)

-- each block that comes is named by this body
pub record SharesFor (body : Name) (old new : Tables) : Type 0 where
  pub added : List BlockRow
  pub grown : new.blocks ≡ old.blocks ++ added
  pub named : AllByRecursion (λ (b : BlockRow). list_any (names_block body (block_name b)) new.refs ≡ true) added

pub shares_same : (body : Name) (old new : Tables) → new.blocks ≡ old.blocks → SharesFor body old new
shares_same body old new same = record { added = []; grown = same ∙ sym (append-nil old.blocks); named = tt }

-- and then no block changes, and what names one of this body still does
pub shared_for : (body : Name) (old middle new : Tables) → SharesFor body old middle → new.blocks ≡ middle.blocks
    → ((block : Name) → list_any (names_block body block) middle.refs ≡ true → list_any (names_block body block) new.refs ≡ true) → KeepsShared old new
shared_for body old middle new shares same still = record {
  added = shares.added;
  grown = same ∙ shares.grown;
  named = all_weaker (λ (b : BlockRow). list_any (names_block body (block_name b)) middle.refs ≡ true) (λ (b : BlockRow). list_any (is_use (block_name b)) new.refs ≡ true)
      (λ b h. any_weaker (names_block body (block_name b)) (is_use (block_name b)) new.refs (λ r e. (and_parts (is_of_body body r) (is_use (block_name b) r) e).1) (still (block_name b) h)) shares.added shares.named;
}
