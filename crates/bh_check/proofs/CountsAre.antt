-- The rows that count the references to each block are the typed rows that a host keeps.
use Rattle.std.proofs.Common.{arith, ◌≡◌, ℕ, pos, true, List, [], ◌∷◌, length, map, filter, refl, sym, ap, ap₂, ◌∙◌, sum_by}
use Rattle.std.specs.List.{AllByRecursion, AllZip}
use Rattle.std.proofs.lemmas.List.Sums.{sum_by-cons}
use Rattle.sqlite.specs.Order.{Row}
use Rattle.sqlite.specs.Tree.{Trees}
use Rattle.bh_rows.specs.Form.{typed}
use Rattle.bh_tables.specs.Bodies.{Name, same_name, ref_name}
use Rattle.bh_tables.specs.Typed.{RefRow, use_form, use_among, ref_of, ref_form, block_form}
use Rattle.bh_stored.specs.Cells.{is_fit}
use Rattle.bh_stored.specs.Fits.{use_kinds}
use Rattle.bh_stored.proofs.Fitted.{count_is}
use Rattle.bh_check.specs.Blocks.{IsUseOf}
use Rattle.bh_check.specs.Holds.{first_two, ref_block, block_refs, one}
use Rattle.bh_check.proofs.TotalIs.{total_is}

length_sum : {X : Type 0} (xs : List X) → length xs ≡ sum_by (λ _. 1) xs
length_sum [] = refl
length_sum (x ∷ xs) = let rest = length_sum xs in let more = sum_by-cons (λ _. 1) x xs in omega (arith, rest, more)

-- how many references name a block
pub refs_counted : (d : Trees) (q : Name) → block_refs d q ≡ length (filter (λ r. same_name (ref_name r) q) (typed ref_form (d 12)))
refs_counted d q = sym (length_sum (filter (λ r. same_name (ref_name r) q) (typed ref_form (d 12)))
    ∙ total_is ref_of (λ r. same_name (ref_name r) q) (λ (_ : RefRow). 1) ref_block one q (λ r. refl) (λ r. refl) (d 12))

pub counts_are : (of : Name → ℕ) (refs : List RefRow) → ((q : Name) → of q ≡ length (filter (λ r. same_name (ref_name r) q) refs)) → (us bs : List Row) → AllByRecursion (λ r. is_fit use_kinds r ≡ true) us → AllZip (IsUseOf of) us bs
    → typed use_form us ≡ map (use_among refs) (typed block_form bs)
counts_are of refs is [] [] fit h = refl
counts_are of refs is [] (b ∷ bs) fit h = absurd h
counts_are of refs is (u ∷ us) [] fit h = absurd h
counts_are of refs is (u ∷ us) (b ∷ bs) fit h =
    let it = h.0 in
    let count = count_is u fit.0 ∙ ap pos (it.count ∙ is (first_two b)) in
    ap₂ ◌∷◌ (λ i. record { digest = it.digest i; ord = it.ord i; uses = count i }) (counts_are of refs is us bs fit.1 h.1)
