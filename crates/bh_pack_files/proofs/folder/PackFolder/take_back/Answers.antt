use Rattle.std.proofs.Common.{◌≡◌, ◌≢◌, ◌==◌, ◌++◌, ℕ, false, List, [], ◌∷◌, refl, sym, ◌∙◌, ap, eq-eqb}
use Rattle.std.proofs.lemmas.Bool.{false≢true, or_parts}
use Rattle.std.proofs.lemmas.List.Folds.{list_any-append}
use Rattle.std.specs.List.{list_any}
use Rattle.bh_pack_files.proofs.folder.PackFolder.take_back.Goals as goal

-- a number that isn't in a list isn't its last, nor before that
last_other : (n last : ℕ) (all left : List ℕ) → all ≡ left ++ last ∷ [] → list_any (λ x. x == n) all ≡ false
    → (list_any (λ x. x == n) left ≡ false) × (n ≢ last)
last_other n last all left is none =
    let both = or_parts (list_any (λ x. x == n) left) (list_any (λ x. x == n) (last ∷ []))
    (sym (list_any-append (λ x. x == n) left (last ∷ [])) ∙ sym (ap (list_any (λ x. x == n)) is) ∙ none) in
    (both.0, λ same. false≢true (sym both.1 ∙ rw (eq-eqb last n (sym same)) refl))

pub loop-pack-preserved : goal.loop-pack-preserved
loop-pack-preserved g c =
    let before = c.loop-pack.invariant in (
      λ n. c.remove.ensures.kept n ∙ before.0 n,
      λ n none.
          let first = before.1 n none in
          let both = last_other n c.in-Some.pack c.loop-pack.self.added.items c.pop.new.self.items c.in-Some.ensures.items first.1 in
          let next = c.remove.ensures.others n both.1 in
          (record { made = next.made ∙ first.0.made; removed = next.removed ∙ first.0.removed }, both.0),
    )
