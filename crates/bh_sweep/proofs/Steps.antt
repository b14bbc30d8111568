-- One call after another, the tables become those of the definition.
use Rattle.std.proofs.Common.{◌≡◌, ◌-◌, ℕ, Bool, not, ◌&&◌, length, ap, ap₂, ◌∙◌}
use Rattle.std.specs.List.{list_any}
use Rattle.bh_tables.specs.Shown.{is_unreferenced, unreferenced}
use Rattle.bh_tables.specs.Typed.{Tables}
use Rattle.bh_view.specs.Sound.{IsSound}
use Rattle.bh_view.specs.Sweep.{is_due, uploads_swept, blocks_swept, without_each, without_blocks, swept, is_complete}
use Rattle.bh_sweep.proofs.Left.{next_blocks, nothing_left}

-- uploads are taken from the first tables, which gives the second, and blocks from these, which gives the third
module _ (at n u : ℕ) (old two three : Tables) (taken : two ≡ without_each (uploads_swept at n old) old) (many : u ≡ length (uploads_swept at n old)) where
  abbrev after : Tables
  after = without_each (uploads_swept at n old) old

  pub these_go : unreferenced (n - u) two.refs two.blocks ≡ blocks_swept at n old
  these_go = ap (λ x. unreferenced (n - u) x.refs x.blocks) taken ∙ ap (λ k. unreferenced (n - k) after.refs after.blocks) many ∙ next_blocks at n old

  module _ (removed : three ≡ without_blocks (unreferenced (n - u) two.refs two.blocks) two) where
    pub is_swept : three ≡ swept at n old
    unfolding swept
    is_swept = removed ∙ (λ i. without_blocks (these_go i) (taken i))

    pub tells_complete : (stale left : Bool) → IsSound old → stale ≡ list_any (is_due at two) two.uploads → left ≡ list_any (is_unreferenced three.refs) three.blocks → (not stale && not left) ≡ is_complete at n old
    tells_complete stale left sound s l =
        ap₂ (λ a b. not a && not b) (s ∙ ap (λ x. list_any (is_due at x) x.uploads) taken) (l ∙ ap (λ x. list_any (is_unreferenced x.refs) x.blocks) is_swept)
        ∙ nothing_left at n old sound
