-- The bytes of the blocks that nobody needs, as a write changes their number.
use Rattle.std.specs.Prelude.{◌≡◌, ℕ, ◌+◌, true, [], ◌∷◌, ◌++◌}
use Rattle.sqlite_keyed.specs.Lists.{update_where}
use Rattle.sqlite_trees.specs.declared.store.Store.{Ghosts}
use Rattle.bh_shelf.specs.declared.shelf.Shelf.{Ghosts as Shelves}
use Rattle.bh_base.specs.declared.connection.Connection.{Connection}
use Rattle.bh_tables.specs.Bodies.{unneeded}
use Rattle.bh_tables.specs.Typed.{Totals, Tables, weight, weighed}
use Rattle.bh_base.specs.Connections.{IsClean, stands, tables}
use Rattle.bh_base.specs.Layer.{IsInsideBy, HoldsBy}

abbrev pub garbage_in : Tables → ℕ
garbage_in t = unneeded t.refs t.blocks

-- with a row of so many bytes more, and with so many in its row
abbrev pub weight_added : ℕ → Totals → Totals
weight_added n = weighed (λ gs. gs ++ weight n ∷ [])

abbrev pub weight_set : ℕ → Totals → Totals
weight_set n = weighed (update_where (λ _. true) (λ _. weight n))

-- within a write: where the row had this number before, it has so many more and so many fewer
abbrev pub Reweighs : {S P : Type 0} (g : Ghosts S) (k : Shelves P) (old new : Connection S P) (before more less : ℕ) → Type 0
Reweighs g k old new before more less = IsClean g k new → (sums : Totals) → IsInsideBy sums (stands g k old)
    → sums.garbage ≡ weight before ∷ []
    → (after : ℕ) → after + less ≡ before + more → HoldsBy (record sums { garbage = weight after ∷ [] }) (tables g k old) (stands g k new)
