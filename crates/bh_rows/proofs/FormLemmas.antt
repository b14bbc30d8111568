-- Rows as entries, which are in the order of their numbers.
use Rattle.std.proofs.Common.{◌≡◌, ℤ, List, [], ◌∷◌, map, map-id, filter, not, cond, Bool, true, false, refl, sym, ap, ap₂, ◌∙◌, subst}
use Rattle.std.specs.List.{AllByRecursion, list_any}
use Rattle.std.proofs.Common.{◌||◌}
use Rattle.sqlite.specs.declared.types.Value.TheVariants.{Int}
use Rattle.sqlite.specs.Order.{Row}
use Rattle.sqlite.specs.Tree.{IsTable, rowid}
use Rattle.sqlite.specs.Edit.{id_in}
use Rattle.sqlite_value.proofs.OrderLemmas.{value_cmp-Int}
use Rattle.sqlite_keyed.specs.Keyed.{IsKeyedBy}
use Rattle.sqlite_keyed.specs.Lists.{update_where, delete_where}
use Rattle.sqlite_keyed.proofs.ListLemmas.{ascending_from_map, ascending_weaker, ascending-map}
use Rattle.sqlite_keyed.proofs.KeyedLemmas.{lt_from_Less, Less-from_lt, IsKeyedBy-update_where, IsKeyedBy-delete_where}
use Rattle.bh_rows.specs.Form.{Form, AreRows, Entry, put, get, entries, typed}

module _ {T : Type 0} (form : Form T) where
  stored_by : (rows : List Row) → AllByRecursion (λ r. r ≡ Int (id_in (rowid r)) ∷ form.encode (form.decode r)) rows → rows ≡ map (put form) (entries form rows)
  stored_by [] h = refl
  stored_by (r ∷ rows) h = ap₂ ◌∷◌ h.0 (stored_by rows h.1)

  -- the rows are those of their entries
  pub stored : (rows : List Row) → AreRows form rows → rows ≡ map (put form) (entries form rows)
  stored rows held = stored_by rows held.each

  -- whose numbers rise
  pub keyed : (rows : List Row) → AreRows form rows → IsKeyedBy (λ (e : Entry T). e.0) (entries form rows)
  keyed rows held =
      ascending_weaker _ _ (λ a b h. lt_from_Less a.0 b.0 (sym (value_cmp-Int a.0 b.0) ∙ h)) _
      (ascending_from_map _ (put form) _ (subst IsTable (stored rows held) held.rises))

  -- a choice of entries by their typed rows is a choice of typed rows
  pub picked : {X : Type 0} (m : T → Bool) (view : T → X) (rows : List Row) → map (λ (e : Entry T). view e.1) (filter (λ e. m e.1) (entries form rows)) ≡ map view (filter m (typed form rows))
  picked m view [] = refl
  picked {X} m view (r ∷ rows) =
      elim (m (form.decode r)) as (λ b. map (λ (e : Entry T). view e.1) (cond b (get form r ∷ filter (λ e. m e.1) (entries form rows)) (filter (λ e. m e.1) (entries form rows)))
      ≡ map view (cond b (form.decode r ∷ filter m (typed form rows)) (filter m (typed form rows)))) [ true ↦ ap (λ l. view (form.decode r) ∷ l) (picked m view rows) | false ↦ picked m view rows ]

  -- ---- from entries to rows

  -- entries whose numbers rise are rows
  pub held_put : (es : List (Entry T)) → IsKeyedBy (λ (e : Entry T). e.0) es → AreRows form (map (put form) es)
  held_put es up = record { each = go es; rises = ascending-map _ (put form) es (ascending_weaker _ _ (λ a b h. value_cmp-Int a.0 b.0 ∙ Less-from_lt a.0 b.0 h) es up) }
    where
      go : (ds : List (Entry T)) → AllByRecursion (λ r. r ≡ Int (id_in (rowid r)) ∷ form.encode (form.decode r)) (map (put form) ds)
      go [] = tt
      go (d ∷ ds) = (ap (λ y. Int d.0 ∷ form.encode y) (sym (form.back (Int d.0) d.1)), go ds)

  -- and their typed rows are their own
  pub typed_put : (es : List (Entry T)) → typed form (map (put form) es) ≡ map (λ (e : Entry T). e.1) es
  typed_put [] = refl
  typed_put (e ∷ es) = ap₂ ◌∷◌ (form.back (Int e.0) e.1) (typed_put es)

  module _ (m : T → Bool) (rows : List Row) (held : AreRows form rows) where
    -- a DELETE on entries is one on typed rows
    pub typed_delete : typed form (map (put form) (delete_where (λ (e : Entry T). m e.1) (entries form rows))) ≡ delete_where m (typed form rows)
    typed_delete = typed_put _ ∙ picked (λ x. not (m x)) (λ x. x) rows ∙ map-id _

    -- and leaves rows
    pub held_delete : AreRows form (map (put form) (delete_where (λ (e : Entry T). m e.1) (entries form rows)))
    held_delete = held_put _ (IsKeyedBy-delete_where (λ (e : Entry T). e.0) (λ (e : Entry T). m e.1) (entries form rows) (keyed rows held))

    module _ (f : T → T) where
      -- an UPDATE on entries is one on typed rows
      pub typed_update : typed form (map (put form) (update_where (λ (e : Entry T). m e.1) (λ e. (e.0, f e.1)) (entries form rows))) ≡ update_where m f (typed form rows)
      typed_update = typed_put _ ∙ go rows
        where
          go : (rs : List Row) → map (λ (e : Entry T). e.1) (update_where (λ (e : Entry T). m e.1) (λ e. (e.0, f e.1)) (entries form rs)) ≡ update_where m f (typed form rs)
          go [] = refl
          go (r ∷ rs) = ap₂ ◌∷◌ (elim (m (form.decode r)) as (λ b. (cond b (id_in (rowid r), f (form.decode r)) (get form r)).1 ≡ cond b (f (form.decode r)) (form.decode r)) [ true ↦ refl | false ↦ refl ]) (go rs)

      -- and leaves rows
      pub held_update : AreRows form (map (put form) (update_where (λ (e : Entry T). m e.1) (λ e. (e.0, f e.1)) (entries form rows)))
      held_update = held_put _ (IsKeyedBy-update_where (λ (e : Entry T). e.0) (λ (e : Entry T). m e.1) (λ (e : Entry T). (e.0, f e.1)) (λ _. refl) (entries form rows) (keyed rows held))

  -- a test on some row, as one on some typed row
  pub any_typed : (p : Row → Bool) (q : T → Bool) → ((id : ℤ) (x : T) → p (Int id ∷ form.encode x) ≡ q x) → (rows : List Row) → AreRows form rows → list_any p rows ≡ list_any q (typed form rows)
  any_typed p q same rows held = go rows held.each
    where
      go : (rs : List Row) → AllByRecursion (λ r. r ≡ Int (id_in (rowid r)) ∷ form.encode (form.decode r)) rs → list_any p rs ≡ list_any q (typed form rs)
      go [] h = refl
      go (r ∷ rs) h = ap₂ ◌||◌ (ap p h.0 ∙ same (id_in (rowid r)) (form.decode r)) (go rs h.1)
