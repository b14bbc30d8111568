-- What is told of a tenant that was to be moved, before and after a step of another kind on either connection.
use Rattle.std.proofs.Common.{◌≡◌, true, false, Option, is_some, Ok, sym, ◌∙◌, subst}
use Rattle.sqlite_trees.specs.declared.store.Store.{Ghosts}
use Rattle.bh_shelf.specs.declared.shelf.Shelf.{Ghosts as Shelves}
use Rattle.bh_base.specs.declared.connection.Connection.{Connection}
use Rattle.bh_types.specs.declared.refusal.Refusal.{Refusal}
use Rattle.bh_model.specs.State.{Octets}
use Rattle.bh_tables.specs.Typed.{Tables}
use Rattle.bh_view.specs.View.{view}
use Rattle.bh_base.specs.Connections.{IsClean, tables}
use Rattle.bh_tenant_rows.specs.Brought.{IsBrought, IsMoved}
use Rattle.bh_moved.specs.Moves.{Tells, move_refused}

module _ {S P T Q : Type 0} (g : Ghosts S) (k : Shelves P) (h : Ghosts T) (l : Shelves Q) (digest : Octets → Octets) (t : Octets) (refused : Option Refusal) where
  -- what stood when the transactions had begun stood before
  pub tells_before : (from from_begun from_new : Connection S P) (to to_begun to_new : Connection T Q)
      → (IsClean g k from_new → tables g k from_begun ≡ tables g k from) → (IsClean h l to_new → tables h l to_begun ≡ tables h l to)
      → Tells g k h l digest t from_begun from_new to_begun to_new (Ok refused) → Tells g k h l digest t from from_new to to_new (Ok refused)
  tells_before from from_begun from_new to to_begun to_new two three it = record {
    moved = λ none reading clean. subst (λ (o : Tables). IsMoved digest t (tables g k from) o (tables h l to_new)) (three clean) (subst (λ (f : Tables). IsMoved digest t f (tables h l to_begun) (tables h l to_new)) (two reading) (it.moved none reading clean));
    answered = λ reading clean. it.answered reading clean ∙ (λ i. move_refused (view (two reading i) t) (view (three clean i) t));
    missing = λ is reading. subst (λ (f : Tables). is_some (view f t) ≡ false) (two reading) (it.missing is reading);
    exists = λ is clean. subst (λ (o : Tables). is_some (view o t) ≡ true) (three clean) (it.exists is clean);
  }

  -- what stood before the commit stands after it
  pub tells_after : (from from_new : Connection S P) (to to_new to_kept : Connection T Q) → (IsClean h l to_kept → IsClean h l to_new) → (IsClean h l to_kept → tables h l to_kept ≡ tables h l to_new)
      → Tells g k h l digest t from from_new to to_new (Ok refused) → Tells g k h l digest t from from_new to to_kept (Ok refused)
  tells_after from from_new to to_new to_kept before same it = record {
    moved = λ none reading clean other given host. subst (IsBrought digest t (tables g k from) (tables h l to)) (sym (same clean)) (it.moved none reading (before clean) other given host);
    answered = λ reading clean. it.answered reading (before clean);
    missing = it.missing;
    exists = λ is clean. it.exists is (before clean);
  }
