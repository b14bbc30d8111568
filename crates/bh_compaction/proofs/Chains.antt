-- Calls one after another, within a write.
use Rattle.std.proofs.Common.{true≢false, sym, Option, Some, None, Ok, Err, Result, IfOk, IfSome, OnOk}
use Rattle.std.specs.Result.{IsErr}
use Rattle.std.proofs.lemmas.Result.{on_ok_weaker}
use Rattle.sqlite_trees.specs.declared.store.Store.{Ghosts}
use Rattle.bh_shelf.specs.declared.shelf.Shelf.{Ghosts as Shelves}
use Rattle.bh_base.specs.declared.connection.Connection.{Connection}
use Rattle.bh_base.specs.Calls.{WritesOn}
use Rattle.bh_base.specs.Connections.{StaysWithin, state}
use Rattle.bh_base.specs.Layer.{IsIntact, IsOpen}
use Rattle.bh_base.proofs.Freeing.{within_next}

-- what follows from what was found, wherever something was
pub where_found : {X E : Type 0} {P Q : X → Type 0} (r : Result (Option X) E) → ((x : X) → P x → Q x) → IfOk r (λ o. IfSome o P) → IfOk r (λ o. IfSome o Q)
where_found (Ok None) weaker h = tt
where_found (Ok (Some x)) weaker h = weaker x h
where_found (Err e) weaker h = tt

-- nothing is said of what failed
pub failed : {X E : Type 0} (P : Type 0) (r : Result X E) → IsErr r → OnOk r P
failed P (Ok x) is = absurd (true≢false (sym is))
failed P (Err e) is = tt

module _ {S P : Type 0} (g : Ghosts S) (k : Shelves P) (old mid new : Connection S P) where
  -- a write after a call that leaves the connection open
  pub writes_then : {A E : Type 0} {r : Result A E} → (IsIntact (state g k mid) → IsOpen (state g k old) → IsOpen (state g k mid)) → StaysWithin g k old mid → WritesOn g k mid new r → WritesOn g k old new r
  writes_then {A} {E} {r} up within w = record {
    within = within_next (state g k old) (state g k mid) (state g k new) up within w.within;
    opens = on_ok_weaker r (λ still intact was. still intact (up (w.within.follows.intact intact) was)) w.opens;
    midst = w.midst;
  }
