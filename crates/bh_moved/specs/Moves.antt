-- Moving a tenant between two connections: its preconditions, its refusals, and the effect of its
-- commit.
use Rattle.std.specs.Prelude.{◌≡◌, true, false, Option, Some, None, is_some, Result, IfOk}
use Rattle.sqlite.specs.declared.error.Error.{Error}
use Rattle.sqlite_trees.specs.declared.store.Store.{Ghosts}
use Rattle.bh_shelf.specs.declared.shelf.Shelf.{Ghosts as Shelves}
use Rattle.bh_base.specs.declared.connection.Connection.{Connection}
use Rattle.bh_types.specs.declared.refusal.Refusal.{Refusal}
use Rattle.bh_types.specs.declared.refusal.Refusal.TheVariants.{NoSuchTenant, TenantExists}
use Rattle.bh_model.specs.State.{State, Octets}
use Rattle.bh_tables.specs.Typed.{IsHost}
use Rattle.bh_view.specs.View.{view}
use Rattle.bh_base.specs.Layer.{Standing}
use Rattle.bh_base.specs.Connections.{IsClean, stands, tables}
use Rattle.bh_tenant_rows.specs.Brought.{IsMoved}

-- no transaction is open on a host's database
pub record IsSettled (x : Standing) : Type 0 where
  pub outside : x.inside ≡ false
  pub host : IsHost x.now

-- the refusal, given the tenant's state in the two hosts; none if it is moved
abbrev pub move_refused : Option State → Option State → Option Refusal
move_refused None there = Some NoSuchTenant
move_refused (Some s) None = None
move_refused (Some s) (Some there) = Some TenantExists

-- no transaction is open, and the database was committed
pub record IsCommitted (x : Standing) : Type 0 where
  pub outside : x.inside ≡ false
  pub kept : x.kept ≡ x.now

module _ {S P : Type 0} (g : Ghosts S) (k : Shelves P) where
  -- while the connection is clean
  abbrev pub IsReady : Connection S P → Type 0
  IsReady c = IsClean g k c → IsSettled (stands g k c)

module _ {S P T Q : Type 0} (g : Ghosts S) (k : Shelves P) (h : Ghosts T) (l : Shelves Q) (digest : Octets → Octets) (t : Octets)
    (from from_new : Connection S P) (to to_new : Connection T Q) (outcome : Result (Option Refusal) Error) where
  -- the result for a tenant that was to be moved
  pub record Tells : Type 0 where
    pub moved : IfOk outcome (λ refused. refused ≡ None → IsClean g k from_new → IsClean h l to_new
        → IsMoved digest t (tables g k from) (tables h l to) (tables h l to_new))
    pub answered : IfOk outcome (λ refused. IsClean g k from_new → IsClean h l to_new
        → refused ≡ move_refused (view (tables g k from) t) (view (tables h l to) t))
    pub missing : IfOk outcome (λ refused. refused ≡ Some NoSuchTenant → IsClean g k from_new
        → is_some (view (tables g k from) t) ≡ false)
    pub exists : IfOk outcome (λ refused. refused ≡ Some TenantExists → IsClean h l to_new
        → is_some (view (tables h l to) t) ≡ true)
