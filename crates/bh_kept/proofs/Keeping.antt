-- A call on a host that is kept is one on it.
use Rattle.bh_shelf.specs.declared.shelf.Shelf.{Ghosts as Shelves}
use Rattle.std.proofs.Common.{◌≡◌, ℕ, Option, Some, IfSome, Result, OnOk, sym, subst}
use Rattle.sqlite_disk.specs.declared.Disk.{Ghosts}
use Rattle.sqlite_store.specs.declared.store.FileStore.{FileStore}
use Rattle.sqlite.specs.Files.{over_files}
use Rattle.bh_http.specs.Bodies.{Coming}
use Rattle.bh_types.specs.Limits.{HostTuning}
use Rattle.bh_model.specs.State.{Octets}
use Rattle.bh_operation.specs.declared.operation.Operation.{Operation}
use Rattle.bh_tables.specs.Typed.{Tables}
use Rattle.bh_storage.specs.Calls.{Within, StaysAtWork, IsWorking}
use Rattle.bh_storage.specs.declared.error.Outcome.{Outcome}
use Rattle.bh_storage.specs.declared.error.StepError.{StepError}
use Rattle.bh_schema.specs.Storage as storage
use Rattle.bh_schema.specs.declared.host.Digester as digester
use Rattle.bh_connection.specs.Connections.{IsTakenBack}
use Rattle.bh_dispatch.specs.Seeing as recalling
use Rattle.bh_dispatch.specs.declared.sql_host.SqlHost.{SqlHost}
use Rattle.bh_dispatch.specs.Stored.{CutsBody}
use Rattle.bh_kept.specs.Cutting.{Cuts}
use Rattle.bh_kept.specs.Kept as kept
use Rattle.bh_kept.specs.declared.host.BlockSize as size
use Rattle.bh_kept.specs.declared.host.KeptHost.{KeptHost}

-- the host before a call and after it, and what it holds
module _ {D P G K : Type 0} {g : Ghosts D} {p : Shelves P} {d : digester.Ghosts G} {k : size.Ghosts K} (old new : KeptHost D P G K g p d k) (a b : SqlHost (FileStore D g) P G) (was : old.storage ≡ Some a) (is : new.storage ≡ Some b) where
  both_kept : (Q : Option (SqlHost (FileStore D g) P G) → Option (SqlHost (FileStore D g) P G) → Type 0) → Q (Some a) (Some b) → Q old.storage new.storage
  both_kept Q h = subst (λ o. Q o new.storage) (sym was) (subst (λ n. Q (Some a) n) (sym is) h)

  pub within_kept : Within (λ (h : SqlHost (FileStore D g) P G). storage.IsIntact over_files p h.host) (λ h. storage.IsOpen over_files p h.host) (λ h. recalling.seen over_files p h) (λ h. storage.left over_files p h.host) a b
      → Within (λ (h : KeptHost D P G K g p d k). kept.IsIntact p h.storage) (λ h. kept.IsOpen p h.storage) (λ h. kept.seen p h.limits h.storage) (λ h. kept.left p h.storage) old new
  within_kept w = record {
    intact = both_kept (λ o n. kept.IsIntact p n → kept.IsIntact p o) w.intact;
    opened = both_kept (λ o n. kept.IsIntact p n → kept.IsOpen p n → kept.IsOpen p o) w.opened;
    survives = both_kept (λ o n. kept.IsOpen p o → kept.IsIntact p n → (x : Tables) → kept.left p n x → kept.left p o x) w.survives;
    kept = both_kept (λ o n. kept.IsIntact p n × kept.IsOpen p n → (kept.seen p new.limits n).kept ≡ (kept.seen p old.limits o).kept) w.kept;
    limits = both_kept (λ o n. (kept.seen p new.limits n).limits ≡ (kept.seen p old.limits o).limits) w.limits;
  }

  pub at_work_kept : (IsSound : Tables → Type 0) (Done : Type 0 → Type 0)
      → StaysAtWork (λ (h : SqlHost (FileStore D g) P G). storage.IsIntact over_files p h.host) (λ h. storage.IsOpen over_files p h.host) IsSound (λ h. recalling.seen over_files p h) (λ h. storage.left over_files p h.host) Done a b
      → StaysAtWork (λ (h : KeptHost D P G K g p d k). kept.IsIntact p h.storage) (λ h. kept.IsOpen p h.storage) IsSound (λ h. kept.seen p h.limits h.storage) (λ h. kept.left p h.storage) Done old new
  at_work_kept IsSound Done s = record {
    within = within_kept s.within;
    opens = both_kept (λ o n. Done (kept.IsOpen p o → kept.IsIntact p n → kept.IsOpen p n)) s.opens;
    working = both_kept (λ o n. Done (kept.IsIntact p n × kept.IsOpen p n → IsWorking IsSound (kept.seen p new.limits n))) s.working;
  }

  pub back_kept : IsTakenBack (λ (h : SqlHost (FileStore D g) P G). storage.IsIntact over_files p h.host) (λ h. storage.IsOpen over_files p h.host) (λ h. recalling.seen over_files p h) (λ h. storage.left over_files p h.host) a b
      → IsTakenBack (λ (h : KeptHost D P G K g p d k). kept.IsIntact p h.storage) (λ h. kept.IsOpen p h.storage) (λ h. kept.seen p h.limits h.storage) (λ h. kept.left p h.storage) old new
  back_kept t = record {
    same = both_kept (λ o n. kept.IsIntact p n → kept.IsOpen p n → kept.IsOpen p o × ((kept.seen p new.limits n).now ≡ (kept.seen p old.limits o).now)) t.same;
    survives = both_kept (λ o n. kept.IsIntact p n → (x : Tables) → kept.left p n x → kept.left p o x) t.survives;
  }

  -- what it says of the tables before it and after it
  pub says_kept : (Says : Tables → Tables → Type 0) → (storage.IsIntact over_files p b.host × storage.IsOpen over_files p b.host → Says (recalling.seen over_files p a).now (recalling.seen over_files p b).now)
      → kept.IsIntact p new.storage × kept.IsOpen p new.storage → Says (kept.seen p old.limits old.storage).now (kept.seen p new.limits new.storage).now
  says_kept Says h = both_kept (λ o n. kept.IsIntact p n × kept.IsOpen p n → Says (kept.seen p old.limits o).now (kept.seen p new.limits n).now) h

module _ {D P G K : Type 0} {g : Ghosts D} {p : Shelves P} {d : digester.Ghosts G} {k : size.Ghosts K} (old : KeptHost D P G K g p d k) (a b : SqlHost (FileStore D g) P G) (was : old.storage ≡ Some a) where
  pub opens_kept : {X E : Type 0} (result : Result X E) (B : Type 0) → OnOk result (storage.IsOpen over_files p a.host → B) → OnOk result (kept.IsOpen p old.storage → B)
  opens_kept result B h = subst (λ o. OnOk result (kept.IsOpen p o → B)) (sym was) h

  pub cuts_kept : {X E : Type 0} (digest : Octets → Octets) (size : ℕ) (operation : Operation) (before after : Coming) (result : Result (Outcome X E) (StepError E))
      → CutsBody over_files p digest size operation before after a.host.connection b.host.connection result → Cuts p digest size operation before after old.storage (Some b) result
  cuts_kept digest size operation before after result h =
      subst (λ o. IfSome o (λ (a : SqlHost (FileStore D g) P G). CutsBody over_files p digest size operation before after a.host.connection b.host.connection result)) (sym was) h

-- a host that was closed and opened again with its settings has them
pub tuned_kept : {D P G : Type 0} {g : Ghosts D} (was : Option (SqlHost (FileStore D g) P G)) (a : SqlHost (FileStore D g) P G) (tuning : HostTuning) → was ≡ Some a → tuning ≡ a.host.cache.tuning → IfSome was (λ it. tuning ≡ it.host.cache.tuning)
tuned_kept {D} {P} {G} {g} was a tuning is same = subst (λ o. IfSome o (λ (it : SqlHost (FileStore D g) P G). tuning ≡ it.host.cache.tuning)) (sym is) same
