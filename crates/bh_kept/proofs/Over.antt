-- What a storage shows and leaves of the host beneath it.
use Rattle.bh_shelf.specs.declared.shelf.Shelf.{Ghosts as Shelves}
use Rattle.std.proofs.Common.{◌≡◌, Some, sym, subst}
use Rattle.std.specs.Prelude.{◌↔◌}
use Rattle.sqlite_disk.specs.declared.Disk.{Ghosts}
use Rattle.sqlite_store.specs.declared.store.FileStore.{FileStore}
use Rattle.sqlite.specs.Files.{over_files}
use Rattle.bh_model.specs.State.{Octets}
use Rattle.bh_view.specs.Bodies.{IsSoundHost}
use Rattle.bh_storage.specs.Calls.{IsAtRest}
use Rattle.bh_memo.proofs.Recalling.{rests_alone}
use Rattle.bh_schema.specs.Storage as host
use Rattle.bh_schema.specs.declared.host.Digester as digester
use Rattle.bh_dispatch.specs.Seeing as recalling
use Rattle.bh_dispatch.specs.declared.sql_host.SqlHost.{SqlHost}
use Rattle.bh_kept.specs.Kept as kept
use Rattle.bh_kept.specs.Over.{StandsOver}
use Rattle.bh_kept.specs.declared.host.BlockSize as size
use Rattle.bh_kept.specs.declared.host.KeptHost.{KeptHost}

module _ {D P G : Type 0} {g : Ghosts D} (p : Shelves P) (digest : Octets → Octets) (it : SqlHost (FileStore D g) P G) where
  same_recalled : IsAtRest (IsSoundHost digest) (recalling.seen over_files p it) → recalling.seen over_files p it ≡ host.seen over_files p it.host
  same_recalled rest = rests_alone it.memo (host.seen over_files p it.host) rest

  pub recalling_over : StandsOver p (λ (r : SqlHost (FileStore D g) P G). host.IsIntact over_files p r.host) (λ r. host.IsOpen over_files p r.host) (IsSoundHost digest) (recalling.seen over_files p)
      (λ r. host.left over_files p r.host) it it.host
  recalling_over = record { intact = (λ i. i, λ i. i); opened = (λ o. o, λ o. o); leaves = λ x. (λ l. l, λ l. l); same = same_recalled }

  pub kept_over : {K : Type 0} {d : digester.Ghosts G} {k : size.Ghosts K} (h : KeptHost D P G K g p d k) → h.storage ≡ Some it
      → StandsOver p (λ (o : KeptHost D P G K g p d k). kept.IsIntact p o.storage) (λ o. kept.IsOpen p o.storage) (IsSoundHost digest) (λ o. kept.seen p o.limits o.storage) (λ o. kept.left p o.storage) h it.host
  kept_over h is = record {
    intact = subst (λ o. kept.IsIntact p o ↔ host.IsIntact over_files p it.host) (sym is) (λ i. i, λ i. i);
    opened = subst (λ o. kept.IsOpen p o ↔ host.IsOpen over_files p it.host) (sym is) (λ o. o, λ o. o);
    leaves = λ x. subst (λ o. kept.left p o x ↔ host.left over_files p it.host x) (sym is) (λ l. l, λ l. l);
    same = subst (λ o. IsAtRest (IsSoundHost digest) (kept.seen p h.limits o) → kept.seen p h.limits o ≡ host.seen over_files p it.host) (sym is) same_recalled;
  }
