-- A host that is kept, as the one that it is of.
use Rattle.std.proofs.Common.{◌≡◌, Option, Some, None, option_map, refl, sym, subst}
use Rattle.sqlite_disk.specs.declared.Disk.{Ghosts}
use Rattle.sqlite_store.specs.declared.store.FileStore.{FileStore}
use Rattle.sqlite.specs.Files.{over_files}
use Rattle.bh_tables.specs.Schema.{Octets}
use Rattle.bh_view.specs.Bodies.{IsSoundHost}
use Rattle.bh_storage.specs.Calls.{Clean, IsAtRest}
use Rattle.bh_shelf.specs.declared.shelf.Shelf.{Ghosts as Shelves}
use Rattle.bh_schema.specs.Storage as storage
use Rattle.bh_memo.specs.Facts.{nothing}
use Rattle.bh_memo.proofs.Recalling.{nothing_recalled}
use Rattle.bh_dispatch.specs.declared.sql_host.SqlHost.{SqlHost}
use Rattle.bh_schema.specs.declared.host.Host.{Host}
use Rattle.bh_kept.specs.Kept as kept
use Rattle.bh_schema.specs.declared.host.Digester as digester
use Rattle.bh_kept.specs.declared.host.BlockSize as size
use Rattle.bh_kept.specs.declared.host.KeptHost.{KeptHost}

pub rests_kept : {D P G K : Type 0} {g : Ghosts D} (p : Shelves P) {d : digester.Ghosts G} {k : size.Ghosts K} (digest : Octets → Octets) (first : KeptHost D P G K g p d k) (host : Host (FileStore D g) P G) → first.storage ≡ Some (record { host = host; memo = nothing })
    → (storage.IsClean over_files p host → IsAtRest (IsSoundHost digest) (storage.seen over_files p host))
    → Clean (λ h. kept.IsIntact p h.storage) (λ h. kept.IsOpen p h.storage) first → IsAtRest (IsSoundHost digest) (kept.seen p first.limits first.storage)
rests_kept {D} {P} {G} {K} {g} p digest first host is rest clean =
    let Q : Option (SqlHost (FileStore D g) P G) → Type 0 = λ o. kept.IsIntact p o × kept.IsOpen p o → IsAtRest (IsSoundHost digest) (kept.seen p first.limits o) in
    subst Q (sym is) (λ (up : storage.IsClean over_files p host). subst (IsAtRest (IsSoundHost digest)) (sym (nothing_recalled (storage.seen over_files p host))) (rest up)) clean

-- what is left of a value that is there
pub left_of : {A B : Type 0} (f : A → B) (o : Option A) (y : B) → option_map f o ≡ Some y → (x : A) × (o ≡ Some x) × (y ≡ f x)
left_of f None y is = absurd (cc)
left_of {A} {B} f (Some x) y is = let same : f x ≡ y = cc in (x, refl, sym same)
