-- What a frozen disk keeps, a disk keeps that hands its calls on.
use Rattle.std.proofs.Common.{ℕ, Bool, List}
use Rattle.bh_file.specs.declared.watched.Watched.{Watched}
use Rattle.bh_file.specs.Watched.{inner_of}
use Rattle.sqlite_disk.specs.Disk.{StaysFrozen}

module _ {D : Type 0} {seen : D → List ℕ} {may_leave : D → List ℕ → Type 0} {is_clean is_frozen : D → Bool} where
  pub hands_on : {old new : Watched D}
      → StaysFrozen seen may_leave is_clean is_frozen (inner_of old) (inner_of new)
      → StaysFrozen (λ f. seen (inner_of f)) (λ f. may_leave (inner_of f)) (λ f. is_clean (inner_of f)) (λ f. is_frozen (inner_of f)) old new
  hands_on it = record { frozen = it.frozen; same = it.same; clean = it.clean; no_more = it.no_more; no_fewer = it.no_fewer }
