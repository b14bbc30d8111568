-- A storage stays at rest from call to call.
use Rattle.std.proofs.Common.{refl, inl, inr, ◌∙◌}
use Rattle.bh_storage.specs.Calls.{Seen, Clean, IsAtRest}
use Rattle.bh_tables.specs.Typed.{Tables}
use Rattle.bh_host.specs.Resting.{StaysAtRest}

module _ {H : Type 0} {IsIntact IsOpen : H → Type 0} {IsSound : Tables → Type 0} {seen : H → Seen} {left : H → Tables → Type 0} where
  pub stays_here : (host : H) → (Clean IsIntact IsOpen host → IsAtRest IsSound (seen host)) → StaysAtRest IsIntact IsOpen IsSound seen left host host
  stays_here host rest = record { intact = λ h. h; opened = λ h k. k; ready = rest; limits = refl; leaves = λ _ x before. inl before }

  pub stays_then : {old mid new : H} → StaysAtRest IsIntact IsOpen IsSound seen left old mid → StaysAtRest IsIntact IsOpen IsSound seen left mid new → StaysAtRest IsIntact IsOpen IsSound seen left old new
  stays_then first second = record {
    intact = λ intact. first.intact (second.intact intact);
    opened = λ intact opened. first.opened (second.intact intact) (second.opened intact opened);
    ready = second.ready;
    limits = second.limits ∙ first.limits;
    leaves = λ intact x leaves. elim (second.leaves intact x leaves) [
      | inl before ↦ first.leaves (second.intact intact) x before
      | inr sound ↦ inr sound
    ];
  }
