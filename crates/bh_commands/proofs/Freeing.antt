-- Steps that give back the room of packs: no table shows them.
use Rattle.std.proofs.Common.{◌≡◌, refl, ◌∙◌}
use Rattle.bh_tables.specs.Typed.{Tables}
use Rattle.bh_storage.specs.Calls.{Seen, Clean, IsAtRest}
use Rattle.bh_connection.specs.Connections.{IsTakenBack}
use Rattle.bh_commands.specs.Commands.{StaysReady}

module _ {H : Type 0} {IsIntact IsOpen : H → Type 0} {seen : H → Seen} where
  pub ready_here : {IsSound : Tables → Type 0} → (host : H) → (Clean IsIntact IsOpen host → IsAtRest IsSound (seen host)) → StaysReady IsIntact IsOpen IsSound seen host host
  ready_here host rest = record { intact = λ h. h; opened = λ h k. k; ready = rest; limits = refl }

  module _ {left : H → Tables → Type 0} where
    pub ready_then : {IsSound : Tables → Type 0} → (old mid new : H) → StaysReady IsIntact IsOpen IsSound seen old mid → (IsIntact new → IsIntact mid)
        → IsTakenBack IsIntact IsOpen seen left mid new → (Clean IsIntact IsOpen new → IsAtRest IsSound (seen new)) → (seen new).limits ≡ (seen mid).limits
        → StaysReady IsIntact IsOpen IsSound seen old new
    ready_then old mid new first still back ready limits = record {
      intact = λ intact. first.intact (still intact);
      opened = λ intact up. first.opened (still intact) (back.same intact up).0;
      ready = ready;
      limits = limits ∙ first.limits;
    }

    pub back_here : (host : H) → IsTakenBack IsIntact IsOpen seen left host host
    back_here host = record { same = λ _ up. (up, refl); survives = λ _ x leaves. leaves }

    pub back_then : (old mid new : H) → IsTakenBack IsIntact IsOpen seen left old mid → (IsIntact new → IsIntact mid) → IsTakenBack IsIntact IsOpen seen left mid new
        → IsTakenBack IsIntact IsOpen seen left old new
    back_then old mid new first still second = record {
      same = λ intact up. let (was, same) = second.same intact up in let (before, first_same) = first.same (still intact) was in (before, same ∙ first_same);
      survives = λ intact x leaves. first.survives (still intact) x (second.survives intact x leaves);
    }
