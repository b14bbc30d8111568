-- Where no host was found, what stood stands.
use Rattle.std.proofs.Common.{◌≡◌, ◌≢◌, ◌⊎◌, refl, inl, inr}
use Rattle.sqlite_trees.specs.declared.store.Store.{Ghosts}
use Rattle.sqlite.specs.Held.{Held, state}
use Rattle.sqlite.specs.State.{State}
use Rattle.bh_shelf.specs.Contents.{Contents}
use Rattle.bh_types.specs.Limits.{HostLimits}
use Rattle.bh_types.specs.declared.refusal.Refusal.{Refusal}
use Rattle.bh_types.specs.declared.refusal.Refusal.TheVariants.{NotAHostFile, Unavailable}
use Rattle.bh_base.specs.Layer.{standing, IsOpen, IsStateClean, KeepsDisk, LeavesNothingNew, taken_back}
use Rattle.bh_base.specs.Placed.{filled}
use Rattle.bh_open.specs.Opening.{IsHostOf, LeavesOver}
use Rattle.bh_maintenance.specs.Printing.{IsRefusal}
use Rattle.bh_maintenance.specs.Found.{IsNotFound}
use Rattle.bh_maintenance.specs.declared.printed.Printed.{Printed}

pub is_no_host : (refusal : Refusal) → (refusal ≡ NotAHostFile) ⊎ (refusal ≢ NotAHostFile)
is_no_host NotAHostFile = inl refl
is_no_host _ = inr (λ e. cc)

pub keeps_disk : (s : State) → KeepsDisk s s
keeps_disk s = record { clean = λ x. x; intact = λ x. x; limit = refl }

module _ {S : Type 0} (g : Ghosts S) (old new : Held S) (refusal : Refusal) (printed : Printed) (line : IsRefusal refusal printed) where
  pub not_found : (refusal ≡ NotAHostFile → IsStateClean (state g new) → (standing (state g new) ≡ standing (state g old))
      × ((limits : HostLimits) → ¬ IsHostOf limits (standing (state g old)).now))
      → ((packs : Contents) → refusal ≡ NotAHostFile → IsStateClean (state g new) → (limits : HostLimits) → ¬ IsHostOf limits (filled packs (standing (state g old)).now))
      → (refusal ≢ NotAHostFile → (refusal ≡ Unavailable) × (IsStateClean (state g new) → standing (state g new) ≡ taken_back (standing (state g old))))
      → KeepsDisk (state g old) (state g new) → (refusal ≡ NotAHostFile → IsOpen (state g old) → LeavesNothingNew (state g old) (state g new))
      → (IsOpen (state g old) → LeavesOver (state g old) (state g new)) → IsNotFound (state g old) (state g new) printed
  not_found refused without failed keeps quiet leaves = elim (is_no_host refusal) [
    | inl is ↦ record {
      alone = record { refusal = refusal; which = inl is; line = line; follows = keeps; stays = λ clean. inl (refused is clean).0 };
      no_host = λ h clean. (refused h clean).1;
      without = λ h clean packs. without packs h clean;
      quiet = quiet;
      crash = leaves;
    }
    | inr isnt ↦ record {
      alone = record { refusal = refusal; which = inr (failed isnt).0; line = line; follows = keeps; stays = λ clean. inr ((failed isnt).1 clean) };
      no_host = λ h. absurd (isnt h);
      without = λ h. absurd (isnt h);
      quiet = λ h. absurd (isnt h);
      crash = leaves;
    }
  ]
