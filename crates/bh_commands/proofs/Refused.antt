-- Where no host was made, what stood stands.
use Rattle.std.proofs.Common.{◌≡◌, ◌≢◌, refl, ap, sym, subst, inl, inr}
use Rattle.sqlite_trees.specs.declared.store.Store.{Ghosts}
use Rattle.sqlite.specs.Held.{Held, state}
use Rattle.sqlite.specs.State.{State}
use Rattle.bh_types.specs.declared.refusal.Refusal.{Refusal}
use Rattle.bh_types.specs.declared.refusal.Refusal.TheVariants.{NotAHostFile, Unavailable}
use Rattle.bh_base.specs.Layer.{standing, IsStateClean, KeepsDisk, taken_back}
use Rattle.bh_create.specs.Creation.{IsEmpty}
use Rattle.bh_maintenance.proofs.Refused.{is_no_host, keeps_disk}
use Rattle.bh_maintenance.specs.Printing.{IsRefusal}
use Rattle.bh_maintenance.specs.declared.printed.Printed.{Printed}
use Rattle.bh_commands.specs.Subcommands.{IsNotMade}

module _ {S : Type 0} (g : Ghosts S) (old new : Held S) (refusal : Refusal) (printed : Printed) (line : IsRefusal refusal printed) where
  pub not_made : (refusal ≡ NotAHostFile → (new ≡ old) × ¬ IsEmpty (state g old))
      → (refusal ≢ NotAHostFile → (refusal ≡ Unavailable) × IsEmpty (state g old) × KeepsDisk (state g old) (state g new)
      × (IsStateClean (state g new) → standing (state g new) ≡ taken_back (standing (state g old))))
      → IsNotMade (state g old) (state g new) printed
  not_made refused failed = elim (is_no_host refusal) [
    | inl is ↦ record {
      alone = record {
        refusal = refusal;
        which = inl is;
        line = line;
        follows = subst (λ (c : Held S). KeepsDisk (state g old) (state g c)) (sym (refused is).0) (keeps_disk (state g old));
        stays = λ clean. inl (ap (λ (c : Held S). standing (state g c)) (refused is).0);
      };
      not_empty = λ h. (refused h).1;
    }
    | inr isnt ↦ record {
      alone = record {
        refusal = refusal;
        which = inr (failed isnt).0;
        line = line;
        follows = (failed isnt).2;
        stays = λ clean. inr ((failed isnt).3 clean);
      };
      not_empty = λ h. absurd (isnt h);
    }
  ]

-- nor was anything done
pub untouched : (s : State) (printed : Printed) → IsRefusal Unavailable printed → IsNotMade s s printed
untouched s printed line = record {
  alone = record { refusal = Unavailable; which = inr refl; line = line; follows = keeps_disk s; stays = λ clean. inl refl };
  not_empty = λ h. absurd (cc);
}
