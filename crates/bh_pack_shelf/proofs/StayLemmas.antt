-- A shelf that stays as it was does so again.
use Rattle.std.proofs.Common.{◌∙◌, refl, arith}
use Rattle.bh_shelf.specs.declared.shelf.Shelf.{Ghosts}
use Rattle.bh_pack_shelf.specs.Copied.{Stays}

module _ {P : Type 0} (g : Ghosts P) where
  pub stays_same : (it : P) → Stays g it it
  stays_same it = record {
    seen = λ clean. refl;
    ends = λ pack. omega arith;
    kept = λ clean. refl;
    stood = λ clean pack offset size bytes has. has;
    clean = λ clean. clean;
    holds = λ pack. refl;
  }

  pub stays_then : (a b c : P) → Stays g a b → Stays g b c → Stays g a c
  stays_then a b c first second = record {
    seen = λ clean. second.seen clean ∙ first.seen (second.clean clean);
    ends = λ pack. let one = first.ends pack in let two = second.ends pack in omega (arith, one, two);
    kept = λ clean. second.kept clean ∙ first.kept (second.clean clean);
    stood = λ clean pack offset size bytes has. second.stood clean pack offset size bytes (first.stood (second.clean clean) pack offset size bytes has);
    clean = λ clean. first.clean (second.clean clean);
    holds = λ pack. second.holds pack ∙ first.holds pack;
  }
