-- What a tested read of a file tells: the bytes came, and they pass the test against a digest or fail it.
use Rattle.std.proofs.Common.{◌≡◌, ◌≢◌, ◌⊎◌, ℕ, ◌+◌, ◌<◌, ◌≤◌, ◌&&◌, Bool, true, false, not, List, ◌∷◌, length, take, drop, IsTrue, sym, refl, ◌∙◌, ap, inl, inr, arith, eq-eqb, ne_eqb}
use Rattle.std.proofs.lemmas.Bool.{cases_Bool}
use Rattle.sqlite_disk.specs.Digest.{digest, Collide}
use Rattle.sqlite_disk.specs.Disk.{MoreFaults}
use Rattle.sqlite_disk.specs.Events.{Model, agrees, after_call}
use Rattle.sqlite_disk.proofs.EventLemmas.{same_if_agrees, collide_if_passed}

twice_not : (a b : Bool) → IsTrue (a && not (not b)) → IsTrue b
twice_not true true h = refl
twice_not true false h = absurd (cc)
twice_not false b h = absurd (cc)

module _ (key want at : ℕ) (bytes : List ℕ) (m : Model) (some : 0 < length bytes) where
  -- the model after the read
  abbrev after : Model
  after = after_call 6 at (length bytes) true (key ∷ want ∷ bytes) m

  -- who passed and leaves the file honest was right
  pub right_if_honest : digest key bytes ≡ want → IsTrue after.is_honest → IsTrue (agrees m.seen at bytes)
  right_if_honest passed = rw (eq-eqb (length bytes) (length bytes) refl, ne_eqb (length bytes) 0 (omega arith), eq-eqb _ _ passed) λ h. twice_not m.is_honest _ h

  -- who passed leaves an honest file honest, or collides with what was written
  pub passed : digest key bytes ≡ want → want ≡ digest key (take (length bytes) (drop at m.seen)) → at + length bytes ≤ length m.seen → IsTrue m.is_honest
      → IsTrue after.is_honest ⊎ Collide key bytes (take (length bytes) (drop at m.seen))
  passed same right within honest = elim (cases_Bool (agrees m.seen at bytes)) [
    | inl agree ↦ inl (rw (eq-eqb (length bytes) (length bytes) refl, ne_eqb (length bytes) 0 (omega arith), eq-eqb _ _ same, agree, honest) refl)
    | inr lied ↦ inr (collide_if_passed key m.seen at bytes within (same ∙ right) lied)
  ]

  -- who fails against the right digest lied, and that is a fault
  pub failed : digest key bytes ≢ want → (IsTrue m.is_honest → want ≡ digest key (take (length bytes) (drop at m.seen)))
      → (IsTrue m.is_honest × (at + length bytes ≤ length m.seen) → MoreFaults m.faults after.faults) × (m.faults ≤ after.faults)
  failed other right = rw (eq-eqb (length bytes) (length bytes) refl, ne_eqb (length bytes) 0 (omega arith), ne_eqb _ _ other) (elim (cases_Bool (agrees m.seen at bytes)) [
    | inl agree ↦ rw agree (λ both. absurd (other (ap (digest key) (sym (same_if_agrees m.seen at bytes agree)) ∙ sym (right both.0))), omega arith)
    | inr lied ↦ rw lied (λ both. omega arith, omega arith)
  ])
