-- What a crash may find after a call, and after several.
use Rattle.std.proofs.Common.{◌≡◌, ◌⊎◌, inl, inr, ℕ, List, [], false, IsTrue, Option, None, Ok, refl, sym, ap, subst, ◌∙◌, true≢false}
use Rattle.std.proofs.lemmas.Bool.{cases_Bool}
use Rattle.sqlite.specs.Order.{Row}
use Rattle.sqlite.specs.Schema.{Schema}
use Rattle.sqlite.specs.Tree.{Trees}
use Rattle.sqlite.specs.Command.{Command}
use Rattle.sqlite.specs.Command.TheVariants.{Begin, Rollback}
use Rattle.sqlite.specs.Effect.{Database}
use Rattle.sqlite.specs.Clock.{timed}
use Rattle.sqlite.specs.Does.{Does, Tally}
use Rattle.sqlite_schema.specs.declared.command.Returning.{Returning}
use Rattle.sqlite.specs.Listing.{understood}
use Rattle.sqlite.specs.State.{State, HasCleanDisk, IsUnchanged, Survives, CommitsBy, CommitsShowing, Shows, mode_of, text_of}
use Rattle.sqlite.proofs.Callers.{IsPlain, never_commits}
use Rattle.sqlite.proofs.StateLemmas.{survives_then, survives_weaker}
use Rattle.bh_rows.specs.Means.{Means, IsOutside, StaysInside, LeavesCommit}
use Rattle.bh_rows.proofs.CallLemmas.{clean_before, compiled_command, compiled_plain}

-- ---- BEGIN and ROLLBACK

turns_nothing : (old : State) (text : List ℕ) (params : Row) (r : Option Returning) (k : Command) (out : Tally × Database) → r ≡ None → (k ≡ Begin) ⊎ (k ≡ Rollback) → Does old.step_limit (mode_of old) params old.now text r k (Ok out) → ⊥
turns_nothing old text params r k out none which h = go which
  where
    bare : Does old.step_limit (mode_of old) params old.now text None k (Ok out)
    bare = subst (λ o. Does old.step_limit (mode_of old) params old.now text o k (Ok out)) none h

    go : (k ≡ Begin) ⊎ (k ≡ Rollback) → ⊥
    go (inl is) = let never = subst (λ c. Does old.step_limit (mode_of old) params old.now text None c (Ok out)) is bare in cc
    go (inr is) = let never = subst (λ c. Does old.step_limit (mode_of old) params old.now text None c (Ok out)) is bare in cc

-- they commit nothing, also outside a transaction
pub turn_leaves : (sql : List ℕ) (old new : State) (command : Command) → Means old.now.schema sql command 0 → (command ≡ Begin) ⊎ (command ≡ Rollback) → Survives old new (CommitsBy sql [] old) → Survives old new (λ _. ⊥)
unfolding CommitsBy
turn_leaves sql old new command means which = survives_weaker old new (CommitsBy sql [] old) (λ _. ⊥) (λ clean db h.
    let is = compiled_command sql [] old new old.now.schema refl command 0 means h.0 h.1 in
    let bare = compiled_plain sql [] old new old.now.schema refl command 0 means h.0 h.1 in
    elim h.2 [
      | inl ends ↦ elim which [
        | inl begin ↦ elim ends.0 [ inl commit ↦ absurd (let e = sym commit ∙ is ∙ begin in cc) | inr release ↦ absurd (let e = sym release.2 ∙ is ∙ begin in cc) ]
        | inr back ↦ elim ends.0 [ inl commit ↦ absurd (let e = sym commit ∙ is ∙ back in cc) | inr release ↦ absurd (let e = sym release.2 ∙ is ∙ back in cc) ]
      ]
      | inr wrote ↦ turns_nothing old (text_of sql h.0) (timed [] h.0.formats h.1.now) h.0.returning h.0.command (wrote.1, wrote.2) bare.0 (elim which [ inl begin ↦ inl (is ∙ begin) | inr back ↦ inr (is ∙ back) ]) wrote.3
    ])

-- ---- SELECT

-- it commits nothing, also outside a transaction
pub asks_leaves : (sql : List ℕ) (params : Row) (old new : State) (schema : Schema) (command : Command) (parameters : ℕ) → Means schema sql command parameters
    → (HasCleanDisk old → IsTrue old.is_open → old.now.schema ≡ schema) → Survives old new (CommitsShowing sql params old) → Survives old new (λ _. old.is_open ≡ false)
asks_leaves sql params old new schema command parameters means ready s = survives_weaker old new (CommitsShowing sql params old) (λ _. old.is_open ≡ false) (λ clean db wrote. elim (cases_Bool old.is_open) [
  | inl up ↦ absurd (never_commits sql params old db (subst (λ c. IsPlain (understood c sql)) (sym (ready (clean_before old new _ s clean) up)) means.plain) wrote)
  | inr down ↦ down
]) s

-- ---- calls inside a transaction

-- after a call that stays in its transaction
pub stays_inside : (a b : State) → StaysInside a b → IsOutside b → IsOutside a
stays_inside a b stays (inl outside) = elim (cases_Bool a.in_transaction) [ inl inside ↦ absurd (true≢false (sym (stays.inside inside) ∙ outside)) | inr out ↦ inl out ]
stays_inside a b stays (inr down) = absurd (true≢false (sym stays.is_open ∙ down))

-- and after one that changes nothing
pub same_inside : (a b : State) → IsUnchanged a b → IsOutside b → IsOutside a
same_inside a b same (inl outside) = inl (sym same.0.mode ∙ outside)
same_inside a b same (inr down) = absurd (true≢false (sym same.0.is_open ∙ down))

-- two calls, of which the first stays in the transaction
pub survives_two : (a b c : State) → (HasCleanDisk b → IsOutside b → IsOutside a) → Survives a b (λ _. IsOutside a) → Survives b c (λ _. IsOutside b) → Survives a c (λ _. IsOutside a)
survives_two a b c stays one two = survives_then a b c (λ _. IsOutside a) (λ _. IsOutside b) (λ _. IsOutside a) (λ clean db out. out) (λ clean db out. stays (clean_before b c _ two clean) out) one two

-- inside a transaction nothing adds to what a crash may find
pub inside_leaves : (old new : State) → IsTrue old.in_transaction → IsTrue old.is_open → Survives old new (λ _. IsOutside old) → Survives old new (λ _. ⊥)
inside_leaves old new inside up = survives_weaker old new (λ _. IsOutside old) (λ _. ⊥) (λ clean db out. elim out [ inl outside ↦ true≢false (sym inside ∙ outside) | inr down ↦ true≢false (sym up ∙ down) ])

-- ---- while the connection is open

-- what was committed stays, so a crash finds nothing new
pub leaves_kept : (old new : State) → LeavesCommit old → LeavesCommit new → IsTrue old.is_open → IsTrue new.is_open → new.committed ≡ old.committed → (db : Trees) → new.may_leave db → old.may_leave db
leaves_kept old new before after was up kept db h = subst old.may_leave (sym (after.only up db h ∙ ap (λ (d : Database). d.trees) kept)) (before.stays was)

-- after a COMMIT a crash finds what was committed
pub leaves_committed : (old new : State) → LeavesCommit new → Shows old new old.now old.now false → (db : Trees) → new.may_leave db → db ≡ old.now.trees
leaves_committed old new after shows db h = after.only shows.is_open db h ∙ ap (λ (d : Database). d.trees) shows.committed_is
