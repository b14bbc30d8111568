-- A question to a host's connection, in the words of the host's storage.
use Rattle.std.proofs.Common.{◌≡◌, Bool, false, true, [], Result, Ok, Err, IfOk, sym, ap, ◌∙◌, subst, subst₂}
use Rattle.sqlite.specs.State.{State}
use Rattle.bh_types.specs.Limits.{HostLimits}
use Rattle.bh_model.specs.State.{Octets}
use Rattle.bh_tables.specs.Typed.{Tables}
use Rattle.bh_view.specs.Bodies.{AreBounded, IsSoundHost}
use Rattle.bh_view.specs.View.{view}
use Rattle.bh_storage.specs.Calls.{Unless}
use Rattle.bh_storage.specs.Calls as calls
use Rattle.bh_storage.specs.Plans.{IsMeasured}
use Rattle.bh_storage.specs.declared.answer.FoundVersion.{FoundVersion}
use Rattle.bh_storage.specs.declared.error.StepError.{StepError}
use Rattle.bh_storage.specs.declared.error.StepError.TheVariants.{Refused, Failed}
use Rattle.bh_storage.specs.declared.error.Trouble.{Trouble}
use Rattle.bh_cache.specs.Kept.{KeptBlocks, Agrees}
use Rattle.bh_memo.specs.Facts.{has_no_rule}
use Rattle.bh_memo.proofs.Rules.{ruleless}
use Rattle.bh_base.specs.Layer.{IsStateClean}
use Rattle.bh_schema.specs.Rows.{listed_rules}
use Rattle.bh_schema.specs.Storage.{seen_in, beside}
use Rattle.bh_schema.specs.Working.{tables_at, StillWorking}
use Rattle.bh_schema.proofs.Storing.{AreBoth, both, shows_in, plain, under}
use Rattle.bh_dispatch.proofs.Storing.{IsAtWork, working_seen, bounded_seen, told}

module _ (digest : Octets → Octets) (kept : KeptBlocks) (l : HostLimits) (old new : State) (was : AreBoth new → calls.IsWorking (IsSoundHost digest) (beside kept (seen_in l old))) where
  -- the tables that were shown
  pub shown_first : AreBoth new → (beside kept (seen_in l old)).now ≡ tables_at old
  shown_first clean = ap (λ (x : calls.Seen). x.now) (plain _ _ (was clean)) ∙ shows_in l old (under _ _ (was clean))

  said : (P : Tables → Tables → Type 0) → AreBoth new → IsAtWork digest l new → Agrees kept (tables_at new).blocks → P (tables_at old) (tables_at new) → P (beside kept (seen_in l old)).now (beside kept (seen_in l new)).now
  said P clean works agrees h = told digest kept kept l old new was P clean works agrees (subst₂ P (sym (shows_in l old (under _ _ (was clean)))) (sym (shows_in l new works)) h)

  module _ {X E : Type 0} where
    pub same_works : (result : Result X (StepError E)) → Unless result (IsStateClean new → StillWorking old new) → Unless result (IsStateClean new → tables_at new ≡ tables_at old) → Unless result (AreBoth new → IsAtWork digest l new)
    same_works (Ok x) still same = λ clean. working_seen digest l old new (under _ _ (was clean)) (still (both clean) digest) (subst AreBounded (sym (same (both clean))) (bounded_seen digest l old (under _ _ (was clean))))
    same_works (Err (Refused r)) still same = λ clean. working_seen digest l old new (under _ _ (was clean)) (still (both clean) digest) (subst AreBounded (sym (same (both clean))) (bounded_seen digest l old (under _ _ (was clean))))
    same_works (Err (Failed trouble)) still same = tt

    pub same_agrees : (result : Result X (StepError E)) → (IsStateClean new → Agrees kept (tables_at old).blocks) → Unless result (IsStateClean new → tables_at new ≡ tables_at old) → Unless result (IsStateClean new → Agrees kept (tables_at new).blocks)
    same_agrees (Ok x) agrees same = λ clean. subst (λ (t : Tables). Agrees kept t.blocks) (sym (same clean)) (agrees clean)
    same_agrees (Err (Refused r)) agrees same = λ clean. subst (λ (t : Tables). Agrees kept t.blocks) (sym (same clean)) (agrees clean)
    same_agrees (Err (Failed trouble)) agrees same = tt

    pub said_done : (P : Tables → Tables → Type 0) (result : Result X (StepError E)) → Unless result (AreBoth new → IsAtWork digest l new) → Unless result (IsStateClean new → Agrees kept (tables_at new).blocks) → Unless result (IsStateClean new → P (tables_at old) (tables_at new))
        → Unless result (AreBoth new → P (beside kept (seen_in l old)).now (beside kept (seen_in l new)).now)
    said_done P (Ok x) works agrees h = λ clean. said P clean (works clean) (agrees (both clean)) (h (both clean))
    said_done P (Err (Refused r)) works agrees h = λ clean. said P clean (works clean) (agrees (both clean)) (h (both clean))
    said_done P (Err (Failed trouble)) works agrees h = tt

    -- of trouble nothing is said
    pub said_beside : (P : Result X (StepError E) → Tables → Tables → Type 0) → ((trouble : Trouble) (a b : Tables) → P (Err (Failed trouble)) a b) → (result : Result X (StepError E)) → Unless result (AreBoth new → IsAtWork digest l new)
        → Unless result (IsStateClean new → Agrees kept (tables_at new).blocks) → (IsStateClean new → P result (tables_at old) (tables_at new)) → AreBoth new → P result (beside kept (seen_in l old)).now (beside kept (seen_in l new)).now
    said_beside P none (Ok x) works agrees h clean = said (P (Ok x)) clean (works clean) (agrees (both clean)) (h (both clean))
    said_beside P none (Err (Refused r)) works agrees h clean = said (P (Err (Refused r))) clean (works clean) (agrees (both clean)) (h (both clean))
    said_beside P none (Err (Failed trouble)) works agrees h clean = none trouble _ _

  pub measured_beside : {E : Type 0} (result : Result FoundVersion (StepError E)) → Unless result (AreBoth new → IsAtWork digest l new) → Unless result (IsStateClean new → Agrees kept (tables_at new).blocks)
      → IfOk result (λ found. IsStateClean new → IsMeasured (tables_at new) found) → IfOk result (λ found. AreBoth new → IsMeasured (beside kept (seen_in l new)).now found)
  measured_beside (Ok found) works agrees h = λ clean. said (λ a b. IsMeasured b found) clean (works clean) (agrees (both clean)) (h (both clean))
  measured_beside (Err e) works agrees h = tt

  -- where no rule was listed, there is none
  pub ruled_beside : {E : Type 0} (t : Octets) (result : Result Bool E) → IfOk result (λ ruled. IsStateClean new → ruled ≡ false → listed_rules t (tables_at old) ≡ [])
      → IfOk result (λ ruled. AreBoth new → ruled ≡ false → has_no_rule (view (beside kept (seen_in l old)).now t) ≡ true)
  ruled_beside t (Ok ruled) h = λ clean none. ap (λ (x : Tables). has_no_rule (view x t)) (shown_first clean) ∙ ruleless (tables_at old) t (h (both clean) none)
  ruled_beside t (Err e) h = tt
