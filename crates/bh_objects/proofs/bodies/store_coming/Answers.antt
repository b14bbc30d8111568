use Rattle.std.proofs.Common.{Result, Ok, Err, OnOk, IfOk, ap, ◌∙◌}
use Rattle.sha2.specs.Sha256.{sha256}
use Rattle.bh_http.proofs.BodyLemmas.{going_may, if_err}
use Rattle.bh_objects.proofs.bodies.store_coming.Goals as goal

both : {X E : Type 0} (result : Result X E) (P : Type 0) (Q R : X → Type 0) → ((x : X) → P → Q x → R x) → OnOk result P → IfOk result Q → IfOk result R
both (Ok x) P Q R f p q = f x p q
both (Err e) P Q R f p q = tt

pub returns-in_ok-bytes : goal.returns-in_ok-bytes
returns-in_ok-bytes g c =
    let whole = c.in_ok-bytes.ensures in
    record {
      stores = record {
        within = c.store_bytes.ensures.changes.within;
        opens = c.store_bytes.ensures.changes.opens;
        stored = both c.store_bytes.result _ _ _ (λ sum becomes is. (c.in_ok-bytes.bytes.items, whole.gives, whole.whole, is ∙ ap sha256 c.deref.ensures.value, rw c.deref.ensures.value at becomes))
            c.store_bytes.ensures.changes.holds c.store_bytes.ensures.sum;
        stopped = if_err c.store_bytes.result (c.in_ok-bytes.bytes.items, whole.gives, going_may _ whole.whole.going);
      };
    }
