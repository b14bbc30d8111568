use Rattle.std.proofs.Common.{◌≡◌, Option, Some, IfSome, sym, ap, subst, ◌∙◌}
use Rattle.sqlite.specs.Files.{over_files}
use Rattle.bh_base.specs.Connections.{IsIntact}
use Rattle.bh_cache.specs.Kept.{KeptBlocks}
use Rattle.bh_kept.specs.Copies.{IsReopened}
use Rattle.bh_kept.proofs.Held.{if_some}
use Rattle.bh_kept.proofs.Keeping.{tuned_kept}
use Rattle.bh_kept.proofs.Shown.{limits_stay, limits_after, intact_kept, left_kept, same_kept, rests_kept, copies_kept}
use Rattle.bh_kept.proofs.storage.KeptHostBackUp.back_up.Goals as goal

-- what is said of a value that is there
at_some : {A : Type 0} (P : A → Type 0) {o : Option A} {x : A} → o ≡ Some x → IfSome o P → P x
at_some P is said = subst (λ o. IfSome o P) is said

pub returns-in_err-copy-clause-limits : goal.returns-in_err-copy-clause-limits
returns-in_err-copy-clause-limits g c =
    let host = c.in_ok-host.field-0.host in
    let facts = c.in_ok-host.field-0.memo in
    let is : c.args.self.now.storage ≡ Some c.in_ok-host.field-0 = sym c.take.ensures.value ∙ c.in_ok-host.was in
    rw c.take.ensures.after (limits_stay g.P.Shelf host.digester facts host.cache host.limits c.args.self.now.limits host.connection.database host.connection.packs c.args.self.now.storage is)

pub returns-clause-intact : goal.returns-clause-intact
returns-clause-intact g c intact =
    let host = c.in_ok-host.field-0.host in
    let facts = c.in_ok-host.field-0.memo in
    let new = c.in_ok-copy.connection in
    let is : c.args.self.now.storage ≡ Some c.in_ok-host.field-0 = sym c.take.ensures.value ∙ c.in_ok-host.was in
    let back = subst (λ o. IfSome o (λ it. IsIntact over_files g.P.Shelf it.1 → IsReopened g.P.Shelf host.connection it.1)) c.in_ok-copy.was c.copy_host.ensures.again intact in
    intact_kept g.P.Shelf host.digester facts host.cache host.limits c.args.self.now.limits host.connection.database host.connection.packs c.args.self.now.storage is c.tuning.result new.database new.packs back.database back.packs

pub returns-clause-stays : goal.returns-clause-stays
returns-clause-stays g c =
    let host = c.in_ok-host.field-0.host in
    let facts = c.in_ok-host.field-0.memo in
    let new = c.in_ok-copy.connection in
    let is : c.args.self.now.storage ≡ Some c.in_ok-host.field-0 = sym c.take.ensures.value ∙ c.in_ok-host.was in
    let found = subst (λ o. IfSome o (λ it. IsIntact over_files g.P.Shelf it.1 → IsReopened g.P.Shelf host.connection it.1)) c.in_ok-copy.was c.copy_host.ensures.again in
    record {
      same = λ intact up.
          let back = found intact in
          rw (c.new-2.ensures, c.new.ensures)
          (same_kept g.P.Shelf host.digester facts host.cache host.limits c.args.self.now.limits host.connection.database host.connection.packs c.args.self.now.storage is c.tuning.result new.database new.packs back.database back.packs
          g.G.Digester.digest_of c.requires);
      survives = λ intact.
          let back = found intact in
          left_kept g.P.Shelf host.digester facts host.cache host.limits c.args.self.now.limits host.connection.database host.connection.packs c.args.self.now.storage is c.tuning.result new.database new.packs back.database back.packs;
    }

pub returns-clause-ready : goal.returns-clause-ready
returns-clause-ready g c clean =
    let host = c.in_ok-host.field-0.host in
    let facts = c.in_ok-host.field-0.memo in
    let new = c.in_ok-copy.connection in
    let is : c.args.self.now.storage ≡ Some c.in_ok-host.field-0 = sym c.take.ensures.value ∙ c.in_ok-host.was in
    let back = subst (λ o. IfSome o (λ it. IsIntact over_files g.P.Shelf it.1 → IsReopened g.P.Shelf host.connection it.1)) c.in_ok-copy.was c.copy_host.ensures.again clean.0 in
    rw (c.new-2.ensures, c.new.ensures)
    (rests_kept g.P.Shelf host.digester facts host.cache host.limits c.args.self.now.limits host.connection.database host.connection.packs c.args.self.now.storage is c.tuning.result new.database new.packs back.database back.packs
    g.G.Digester.digest_of c.requires)

pub returns-clause-limits : goal.returns-clause-limits
returns-clause-limits g c =
    let host = c.in_ok-host.field-0.host in
    let facts = c.in_ok-host.field-0.memo in
    let new = c.in_ok-copy.connection in
    let is : c.args.self.now.storage ≡ Some c.in_ok-host.field-0 = sym c.take.ensures.value ∙ c.in_ok-host.was in
    rw (c.new-2.ensures, c.new.ensures)
    (limits_after g.P.Shelf host.digester facts host.cache host.limits c.args.self.now.limits host.connection.database host.connection.packs c.args.self.now.storage is c.tuning.result new.database new.packs)

pub returns-clause-copied : goal.returns-clause-copied
returns-clause-copied g c =
    let host = c.in_ok-host.field-0.host in
    let facts = c.in_ok-host.field-0.memo in
    let new = c.in_ok-copy.connection in
    let is : c.args.self.now.storage ≡ Some c.in_ok-host.field-0 = sym c.take.ensures.value ∙ c.in_ok-host.was in
    let found = subst (λ o. IfSome o (λ it. IsIntact over_files g.P.Shelf it.1 → IsReopened g.P.Shelf host.connection it.1)) c.in_ok-copy.was c.copy_host.ensures.again in
    let copies = at_some _ c.in_ok-copy.was c.copy_host.ensures.copied in
    if_some c.in_ok-copy.copy
    (λ copy made intact.
    let back = found intact in
    let it = made intact in
    copies_kept g.P.Shelf host.digester facts host.cache host.limits c.args.self.now.limits host.connection.database host.connection.packs c.args.self.now.storage is c.tuning.result new.database new.packs back.database back.packs
    g.G.Digester.digest_of c.requires _ g.P.Copy.Shelf copy.file copy.packs it.database it.has_all)
    copies

pub returns-clause-tuned : goal.returns-clause-tuned
returns-clause-tuned g c =
    let is : c.args.self.now.storage ≡ Some c.in_ok-host.field-0 = sym c.take.ensures.value ∙ c.in_ok-host.was in
    tuned_kept c.args.self.now.storage c.in_ok-host.field-0 c.new.result.tuning is (ap (λ (k : KeptBlocks). k.tuning) c.new.ensures ∙ c.tuning.ensures)
