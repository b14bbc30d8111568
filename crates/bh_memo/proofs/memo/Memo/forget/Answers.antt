use Rattle.std.proofs.Common.{rules, subst, Contains}
use Rattle.std.proofs.lemmas.Fn.{filter_same}
use Rattle.bh_memo.specs.declared.facts.KnownBucket.{KnownBucket}
use Rattle.bh_memo.specs.declared.facts.KnownSecret.{KnownSecret}
use Rattle.bh_memo.proofs.Lists.{is_other, stays}
use Rattle.bh_memo.proofs.memo.Memo.forget.Goals as goal

pub returns-clause-quiet : goal.returns-clause-quiet
returns-clause-quiet c = rw (← c.self.view_is) (λ t there. stays (λ x. x) c.args.tenant.now c.self.inside.quiet.items t
    (subst (λ l. Contains l t) (filter_same _ (is_other (λ x. x) c.args.tenant.now) _ (λ x b f r. search rules) _ c.retain.new.self.items c.retain.ensures.filtered) there))

pub returns-clause-buckets : goal.returns-clause-buckets
returns-clause-buckets c = rw (← c.self.view_is) (λ b there. stays (λ (x : KnownBucket). x.tenant) c.args.tenant.now c.self.inside.buckets.items b
    (subst (λ l. Contains l b) (filter_same _ (is_other (λ (x : KnownBucket). x.tenant) c.args.tenant.now) _ (λ x b f r. search rules) _ c.retain-2.new.self.items c.retain-2.ensures.filtered) there))

pub returns-clause-secrets : goal.returns-clause-secrets
returns-clause-secrets c = rw (← c.self.view_is) (λ k there. stays (λ (x : KnownSecret). x.key.tenant) c.args.tenant.now c.self.inside.secrets.items k
    (subst (λ l. Contains l k) (filter_same _ (is_other (λ (x : KnownSecret). x.key.tenant) c.args.tenant.now) _ (λ x b f r. search rules) _ c.retain-3.new.self.items c.retain-3.ensures.filtered) there))
