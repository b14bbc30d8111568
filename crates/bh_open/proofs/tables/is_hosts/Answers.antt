use Rattle.std.proofs.Common.{◌≡◌, ◌≢◌, refl, subst}
use Rattle.bh_open.specs.Versions.{schema_of, IsVersionOf}
use Rattle.bh_open.specs.declared.found.HostVersion.{HostVersion}
use Rattle.bh_open.proofs.Steps.{any_schema, no_schema_of}
use Rattle.bh_open.proofs.tables.is_hosts.Goals as goal

pub returns-in-Some-clause-is : goal.returns-in-Some-clause-is
returns-in-Some-clause-is c =
    let its : c.args.schema.now ≡ schema_of c.in-Some._version = subst (IsVersionOf c.args.schema.now) c.in-Some.is c.in_ok-_version.ensures.is in
    (λ _. any_schema c.in-Some._version c.args.schema.now its, λ _. refl)

pub returns-in-None-clause-is : goal.returns-in-None-clause-is
returns-in-None-clause-is c =
    let other : (v : HostVersion) → c.args.schema.now ≢ schema_of v = subst (IsVersionOf c.args.schema.now) c.in-None.is c.in_ok-_version.ensures.is in
    (λ yes. absurd (cc), λ any. absurd (no_schema_of c.args.schema.now other any))
