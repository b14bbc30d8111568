use Rattle.std.proofs.Common.{◌≡◌, ◌≢◌, ◌∙◌, Result, Ok, Err, IfOk, sym, subst}
use Rattle.std.proofs.lemmas.Result.{IfOk-weaker}
use Rattle.sqlite.specs.Held.{state}
use Rattle.bh_base.specs.Layer.{standing}
use Rattle.bh_open.specs.Versions.{schema_of, IsVersionOf}
use Rattle.bh_open.specs.declared.found.HostVersion.{HostVersion}
use Rattle.bh_open.proofs.Steps.{was_inside, settled_when, schema_seen, seen_schema, schema_of_found, finds_of, finds_none}
use Rattle.bh_open.proofs.open.find_host.Goals as goal

always : {X E : Type 0} (r : Result X E) {P : Type 0} → P → IfOk r (λ _. P)
always (Ok x) p = p
always (Err e) p = tt

both : {X E : Type 0} (r : Result X E) (P Q R : X → Type 0) → ((x : X) → P x → Q x → R x) → IfOk r P → IfOk r Q → IfOk r R
both (Ok x) P Q R f p q = f x p q
both (Err e) P Q R f p q = tt

pub returns-then-not-is_autocommit-clause-trouble : goal.returns-then-not-is_autocommit-clause-trouble
returns-then-not-is_autocommit-clause-trouble g c _ _ outside _ = was_inside (state g.S.Store c.args.connection.now) _ c.is_autocommit.ensures.value c.if-not-is_autocommit.true outside

pub read_host-requires : goal.read_host-requires
read_host-requires g c =
    let its : c.schema.result.now ≡ schema_of c.in-Some.version = subst (IsVersionOf c.schema.result.now) c.in-Some.is c.in_ok-version.ensures.is in
    record { schema = schema_seen (state g.S.Store c.args.connection.now) (schema_of c.in-Some.version) (sym c.schema.ensures.value ∙ its) }

pub returns-in-Some-clause-settled : goal.returns-in-Some-clause-settled
returns-in-Some-clause-settled g c = always c.read_host.result (settled_when (state g.S.Store c.args.connection.now) _ c.is_autocommit.ensures.value c.is_autocommit.ensures.settled c.if-not-is_autocommit.false)

pub returns-in-Some-clause-schema : goal.returns-in-Some-clause-schema
returns-in-Some-clause-schema g c =
    let its : c.schema.result.now ≡ schema_of c.in-Some.version = subst (IsVersionOf c.schema.result.now) c.in-Some.is c.in_ok-version.ensures.is in
    let seen = schema_seen (state g.S.Store c.args.connection.now) (schema_of c.in-Some.version) (sym c.schema.ensures.value ∙ its) in
    IfOk-weaker c.read_host.result _ _ (λ found of. schema_of_found c.in-Some.version (standing (state g.S.Store c.args.connection.now)).now found seen of) c.read_host.ensures.of

pub returns-in-Some-clause-finds : goal.returns-in-Some-clause-finds
returns-in-Some-clause-finds g c =
    let its : c.schema.result.now ≡ schema_of c.in-Some.version = subst (IsVersionOf c.schema.result.now) c.in-Some.is c.in_ok-version.ensures.is in
    let seen = schema_seen (state g.S.Store c.args.connection.now) (schema_of c.in-Some.version) (sym c.schema.ensures.value ∙ its) in
    both c.read_host.result _ _ _ (λ found of read clean. finds_of c.in-Some.version (standing (state g.S.Store c.args.connection.now)).now found seen of (read clean)) c.read_host.ensures.of c.read_host.ensures.read

pub returns-in-None-clause-settled : goal.returns-in-None-clause-settled
returns-in-None-clause-settled g c = settled_when (state g.S.Store c.args.connection.now) _ c.is_autocommit.ensures.value c.is_autocommit.ensures.settled c.if-not-is_autocommit.false

pub returns-in-None-clause-finds : goal.returns-in-None-clause-finds
returns-in-None-clause-finds g c clean =
    let other : (v : HostVersion) → c.schema.result.now ≢ schema_of v = subst (IsVersionOf c.schema.result.now) c.in-None.is c.in_ok-version.ensures.is in
    finds_none (standing (state g.S.Store c.args.connection.now)).now (λ v same. other v (c.schema.ensures.value ∙ seen_schema (state g.S.Store c.args.connection.now) (schema_of v) same))
