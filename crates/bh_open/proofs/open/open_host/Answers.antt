use Rattle.std.proofs.Common.{IfOk, IfErr, ◌≡◌, refl, subst}
use Rattle.sqlite.specs.Held.{state}
use Rattle.bh_base.specs.Layer.{standing, IsStateClean}
use Rattle.bh_migration.specs.Listing.{Lists}
use Rattle.bh_open.specs.Opening.{IsNoHost, FindsHost, FindsIn, Opens}
use Rattle.bh_open.specs.Versions.{schema_of}
use Rattle.bh_open.proofs.Steps.{shows, host_of, filled_host_of, no_filled_host, rests, tells, names, any_schema, legible, packed_legible}
use Rattle.bh_open.proofs.open.open_host.Goals as goal

pub returns-in-Ok-found-clause-schema : goal.returns-in-Ok-found-clause-schema
returns-in-Ok-found-clause-schema g c =
    let old = standing (state g.S.Store c.args.connection) in
    any_schema c.in-Ok-found.field-0.host.version old.now.schema (subst (λ r. IfOk r (λ b. old.now.schema ≡ schema_of b.host.version)) c.in-Ok-found.is c.in-Ok.ensures.schema)

pub returns-in-Ok-found-clause-same : goal.returns-in-Ok-found-clause-same
returns-in-Ok-found-clause-same g c clean =
    let old = state g.S.Store c.args.connection in
    let new = state g.S.Store c.find_and_bring.new.connection in
    let opens : IsStateClean new → Opens c.in-Ok-found.field-0.host.version (standing old) (standing new) = subst (λ r. IfOk r (λ b. IsStateClean new → Opens b.host.version (standing old) (standing new))) c.in-Ok-found.is c.in-Ok.ensures.opens in
    let told : IsStateClean new → FindsHost (standing old).now c.in-Ok-found.field-0.host = subst (λ r. IsStateClean new → FindsIn (standing old).now r) c.in-Ok-found.is c.in-Ok.ensures.finds in
    (opens clean).same

pub returns-in-Ok-found-clause-brought : goal.returns-in-Ok-found-clause-brought
returns-in-Ok-found-clause-brought g c clean =
    let old = state g.S.Store c.args.connection in
    let new = state g.S.Store c.find_and_bring.new.connection in
    let opens : IsStateClean new → Opens c.in-Ok-found.field-0.host.version (standing old) (standing new) = subst (λ r. IfOk r (λ b. IsStateClean new → Opens b.host.version (standing old) (standing new))) c.in-Ok-found.is c.in-Ok.ensures.opens in
    let told : IsStateClean new → FindsHost (standing old).now c.in-Ok-found.field-0.host = subst (λ r. IsStateClean new → FindsIn (standing old).now r) c.in-Ok-found.is c.in-Ok.ensures.finds in
    (opens clean).brought

pub returns-in-Ok-found-clause-shows : goal.returns-in-Ok-found-clause-shows
returns-in-Ok-found-clause-shows g c packs =
    let old = state g.S.Store c.args.connection in
    let new = state g.S.Store c.find_and_bring.new.connection in
    let opens : IsStateClean new → Opens c.in-Ok-found.field-0.host.version (standing old) (standing new) = subst (λ r. IfOk r (λ b. IsStateClean new → Opens b.host.version (standing old) (standing new))) c.in-Ok-found.is c.in-Ok.ensures.opens in
    let told : IsStateClean new → FindsHost (standing old).now c.in-Ok-found.field-0.host = subst (λ r. IsStateClean new → FindsIn (standing old).now r) c.in-Ok-found.is c.in-Ok.ensures.finds in
    shows old new c.in-Ok-found.field-0.host opens told packs

pub returns-in-Ok-found-clause-listed : goal.returns-in-Ok-found-clause-listed
returns-in-Ok-found-clause-listed g c =
    let new = state g.S.Store c.find_and_bring.new.connection in
    subst (λ r. IfOk r (λ b. IsStateClean new → Lists (standing new).now b.listed.items)) c.in-Ok-found.is c.in-Ok.ensures.listed

pub returns-in-Ok-found-clause-settled : goal.returns-in-Ok-found-clause-settled
returns-in-Ok-found-clause-settled g c clean =
    let old = state g.S.Store c.args.connection in
    let new = state g.S.Store c.find_and_bring.new.connection in
    let opens : IsStateClean new → Opens c.in-Ok-found.field-0.host.version (standing old) (standing new) = subst (λ r. IfOk r (λ b. IsStateClean new → Opens b.host.version (standing old) (standing new))) c.in-Ok-found.is c.in-Ok.ensures.opens in
    ((opens clean).outside, (opens clean).committed)

pub returns-in-Ok-found-clause-opened : goal.returns-in-Ok-found-clause-opened
returns-in-Ok-found-clause-opened g c clean any =
    let old = state g.S.Store c.args.connection in
    let new = state g.S.Store c.find_and_bring.new.connection in
    let opens : IsStateClean new → Opens c.in-Ok-found.field-0.host.version (standing old) (standing new) = subst (λ r. IfOk r (λ b. IsStateClean new → Opens b.host.version (standing old) (standing new))) c.in-Ok-found.is c.in-Ok.ensures.opens in
    let told : IsStateClean new → FindsHost (standing old).now c.in-Ok-found.field-0.host = subst (λ r. IsStateClean new → FindsIn (standing old).now r) c.in-Ok-found.is c.in-Ok.ensures.finds in
    host_of (standing old) (standing new) c.in-Ok-found.field-0.host (opens clean) (told clean) (standing old).now refl refl any

pub returns-in-Ok-found-clause-beside : goal.returns-in-Ok-found-clause-beside
returns-in-Ok-found-clause-beside g c packs clean =
    let old = state g.S.Store c.args.connection in
    let new = state g.S.Store c.find_and_bring.new.connection in
    let opens : IsStateClean new → Opens c.in-Ok-found.field-0.host.version (standing old) (standing new) = subst (λ r. IfOk r (λ b. IsStateClean new → Opens b.host.version (standing old) (standing new))) c.in-Ok-found.is c.in-Ok.ensures.opens in
    let told : IsStateClean new → FindsHost (standing old).now c.in-Ok-found.field-0.host = subst (λ r. IsStateClean new → FindsIn (standing old).now r) c.in-Ok-found.is c.in-Ok.ensures.finds in
    filled_host_of (standing old) (standing new) packs c.in-Ok-found.field-0.host (opens clean) (told clean)

pub returns-in-Ok-found-clause-rest : goal.returns-in-Ok-found-clause-rest
returns-in-Ok-found-clause-rest g c packs =
    let old = state g.S.Store c.args.connection in
    let new = state g.S.Store c.find_and_bring.new.connection in
    let opens : IsStateClean new → Opens c.in-Ok-found.field-0.host.version (standing old) (standing new) = subst (λ r. IfOk r (λ b. IsStateClean new → Opens b.host.version (standing old) (standing new))) c.in-Ok-found.is c.in-Ok.ensures.opens in
    let told : IsStateClean new → FindsHost (standing old).now c.in-Ok-found.field-0.host = subst (λ r. IsStateClean new → FindsIn (standing old).now r) c.in-Ok-found.is c.in-Ok.ensures.finds in
    rests old new c.in-Ok-found.field-0.host opens told packs

pub returns-in-Ok-found-clause-latest : goal.returns-in-Ok-found-clause-latest
returns-in-Ok-found-clause-latest g c packs =
    let old = state g.S.Store c.args.connection in
    let new = state g.S.Store c.find_and_bring.new.connection in
    let opens : IsStateClean new → Opens c.in-Ok-found.field-0.host.version (standing old) (standing new) = subst (λ r. IfOk r (λ b. IsStateClean new → Opens b.host.version (standing old) (standing new))) c.in-Ok-found.is c.in-Ok.ensures.opens in
    let told : IsStateClean new → FindsHost (standing old).now c.in-Ok-found.field-0.host = subst (λ r. IsStateClean new → FindsIn (standing old).now r) c.in-Ok-found.is c.in-Ok.ensures.finds in
    tells old new c.in-Ok-found.field-0.host opens told packs

pub returns-in-Ok-found-clause-named : goal.returns-in-Ok-found-clause-named
returns-in-Ok-found-clause-named g c packs =
    let old = state g.S.Store c.args.connection in
    let new = state g.S.Store c.find_and_bring.new.connection in
    let opens : IsStateClean new → Opens c.in-Ok-found.field-0.host.version (standing old) (standing new) = subst (λ r. IfOk r (λ b. IsStateClean new → Opens b.host.version (standing old) (standing new))) c.in-Ok-found.is c.in-Ok.ensures.opens in
    let told : IsStateClean new → FindsHost (standing old).now c.in-Ok-found.field-0.host = subst (λ r. IsStateClean new → FindsIn (standing old).now r) c.in-Ok-found.is c.in-Ok.ensures.finds in
    names old new c.in-Ok-found.field-0.host opens told packs

pub returns-in-Err-found-clause-refused : goal.returns-in-Err-found-clause-refused
returns-in-Err-found-clause-refused g c _ clean =
    let old = state g.S.Store c.args.connection in
    let new = state g.S.Store c.find_and_bring.new.connection in
    let none : IsNoHost (standing old).now = subst (λ r. IsStateClean new → FindsIn (standing old).now r) c.in-Err-found.is c.in-Ok.ensures.finds clean in (
      subst (λ r. IfErr r (λ why. IsStateClean new → standing new ≡ standing old)) c.in-Err-found.is c.in-Ok.ensures.same clean,
      none (standing old).now refl refl,
    )

pub returns-in-Err-found-clause-without : goal.returns-in-Err-found-clause-without
returns-in-Err-found-clause-without g c packs _ clean =
    let old = state g.S.Store c.args.connection in
    let new = state g.S.Store c.find_and_bring.new.connection in
    let none : IsNoHost (standing old).now = subst (λ r. IsStateClean new → FindsIn (standing old).now r) c.in-Err-found.is c.in-Ok.ensures.finds clean in
    no_filled_host packs (standing old).now none

pub returns-in-Err-clause-trouble : goal.returns-in-Err-clause-trouble
returns-in-Err-clause-trouble g c intact unlimited outside any = c.in-Err.ensures.trouble intact unlimited outside (legible (standing (state g.S.Store c.args.connection)).now any)

pub returns-in-Err-clause-packed : goal.returns-in-Err-clause-packed
returns-in-Err-clause-packed g c packs intact unlimited outside host = c.in-Err.ensures.trouble intact unlimited outside (packed_legible (standing (state g.S.Store c.args.connection)).now packs host)
