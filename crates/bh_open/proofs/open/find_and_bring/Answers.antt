use Rattle.std.proofs.Common.{◌≡◌, IfOk, ap, sym, subst, ◌∙◌}
use Rattle.sqlite.specs.Held.{state}
use Rattle.bh_rows.specs.Means.{is_trouble}
use Rattle.bh_base.specs.Layer.{Standing, standing}
use Rattle.bh_schema.proofs.Finds.{handed_on}
use Rattle.bh_open.specs.Opening.{Finds, IsTypedFor}
use Rattle.bh_open.specs.Versions.{schema_of}
use Rattle.bh_open.proofs.Steps.{over_then}
use Rattle.bh_open.proofs.open.find_and_bring.Goals as goal

pub returns-in_err-listed-in-Ok-clause-crash : goal.returns-in_err-listed-in-Ok-clause-crash
returns-in_err-listed-in-Ok-clause-crash g c up =
    over_then (state g.S.Store c.args.connection.now) (state g.S.Store c.look.new.connection) (state g.S.Store c.bring.new.connection) (c.look.ensures.survives up) c.in_ok-host.ensures.same c.bring.ensures.follows c.bring.ensures.crash up

pub returns-in_err-listed-in-Ok-clause-trouble : goal.returns-in_err-listed-in-Ok-clause-trouble
returns-in_err-listed-in-Ok-clause-trouble g c = handed_on _ _ _ c.from_residual-in_err-listed-in-Ok.ensures (λ e same intact unlimited outside legible.
    ap is_trouble same ∙ c.in_err-listed-in-Ok.ensures.trouble intact (c.look.ensures.follows.limit ∙ unlimited) (λ clean.
    subst (λ (x : Standing). IsTypedFor c.in-Ok.host.version x.now) (sym (c.in_ok-host.ensures.same clean)) (legible.rest c.in-Ok.host.version (subst (λ r. IfOk r (λ f. (standing (state g.S.Store c.args.connection.now)).now.schema ≡ schema_of f.version)) c.in-Ok.is c.in_ok-host.ensures.schema))))

pub returns-in_ok-listed-in-Ok-clause-crash : goal.returns-in_ok-listed-in-Ok-clause-crash
returns-in_ok-listed-in-Ok-clause-crash g c up =
    over_then (state g.S.Store c.args.connection.now) (state g.S.Store c.look.new.connection) (state g.S.Store c.bring.new.connection) (c.look.ensures.survives up) c.in_ok-host.ensures.same c.bring.ensures.follows c.bring.ensures.crash up

pub returns-in_ok-listed-in-Ok-clause-finds : goal.returns-in_ok-listed-in-Ok-clause-finds
returns-in_ok-listed-in-Ok-clause-finds g c clean = subst (Finds (standing (state g.S.Store c.args.connection.now)).now) c.in-Ok.is (c.in_ok-host.ensures.finds (c.bring.ensures.follows.clean clean))

pub returns-in-Err-clause-finds : goal.returns-in-Err-clause-finds
returns-in-Err-clause-finds g c clean = subst (Finds (standing (state g.S.Store c.args.connection.now)).now) c.in-Err.is (c.in_ok-host.ensures.finds clean)
