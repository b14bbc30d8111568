use Rattle.std.proofs.Common.{sym, ap, ◌∙◌}
use Rattle.std.specs.Option.{option_copied}
use Rattle.bh_event.specs.Events.{message_of}
use Rattle.bh_host.proofs.Turning.{turned_unnamed}
use Rattle.bh_host.proofs.event.serve_order.Goals as goal

pub returns-in_ok-refusal_line-in-None-clause-turned : goal.returns-in_ok-refusal_line-in-None-clause-turned
returns-in_ok-refusal_line-in-None-clause-turned g c = λ clean.
    turned_unnamed _ c.args.at (message_of c.args.order.now) c.in-Some.name.now _ _ (sym c.tenant.ensures ∙ ap option_copied c.in-Some.is) (sym c.in_ok-tenant.ensures ∙ c.in-None.is)
    (ap (λ v. v.items) c.into_bytes.ensures.value ∙ c.in_ok-refusal_line-in-None.ensures)
