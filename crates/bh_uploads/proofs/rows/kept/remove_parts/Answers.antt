use Rattle.std.proofs.Common.{ap, ◌∙◌, subst, sym}
use Rattle.std.proofs.lemmas.Result.{on_ok_weaker}
use Rattle.bh_tables.specs.Typed.{tables_in, bytes_kept}
use Rattle.bh_base.specs.Layer.{Standing, IsInside}
use Rattle.bh_uploads.specs.Writes.{without_parts}
use Rattle.bh_uploads.proofs.rows.kept.remove_parts.Goals as goal

pub take_parts-requires-clause-inside : goal.take_parts-requires-clause-inside
take_parts-requires-clause-inside g c clean = subst IsInside (sym (c.in_ok-kept.ensures.reads.same clean.intact)) (c.requires.inside (c.in_ok-kept.ensures.reads.within.follows.clean clean))

pub take_parts-requires-clause-held : goal.take_parts-requires-clause-held
take_parts-requires-clause-held g c clean = ap (λ (x : Standing). bytes_kept (tables_in x.now).parts c.args.tenant.now c.args.upload) (c.in_ok-kept.ensures.reads.same clean.intact) ∙ c.in_ok-kept.ensures.kept clean

pub returns-clause-holds : goal.returns-clause-holds
returns-clause-holds g c = on_ok_weaker c.take_parts.result (λ holds clean.
    let same = ap (λ (x : Standing). tables_in x.now) (c.in_ok-kept.ensures.reads.same (c.take_parts.ensures.writes.within.follows.clean clean).intact) in
    record { within = (holds clean).within; is = (holds clean).is ∙ ap (without_parts c.args.tenant.now c.args.upload) same }) c.take_parts.ensures.holds
