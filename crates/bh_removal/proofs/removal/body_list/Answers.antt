use Rattle.std.proofs.Common.{◌++◌, map, filter, ap, ap₂, ◌∙◌}
use Rattle.std.proofs.lemmas.Result.{IfOk-at_ok}
use Rattle.bh_base.specs.Connections.{state}
use Rattle.bh_tables.specs.Shown.{is_part_used}
use Rattle.bh_tables.specs.Typed.{PartRow, Tables}
use Rattle.bh_schema.proofs.Storing.{on_ok}
use Rattle.bh_objects.proofs.Working.{same_tables, asked_inside}
use Rattle.bh_removal.proofs.removal.body_list.Goals as goal

pub part_bodies-requires : goal.part_bodies-requires
part_bodies-requires g c =
    let old = state g.S.Store g.P.Shelf c.args.connection.now in
    let middle = state g.S.Store g.P.Shelf c.entry_numbers.new.connection in
    record { inside = asked_inside old middle c.requires.inside c.entry_numbers.ensures.reads.within (on_ok _ c.in_ok-bodies.ensures.ok c.entry_numbers.ensures.reads.same) }

pub returns-clause-numbers : goal.returns-clause-numbers
returns-clause-numbers g c clean =
    let old = state g.S.Store g.P.Shelf c.args.connection.now in
    let middle = state g.S.Store g.P.Shelf c.entry_numbers.new.connection in
    let clean_middle = c.part_bodies.ensures.reads.within.follows.clean clean in
    let same = same_tables old middle (on_ok _ c.in_ok-bodies.ensures.ok c.entry_numbers.ensures.reads.same clean_middle.intact) in
    let versions = rw c.as_str.ensures.value at (IfOk-at_ok _ c.in_ok-bodies.ensures.ok c.entry_numbers.ensures.numbers clean_middle) in
    let parts = rw c.as_str-2.ensures.value at (IfOk-at_ok _ c.in_ok-parts.ensures.ok c.part_bodies.ensures.numbers clean) in
    c.in_ok-append.ensures.items ∙ ap₂ ◌++◌ versions (parts ∙ ap (λ (x : Tables). map (λ (p : PartRow). p.body) (filter (is_part_used c.args.tenant.now) x.parts)) same)
