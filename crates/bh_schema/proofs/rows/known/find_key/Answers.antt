use Rattle.std.proofs.Common.{not, ap, ◌∙◌}
use Rattle.std.specs.String.{string_bytes}
use Rattle.bh_base.specs.Connections.{state}
use Rattle.bh_schema.proofs.KnownSteps.{still_inside, both_within, both_open, both_same, key_there, no_key_there}
use Rattle.bh_schema.proofs.rows.known.find_key.Goals as goal

pub find_secret-requires : goal.find_secret-requires
find_secret-requires g c =
    record {
      inside = still_inside (state g.S.Store g.P.Shelf c.args.connection.now) (state g.S.Store g.P.Shelf c.find_tenant.new.connection) c.in_ok-find_tenant.ensures.reads.same c.in_ok-find_tenant.ensures.reads.within c.requires.inside;
    }

pub returns-then-is_none-2 : goal.returns-then-is_none-2
returns-then-is_none-2 g c =
    let a = state g.S.Store g.P.Shelf c.args.connection.now in
    let b = state g.S.Store g.P.Shelf c.find_tenant.new.connection in
    let d = state g.S.Store g.P.Shelf c.find_secret.new.connection in
    let one = c.in_ok-find_tenant.ensures in
    let two = c.in_ok-find_secret.ensures in
    record {
      reads = record {
        within = both_within a b d one.reads.opens one.reads.same one.reads.within two.reads.within;
        opens = both_open a b d one.reads.opens one.reads.same one.reads.within two.reads.within two.reads.opens;
        same = both_same a b d one.reads.opens one.reads.same one.reads.within two.reads.within two.reads.same;
      };
      known = no_key_there a b d one.reads.opens one.reads.same one.reads.within two.reads.within c.args.tenant.now c.args.name.now c.in_ok-find_tenant.field-0 one.found string_bytes c.in_ok-find_secret.field-0 two.found
          (c.is_none.ensures ∙ ap not c.if-is_none.false) (c.is_none-2.ensures ∙ ap not c.if-is_none-2.true);
      trouble = tt;
    }

pub returns : goal.returns
returns g c =
    let a = state g.S.Store g.P.Shelf c.args.connection.now in
    let b = state g.S.Store g.P.Shelf c.find_tenant.new.connection in
    let d = state g.S.Store g.P.Shelf c.find_secret.new.connection in
    let one = c.in_ok-find_tenant.ensures in
    let two = c.in_ok-find_secret.ensures in
    record {
      reads = record {
        within = both_within a b d one.reads.opens one.reads.same one.reads.within two.reads.within;
        opens = both_open a b d one.reads.opens one.reads.same one.reads.within two.reads.within two.reads.opens;
        same = both_same a b d one.reads.opens one.reads.same one.reads.within two.reads.within two.reads.same;
      };
      known = key_there a b d one.reads.opens one.reads.same one.reads.within two.reads.within c.args.tenant.now c.args.name.now c.in_ok-find_tenant.field-0 one.found string_bytes c.in_ok-find_secret.field-0 two.found
          (c.is_none.ensures ∙ ap not c.if-is_none.false) (c.is_none-2.ensures ∙ ap not c.if-is_none-2.false);
      trouble = tt;
    }
