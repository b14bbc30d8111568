use Rattle.std.proofs.Common.{◌∙◌, [], ◌∷◌}
use Rattle.bh_base.specs.Connections.{state}
use Rattle.bh_schema.specs.Working.{tables_at}
use Rattle.bh_tenant_rows.specs.Brought.{with_tenants}
use Rattle.bh_moved.proofs.Chains.{account_chain}
use Rattle.bh_moved.proofs.account.bring_account.Goals as goal

pub returns-clause-holds : goal.returns-clause-holds
returns-clause-holds g c absent clean =
    let three = c.in_ok-set_number.ensures.holds clean in
    let clean_two = c.in_ok-set_number.ensures.writes.within.follows.clean clean in
    let two = c.in_ok-set_numbers.ensures.holds clean_two in
    let one = c.in_ok-insert_tenant.ensures.holds (c.in_ok-set_numbers.ensures.writes.within.follows.clean clean_two) in
    record {
      within = three.within;
      is = account_chain c.args.tenant.now c.in_ok-quota.quota c.in_ok-version.version c.in_ok-upload.upload c.in_ok-entry.entry _ _ _ _ absent one.is two.is three.is
          ∙ (λ i. with_tenants (record { tenant = c.args.tenant.now; quota = c.in_ok-quota.ensures.same i; next_version = c.in_ok-version.ensures.same i; next_upload = c.in_ok-upload.ensures.same i; next_entry = c.in_ok-entry.ensures.same i } ∷ []) (tables_at (state g.T.Store g.Q.Shelf c.args.to.now)));
    }
