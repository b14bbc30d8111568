use Rattle.std.proofs.Common.{arith, codes}
use Rattle.std.specs.String.{string_bytes}
use Rattle.bh_storage.specs.Reports.{tenant_view}
use Rattle.bh_host.specs.Replies.{next_word, tenant_words}
use Rattle.bh_host.proofs.Listing.{all_told}
use Rattle.bh_host.proofs.lists.tenants_line.Goals as goal

pub returns : goal.returns
returns c = all_told (codes "tenants ") tenant_view (λ t. next_word (tenant_words t)) c.args.tenants.now c.loop-tenant.tenant-index (string_bytes c.loop-tenant.line) (λ low. let end = c.loop-tenant-test.false in omega (arith, low, end)) c.loop-tenant.invariant
