use Rattle.std.proofs.Common.{◌≡◌, ◌++◌, codes, flat_map, length, take}
use Rattle.std.specs.Fmt.{decimal}
use Rattle.std.specs.String.{string_bytes}
use Rattle.bh_storage.specs.Reports.{tenant_view}
use Rattle.bh_host.specs.Replies.{next_word, tenant_words}
use Rattle.bh_host.proofs.lists.tenants_line.Given as goal

-- how many there are, and those so far
abbrev pub invariant-loop-tenant : goal.invariant-loop-tenant
invariant-loop-tenant l = string_bytes l.line ≡ (codes "tenants " ++ decimal (length l.tenants)) ++ flat_map (λ t. next_word (tenant_words (tenant_view t))) (take l.tenant-index l.tenants)
