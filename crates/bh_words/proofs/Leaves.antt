-- Words that `clap` takes tell a line.
use Rattle.std.proofs.Common.{◌≡◌, ◌++◌, ◌≤◌, ◌/◌, ◌^◌, ◌-◌, ℕ, true, List, [], ◌∷◌, Option, Some, None, inl, inr, refl, arith, codes, map}
use Rattle.std.specs.Prelude.{is_some}
use Rattle.std.proofs.Math.Nat.{min-le_right}
use Rattle.std.proofs.lemmas.Bool.{le-leb}
use Rattle.clap.specs.Simple.{Shape, filled_from, help_rule}
use Rattle.clap.specs.Walk.{Row, Text, first_of, rows_after}
use Rattle.bh_words.proofs.Valued.{IsLeaf, IsTaken, default-value, number_in, required-value}
use Rattle.bh_event.specs.declared.name.OrderName.TheVariants as order
use Rattle.bh_words.specs.Commands.{options, shape, word}
use Rattle.bh_words.specs.Options.{rule}
use Rattle.bh_words.specs.Readings.{cache_of, doors_at, is_given, limits_at, line_at, number_at, number_of, serving_at, text_at}
use Rattle.bh_words.specs.Readings.{tuning_at}
use Rattle.bh_words.specs.declared.options.OptionName.TheVariants.{CacheBytes, Count, KeepGarbage, Log, Spool}
use Rattle.bh_words.specs.declared.subcommands.Subcommand.{Subcommand}
use Rattle.bh_words.specs.declared.subcommands.Subcommand.TheVariants as subcommand

-- a subcommand as `clap` builds it
abbrev pub leaf : Subcommand → Shape
leaf s = record (shape (word s) (options s)) {
  rules = filled_from 1 (map rule (options s) ++ help_rule ∷ []);
  is_built = true;
  disable_help_subcommand = true;
}

abbrev pub rows_of_words : Subcommand → List Text → List Row
rows_of_words s words = rows_after (leaf s).rules [] words

pub leaf-fine : (s : Subcommand) → IsLeaf (leaf s)
leaf-fine subcommand.Script = record { fine = ((refl, inl (refl, refl), tt), ((refl, inl (refl, refl), tt), ((refl, inl (refl, refl), tt), ((refl, inl (refl, refl), tt), ((refl, inl (refl, refl), tt), ((refl, inl (refl, refl), tt), ((refl, inr (inr refl), tt), tt))))))); once = refl; negates = refl }
leaf-fine subcommand.Init = record { fine = ((refl, inl (refl, refl), tt), ((refl, inl (refl, refl), tt), ((refl, inl (refl, refl), tt), ((refl, inl (refl, refl), tt), ((refl, inr (inr refl), tt), tt))))); once = refl; negates = refl }
leaf-fine (subcommand.Order order.TenantAdd) = record { fine = ((refl, inl (refl, refl), tt), ((refl, inl (refl, refl), tt), ((refl, inl (refl, refl), tt), ((refl, inl (refl, refl), tt), ((refl, inl (refl, refl), tt), ((refl, inl (refl, refl), tt), ((refl, inl (refl, refl), tt), ((refl, inl (refl, refl), tt), ((refl, inr (inl (refl, refl, refl)), tt), ((refl, inr (inr refl), tt), tt)))))))))); once = refl; negates = refl }
leaf-fine (subcommand.Order order.Quota) = record { fine = ((refl, inl (refl, refl), tt), ((refl, inl (refl, refl), tt), ((refl, inl (refl, refl), tt), ((refl, inl (refl, refl), tt), ((refl, inl (refl, refl), tt), ((refl, inl (refl, refl), tt), ((refl, inl (refl, refl), tt), ((refl, inl (refl, refl), tt), ((refl, inr (inl (refl, refl, refl)), tt), ((refl, inr (inr refl), tt), tt)))))))))); once = refl; negates = refl }
leaf-fine (subcommand.Order order.TenantRemove) = record { fine = ((refl, inl (refl, refl), tt), ((refl, inr (inl (refl, refl, refl)), tt), ((refl, inl (refl, refl), tt), ((refl, inl (refl, refl), tt), ((refl, inl (refl, refl), tt), ((refl, inl (refl, refl), tt), ((refl, inl (refl, refl), tt), ((refl, inl (refl, refl), tt), ((refl, inr (inl (refl, refl, refl)), tt), ((refl, inr (inr refl), tt), tt)))))))))); once = refl; negates = refl }
leaf-fine (subcommand.Order order.KeyAdd) = record { fine = ((refl, inl (refl, refl), tt), ((refl, inl (refl, refl), tt), ((refl, inl (refl, refl), tt), ((refl, inl (refl, refl), tt), ((refl, inl (refl, refl), tt), ((refl, inl (refl, refl), tt), ((refl, inl (refl, refl), tt), ((refl, inl (refl, refl), tt), ((refl, inl (refl, refl), tt), ((refl, inr (inl (refl, refl, refl)), tt), ((refl, inr (inr refl), tt), tt))))))))))); once = refl; negates = refl }
leaf-fine (subcommand.Order order.KeyRemove) = record { fine = ((refl, inl (refl, refl), tt), ((refl, inl (refl, refl), tt), ((refl, inl (refl, refl), tt), ((refl, inl (refl, refl), tt), ((refl, inl (refl, refl), tt), ((refl, inl (refl, refl), tt), ((refl, inl (refl, refl), tt), ((refl, inl (refl, refl), tt), ((refl, inr (inl (refl, refl, refl)), tt), ((refl, inr (inr refl), tt), tt)))))))))); once = refl; negates = refl }
leaf-fine (subcommand.Order order.Keys) = record { fine = ((refl, inl (refl, refl), tt), ((refl, inl (refl, refl), tt), ((refl, inl (refl, refl), tt), ((refl, inl (refl, refl), tt), ((refl, inl (refl, refl), tt), ((refl, inl (refl, refl), tt), ((refl, inl (refl, refl), tt), ((refl, inr (inl (refl, refl, refl)), tt), ((refl, inr (inr refl), tt), tt))))))))); once = refl; negates = refl }
leaf-fine (subcommand.Order order.Usage) = record { fine = ((refl, inl (refl, refl), tt), ((refl, inl (refl, refl), tt), ((refl, inl (refl, refl), tt), ((refl, inl (refl, refl), tt), ((refl, inl (refl, refl), tt), ((refl, inl (refl, refl), tt), ((refl, inl (refl, refl), tt), ((refl, inr (inl (refl, refl, refl)), tt), ((refl, inr (inr refl), tt), tt))))))))); once = refl; negates = refl }
leaf-fine (subcommand.Order order.Tenants) = record { fine = ((refl, inl (refl, refl), tt), ((refl, inl (refl, refl), tt), ((refl, inl (refl, refl), tt), ((refl, inl (refl, refl), tt), ((refl, inl (refl, refl), tt), ((refl, inl (refl, refl), tt), ((refl, inr (inl (refl, refl, refl)), tt), ((refl, inr (inr refl), tt), tt)))))))); once = refl; negates = refl }
leaf-fine (subcommand.Order order.Report) = record { fine = ((refl, inl (refl, refl), tt), ((refl, inl (refl, refl), tt), ((refl, inl (refl, refl), tt), ((refl, inl (refl, refl), tt), ((refl, inl (refl, refl), tt), ((refl, inl (refl, refl), tt), ((refl, inr (inl (refl, refl, refl)), tt), ((refl, inr (inr refl), tt), tt)))))))); once = refl; negates = refl }
leaf-fine subcommand.Check = record { fine = ((refl, inl (refl, refl), tt), ((refl, inr (inr refl), tt), tt)); once = refl; negates = refl }
leaf-fine (subcommand.Order order.Sweep) = record { fine = ((refl, inl (refl, refl), tt), ((refl, inl (refl, refl), tt), ((refl, inl (refl, refl), tt), ((refl, inl (refl, refl), tt), ((refl, inl (refl, refl), tt), ((refl, inl (refl, refl), tt), ((refl, inl (refl, refl), tt), ((refl, inr (inl (refl, refl, refl)), tt), ((refl, inr (inr refl), tt), tt))))))))); once = refl; negates = refl }
leaf-fine (subcommand.Order order.Backup) = record { fine = ((refl, inl (refl, refl), tt), ((refl, inl (refl, refl), tt), ((refl, inl (refl, refl), tt), ((refl, inl (refl, refl), tt), ((refl, inl (refl, refl), tt), ((refl, inr (inr refl), tt), tt)))))); once = refl; negates = refl }
leaf-fine subcommand.Export = record { fine = ((refl, inl (refl, refl), tt), ((refl, inl (refl, refl), tt), ((refl, inl (refl, refl), tt), ((refl, inr (inr refl), tt), tt)))); once = refl; negates = refl }
leaf-fine subcommand.Import = record { fine = ((refl, inl (refl, refl), tt), ((refl, inl (refl, refl), tt), ((refl, inl (refl, refl), tt), ((refl, inr (inl (refl, refl, refl)), tt), ((refl, inr (inr refl), tt), tt))))); once = refl; negates = refl }
leaf-fine subcommand.Serve = record { fine = ((refl, inl (refl, refl), tt), ((refl, inl (refl, refl), tt), ((refl, inl (refl, refl), tt), ((refl, inl (refl, refl), tt), ((refl, inl (refl, refl), tt), ((refl, inr (inl (refl, refl, refl)), tt), ((refl, inl (refl, refl), tt), ((refl, inl (refl, refl), tt), ((refl, inl (refl, refl), tt), ((refl, inl (refl, refl), tt), ((refl, inl (refl, refl), tt), ((refl, inr (inl (refl, refl, refl)), tt), ((refl, inl (refl, refl), tt), ((refl, inl (refl, refl), tt), ((refl, inl (refl, refl), tt), ((refl, inl (refl, refl), tt), ((refl, inl (refl, refl), tt), ((refl, inl (refl, refl), tt), ((refl, inl (refl, refl), tt), ((refl, inr (inr refl), tt), tt)))))))))))))))))))); once = refl; negates = refl }
leaf-fine subcommand.Tell = record { fine = ((refl, inl (refl, refl), tt), ((refl, inl (refl, refl), tt), ((refl, inl (refl, refl), tt), ((refl, inl (refl, refl), tt), ((refl, inr (inr refl), tt), tt))))); once = refl; negates = refl }
leaf-fine (subcommand.Order order.Stop) = record { fine = ((refl, inl (refl, refl), tt), ((refl, inl (refl, refl), tt), ((refl, inl (refl, refl), tt), ((refl, inr (inr refl), tt), tt)))); once = refl; negates = refl }
leaf-fine (subcommand.Order order.Health) = record { fine = ((refl, inl (refl, refl), tt), ((refl, inl (refl, refl), tt), ((refl, inl (refl, refl), tt), ((refl, inr (inr refl), tt), tt)))); once = refl; negates = refl }
leaf-fine (subcommand.Order order.Metrics) = record { fine = ((refl, inl (refl, refl), tt), ((refl, inl (refl, refl), tt), ((refl, inl (refl, refl), tt), ((refl, inr (inr refl), tt), tt)))); once = refl; negates = refl }
leaf-fine (subcommand.Order order.ClockAccept) = record { fine = ((refl, inl (refl, refl), tt), ((refl, inl (refl, refl), tt), ((refl, inl (refl, refl), tt), ((refl, inr (inr refl), tt), tt)))); once = refl; negates = refl }

limits-given : (rows : List Row) (v w : Text) (n m : ℕ) → first_of (codes "min-part") rows ≡ Some v → number_of 64 v ≡ Some n
    → first_of (codes "max-body") rows ≡ Some w → number_of 64 w ≡ Some m → n ≤ 2 ^ 30 → 1 ≤ m → m ≤ 2 ^ 30
    → limits_at rows ≡ Some (record { min_part = n; max_body = m })
unfolding limits_at
limits-given rows v w n m a b c d e f g = rw (a, b, c, d, le-leb n (2 ^ 30) e, le-leb 1 m f, le-leb m (2 ^ 30) g) refl

few-cached : (n m : ℕ) (bytes : Option ℕ) → m ≤ 65_536 → cache_of n m bytes ≤ 65_536
few-cached n m None e = e
few-cached n m (Some bytes) e = min-le_right (bytes / n) 65_536

tuning-given : (rows : List Row) (v w : Text) (n m : ℕ) → first_of (codes "block-size") rows ≡ Some v → number_of 64 v ≡ Some n
    → first_of (codes "cache-blocks") rows ≡ Some w → number_of 64 w ≡ Some m → 1 ≤ n → n ≤ 1_048_576 → m ≤ 65_536
    → tuning_at rows ≡ Some (record { block_size = n; cache_blocks = cache_of n m (number_at 64 CacheBytes rows) })
unfolding tuning_at
tuning-given rows v w n m a b c d e f g =
    let few = few-cached n m (number_at 64 CacheBytes rows) g in
    rw (a, b, c, d, le-leb 1 n e, le-leb n 1_048_576 f, le-leb _ 65_536 few) refl

serving-given : (rows : List Row) (u v w : Text) (l n m : ℕ) → first_of (codes "timeout") rows ≡ Some u → number_of 64 u ≡ Some l
    → first_of (codes "connections") rows ≡ Some v → number_of 32 v ≡ Some n → first_of (codes "clock-step") rows ≡ Some w
    → number_of 64 w ≡ Some m
    → serving_at rows ≡ Some (record {
      doors = doors_at rows;
      count = number_at 64 Count rows;
      log = is_given Log rows;
      timeout = l;
      connections = n;
      spool = text_at Spool rows;
      clock_step = m;
      keep_garbage = number_at 64 KeepGarbage rows;
    })
unfolding serving_at
serving-given rows u v w l n m a b c d e f = rw (a, b, c, d, e, f) refl

pub leaf-told : (s : Subcommand) (words : List Text) → IsTaken (leaf s) words → is_some (line_at s (rows_of_words s words)) ≡ true
leaf-told subcommand.Script words e =
    let fine = leaf-fine subcommand.Script in
    let s = leaf subcommand.Script in
    let block_size = default-value s words (codes "block-size") _ fine e refl refl in
    let block_size_n = number_in 64 1 1_048_576 block_size.0 (omega arith) block_size.2 in
    let min_part = default-value s words (codes "min-part") _ fine e refl refl in
    let min_part_n = number_in 64 0 (2 ^ 30) min_part.0 (omega arith) min_part.2 in
    let max_body = default-value s words (codes "max-body") _ fine e refl refl in
    let max_body_n = number_in 64 1 (2 ^ 30) max_body.0 (omega arith) max_body.2 in
    let cache_blocks = default-value s words (codes "cache-blocks") _ fine e refl refl in
    let cache_blocks_n = number_in 64 0 65_536 cache_blocks.0 (omega arith) cache_blocks.2 in
    let limits = limits-given (rows_of_words subcommand.Script words) _ _ _ _ min_part.1 min_part_n.1 max_body.1 max_body_n.1 min_part_n.3 max_body_n.2 max_body_n.3 in
    let tuning = tuning-given (rows_of_words subcommand.Script words) _ _ _ _ block_size.1 block_size_n.1 cache_blocks.1 cache_blocks_n.1 block_size_n.2 block_size_n.3 cache_blocks_n.3 in
    let digest = default-value s words (codes "digest") _ fine e refl refl in
    rw (limits, tuning, digest.1) refl
leaf-told subcommand.Init words e =
    let fine = leaf-fine subcommand.Init in
    let s = leaf subcommand.Init in
    let file = required-value s words (codes "file") _ fine e refl refl in
    let min_part = default-value s words (codes "min-part") _ fine e refl refl in
    let min_part_n = number_in 64 0 (2 ^ 30) min_part.0 (omega arith) min_part.2 in
    let max_body = default-value s words (codes "max-body") _ fine e refl refl in
    let max_body_n = number_in 64 1 (2 ^ 30) max_body.0 (omega arith) max_body.2 in
    let limits = limits-given (rows_of_words subcommand.Init words) _ _ _ _ min_part.1 min_part_n.1 max_body.1 max_body_n.1 min_part_n.3 max_body_n.2 max_body_n.3 in
    let digest = default-value s words (codes "digest") _ fine e refl refl in
    rw (file.1, limits, digest.1) refl
leaf-told (subcommand.Order order.TenantAdd) words e =
    let fine = leaf-fine (subcommand.Order order.TenantAdd) in
    let s = leaf (subcommand.Order order.TenantAdd) in
    let tenant = required-value s words (codes "tenant") _ fine e refl refl in
    let quota = required-value s words (codes "quota") _ fine e refl refl in
    let quota_n = number_in 64 0 (2 ^ 64 - 1) quota.0 (omega arith) quota.2 in
    rw (tenant.1, quota.1, quota_n.1) refl
leaf-told (subcommand.Order order.Quota) words e =
    let fine = leaf-fine (subcommand.Order order.Quota) in
    let s = leaf (subcommand.Order order.Quota) in
    let tenant = required-value s words (codes "tenant") _ fine e refl refl in
    let quota = required-value s words (codes "quota") _ fine e refl refl in
    let quota_n = number_in 64 0 (2 ^ 64 - 1) quota.0 (omega arith) quota.2 in
    rw (tenant.1, quota.1, quota_n.1) refl
leaf-told (subcommand.Order order.TenantRemove) words e =
    let fine = leaf-fine (subcommand.Order order.TenantRemove) in
    let s = leaf (subcommand.Order order.TenantRemove) in
    let tenant = required-value s words (codes "tenant") _ fine e refl refl in
    rw tenant.1 refl
leaf-told (subcommand.Order order.KeyAdd) words e =
    let fine = leaf-fine (subcommand.Order order.KeyAdd) in
    let s = leaf (subcommand.Order order.KeyAdd) in
    let tenant = required-value s words (codes "tenant") _ fine e refl refl in
    let name = required-value s words (codes "name") _ fine e refl refl in
    let secret = required-value s words (codes "secret") _ fine e refl refl in
    rw (tenant.1, name.1, secret.1) refl
leaf-told (subcommand.Order order.KeyRemove) words e =
    let fine = leaf-fine (subcommand.Order order.KeyRemove) in
    let s = leaf (subcommand.Order order.KeyRemove) in
    let tenant = required-value s words (codes "tenant") _ fine e refl refl in
    let name = required-value s words (codes "name") _ fine e refl refl in
    rw (tenant.1, name.1) refl
leaf-told (subcommand.Order order.Keys) words e =
    let fine = leaf-fine (subcommand.Order order.Keys) in
    let s = leaf (subcommand.Order order.Keys) in
    let tenant = required-value s words (codes "tenant") _ fine e refl refl in
    rw tenant.1 refl
leaf-told (subcommand.Order order.Usage) words e =
    let fine = leaf-fine (subcommand.Order order.Usage) in
    let s = leaf (subcommand.Order order.Usage) in
    let tenant = required-value s words (codes "tenant") _ fine e refl refl in
    rw tenant.1 refl
leaf-told (subcommand.Order order.Tenants) words e = refl
leaf-told (subcommand.Order order.Report) words e = refl
leaf-told subcommand.Check words e =
    let fine = leaf-fine subcommand.Check in
    let s = leaf subcommand.Check in
    let file = required-value s words (codes "file") _ fine e refl refl in
    rw file.1 refl
leaf-told (subcommand.Order order.Sweep) words e =
    let fine = leaf-fine (subcommand.Order order.Sweep) in
    let s = leaf (subcommand.Order order.Sweep) in
    let limit = required-value s words (codes "limit") _ fine e refl refl in
    let limit_n = number_in 64 0 4_294_967_295 limit.0 (omega arith) limit.2 in
    rw (limit.1, limit_n.1, le-leb _ 4_294_967_295 limit_n.3) refl
leaf-told (subcommand.Order order.Backup) words e =
    let fine = leaf-fine (subcommand.Order order.Backup) in
    let s = leaf (subcommand.Order order.Backup) in
    let to = required-value s words (codes "to") _ fine e refl refl in
    rw to.1 refl
leaf-told subcommand.Export words e =
    let fine = leaf-fine subcommand.Export in
    let s = leaf subcommand.Export in
    let file = required-value s words (codes "file") _ fine e refl refl in
    let tenant = required-value s words (codes "tenant") _ fine e refl refl in
    let to = required-value s words (codes "to") _ fine e refl refl in
    rw (file.1, tenant.1, to.1) refl
leaf-told subcommand.Import words e =
    let fine = leaf-fine subcommand.Import in
    let s = leaf subcommand.Import in
    let file = required-value s words (codes "file") _ fine e refl refl in
    let given = required-value s words (codes "from") _ fine e refl refl in
    rw (file.1, given.1) refl
leaf-told subcommand.Serve words e =
    let fine = leaf-fine subcommand.Serve in
    let s = leaf subcommand.Serve in
    let file = required-value s words (codes "file") _ fine e refl refl in
    let timeout = default-value s words (codes "timeout") _ fine e refl refl in
    let timeout_n = number_in 64 1 3_600 timeout.0 (omega arith) timeout.2 in
    let connections = default-value s words (codes "connections") _ fine e refl refl in
    let connections_n = number_in 32 1 65_536 connections.0 (omega arith) connections.2 in
    let clock_step = default-value s words (codes "clock-step") _ fine e refl refl in
    let clock_step_n = number_in 64 1 4_294_967_295 clock_step.0 (omega arith) clock_step.2 in
    let block_size = default-value s words (codes "block-size") _ fine e refl refl in
    let block_size_n = number_in 64 1 1_048_576 block_size.0 (omega arith) block_size.2 in
    let cache_blocks = default-value s words (codes "cache-blocks") _ fine e refl refl in
    let cache_blocks_n = number_in 64 0 65_536 cache_blocks.0 (omega arith) cache_blocks.2 in
    let tuning = tuning-given (rows_of_words subcommand.Serve words) _ _ _ _ block_size.1 block_size_n.1 cache_blocks.1 cache_blocks_n.1 block_size_n.2 block_size_n.3 cache_blocks_n.3 in
    let serving = serving-given (rows_of_words subcommand.Serve words) _ _ _ _ _ _ timeout.1 timeout_n.1 connections.1 connections_n.1 clock_step.1 clock_step_n.1 in
    rw (file.1, tuning, serving) refl
leaf-told subcommand.Tell words e =
    let fine = leaf-fine subcommand.Tell in
    let s = leaf subcommand.Tell in
    let order = required-value s words (codes "LINE") _ fine e refl refl in
    rw order.1 refl
leaf-told (subcommand.Order order.Stop) words e = refl
leaf-told (subcommand.Order order.Health) words e = refl
leaf-told (subcommand.Order order.Metrics) words e = refl
leaf-told (subcommand.Order order.ClockAccept) words e = refl
