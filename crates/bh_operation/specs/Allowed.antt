-- The methods that a target supports.
use Rattle.std.specs.Prelude.{ℕ, List, Option, option_map}
use Rattle.bh_http.specs.declared.values.Allow.{Allow}
use Rattle.bh_http.specs.declared.values.Allow.TheVariants.{Service, Bucket, Object}
use Rattle.bh_operation.specs.Targets.{path_of, kind_of}
use Rattle.bh_operation.specs.declared.target.Kind.{Kind}
use Rattle.bh_operation.specs.declared.target.Kind.TheVariants as kind

abbrev pub allow_at : Kind → Allow
allow_at kind.Host = Service
allow_at kind.Bucket = Bucket
allow_at kind.Object = Object

-- by the kind of the target, if its path has one
-- RFC 9110, section 10.2.1
abbrev pub allow_of : List ℕ → Option Allow
allow_of target = option_map allow_at (kind_of (path_of target))
