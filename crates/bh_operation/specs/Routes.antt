-- The routes of targets, in a router's order.
use Rattle.std.specs.Prelude.{ℕ, List, [], ◌∷◌, codes}
use Rattle.matchit.specs.Rows.{RowsOf}
use Rattle.matchit.specs.Router.{RouteOf}
use Rattle.bh_operation.specs.declared.target.Kind.{Kind}
use Rattle.bh_operation.specs.declared.target.Kind.TheVariants.{Host, Bucket, Object}

-- a route's pattern has 256 for a parameter and 257 for one that takes all
abbrev pub object_route : RouteOf Kind
object_route = record {
  pattern = 47 ∷ 256 ∷ 47 ∷ 257 ∷ [];
  text = codes "/{bucket}/{*key}";
  names = (2, 8) ∷ (12, 15) ∷ [];
  value = Object;
}

abbrev pub slashed_route : RouteOf Kind
slashed_route = record { pattern = 47 ∷ 256 ∷ 47 ∷ []; text = codes "/{bucket}/"; names = (2, 8) ∷ []; value = Bucket }

abbrev pub bucket_route : RouteOf Kind
bucket_route = record { pattern = 47 ∷ 256 ∷ []; text = codes "/{bucket}"; names = (2, 8) ∷ []; value = Bucket }

abbrev pub host_route : RouteOf Kind
host_route = record { pattern = 47 ∷ []; text = codes "/"; names = []; value = Host }

abbrev pub row : RouteOf Kind → List ℕ × RouteOf Kind
row r = (r.pattern, r)

-- in the router's order
abbrev pub routes : RowsOf (RouteOf Kind)
routes = row object_route ∷ row slashed_route ∷ row bucket_route ∷ row host_route ∷ []
