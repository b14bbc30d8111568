use Rattle.std.proofs.Common.{◌≡◌, ℕ, List, ◌++◌, length, sym, ap, subst, arith, Option}
use Rattle.std.specs.Io.KnownBytes.{Consumes}
use Rattle.bh_link.proofs.TakingLemmas.{consumes_none, consumes_then}
use Rattle.bh_script.proofs.input.read_all.Goals as goal

-- a piece more
consumed_more : (a b c : Option (List ℕ)) (before after piece : List ℕ) → after ≡ before ++ piece → Consumes a b before → Consumes b c piece → Consumes a c after
consumed_more a b c before after piece same p q = let P : List ℕ → Type 0 = λ t. Consumes a c t in subst P (sym same) (consumes_then a b c before piece p q)

pub loop-pieces-init : goal.loop-pieces-init
loop-pieces-init g c =
    let none = c.new-bytes.ensures.items in
    let P : List ℕ → Type 0 = λ t. Consumes (g.R.Read.remaining c.args.reader.now) (g.R.Read.remaining c.args.reader.now) t in
    record { consumed = subst P (sym none) (consumes_none _); count = omega arith; most = omega (arith, ap length none) }
