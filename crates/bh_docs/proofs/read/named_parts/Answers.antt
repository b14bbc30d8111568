use Rattle.std.proofs.Common.{◌≡◌, ℕ, suc, ◌+◌, ◌<◌, List, [], ◌∷◌, ◌++◌, length, get_or, drop, map, Option, Result, Ok, sym, ◌∙◌, add-one, rules}
use Rattle.std.proofs.Math.Seq.{drop-cons}
use Rattle.std.proofs.lemmas.List.{map-append}
use Rattle.bh_types.specs.Outcomes.{◌>>=◌, Fails}
use Rattle.bh_types.specs.declared.error.RequestError.{RequestError}
use Rattle.bh_types.specs.declared.error.RequestError.TheVariants.{OutOfMemory, Refused}
use Rattle.bh_types.specs.declared.wanted.Named.{Named}
use Rattle.bh_types.specs.declared.refusal.Refusal.{Refusal}
use Rattle.bh_docs.specs.Requests.{named_view, in_range, in_ranges}
use Rattle.bh_docs.specs.Shapes.{part_view}
use Rattle.bh_docs.specs.declared.shape.PartShape.{PartShape}
use Rattle.bh_docs.proofs.Ranges.{in_ranges-more, in_ranges-refused}
use Rattle.bh_docs.proofs.read.named_parts.Goals as goal

-- one more part leaves the answer to all of them the same
one_more : (parts : List PartShape) (i : ℕ) (d : PartShape) (named after : List Named) (n : Named)
    → i < length parts → in_range (part_view (get_or parts i d)) ≡ Ok (named_view n) → after ≡ named ++ n ∷ []
    → (in_ranges (map part_view (drop (i + 1) parts)) >>= (λ rest. Ok (map named_view after ++ rest)))
    ≡ (in_ranges (map part_view (drop i parts)) >>= (λ rest. Ok (map named_view named ++ rest)))
one_more parts i d named after n inside ranged grew =
    rw (grew, map-append named_view named (n ∷ []), add-one, drop-cons parts i d inside)
    (sym (in_ranges-more (map named_view named) (part_view (get_or parts i d)) (map part_view (drop (suc i) parts)) (named_view n) ranged))

pub loop-part-preserved : goal.loop-part-preserved
loop-part-preserved c =
    let grew : c.push.new.self.items ≡ c.loop-part.named.items ++ (c.in_ok-part.part ∷ []) = search rules in
    one_more c.args.parts.now c.loop-part.part-index _ _ _ _ c.loop-part-test.true c.in_ok-part.ensures grew ∙ c.loop-part.invariant

-- a part out of its range refuses all of them
out_of_range : (parts : List PartShape) (i : ℕ) (d : PartShape) (named : List Named) (e : RequestError)
    (all : Result (List (ℕ × Option (List ℕ))) Refusal)
    → i < length parts → Fails e (in_range (part_view (get_or parts i d)))
    → (in_ranges (map part_view (drop i parts)) >>= (λ rest. Ok (map named_view named ++ rest))) ≡ all → Fails e all
out_of_range parts i d named OutOfMemory all inside refused before = tt
out_of_range parts i d named (Refused r) all inside refused before =
    sym before ∙ rw (drop-cons parts i d inside)
    (in_ranges-refused (map named_view named) (part_view (get_or parts i d)) (map part_view (drop (suc i) parts)) r refused)

pub returns-in_err-part : goal.returns-in_err-part
returns-in_err-part c =
    let fails : Fails c.in_err-part.field-0.0 (in_ranges (map part_view c.args.parts.now)) =
    out_of_range c.args.parts.now c.loop-part.part-index _ c.loop-part.named.items c.in_err-part.field-0.0 _
    c.loop-part-test.true c.in_err-part.ensures c.loop-part.invariant in
    search (rules, fails)
