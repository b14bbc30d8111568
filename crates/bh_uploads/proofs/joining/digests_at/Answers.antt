use Rattle.std.proofs.Common.{arith, ◌≡◌, [], ◌∷◌, ◌++◌, map, refl, sym, ap, ap₂, ◌∙◌, get_or}
use Rattle.std.specs.String.{string_bytes}
use Rattle.std.proofs.lemmas.Grind.{common_steps}
use Rattle.std.proofs.lemmas.List.{map-append}
use Rattle.std.proofs.lemmas.Option.{slice_get_read}
use Rattle.sha2.specs.Sha256.{sha256}
use Rattle.bh_types.specs.Checksums.{checksum_text}
use Rattle.bh_core.specs.declared.parts.PartRow.{PartRow}
use Rattle.bh_uploads.proofs.Taking.{taken_next, split_last}
use Rattle.bh_uploads.proofs.joining.digests_at.Goals as goal

pub loop-at-preserved : goal.loop-at-preserved
loop-at-preserved c parts sums =
    let row = c.in-Some.row.now in
    let text = λ (r : PartRow). string_bytes r.sum in
    let pushed : c.push.new.self.items ≡ c.loop-at.digests.items ++ c.in_ok-digest_in.field-0 ∷ [] = grind (arith, common_steps) in
    let there = slice_get_read c.args.rows.now _ (get_or c.args.places.now c.loop-at.at-index 0) row refl c.in-Some.ensures.lookup.3.0 c.in-Some.ensures.lookup.1 in
    let next = ap (map text) (taken_next c.args.rows.now c.args.places.now c.loop-at.at-index row c.loop-at-test.true there) ∙ map-append text _ (row ∷ []) in
    let it = split_last checksum_text _ (text row) parts (sym next ∙ sums) in
    pushed ∙ ap₂ (λ l d. l ++ d ∷ []) (c.loop-at.invariant it.0 it.3) (c.in_ok-digest_in.ensures it.1 it.4) ∙ sym (map-append sha256 it.0 (it.1 ∷ [])) ∙ ap (map sha256) (sym it.2)
