use Rattle.std.proofs.Common.{arith, codes}
use Rattle.std.specs.String.{string_bytes}
use Rattle.bh_host.specs.Replies.{next_word}
use Rattle.bh_host.proofs.Listing.{all_told}
use Rattle.bh_host.proofs.lists.names_end.Goals as goal

pub returns : goal.returns
returns c = all_told (codes " ") (λ n. string_bytes n) next_word c.args.names.now c.loop-name.name-index (string_bytes c.loop-name.line) (λ low. let end = c.loop-name-test.false in omega (arith, low, end)) c.loop-name.invariant
