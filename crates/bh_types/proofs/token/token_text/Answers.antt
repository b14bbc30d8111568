use Rattle.std.proofs.Common.{ap, ◌∙◌, rules}
use Rattle.std.proofs.lemmas.Result.{IfOk-weaker}
use Rattle.hex.specs.Hex.{decode_of}
use Rattle.hex.proofs.HexLemmas.{decode_of-encode_lower}
use Rattle.bh_types.specs.Tokens.{or_argument}
use Rattle.bh_types.proofs.token.token_text.Goals as goal

pub returns-clause-reads_back : goal.returns-clause-reads_back
returns-clause-reads_back c =
    IfOk-weaker c.encode.result _ _
    (λ text e. ap or_argument (ap decode_of e ∙ decode_of-encode_lower c.args.bytes.now (λ i. search rules)))
    c.encode.ensures
