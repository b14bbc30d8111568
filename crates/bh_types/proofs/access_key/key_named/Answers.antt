use Rattle.std.proofs.lemmas.Bool.{false_from_ne_true}
use Rattle.bh_types.specs.Names.{is_key_name}
use Rattle.bh_types.proofs.Ascii.{IsUtf8-is_name}
use Rattle.bh_types.proofs.access_key.key_named.Goals as goal

pub returns-in-Err : goal.returns-in-Err
returns-in-Err c =
    let name = c.args.name.now in
    rw (false_from_ne_true (is_key_name name) (λ h. c.in-Err.ensures.cases.0 (IsUtf8-is_name name h)))
