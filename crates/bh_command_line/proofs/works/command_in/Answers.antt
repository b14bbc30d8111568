use Rattle.std.proofs.Common.{refl}
use Rattle.std.specs.String.{string_bytes}
use Rattle.bh_command_line.proofs.works.command_in.Goals as goal

pub returns-in_ok-secret-in-KeyAdd : goal.returns-in_ok-secret-in-KeyAdd
returns-in_ok-secret-in-KeyAdd c =
    rw c.in-KeyAdd.is (string_bytes c.in_ok-secret-in-KeyAdd.secret, c.in_ok-secret-in-KeyAdd.ensures, refl)
