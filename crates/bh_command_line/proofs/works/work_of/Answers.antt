use Rattle.std.proofs.Common.{refl}
use Rattle.bh_command_line.proofs.works.work_of.Goals as goal

pub returns-in_ok-serving_of-in-Serve : goal.returns-in_ok-serving_of-in-Serve
returns-in_ok-serving_of-in-Serve c =
    rw c.in-Serve.is (c.in_ok-serving_of-in-Serve.field-0, c.in_ok-serving_of-in-Serve.ensures, refl)
