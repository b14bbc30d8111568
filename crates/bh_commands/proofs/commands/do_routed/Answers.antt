use Rattle.bh_commands.proofs.commands.do_routed.Goals as goal

pub returns-in_ok-serve-in-Serve-clause-done : goal.returns-in_ok-serve-in-Serve-clause-done
returns-in_ok-serve-in-Serve-clause-done g c = rw c.in-Serve.is c.in_ok-serve-in-Serve.ensures.done
