use Rattle.std.proofs.Common.{refl}
use Rattle.sqlite_disk.specs.contracts.memory.MemoryDisk.TheImpl.{ghosts}
use Rattle.bh_shelf.proofs.Clean.{packs_clean}
use Rattle.bh_script.proofs.script.answer_script.Goals as goal

pub answer_with-requires-clause-honest : goal.answer_with-requires-clause-honest
answer_with-requires-clause-honest g c = λ it. packs_clean ghosts (λ _. refl) it.packs
