use Rattle.std.proofs.Common.{refl}
use Rattle.bh_view.specs.Laws.{new_host}
use Rattle.bh_view.proofs.HostChanges.{created}
use Rattle.bh_view.proofs.laws.new_host_is_sound.Goals as goal

pub returns : goal.returns
returns c = λ min_part max_body digest limits known. created (new_host min_part max_body digest) min_part max_body digest limits known refl
