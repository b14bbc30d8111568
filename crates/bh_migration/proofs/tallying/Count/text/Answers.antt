use Rattle.std.proofs.Common.{refl}
use Rattle.bh_migration.proofs.tallying.Count.text.Goals as goal

pub returns-in-Versions : goal.returns-in-Versions
returns-in-Versions c = rw c.in-Versions.is refl

pub returns-in-Markers : goal.returns-in-Markers
returns-in-Markers c = rw c.in-Markers.is refl

pub returns-in-Objects : goal.returns-in-Objects
returns-in-Objects c = rw c.in-Objects.is refl
