use Rattle.std.proofs.Common.{ap}
use Rattle.bh_types.specs.declared.id.VersionId.TheVariants.{Null}
use Rattle.bh_model.specs.Entries.{has_id, is_version, without, found_named}
use Rattle.bh_model.proofs.EntryLemmas.{find_taken, any_taken}
use Rattle.bh_model.proofs.laws.suspended_delete_clears.Goals as goal

pub returns : goal.returns
returns c = λ next moment entries. (any_taken (has_id Null) is_version entries, ap found_named (find_taken (has_id Null) (without Null entries)))
