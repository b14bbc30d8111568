use Rattle.std.proofs.Common.{◌≡◌, drop}
use Rattle.serde_json.specs.View.{view}
use Rattle.bh_docs.specs.Members.{object_of, with_members}
use Rattle.bh_docs.proofs.document.object_of.Given as goal

-- the document so far with the rest of the members is that of all of them
abbrev pub invariant-loop-member : goal.invariant-loop-member
invariant-loop-member l = with_members (drop l.member-index l.members) (view l.document) ≡ object_of l.members
