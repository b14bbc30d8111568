use Rattle.std.proofs.Common.{◌≡◌, take}
use Rattle.bh_http.specs.Fields.{field_named, given_view}
use Rattle.bh_http.specs.Views.{pairs_of}
use Rattle.bh_http.proofs.fields.field_named.Given as goal

-- what was found so far is the answer for the fields so far
abbrev pub invariant-loop-field : goal.invariant-loop-field
invariant-loop-field l = given_view l.given ≡ field_named l.name (pairs_of (take l.field-index l.fields))
