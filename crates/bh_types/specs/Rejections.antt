-- Refusals with their responses' details.
use Rattle.std.specs.Prelude.{Result, Ok, Err}
use Rattle.bh_types.specs.declared.refusal.Refusal.{Refusal}
use Rattle.bh_types.specs.declared.rejection.Detail.{Detail}
use Rattle.bh_types.specs.declared.rejection.Detail.TheVariants.{Nothing, CurrentMarker, NamedMarker, UndatedMarker}
use Rattle.bh_types.specs.declared.rejection.Rejection.{Rejection}

-- a refusal without details
abbrev pub plain : Refusal → Rejection
plain refusal = record { refusal = refusal; detail = Nothing }

abbrev pub plainly : {X : Type 0} → Result X Refusal → Result X Rejection
plainly (Ok x) = Ok x
plainly (Err refusal) = Err (plain refusal)

-- the detail of an operation on a date: a marker isn't named, but if its id was given, the methods
-- that it permits are. `x-amz-delete-marker` is in responses of GetObject, HeadObject and
-- DeleteObject (Amazon S3 API Reference)
abbrev pub undated : Detail → Detail
undated CurrentMarker = Nothing
undated NamedMarker = UndatedMarker
undated detail = detail

abbrev pub date_refused : Rejection → Rejection
date_refused rejection = record { refusal = rejection.refusal; detail = undated rejection.detail }

abbrev pub for_date : {X : Type 0} → Result X Rejection → Result X Rejection
for_date (Ok x) = Ok x
for_date (Err rejection) = Err (date_refused rejection)
