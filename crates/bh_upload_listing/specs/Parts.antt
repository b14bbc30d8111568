-- A part in a listing, as contracts see it.
use Rattle.std.specs.String.{string_bytes}
use Rattle.bh_model.specs.Pages.{PartItem}
use Rattle.bh_tables.specs.Typed.{PartRow}
use Rattle.bh_listing.specs.Texts.{Columns}
use Rattle.bh_upload_listing.specs.Rows.{shown_part, part_item}
use Rattle.bh_upload_listing.specs.declared.parts.PartLine.{PartLine}

abbrev pub seen_part : PartLine → PartItem
seen_part l = record { number = l.number; moment = l.stamp; size = l.size; checksum = string_bytes l.checksum }

abbrev pub columns : Columns PartLine PartRow PartItem
columns = record { shown = shown_part; see = seen_part; told = part_item }
