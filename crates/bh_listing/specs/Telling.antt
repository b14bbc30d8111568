-- Spec values of a page.
use Rattle.std.specs.Prelude.{◌≡◌, map, flat_map, option_map}
use Rattle.std.specs.String.{string_bytes}
use Rattle.bh_model.specs.State.{Octets}
use Rattle.bh_model.specs.Pages.{Listed, PageAsked, Paged, common_in, single_in}
use Rattle.bh_docs.specs.Pages.{prefix_view}
use Rattle.bh_docs.specs.declared.page.Page as program

-- the bucket, the prefix and the maximum number of entries; the grouped names and the other
-- entries; and the position of the next page
pub record IsTold {E N X P : Type 0} (view : E → X) (next_view : N → P) (next_of : Listed X → P) (name : Octets) (asked : PageAsked)
    (page : Paged (Listed X)) (told : program.Page E N) : Type 0 where
  pub bucket : string_bytes told.bucket ≡ name
  pub prefix : string_bytes told.prefix ≡ asked.prefix
  pub max : told.max ≡ asked.max
  pub prefixes : map prefix_view told.prefixes.items ≡ flat_map common_in page.shown
  pub entries : map view told.entries.items ≡ flat_map single_in page.shown
  pub next : option_map next_view told.next ≡ option_map next_of page.next
