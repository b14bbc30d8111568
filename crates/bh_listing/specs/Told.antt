-- A requested page, as contracts see it.
use Rattle.bh_model.specs.Pages as model
use Rattle.bh_pages.specs.declared.gathering.PageAsked.{PageAsked}

abbrev pub asked_view : PageAsked → model.PageAsked
asked_view a = record { prefix = a.prefix.now; delimiter = a.delimiter.now; max = a.max }
