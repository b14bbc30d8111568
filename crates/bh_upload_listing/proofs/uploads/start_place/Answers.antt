use Rattle.std.proofs.Common.{sym, subst, true}
use Rattle.std.specs.Prelude.{◌≡◌}
use Rattle.bh_model.specs.Pages.{is_upto}
use Rattle.bh_pages.specs.Seen.{token_of}
use Rattle.bh_pages.proofs.Starting.{start_low}
use Rattle.bh_upload_listing.proofs.uploads.start_place.Goals as goal

pub returns-in_ok-start-in-None-clause-under : goal.returns-in_ok-start-in-None-clause-under
returns-in_ok-start-in-None-clause-under c =
    subst (λ key. is_upto c.args.asked.now.prefix.now key ≡ true) (sym c.in_ok-start-in-None.ensures) (start_low c.args.asked.now.prefix.now (token_of c.args.asked.now))
