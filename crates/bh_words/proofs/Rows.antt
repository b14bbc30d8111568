-- What the getters of `clap`'s matches read, by the rows.
use Rattle.std.proofs.Common.{◌≡◌, List, Option, Some, None, [], ap, ap₂, refl, sym, option_map}
use Rattle.std.specs.Borrow.{Bor}
use Rattle.std.specs.Box.{box_value}
use Rattle.std.specs.Prelude.{Box, unwrap_or}
use Rattle.clap.proofs.WalkLemmas.{first_value-rows}
use Rattle.clap.specs.Words.{Row, Text, first_value, first_of, found_of, rows_of, subcommand_name_of, subcommand_rows, subcommand_rows_of}
use Rattle.clap.specs.declared.parser.matches.ArgMatches.{ArgMatches}
use Rattle.clap.specs.declared.parser.matches.ArgMatches.TheViews.{out-ArgMatches, out-SubCommand}
use Rattle.clap.specs.declared.parser.matches.SubCommand.{SubCommand}
use Rattle.bh_words.specs.Readings.{rows_in}

pub first_text : (m : ArgMatches) (id : Text) → first_value (found_of m) id ≡ first_of id (rows_in m)
first_text m id = first_value-rows (found_of m) id

-- the name and the rows of the subcommand that `subcommand` gives
pub rows_met : (m : ArgMatches) (r : Option (Bor Text × Bor ArgMatches))
    → option_map (λ p. p.0.now) r ≡ subcommand_name_of m
    → option_map (λ p. rows_of (found_of p.1.now)) r ≡ option_map (λ p. p.1) (subcommand_rows (out-ArgMatches m).subcommand)
    → subcommand_rows_of m ≡ option_map (λ p. (p.0.now, rows_in p.1.now)) r
rows_met m r = go r (out-ArgMatches m).subcommand
  where
    go : {Z : Type 0} (r : Option (Bor Text × Bor ArgMatches)) (o : Option (Box SubCommand Z))
        → option_map (λ p. p.0.now) r ≡ option_map (λ b. (out-SubCommand (box_value b)).name.now) o
        → option_map (λ p. rows_of (found_of p.1.now)) r ≡ option_map (λ p. p.1) (subcommand_rows o)
        → subcommand_rows o ≡ option_map (λ p. (p.0.now, rows_in p.1.now)) r
    go None None e f = refl
    go None (Some b) e f = cc
    go (Some p) None e f = cc
    go (Some p) (Some b) e f =
        let name : (out-SubCommand (box_value b)).name.now ≡ p.0.now = ap (λ (o : Option Text). unwrap_or o []) (sym e) in
        let rows : rows_of (found_of (out-SubCommand (box_value b)).matches) ≡ rows_in p.1.now = ap (λ (o : Option (List Row)). unwrap_or o []) (sym f) in
        ap₂ (λ (n : Text) (r : List Row). Some (n, r)) name rows
