-- What was read of a file, if it returned what was written, and what is left.
use Rattle.std.proofs.Common.{◌≡◌, ◌≤◌, List, [], ◌++◌, length, take, drop, take-append-drop, append_assoc, append-nil, refl, sym, ap, ◌∙◌, ℕ, Option, Some, None, false, is_some, true≢false}
use Rattle.bh_stage.specs.Spools.{rest_in, ReturnsAll}
use Rattle.bh_stage.specs.declared.spooled.Spool.{Spool}
use Rattle.std.proofs.Math.Seq.{take-append_seam, drop-append_seam}
use Rattle.std.proofs.lemmas.List.{take-append-le, drop-append-le}

-- more was written
pub put_rest : (put got more after : List ℕ) → after ≡ put ++ more → length got ≤ length put → drop (length got) after ≡ drop (length got) put ++ more
put_rest put got more after is le = ap (drop (length got)) is ∙ drop-append-le (length got) put more le

pub put_faithful : (put got more after : List ℕ) → after ≡ put ++ more → length got ≤ length put → take (length got) after ≡ got → take (length got) put ≡ got
put_faithful put got more after is le same = sym (take-append-le (length got) put more le) ∙ ap (take (length got)) (sym is) ∙ same

-- more was read
all_of : (put got x : List ℕ) → take (length (got ++ x)) put ≡ got ++ x → put ≡ got ++ (x ++ drop (length (got ++ x)) put)
all_of put got x same =
    sym (take-append-drop (length (got ++ x)) put) ∙ ap (λ y. y ++ drop (length (got ++ x)) put) same ∙ append_assoc got x (drop (length (got ++ x)) put)

same_of : (put got x after : List ℕ) → after ≡ got ++ x → take (length after) put ≡ after → take (length (got ++ x)) put ≡ got ++ x
same_of put got x after is same = sym (ap (λ y. take (length y) put) is) ∙ same ∙ is

pub got_faithful : (put got x after : List ℕ) → after ≡ got ++ x → take (length after) put ≡ after → take (length got) put ≡ got
got_faithful put got x after is same =
    ap (take (length got)) (all_of put got x (same_of put got x after is same)) ∙ take-append_seam got (x ++ drop (length (got ++ x)) put)

pub got_rest : (put got x after : List ℕ) → after ≡ got ++ x → take (length after) put ≡ after → drop (length got) put ≡ x ++ drop (length after) put
got_rest put got x after is same =
    ap (drop (length got)) (all_of put got x (same_of put got x after is same)) ∙ drop-append_seam got (x ++ drop (length (got ++ x)) put)
    ∙ ap (λ y. x ++ drop (length y) put) (sym is)

-- where there is no file
pub no_spool : (spool : Option Spool) → is_some spool ≡ false → ReturnsAll spool × (rest_in spool ≡ [])
no_spool None none = (tt, refl)
no_spool (Some s) none = absurd (true≢false none)

-- more is kept in memory, where there is no file
pub kept_more : (kept longer more : List ℕ) (spool : Option Spool) → longer ≡ kept ++ more → is_some spool ≡ false → longer ++ rest_in spool ≡ (kept ++ rest_in spool) ++ more
kept_more kept longer more spool is none =
    let empty = (no_spool spool none).1 in
    ap (λ x. longer ++ x) empty ∙ append-nil longer ∙ is ∙ sym (ap (λ x. (kept ++ x) ++ more) empty ∙ ap (λ x. x ++ more) (append-nil kept))

-- more is kept in the file
pub kept_away : (kept rest longer more : List ℕ) → longer ≡ rest ++ more → kept ++ longer ≡ (kept ++ rest) ++ more
kept_away kept rest longer more is = ap (λ x. kept ++ x) is ∙ sym (append_assoc kept rest more)
