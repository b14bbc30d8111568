-- What an answer was told is what went out, what waits in memory, and what waits in its file.
use Rattle.std.proofs.Common.{◌≡◌, ℕ, ◌+◌, ◌≤◌, List, [], ◌++◌, length, take, drop, take-append-drop, append_assoc, append-nil, sym, ap, ◌∙◌, arith}
use Rattle.std.proofs.lemmas.List.{drop-drop, take-take, drop-append-le, drop_all}

-- the first n bytes, of which k were copied
pub front_of : (piece bytes : List ℕ) (n k : ℕ) → take k piece ≡ take k bytes → n ≤ k → take n piece ≡ take n bytes
front_of piece bytes n k same le = sym (take-take n k piece le) ∙ ap (take n) same ∙ take-take n k bytes le

-- the first n of the bytes in memory, of which k were copied, went out
pub sent_after : (told taken after held piece rest : List ℕ) (s n k : ℕ) → told ≡ taken ++ (drop s held ++ rest) → after ≡ taken ++ take n piece
    → take k piece ≡ take k (drop s held) → n ≤ k → told ≡ after ++ (drop (s + n) held ++ rest)
sent_after told taken after held piece rest s n k all more same le =
    all ∙ ap (λ x. taken ++ (x ++ rest)) (sym (take-append-drop n (drop s held)))
    ∙ ap (λ x. taken ++ ((take n (drop s held) ++ x) ++ rest)) (drop-drop n s held)
    ∙ ap (λ x. taken ++ x) (append_assoc (take n (drop s held)) (drop (s + n) held) rest)
    ∙ ap (λ x. taken ++ (x ++ (drop (s + n) held ++ rest))) (sym (front_of piece (drop s held) n k same le))
    ∙ sym (append_assoc taken (take n piece) (drop (s + n) held ++ rest))
    ∙ ap (λ x. x ++ (drop (s + n) held ++ rest)) (sym more)

-- and if nothing waits in memory any more
pub sent_last : (told taken after held piece rest : List ℕ) (s n k : ℕ) → told ≡ taken ++ (drop s held ++ rest) → after ≡ taken ++ take n piece
    → take k piece ≡ take k (drop s held) → n ≤ k → s + n ≡ length held → told ≡ after ++ rest
sent_last told taken after held piece rest s n k all more same le last =
    sent_after told taken after held piece rest s n k all more same le ∙ ap (λ x. after ++ (x ++ rest)) (drop_all (s + n) held (omega (arith, last)))

-- more is told, and waits in memory, where none waits in the file
pub told_after : (told after taken held longer more rest : List ℕ) (s : ℕ) → told ≡ taken ++ (drop s held ++ rest) → s ≤ length held → after ≡ told ++ more
    → longer ≡ held ++ more → rest ≡ [] → after ≡ taken ++ (drop s longer ++ rest)
told_after told after taken held longer more rest s all le is more_held none =
    is ∙ ap (λ x. x ++ more) (all ∙ ap (λ x. taken ++ (drop s held ++ x)) none ∙ ap (λ x. taken ++ x) (append-nil (drop s held)))
    ∙ append_assoc taken (drop s held) more
    ∙ ap (λ x. taken ++ x) (sym (drop-append-le s held more le) ∙ ap (drop s) (sym more_held) ∙ sym (append-nil (drop s longer)))
    ∙ ap (λ x. taken ++ (drop s longer ++ x)) (sym none)

-- more is told, and waits in the file
pub told_away : (told after taken waits rest longer more : List ℕ) → told ≡ taken ++ (waits ++ rest) → after ≡ told ++ more → longer ≡ rest ++ more
    → after ≡ taken ++ (waits ++ longer)
told_away told after taken waits rest longer more all is more_rest =
    is ∙ ap (λ x. x ++ more) all ∙ append_assoc taken (waits ++ rest) more
    ∙ ap (λ x. taken ++ x) (append_assoc waits rest more ∙ ap (λ x. waits ++ x) (sym more_rest))

-- the next bytes of the file come to memory
pub refilled : (told taken held longer more rest left : List ℕ) (s : ℕ) → told ≡ taken ++ (drop s held ++ rest) → s ≤ length held → longer ≡ held ++ more
    → rest ≡ more ++ left → told ≡ taken ++ (drop s longer ++ left)
refilled told taken held longer more rest left s all le more_held parts =
    all ∙ ap (λ x. taken ++ (drop s held ++ x)) parts
    ∙ ap (λ x. taken ++ x) (sym (append_assoc (drop s held) more left) ∙ ap (λ x. x ++ left) (sym (drop-append-le s held more le) ∙ ap (drop s) (sym more_held)))

-- more is told and went out, where nothing waits
pub passed : (told taken after now held more rest : List ℕ) (s : ℕ) → told ≡ taken ++ (drop s held ++ rest) → length held ≤ s → rest ≡ [] → now ≡ taken ++ more
    → after ≡ told ++ more → after ≡ now ++ (drop s held ++ rest)
passed told taken after now held more rest s all le none went is =
    let empty : drop s held ++ rest ≡ [] = ap (λ x. x ++ rest) (drop_all s held le) ∙ none in
    is ∙ ap (λ x. x ++ more) (all ∙ ap (λ x. taken ++ x) empty ∙ append-nil taken) ∙ sym went ∙ sym (ap (λ x. now ++ x) empty ∙ append-nil now)
