-- Where `clap` takes the words after a subcommand, each row has one value, which its option takes.
use Rattle.std.proofs.Common.{◌≡◌, ◌∙◌, ◌++◌, ◌⊎◌, ℕ, Bool, true, false, zero, suc, List, [], ◌∷◌, Option, Some, None, inl, inr, refl, sym, subst, ap, arith, length, codes}
use Rattle.std.specs.Prelude.{◌==◌, ◌&&◌, find, fold, unwrap_or, drop, slice_get, encode_utf8, is_some, if◌then◌else◌}
use Rattle.std.specs.Option.{option_map_or}
use Rattle.std.specs.Str.{bytes_eq, chars}
use Rattle.std.proofs.lemmas.Bool.{false≢true, ne_eqb}
use Rattle.std.proofs.lemmas.List.{append-nil}
use Rattle.clap.specs.Kinds.{Kinds, or_else, range_kinds, request_kinds}
use Rattle.clap.specs.Facts.{unwrap_or_range}
use Rattle.clap.specs.Lexer.{long_of, short_of}
use Rattle.clap.specs.Simple.{Shape}
use Rattle.clap.specs.Faults.{bundle_fault, bundle_step_fault, default_fault, defaults_fault, flags_fault, flag_word_fault, long_fault, option_fault, other_fault, positional_fault, react_fault, repeat_fault, set_fault, settle_fault, short_fault, step_fault, stray_fault, turn_fault, use_fault, values_fault, walk_fault, word_fault}
use Rattle.clap.specs.Walk.{Held, Outcome, Row, Rule, Step, Text, Waiting, Walk, action_of, after_flag, after_step, arg_by_id, arg_by_index, arg_by_long, arg_by_short, at_row, attached_value, bundle_met, bundle_step, default_rows, done, has_row, idle, is_empty, is_pending, long_met, long_or_other, more_values, most_values, next, option, option_met, option_word, plain, plain_word, positional, positional_held, reacted, reading_by, refused, settled, settled_rows, short_met, short_or_plain, subcommand, subcommand_or_other, takes_several, takes_values, to_positional, trailing, used, used_by_id, value, values_or_missing, waits, walked, walked_from, with_default, with_values, without, word_met}
use Rattle.clap.specs.declared.builder.action.ArgAction.TheVariants.{Set, SetTrue, Help}
use Rattle.clap.specs.declared.builder.range.ValueRange.{ValueRange}
use Rattle.clap.specs.declared.error.kind.ErrorKind.{ErrorKind}
use Rattle.clap.specs.declared.error.kind.ErrorKind.TheVariants.{DisplayHelp}
use Rattle.clap.specs.declared.parser.matches.ValueSource.{ValueSource}
use Rattle.clap.specs.declared.parser.matches.ValueSource.TheVariants.{CommandLine, DefaultValue}

-- ---- what is known of rules and rows

abbrev pub one_value : ValueRange
one_value = record { start_inclusive = 1; end_inclusive = 1 }

-- an option with one value
abbrev pub IsOption : Rule → Type 0
IsOption a = (a.action ≡ Some Set) × (a.range ≡ Some one_value)

abbrev pub no_value : ValueRange
no_value = record { start_inclusive = 0; end_inclusive = 0 }

-- an option without a value, which stands for `true` where it is given
abbrev pub IsFlag : Rule → Type 0
IsFlag a = (a.action ≡ Some SetTrue) × (a.range ≡ Some no_value) × (a.missing ≡ codes "true" ∷ [])

abbrev pub HasOneDefault : List Text → Type 0
HasOneDefault [] = Unit {0}
HasOneDefault (v ∷ []) = Unit {0}
HasOneDefault (v ∷ w ∷ rest) = ⊥

-- the only one of its id, an option or a call for help, with one default at most
abbrev pub IsFine : List Rule → Rule → Type 0
IsFine c a = (arg_by_id c a.id ≡ Some a) × (IsOption a ⊎ (IsFlag a ⊎ (a.action ≡ Some Help))) × HasOneDefault a.defaults

abbrev pub AreFine : List Rule → List Rule → Type 0
AreFine c [] = Unit {0}
AreFine c (a ∷ rest) = IsFine c a × AreFine c rest

-- one value, which the rule of its id takes
abbrev pub Fits : List Rule → Row → Type 0
Fits c r = (a : Rule) × (v : Text) × (arg_by_id c r.id ≡ Some a) × (r.values ≡ v ∷ []) × (values_fault a (v ∷ []) ≡ [])

abbrev pub AllFit : List Rule → List Row → Type 0
AllFit c [] = Unit {0}
AllFit c (r ∷ rest) = Fits c r × AllFit c rest

-- ---- lists

pub or_none : (a b : Kinds) → or_else a b ≡ [] → (a ≡ []) × (b ≡ [])
or_none [] b e = (refl, e)
or_none (k ∷ ks) b e = cc

never : (a : Kinds) (k : ErrorKind) → or_else a (k ∷ []) ≡ [] → false ≡ true
never [] k e = cc
never (x ∷ xs) k e = cc

pub same_some : {X : Type 0} (x y : X) → Some x ≡ Some y → x ≡ y
same_some x y e = ap (λ (o : Option _). unwrap_or o x) e

fit-append : (c : List Rule) (rows : List Row) (r : Row) → AllFit c rows → Fits c r → AllFit c (rows ++ r ∷ [])
fit-append c [] r h f = (f, tt)
fit-append c (x ∷ xs) r h f = (h.0, fit-append c xs r h.1 f)

pub at_row-new : (id : Text) (change : Row → List Row) (missing rows : List Row) → has_row id rows ≡ false → at_row id change missing rows ≡ rows ++ missing
at_row-new id change missing [] e = refl
at_row-new id change missing (r ∷ rs) e = go (bytes_eq r.id id) refl (at_row-new id change missing rs)
  where
    go : (b : Bool) → bytes_eq r.id id ≡ b → (has_row id rs ≡ false → at_row id change missing rs ≡ rs ++ missing)
        → at_row id change missing (r ∷ rs) ≡ r ∷ (rs ++ missing)
    go true same rest =
        let bad : true ≡ false = rw same at e in
        cc
    go false other rest = rw other (ap (λ l. r ∷ l) (rest (rw other at e)))

pub found-fine : (c rules : List Rule) (test : Rule → Bool) (a : Rule) → AreFine c rules → find test rules ≡ Some a → IsFine c a
found-fine c [] test a h e = cc
found-fine c (x ∷ xs) test a h e = go (test x) refl (found-fine c xs test a h.1)
  where
    go : (b : Bool) → test x ≡ b → (find test xs ≡ Some a → IsFine c a) → IsFine c a
    go true t rest = subst (IsFine c) (same_some x a (rw t at e)) h.0
    go false t rest = rest (rw t at e)

-- ---- one use

fresh_row : (id : Text) (rows : List Row) → repeat_fault false id rows ≡ [] → has_row id rows ≡ false
fresh_row id rows e = go (has_row id rows) refl
  where
    go : (b : Bool) → has_row id rows ≡ b → has_row id rows ≡ false
    go true t =
        let bad = rw t at e in
        cc
    go false t = t

fits-new : (c : List Rule) (a : Rule) (v : Text) (s : ValueSource) (rows : List Row) → arg_by_id c a.id ≡ Some a → AllFit c rows
    → has_row a.id rows ≡ false → values_fault a (v ∷ []) ≡ [] → AllFit c (with_values a.id (reading_by a) s (v ∷ []) rows)
fits-new c a v s rows known fit fresh passes =
    subst (AllFit c) (sym (at_row-new a.id (more_values s (v ∷ [])) _ rows fresh)) (fit-append c rows _ fit (a, v, known, refl, passes))

option-values : (c : List Rule) (a : Rule) (values : List Text) (rows : List Row) → arg_by_id c a.id ≡ Some a → AllFit c rows
    → or_else (range_kinds 1 1 (length values)) (set_fault false a (values_or_missing a values) rows) ≡ []
    → AllFit c (with_values a.id (reading_by a) CommandLine (values_or_missing a values) (without a.id rows))
option-values c a [] rows known fit e = cc
option-values c a (v ∷ []) rows known fit e =
    let parts = or_none (repeat_fault false a.id rows) _ e in
    let fresh = fresh_row a.id rows parts.0 in
    let same : without a.id rows ≡ rows = at_row-new a.id (λ _. []) [] rows fresh ∙ append-nil rows in
    subst (λ (rs : List Row). AllFit c (with_values a.id (reading_by a) CommandLine (v ∷ []) rs)) (sym same)
    (fits-new c a v CommandLine rows known fit fresh parts.1)
option-values c a (v ∷ w ∷ rest) rows known fit e =
    let some : (length (v ∷ w ∷ rest) == 0) ≡ false = ne_eqb _ _ (λ n. omega arith) in
    let more : (1 == length (v ∷ w ∷ rest)) ≡ false = ne_eqb _ _ (λ n. omega arith) in
    let bad = rw (some, more) at e in
    cc

flag-values : (c : List Rule) (a : Rule) (values : List Text) (rows : List Row) → a.missing ≡ codes "true" ∷ [] → arg_by_id c a.id ≡ Some a → AllFit c rows
    → or_else (range_kinds 0 0 (length values)) (set_fault false a (values_or_missing a values) rows) ≡ []
    → AllFit c (with_values a.id (reading_by a) CommandLine (values_or_missing a values) (without a.id rows))
flag-values c a [] rows missing known fit e =
    let parts = or_none (repeat_fault false a.id rows) _ e in
    let fresh = fresh_row a.id rows parts.0 in
    let same : without a.id rows ≡ rows = at_row-new a.id (λ _. []) [] rows fresh ∙ append-nil rows in
    let passes : values_fault a (codes "true" ∷ []) ≡ [] = rw missing at parts.1 in
    subst (λ (vs : List Text). AllFit c (with_values a.id (reading_by a) CommandLine vs (without a.id rows))) (sym missing)
    (subst (λ (rs : List Row). AllFit c (with_values a.id (reading_by a) CommandLine (codes "true" ∷ []) rs)) (sym same)
    (fits-new c a (codes "true") CommandLine rows known fit fresh passes))
flag-values c a (v ∷ vs) rows missing known fit e =
    let some : (0 == length (v ∷ vs)) ≡ false = ne_eqb _ _ (λ n. omega arith) in
    let bad = rw some at e in
    cc

used-fits : (c : List Rule) (a : Rule) (values : List Text) (rows : List Row) → IsFine c a → AllFit c rows
    → use_fault false a values rows ≡ [] → AllFit c (used a values rows)
used-fits c a values rows fine fit e = elim fine.1 [
  | inl one ↦
      let taken : or_else (range_kinds 1 1 (length values)) (set_fault false a (values_or_missing a values) rows) ≡ [] = rw (one.0, one.1) at e in
      rw (one.0) (option-values c a values rows fine.0 fit taken)
  | inr (inl flag) ↦
      let taken : or_else (range_kinds 0 0 (length values)) (set_fault false a (values_or_missing a values) rows) ≡ [] = rw (flag.0, flag.1) at e in
      rw (flag.0) (flag-values c a values rows flag.2 fine.0 fit taken)
  | inr (inr help) ↦
      let asks : or_else (range_kinds (unwrap_or_range a.range).start_inclusive (most_values a) (length values)) (DisplayHelp ∷ []) ≡ [] = rw help at e in
      absurd (false≢true (never _ DisplayHelp asks))
]

by_id-fits : (c : List Rule) (o : Option Rule) (values : List Text) (rows : List Row) → ((a : Rule) → o ≡ Some a → IsFine c a) → AllFit c rows
    → option_map_or (λ a. use_fault false a values rows) o [] ≡ [] → AllFit c (used_by_id o values rows)
by_id-fits c None values rows fine fit e = fit
by_id-fits c (Some a) values rows fine fit e = used-fits c a values rows (fine a refl) fit e

pending-fits : (c : List Rule) (p : Option (Text × List Text)) (rows : List Row) → AreFine c c → AllFit c rows
    → option_map_or (λ q. option_map_or (λ a. use_fault false a q.1 rows) (arg_by_id c q.0) []) p [] ≡ [] → AllFit c (settled_rows c p rows)
pending-fits c None rows fine fit e = fit
pending-fits c (Some q) rows fine fit e = by_id-fits c (arg_by_id c q.0) q.1 rows (λ a t. found-fine c c _ a fine t) fit e

pub settled-fits : (c : List Rule) (h : Held) → AreFine c c → AllFit c h.rows → settle_fault c false h ≡ [] → AllFit c (settled c h).rows
settled-fits c h fine fit e = pending-fits c h.pending h.rows fine fit e

reacted-fits : (c : List Rule) (a : Rule) (values : List Text) (h : Held) → AreFine c c → IsFine c a → AllFit c h.rows
    → react_fault c false a values h ≡ [] → AllFit c (reacted c a values h).rows
reacted-fits c a values h fine one fit e =
    let parts = or_none (settle_fault c false h) _ e in
    used-fits c a values (settled c h).rows one (settled-fits c h fine fit parts.0) parts.1

option-fits : (c : List Rule) (a : Rule) (v : Option Text) (h : Held) → AreFine c c → IsFine c a → AllFit c h.rows
    → option_fault c false a v h ≡ [] → AllFit c (option_met c a v h).0.rows
option-fits c a (Some v) h fine one fit e = reacted-fits c a (v ∷ []) h fine one fit e
option-fits c a None h fine one fit e = settled-fits c h fine fit e

-- ---- a word

flag-fits : (c : List Rule) (a : Rule) (v : Option Text) (h : Held) → AreFine c c → IsFine c a → AllFit c h.rows
    → (takes : Bool) → takes_values a ≡ takes → long_fault c false (Some a) v h ≡ [] → AllFit c (long_met c (Some a) v h).0.rows
flag-fits c a v h fine one fit true t e = rw t (option-fits c a v h fine one fit (rw t at e))
flag-fits c a (Some v) h fine one fit false t e = rw t fit
flag-fits c a None h fine one fit false t e = rw t (reacted-fits c a [] h fine one fit (rw t at e))

long-fits : (c : List Rule) (o : Option Rule) (v : Option Text) (h : Held) → AreFine c c → ((a : Rule) → o ≡ Some a → IsFine c a) → AllFit c h.rows
    → long_fault c false o v h ≡ [] → AllFit c (long_met c o v h).0.rows
long-fits c None v h fine one fit e = fit
long-fits c (Some a) v h fine one fit e = flag-fits c a v h fine (one a refl) fit (takes_values a) refl e

short-fits : (c : List Rule) (k : ℕ) (h : Held) (o : Option Rule) (rest : Text) → AreFine c c → ((a : Rule) → o ≡ Some a → IsFine c a) → AllFit c h.rows
    → ((g : Held) → AllFit c g.rows → flags_fault c false k rest 0 g ≡ [] → AllFit c (bundle_met c k rest 0 done g).0.rows)
    → short_fault c false o rest h (flags_fault c false k rest 0) ≡ [] → AllFit c (short_met c o rest h (bundle_met c k rest 0 done)).0.rows
short-fits c k h None rest fine one fit more f = fit
short-fits c k h (Some a) rest fine one fit more f = go (takes_values a) refl
  where
    go : (b : Bool) → takes_values a ≡ b → AllFit c (short_met c (Some a) rest h (bundle_met c k rest 0 done)).0.rows
    go true t = rw t (option-fits c a (attached_value rest) h fine (one a refl) fit (rw t at f))
    go false t =
        let parts = or_none (react_fault c false a [] h) _ (rw t at f) in
        rw t (more (reacted c a [] h) (reacted-fits c a [] h fine (one a refl) fit parts.0) parts.1)

bundle_step-fits : (c : List Rule) (k : ℕ) (flags : Text) (so_far : Outcome) (h : Held) (x : Option ℕ) (s : ℕ) → AreFine c c → AllFit c h.rows
    → ((rest : Text) (skip : ℕ) (o : Outcome) (g : Held) → AllFit c g.rows → flags_fault c false k rest skip g ≡ [] → AllFit c (bundle_met c k rest skip o g).0.rows)
    → bundle_step_fault c false x flags s h (flags_fault c false k) ≡ [] → AllFit c (bundle_step c x flags s so_far h (bundle_met c k)).0.rows
bundle_step-fits c k flags so_far h None s fine fit more f = fit
bundle_step-fits c k flags so_far h (Some x) zero fine fit more f =
    short-fits c k h (arg_by_short c x) (drop (length (encode_utf8 x)) flags) fine (λ a t. found-fine c c _ a fine t) fit
    (more (drop (length (encode_utf8 x)) flags) 0 done) f
bundle_step-fits c k flags so_far h (Some x) (suc s) fine fit more f = more (drop (length (encode_utf8 x)) flags) s so_far h fit f

bundle-fits : (c : List Rule) (k : ℕ) (flags : Text) (skip : ℕ) (so_far : Outcome) (h : Held) → AreFine c c → AllFit c h.rows
    → flags_fault c false k flags skip h ≡ [] → AllFit c (bundle_met c k flags skip so_far h).0.rows
unfolding flags_fault bundle_met
bundle-fits c zero flags skip so_far h fine fit e = fit
bundle-fits c (suc k) flags skip so_far h fine fit e =
    bundle_step-fits c k flags so_far h (slice_get (chars flags) 0) skip fine fit (λ rest s o g. bundle-fits c k rest s o g fine) e

plain-rows : (c : List Rule) (waiting : Waiting) (word : Text) (h : Held) → (plain_word c waiting word h).0.rows ≡ h.rows
plain-rows c idle word h = refl
plain-rows c positional word h = refl
plain-rows c (option id) word h = at (arg_by_id c id)
  where
    at : (o : Option Rule) → (option_word o id word h).0.rows ≡ h.rows
    at None = refl
    at (Some a) = refl

plain-fits : (c : List Rule) (waiting : Waiting) (word : Text) (h : Held) → AllFit c h.rows → AllFit c (plain_word c waiting word h).0.rows
plain-fits c waiting word h fit = subst (AllFit c) (sym (plain-rows c waiting word h)) fit

after_flag-fits : (c : List Rule) (waiting : Waiting) (word : Text) (h : Held) (o : Outcome) → AllFit c h.rows → AllFit c (after_flag c waiting word h o).0.rows
after_flag-fits c waiting word h done fit = fit
after_flag-fits c waiting word h (waits id) fit = fit
after_flag-fits c waiting word h plain fit = plain-fits c waiting word h fit
after_flag-fits c waiting word h refused fit = plain-fits c waiting word h fit

flag_word-fits : (c : List Rule) (waiting : Waiting) (word : Text) (l : Option (Text × Option Text)) (h : Held) → AreFine c c → AllFit c h.rows
    → flag_word_fault c false l word h ≡ [] → AllFit c (long_or_other c waiting word l h).0.rows
flag_word-fits c waiting word (Some p) h fine fit e =
    after_flag-fits c waiting word _ (long_met c (arg_by_long c p.0) p.1 h).1
    (long-fits c (arg_by_long c p.0) p.1 h fine (λ a t. found-fine c c _ a fine t) fit e)
flag_word-fits c waiting word None h fine fit e = at (short_of word) e
  where
    at : (o : Option Text) → option_map_or (λ flags. bundle_fault c false flags h) o [] ≡ [] → AllFit c (short_or_plain c waiting word o h).0.rows
    at None f = plain-fits c waiting word h fit
    at (Some flags) f = after_flag-fits c waiting word _ _ (bundle-fits c (length flags) flags h.skip plain (record h { skip = 0 }) fine fit f)

-- ---- the walk over the words after a subcommand

other-fits : (s : Shape) (waiting : Waiting) (position : ℕ) (word : Text) (h : Held) → s.args_override_self ≡ false → AreFine s.rules s.rules
    → AllFit s.rules h.rows → other_fault s None word h ≡ [] → AllFit s.rules (subcommand_or_other s.rules None waiting position word h).0.rows
other-fits s waiting position word h once fine fit e = go (bytes_eq word (45 ∷ 45 ∷ [])) refl
  where
    go : (b : Bool) → bytes_eq word (45 ∷ 45 ∷ []) ≡ b → AllFit s.rules (subcommand_or_other s.rules None waiting position word h).0.rows
    go true t = rw t fit
    go false t = rw t (flag_word-fits s.rules waiting word (long_of word) h fine fit (rw (t, once) at e))

word-fits : (s : Shape) (trailing : Bool) (waiting : Waiting) (position : ℕ) (word : Text) (h : Held) → s.args_override_self ≡ false
    → AreFine s.rules s.rules → AllFit s.rules h.rows → word_fault s [] trailing waiting word h ≡ []
    → AllFit s.rules (word_met s.rules [] trailing waiting position word h).0.rows
word-fits s true waiting position word h once fine fit e = fit
word-fits s false idle position word h once fine fit e = other-fits s idle position word h once fine fit e
word-fits s false (option id) position word h once fine fit e = other-fits s (option id) position word h once fine fit e
word-fits s false positional position word h once fine fit e = other-fits s positional position word h once fine fit e

positional-fits : (s : Shape) (a : Rule) (word : Text) (h : Held) → s.args_override_self ≡ false → AreFine s.rules s.rules → AllFit s.rules h.rows
    → positional_fault s.rules s.args_override_self a h ≡ [] → AllFit s.rules (positional_held s.rules a word h).rows
positional-fits s a word h once fine fit e = go (is_pending a h.pending && takes_several a) refl
  where
    go : (b : Bool) → (is_pending a h.pending && takes_several a) ≡ b → AllFit s.rules (positional_held s.rules a word h).rows
    go true t = rw t fit
    go false t = rw t (settled-fits s.rules h fine fit (rw (t, once) at e))

step-fits : (s : Shape) (w : Walk) (word : Text) (h : Held) (step : Step) → s.args_override_self ≡ false → AreFine s.rules s.rules
    → AllFit s.rules h.rows → step_fault s w.position h step ≡ [] → AllFit s.rules (after_step s.rules word w h step).held.rows
step-fits s w word h (next waiting) once fine fit e = fit
step-fits s w word h (trailing position) once fine fit e = fit
step-fits s w word h (subcommand name) once fine fit e = fit
step-fits s w word h value once fine fit e = go (arg_by_index s.rules w.position) e
  where
    go : (o : Option Rule) → option_map_or (λ a. positional_fault s.rules s.args_override_self a h) o (stray_fault s) ≡ []
        → AllFit s.rules (to_positional s.rules o word w h).held.rows
    go None f = fit
    go (Some a) f = positional-fits s a word h once fine fit f

turn-fits : (s : Shape) (w : Walk) (word : Text) → s.args_override_self ≡ false → AreFine s.rules s.rules → AllFit s.rules w.held.rows
    → turn_fault s [] w word ≡ [] → AllFit s.rules (walked s.rules [] w word).held.rows
unfolding walked
turn-fits s w word once fine fit e = go w.stopped e
  where
    met : Held × Step
    met = word_met s.rules [] w.is_trailing w.waiting w.position word w.held

    go : (o : Option (Text × List Text))
        → (if is_some o then [] else or_else (word_fault s [] w.is_trailing w.waiting word w.held) (step_fault s w.position met.0 met.1)) ≡ []
        → AllFit s.rules (walked_from s.rules [] o w word).held.rows
    go (Some p) f = fit
    go None f =
        let parts = or_none (word_fault s [] w.is_trailing w.waiting word w.held) _ f in
        step-fits s w word _ _ once fine (word-fits s w.is_trailing w.waiting w.position word w.held once fine fit parts.0) parts.1

pub walk-fits : (s : Shape) (w : Walk) (words : List Text) → s.args_override_self ≡ false → AreFine s.rules s.rules → AllFit s.rules w.held.rows
    → walk_fault s [] w words ≡ [] → AllFit s.rules (fold (walked s.rules []) w words).held.rows
unfolding walk_fault
walk-fits s w [] once fine fit e = fit
walk-fits s w (word ∷ rest) once fine fit e =
    let parts = or_none (turn_fault s [] w word) _ e in
    walk-fits s (walked s.rules [] w word) rest once fine (turn-fits s w word once fine fit parts.0) parts.1

-- ---- defaults

default_rows-fit : (c : List Rule) (a : Rule) (values : List Text) (rows : List Row) → arg_by_id c a.id ≡ Some a → HasOneDefault values → AllFit c rows
    → has_row a.id rows ≡ false → (if is_empty values then [] else or_else (request_kinds (action_of a)) (values_fault a values)) ≡ []
    → AllFit c (default_rows a.id (reading_by a) values rows)
default_rows-fit c a [] rows known one fit fresh e = fit
default_rows-fit c a (v ∷ []) rows known one fit fresh e = fits-new c a v DefaultValue rows known fit fresh (or_none (request_kinds (action_of a)) _ e).1
default_rows-fit c a (v ∷ w ∷ rest) rows known one fit fresh e = absurd one

default-fits : (c : List Rule) (a : Rule) (rows : List Row) → IsFine c a → AllFit c rows → default_fault rows a ≡ [] → AllFit c (with_default rows a)
default-fits c a rows fine fit e = go (has_row a.id rows) refl
  where
    go : (b : Bool) → has_row a.id rows ≡ b → AllFit c (with_default rows a)
    go true t = rw t fit
    go false t = rw t (default_rows-fit c a a.defaults rows fine.0 fine.2 fit t (rw t at e))

pub defaults-fit : (c rules : List Rule) (rows : List Row) → AreFine c rules → AllFit c rows → defaults_fault rows rules ≡ [] → AllFit c (fold with_default rows rules)
unfolding defaults_fault
defaults-fit c [] rows fine fit e = fit
defaults-fit c (a ∷ rest) rows fine fit e =
    let parts = or_none (default_fault rows a) _ e in
    defaults-fit c rest (with_default rows a) fine.1 (default-fits c a rows fine.0 fit parts.0) parts.1
