-- Words in which `clap` finds no fault tell a line.
use Rattle.std.proofs.Common.{◌≡◌, ◌∙◌, ◌⊎◌, ℕ, Bool, true, false, List, [], ◌∷◌, Option, Some, None, inl, inr, refl, sym, subst, codes}
use Rattle.std.specs.Prelude.{◌&&◌, ◌||◌, find, fold, not, is_some, if◌then◌else◌}
use Rattle.std.specs.List.{list_any}
use Rattle.std.specs.Str.{bytes_eq}
use Rattle.std.proofs.lemmas.Bool.{false≢true}
use Rattle.std.proofs.lemmas.Slice.Eq.{bytes_eq-Decides}
use Rattle.clap.specs.Faults.{check_fault, defaults_fault, entered_fault, fault_of, other_fault, settle_fault, step_fault, turn_fault, walk_fault, word_fault}
use Rattle.clap.specs.Kinds.{check_kinds, or_else}
use Rattle.clap.specs.Lexer.{long_of, short_of}
use Rattle.clap.specs.Simple.{Shape, argument_words, built, entered, label_of, names_of, subcommand_of}
use Rattle.clap.specs.Takes.{is_given}
use Rattle.clap.specs.Walk.{Held, Names, Outcome, Row, Rule, Step, Text, Waiting, Walk, after_flag, after_step, answers_to, arg_by_index, done, finished, idle, long_or_other, next, nothing_held, option, plain, plain_word, positional, refused, rows_after, settled, short_or_plain, subcommand, subcommand_met, subcommand_or_other, to_positional, trailing, value, waits, walk, walk_from, walked, walked_from, word_met}
use Rattle.bh_event.specs.declared.name.OrderName.TheVariants as order
use Rattle.bh_words.proofs.Leaves.{leaf-told}
use Rattle.bh_words.proofs.Taken.{or_none, same_some}
use Rattle.bh_words.proofs.Valued.{IsTaken}
use Rattle.bh_words.specs.Commands.{the_command}
use Rattle.bh_words.specs.Readings.{line_in, line_of}
use Rattle.bh_words.specs.declared.subcommands.Subcommand.TheVariants as chosen

-- ---- the subcommand that is met is not `help`

NotHelp : Option (Text × List Text) → Type 0
NotHelp None = Unit {0}
NotHelp (Some p) = bytes_eq p.0 (codes "help") ≡ false

MeetsNone : Step → Type 0
MeetsNone (next waiting) = Unit {0}
MeetsNone (trailing position) = Unit {0}
MeetsNone (subcommand name) = ⊥
MeetsNone value = Unit {0}

plain-none : (c : List Rule) (waiting : Waiting) (word : Text) (h : Held) → MeetsNone (plain_word c waiting word h).1
unfolding MeetsNone
plain-none c idle word h = tt
plain-none c positional word h = tt
plain-none c (option id) word h = tt

flag-none : (c : List Rule) (waiting : Waiting) (word : Text) (h : Held) (o : Outcome) → MeetsNone (after_flag c waiting word h o).1
unfolding MeetsNone
flag-none c waiting word h done = tt
flag-none c waiting word h (waits id) = tt
flag-none c waiting word h plain = plain-none c waiting word h
flag-none c waiting word h refused = plain-none c waiting word h

long-none : (c : List Rule) (waiting : Waiting) (word : Text) (l : Option (Text × Option Text)) (h : Held) → MeetsNone (long_or_other c waiting word l h).1
long-none c waiting word (Some p) h = flag-none c waiting word _ _
long-none c waiting word None h = go (short_of word)
  where
    go : (o : Option Text) → MeetsNone (short_or_plain c waiting word o h).1
    go None = plain-none c waiting word h
    go (Some flags) = flag-none c waiting word _ _

other-none : (c : List Rule) (waiting : Waiting) (position : ℕ) (word : Text) (h : Held) → MeetsNone (subcommand_or_other c None waiting position word h).1
unfolding MeetsNone
other-none c waiting position word h = go (bytes_eq word (45 ∷ 45 ∷ [])) refl
  where
    go : (b : Bool) → bytes_eq word (45 ∷ 45 ∷ []) ≡ b → MeetsNone (subcommand_or_other c None waiting position word h).1
    go true t = rw t tt
    go false t = rw t (long-none c waiting word (long_of word) h)

step-keeps : (c : List Rule) (word : Text) (w : Walk) (h : Held) (step : Step) → MeetsNone step → NotHelp w.stopped → NotHelp (after_step c word w h step).stopped
unfolding MeetsNone NotHelp
step-keeps c word w h (next waiting) none k = k
step-keeps c word w h (trailing position) none k = k
step-keeps c word w h (subcommand name) none k = absurd none
step-keeps c word w h value none k = go (arg_by_index c w.position)
  where
    go : (o : Option Rule) → NotHelp (to_positional c o word w h).stopped
    go None = k
    go (Some a) = tt

named-keeps : (s : Shape) (w : Walk) (word : Text) (o : Option Text) → s.disable_help_subcommand ≡ false → NotHelp w.stopped
    → other_fault s o word w.held ≡ []
    → NotHelp (after_step s.rules word w (subcommand_or_other s.rules o w.waiting w.position word w.held).0 (subcommand_or_other s.rules o w.waiting w.position word w.held).1).stopped
unfolding NotHelp
named-keeps s w word None helps k e = step-keeps s.rules word w _ _ (other-none s.rules w.waiting w.position word w.held) k
named-keeps s w word (Some name) helps k e = go (bytes_eq name (codes "help")) refl
  where
    go : (b : Bool) → bytes_eq name (codes "help") ≡ b → bytes_eq name (codes "help") ≡ false
    go true t =
        let bad = rw (t, helps) at e in
        cc
    go false t = t

met-keeps : (s : Shape) (names : Names) (w : Walk) (word : Text) (t : Bool) → s.disable_help_subcommand ≡ false → NotHelp w.stopped
    → word_fault s names t w.waiting word w.held ≡ []
    → NotHelp (after_step s.rules word w (word_met s.rules names t w.waiting w.position word w.held).0 (word_met s.rules names t w.waiting w.position word w.held).1).stopped
unfolding MeetsNone
met-keeps s names w word true helps k e = step-keeps s.rules word w w.held value tt k
met-keeps s names w word false helps k e = named-keeps s w word (subcommand_met names w.waiting word) helps k e

turn-keeps : (s : Shape) (names : Names) (w : Walk) (word : Text) → s.disable_help_subcommand ≡ false → NotHelp w.stopped
    → turn_fault s names w word ≡ [] → NotHelp (walked s.rules names w word).stopped
unfolding walked NotHelp
turn-keeps s names w word helps k e = go w.stopped k e
  where
    met : Held × Step
    met = word_met s.rules names w.is_trailing w.waiting w.position word w.held

    go : (o : Option (Text × List Text)) → NotHelp o
        → (if is_some o then [] else or_else (word_fault s names w.is_trailing w.waiting word w.held) (step_fault s w.position met.0 met.1)) ≡ []
        → NotHelp (walked_from s.rules names o w word).stopped
    go (Some p) n f = n
    go None n f = met-keeps s names w word w.is_trailing helps k (or_none (word_fault s names w.is_trailing w.waiting word w.held) _ f).0

walk-keeps : (s : Shape) (names : Names) (w : Walk) (words : List Text) → s.disable_help_subcommand ≡ false → NotHelp w.stopped
    → walk_fault s names w words ≡ [] → NotHelp (fold (walked s.rules names) w words).stopped
unfolding walk_fault
walk-keeps s names w [] helps k e = k
walk-keeps s names w (word ∷ rest) helps k e =
    let parts = or_none (turn_fault s names w word) _ e in
    walk-keeps s names (walked s.rules names w word) rest helps (turn-keeps s names w word helps k parts.0) parts.1

-- ---- each subcommand that can be met

IsTold : Shape → Type 0
IsTold s = ((words : List Text) → IsTaken s words → is_some (line_in (s.name, rows_after s.rules [] words)) ≡ true)
    ⊎ ((s.name ≡ codes "help") × (s.aliases ≡ []))

AllTold : List Shape → Type 0
AllTold [] = Unit {0}
AllTold (s ∷ rest) = IsTold s × AllTold rest

subs_told : AllTold (built the_command).subs
unfolding AllTold IsTold
subs_told = (inl (leaf-told chosen.Script), (inl (leaf-told chosen.Init), (inl (leaf-told (chosen.Order order.TenantAdd)), (inl (leaf-told (chosen.Order order.Quota)), (inl (leaf-told (chosen.Order order.TenantRemove)), (inl (leaf-told (chosen.Order order.KeyAdd)), (inl (leaf-told (chosen.Order order.KeyRemove)), (inl (leaf-told (chosen.Order order.Keys)), (inl (leaf-told (chosen.Order order.Usage)), (inl (leaf-told (chosen.Order order.Tenants)), (inl (leaf-told (chosen.Order order.Report)), (inl (leaf-told chosen.Check), (inl (leaf-told (chosen.Order order.Sweep)), (inl (leaf-told (chosen.Order order.Backup)), (inl (leaf-told chosen.Export), (inl (leaf-told chosen.Import), (inl (leaf-told chosen.Serve), (inl (leaf-told chosen.Tell), (inl (leaf-told (chosen.Order order.Stop)), (inl (leaf-told (chosen.Order order.Health)), (inl (leaf-told (chosen.Order order.Metrics)), (inl (leaf-told (chosen.Order order.ClockAccept)), (inr (refl, refl), tt)))))))))))))))))))))))

found-told : (shapes : List Shape) (test : Shape → Bool) (s : Shape) → AllTold shapes → find test shapes ≡ Some s → IsTold s × (test s ≡ true)
unfolding AllTold
found-told [] test s all e = cc
found-told (x ∷ xs) test s all e = go (test x) refl (found-told xs test s all.1)
  where
    go : (b : Bool) → test x ≡ b → (find test xs ≡ Some s → IsTold s × (test s ≡ true)) → IsTold s × (test s ≡ true)
    go true t rest =
        let same = same_some x s (rw t at e) in
        (subst IsTold same all.0, subst (λ (y : Shape). test y ≡ true) same t)
    go false t rest = rest (rw t at e)

-- ---- the whole line

wants : (a c : Bool) → check_kinds a true c ≡ [] → false ≡ true
wants true c e = cc
wants false c e = cc

must_enter : (rows : List Row) → check_fault (built the_command).top rows false ≡ [] → false ≡ true
must_enter rows e =
    let lacks = not ((built the_command).top.subcommand_negates_reqs && false) && list_any (λ (a : Rule). a.required && not (is_given a.id rows)) (built the_command).top.rules in
    wants _ lacks e

-- no call for help is met by a word that isn't `help`
other_name : (p : Text) → bytes_eq p (codes "help") ≡ false → (bytes_eq (codes "help") p || false) ≡ true → false ≡ true
other_name p apart same = go (bytes_eq (codes "help") p) refl
  where
    go : (b : Bool) → bytes_eq (codes "help") p ≡ b → false ≡ true
    go true t = sym apart ∙ (bytes_eq-Decides p (codes "help")).1 (sym ((bytes_eq-Decides (codes "help") p).0 t))
    go false t = rw t at same

shape-told : (s : Shape) (p : Text × List Text) → IsTold s → NotHelp (Some p) → answers_to p.0 (label_of s) ≡ true → IsTaken s p.1
    → is_some (line_in (s.name, rows_after s.rules [] p.1)) ≡ true
unfolding IsTold NotHelp
shape-told s p (inl told) apart met e = told p.1 e
shape-told s p (inr help) apart met e = absurd (false≢true (other_name p.0 apart (rw (help.0, help.1) at met)))

stop-told : (o : Option (Text × List Text)) (rows : List Row) → NotHelp o → entered_fault (built the_command) o ≡ []
    → check_fault (built the_command).top rows (is_some (entered (built the_command) o)) ≡ []
    → is_some (line_of (entered (built the_command) o)) ≡ true
stop-told None rows apart e f = absurd (false≢true (must_enter rows f))
stop-told (Some p) rows apart e f = go (find (λ s. answers_to p.0 (label_of s)) (built the_command).subs) refl
  where
    go : (o : Option Shape) → find (λ s. answers_to p.0 (label_of s)) (built the_command).subs ≡ o
        → is_some (line_of (entered (built the_command) (Some p))) ≡ true
    go None t =
        let fault : check_fault (built the_command).top rows false ≡ [] = rw t at f in
        absurd (false≢true (must_enter rows fault))
    go (Some s) t =
        let found = found-told (built the_command).subs (λ (s : Shape). answers_to p.0 (label_of s)) s subs_told t in
        rw t (shape-told s p found.0 apart found.1 (rw t at e))

pub told-taken : (words : List Text) → fault_of the_command words ≡ [] → is_some (line_of (subcommand_of the_command words)) ≡ true
unfolding NotHelp
told-taken words e =
    let b = built the_command in
    let given = argument_words the_command words in
    let w = walk b.top.rules (names_of b) nothing_held given in
    let walks = or_none (walk_fault b.top (names_of b) (walk_from nothing_held) given) _ e in
    let enters = or_none (entered_fault b w.stopped) _ walks.1 in
    let settles = or_none (settle_fault b.top.rules b.top.args_override_self w.held) _ enters.1 in
    let defaults = or_none (defaults_fault (settled b.top.rules w.held).rows b.top.rules) _ settles.1 in
    stop-told w.stopped (finished b.top.rules w.held) (walk-keeps b.top (names_of b) (walk_from nothing_held) given refl tt walks.0) enters.0 defaults.1
