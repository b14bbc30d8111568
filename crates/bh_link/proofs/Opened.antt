-- What the bytes up to the end of a head are read as.
use Rattle.std.proofs.Common.{◌≡◌, ℕ, List, [], ◌++◌, append-nil, sym, ap, subst, ◌∙◌, arith, inl, inr, Option, Result, Ok, Err, is_ok, true≢false}
use Rattle.httparse.specs.Grammar.{RequestHead}
use Rattle.httparse.proofs.GrammarLemmas.{request_unique}
use Rattle.bh_types.specs.Limits.{HostLimits}
use Rattle.bh_types.specs.declared.refusal.Refusal.{Refusal}
use Rattle.bh_http.specs.Arriving.{NeverAccepted}
use Rattle.bh_http.specs.Reading.{Reads, ReadsHead, HasHead, announcing, completed, framing, parts_of}
use Rattle.bh_http.specs.Views.{Announced, Parts}
use Rattle.bh_http.proofs.ArrivingLemmas.{has_head-append}
use Rattle.bh_http.proofs.Completing.{head_reads}
use Rattle.bh_link.specs.Taking.{Opens, Took}
use Rattle.bh_link.proofs.TakingLemmas.{consumes_none, finish}

abbrev Answer : Type 0
Answer = Result (Announced × List ℕ) Refusal

abbrev head_or : Answer → Announced × List ℕ → Announced × List ℕ
head_or (Ok x) other = x
head_or (Err refusal) other = other

-- what the framing of a head that is accepted announces
announces : (p : Parts) (r : List ℕ) (f : Result ℕ Refusal) (head : Announced) (rest : List ℕ) → ◌≡◌ {A = Answer} (Ok (head, rest)) (announcing p r f) → (f ≡ Ok head.size) × (rest ≡ r)
announces p r (Ok size) head rest e =
    let same = ap (λ x. head_or x (head, rest)) e in
    (ap (λ (x : Announced × List ℕ). Ok x.0.size) (sym same), ap (λ (x : Announced × List ℕ). x.1) same)
announces p r (Err refusal) head rest e = absurd (true≢false (ap is_ok e))

announces_more : (p : Parts) (r more : List ℕ) (f : Result ℕ Refusal) (head : Announced) (rest : List ℕ) → ◌≡◌ {A = Answer} (Ok (head, rest)) (announcing p r f) → ◌≡◌ {A = Answer} (Ok (head, rest ++ more)) (announcing p (r ++ more) f)
announces_more p r more (Ok size) head rest e =
    let same = ap (λ x. head_or x (head, rest)) e in
    ap (λ (x : Announced × List ℕ). Ok (x.0, x.1 ++ more)) same
announces_more p r more (Err refusal) head rest e = absurd (true≢false (ap is_ok e))

refuses : (p : Parts) (r : List ℕ) (f : Result ℕ Refusal) (refusal : Refusal) (size : ℕ) → ◌≡◌ {A = Answer} (Err refusal) (announcing p r f) → f ≡ Ok size → ⊥
refuses p r (Ok n) refusal size e ok = absurd (true≢false (sym (ap is_ok e)))
refuses p r (Err other) refusal size e ok = absurd (true≢false (sym (ap is_ok ok)))

both : (refusal : Refusal) (size : ℕ) (f : Result ℕ Refusal) → f ≡ Err refusal → f ≡ Ok size → ⊥
both refusal size f x y = absurd (true≢false (sym (ap is_ok (sym x ∙ y))))

same_size : (a b : ℕ) (f : Result ℕ Refusal) → f ≡ Ok a → f ≡ Ok b → a ≡ b
same_size a b f x y = go (sym x ∙ y)
  where
    value_or : Result ℕ Refusal → ℕ → ℕ
    value_or (Ok n) other = n
    value_or (Err e) other = other

    go : ◌≡◌ {A = Result ℕ Refusal} (Ok a) (Ok b) → a ≡ b
    go e = ap (λ r. value_or r a) e

framed_alike : (limits : HostLimits) (bytes : List ℕ) (a b : RequestHead) (r q : List ℕ) → HasHead bytes a r → HasHead bytes b q → framing limits (parts_of a) ≡ framing limits (parts_of b)
framed_alike limits bytes a b r q has other = ap (λ h. framing limits (parts_of h)) (request_unique bytes a b r q has.reads other.reads).0

never_read : (limits : HostLimits) (bytes : List ℕ) (head : RequestHead) (rest : List ℕ) (size : ℕ) → NeverAccepted limits bytes → HasHead bytes head rest → framing limits (parts_of head) ≡ Ok size → ⊥
never_read limits bytes head rest size never has ok = elim never [
  | inl none ↦ none [] head (rest ++ []) (has_head-append bytes [] head rest has)
  | inr (other, left, refusal, has2, err) ↦ both refusal size _ (framed_alike limits bytes head other rest left has has2 ∙ err) ok
]

module _ (limits : HostLimits) (start now : Option (List ℕ)) (bytes : List ℕ) (body : ℕ) (opens : Opens limits start now bytes body) where
  -- a head that is accepted is all of them, and announces what is to come
  pub opened_head : (head : Announced) (rest : List ℕ) → ReadsHead limits bytes (Ok (head, rest)) → (head.size ≡ body) × (rest ≡ [])
  opened_head head rest reads = elim reads [
    | inl (none, e) ↦ absurd (true≢false (ap is_ok e))
    | inr (found, after, has, e) ↦
        let (framed, same) = announces (parts_of found) after _ head rest e in
        elim opens.came_to [
          | inl (never, zero) ↦ absurd (never_read limits bytes found after head.size never has framed)
          | inr others ↦ elim others [
            | inl (end, (none, zero)) ↦ absurd (none found after has)
            | inr (its, has2, ok) ↦ (
              same_size head.size body _ framed (framed_alike limits bytes found its after [] has has2 ∙ ok),
              same ∙ (request_unique bytes found its after [] has.reads has2.reads).1,
            )
          ]
        ]
  ]

  -- what is refused is refused whatever else comes
  pub opened_refused : (refusal : Refusal) → ReadsHead limits bytes (Err refusal) → Took limits start now bytes × Reads limits bytes (Err refusal)
  opened_refused refusal reads = (
    elim opens.came_to [
      | inl (never, zero) ↦ took zero
      | inr others ↦ elim others [
        | inl (end, (none, zero)) ↦ took zero
        | inr (its, has2, ok) ↦ elim reads [
          | inl (none, e) ↦ absurd (none its [] has2)
          | inr (found, after, has, e) ↦ absurd (refuses (parts_of found) after _ refusal body e (framed_alike limits bytes found its after [] has has2 ∙ ok))
        ]
      ]
    ],
    head_reads limits bytes (Err refusal) reads,
  )
    where
      took : body ≡ 0 → Took limits start now bytes
      took zero = subst (λ t. Took limits start now t) (append-nil bytes) (finish limits start now now bytes [] body opens (consumes_none now) (omega arith) (inl (omega (arith, zero))))

-- with what comes of its body it is read as the request of both
pub headed_reads : (limits : HostLimits) (bytes given : List ℕ) (head : Announced) → ReadsHead limits bytes (Ok (head, [])) → Reads limits (bytes ++ given) (completed head given)
headed_reads limits bytes given head reads = head_reads limits (bytes ++ given) (Ok (head, given)) (elim reads [
  | inl (none, e) ↦ absurd (true≢false (ap is_ok e))
  | inr (found, after, has, e) ↦ inr (found, after ++ given, has_head-append bytes given found after has, announces_more (parts_of found) after given _ head [] e)
])
