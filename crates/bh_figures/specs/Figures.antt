-- What a server counts from its start on.
use Rattle.std.specs.Prelude.{ℕ, zero, suc, ◌+◌, ◌-◌, ◌^◌, Bool, List, [], ◌∷◌, codes, min, nat_eq, nat_le, position, unwrap_or}
use Rattle.std.specs.Prelude.{if◌then◌else◌, fold, slice_index_or, slice_set, take, Option, Some, None}
use Rattle.std.specs.List.{starts_with, slice_get}
use Rattle.bh_figures.specs.declared.figures.Class.{Class}
use Rattle.bh_figures.specs.declared.figures.Class.TheVariants.{Well, Elsewhere, Refused, Failed, Unanswered}
use Rattle.bh_figures.specs.declared.figures.Figures.{Figures}
use Rattle.bh_figures.specs.declared.figures.Method.{Method}
use Rattle.bh_figures.specs.declared.figures.Method.TheVariants.{Get, Head, Put, Post, Delete, Other}

-- ---- what is counted of a request

abbrev pub begins : List ℕ → List ℕ → Bool
begins request word = starts_with nat_eq request word

-- by its first word
abbrev pub method_of : List ℕ → Method
method_of request =
    if begins request (codes "GET ") then Get else (if begins request (codes "HEAD ") then Head
    else (if begins request (codes "PUT ") then Put else (if begins request (codes "POST ") then Post
    else (if begins request (codes "DELETE ") then Delete else Other))))

-- by the first digit of its status, the tenth byte of a response
abbrev pub class_of_digit : Option ℕ → Class
class_of_digit None = Unanswered
class_of_digit (Some digit) =
    if nat_eq digit 50 then Well else (if nat_eq digit 51 then Elsewhere else (if nat_eq digit 52 then Refused
    else (if nat_eq digit 53 then Failed else Unanswered)))

abbrev pub class_of : List ℕ → Class
class_of response = class_of_digit (slice_get response 9)

abbrev pub methods : List Method
methods = Get ∷ Head ∷ Put ∷ Post ∷ Delete ∷ Other ∷ []

abbrev pub classes : List Class
classes = Well ∷ Elsewhere ∷ Refused ∷ Failed ∷ Unanswered ∷ []

abbrev pub method_word : Method → List ℕ
method_word Get = codes "GET"
method_word Head = codes "HEAD"
method_word Put = codes "PUT"
method_word Post = codes "POST"
method_word Delete = codes "DELETE"
method_word Other = codes "other"

abbrev pub class_word : Class → List ℕ
class_word Well = codes "2xx"
class_word Elsewhere = codes "3xx"
class_word Refused = codes "4xx"
class_word Failed = codes "5xx"
class_word Unanswered = codes "none"

abbrev pub method_place : Method → ℕ
method_place Get = 0
method_place Head = 1
method_place Put = 2
method_place Post = 3
method_place Delete = 4
method_place Other = 5

abbrev pub class_place : Class → ℕ
class_place Well = 0
class_place Elsewhere = 1
class_place Refused = 2
class_place Failed = 3
class_place Unanswered = 4

-- milliseconds; a longer time is in the last bucket
abbrev pub bounds : List ℕ
bounds = 1 ∷ 2 ∷ 5 ∷ 10 ∷ 25 ∷ 50 ∷ 100 ∷ 250 ∷ 500 ∷ 1_000 ∷ 5_000 ∷ 30_000 ∷ []

abbrev pub bucket_of : ℕ → ℕ
bucket_of took = unwrap_or (position (λ bound. nat_le took bound) bounds) 12

-- ---- counting

-- no count goes beyond the greatest number of 64 bits
abbrev pub more : ℕ → ℕ → ℕ
more count by = min (count + by) (2 ^ 64 - 1)

-- one more at a place
abbrev pub one_more : ℕ → List ℕ → List ℕ
one_more place counts = slice_set counts place (more (slice_index_or counts place 0) 1)

abbrev pub row_of : Figures → Method → List ℕ
row_of it method = slice_index_or it.requests (method_place method) []

abbrev pub with_class : Figures → Method → Class → Figures
with_class it method class =
    record it { requests = slice_set it.requests (method_place method) (one_more (class_place class) (row_of it method)) }

abbrev pub with_time : Figures → ℕ → Figures
with_time it took = record it { buckets = one_more (bucket_of took) it.buckets; took = more it.took took }

abbrev pub with_bytes : Figures → ℕ → ℕ → Figures
with_bytes it received sent = record it { received = more it.received received; sent = more it.sent sent }

abbrev pub with_request : Figures → Method → Class → ℕ → ℕ → ℕ → Figures
with_request it method class received sent took = with_bytes (with_time (with_class it method class) took) received sent

abbrev pub with_line : Figures → Figures
with_line it = record it { lines = more it.lines 1 }

abbrev pub with_step : Figures → ℕ → Figures
with_step it took = record it { steps = more it.steps 1; swept = more it.swept took }

-- the moment of the last event that counted
abbrev pub with_stamp : Figures → Option ℕ → Figures
with_stamp it None = it
with_stamp it (Some moment) = record it { stamp = Some moment }

-- the bytes that nobody needs by the last count, and how many of them may stay
abbrev pub with_garbage : Figures → ℕ → ℕ → Figures
with_garbage it bytes keep = record it { garbage = Some bytes; keep = Some keep }

-- so many blocks were read from the cache so far, and so many from their rows
abbrev pub with_cache : Figures → ℕ → ℕ → Figures
with_cache it hits misses = record it { hits = hits; misses = misses }

-- ---- what was counted

abbrev pub count_of : Figures → Method → Class → ℕ
count_of it method class = slice_index_or (row_of it method) (class_place class) 0

abbrev pub total : List ℕ → ℕ
total counts = fold more 0 counts

-- of the requests, those that took at most so long: those of its bucket and of the ones before
abbrev pub within : Figures → ℕ → ℕ
within it bound = total (take (bucket_of bound + 1) it.buckets)

-- nothing was counted
abbrev pub zeros : ℕ → List ℕ
zeros zero = []
zeros (suc n) = 0 ∷ zeros n

abbrev pub none : Figures
none = record {
  requests = zeros 5 ∷ zeros 5 ∷ zeros 5 ∷ zeros 5 ∷ zeros 5 ∷ zeros 5 ∷ [];
  buckets = zeros 13;
  took = 0;
  received = 0;
  sent = 0;
  lines = 0;
  steps = 0;
  swept = 0;
  stamp = None;
  garbage = None;
  keep = None;
  hits = 0;
  misses = 0;
}
