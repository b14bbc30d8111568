-- The page that Prometheus reads (text format 0.0.4).
use Rattle.std.specs.Prelude.{ℕ, ◌++◌, ◌/◌, ◌%◌, List, [], codes, decimal, flat_map, Option, Some, None}
use Rattle.bh_figures.specs.Figures.{bounds, classes, class_word, count_of, methods, method_word, total, within}
use Rattle.bh_figures.specs.declared.figures.Class.{Class}
use Rattle.bh_figures.specs.declared.figures.Figures.{Figures}
use Rattle.bh_figures.specs.declared.figures.Method.{Method}
use Rattle.bh_figures.specs.declared.page.Readings.{Readings}
use Rattle.bh_figures.specs.declared.page.Sizes.{Sizes}

-- ---- a metric

-- the two lines that say what it is
unfoldable pub head : List ℕ → List ℕ → List ℕ → List ℕ
head name help kind =
    codes "# HELP bucketd_server_" ++ (name ++ (codes " " ++ (help
    ++ (codes "\n# TYPE bucketd_server_" ++ (name ++ (codes " " ++ (kind ++ codes "\n")))))))

-- a line with a number
abbrev pub row : List ℕ → List ℕ → List ℕ
row name number = codes "bucketd_server_" ++ (name ++ (codes " " ++ (number ++ codes "\n")))

-- a number that only grows
unfoldable pub counter : List ℕ → List ℕ → List ℕ → List ℕ
counter name help number = head name help (codes "counter") ++ row name number

-- a number that is left out where it isn't known
abbrev pub gauge : List ℕ → List ℕ → Option ℕ → List ℕ
gauge name help None = []
gauge name help (Some number) = head name help (codes "gauge") ++ row name (decimal number)

-- milliseconds as seconds
abbrev pub seconds : ℕ → List ℕ
seconds ms = decimal (ms / 1_000) ++ (codes "." ++ (decimal (ms / 100 % 10) ++ (decimal (ms / 10 % 10) ++ decimal (ms % 10))))

-- ---- requests

unfoldable pub request_row : Figures → Method → Class → List ℕ
request_row it method class =
    codes "bucketd_server_requests_total{method=\"" ++ (method_word method ++ (codes "\",status=\"" ++ (class_word class
    ++ (codes "\"} " ++ (decimal (count_of it method class) ++ codes "\n")))))

unfoldable pub method_rows : Figures → Method → List ℕ
method_rows it method = flat_map (request_row it method) classes

unfoldable pub requests : Figures → List ℕ
requests it =
    head (codes "requests_total") (codes "Requests, by method and class of status.") (codes "counter") ++ flat_map (method_rows it) methods

-- ---- their times

unfoldable pub bucket_row : Figures → ℕ → List ℕ
bucket_row it bound =
    codes "bucketd_server_request_seconds_bucket{le=\"" ++ (seconds bound ++ (codes "\"} " ++ (decimal (within it bound) ++ codes "\n")))

unfoldable pub bucket_rows : Figures → List ℕ
bucket_rows it = flat_map (bucket_row it) bounds

-- all of them, their seconds, and how many they are
unfoldable pub sums : Figures → List ℕ
sums it =
    codes "bucketd_server_request_seconds_bucket{le=\"+Inf\"} " ++ (decimal (total it.buckets)
    ++ (codes "\nbucketd_server_request_seconds_sum " ++ (seconds it.took
    ++ (codes "\nbucketd_server_request_seconds_count " ++ (decimal (total it.buckets) ++ codes "\n")))))

unfoldable pub times : Figures → List ℕ
times it =
    head (codes "request_seconds") (codes "Time that requests were served.") (codes "histogram")
    ++ (bucket_rows it ++ sums it)

-- ---- all the rest

unfoldable pub traffic : Figures → List ℕ
traffic it =
    counter (codes "received_bytes_total") (codes "Bytes of requests.") (decimal it.received)
    ++ (counter (codes "sent_bytes_total") (codes "Bytes of responses.") (decimal it.sent)
    ++ counter (codes "lines_total") (codes "Lines of operators.") (decimal it.lines))

unfoldable pub sweeps : Figures → List ℕ
sweeps it =
    counter (codes "sweep_steps_total") (codes "Steps of the server's own sweeps.") (decimal it.steps)
    ++ counter (codes "sweep_seconds_total") (codes "Time of these steps.") (seconds it.swept)

unfoldable pub garbage : Figures → List ℕ
garbage it =
    gauge (codes "garbage_bytes") (codes "Bytes of blocks that no reference names, by the last count.") it.garbage
    ++ gauge (codes "keep_garbage_bytes") (codes "Bytes of such blocks that may stay before a sweep begins.") it.keep

unfoldable pub cache : Figures → List ℕ
cache it =
    counter (codes "cache_hits_total") (codes "Blocks that were read from the cache.") (decimal it.hits)
    ++ counter (codes "cache_misses_total") (codes "Blocks that were read from their rows, to be cached.") (decimal it.misses)

unfoldable pub files : Sizes → List ℕ
files sizes =
    gauge (codes "file_bytes") (codes "Bytes of the host's file.") sizes.file
    ++ gauge (codes "log_bytes") (codes "Bytes of its write-ahead log.") sizes.log

unfoldable pub state : Figures → Readings → List ℕ
state it readings =
    gauge (codes "uptime_seconds") (codes "Seconds since the server began.") readings.uptime
    ++ (gauge (codes "last_stamp_seconds") (codes "The last timestamp since the start, in seconds since 1970.") it.stamp
    ++ (files readings.sizes ++ (garbage it ++ cache it)))

abbrev pub page : Figures → Readings → List ℕ
page it readings = requests it ++ (times it ++ (traffic it ++ (sweeps it ++ state it readings)))
