-- The values of a response's fields.
use Rattle.std.specs.Prelude.{ℕ, List, ◌++◌, codes, decimal}
use Rattle.bh_http.specs.declared.values.Allow.{Allow}
use Rattle.bh_http.specs.declared.values.Allow.TheVariants.{Service, Bucket, Object, Marker}
use Rattle.bh_http.specs.declared.values.ContentRange.{ContentRange}
use Rattle.bh_http.specs.declared.values.ContentRange.TheVariants.{Part, Unsatisfied}
use Rattle.bh_http.specs.declared.values.ContentType.{ContentType}
use Rattle.bh_http.specs.declared.values.ContentType.TheVariants.{Json, OctetStream}

-- RFC 8259, section 11; RFC 2046, section 4.5.1
abbrev pub content_type_text : ContentType → List ℕ
content_type_text Json = codes "application/json"
content_type_text OctetStream = codes "application/octet-stream"

-- bytes first-last/size, or bytes */size
-- RFC 9110, section 14.4
abbrev pub content_range_text : ContentRange → List ℕ
content_range_text (Part first last size) =
    codes "bytes " ++ (decimal first ++ (codes "-" ++ (decimal last ++ (codes "/" ++ decimal size))))
content_range_text (Unsatisfied size) = codes "bytes */" ++ decimal size

-- RFC 9110, section 10.2.1
abbrev pub allow_text : Allow → List ℕ
allow_text Service = codes "GET"
allow_text Bucket = codes "DELETE, GET, HEAD, PUT"
allow_text Object = codes "DELETE, GET, HEAD, POST, PUT"
allow_text Marker = codes "DELETE"
