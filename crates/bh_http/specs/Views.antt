-- A request as contracts see it: lists of bytes.
use Rattle.std.specs.Prelude.{ℕ, List, map, Result, Ok, Err}
use Rattle.bh_types.specs.declared.refusal.Refusal.{Refusal}
use Rattle.bh_http.specs.declared.request.Field.{Field}
use Rattle.bh_http.specs.declared.request.Head.{Head}
use Rattle.bh_http.specs.declared.request.Request.{Request}

-- a field's name and value
abbrev pub pair_of : Field → List ℕ × List ℕ
pair_of field = (field.name.now, field.value.now)

-- the names and values of fields, in their order
abbrev pub pairs_of : List Field → List (List ℕ × List ℕ)
pairs_of fields = map pair_of fields

-- the head of a request: its method, its target, 0 or 1 for HTTP/1.0 or HTTP/1.1, and its fields
-- RFC 9112, sections 3 and 5
pub record Parts : Type 0 where
  pub method : List ℕ
  pub target : List ℕ
  pub minor : ℕ
  pub fields : List (List ℕ × List ℕ)

-- a request that was accepted
pub record Taken : Type 0 where
  pub method : List ℕ
  pub target : List ℕ
  pub fields : List (List ℕ × List ℕ)
  pub body : List ℕ

-- a head that was accepted, and the size of the body that it announces
pub record Announced : Type 0 where
  pub method : List ℕ
  pub target : List ℕ
  pub fields : List (List ℕ × List ℕ)
  pub size : ℕ

-- a head as contracts see it
abbrev pub announced_view : Head → Announced
announced_view head = record {
  method = head.method.now;
  target = head.target.now;
  fields = pairs_of head.fields.items;
  size = head.body_size;
}

-- the request of a head and a body
abbrev pub with_body : Head → List ℕ → Taken
with_body head body = record {
  method = head.method.now;
  target = head.target.now;
  fields = pairs_of head.fields.items;
  body = body;
}

-- a request as contracts see it
abbrev pub view : Request → Taken
view request = with_body request.head request.body.now

-- a result of parsing as contracts see it
abbrev pub viewed : Result Request Refusal → Result Taken Refusal
viewed (Ok request) = Ok (view request)
viewed (Err refusal) = Err refusal
