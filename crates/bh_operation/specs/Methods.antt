-- A request's method.
use Rattle.std.specs.Prelude.{ℕ, List, codes, if◌then◌else◌}
use Rattle.std.specs.Str.{bytes_eq}
use Rattle.bh_operation.specs.declared.method.Method.{Method}
use Rattle.bh_operation.specs.declared.method.Method.TheVariants as method

-- RFC 9110, section 9.1
abbrev pub method_of : List ℕ → Method
method_of name =
    if bytes_eq name (codes "GET") then method.Get
    else if bytes_eq name (codes "HEAD") then method.Head
    else if bytes_eq name (codes "PUT") then method.Put
    else if bytes_eq name (codes "POST") then method.Post
    else if bytes_eq name (codes "DELETE") then method.Delete
    else method.Other
