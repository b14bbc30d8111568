-- The common members of the pages of a bucket's listings, as JSON data: a document gets its members
-- one by one.
use Rattle.std.specs.Prelude.{ℕ, List, codes, is_some, Option, Some, option_map, option_and_then, string_bytes}
use Rattle.serde_json.specs.Data.{Data, boolean, string, object, member, no_members}
use Rattle.bh_docs.specs.Documents.{natural, array_of, with_member}
use Rattle.bh_docs.specs.declared.page.Page.{Page}
use Rattle.bh_docs.specs.declared.page.Next.{Next}
use Rattle.bh_docs.specs.declared.prefix.CommonPrefix.{CommonPrefix}

-- {"Prefix":prefix}
abbrev pub prefix_data : CommonPrefix → Data
prefix_data p = object (member (codes "Prefix") (string (string_bytes p.prefix)) no_members)

module _ {E N : Type 0} where
  -- a page with neither lists nor markers, by its listing's names for the bucket and for the size of a page
  abbrev pub head_data : List ℕ → List ℕ → Page E N → Data
  head_data bucket_name max_name p =
      with_member (codes "Prefix") (Some (string (string_bytes p.prefix)))
      (with_member bucket_name (Some (string (string_bytes p.bucket)))
      (with_member max_name (Some (natural p.max))
      (with_member (codes "IsTruncated") (Some (boolean (is_some p.next))) (object no_members))))

  -- with its grouped names, and its entries under a name
  abbrev pub with_lists : (E → Data) → List ℕ → Page E N → Data → Data
  with_lists shown list_name p document =
      with_member list_name (Some (array_of shown p.entries.items))
      (with_member (codes "CommonPrefixes") (Some (array_of prefix_data p.prefixes.items)) document)

module _ {I : Type 0} where
  abbrev pub name_data : Option (Next I) → Option Data
  name_data next = option_map (λ (n : Next I). string (string_bytes n.name)) next

  abbrev pub id_data : (I → List ℕ) → Option (Next I) → Option Data
  id_data text next = option_map (λ id. string (text id)) (option_and_then (λ (n : Next I). n.id) next)

  -- with the markers of the next page; the id's has a name
  abbrev pub with_markers : (I → List ℕ) → List ℕ → Option (Next I) → Data → Data
  with_markers text id_name next document =
      with_member id_name (id_data text next) (with_member (codes "NextKeyMarker") (name_data next) document)
