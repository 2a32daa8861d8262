-- A node's attributes, as the code gives them: their ids and zero bytes, and where their values are. Definitions only.
use Rattle.std.specs.Prelude.{ℕ, List, map}
use Rattle.bits.specs.Bytes.{bytes_from}
use Rattle.svgtree.specs.declared.Found.{Found}
use Rattle.svgtree.specs.declared.attributes.Attribute.{Attribute as Listed}
use Rattle.svgtree.specs.Values.{Value, Attribute}
use Rattle.svgtree.specs.Parse.{value_at, attribute_id, attribute_kind_at, attribute_zero_at, attribute_length_at, value_place, places_from, attributes_place, attribute_count}

-- the value that an attribute of the sheet has, and its bytes
abbrev pub value_of : List ℕ → Found → Value
value_of s f = value_at s f.kind f.at f.len

abbrev pub value_bytes : List ℕ → Found → List ℕ
value_bytes s f = bytes_from s f.at f.len

-- what an attribute says
abbrev pub attribute_of : List ℕ → Listed → Attribute
attribute_of s a = record { id = a.id; value = value_of s a.value }

-- the attribute that begins at a place
abbrev pub read_at : List ℕ → ℕ → Listed
read_at s at =
    record {
      id = attribute_id s at;
      zero = attribute_zero_at s at;
      value = record { at = value_place at; len = attribute_length_at s at; kind = attribute_kind_at s at };
    }

-- n attributes from a place on, and those of the node at an offset
unfoldable pub read_from : List ℕ → (at n : ℕ) → List Listed
read_from s at n = map (read_at s) (places_from s at n)

abbrev pub read_of : List ℕ → ℕ → List Listed
read_of s at = read_from s (attributes_place at) (attribute_count s at)
