-- What stands in a document, as the data of `serde_json`, by which RFC 8259 defines its text.
use Rattle.std.specs.Prelude.{ℕ, ◌==◌, ◌-◌, Bool, List, [], ◌∷◌, codes, if◌then◌else◌, length, map, take}
use Rattle.std.specs.List.{slice_split}
use Rattle.std.specs.Str.{is_utf8}
use Rattle.hex.specs.Hex.{encode_lower}
use Rattle.serde_json.specs.Data.{Data, string, array, object, Members, no_members, put}
use Rattle.serde_json.specs.View.{items_of}

-- these members, with this one too; one of the same name gives way to it
unfoldable pub with : List ℕ → Data → Members → Members
with = put

-- bytes as hexadecimal digits
unfoldable pub hex_data : List ℕ → Data
hex_data bytes = object (with (codes "hex") (string (encode_lower bytes)) no_members)

-- a text, or bytes that are none
unfoldable pub bytes_data : List ℕ → Data
bytes_data bytes = if is_utf8 bytes then string bytes else hex_data bytes

abbrev pub list_data : List Data → Data
list_data items = array (items_of items)

-- what stands between line feeds
abbrev pub pieces_of : List ℕ → List (List ℕ)
pieces_of text = slice_split (λ b. b == 10) text

-- what stands before each line feed
unfoldable pub lines_in : List ℕ → List (List ℕ)
lines_in text = take (length (pieces_of text) - 1) (pieces_of text)

-- the lines of a text
unfoldable pub lines_data : List ℕ → Data
lines_data text = list_data (map bytes_data (lines_in text))
