-- The data that a value, an array and an object stand for.
use Rattle.std.specs.Prelude.{List, map}
use Rattle.serde_json.specs.Data.{Data, Members}
use Rattle.serde_json.specs.View.{view, members_view}
use Rattle.noise_json.specs.declared.array.Array.{Array}
use Rattle.noise_json.specs.declared.json.Json.{Json}
use Rattle.noise_json.specs.declared.object.Object.{Object}

abbrev pub data_of : Json → Data
data_of json = view json.value

abbrev pub items_in : Array → List Data
items_in list = map view list.items.items

abbrev pub members_in : Object → Members
members_in object = members_view object.members.entries
