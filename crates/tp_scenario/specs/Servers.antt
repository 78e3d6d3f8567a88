-- Servers: what they know at the start, and their items.
use Rattle.std.specs.Prelude.{ℕ, zero, suc, ◌+◌, ◌-◌, List, [], ◌∷◌, ◌++◌, length, slice_get, slice_set, neg_ℤ, if◌then◌else◌, Option, Some, None, Result, Ok, Err, ok_or, map}
use Rattle.std.specs.Option.{option_map_or}
use Rattle.serde_json.specs.Data.{Data, Members, no_members, member}
use Rattle.serde_json.specs.Find.{as_object}
use Rattle.tp_types.specs.Spelling.{is_name}
use Rattle.tp_model.specs.Words.{Admin, Item, ItemId, ServerDecl, Version}
use Rattle.tp_model.specs.Limits.{items_limit, servers_limit, value_limit}
use Rattle.tp_scenario.specs.declared.fault.Fault.{Fault}
use Rattle.tp_scenario.specs.declared.fault.Kind.TheVariants as kind
use Rattle.tp_scenario.specs.declared.path.Key.TheVariants.{Servers, Name, Knows, Items as ItemsKey, Admin as AdminKey, Min, Max, Value}
use Rattle.tp_scenario.specs.declared.path.Path.TheVariants.{Whole, Top, Member, Field, Entry, Inner}
use Rattle.tp_scenario.specs.declared.path.Site.{Site}
use Rattle.tp_scenario.specs.declared.path.Site.TheVariants as site
use Rattle.tp_scenario.specs.declared.servers.Served.{Served}
use Rattle.tp_scenario.specs.Admins.{admin_name}
use Rattle.tp_scenario.specs.Chain.{◌>>=◌}
use Rattle.tp_scenario.specs.Faults.{shape}
use Rattle.tp_scenario.specs.Names.{Names, place_of}
use Rattle.tp_scenario.specs.Values.{count_at, each, field, items_at, new_name_at, object_at, place_at, through, whole_in}

-- ---- what a server knows

-- where a fault in the value of a key stands: at the key if it is spelled as a name, else at the whole object
unfoldable pub key_site : ℕ → List ℕ → Site
key_site server text =
    if is_name text then site.Known server text else site.At (Field Servers server Knows)

abbrev pub with_site : {X : Type 0} → Site → Result X Fault → Result X Fault
with_site at (Ok x) = Ok x
with_site at (Err fault) = Err (record { kind = fault.kind; site = at })

-- the version at a key: 1 to the opening version
unfoldable pub version_at : ℕ → List ℕ → ℕ → Data → Result Version Fault
version_at server text opening d =
    with_site (key_site server text) (count_at Whole 1 opening (Some d))
    >>= λ count. Ok (record { 0 = count })

abbrev pub opening_number : List Admin → ℕ → ℕ
opening_number admins place = option_map_or (λ admin. admin.opening.0) (slice_get admins place) 0

-- a key names an administrator
unfoldable pub key_at : Names → ℕ → List ℕ → Result ℕ Fault
key_at admins server text =
    ok_or (place_of text admins) (record { kind = kind.Unknown; site = key_site server text })

-- a key and its value, into the versions so far
unfoldable pub put_known : List Admin → ℕ → List Version → List ℕ → Data
    → Result (List Version) Fault
put_known admins server versions text d = do
  place ← key_at (map admin_name admins) server text
  version ← version_at server text (opening_number admins place) d
  Ok (slice_set versions place version)

-- the keys in byte order
abbrev pub known_from : List Admin → ℕ → List Version → Members → Result (List Version) Fault
known_from admins server versions no_members = Ok versions
known_from admins server versions (member text d members) =
    put_known admins server versions text d >>= λ more. known_from admins server more members

abbrev pub opening : Admin → Version
opening admin = admin.opening

abbrev pub knows_in : List Admin → ℕ → Option Data → Result (List Version) Fault
knows_in admins server None = Ok (map opening admins)
knows_in admins server (Some d) =
    ok_or (as_object d) (shape (Field Servers server Knows))
    >>= known_from admins server (map opening admins)

-- the version that the server knows of each administrator: the opening one where none is told
unfoldable pub knows_at : List Admin → ℕ → Option Data → Result (List Version) Fault
knows_at admins server value = knows_in admins server value

-- ---- items

abbrev pub item_name : Item → List ℕ
item_name item = item.name

-- the item of this index at its server, after those of these names: min <= max, and min <= value <= max
unfoldable pub item_at : Names → Names → ℕ → ℕ → Data → Result Item Fault
item_at admins names server at d = do
  fields ← object_at (Entry Servers server ItemsKey at)
      (Name ∷ AdminKey ∷ Min ∷ Max ∷ Value ∷ []) [] d
  name ← new_name_at (Inner Servers server ItemsKey at Name) names (field Name fields)
  admin ← place_at (Inner Servers server ItemsKey at AdminKey) admins (field AdminKey fields)
  min ← whole_in (Inner Servers server ItemsKey at Min) (neg_ℤ value_limit) value_limit
      (field Min fields)
  max ← whole_in (Inner Servers server ItemsKey at Max) min value_limit (field Max fields)
  value ← whole_in (Inner Servers server ItemsKey at Value) min max (field Value fields)
  Ok (record {
    name = name;
    server = record { 0 = server };
    admin = record { 0 = admin };
    min = min;
    max = max;
    value = value;
  })

-- an item after all these, of which the first so many are of earlier servers
abbrev pub item_in : Names → ℕ → ℕ → List Item → Data → Result Item Fault
item_in admins server before made d =
    item_at admins (map item_name made) server (length made - before) d

-- so many ids from this one on
abbrev pub ids_from : ℕ → ℕ → List ItemId
ids_from first zero = []
ids_from first (suc count) = ids_from first count ++ record { 0 = first + count } ∷ []

-- ---- servers

abbrev pub server_name : ServerDecl → List ℕ
server_name server = server.name

-- the items of a server after those of earlier ones, at most 64
unfoldable pub items_in : Names → ℕ → List Item → Option Data → Result (List Item) Fault
items_in admins server items value = do
  values ← items_at (Field Servers server ItemsKey) 0 items_limit value
  each (item_in admins server (length items)) items values

-- the next server and its items
unfoldable pub server_in : List Admin → Served → Data → Result Served Fault
server_in admins served d = do
  fields ← object_at (Member Servers (length served.servers)) (Name ∷ ItemsKey ∷ []) (Knows ∷ []) d
  name ← new_name_at (Field Servers (length served.servers) Name) (map server_name served.servers)
      (field Name fields)
  knows ← knows_at admins (length served.servers) (field Knows fields)
  items ← items_in (map admin_name admins) (length served.servers) served.items
      (field ItemsKey fields)
  Ok (record {
    servers = served.servers
        ++ record {
          name = name;
          knows = knows;
          items = ids_from (length served.items) (length items - length served.items);
        }
        ∷ [];
    items = items;
  })

abbrev pub nothing_served : Served
nothing_served = record { servers = []; items = [] }

-- 1 to 16 servers
unfoldable pub servers_at : List Admin → Option Data → Result Served Fault
servers_at admins value = do
  servers ← items_at (Top Servers) 1 servers_limit value
  through (server_in admins) nothing_served servers
