-- How a place in the JSON of a scenario is written: `$`, then `.key` and `[index]`.
use Rattle.std.specs.Prelude.{ℕ, List, [], ◌++◌, codes, decimal}
use Rattle.tp_scenario.specs.declared.path.Key.{Key}
use Rattle.tp_scenario.specs.declared.path.Key.TheVariants as key
use Rattle.tp_scenario.specs.declared.path.Path.{Path}
use Rattle.tp_scenario.specs.declared.path.Path.TheVariants as path
use Rattle.tp_scenario.specs.declared.path.Site.{Site}
use Rattle.tp_scenario.specs.declared.path.Site.TheVariants as site

-- how a key is spelled
abbrev pub key_text : Key → List ℕ
key_text key.Admins = codes "admins"
key_text key.Clock = codes "clock"
key_text key.Credentials = codes "credentials"
key_text key.Servers = codes "servers"
key_text key.Transactions = codes "transactions"
key_text key.Steps = codes "steps"
key_text key.Clients = codes "clients"
key_text key.Publishers = codes "publishers"
key_text key.Officers = codes "officers"
key_text key.Name = codes "name"
key_text key.Policies = codes "policies"
key_text key.Opening = codes "opening"
key_text key.Issuer = codes "issuer"
key_text key.Subject = codes "subject"
key_text key.Attr = codes "attr"
key_text key.Value = codes "value"
key_text key.From = codes "from"
key_text key.Until = codes "until"
key_text key.Knows = codes "knows"
key_text key.Items = codes "items"
key_text key.Admin = codes "admin"
key_text key.Min = codes "min"
key_text key.Max = codes "max"
key_text key.Scheme = codes "scheme"
key_text key.Level = codes "level"
key_text key.Rounds = codes "rounds"
key_text key.Queries = codes "queries"

unfoldable pub of_key : Key → List ℕ
of_key key = codes "." ++ key_text key

unfoldable pub at_index : ℕ → List ℕ
at_index index = codes "[" ++ decimal index ++ codes "]"

-- what follows the `$`
abbrev pub below : Path → List ℕ
below path.Whole = []
below (path.Top top) = of_key top
below (path.Member top index) = of_key top ++ at_index index
below (path.Field top index key) = of_key top ++ at_index index ++ of_key key
below (path.Entry top index key inner) =
    of_key top ++ at_index index ++ of_key key ++ at_index inner
below (path.Inner top index key inner last) =
    of_key top ++ at_index index ++ of_key key ++ at_index inner ++ of_key last
below (path.Line top index line) = of_key top ++ at_index index ++ at_index line

abbrev pub below_site : Site → List ℕ
below_site (site.At path) = below path
below_site (site.Known server admin) =
    of_key key.Servers ++ at_index server ++ of_key key.Knows ++ codes "." ++ admin

abbrev pub site_text : Site → List ℕ
site_text site = codes "$" ++ below_site site
