-- Who published before a place, once for each version.
use Rattle.std.specs.Prelude.{ℕ, ◌==◌, Bool, Option, Some, None, if◌then◌else◌}
use Rattle.tp_model.specs.Words.{AdminId, Fact, What}
use Rattle.tp_model.specs.Words.what
use Rattle.tp_model.specs.Facts.{is_earlier}

abbrev pub publisher_what : What → Option AdminId
publisher_what (what.Published admin version) = Some admin
publisher_what _ = None

abbrev pub publisher : ℕ → Fact → Option AdminId
publisher place fact = if is_earlier place fact then publisher_what fact.what else None

abbrev pub is_number : ℕ → AdminId → Bool
is_number number admin = admin.0 == number
