-- The origin of work that is of no request.
use Rattle.std.specs.Prelude.{[]}
use Rattle.mx_types.specs.Settings.{no_settings}
use Rattle.mx_types.specs.declared.method.Method.TheVariants as method
use Rattle.mx_types.specs.declared.origin.Origin.{Origin}

-- what stands for a request where work has none, as in a script and in tests
abbrev pub no_request : Origin
no_request = record { method = method.Get; url = []; settings = no_settings; first_host = []; first_port = 0 }
