-- The request of a URL.
use Rattle.std.specs.Prelude.{ℕ, List, Result, Ok, Err}
use Rattle.mx_types.specs.Settings.{no_settings}
use Rattle.mx_types.specs.declared.code.Code.{Code}
use Rattle.mx_types.specs.declared.method.Method.TheVariants as method
use Rattle.mx_request.specs.Request.{RequestValue, request_of}
use Rattle.mx_request.specs.RequestError.{refusal_code}
use Rattle.mx_request.specs.declared.error.RequestError.{RequestError}

-- a request, or the code of its refusal
abbrev pub asked_or_code : Result RequestValue RequestError → Result RequestValue Code
asked_or_code (Ok request) = Ok request
asked_or_code (Err refused) = Err (refusal_code refused)

-- the GET of a URL, which may take so many milliseconds and follow so many redirects, or the code with which the URL is refused
unfoldable pub asked_for : ℕ → ℕ → List ℕ → Result RequestValue Code
asked_for timeout_ms max_redirects url =
    asked_or_code (request_of method.Get url (record no_settings { timeout_ms = timeout_ms; max_redirects = max_redirects }))
