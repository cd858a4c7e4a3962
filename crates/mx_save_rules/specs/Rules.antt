-- After which ends a URL is tried again, and after how long.
use Rattle.std.specs.Prelude.{ℕ, ◌-◌, ◌^◌, ◌==◌, ◌&&◌, ◌||◌, min, Bool, List, [], ◌∷◌}
use Rattle.std.specs.List.{list_any}
use Rattle.mx_types.specs.Code.{code_number}
use Rattle.mx_types.specs.Method.{is_repeatable}
use Rattle.mx_types.specs.declared.code.Code.{Code}
use Rattle.mx_types.specs.declared.method.Method.{Method}

-- numbers of libcurl-errors(3): no host, no connection, a cut body, the timeout, no answer, a failed write, a failed read
abbrev pub transient_codes : List ℕ
transient_codes = 6 ∷ 7 ∷ 18 ∷ 28 ∷ 52 ∷ 55 ∷ 56 ∷ []

-- statuses of RFC 9110, 15.5.9, 15.6.1, 15.6.3, 15.6.4 and 15.6.5, and of RFC 6585, 4
abbrev pub transient_statuses : List ℕ
transient_statuses = 408 ∷ 429 ∷ 500 ∷ 502 ∷ 503 ∷ 504 ∷ []

abbrev pub is_transient_code : Code → Bool
is_transient_code code = list_any (λ n. code_number code == n) transient_codes

abbrev pub is_transient_status : ℕ → Bool
is_transient_status status = list_any (λ n. status == n) transient_statuses

-- rule save-retries: A GET or HEAD is tried again that ended with 6, 7, 18, 28, 52, 55, 56 or with status 408, 429, 500, 502, 503, 504;
-- after 1, 2, 4 and up to 60 seconds.
--
-- the method is repeatable, and the code or the status may pass
abbrev pub is_retried : Method → Code → ℕ → Bool
is_retried method code status = is_repeatable method && (is_transient_code code || is_transient_status status)

-- rule save-retries
-- after so many tries: a second, twice as long each time, and at most a minute
abbrev pub delay_seconds : ℕ → ℕ
delay_seconds tries = min (2 ^ (tries - 1)) 60
