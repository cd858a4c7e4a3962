-- The requests of URLs.
use Rattle.std.proofs.Common.{◌≡◌, ℕ, List, ap, sym, ◌∙◌, inl, inr}
use Rattle.std.specs.Prelude.{◌⊎◌, Result, Ok, Err, MatchResult}
use Rattle.mx_types.specs.Settings.{SettingsValue, no_settings}
use Rattle.mx_types.specs.declared.method.Method.TheVariants as method
use Rattle.mx_request.specs.Request.{RequestValue, request_of}
use Rattle.mx_request.specs.RequestError.{refusal_code}
use Rattle.mx_request.specs.declared.error.RequestError.{RequestError}
use Rattle.mx_request.specs.declared.error.RequestError.TheVariants as refusal
use Rattle.mx_text.specs.Asking.{asked_for, asked_or_code}

-- what was built, or why it was not
pub built : (timeout_ms max_redirects : ℕ) (url : List ℕ) (settings : SettingsValue) (result : Result RequestValue RequestError)
    → settings ≡ record no_settings { timeout_ms = timeout_ms; max_redirects = max_redirects }
    → MatchResult result (λ r. request_of method.Get url settings ≡ Ok r) (λ e. (request_of method.Get url settings ≡ Err e) ⊎ (e ≡ refusal.OutOfMemory))
    → MatchResult result (λ r. asked_for timeout_ms max_redirects url ≡ Ok r) (λ e. (asked_for timeout_ms max_redirects url ≡ Err (refusal_code e)) ⊎ (e ≡ refusal.OutOfMemory))
unfolding asked_for
built timeout_ms max_redirects url settings (Ok r) is at = ap (λ s. asked_or_code (request_of method.Get url s)) (sym is) ∙ ap asked_or_code at
built timeout_ms max_redirects url settings (Err e) is (inl at) = inl (ap (λ s. asked_or_code (request_of method.Get url s)) (sym is) ∙ ap asked_or_code at)
built timeout_ms max_redirects url settings (Err e) is (inr at) = inr at
