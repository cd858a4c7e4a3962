-- What is built, and what follows, is a request as any other.
use Rattle.std.proofs.Common.{◌≡◌, Ok, Err, None, refl, sym, subst}
use Rattle.std.specs.Prelude.{Result}
use Rattle.mx_types.specs.Settings.{SettingsValue}
use Rattle.mx_types.specs.declared.method.Method.{Method}
use Rattle.mx_request.specs.Endpoint.{HostAndPort}
use Rattle.mx_request.specs.Laws.{BuiltIsRequest}
use Rattle.mx_request.specs.Redirects.{next_method, next_settings, joined_url, next_to, next_request, NextIsRequest}
use Rattle.mx_request.specs.Request.{RequestValue, IsRequest, checked_url, refusal_of, request_to, chained}
use Rattle.mx_request.specs.declared.error.RequestError.{RequestError}
use Rattle.mx_request.proofs.NextLemmas.{joined_checked}
use Rattle.mx_request.proofs.ToldLemmas.{chained_first, next_allowed}
use Rattle.mx_request.proofs.UrlLemmas.{parsed_checked}
use Rattle.url.specs.Parts.{Parts, IsValid}

first_is : (m : Method) (url : Parts) (s : SettingsValue) → IsValid url → checked_url (Ok url) ≡ Ok url → refusal_of s ≡ None → IsRequest (request_to m url s)
first_is m url s valid checked allowed = record {
  valid = valid;
  checked = checked;
  allowed = allowed;
  value = sym (chained_first m url s);
}

pub built_is_request : BuiltIsRequest
built_is_request m text s r built =
    subst IsRequest (sym built.value) (first_is m built.url s built.valid (parsed_checked text built.url built.parsed) built.allowed)

later_is : (first : HostAndPort) (m : Method) (url : Parts) (s : SettingsValue) → IsValid url → checked_url (Ok url) ≡ Ok url → refusal_of s ≡ None → IsRequest (chained first m url s)
later_is first m url s valid checked allowed = record {
  valid = valid;
  checked = checked;
  allowed = allowed;
  value = refl;
}

pub next_is_request : NextIsRequest
unfolding next_request
next_is_request r next status location is valid e = cases (joined_url r.url location) (λ url same. same) e
  where
    cases : (u : Result Parts RequestError) → ((url : Parts) → u ≡ Ok url → joined_url r.url location ≡ Ok url) → next_to u r status ≡ Ok next → IsRequest next
    cases (Err x) joined e = cc
    cases (Ok url) joined e =
        let same : next ≡ chained r.first (next_method status r.method) url (next_settings status r.method r.settings) = cc in
        subst IsRequest (sym same) (
        later_is r.first (next_method status r.method) url (next_settings status r.method r.settings) (subst (λ (n : RequestValue). IsValid n.url) same valid)
        (joined_checked r.url location url (joined url refl)) (next_allowed status r.method r.settings is.allowed)
        )
