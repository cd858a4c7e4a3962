use Rattle.std.proofs.Common.{sym, ap, ◌∙◌}
use Rattle.mx_request.specs.Endpoint.{HostAndPort}
use Rattle.mx_request.specs.Request.{chained}
use Rattle.mx_request.proofs.NextLemmas.{built_ok}
use Rattle.mx_request.proofs.ToldLemmas.{chained_first}
use Rattle.mx_request.proofs.request.Request.build.Goals as goal

pub returns-clause-answer : goal.returns-clause-answer
returns-clause-answer c =
    rw c.in_ok-request_in_chain.ensures.value
    (built_ok c.args.method c.args.text.now c.args.settings _ _ c.in_ok-url.ensures.answer (sym c.refusal_of.ensures ∙ c.in_default.is) c.in_ok-first.ensures.value)

pub returns-clause-built : goal.returns-clause-built
returns-clause-built c = record {
  url = c.in_ok-url.url;
  parsed = c.in_ok-url.ensures.answer;
  valid = c.in_ok-first.ensures.valid;
  allowed = sym c.refusal_of.ensures ∙ c.in_default.is;
  value = c.in_ok-request_in_chain.ensures.value ∙ ap (λ (f : HostAndPort). chained f c.args.method c.in_ok-url.url c.args.settings) c.in_ok-first.ensures.value ∙ chained_first c.args.method c.in_ok-url.url c.args.settings;
}
