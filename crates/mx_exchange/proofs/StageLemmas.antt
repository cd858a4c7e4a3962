-- What stays known of a stage.
use Rattle.std.proofs.Common.{◌≡◌, ◌∙◌, ℕ, Bool, true, false, List, [], length, ap, sym, Option, Some, None, refl}
use Rattle.mx_types.specs.declared.code.Code.{Code}
use Rattle.mx_types.specs.declared.code.Code.TheVariants as code
use Rattle.mx_request.specs.Request.{RequestValue}
use Rattle.mx_link.specs.declared.answers.Answer.{Answer}
use Rattle.mx_line.specs.Endings.{is_given_code, is_stop_code}
use Rattle.mx_line.specs.Lines.{LineState}
use Rattle.mx_exchange.specs.Exchanges.{ExchangeState, capped, dropped}
use Rattle.mx_exchange.specs.Stages.{alive, link_of, line_of, IsServing, IsStage}
use Rattle.mx_exchange.specs.declared.exchanges.stages.Live.{Live}
use Rattle.mx_exchange.specs.declared.exchanges.stages.Stage.{Stage}
use Rattle.mx_exchange.specs.declared.exchanges.stages.Stage.TheVariants as stage
use Rattle.std.specs.Prelude.{IfSome, is_some, ◌&&◌}
use Rattle.mx_request.specs.Redirects.{is_redirect_status}
use Rattle.mx_body.specs.Decision.{bytes_at}
use Rattle.mx_body.specs.declared.part.Part.{Part}

-- what goes on is what was taken out
pub live_is : {L : Type 0} (a b : Live L) → stage.Live a ≡ stage.Live b → b ≡ a
live_is {L} a b e = let same : stage.Live a ≡ stage.Live b = e in cc

module _ {L : Type 0} (history : L → List Answer) (asked : L → List ℕ) (token_of : L → ℕ) (request : RequestValue) (limit : Option ℕ) (failure : Option Code) where
  no_line : (fresh more : Bool) (line : Option (LineState L)) → link_of line ≡ None → IfSome line (IsServing history asked token_of request limit more failure)
  no_line fresh more None e = tt
  no_line fresh more (Some l) e = cc

  -- where there is no link, a fresh one may be wanted
  pub wants_fresh : (fresh : Bool) (s : Stage L) → link_of (line_of s) ≡ None → IsStage history asked token_of request limit fresh failure s → IsStage history asked token_of request limit true failure s
  wants_fresh fresh (stage.Live o) e h = record { about = h.about; limit_is = h.limit_is; going = h.going; serves = no_line fresh true o.line e }
  wants_fresh fresh (stage.Ended o) e h = record { serves = no_line fresh true o.line e; kept = h.kept; bounded = h.bounded }

-- an exchange whose link found something at its probe, and is dropped
pub dropped_by : {L : Type 0} (t : ExchangeState L) (o : Live L) → o.reader.wire ≡ [] → o.reader.judgement.content ≡ []
    → alive (record t { needs_fresh = true }) (record o { line = None }) ≡ dropped (alive t o)
dropped_by t o wire content =
    ap (λ (w : List ℕ). record (dropped (alive t o)) { received = capped (length w); content = o.reader.judgement.content }) wire
    ∙ ap (λ (w : List ℕ). record (dropped (alive t o)) { content = w }) content

-- a code that was given may end the exchange
pub given_stops : (c : Code) (limit : Option ℕ) → is_given_code c limit ≡ true → is_stop_code c limit ≡ true
given_stops code.Ok limit is = is
given_stops code.UnsupportedProtocol limit is = is
given_stops code.UrlMalformat limit is = is
given_stops code.CouldntResolveHost limit is = is
given_stops code.CouldntConnect limit is = is
given_stops code.WeirdServerReply limit is = is
given_stops code.PartialFile limit is = is
given_stops code.WriteError limit is = is
given_stops code.OutOfMemory limit is = is
given_stops code.OperationTimedout limit is = refl
given_stops code.TooManyRedirects limit is = is
given_stops code.GotNothing limit is = is
given_stops code.SendError limit is = is
given_stops code.RecvError limit is = is
given_stops code.BadContentEncoding limit is = is
given_stops code.FilesizeExceeded limit is = is
given_stops code.TooLarge limit is = is

located : (kept : List ℕ) (place : Option Part) → is_some (bytes_at kept place) ≡ is_some place
located kept None = refl
located kept (Some p) = refl

-- a head sends its request on where its status does and it has a location
pub sends_then : (status : ℕ) (kept : List ℕ) (place : Option Part) (redirects some : Bool) → redirects ≡ is_redirect_status status → redirects ≡ true → some ≡ is_some place
    → some ≡ (is_redirect_status status && is_some (bytes_at kept place))
sends_then status kept place redirects some is so has = has ∙ sym (located kept place) ∙ ap (λ (b : Bool). b && is_some (bytes_at kept place)) (sym so ∙ is)

pub sends_else : (status : ℕ) (kept : List ℕ) (place : Option Part) (redirects : Bool) → redirects ≡ is_redirect_status status → redirects ≡ false
    → redirects ≡ (is_redirect_status status && is_some (bytes_at kept place))
sends_else status kept place redirects is so = so ∙ ap (λ (b : Bool). b && is_some (bytes_at kept place)) (sym so ∙ is)
