-- Why a transfer whose body is too large has no reason that is told.
use Rattle.std.proofs.Common.{◌≡◌, ℕ, true, false, sym, ap, subst, ◌∙◌}
use Rattle.std.specs.Prelude.{Option, Some, None, IfSome}
use Rattle.mx_types.specs.declared.code.Code.{Code}
use Rattle.mx_types.specs.declared.code.Code.TheVariants as code
use Rattle.mx_sink.specs.Sinks.{is_sink_code}
use Rattle.mx_exchange.specs.Exchanges.{HopValue}
use Rattle.mx_exchange.specs.Hops.{IsHop, TellsReason}
use Rattle.mx_exchange.proofs.Whys.{large_has_none, whole_has_none}
use Rattle.mx_chain.specs.Hops.{EndsWith, stays, too_many, refused, memory}
use Rattle.mx_chain.specs.Outcomes.{OutcomeValue, IsEnd, settled_code}
use Rattle.mx_chain.proofs.HopLemmas.{redirect_ok}

-- no failure of a delivery has its code
settled_large : (failure : Option Code) (c : Code) → IfSome failure (λ f. is_sink_code f ≡ true) → settled_code failure c ≡ code.FilesizeExceeded → c ≡ code.FilesizeExceeded
settled_large None c sinks large = large
settled_large (Some f) code.Ok sinks large =
    let bad : false ≡ true = sym (ap is_sink_code large) ∙ sinks in
    absurd (cc)
settled_large (Some f) c sinks large = large

-- the last hop has it, or is a whole response whose redirect was refused
ended_large : (most followed : ℕ) (o : HopValue) (c : Code) → IsHop o → EndsWith most followed o c → c ≡ code.FilesizeExceeded → TellsReason o None
ended_large most followed o c is (stays r) large = large_has_none o is large
ended_large most followed o c is (too_many r all) large = absurd (cc)
ended_large most followed o c is (refused f r few none) large = whole_has_none o is (redirect_ok most o r)
ended_large most followed o c is (memory r few) large = absurd (cc)

pub large_tells_none : (o : OutcomeValue) → IsEnd o → o.code ≡ code.FilesizeExceeded → TellsReason o.last None
large_tells_none o is large =
    let same = is.ends.is in
    let last : o.last ≡ is.end.last = ap (λ (x : OutcomeValue). x.last) same in
    let ended = settled_large is.ends.failure is.end.code is.ends.sinks (sym (ap (λ (x : OutcomeValue). x.code) same) ∙ large) in
    subst (λ (h : HopValue). TellsReason h None) (sym last)
    (ended_large is.end.request.settings.max_redirects _ is.end.last is.end.code is.chain.last is.chain.ends ended)
