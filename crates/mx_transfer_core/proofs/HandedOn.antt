-- All content that was handed on, at each turn and at the end of a transfer.
use Rattle.std.proofs.Common.{◌≡◌, ◌≢◌, ◌↔◌, ℕ, Bool, List, [], ◌∷◌, ◌++◌, ◌∙◌, sym, ap, subst, append_assoc, Option, Some, None, true, false, refl}
use Rattle.std.specs.Prelude.{IfSome, IfErr, Result, Ok, Err}
use Rattle.mx_request.specs.Request.{RequestValue}
use Rattle.mx_types.specs.declared.code.Code.{Code}
use Rattle.mx_types.specs.declared.code.Code.TheVariants as code
use Rattle.mx_flow.specs.Streams.{limit_of}
use Rattle.mx_line.specs.Endings.{is_given_code}
use Rattle.mx_line.specs.Lines.{HandsOver}
use Rattle.mx_sink.specs.Sinks.{is_sink_code}
use Rattle.mx_chain.specs.Chains.{ChainState}
use Rattle.mx_chain.specs.Outcomes.{OutcomeValue, EndsAs, limit_by, settled, settled_code}
use Rattle.mx_transfer_core.specs.Deliveries.{begun_for, IsHandedTo, MakesRoom, has_none, has_failed}

-- what was handed on before and in a turn is what the delivery was handed before and then all that is there
pub handed_on : (content is rest more handed : List ℕ) → content ≡ handed ++ rest → HandsOver content is rest more → is ≡ handed ++ more
handed_on content is rest more handed before hands =
    hands.grown
    ∙ ap (λ (l : List ℕ). l ++ hands.added) before
    ∙ append_assoc handed rest hands.added
    ∙ ap (λ (l : List ℕ). handed ++ l) (sym hands.handed)

-- what a delivery fails with is a code that a transfer is given
sink_given : (c : Code) (limit : ℕ) → is_sink_code c ≡ true → is_given_code c (Some limit) ≡ true
sink_given code.Ok limit e = cc
sink_given code.UnsupportedProtocol limit e = cc
sink_given code.UrlMalformat limit e = cc
sink_given code.CouldntResolveHost limit e = cc
sink_given code.CouldntConnect limit e = cc
sink_given code.WeirdServerReply limit e = cc
sink_given code.PartialFile limit e = cc
sink_given code.WriteError limit e = refl
sink_given code.OutOfMemory limit e = refl
sink_given code.OperationTimedout limit e = cc
sink_given code.TooManyRedirects limit e = cc
sink_given code.GotNothing limit e = cc
sink_given code.SendError limit e = cc
sink_given code.RecvError limit e = cc
sink_given code.BadContentEncoding limit e = cc
sink_given code.FilesizeExceeded limit e = cc
sink_given code.TooLarge limit e = cc

pub failure_given : (flows : Option (Option ℕ)) (limit : Option ℕ) (c : Code) → limit ≡ limit_by flows → flows ≢ None → is_sink_code c ≡ true → is_given_code c limit ≡ true
failure_given None limit c at flowing sinks = absurd (flowing refl)
failure_given (Some most) limit c at flowing sinks = subst (λ (l : Option ℕ). is_given_code c l ≡ true) (sym at) (sink_given c (limit_of most) sinks)

-- it has a limit where the response flows
pub limit_there : (flows : Option (Option ℕ)) (limit : Option ℕ) → limit ≡ limit_by flows → flows ≢ None → limit ≢ None
limit_there None limit at flowing = absurd (flowing refl)
limit_there (Some most) limit at flowing = λ none. let x : None ≡ Some (limit_of most) = sym none ∙ at in cc

-- a delivery that doesn't take content isn't one of a response that is held
pub flowing_is : (flows : Option (Option ℕ)) (room : Bool) → (flows ≡ None → room ≡ true) → room ≡ false → flows ≢ None
flowing_is flows room held none = λ e. let x : true ≡ false = sym (held e) ∙ none in cc

-- the failure of a delivery is no deadline
not_late : (f : Code) → is_sink_code f ≡ true → f ≡ code.OperationTimedout → ⊥
not_late f sinks e = let x : false ≡ true = sym (ap is_sink_code e) ∙ sinks in cc

-- a transfer begins with no content
pub begins_empty : (L : Type 0) (flows : Option (Option ℕ)) (request : RequestValue) → (begun_for {L = L} flows request).content ≡ []
begins_empty L None request = refl
begins_empty L (Some most_bytes) request = refl

-- nothing was handed to a delivery where there is no content
nothing_before : (content handed rest : List ℕ) → content ≡ [] → content ≡ handed ++ rest → handed ≡ []
nothing_before content [] rest none is = refl
nothing_before content (x ∷ handed) rest none is = absurd (let both : [] ≡ x ∷ (handed ++ rest) = sym none ∙ is in cc)

-- so of one that comes back
pub none_handed : {A E : Type 0} (handed : E → List ℕ) (content : List ℕ) (r : Result A E) → content ≡ [] → IfErr r (λ e. (rest : List ℕ) × (content ≡ handed e ++ rest))
    → IfErr r (λ e. handed e ≡ [])
none_handed handed content (Ok value) none back = back
none_handed handed content (Err e) none back = nothing_before content (handed e) back.0 none back.1
