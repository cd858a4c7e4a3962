-- Hops that lead one to the next, and how a chain of them ends.
use Rattle.std.proofs.Common.{◌≡◌, ℕ, zero, suc, ◌≤◌, ◌<◌, Bool, true, false, List, [], ◌∷◌, ◌++◌, length, Some, None, Ok, Err, inl, inr, ◌⊎◌, refl, sym, ap, ◌∙◌, subst, ◌↔◌, arith}
use Rattle.std.specs.Prelude.{is_some, if◌then◌else◌, ◌||◌, ◌&&◌, ◌==◌, not, Option, option_map, slice_get, IfSome}
use Rattle.std.proofs.Math.ListN.{get_or}
use Rattle.std.proofs.lemmas.Bool.{and_parts}
use Rattle.std.proofs.lemmas.List.Sums.{sum_by-append}
use Rattle.mx_types.specs.declared.code.Code.{Code}
use Rattle.mx_types.specs.declared.code.Code.TheVariants as code
use Rattle.mx_request.specs.Redirects.{is_redirect_status}
use Rattle.mx_request.specs.Request.{RequestValue, IsRequest}
use Rattle.mx_request.specs.RequestError.{refusal_code}
use Rattle.mx_request.specs.declared.error.RequestError.{RequestError}
use Rattle.mx_request.specs.declared.error.RequestError.TheVariants as refusal
use Rattle.httparse.specs.Grammar.{ResponseHead, print_response}
use Rattle.mx_body.specs.Response.{print_heads, StandsAtBody}
use Rattle.mx_body.specs.Decision.{HasFinalHead, HasHeads}
use Rattle.mx_body.specs.Parts.{joined}
use Rattle.mx_body.proofs.EmptyLemmas.{no_final}
use Rattle.mx_body.proofs.HeadsLemmas.{same_body}
use Rattle.mx_flow.proofs.StreamProofs.{heads_alone}
use Rattle.mx_flow.specs.Streams.{limit_of}
use Rattle.mx_reader.specs.Readers.{IsKept}
use Rattle.mx_sink.specs.Sinks.{is_sink_code}
use Rattle.mx_exchange.specs.Hops as hop
use Rattle.mx_exchange.specs.Exchanges.{HopValue}
use Rattle.mx_chain.specs.Hops.{is_ok, is_redirect, sends_on, next_of, LeadTo, EndsWith, stays, too_many, refused, memory}
use Rattle.mx_chain.specs.Chains.{bytes_in, counted}
use Rattle.mx_chain.specs.Followed.{AreHeld}
use Rattle.mx_chain.specs.Outcomes.{IsChainEnd, IsEnd, IsOutcome, OutcomeValue, first_of, limit_by, outcome_of, passed_on, settled, settled_code, size_by, size_of, is_outcome_code, is_unfollowed_code}

-- one hop more
pub leads_on : (most : ℕ) (first : RequestValue) (hops : List HopValue) (o : HopValue) (next : RequestValue) → LeadTo most first hops o.request
    → is_redirect most o ≡ true → hop.IsHop o → next_of o ≡ Ok next → LeadTo most first (hops ++ o ∷ []) next
leads_on most first [] o next l r h n = (sym l, r, h, (next, n, refl))
leads_on most first (x ∷ hops) o next l r h n = (l.0, l.1, l.2, (l.3.0, l.3.1, leads_on most l.3.0 hops o next l.3.2 r h n))

-- the request that hops lead from is that of the first
pub first_is : (most : ℕ) (first : RequestValue) (hops : List HopValue) (last : HopValue) → LeadTo most first hops last.request → first_of hops last ≡ first
first_is most first [] last l = sym l
first_is most first (x ∷ hops) last l = l.0

-- it is that of the first hop, where there is one, and else that under way
pub request_of_first : (most : ℕ) (first : RequestValue) (hops : List HopValue) (last r : RequestValue) → LeadTo most first hops last
    → Some r ≡ option_map (λ o. o.request) (slice_get hops 0) → r ≡ first
request_of_first most first [] last r l e = cc
request_of_first most first (x ∷ hops) last r l e =
    let same : Some r ≡ Some x.request = e in
    let is : r ≡ x.request = cc in
    is ∙ l.0

pub request_of_none : (most : ℕ) (first : RequestValue) (hops : List HopValue) (last : RequestValue) → LeadTo most first hops last
    → None ≡ option_map (λ (o : HopValue). o.request) (slice_get hops 0) → last ≡ first
request_of_none most first [] last l e = sym l
request_of_none most first (x ∷ hops) last l e = cc

-- the request that hops lead from can be sent, as that of each hop can
request_of : (most : ℕ) (first : RequestValue) (hops : List HopValue) (last : HopValue) → LeadTo most first hops last.request → hop.IsHop last → IsRequest first
request_of most first [] last l h = subst IsRequest (sym l) h.request
request_of most first (x ∷ hops) last l h = subst IsRequest l.0 l.2.request

-- an outcome of these hops
pub made : (heads_alone : Bool) (first : RequestValue) (hops : List HopValue) (last : HopValue) (c : Code) → LeadTo first.settings.max_redirects first hops last.request
    → length hops ≤ first.settings.max_redirects → hop.IsHop last → (heads_alone ≡ false → last.limit ≡ None) → EndsWith first.settings.max_redirects (length hops) last c
    → IsChainEnd (outcome_of heads_alone hops last c)
made heads_alone first hops last c l few h kept e =
    let same = sym (first_is first.settings.max_redirects first hops last l) in
    record {
      value = refl;
      request = subst IsRequest same (request_of first.settings.max_redirects first hops last l h);
      leads = subst (λ (r : RequestValue). LeadTo r.settings.max_redirects r hops last.request) same l;
      few = subst (λ (r : RequestValue). length hops ≤ r.settings.max_redirects) same few;
      last = h;
      kept = kept;
      ends = subst (λ (r : RequestValue). EndsWith r.settings.max_redirects (length hops) last c) same e;
    }

-- where its responses are held it is an outcome
pub held_end : (o : OutcomeValue) → IsChainEnd o → o.last.limit ≡ None → IsOutcome o
held_end o e held = record { value = e.value; request = e.request; leads = e.leads; few = e.few; last = e.last; held = held; ends = e.ends }

-- nothing is handed on where there is no limit of the content
pub flows_none : (flows : Option (Option ℕ)) (limit : Option ℕ) → limit ≡ limit_by flows → limit ≡ None → flows ≡ None
flows_none None limit at e = refl
flows_none (Some most) limit at e = let x : Some (limit_of most) ≡ None = sym at ∙ e in absurd cc

-- where its responses are held what a transfer ended with is an outcome
pub end_held : (o : OutcomeValue) → IsEnd o → o.last.limit ≡ None → IsOutcome o
end_held o is held =
    let same : o.last.limit ≡ is.end.last.limit = ap (λ (x : OutcomeValue). x.last.limit) is.ends.is in
    let none : is.end.last.limit ≡ None = sym same ∙ held in
    subst IsOutcome (sym (is.ends.is ∙ ap (λ (f : Option Code). settled f is.end) (is.ends.held none))) (held_end is.end is.chain none)

-- the length in a message of a body that is held
pub held_size : (o : OutcomeValue) → o.last.limit ≡ None → size_of o ≡ length (joined o.wire o.parts)
held_size o held = ap (λ (limit : Option ℕ). size_by limit (length (joined o.wire o.parts)) (length o.content)) held

-- the failure of a delivery counts where the chain's code is 0, and there alone
settled_is : (f c : Code) → ((c ≡ code.Ok) × (settled_code (Some f) c ≡ f)) ⊎ (settled_code (Some f) c ≡ c)
settled_is f code.Ok = inl (refl, refl)
settled_is f code.UnsupportedProtocol = inr refl
settled_is f code.UrlMalformat = inr refl
settled_is f code.CouldntResolveHost = inr refl
settled_is f code.CouldntConnect = inr refl
settled_is f code.WeirdServerReply = inr refl
settled_is f code.PartialFile = inr refl
settled_is f code.WriteError = inr refl
settled_is f code.OutOfMemory = inr refl
settled_is f code.OperationTimedout = inr refl
settled_is f code.TooManyRedirects = inr refl
settled_is f code.GotNothing = inr refl
settled_is f code.SendError = inr refl
settled_is f code.RecvError = inr refl
settled_is f code.BadContentEncoding = inr refl
settled_is f code.FilesizeExceeded = inr refl
settled_is f code.TooLarge = inr refl

no_sink_is : (f : Code) → is_sink_code f ≡ true → f ≡ code.Ok → ⊥
no_sink_is f sinks e = let x : false ≡ true = sym (ap is_sink_code e) ∙ sinks in cc

-- with code 0 nothing failed
pub settled_ok : (failure : Option Code) (c : Code) → IfSome failure (λ f. is_sink_code f ≡ true) → settled_code failure c ≡ code.Ok → (c ≡ code.Ok) × (failure ≡ None)
settled_ok None c sinks e = (e, refl)
settled_ok (Some f) c sinks e = by (settled_is f c)
  where
    late : c ≡ code.Ok → (c ≡ code.Ok) × (Some f ≡ None)
    late ok = absurd (no_sink_is f sinks (sym (ap (settled_code (Some f)) ok) ∙ e))

    by : ((c ≡ code.Ok) × (settled_code (Some f) c ≡ f)) ⊎ (settled_code (Some f) c ≡ c) → (c ≡ code.Ok) × (Some f ≡ None)
    by (inl so) = late so.0
    by (inr so) = late (sym so ∙ e)

sink_listed : (f : Code) (l : ℕ) → is_sink_code f ≡ true → is_outcome_code f (Some l) ≡ true
sink_listed code.Ok l e = cc
sink_listed code.UnsupportedProtocol l e = cc
sink_listed code.UrlMalformat l e = cc
sink_listed code.CouldntResolveHost l e = cc
sink_listed code.CouldntConnect l e = cc
sink_listed code.WeirdServerReply l e = cc
sink_listed code.PartialFile l e = cc
sink_listed code.WriteError l e = refl
sink_listed code.OutOfMemory l e = refl
sink_listed code.OperationTimedout l e = cc
sink_listed code.TooManyRedirects l e = cc
sink_listed code.GotNothing l e = cc
sink_listed code.SendError l e = cc
sink_listed code.RecvError l e = cc
sink_listed code.BadContentEncoding l e = cc
sink_listed code.FilesizeExceeded l e = cc
sink_listed code.TooLarge l e = cc

-- it is one of the codes of a transfer
pub settled_listed : (flows : Option (Option ℕ)) (limit : Option ℕ) (failure : Option Code) (c : Code) → limit ≡ limit_by flows → (flows ≡ None → failure ≡ None) → IfSome failure (λ f. is_sink_code f ≡ true)
    → is_outcome_code c limit ≡ true → is_outcome_code (settled_code failure c) limit ≡ true
settled_listed flows limit None c at held sinks listed = listed
settled_listed None limit (Some f) c at held sinks listed = let x : Some f ≡ None = held refl in absurd cc
settled_listed (Some most) limit (Some f) c at held sinks listed = by (settled_is f c) where
  by : ((c ≡ code.Ok) × (settled_code (Some f) c ≡ f)) ⊎ (settled_code (Some f) c ≡ c) → is_outcome_code (settled_code (Some f) c) limit ≡ true
  by (inl so) = subst (λ (x : Code). is_outcome_code x limit ≡ true) (sym so.1) (subst (λ (l : Option ℕ). is_outcome_code f l ≡ true) (sym at) (sink_listed f _ sinks))
  by (inr so) = subst (λ (x : Code). is_outcome_code x limit ≡ true) (sym so) listed

-- a hop that sends its request on is a whole response with a location
ok_is : (c : Code) → is_ok c ≡ true → c ≡ code.Ok
ok_is code.Ok e = refl
ok_is code.UnsupportedProtocol e = cc
ok_is code.UrlMalformat e = cc
ok_is code.CouldntResolveHost e = cc
ok_is code.CouldntConnect e = cc
ok_is code.WeirdServerReply e = cc
ok_is code.PartialFile e = cc
ok_is code.WriteError e = cc
ok_is code.OutOfMemory e = cc
ok_is code.OperationTimedout e = cc
ok_is code.TooManyRedirects e = cc
ok_is code.GotNothing e = cc
ok_is code.SendError e = cc
ok_is code.RecvError e = cc
ok_is code.BadContentEncoding e = cc
ok_is code.FilesizeExceeded e = cc
ok_is code.TooLarge e = cc

pub redirect_ok : (most : ℕ) (o : HopValue) → is_redirect most o ≡ true → o.code ≡ code.Ok
redirect_ok most o r = ok_is o.code (and_parts _ _ (and_parts _ _ (and_parts _ _ r).0).0).1

pub redirect_located : (most : ℕ) (o : HopValue) → is_redirect most o ≡ true → is_some o.location ≡ true
redirect_located most o r = (and_parts _ _ r).1

-- its head does
pub redirect_sends : (most : ℕ) (o : HopValue) → is_redirect most o ≡ true → sends_on most o ≡ true
redirect_sends most o r =
    let all : (not (most == 0) && is_ok o.code && is_redirect_status o.status ≡ true) × (is_some o.location ≡ true) = and_parts _ _ r in
    let status : (not (most == 0) && is_ok o.code ≡ true) × (is_redirect_status o.status ≡ true) = and_parts _ _ all.0 in
    let ok : (not (most == 0) ≡ true) × (is_ok o.code ≡ true) = and_parts _ _ status.0 in
    ap (λ (b : Bool). b && (is_redirect_status o.status && is_some o.location)) ok.0 ∙ ap (λ (b : Bool). b && is_some o.location) status.1 ∙ all.1

-- one that ends with 0 and isn't followed doesn't
pub stays_sends : (most : ℕ) (o : HopValue) → is_redirect most o ≡ false → o.code ≡ code.Ok → sends_on most o ≡ false
stays_sends most o r ok = by (not (most == 0)) (is_redirect_status o.status) (is_some o.location) (sym (ap (λ (c : Code). not (most == 0) && is_ok c && is_redirect_status o.status && is_some o.location) ok) ∙ r)
  where
    by : (a b c : Bool) → (a && true && b && c) ≡ false → (a && (b && c)) ≡ false
    by true true c e = e
    by true false c e = refl
    by false b c e = refl

pub redirect_status : (most : ℕ) (o : HopValue) → is_redirect most o ≡ true → is_redirect_status o.status ≡ true
redirect_status most o r = (and_parts _ _ (and_parts _ _ r).0).1

-- a next request that was refused, or no memory for it
pub refused_or : (most followed : ℕ) (o : HopValue) (r : RequestError) (c : Code) → is_redirect most o ≡ true → followed < most
    → (next_of o ≡ Err r) ⊎ (r ≡ refusal.OutOfMemory) → c ≡ refusal_code r → EndsWith most followed o c
refused_or most followed o r c sends few (inl no_next) is = subst (λ (x : Code). EndsWith most followed o x) (sym is) (refused r sends few no_next)
refused_or most followed o r c sends few (inr none) is =
    subst (λ (x : Code). EndsWith most followed o x) (sym (is ∙ ap refusal_code none)) (memory sends few)

no_refusal_is_ok : (r : RequestError) → refusal_code r ≡ code.Ok → ⊥
no_refusal_is_ok refusal.Scheme e = cc
no_refusal_is_ok refusal.Malformed e = cc
no_refusal_is_ok refusal.UserInfo e = cc
no_refusal_is_ok refusal.BadField e = cc
no_refusal_is_ok refusal.BodyTooLarge e = cc
no_refusal_is_ok refusal.OutOfMemory e = cc

-- a chain that ends with 0 ends with a hop that does
pub ok_stays : (most followed : ℕ) (o : HopValue) (c : Code) → EndsWith most followed o c → c ≡ code.Ok → o.code ≡ code.Ok
ok_stays most followed o c (stays r) e = e
ok_stays most followed o c (too_many r n) e = cc
ok_stays most followed o c (refused f r n x) e = absurd (no_refusal_is_ok f e)
ok_stays most followed o c (memory r n) e = cc

-- and what it handed on is that hop's
pub ok_handed : (most followed : ℕ) (o : HopValue) (c : Code) → EndsWith most followed o c → c ≡ code.Ok → passed_on most o ≡ o.content
ok_handed most followed o c (stays r) e = ap (λ (b : Bool). if b then [] else o.content) (stays_sends most o r e)
ok_handed most followed o c (too_many r n) e = cc
ok_handed most followed o c (refused f r n x) e = absurd (no_refusal_is_ok f e)
ok_handed most followed o c (memory r n) e = cc

no_refusal_is_late : (r : RequestError) → refusal_code r ≡ code.OperationTimedout → ⊥
no_refusal_is_late refusal.Scheme e = cc
no_refusal_is_late refusal.Malformed e = cc
no_refusal_is_late refusal.UserInfo e = cc
no_refusal_is_late refusal.BadField e = cc
no_refusal_is_late refusal.BodyTooLarge e = cc
no_refusal_is_late refusal.OutOfMemory e = cc

-- a chain ends with 28 just where its last hop does
pub late_as : (most count : ℕ) (o : HopValue) (c : Code) (Due : Type 0) → EndsWith most count o c → (o.code ≡ code.OperationTimedout) ↔ Due → (c ≡ code.OperationTimedout) ↔ Due
late_as most count o c Due (stays r) d = d
late_as most count o c Due (too_many r n) d = (λ e. cc, λ due. absurd (timely (redirect_ok most o r) (d.1 due)))
  where
    timely : o.code ≡ code.Ok → o.code ≡ code.OperationTimedout → ⊥
    timely a b = let x : code.Ok ≡ code.OperationTimedout = sym a ∙ b in cc
late_as most count o c Due (refused f r n e) d = (λ e. absurd (no_refusal_is_late f e), λ due. absurd (timely (redirect_ok most o r) (d.1 due)))
  where
    timely : o.code ≡ code.Ok → o.code ≡ code.OperationTimedout → ⊥
    timely a b = let x : code.Ok ≡ code.OperationTimedout = sym a ∙ b in cc
late_as most count o c Due (memory r n) d = (λ e. cc, λ due. absurd (timely (redirect_ok most o r) (d.1 due)))
  where
    timely : o.code ≡ code.Ok → o.code ≡ code.OperationTimedout → ⊥
    timely a b = let x : code.Ok ≡ code.OperationTimedout = sym a ∙ b in cc

refusal_listed : (r : RequestError) (limit : Option ℕ) → is_outcome_code (refusal_code r) limit ≡ true
refusal_listed refusal.Scheme limit = refl
refusal_listed refusal.Malformed limit = refl
refusal_listed refusal.UserInfo limit = refl
refusal_listed refusal.BadField limit = refl
refusal_listed refusal.BodyTooLarge limit = refl
refusal_listed refusal.OutOfMemory limit = refl

-- the code of a chain is one of these, where its last hop's is one of a hop
pub ends_listed : (most followed : ℕ) (o : HopValue) (c : Code) → EndsWith most followed o c → hop.is_hop_code o.code o.limit ≡ true → is_outcome_code c o.limit ≡ true
ends_listed most followed o c (stays r) h = ap (λ (b : Bool). b || is_unfollowed_code o.code) h
ends_listed most followed o c (too_many r n) h = refl
ends_listed most followed o c (refused f r n e) h = refusal_listed f o.limit
ends_listed most followed o c (memory r n) h = refl

-- the bytes of one hop more are counted
pub bytes_more : (hops : List HopValue) (o : HopValue) → counted (bytes_in hops) (length o.wire) ≡ bytes_in (hops ++ o ∷ [])
bytes_more hops o = omega (arith, sum_by-append (λ (x : HopValue). length x.wire) hops (o ∷ []))

-- of a response that is held all is kept
pub kept_is : (limit : Option ℕ) (wire kept : List ℕ) → limit ≡ None → IsKept limit wire kept → kept ≡ wire
kept_is limit wire kept held k = subst (λ (l : Option ℕ). IsKept l wire kept) held k

-- one more hop whose response is held
held_more : (hops : List HopValue) (o : HopValue) → AreHeld hops → o.limit ≡ None → AreHeld (hops ++ o ∷ [])
held_more [] o h held = (held, tt)
held_more (x ∷ hops) o h held = (h.0, held_more hops o h.1 held)

-- where it was added
pub held_pushed : (added : Bool) (hops : List HopValue) (o : HopValue) → AreHeld hops → o.limit ≡ None → AreHeld (if added then hops ++ o ∷ [] else hops)
held_pushed true hops o h held = held_more hops o h held
held_pushed false hops o h held = h

-- and each that is read
pub held_read : (hops : List HopValue) (i : ℕ) (d : HopValue) → AreHeld hops → i < length hops → (get_or hops i d).limit ≡ None
held_read [] i d h less = absurd (omega (arith, less))
held_read (x ∷ hops) zero d h less = h.0
held_read (x ∷ hops) (suc i) d h less = held_read hops i d h.1 (omega (arith, less))

-- the heads of what is kept are those of the response
pub heads_kept : (limit : Option ℕ) (wire kept heads : List ℕ) → IsKept limit wire kept → HasHeads kept heads → HasHeads wire heads
heads_kept None wire kept heads k h = subst (λ (l : List ℕ). HasHeads l heads) k h
heads_kept (Some limit) wire kept heads (inl k) h =
    let alone = heads_alone wire k.0 k.1 k.2 k.3 in
    let stands : StandsAtBody kept k.0 k.1 [] = subst (λ (l : List ℕ). StandsAtBody l k.0 k.1 []) (sym k.4) alone.0 in
    inl (
      k.0,
      k.1,
      k.2,
      k.3,
      elim h [
        | inl g ↦
            let same = same_body kept k.0 g.0 k.1 g.1 [] g.2 stands g.3 in
            g.4 ∙ ap (λ (l : List ResponseHead). print_heads l ++ print_response g.1) same.0 ∙ ap (λ (x : ResponseHead). print_heads k.0 ++ print_response x) same.1
        | inr g ↦ absurd (g.0 (k.0, k.1, [], stands))
      ],
    )
heads_kept (Some limit) wire kept heads (inr k) h = inr (
  k.0,
  elim h [
    | inl g ↦ absurd (no_final (subst HasFinalHead k.1 (g.0, g.1, g.2, g.3)))
    | inr g ↦ g.1
  ],
)
