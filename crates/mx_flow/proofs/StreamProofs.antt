-- What the bytes of a response say, whose content is handed on.
use Rattle.std.proofs.Common.{◌≡◌, ◌≢◌, ℕ, ◌≤◌, inl, inr, true, List, [], ◌++◌, length, refl, sym, ap, subst, ◌∙◌, arith, append_assoc, length-append, Ok, Err}
use Rattle.std.proofs.lemmas.Bool.{cases_lt}
use Rattle.std.proofs.lemmas.List.{append-nil, length-take}
use Rattle.httparse.specs.Grammar.{ResponseHead, print_response}
use Rattle.mx_types.specs.declared.code.Code.{Code}
use Rattle.mx_types.specs.declared.method.Method.{Method}
use Rattle.mx_types.specs.declared.method.Method.TheVariants as method
use Rattle.mx_head.specs.declared.types.Framing.{Framing}
use Rattle.mx_head.specs.declared.types.Framing.TheVariants.{Empty}
use Rattle.mx_head.specs.Framing.{framing_of}
use Rattle.mx_head.specs.Faults.{ComesFirst, MeetsNothing}
use Rattle.mx_head.proofs.LineLemmas.{front_of}
use Rattle.mx_body.specs.Response.{print_heads, StandsAtBody}
use Rattle.mx_body.specs.Causes.{cause_code, cause_line, Meets}
use Rattle.mx_body.specs.Decision.{HasFinalHead, first_bytes}
use Rattle.mx_body.proofs.EmptyLemmas.{no_final, more_first}
use Rattle.mx_body.proofs.HeadsLemmas.{body_stands, same_body, body_start_small}
use Rattle.mx_body.proofs.ResponseLemmas.{response_meets_nothing}
use Rattle.mx_flow.specs.Flows.{IsNone, data_so_far}
use Rattle.mx_flow.specs.Responses.{IsResponseOf, HasCome}
use Rattle.mx_flow.specs.Streams.{IsHopelessOf, HasBadFraming, HasContent, StreamValue, IsStream, IsPrefixOfEach, IsNoneAtEnd, HasEnd}
use Rattle.mx_flow.specs.declared.stream_state.StreamState.{StreamState}
use Rattle.mx_flow.specs.declared.stream_state.StreamState.TheVariants as stand
use Rattle.mx_flow.proofs.ResponseProofs.{body_of, front_of_each_response}

-- nothing is met before the first byte
first_none : first_bytes [] ≡ []
unfolding first_bytes
first_none = refl

pub nothing_first : (bytes : List ℕ) → bytes ≡ [] → (HasFinalHead bytes → ⊥) × ((m : Method) → MeetsNothing (Meets m) bytes)
nothing_first bytes none = (
  λ f. no_final (subst HasFinalHead none f),
  λ m. subst (MeetsNothing (Meets m)) (sym none) (subst (MeetsNothing (Meets m)) first_none (more_first m).0.faultless),
)

-- the response to HEAD has no body
head_is_empty : (h : ResponseHead) → framing_of method.Head h ≡ Ok Empty
unfolding framing_of
head_is_empty h = refl

-- heads alone are a response to HEAD, so that no prefix of them meets a cause
heads_meet_nothing : (hs : List ResponseHead) (h : ResponseHead) → StandsAtBody (print_heads hs ++ print_response h) hs h [] → MeetsNothing (Meets method.Head) (print_heads hs ++ print_response h)
heads_meet_nothing hs h stands =
    response_meets_nothing method.Head (print_heads hs ++ print_response h) true
    (record { interim = hs; head = h; framing = Empty; body = []; parts = []; content = [] })
    (record {
      stands = stands;
      fits = omega (arith, body_start_small (print_heads hs ++ print_response h) hs h [] stands);
      asked = head_is_empty h;
      body = (refl, refl, refl);
    })

-- the heads of a text alone
pub heads_alone : (text : List ℕ) (hs : List ResponseHead) (h : ResponseHead) (rest : List ℕ) → StandsAtBody text hs h rest
    → StandsAtBody (print_heads hs ++ print_response h) hs h [] × (text ≡ (print_heads hs ++ print_response h) ++ rest)
heads_alone text hs h rest s = (
  (s.0, (s.1.0, ap (λ (t : List ℕ). print_heads hs ++ t) (sym (append-nil (print_response h))))),
  s.1.1 ∙ sym (append_assoc (print_heads hs) (print_response h) rest),
)

-- a front of a text that is as long as its heads has its final head
pub final_in_front : (front more : List ℕ) (hs : List ResponseHead) (h : ResponseHead) (rest : List ℕ) → StandsAtBody (front ++ more) hs h rest
    → length (print_heads hs ++ print_response h) ≤ length front → HasFinalHead front
final_in_front front more hs h rest s long =
    let alone = heads_alone (front ++ more) hs h rest s in
    let f = front_of (print_heads hs ++ print_response h) front rest more (sym alone.1) long in
    (hs, h, f.0, body_stands front (print_heads hs ++ print_response h) f.0 hs h [] f.1 alone.0)

-- where the heads meet a cause, no response begins
pub bad_heads_hopeless : (limit : ℕ) (m : Method) (bytes : List ℕ) (code : Code) → (HasFinalHead bytes → ⊥)
    → ((m : Method) → ComesFirst cause_code cause_line (Meets m) bytes code) → IsHopelessOf limit m bytes
bad_heads_hopeless limit m bytes code none first more content ended r =
    let heads = print_heads r.interim ++ print_response r.head in
    let f = first method.Head in
    let alone = heads_alone (bytes ++ more) r.interim r.head r.body r.stands in
    elim (cases_lt (length heads) (length f.front)) [
      | inl short ↦ none (final_in_front bytes more r.interim r.head r.body r.stands (omega (arith, short, ap length f.is_prefix, length-append f.front f.after)))
      | inr long ↦
          let c = front_of f.front heads (f.after ++ more) r.body (sym (append_assoc f.front f.after more) ∙ ap (λ (t : List ℕ). t ++ more) (sym f.is_prefix) ∙ alone.1) long in
          heads_meet_nothing r.interim r.head alone.0 f.front c.0 f.cause c.1 f.meets
    ]

-- nor where the final head's framing is refused
pub bad_framing_hopeless : (limit : ℕ) (m : Method) (bytes : List ℕ) (code : Code) → HasBadFraming m bytes code → IsHopelessOf limit m bytes
bad_framing_hopeless limit m bytes code b more content ended r =
    let longer = body_stands (bytes ++ more) bytes more b.0 b.1 [] refl b.2 in
    let same = same_body (bytes ++ more) b.0 r.interim b.1 r.head more r.body longer r.stands in
    let both : Err code ≡ Ok r.framing = sym b.3 ∙ ap (framing_of m) (sym same.1) ∙ r.asked in
    cc

-- nor where no body does
pub bad_body_hopeless : (limit : ℕ) (m : Method) (framing : Framing) (bytes came : List ℕ) → HasCome m bytes framing came → IsNone limit framing came → IsHopelessOf limit m bytes
bad_body_hopeless limit m framing bytes came come none more content ended r = none more content ended (body_of limit m framing ended bytes came more content come r)

-- what asks for no framing has no content
pub headless_content : (limit : ℕ) (m : Method) (bytes : List ℕ) → (HasFinalHead bytes → ⊥) → HasContent limit m bytes []
headless_content limit m bytes none = inr (λ framing came h. none (h.interim, h.head, came, h.stands), refl)

pub none_asked : (m : Method) (bytes : List ℕ) (code : Code) → HasBadFraming m bytes code → (framing : Framing) (came : List ℕ) → HasCome m bytes framing came → ⊥
none_asked m bytes code b framing came h =
    let same = same_body bytes b.0 h.interim b.1 h.head [] came b.2 h.stands in
    let both : Err code ≡ Ok framing = sym b.3 ∙ ap (framing_of m) (sym same.1) ∙ h.asked in
    cc

pub refused_content : (limit : ℕ) (m : Method) (bytes : List ℕ) (code : Code) → HasBadFraming m bytes code → HasContent limit m bytes []
refused_content limit m bytes code b = inr (none_asked m bytes code b, refl)

-- what was handed on is a prefix of the content of each response
pub prefix_of_each : (s : StreamValue) → IsStream s → IsPrefixOfEach s
prefix_of_each s is more content ended r = by_content is.content
  where
    by_content : HasContent s.limit s.method s.wire s.content → (rest : List ℕ) × (content ≡ s.content ++ rest)
    by_content (inl c) =
        let f = front_of_each_response s.limit s.method c.0 ended s.wire c.1 more content c.2 r in
        (f.0, f.1 ∙ ap (λ (t : List ℕ). t ++ f.0) (sym c.3))
    by_content (inr none) = (content, ap (λ (t : List ℕ). t ++ content) (sym none.1))

-- and no longer than the limit
pub content_within : (s : StreamValue) → IsStream s → length s.content ≤ s.limit
content_within s is = by_content is.content
  where
    by_content : HasContent s.limit s.method s.wire s.content → length s.content ≤ s.limit
    by_content (inl c) = omega (arith, ap length c.3, length-take s.limit (data_so_far s.limit c.0 c.1))
    by_content (inr none) = omega (arith, ap length none.1)

-- what begins no response is none
pub none_at_end : (s : StreamValue) → IsHopelessOf s.limit s.method s.wire → IsNoneAtEnd s
none_at_end s hopeless content r =
    hopeless [] content true (subst (λ (t : List ℕ). IsResponseOf s.limit s.method t true content) (sym (append-nil s.wire)) r)

-- the end of the connection decides
pub end_decides : (s : StreamValue) (e : StreamState) → HasEnd s e → e ≢ stand.More
end_decides s stand.More h = absurd h
end_decides s stand.Whole h = λ x. cc
end_decides s (stand.Fault c) h = λ x. cc

pub end_is_none : (s : StreamValue) (e : StreamState) → HasEnd s e → e ≢ stand.Whole → IsNoneAtEnd s
end_is_none s stand.More h ne = absurd h
end_is_none s stand.Whole h ne = absurd (ne refl)
end_is_none s (stand.Fault c) h ne = h.0
