-- Bytes behind those that decide change nothing of the heads.
use Rattle.std.proofs.Common.{◌≡◌, ℕ, inl, inr, true, List, [], ◌++◌, length, refl, sym, ap, subst, ◌∙◌, arith, append_assoc, length-append}
use Rattle.std.proofs.lemmas.Bool.{cases_lt}
use Rattle.std.proofs.lemmas.List.{append-nil}
use Rattle.std.specs.Prelude.{Ok, Option}
use Rattle.httparse.specs.Grammar.{ResponseHead, print_response}
use Rattle.mx_types.specs.declared.code.Code.{Code}
use Rattle.mx_types.specs.declared.method.Method.{Method}
use Rattle.mx_types.specs.declared.method.Method.TheVariants as method
use Rattle.mx_head.specs.declared.types.Framing.TheVariants.{Empty}
use Rattle.mx_head.specs.Framing.{framing_of}
use Rattle.mx_head.specs.Faults.{ComesFirst, MeetsNothing}
use Rattle.mx_head.proofs.LineLemmas.{front_of}
use Rattle.mx_body.specs.Response.{print_heads, StandsAtBody}
use Rattle.mx_body.specs.Causes.{Cause, cause_code, cause_line, Meets, at_head, refused_status, at_body}
use Rattle.mx_body.specs.Decision.{HasFinalHead, HasHeads, HasStatus, TellsLocation}
use Rattle.mx_body.proofs.HeadsLemmas.{body_stands, body_start_small}
use Rattle.mx_body.proofs.ResponseLemmas.{response_meets_nothing}
use Rattle.mx_flow.specs.Streams.{IsFaultOf, StreamValue, HasStand, IsStream}
use Rattle.mx_flow.specs.declared.stream_state.StreamState.{StreamState}
use Rattle.mx_flow.specs.declared.stream_state.StreamState.TheVariants as stand
use Rattle.mx_flow.proofs.StreamProofs.{heads_alone, final_in_front}

-- the response to HEAD has no body
head_is_empty : (h : ResponseHead) → framing_of method.Head h ≡ Ok Empty
unfolding framing_of
head_is_empty h = refl

-- heads alone are a response to HEAD, so that no prefix of them meets a cause
pub heads_meet_nothing : (hs : List ResponseHead) (h : ResponseHead) → StandsAtBody (print_heads hs ++ print_response h) hs h [] → MeetsNothing (Meets method.Head) (print_heads hs ++ print_response h)
heads_meet_nothing hs h stands =
    response_meets_nothing method.Head (print_heads hs ++ print_response h) true
    (record { interim = hs; head = h; framing = Empty; body = []; parts = []; content = [] })
    (record {
      stands = stands;
      fits = omega (arith, body_start_small (print_heads hs ++ print_response h) hs h [] stands);
      asked = head_is_empty h;
      body = (refl, refl, refl);
    })

-- what bytes without a final head meet they meet to each method
pub meets_any : (m other : Method) (p : List ℕ) (cause : Cause) → (HasFinalHead p → ⊥) → Meets m p cause → Meets other p cause
meets_any m other p (at_head cause) none x = x
meets_any m other p refused_status none x = x
meets_any m other p (at_body cause) none x = absurd (none (x.0, x.1, x.2, x.3))

-- a final head stays
pub final_stays : (bytes more : List ℕ) → HasFinalHead bytes → HasFinalHead (bytes ++ more)
final_stays bytes more f = (f.0, f.1, f.2 ++ more, body_stands (bytes ++ more) bytes more f.0 f.1 f.2 refl f.3)

-- where the heads meet a cause, no final head ever comes
pub never_final : (m : Method) (bytes more : List ℕ) (code : Code) → (HasFinalHead bytes → ⊥) → ComesFirst cause_code cause_line (Meets m) bytes code
    → HasFinalHead (bytes ++ more) → ⊥
never_final m bytes more code none f final =
    let heads = print_heads final.0 ++ print_response final.1 in
    let alone = heads_alone (bytes ++ more) final.0 final.1 final.2 final.3 in
    elim (cases_lt (length heads) (length f.front)) [
      | inl short ↦ none (final_in_front bytes more final.0 final.1 final.2 final.3 (omega (arith, short, ap length f.is_prefix, length-append f.front f.after)))
      | inr long ↦
          let c = front_of f.front heads (f.after ++ more) final.2 (sym (append_assoc f.front f.after more) ∙ ap (λ (t : List ℕ). t ++ more) (sym f.is_prefix) ∙ alone.1) long in
          let headless : HasFinalHead f.front → ⊥ = λ g. none (subst HasFinalHead (sym f.is_prefix) (final_stays f.front f.after g)) in
          heads_meet_nothing final.0 final.1 alone.0 f.front c.0 f.cause c.1 (meets_any m method.Head f.front f.cause headless f.meets)
    ]

module _ (s : StreamValue) (is : IsStream s) (behind : List ℕ) (none_behind : s.stand ≡ stand.More → behind ≡ []) where
  -- the final head is among the bytes that the stream took
  pub final_before : HasFinalHead (s.wire ++ behind) → HasFinalHead s.wire
  final_before f = by_stand s.stand refl is.stand
    where
      by_fault : (code : Code) → IsFaultOf s.limit s.method s.wire code → HasFinalHead s.wire
      by_fault code (inl x) = absurd (never_final s.method s.wire behind code x.0 x.1 f)
      by_fault code (inr (inl x)) = (x.0, x.1, [], x.2)
      by_fault code (inr (inr x)) = (x.2.interim, x.2.head, x.1, x.2.stands)

      by_stand : (at : StreamState) → s.stand ≡ at → HasStand s at → HasFinalHead s.wire
      by_stand stand.More e h = subst HasFinalHead (ap (λ (t : List ℕ). s.wire ++ t) (none_behind e) ∙ append-nil s.wire) f
      by_stand stand.Whole e h = (h.interim, h.head, h.body, h.stands)
      by_stand (stand.Fault code) e h = by_fault code h.1

  pub status_behind : (status : ℕ) → HasStatus s.wire status → HasStatus (s.wire ++ behind) status
  status_behind status (inl h) = inl (h.0, h.1, h.2 ++ behind, body_stands (s.wire ++ behind) s.wire behind h.0 h.1 h.2 refl h.3, h.4)
  status_behind status (inr h) = inr (λ f. h.0 (final_before f), h.1)

  pub location_behind : (value : Option (List ℕ)) → TellsLocation s.wire value → TellsLocation (s.wire ++ behind) value
  location_behind value (inl h) = inl (h.0, h.1, h.2 ++ behind, body_stands (s.wire ++ behind) s.wire behind h.0 h.1 h.2 refl h.3, h.4)
  location_behind value (inr h) = inr (λ f. h.0 (final_before f), h.1)

  pub heads_behind : HasHeads (s.wire ++ behind) s.heads
  heads_behind = by_heads is.heads
    where
      by_heads : HasHeads s.wire s.heads → HasHeads (s.wire ++ behind) s.heads
      by_heads (inl h) = inl (h.0, h.1, h.2 ++ behind, body_stands (s.wire ++ behind) s.wire behind h.0 h.1 h.2 refl h.3, h.4)
      by_heads (inr h) = inr (λ f. h.0 (final_before f), h.1)
