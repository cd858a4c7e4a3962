-- A reader that hands the content on, by its stream.
use Rattle.std.proofs.Common.{◌≡◌, ℕ, ◌⊎◌, inl, inr, Bool, true, false, List, [], ◌++◌, refl, sym, ap, subst, ◌∙◌, append_assoc, length-append}
use Rattle.std.proofs.lemmas.List.{append-nil}
use Rattle.std.specs.Prelude.{Ok, not, ◌&&◌}
use Rattle.httparse.specs.Grammar.{ResponseHead}
use Rattle.mx_types.specs.declared.code.Code.{Code}
use Rattle.mx_types.specs.declared.method.Method.{Method}
use Rattle.mx_head.specs.declared.types.Framing.{Framing}
use Rattle.mx_head.specs.declared.types.Framing.TheVariants.{Empty, Counted, Chunked, Close}
use Rattle.mx_head.specs.Framing.{framing_of, keeps_of}
use Rattle.mx_body.specs.Decision.{is_close, EndsTooSoon}
use Rattle.mx_body.specs.declared.decoder.Stand.{Stand}
use Rattle.mx_body.specs.declared.decoder.Stand.TheVariants as stand
use Rattle.mx_body.proofs.HeadsLemmas.{same_body}
use Rattle.mx_body.proofs.ResponseLemmas.{close_or_not}
use Rattle.mx_flow.specs.Flows.{IsBodyOf}
use Rattle.mx_flow.specs.Responses.{IsResponseOf}
use Rattle.mx_flow.specs.Streams.{StreamValue, IsStream, HasStand, HasEnd, IsUndecidedOf, TellsKeeps}
use Rattle.mx_flow.specs.Streams as flow
use Rattle.mx_flow.specs.declared.stream_state.StreamState as flow_stand
use Rattle.mx_flow.specs.declared.stream_state.StreamState.TheVariants as state
use Rattle.mx_flow.proofs.LawProofs.{cut_at_end}
use Rattle.mx_flow.proofs.ResponseProofs.{body_of}
use Rattle.mx_reader.specs.Judgements.{StandsSo}
use Rattle.mx_reader.specs.Readers.{IsReader, IsPrefixOfEach}
use Rattle.mx_reader.specs.Flowing.{stand_by, KeepsBy, flowing}
use Rattle.mx_reader.proofs.HeadsLemmas.{heads_behind}

-- before the end it is no response that only the end ends
pub unclosed : (limit : ℕ) (m : Method) (bytes content : List ℕ) → (r : IsResponseOf limit m bytes false content) → is_close r.framing ≡ false
unclosed limit m bytes content r = by_framing r.framing r.whole
  where
    by_framing : (f : Framing) → IsBodyOf limit f false r.body content → is_close f ≡ false
    by_framing Empty b = refl
    by_framing (Counted n) b = refl
    by_framing Chunked b = refl
    by_framing Close b = let both : false ≡ true = b.0.0 in absurd (cc)

-- one head asks for one framing
one_framing : (m : Method) (h k : ResponseHead) (f g : Framing) → h ≡ k → framing_of m h ≡ Ok f → framing_of m k ≡ Ok g → f ≡ g
one_framing m h k f g same a b =
    let e : framing_of m h ≡ Ok g = ap (framing_of m) same ∙ b in
    cc

-- a response of which more was to come before the end is one that the end ends
pub closed : (limit : ℕ) (m : Method) (bytes content : List ℕ) → IsUndecidedOf limit m bytes → (r : IsResponseOf limit m bytes true content) → r.framing ≡ Close
closed limit m bytes content (inl u) r = absurd (u.0 (r.interim, r.head, r.body, r.stands))
closed limit m bytes content (inr u) r =
    let same = same_body bytes u.2.interim r.interim u.2.head r.head u.1 r.body u.2.stands r.stands in
    let one = one_framing m r.head u.2.head r.framing u.0 same.1 r.asked u.2.asked in
    let longer : IsResponseOf limit m (bytes ++ []) true content = subst (λ (t : List ℕ). IsResponseOf limit m t true content) (sym (append-nil bytes)) r in
    let body = subst (λ (t : List ℕ). IsBodyOf limit u.0 true t content) (append-nil u.1) (body_of limit m u.0 true bytes u.1 [] content u.2 longer) in
    elim (close_or_not u.0) [
      | inl is ↦ one ∙ is
      | inr unended ↦ absurd (cut_at_end limit u.0 u.1 content u.3 unended body)
    ]

and_false : (b : Bool) → false ≡ (b && false)
and_false true = refl
and_false false = refl

and_true : (b : Bool) → b ≡ (b && true)
and_true true = refl
and_true false = refl

-- whether it keeps the connection is what its final head says, unless the end ends it
whole_keeps : (limit : ℕ) (m : Method) (bytes content : List ℕ) (keep : Bool) → (r : IsResponseOf limit m bytes false content) → TellsKeeps bytes keep
    → keep ≡ (keeps_of r.head && not (is_close r.framing))
whole_keeps limit m bytes content keep r (inl k) =
    let same = same_body bytes k.0 r.interim k.1 r.head k.2 r.body k.3 r.stands in
    k.4 ∙ ap keeps_of (sym same.1) ∙ and_true (keeps_of r.head) ∙ ap (λ (b : Bool). keeps_of r.head && not b) (sym (unclosed limit m bytes content r))
whole_keeps limit m bytes content keep r (inr k) = absurd (k.0 (r.interim, r.head, r.body, r.stands))

module _ (s : StreamValue) (is : IsStream s) (behind : List ℕ) (none_behind : s.stand ≡ state.More → behind ≡ []) where
  -- the judgement before the end is that on all the bytes
  pub before_end : (at : flow_stand.StreamState) (keep : Bool) → s.stand ≡ at → KeepsBy s at keep → IsReader (flowing s behind (stand_by at) false keep)
  before_end at keep e k = record { judged = (refl, by_stand at (subst (HasStand s) e is.stand) e k); keeps = heads_behind s is behind none_behind }
    where
      by_stand : (at : flow_stand.StreamState) → HasStand s at → s.stand ≡ at → KeepsBy s at keep
          → StandsSo s.limit s.method (s.wire ++ behind) false ((flowing s behind (stand_by at) false keep).judgement) (stand_by at)
      by_stand state.More h e k =
          let all : s.wire ≡ s.wire ++ behind = sym (ap (λ (t : List ℕ). s.wire ++ t) (none_behind e) ∙ append-nil s.wire) in (
            record {
              goes_on = refl;
              undecided = subst (IsUndecidedOf s.limit s.method) all h;
              handed = subst (λ (t : List ℕ). flow.HasContent s.limit s.method t s.content) all is.content;
            },
            (refl, k),
          )
      by_stand state.Whole h e k = record {
        left = behind;
        begins = record {
          bytes = s.wire;
          whole = refl;
          response = h;
          ends = λ close. (let both : true ≡ false = sym (ap is_close close) ∙ unclosed s.limit s.method s.wire s.content h in absurd (cc));
        };
        len = sym (length-append s.wire behind);
        keep = whole_keeps s.limit s.method s.wire s.content keep h k;
      }
      by_stand (state.Fault code) h e k = (
        inl (record { front = s.wire; behind = behind; is_prefix = refl; hopeless = h.0; fault = h.1; handed = is.content }),
        (refl, k),
      )

  -- and so is the judgement with the end
  pub with_end : (at : flow_stand.StreamState) → s.stand ≡ state.More → HasEnd s at → IsReader (flowing s behind (stand_by at) true false)
  with_end at more end = record { judged = (refl, by_stand at end); keeps = heads_behind s is behind none_behind }
    where
      all : s.wire ≡ s.wire ++ behind
      all = sym (ap (λ (t : List ℕ). s.wire ++ t) (none_behind more) ∙ append-nil s.wire)

      undecided : IsUndecidedOf s.limit s.method s.wire
      undecided = subst (HasStand s) more is.stand

      by_code : (code : Code) → (s.stand ≡ state.Fault code) ⊎ ((s.stand ≡ state.More) × EndsTooSoon s.wire code) → EndsTooSoon s.wire code
      by_code code (inl e) = let both : state.More ≡ state.Fault code = sym more ∙ e in absurd (cc)
      by_code code (inr e) = e.1

      by_stand : (at : flow_stand.StreamState) → HasEnd s at → StandsSo s.limit s.method (s.wire ++ behind) true ((flowing s behind (stand_by at) true false).judgement) (stand_by at)
      by_stand state.More h = absurd h
      by_stand state.Whole h = record {
        left = behind;
        begins = record { bytes = s.wire; whole = refl; response = h; ends = λ close. none_behind more };
        len = sym (length-append s.wire behind);
        keep = and_false (keeps_of h.head) ∙ ap (λ (f : Framing). keeps_of h.head && not (is_close f)) (sym (closed s.limit s.method s.wire s.content undecided h));
      }
      by_stand (state.Fault code) h = (
        inr (record {
          ends = refl;
          undecided = subst (IsUndecidedOf s.limit s.method) all undecided;
          none = λ content r. h.0 content (subst (λ (t : List ℕ). IsResponseOf s.limit s.method t true content) (sym all) r);
          soon = subst (λ (t : List ℕ). EndsTooSoon t code) all (by_code code h.1);
          handed = subst (λ (t : List ℕ). flow.HasContent s.limit s.method t s.content) all is.content;
        }),
        (refl, refl),
      )

-- what a stream handed on is a prefix of the content
pub prefix_behind : (s : StreamValue) (behind : List ℕ) (at : Stand) (ended keep : Bool) → flow.IsPrefixOfEach s → IsPrefixOfEach (flowing s behind at ended keep)
prefix_behind s behind at ended keep each limit more content last same r =
    let limit_is : limit ≡ s.limit = cc in
    each (behind ++ more) content last (subst (λ (t : List ℕ). IsResponseOf s.limit s.method t last content) (append_assoc s.wire behind more)
    (subst (λ (l : ℕ). IsResponseOf l s.method ((s.wire ++ behind) ++ more) last content) limit_is r))
