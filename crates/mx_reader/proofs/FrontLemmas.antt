-- What the fronts of bytes say, of a response that is handed on.
use Rattle.std.proofs.Common.{◌≡◌, ℕ, ◌≤◌, inl, inr, Bool, true, false, List, [], ◌++◌, length, refl, sym, ap, subst, ◌∙◌, arith, append_assoc, length-append}
use Rattle.std.proofs.lemmas.Bool.{cases_lt}
use Rattle.std.proofs.lemmas.List.{append-nil}
use Rattle.httparse.specs.Grammar.{print_response}
use Rattle.mx_types.specs.declared.method.Method.{Method}
use Rattle.mx_head.specs.declared.types.Framing.{Framing}
use Rattle.mx_head.specs.declared.types.Framing.TheVariants.{Empty, Counted, Chunked, Close}
use Rattle.mx_head.proofs.LineLemmas.{front_of}
use Rattle.mx_body.specs.declared.chunked.place.ChunkedPlace.TheVariants as place
use Rattle.mx_body.specs.Chunked.{chunked_data}
use Rattle.mx_body.specs.ChunkedPlace.{place_after, is_settled}
use Rattle.mx_body.specs.Response.{print_heads}
use Rattle.mx_body.specs.Decision.{HasFinalHead, HasHeads}
use Rattle.mx_body.proofs.ChunkedRun.{place_after-append, settled_stays}
use Rattle.mx_body.proofs.ChunkedUnique.{body_unique}
use Rattle.mx_body.proofs.HeadsLemmas.{body_stands, same_body}
use Rattle.mx_body.proofs.ResponseLemmas.{same_split}
use Rattle.mx_flow.specs.Data.{data_from}
use Rattle.mx_flow.specs.Flows.{IsFramed, IsOpen}
use Rattle.mx_flow.specs.Streams.{IsUndecidedOf, IsFaultOf, HasContent, HasStand, StreamValue}
use Rattle.mx_flow.specs.declared.stream_state.StreamState.{StreamState}
use Rattle.mx_flow.specs.declared.stream_state.StreamState.TheVariants as stand
use Rattle.mx_flow.proofs.DataLemmas.{data_from-append}
use Rattle.mx_flow.proofs.OneStreamProofs.{one_stream}
use Rattle.mx_flow.proofs.StreamProofs.{heads_alone}
use Rattle.mx_reader.proofs.HeadsLemmas.{heads_meet_nothing, meets_any, final_stays}

-- a body that is open was open before
pub open_front : (limit : ℕ) (framing : Framing) (a b : List ℕ) → IsOpen limit framing (a ++ b) → IsOpen limit framing a
open_front limit Empty a b o = o
open_front limit (Counted n) a b o = (omega (arith, o.0, length-append a b), o.1)
open_front limit Chunked a b o = (unsettled (is_settled (place_after limit place.Start a)) refl, omega (arith, o.1, ap length (data_from-append limit place.Start a b), length-append (data_from limit place.Start a) (data_from limit (place_after limit place.Start a) b)))
  where
    unsettled : (t : Bool) → is_settled (place_after limit place.Start a) ≡ t → is_settled (place_after limit place.Start a) ≡ false
    unsettled false e = e
    unsettled true e =
        let later : is_settled (place_after limit place.Start (a ++ b)) ≡ true = ap is_settled (place_after-append limit place.Start a b) ∙ settled_stays limit (place_after limit place.Start a) b e in
        let both : true ≡ false = sym later ∙ o.0 in
        absurd (cc)
open_front limit Close a b o = omega (arith, o, length-append a b)

-- two bodies of one framing at the front of one text are one
pub one_framed : (limit : ℕ) (framing : Framing) (ended later : Bool) (body other left after content more : List ℕ) → IsFramed limit framing ended body content → IsFramed limit framing later other more
    → (framing ≡ Close → left ≡ []) → (framing ≡ Close → after ≡ []) → body ++ left ≡ other ++ after → (left ≡ after) × (content ≡ more)
one_framed limit Empty ended later body other left after content more x y p q e =
    let same = same_split body other left after e (omega (arith, ap length x.0, ap length y.0)) in
    (same.1, x.1 ∙ sym y.1)
one_framed limit (Counted n) ended later body other left after content more x y p q e =
    let same = same_split body other left after e (omega (arith, x.0, y.0)) in
    (same.1, x.1 ∙ same.0 ∙ sym y.1)
one_framed limit Chunked ended later body other left after content more x y p q e =
    let a = x.1 in
    let b = y.1 in
    let same = body_unique a.0 b.0 left after a.1 b.1 (ap (λ (t : List ℕ). t ++ left) (sym a.3) ∙ e ∙ ap (λ (t : List ℕ). t ++ after) b.3) in
    (same.1, a.5 ∙ ap chunked_data same.0 ∙ sym b.5)
one_framed limit Close ended later body other left after content more x y p q e =
    let none = p refl in
    let nothing = q refl in
    let same : body ≡ other = sym (append-nil body) ∙ ap (λ (t : List ℕ). body ++ t) (sym none) ∙ e ∙ ap (λ (t : List ℕ). other ++ t) nothing ∙ append-nil other in
    (none ∙ sym nothing, x.1 ∙ same ∙ sym y.1)

-- bytes of which nothing is decided had nothing decided before
pub undecided_front : (limit : ℕ) (m : Method) (a b : List ℕ) → IsUndecidedOf limit m (a ++ b) → IsUndecidedOf limit m a
undecided_front limit m a b (inl u) = inl (λ f. u.0 (final_stays a b f), λ q more cause e x. u.1 q (more ++ b) cause (ap (λ (t : List ℕ). t ++ b) e ∙ append_assoc q more b) x)
undecided_front limit m a b (inr u) =
    let come = u.2 in
    let heads = print_heads come.interim ++ print_response come.head in
    let alone = heads_alone (a ++ b) come.interim come.head u.1 come.stands in
    elim (cases_lt (length a) (length heads)) [
      | inl short ↦
          let f = front_of a heads b u.1 alone.1 (omega (arith, short)) in
          let none : HasFinalHead a → ⊥ = λ g.
          let same = same_body (a ++ b) g.0 come.interim g.1 come.head (g.2 ++ b) u.1 (body_stands (a ++ b) a b g.0 g.1 g.2 refl g.3) come.stands in
          let own = heads_alone a g.0 g.1 g.2 g.3 in
          let long : length (print_heads g.0 ++ print_response g.1) ≤ length a = omega (arith, ap length own.1, length-append (print_heads g.0 ++ print_response g.1) g.2) in
          let as_long : length (print_heads g.0 ++ print_response g.1) ≡ length heads = omega (arith, ap length own.1, ap length alone.1, length-append (print_heads g.0 ++ print_response g.1) g.2, length-append heads u.1, ap length same.2, length-append a b, length-append g.2 b) in
          omega (arith, short, long, as_long) in
          inl (
            none,
            λ q more cause e x.
                let headless : HasFinalHead q → ⊥ = λ g. none (subst HasFinalHead (sym e) (final_stays q more g)) in
                heads_meet_nothing come.interim come.head alone.0 q (more ++ f.0) cause (f.1 ∙ ap (λ (t : List ℕ). t ++ f.0) e ∙ append_assoc q more f.0) (meets_any m _ q cause headless x),
          )
      | inr long ↦
          let f = front_of heads a u.1 b (sym alone.1) long in
          let stands = body_stands a heads f.0 come.interim come.head [] f.1 alone.0 in
          inr (u.0, f.0, record { interim = come.interim; head = come.head; stands = stands; asked = come.asked }, open_front limit u.0 f.0 b (subst (IsOpen limit u.0) f.2 u.3))
    ]

-- the heads of bytes by their state
heads_by : (s : StreamValue) (at : StreamState) → HasStand s at → (heads : List ℕ) × HasHeads s.wire heads
heads_by s stand.More (inl u) = ([], inr (u.0, refl))
heads_by s stand.More (inr u) = (_, inl (u.2.interim, u.2.head, u.1, u.2.stands, refl))
heads_by s stand.Whole r = (_, inl (r.interim, r.head, r.body, r.stands, refl))
heads_by s (stand.Fault code) f = by_fault f.1
  where
    by_fault : IsFaultOf s.limit s.method s.wire code → (heads : List ℕ) × HasHeads s.wire heads
    by_fault (inl x) = ([], inr (x.0, refl))
    by_fault (inr (inl x)) = (_, inl (x.0, x.1, [], x.2, refl))
    by_fault (inr (inr x)) = (_, inl (x.2.interim, x.2.head, x.1, x.2.stands, refl))

-- the bytes decide their state and their content
module _ (m : Method) (limit : ℕ) (wire content other : List ℕ) (s t : StreamState) where
  abbrev pub valued : List ℕ → List ℕ → StreamState → StreamValue
  valued heads x at = record { method = m; limit = limit; wire = wire; heads = heads; content = x; stand = at }

  pub one_state : HasContent limit m wire content → HasContent limit m wire other → HasStand (valued [] content s) s → HasStand (valued [] other t) t → (content ≡ other) × (s ≡ t)
  one_state x y a b =
      let heads = heads_by (valued [] content s) s a in
      let one = one_stream m limit wire heads.0 heads.0 content other s t (record { heads = heads.1; content = x; stand = by s content a }) (record { heads = heads.1; content = y; stand = by t other b }) in
      (one.1, one.2)
    where
      by : (at : StreamState) (x : List ℕ) → HasStand (valued [] x at) at → HasStand (valued (heads_by (valued [] content s) s a).0 x at) at
      by stand.More x h = h
      by stand.Whole x h = h
      by (stand.Fault c) x h = h
