-- The bytes of a response decide its state.
use Rattle.std.proofs.Common.{◌≡◌, ℕ, ◌-◌, ◌<◌, ◌⊎◌, inl, inr, Bool, true, false, cond, nat_le, List, [], ◌∷◌, ◌++◌, length, refl, sym, ap, subst, ◌∙◌, arith, length-append, Ok, Err}
use Rattle.std.specs.Prelude.{Result}
use Rattle.std.proofs.lemmas.List.{append-nil}
use Rattle.httparse.specs.Grammar.{print_response}
use Rattle.mx_types.specs.declared.code.Code.{Code}
use Rattle.mx_types.specs.declared.code.Code.TheVariants.{FilesizeExceeded, RecvError}
use Rattle.mx_types.specs.declared.method.Method.{Method}
use Rattle.mx_head.specs.declared.types.Framing.{Framing}
use Rattle.mx_head.specs.declared.types.Framing.TheVariants.{Empty, Counted, Chunked, Close}
use Rattle.mx_head.specs.Framing.{framing_of}
use Rattle.mx_head.proofs.FirstLemmas.{one_first}
use Rattle.mx_body.specs.declared.chunked.place.ChunkedPlace.{ChunkedPlace}
use Rattle.mx_body.specs.declared.chunked.place.ChunkedPlace.TheVariants as place
use Rattle.mx_body.specs.Chunked.{MayBecomeChunked}
use Rattle.mx_body.specs.ChunkedPlace.{next_place, place_after, is_settled}
use Rattle.mx_body.specs.Response.{print_heads}
use Rattle.mx_body.specs.Causes.{cause_code, cause_line, Meets}
use Rattle.mx_body.specs.Decision.{HasHeads}
use Rattle.mx_body.proofs.ChunkedLawProofs.{large_may_become}
use Rattle.mx_body.proofs.ChunkedLemmas.{open_is_undecided}
use Rattle.mx_body.proofs.ChunkedRun.{place_after-nil, place_after-cons, place_after-append}
use Rattle.mx_body.proofs.HeadsLemmas.{same_body}
use Rattle.mx_flow.specs.Data.{datum, data_from}
use Rattle.mx_flow.specs.Flows.{IsBodyOf, IsOpen, IsBad, IsTooLarge, content_so_far}
use Rattle.mx_flow.specs.Responses.{IsResponseOf, HasCome}
use Rattle.mx_flow.specs.Streams.{IsUndecidedOf, HasBadFraming, IsFaultOf, HasContent, StreamValue, HasStand, HasOneStream}
use Rattle.mx_flow.specs.declared.stream_state.StreamState.{StreamState}
use Rattle.mx_flow.specs.declared.stream_state.StreamState.TheVariants as stand
use Rattle.mx_flow.proofs.DataLemmas.{data_from-nil, data_from-cons, data_from-append}
use Rattle.mx_flow.proofs.LawProofs.{not_yet}

same_heads : (wire heads others : List ℕ) → HasHeads wire heads → HasHeads wire others → heads ≡ others
same_heads wire heads others (inl a) (inl b) =
    let same = same_body wire a.0 b.0 a.1 b.1 a.2 b.2 a.3 b.3 in
    a.4 ∙ sym (λ i. print_heads (same.0 i) ++ print_response (same.1 i)) ∙ sym b.4
same_heads wire heads others (inl a) (inr b) = absurd (b.0 (a.0, a.1, a.2, a.3))
same_heads wire heads others (inr a) (inl b) = absurd (a.0 (b.0, b.1, b.2, b.3))
same_heads wire heads others (inr a) (inr b) = a.1 ∙ sym b.1

-- what comes after the final head is one body of one framing
one_come : (m : Method) (wire : List ℕ) (f g : Framing) (a b : List ℕ) → HasCome m wire f a → HasCome m wire g b → (f ≡ g) × (a ≡ b)
one_come m wire f g a b x y =
    let same = same_body wire x.interim y.interim x.head y.head a b x.stands y.stands in
    let asked : Ok f ≡ Ok g = sym x.asked ∙ ap (framing_of m) (sym same.1) ∙ y.asked in
    let one : f ≡ g = cc in
    (one, sym same.2)

-- a framing that is refused is asked for by none
refused_come : (m : Method) (wire : List ℕ) (code : Code) → HasBadFraming m wire code → (framing : Framing) (came : List ℕ) → HasCome m wire framing came → ⊥
refused_come m wire code b framing came h =
    let same = same_body wire b.0 h.interim b.1 h.head [] came b.2 h.stands in
    let both : Err code ≡ Ok framing = sym b.3 ∙ ap (framing_of m) (sym same.1) ∙ h.asked in
    cc

same_content : (limit : ℕ) (m : Method) (wire content other : List ℕ) → HasContent limit m wire content → HasContent limit m wire other → content ≡ other
same_content limit m wire content other (inl a) (inl b) =
    let one = one_come m wire a.0 b.0 a.1 b.1 a.2 b.2 in
    a.3 ∙ (λ i. content_so_far limit (one.0 i) (one.1 i)) ∙ sym b.3
same_content limit m wire content other (inl a) (inr b) = absurd (b.0 a.0 a.1 a.2)
same_content limit m wire content other (inr a) (inl b) = absurd (a.0 b.0 b.1 b.2)
same_content limit m wire content other (inr a) (inr b) = a.1 ∙ sym b.1

-- the body of a response
body_here : (limit : ℕ) (m : Method) (framing : Framing) (ended : Bool) (wire came content : List ℕ) → HasCome m wire framing came → IsResponseOf limit m wire ended content
    → IsBodyOf limit framing ended came content
body_here limit m framing ended wire came content come r =
    let one = one_come m wire r.framing framing r.body came (record { interim = r.interim; head = r.head; stands = r.stands; asked = r.asked }) come in
    subst (λ (f : Framing). IsBodyOf limit f ended came content) one.0 (subst (λ (t : List ℕ). IsBodyOf limit r.framing ended t content) one.1 r.whole)

-- bytes of which more is to come are no response
undecided_or_whole : (limit : ℕ) (m : Method) (wire content : List ℕ) → IsUndecidedOf limit m wire → IsResponseOf limit m wire false content → ⊥
undecided_or_whole limit m wire content (inl a) r = a.0 (r.interim, r.head, r.body, r.stands)
undecided_or_whole limit m wire content (inr a) r = not_yet limit a.0 a.1 content a.3 (body_here limit m a.0 false wire a.1 content a.2 r)

-- nothing is wrong with an open body
open_or_bad : (limit : ℕ) (framing : Framing) (came : List ℕ) → IsOpen limit framing came → IsBad limit framing came → ⊥
open_or_bad limit framing came o bad =
    let is = subst (λ (f : Framing). IsOpen limit f came) bad.1 o in
    bad.2 (open_is_undecided limit came is.0).may_become

open_or_large : (limit : ℕ) (framing : Framing) (came : List ℕ) → IsOpen limit framing came → IsTooLarge limit framing came → ⊥
open_or_large limit Empty came o large = large
open_or_large limit (Counted n) came o large = omega (arith, large.1, o.1)
open_or_large limit Chunked came o large = elim large.1 [
  | inl size ↦ (open_is_undecided limit came o.0).small came [] (sym (append-nil came)) size
  | inr long ↦ omega (arith, long, o.1)
]
open_or_large limit Close came o large = omega (arith, large.1, o)

-- a byte of data settles nothing
data_settle_none : (limit : ℕ) (p : ChunkedPlace) (b : ℕ) → (datum p b ≡ []) ⊎ (is_settled (next_place limit p b) ≡ false)
data_settle_none limit (place.Data left) b = inr (by_test (nat_le left 1))
  where
    by_test : (t : Bool) → is_settled (cond t place.DataCr (place.Data (left - 1))) ≡ false
    by_test true = refl
    by_test false = refl
data_settle_none limit place.Start b = inl refl
data_settle_none limit (place.Size n) b = inl refl
data_settle_none limit (place.Extension n) b = inl refl
data_settle_none limit (place.SizeLf n) b = inl refl
data_settle_none limit place.DataCr b = inl refl
data_settle_none limit place.DataLf b = inl refl
data_settle_none limit place.TrailerStart b = inl refl
data_settle_none limit place.Trailer b = inl refl
data_settle_none limit place.TrailerLf b = inl refl
data_settle_none limit place.EndLf b = inl refl
data_settle_none limit place.Done b = inl refl
data_settle_none limit place.Bad b = inl refl
data_settle_none limit place.TooLarge b = inl refl

-- so the byte with which the content is too long is no bad one
long_may_become : (limit : ℕ) (front : List ℕ) (last : ℕ) → IsOpen limit Chunked front → limit < length (data_from limit place.Start (front ++ last ∷ []))
    → MayBecomeChunked (front ++ last ∷ [])
long_may_become limit front last o long = elim (data_settle_none limit (place_after limit place.Start front) last) [
  | inl none ↦
      let here = place_after limit place.Start front in
      let one : data_from limit here (last ∷ []) ≡ [] = data_from-cons limit here last [] ∙ ap (λ (t : List ℕ). t ++ data_from limit (next_place limit here last) []) none ∙ data_from-nil limit (next_place limit here last) in
      absurd (omega (arith, long, o.1, ap length (data_from-append limit place.Start front (last ∷ [])), length-append (data_from limit place.Start front) (data_from limit here (last ∷ [])), ap length one))
  | inr live ↦
      let here = place_after limit place.Start front in
      let leads : place_after limit place.Start (front ++ last ∷ []) ≡ next_place limit here last =
      place_after-append limit place.Start front (last ∷ []) ∙ place_after-cons limit here last [] ∙ place_after-nil limit (next_place limit here last) in
      (open_is_undecided limit (front ++ last ∷ []) (ap is_settled leads ∙ live)).may_become
]

bad_or_large : (limit : ℕ) (framing : Framing) (came : List ℕ) → IsBad limit framing came → IsTooLarge limit framing came → ⊥
bad_or_large limit framing came bad large =
    let is = subst (λ (f : Framing). IsTooLarge limit f came) bad.1 large in
    elim is.1 [
      | inl size ↦ bad.2 (large_may_become limit came size)
      | inr long ↦
          let front = is.0.0 in
          let last = is.0.1 in
          bad.2 (subst MayBecomeChunked (sym is.0.2) (long_may_become limit front last is.0.3
          (subst (λ (t : List ℕ). limit < length (data_from limit place.Start t)) is.0.2 long)))
    ]

undecided_or_fault : (limit : ℕ) (m : Method) (wire : List ℕ) (code : Code) → IsUndecidedOf limit m wire → IsFaultOf limit m wire code → ⊥
undecided_or_fault limit m wire code (inl a) (inl b) = a.1 b.1.front b.1.after b.1.cause b.1.is_prefix b.1.meets
undecided_or_fault limit m wire code (inl a) (inr (inl b)) = a.0 (b.0, b.1, [], b.2)
undecided_or_fault limit m wire code (inl a) (inr (inr b)) = a.0 (b.2.interim, b.2.head, b.1, b.2.stands)
undecided_or_fault limit m wire code (inr a) (inl b) = b.0 (a.2.interim, a.2.head, a.1, a.2.stands)
undecided_or_fault limit m wire code (inr a) (inr (inl b)) = refused_come m wire code b a.0 a.1 a.2
undecided_or_fault limit m wire code (inr a) (inr (inr b)) =
    let one = one_come m wire a.0 b.0 a.1 b.1 a.2 b.2 in
    let is = subst (λ (f : Framing). IsOpen limit f b.1) one.0 (subst (IsOpen limit a.0) one.1 a.3) in
    elim b.3 [
      | inl bad ↦ open_or_bad limit b.0 b.1 is bad.0
      | inr large ↦ open_or_large limit b.0 b.1 is large.0
    ]

-- a body has one fault
same_bad : (limit : ℕ) (framing : Framing) (came : List ℕ) (c d : Code) → (IsBad limit framing came × (c ≡ RecvError)) ⊎ (IsTooLarge limit framing came × (c ≡ FilesizeExceeded))
    → (IsBad limit framing came × (d ≡ RecvError)) ⊎ (IsTooLarge limit framing came × (d ≡ FilesizeExceeded)) → c ≡ d
same_bad limit framing came c d (inl a) (inl b) = a.1 ∙ sym b.1
same_bad limit framing came c d (inl a) (inr b) = absurd (bad_or_large limit framing came a.0 b.0)
same_bad limit framing came c d (inr a) (inl b) = absurd (bad_or_large limit framing came b.0 a.0)
same_bad limit framing came c d (inr a) (inr b) = a.1 ∙ sym b.1

same_fault : (limit : ℕ) (m : Method) (wire : List ℕ) (c d : Code) → IsFaultOf limit m wire c → IsFaultOf limit m wire d → c ≡ d
same_fault limit m wire c d (inl a) (inl b) = one_first cause_code cause_line (Meets m) wire c d a.1 b.1
same_fault limit m wire c d (inl a) (inr (inl b)) = absurd (a.0 (b.0, b.1, [], b.2))
same_fault limit m wire c d (inl a) (inr (inr b)) = absurd (a.0 (b.2.interim, b.2.head, b.1, b.2.stands))
same_fault limit m wire c d (inr (inl a)) (inl b) = absurd (b.0 (a.0, a.1, [], a.2))
same_fault limit m wire c d (inr (inl a)) (inr (inl b)) =
    let same = same_body wire a.0 b.0 a.1 b.1 [] [] a.2 b.2 in
    let both : ◌≡◌ {A = Result Framing Code} (Err c) (Err d) = sym a.3 ∙ ap (framing_of m) (sym same.1) ∙ b.3 in
    cc
same_fault limit m wire c d (inr (inl a)) (inr (inr b)) = absurd (refused_come m wire c a b.0 b.1 b.2)
same_fault limit m wire c d (inr (inr a)) (inl b) = absurd (b.0 (a.2.interim, a.2.head, a.1, a.2.stands))
same_fault limit m wire c d (inr (inr a)) (inr (inl b)) = absurd (refused_come m wire d b a.0 a.1 a.2)
same_fault limit m wire c d (inr (inr a)) (inr (inr b)) =
    let one = one_come m wire a.0 b.0 a.1 b.1 a.2 b.2 in
    same_bad limit b.0 b.1 c d
    (subst (λ (f : Framing). (IsBad limit f b.1 × (c ≡ RecvError)) ⊎ (IsTooLarge limit f b.1 × (c ≡ FilesizeExceeded))) one.0
    (subst (λ (t : List ℕ). (IsBad limit a.0 t × (c ≡ RecvError)) ⊎ (IsTooLarge limit a.0 t × (c ≡ FilesizeExceeded))) one.1 a.3))
    b.3

module _ (m : Method) (limit : ℕ) (wire heads others content other : List ℕ) (s t : StreamState) where
  abbrev here : StreamValue
  here = record { method = m; limit = limit; wire = wire; heads = heads; content = content; stand = s }

  abbrev there : StreamValue
  there = record { method = m; limit = limit; wire = wire; heads = others; content = other; stand = t }

  same_stand : (a b : StreamState) → HasStand here a → HasStand there b → a ≡ b
  same_stand stand.More stand.More x y = refl
  same_stand stand.More stand.Whole x y = absurd (undecided_or_whole limit m wire other x y)
  same_stand stand.More (stand.Fault d) x y = absurd (undecided_or_fault limit m wire d x y.1)
  same_stand stand.Whole stand.More x y = absurd (undecided_or_whole limit m wire content y x)
  same_stand stand.Whole stand.Whole x y = refl
  same_stand stand.Whole (stand.Fault d) x y = absurd (y.0 [] content false (subst (λ (u : List ℕ). IsResponseOf limit m u false content) (sym (append-nil wire)) x))
  same_stand (stand.Fault c) stand.More x y = absurd (undecided_or_fault limit m wire c y x.1)
  same_stand (stand.Fault c) stand.Whole x y = absurd (x.0 [] other false (subst (λ (u : List ℕ). IsResponseOf limit m u false other) (sym (append-nil wire)) y))
  same_stand (stand.Fault c) (stand.Fault d) x y = ap stand.Fault (same_fault limit m wire c d x.1 y.1)

pub one_stream : HasOneStream
one_stream m limit wire heads others content other s t x y =
    (same_heads wire heads others x.heads y.heads, same_content limit m wire content other x.content y.content, same_stand m limit wire heads others content other s t s t x.stand y.stand)
