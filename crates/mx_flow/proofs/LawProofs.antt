-- The laws of bodies that come in pieces.
use Rattle.std.proofs.Common.{◌≡◌, ℕ, suc, zero, Bool, true, false, ◌≢◌, ◌<◌, ◌≤◌, inl, List, [], ◌∷◌, ◌++◌, length, take, refl, sym, ap, subst, ◌∙◌, arith, length-append}
use Rattle.std.proofs.lemmas.List.{append-nil, take_all}
use Rattle.mx_head.specs.declared.types.Framing.{Framing}
use Rattle.mx_head.specs.declared.types.Framing.TheVariants.{Empty, Counted, Chunked, Close}
use Rattle.mx_body.specs.declared.chunked.place.ChunkedPlace.TheVariants as place
use Rattle.mx_body.specs.Chunked.{IsChunked, chunked_bytes, EndsInLargeSize}
use Rattle.mx_body.specs.ChunkedPlace.{place_after, is_settled, parts_begun}
use Rattle.mx_body.proofs.ChunkedRun.{place_after-nil, place_after-append, bad_stays, too_large_stays}
use Rattle.mx_body.proofs.ChunkedComplete.{run_body}
use Rattle.mx_body.proofs.ChunkedLemmas.{bad_never, ends_in_large}
use Rattle.mx_body.proofs.ChunkedLawProofs.{done_is_whole}
use Rattle.mx_flow.specs.Data.{data_from}
use Rattle.mx_flow.specs.Flows.{IsFramed, IsBodyOf, data_so_far, content_so_far, IsNone, IsOpen, IsOpenBefore, HasState}
use Rattle.mx_flow.specs.Steps.{place_of, state_at, IsAt, first_left}
use Rattle.mx_flow.specs.declared.place.WidePlace.{WidePlace}
use Rattle.mx_flow.specs.declared.place.WidePlace.TheVariants as wide
use Rattle.mx_flow.specs.declared.flow.BodyState.{BodyState}
use Rattle.mx_flow.specs.declared.flow.BodyState.TheVariants as state
use Rattle.mx_flow.specs.Laws.{WholeHasAll, OnlyGrows, IsFrontOfEach}
use Rattle.mx_flow.proofs.DataLemmas.{data_from-nil, data_from-append, data_short, whole_data}

framed_all : (limit : ℕ) (framing : Framing) (ended : Bool) (body content : List ℕ) → IsFramed limit framing ended body content → content ≡ data_so_far limit framing body
framed_all limit Empty ended body content h = h.1
framed_all limit (Counted n) ended body content h = h.1
framed_all limit Chunked ended body content h = sym (whole_data limit body h.0 content h.1)
framed_all limit Close ended body content h = h.1

-- content is no longer than its body
pub framed_short : (limit : ℕ) (framing : Framing) (ended : Bool) (body content : List ℕ) → IsFramed limit framing ended body content → length content ≤ length body
framed_short limit Empty ended body content h = omega (arith, ap length h.1)
framed_short limit (Counted n) ended body content h = omega (arith, ap length h.1)
framed_short limit Chunked ended body content h = omega (arith, ap length (whole_data limit body h.0 content h.1), data_short limit place.Start body)
framed_short limit Close ended body content h = omega (arith, ap length h.1)

pub whole_has_all : WholeHasAll
whole_has_all limit framing ended body content h =
    sym (take_all limit content h.1) ∙ ap (take limit) (framed_all limit framing ended body content h.0)

pub data_grows : (limit : ℕ) (framing : Framing) (came more : List ℕ)
    → (rest : List ℕ) × (data_so_far limit framing (came ++ more) ≡ data_so_far limit framing came ++ rest)
data_grows limit Empty came more = ([], refl)
data_grows limit (Counted n) came more = (more, refl)
data_grows limit Chunked came more = (data_from limit (place_after limit place.Start came) more, data_from-append limit place.Start came more)
data_grows limit Close came more = (more, refl)

-- the front of a text that is longer
front_grows : (n : ℕ) (xs more : List ℕ) → (rest : List ℕ) × (take n (xs ++ more) ≡ take n xs ++ rest)
front_grows zero xs more = ([], refl)
front_grows (suc n) [] more = (take (suc n) more, refl)
front_grows (suc n) (x ∷ xs) more = let r = front_grows n xs more in (r.0, ap (λ t. x ∷ t) r.1)

pub only_grows : OnlyGrows
only_grows limit framing came more =
    let grown = data_grows limit framing came more in
    let front = front_grows limit (data_so_far limit framing came) grown.0 in
    (front.0, ap (take limit) grown.1 ∙ front.1)

pub is_front_of_each : IsFrontOfEach
is_front_of_each limit framing ended came more content h =
    let grown = only_grows limit framing came more in
    (grown.0, whole_has_all limit framing ended (came ++ more) content h ∙ grown.1)

-- bytes that led to the end are a whole body
done_whole : (limit : ℕ) (came : List ℕ) → place_after limit place.Start came ≡ place.Done → length (data_from limit place.Start came) ≤ limit
    → IsBodyOf limit Chunked false came (content_so_far limit Chunked came)
done_whole limit came done fits =
    let h = done_is_whole limit 0 came done in
    let same = whole_data limit came (parts_begun limit place.Start 0 came) h.0 h.1 in
    let all = take_all limit (data_from limit place.Start came) fits in
    subst (IsBodyOf limit Chunked false came) (sym all)
    ((parts_begun limit place.Start 0 came, subst (IsChunked limit 0 came (parts_begun limit place.Start 0 came)) (sym same) h.1), fits)

-- no body begins with bytes that led elsewhere
ends_whole : (limit : ℕ) (ended : Bool) (bytes content : List ℕ) → IsBodyOf limit Chunked ended bytes content → place_after limit place.Start bytes ≡ place.Done
ends_whole limit ended bytes content ((parts, (body, is, small, text, parts_are, data_is)), fits) =
    ap (place_after limit place.Start) (text ∙ sym (append-nil (chunked_bytes body))) ∙ run_body limit body [] is small ∙ place_after-nil limit place.Done

bad_none : (limit : ℕ) (came : List ℕ) → place_after limit place.Start came ≡ place.Bad → IsNone limit Chunked came
bad_none limit came bad more content ended h =
    let done = ends_whole limit ended (came ++ more) content h in
    let stays = place_after-append limit place.Start came more ∙ ap (λ p. place_after limit p more) bad ∙ bad_stays limit more in
    cc

large_none : (limit : ℕ) (came : List ℕ) → place_after limit place.Start came ≡ place.TooLarge → IsNone limit Chunked came
large_none limit came large more content ended h =
    let done = ends_whole limit ended (came ++ more) content h in
    let stays = place_after-append limit place.Start came more ∙ ap (λ p. place_after limit p more) large ∙ too_large_stays limit more in
    cc

-- nor with more content than the limit allows
pub over_none : (limit : ℕ) (framing : Framing) (came : List ℕ) → limit < length (data_so_far limit framing came) → IsNone limit framing came
over_none limit framing came over more content ended h =
    let grown = data_grows limit framing came more in
    let all = ap length (framed_all limit framing ended (came ++ more) content h.0 ∙ grown.1) in
    omega (arith, over, h.1, all, length-append (data_so_far limit framing came) grown.0)

pub counted_none : (limit n : ℕ) → limit < n → IsNone limit (Counted n) []
counted_none limit n over more content ended h = omega (arith, over, h.1, h.0.0, ap length h.0.1)

-- the size of a chunk that goes over the limit with the last byte
large_ends : (limit : ℕ) (came : List ℕ) → (b : IsOpenBefore limit Chunked came) → place_after limit place.Start came ≡ place.TooLarge
    → EndsInLargeSize limit came
large_ends limit came (front, last, is, live) large =
    subst (EndsInLargeSize limit) (sym is) (ends_in_large limit front last live.0 (ap (place_after limit place.Start) (sym is) ∙ large))

-- what a place says of the bytes that led there
pub chunks_state : (limit : ℕ) (came : List ℕ) (at : WidePlace) → place_after limit place.Start came ≡ place_of at
    → length (data_from limit place.Start came) ≤ limit → (is_settled (place_of at) ≡ true → IsOpenBefore limit Chunked came)
    → HasState limit Chunked came (state_at at)
chunks_state limit came wide.Done e fits before = done_whole limit came e fits
chunks_state limit came wide.Bad e fits before = (bad_none limit came e, (before refl, refl, bad_never limit came e))
chunks_state limit came wide.TooLarge e fits before = (large_none limit came e, (before refl, inl (large_ends limit came (before refl) e)))
chunks_state limit came wide.Start e fits before = (ap is_settled e, fits)
chunks_state limit came (wide.Size n) e fits before = (ap is_settled e, fits)
chunks_state limit came (wide.Extension n) e fits before = (ap is_settled e, fits)
chunks_state limit came (wide.SizeLf n) e fits before = (ap is_settled e, fits)
chunks_state limit came (wide.Data n) e fits before = (ap is_settled e, fits)
chunks_state limit came wide.DataCr e fits before = (ap is_settled e, fits)
chunks_state limit came wide.DataLf e fits before = (ap is_settled e, fits)
chunks_state limit came wide.TrailerStart e fits before = (ap is_settled e, fits)
chunks_state limit came wide.Trailer e fits before = (ap is_settled e, fits)
chunks_state limit came wide.TrailerLf e fits before = (ap is_settled e, fits)
chunks_state limit came wide.EndLf e fits before = (ap is_settled e, fits)

-- while more is to come nothing is settled
pub more_open : (at : WidePlace) → state_at at ≡ state.More → is_settled (place_of at) ≡ false
more_open wide.Done more = cc
more_open wide.Bad more = cc
more_open wide.TooLarge more = cc
more_open wide.Start more = refl
more_open (wide.Size n) more = refl
more_open (wide.Extension n) more = refl
more_open (wide.SizeLf n) more = refl
more_open (wide.Data n) more = refl
more_open wide.DataCr more = refl
more_open wide.DataLf more = refl
more_open wide.TrailerStart more = refl
more_open wide.Trailer more = refl
more_open wide.TrailerLf more = refl
more_open wide.EndLf more = refl

pub bad_settled : (at : WidePlace) → state_at at ≡ state.Bad → is_settled (place_of at) ≡ true
bad_settled wide.Bad bad = refl
bad_settled wide.Done bad = cc
bad_settled wide.TooLarge bad = cc
bad_settled wide.Start bad = cc
bad_settled (wide.Size n) bad = cc
bad_settled (wide.Extension n) bad = cc
bad_settled (wide.SizeLf n) bad = cc
bad_settled (wide.Data n) bad = cc
bad_settled wide.DataCr bad = cc
bad_settled wide.DataLf bad = cc
bad_settled wide.TrailerStart bad = cc
bad_settled wide.Trailer bad = cc
bad_settled wide.TrailerLf bad = cc
bad_settled wide.EndLf bad = cc

-- before its first byte nothing is refused
pub first_not_bad : (limit : ℕ) (framing : Framing) (came : List ℕ) (s : BodyState) → came ≡ [] → HasState limit framing came s → s ≡ state.Bad → ⊥
first_not_bad limit framing came s none has bad =
    let (front, last, split, live) = (subst (HasState limit framing came) bad has).1.0 in
    omega (arith, ap length none, ap length split, length-append front (last ∷ []))

-- the bytes of a whole body, where the connection ends with them
pub whole_at_end : (limit : ℕ) (framing : Framing) (came content : List ℕ) → IsBodyOf limit framing false came content → IsBodyOf limit framing true came content
whole_at_end limit Empty came content h = h
whole_at_end limit (Counted n) came content h = h
whole_at_end limit Chunked came content h = h
whole_at_end limit Close came content h = absurd (let both : false ≡ true = h.0.0 in cc)

pub open_at_end : (limit : ℕ) (framing : Framing) (came : List ℕ) → IsOpen limit framing came → framing ≡ Close → IsBodyOf limit framing true came (content_so_far limit framing came)
open_at_end limit Empty came live is = absurd live
open_at_end limit (Counted n) came live is = cc
open_at_end limit Chunked came live is = cc
open_at_end limit Close came live is = subst (IsBodyOf limit Close true came) (sym (take_all limit came live)) ((refl, refl), live)

-- bytes of which more is to come are no whole body, unless the end of the connection ends it
pub cut_at_end : (limit : ℕ) (framing : Framing) (came content : List ℕ) → IsOpen limit framing came → framing ≢ Close → ¬ (IsBodyOf limit framing true came content)
cut_at_end limit Empty came content is other h = is
cut_at_end limit (Counted n) came content is other h = omega (arith, is.0, h.0.0)
cut_at_end limit Chunked came content is other h =
    let done = ap is_settled (ends_whole limit true came content h) in
    let live : is_settled (place_after limit place.Start came) ≡ false = is.0 in
    cc
cut_at_end limit Close came content is other h = other refl

-- nor are they one before the connection has ended
pub not_yet : (limit : ℕ) (framing : Framing) (came content : List ℕ) → IsOpen limit framing came → ¬ (IsBodyOf limit framing false came content)
not_yet limit Empty came content is h = is
not_yet limit (Counted n) came content is h = omega (arith, is.0, h.0.0)
not_yet limit Chunked came content is h =
    let done = ap is_settled (ends_whole limit false came content h) in
    let live : is_settled (place_after limit place.Start came) ≡ false = is.0 in
    cc
not_yet limit Close came content is h = let both : false ≡ true = h.0.0 in cc

pub none_at_end : (limit : ℕ) (framing : Framing) (came content : List ℕ) → IsNone limit framing came → ¬ (IsBodyOf limit framing true came content)
none_at_end limit framing came content none h = none [] content true (subst (λ (t : List ℕ). IsBodyOf limit framing true t content) (sym (append-nil came)) h)

-- a body before its first byte
first_at : (limit : ℕ) (framing : Framing) → IsAt limit framing [] wide.Start (first_left framing limit)
first_at limit Empty = tt
first_at limit (Counted n) = omega arith
first_at limit Chunked = (place_after-nil limit place.Start, omega (arith, ap length (data_from-nil limit place.Start)))
first_at limit Close = omega arith

pub at_first : (limit : ℕ) (framing : Framing) (came : List ℕ) (left : ℕ) → came ≡ [] → left ≡ first_left framing limit → IsAt limit framing came wide.Start left
at_first limit framing came left none is =
    subst (λ (t : List ℕ). IsAt limit framing t wide.Start left) (sym none) (subst (IsAt limit framing [] wide.Start) (sym is) (first_at limit framing))

pub open_first : (limit : ℕ) (framing : Framing) → framing ≡ Chunked → IsOpen limit framing []
open_first limit framing is =
    subst (λ (f : Framing). IsOpen limit f []) (sym is) (ap is_settled (place_after-nil limit place.Start), omega (arith, ap length (data_from-nil limit place.Start)))
