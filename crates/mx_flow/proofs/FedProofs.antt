-- Bodies that were fed.
use Rattle.std.proofs.Common.{◌≡◌, ℕ, Bool, true, false, ◌+◌, ◌<◌, ◌≤◌, inr, List, [], ◌∷◌, ◌++◌, length, get_or, take, drop, refl, sym, ap, subst, ◌∙◌, arith, length-append}
use Rattle.std.proofs.lemmas.List.{append_assoc, take_all, take_at, drop_at, take_more, length-take-le}
use Rattle.std.proofs.Math.Seq.{take-add}
use Rattle.mx_head.specs.declared.types.Framing.{Framing}
use Rattle.mx_head.specs.declared.types.Framing.TheVariants.{Empty, Counted, Chunked, Close}
use Rattle.mx_body.specs.declared.chunked.place.ChunkedPlace.TheVariants.{Start}
use Rattle.mx_body.specs.ChunkedPlace.{place_after, is_settled}
use Rattle.mx_body.proofs.ChunkedRun.{place_after-append}
use Rattle.mx_flow.specs.Data.{data_from}
use Rattle.mx_flow.specs.Flows.{IsBodyOf, content_so_far, IsOpen, IsOpenBefore, HasState}
use Rattle.mx_flow.specs.Steps.{place_of, state_at, IsAt, WasAt}
use Rattle.mx_flow.specs.Runs.{WasGoing, WasTakenAt, run_data, HasRun}
use Rattle.mx_flow.specs.declared.chunks.Run.{Run}
use Rattle.mx_flow.specs.declared.place.WidePlace.{WidePlace}
use Rattle.mx_flow.specs.declared.flow.BodyState.{BodyState}
use Rattle.mx_flow.specs.declared.flow.BodyState.TheVariants as state
use Rattle.mx_flow.proofs.DataLemmas.{data_from-append}
use Rattle.mx_flow.proofs.LawProofs.{over_none, chunks_state, more_open, bad_settled}

-- so many bytes of two texts
take_past : (xs ys : List ℕ) (n k : ℕ) → n ≡ length xs + k → take n (xs ++ ys) ≡ xs ++ take k ys
take_past xs ys n k is =
    ap (λ t. take t (xs ++ ys)) is ∙ take-add (length xs) k (xs ++ ys)
    ∙ ap (λ t. t ++ take k (drop (length xs) (xs ++ ys))) (take_at xs ys (length xs) refl)
    ∙ ap (λ t. xs ++ take k t) (drop_at xs ys (length xs) refl)

-- content for which there is room, as far as there is
content_grows : (limit left : ℕ) (xs ys : List ℕ) → left + length xs ≡ limit → take limit (xs ++ ys) ≡ take limit xs ++ take left ys
content_grows limit left xs ys room =
    take_past xs ys limit left (omega (arith, room)) ∙ ap (λ t. t ++ take left ys) (sym (take_all limit xs (omega (arith, room))))

-- a reader of chunks that came so far in a piece
module _ (limit : ℕ) (came piece before after : List ℕ) (at : WidePlace) (left : ℕ) (r : Run)
    (is : IsAt limit Chunked came at left) (run : HasRun limit (place_of at) left piece r before after) where
  abbrev old_data : List ℕ
  old_data = data_from limit Start came

  abbrev new_data : List ℕ
  new_data = run_data limit (place_of at) piece r.len

  abbrev now : List ℕ
  now = came ++ take r.len piece

  leads : (n : ℕ) → place_after limit Start (came ++ take n piece) ≡ place_after limit (place_of at) (take n piece)
  leads n = place_after-append limit Start came (take n piece) ∙ ap (λ p. place_after limit p (take n piece)) is.0

  grows : (n : ℕ) → data_from limit Start (came ++ take n piece) ≡ old_data ++ run_data limit (place_of at) piece n
  grows n = data_from-append limit Start came (take n piece) ∙ ap (λ p. old_data ++ data_from limit p (take n piece)) is.0

  size : (n : ℕ) → length (data_from limit Start (came ++ take n piece)) + left ≡ limit + length (run_data limit (place_of at) piece n)
  size n = omega (arith, is.1, ap length (grows n), length-append old_data (run_data limit (place_of at) piece n))

  open_before : WasGoing limit (place_of at) left piece r.len → IsOpenBefore limit Chunked now
  open_before (k, len, live, fits) = (
    came ++ take k piece,
    get_or piece k 0,
    ap (λ n. came ++ take n piece) len ∙ ap (λ t. came ++ t) (take_more piece k 0 (omega (arith, len, run.within))) ∙ sym (append_assoc came (take k piece) (get_or piece k 0 ∷ [])),
    (ap is_settled (leads k) ∙ live, omega (arith, fits, size k)),
  )

  -- the last byte was taken at its place
  was_at : WasTakenAt limit (place_of at) piece r.len (place_of r.before) → WasAt limit now r.before
  was_at (k, len, there) = (
    came ++ take k piece,
    get_or piece k 0,
    ap (λ n. came ++ take n piece) len ∙ ap (λ t. came ++ t) (take_more piece k 0 (omega (arith, len, run.within))) ∙ sym (append_assoc came (take k piece) (get_or piece k 0 ∷ [])),
    there ∙ sym (leads k),
  )

  was_by : (over : Bool) → r.over ≡ over → (s : BodyState) → (r.over ≡ true → s ≡ state.TooLarge) → (r.over ≡ false → s ≡ state_at r.place)
      → s ≡ state.Bad → WasAt limit now r.before
  was_by true is_over s large at_place bad = absurd (let both : state.TooLarge ≡ state.Bad = sym (large is_over) ∙ bad in cc)
  was_by false within s large at_place bad =
      let settled = bad_settled r.place (sym (at_place within) ∙ bad) in
      was_at (run.before_is within settled)

  chunks_was : (s : BodyState) → (r.over ≡ true → s ≡ state.TooLarge) → (r.over ≡ false → s ≡ state_at r.place) → s ≡ state.Bad → WasAt limit now r.before
  chunks_was s large at_place bad = was_by r.over refl s large at_place bad

  by_over : (over : Bool) → r.over ≡ over → (s : BodyState) → (r.over ≡ true → s ≡ state.TooLarge) → (r.over ≡ false → s ≡ state_at r.place)
      → HasState limit Chunked now s × (s ≡ state.More → (r.len ≡ length piece) × IsAt limit Chunked now r.place r.room)
  by_over true is_over s large at_place =
      let too_many : limit < length (data_from limit Start now) = omega (arith, run.over is_over, size r.len) in (
        subst (HasState limit Chunked now) (sym (large is_over))
            (over_none limit Chunked now too_many, (open_before (run.last is_over), inr too_many)),
        λ more. let both : state.TooLarge ≡ state.More = sym (large is_over) ∙ more in cc,
      )
  by_over false within s large at_place =
      let there : place_after limit Start now ≡ place_of r.place = leads r.len ∙ sym (run.place within) in
      let room : r.room + length (data_from limit Start now) ≡ limit = omega (arith, run.room_is within, size r.len) in (
        subst (HasState limit Chunked now) (sym (at_place within))
            (chunks_state limit now r.place there (omega (arith, room)) (λ settled. open_before (run.settled within settled))),
        λ more. (run.all within (more_open r.place (sym (at_place within) ∙ more)), (there, room)),
      )

  chunks_fed : (s : BodyState) → (r.over ≡ true → s ≡ state.TooLarge) → (r.over ≡ false → s ≡ state_at r.place)
      → HasState limit Chunked now s × (s ≡ state.More → (r.len ≡ length piece) × IsAt limit Chunked now r.place r.room)
  chunks_fed s large at_place = by_over r.over refl s large at_place

  chunks_grown : content_so_far limit Chunked now ≡ content_so_far limit Chunked came ++ take left new_data
  chunks_grown = ap (take limit) (grows r.len) ∙ content_grows limit left old_data new_data is.1

-- bytes of a body whose length is known
module _ (limit n : ℕ) (came taken : List ℕ) (live : IsOpen limit (Counted n) came) (fits : length came + length taken ≤ n) where
  counted_grown : content_so_far limit (Counted n) (came ++ taken) ≡ content_so_far limit (Counted n) came ++ taken
  counted_grown =
      take_all limit (came ++ taken) (omega (arith, fits, live.1, length-append came taken))
      ∙ ap (λ t. t ++ taken) (sym (take_all limit came (omega (arith, fits, live.1))))

  counted_whole : length came + length taken ≡ n → HasState limit (Counted n) (came ++ taken) state.Whole
  counted_whole all =
      let size : length (came ++ taken) ≤ limit = omega (arith, fits, live.1, length-append came taken) in
      subst (IsBodyOf limit (Counted n) false (came ++ taken)) (sym (take_all limit (came ++ taken) size))
      ((omega (arith, all, length-append came taken), refl), size)

  counted_open : length came + length taken < n → HasState limit (Counted n) (came ++ taken) state.More
  counted_open part = (omega (arith, part, length-append came taken), live.1)

-- bytes of a body that ends with the connection
close_grown : (limit : ℕ) (came taken : List ℕ) → length came + length taken ≤ limit
    → content_so_far limit Close (came ++ taken) ≡ content_so_far limit Close came ++ taken
close_grown limit came taken fits =
    take_all limit (came ++ taken) (omega (arith, fits, length-append came taken)) ∙ ap (λ t. t ++ taken) (sym (take_all limit came (omega (arith, fits))))

close_open : (limit : ℕ) (came taken : List ℕ) → length came + length taken ≤ limit → HasState limit Close (came ++ taken) state.More
close_open limit came taken fits = omega (arith, fits, length-append came taken)

-- the byte of content that is one too many
module _ (limit left : ℕ) (came piece : List ℕ) (room : left + length came ≡ limit) (over : left < length piece) where
  last_split : came ++ take (left + 1) piece ≡ (came ++ take left piece) ++ get_or piece left 0 ∷ []
  last_split = ap (λ t. came ++ t) (take_more piece left 0 over) ∙ sym (append_assoc came (take left piece) (get_or piece left 0 ∷ []))

  close_over : HasState limit Close (came ++ take (left + 1) piece) state.TooLarge
  close_over =
      let long : length (take (left + 1) piece) ≡ left + 1 = length-take-le (left + 1) piece (omega (arith, over)) in
      let short : length (take left piece) ≡ left = length-take-le left piece (omega (arith, over)) in
      let too_many : limit < length (came ++ take (left + 1) piece) = omega (arith, long, room, length-append came (take (left + 1) piece)) in (
        over_none limit Close (came ++ take (left + 1) piece) too_many,
        ((came ++ take left piece, get_or piece left 0, last_split, omega (arith, short, room, length-append came (take left piece))), too_many),
      )

  close_over_grown : content_so_far limit Close (came ++ take (left + 1) piece) ≡ content_so_far limit Close came ++ take left piece
  close_over_grown =
      ap (take limit) (ap (λ t. came ++ t) (take_more piece left 0 over))
      ∙ content_grows limit left came (take left piece ++ get_or piece left 0 ∷ []) room
      ∙ ap (λ t. take limit came ++ t) (take_at (take left piece) (get_or piece left 0 ∷ []) left (length-take-le left piece (omega (arith, over))))

-- the same of a body as it is fed
pub chunks_are_fed : (limit : ℕ) (framing : Framing) (came piece now before after : List ℕ) (at : WidePlace) (left : ℕ) (r : Run) (s : BodyState) → framing ≡ Chunked
    → now ≡ came ++ take r.len piece → IsAt limit framing came at left → HasRun limit (place_of at) left piece r before after
    → (r.over ≡ true → s ≡ state.TooLarge) → (r.over ≡ false → s ≡ state_at r.place)
    → HasState limit framing now s × (s ≡ state.More → (r.len ≡ length piece) × IsAt limit framing now r.place r.room)
chunks_are_fed limit Empty came piece now before after at left r s is grown was run large settled = cc
chunks_are_fed limit (Counted n) came piece now before after at left r s is grown was run large settled = cc
chunks_are_fed limit Close came piece now before after at left r s is grown was run large settled = cc
chunks_are_fed limit Chunked came piece now before after at left r s is grown was run large settled =
    let fed = chunks_fed limit came piece before after at left r was run s large settled in (
      subst (λ (t : List ℕ). HasState limit Chunked t s) (sym grown) fed.0,
      λ more. ((fed.1 more).0, subst (λ (t : List ℕ). IsAt limit Chunked t r.place r.room) (sym grown) (fed.1 more).1),
    )

pub chunks_were : (limit : ℕ) (framing : Framing) (came piece now before after : List ℕ) (at : WidePlace) (left : ℕ) (r : Run) (s : BodyState) → framing ≡ Chunked
    → now ≡ came ++ take r.len piece → IsAt limit framing came at left → HasRun limit (place_of at) left piece r before after
    → (r.over ≡ true → s ≡ state.TooLarge) → (r.over ≡ false → s ≡ state_at r.place) → s ≡ state.Bad → WasAt limit now r.before
chunks_were limit Empty came piece now before after at left r s is grown was run large settled bad = cc
chunks_were limit (Counted n) came piece now before after at left r s is grown was run large settled bad = cc
chunks_were limit Close came piece now before after at left r s is grown was run large settled bad = cc
chunks_were limit Chunked came piece now before after at left r s is grown was run large settled bad =
    subst (λ (t : List ℕ). WasAt limit t r.before) (sym grown) (chunks_was limit came piece before after at left r was run s large settled bad)

pub chunks_add : (limit : ℕ) (framing : Framing) (came piece now before after : List ℕ) (at : WidePlace) (left : ℕ) (r : Run) → framing ≡ Chunked
    → now ≡ came ++ take r.len piece → IsAt limit framing came at left → HasRun limit (place_of at) left piece r before after
    → content_so_far limit framing now ≡ content_so_far limit framing came ++ take left (run_data limit (place_of at) piece r.len)
chunks_add limit Empty came piece now before after at left r is grown was run = cc
chunks_add limit (Counted n) came piece now before after at left r is grown was run = cc
chunks_add limit Close came piece now before after at left r is grown was run = cc
chunks_add limit Chunked came piece now before after at left r is grown was run =
    ap (content_so_far limit Chunked) grown ∙ chunks_grown limit came piece before after at left r was run

-- before the first byte of content too many nothing of chunks is settled
pub going_chunks : (limit : ℕ) (framing : Framing) (came : List ℕ) (at : WidePlace) (left : ℕ) → framing ≡ Chunked
    → HasState limit framing came state.More → IsAt limit framing came at left → is_settled (place_of at) ≡ false
going_chunks limit Empty came at left is live was = cc
going_chunks limit (Counted n) came at left is live was = cc
going_chunks limit Close came at left is live was = cc
going_chunks limit Chunked came at left is live was = ap is_settled (sym was.0) ∙ live.0

-- how many bytes of a body that ends with the connection may still come
pub close_left : (limit : ℕ) (framing : Framing) (came : List ℕ) (at : WidePlace) (left : ℕ) → framing ≡ Close → IsAt limit framing came at left → left + length came ≡ limit
close_left limit Empty came at left is was = cc
close_left limit (Counted n) came at left is was = cc
close_left limit Chunked came at left is was = cc
close_left limit Close came at left is was = was

pub close_ends : (limit : ℕ) (framing : Framing) (came piece now : List ℕ) (left : ℕ) → framing ≡ Close → now ≡ came ++ take (left + 1) piece
    → left + length came ≡ limit → left < length piece
    → HasState limit framing now state.TooLarge × (content_so_far limit framing now ≡ content_so_far limit framing came ++ take left piece)
close_ends limit Empty came piece now left is grown was over = cc
close_ends limit (Counted n) came piece now left is grown was over = cc
close_ends limit Chunked came piece now left is grown was over = cc
close_ends limit Close came piece now left is grown was over = (
  subst (λ (t : List ℕ). HasState limit Close t state.TooLarge) (sym grown) (close_over limit left came piece was over),
  ap (content_so_far limit Close) grown ∙ close_over_grown limit left came piece was over,
)
