-- What a reader of a chunked body needs beside what a scan does.
use Rattle.std.proofs.Common.{◌≡◌, ℕ, ◌+◌, ◌-◌, ◌<◌, ◌≤◌, List, ◌++◌, length, take, drop, subst, arith, sym, ap, ◌∙◌}
use Rattle.std.proofs.lemmas.List.{take_all, take_rest, take-append-drop, length-drop, append-nil}
use Rattle.mx_body.specs.declared.chunked.place.ChunkedPlace.{ChunkedPlace}
use Rattle.mx_body.specs.declared.chunked.place.ChunkedPlace.TheVariants.{Start, Size, Extension, SizeLf, Data, DataCr, DataLf, TrailerStart, Trailer, TrailerLf, EndLf, Done, Bad, TooLarge}
use Rattle.mx_body.specs.ChunkedPlace.{place_after, data_left, parts_begun}
use Rattle.mx_body.specs.Chunked.{ChunkedBody, IsChunkedBody, chunked_bytes, chunk_parts}
use Rattle.mx_body.proofs.ChunkedSound.{Reads, reads_input}
use Rattle.mx_body.specs.ChunkedReader.{HasRead, ReadTo}
use Rattle.mx_body.specs.ChunkedStretch.{IsStretch, part_begun}
use Rattle.mx_body.specs.declared.part.Part.{Part}
use Rattle.mx_body.specs.declared.chunked.stretch.Stretch.{Stretch}
use Rattle.mx_body.specs.declared.chunked.reader.ChunkedReader.{ChunkedReader}
use Rattle.mx_body.proofs.ChunkedParts.{all_parts, further_begun}
use Rattle.mx_body.proofs.ChunkedSteps.{further}
use Rattle.mx_body.proofs.ChunkedRun.{place_after-append, parts_begun-append, data_part, data_begins_none}

-- the data still to come are within the limit
pub left_fits : (limit : ℕ) (bs : List ℕ) (place : ChunkedPlace) → place_after limit Start bs ≡ place → data_left place ≤ limit
left_fits limit bs (Data left) e =
    let reads = subst (λ p. Reads limit 0 p bs (parts_begun limit Start 0 bs)) e (reads_input limit 0 bs (λ large. cc)) in
    omega (arith, reads.1.value, reads.1.small)
left_fits limit bs Start e = omega arith
left_fits limit bs (Size n) e = omega arith
left_fits limit bs (Extension n) e = omega arith
left_fits limit bs (SizeLf n) e = omega arith
left_fits limit bs DataCr e = omega arith
left_fits limit bs DataLf e = omega arith
left_fits limit bs TrailerStart e = omega arith
left_fits limit bs Trailer e = omega arith
left_fits limit bs TrailerLf e = omega arith
left_fits limit bs EndLf e = omega arith
left_fits limit bs Done e = omega arith
left_fits limit bs Bad e = omega arith
left_fits limit bs TooLarge e = omega arith

-- the parts that a whole body begins are its own
pub whole_parts : (limit at : ℕ) (text : List ℕ) (body : ChunkedBody) → IsChunkedBody body → text ≡ chunked_bytes body → length text ≤ limit
    → parts_begun limit Start at text ≡ chunk_parts at body.chunks
whole_parts limit at text body is e fits =
    let same : length text ≤ length text = omega arith in
    ap (parts_begun limit Start at) (sym (take_all (length text) text same)) ∙ all_parts limit at text body is e fits (length text) same

-- all bytes that were not read are data of one chunk, without its end
pub data_passed : (limit : ℕ) (body : List ℕ) (left n k : ℕ) (r : ChunkedReader) → HasRead limit body r → r.place ≡ Data left
    → length body < r.read + left → n + (length body - r.read) ≡ left → k ≡ length body
    → HasRead limit body (record r { place = Data n; read = k })
data_passed limit body left n k r h is short rest_is end =
    let xs = take r.read body in
    let ys = drop r.read body in
    let all : take k body ≡ xs ++ ys = take_all k body (omega (arith, end)) ∙ sym (take-append-drop r.read body) in
    let there : r.read ≤ length body = h.within in
    let rest : length ys ≡ length body - r.read = length-drop r.read body in
    let few : length ys < left = omega (arith, rest, there, short) in
    let at : place_after limit Start xs ≡ Data left = h.place ∙ is in
    let none = data_begins_none limit ys left (r.at + length xs) (omega (arith, few)) in
    record {
      within = omega (arith, end);
      place = ap (place_after limit Start) all ∙ place_after-append limit Start xs ys ∙ ap (λ p. place_after limit p ys) at
          ∙ data_part limit ys left few ∙ ap Data (omega (arith, rest, rest_is, few));
      parts = h.parts
          ∙ sym (append-nil (parts_begun limit Start r.at xs))
          ∙ ap (λ ps. parts_begun limit Start r.at xs ++ ps) (sym none)
          ∙ ap (λ p. parts_begun limit Start r.at xs ++ parts_begun limit p (r.at + length xs) ys) (sym at)
          ∙ sym (parts_begun-append limit Start r.at xs ys)
          ∙ ap (parts_begun limit Start r.at) (sym all);
    }

-- a stretch further on
pub led : (limit at : ℕ) (body : List ℕ) (read : ℕ) (place : ChunkedPlace) (parts : List Part) (s : Stretch) → ReadTo limit at body read place parts
    → IsStretch limit place (take (length body - read) (drop read body)) s
    → ReadTo limit at body (read + s.len) s.next (parts ++ part_begun s.ahead (at + (read + s.len)))
led limit at body read place parts s r is = record {
  inside = omega (arith, is.within, r.inside, ap length (take_rest body read) ∙ length-drop read body);
  leads = further limit body read s.len place s.next r.leads (sym is.leads);
  begins = ap (λ ps. ps ++ part_begun s.ahead (at + (read + s.len))) r.begins
      ∙ sym (further_begun limit at body read s.len place (part_begun s.ahead) r.inside r.leads (is.part (at + read)));
}
