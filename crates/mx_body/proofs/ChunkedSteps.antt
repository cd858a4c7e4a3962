-- A scan of an input: the place of a growing prefix of it, and what the scan may answer there.
use Rattle.std.proofs.Common.{◌≡◌, ℕ, ◌+◌, ◌-◌, ◌<◌, ◌≤◌, false, List, [], ◌∷◌, ◌++◌, length, take, drop, get_or, refl, sym, ap, ◌∙◌, subst}
use Rattle.std.proofs.lemmas.List.{take-append-drop, take_more, take_all, take_rest, length-take-le, drop_more}
use Rattle.std.proofs.Math.Seq.{take-add}
use Rattle.mx_body.specs.declared.chunked.place.ChunkedPlace.{ChunkedPlace}
use Rattle.mx_body.specs.declared.chunked.place.ChunkedPlace.TheVariants.{Start, Size, Extension, SizeLf, Data, DataCr, DataLf, TrailerStart, Trailer, TrailerLf, EndLf, Done, Bad, TooLarge}
use Rattle.mx_body.specs.declared.chunked.scan.ChunkedScan.TheVariants as scan
use Rattle.mx_body.specs.ChunkedPlace.{place_after, is_settled}
use Rattle.mx_body.specs.ChunkedScan.{IsUndecidedChunked, IsChunkedScan}
use Rattle.mx_body.proofs.ChunkedRun.{place_after-append}
use Rattle.mx_body.proofs.ChunkedLemmas.{done_reads, open_is_undecided, bad_decides, large_decides, ends_in_large}

-- a place that is none of the three that settle
pub is_open : (place : ChunkedPlace) → ¬ (place ≡ Done) → ¬ (place ≡ Bad) → ¬ (place ≡ TooLarge) → is_settled place ≡ false
is_open Done done bad large = absurd (done refl)
is_open Bad done bad large = absurd (bad refl)
is_open TooLarge done bad large = absurd (large refl)
is_open Start done bad large = refl
is_open (Size n) done bad large = refl
is_open (Extension n) done bad large = refl
is_open (SizeLf n) done bad large = refl
is_open (Data n) done bad large = refl
is_open DataCr done bad large = refl
is_open DataLf done bad large = refl
is_open TrailerStart done bad large = refl
is_open Trailer done bad large = refl
is_open TrailerLf done bad large = refl
is_open EndLf done bad large = refl

module _ (limit : ℕ) (input : List ℕ) where
  abbrev pub At : ℕ → ChunkedPlace
  At n = place_after limit Start (take n input)

  -- a piece of the rest on
  pub further : (at len : ℕ) (place next : ChunkedPlace) → At at ≡ place → next ≡ place_after limit place (take len (take (length input - at) (drop at input))) → At (at + len) ≡ next
  further at len place next e f =
      ap (place_after limit Start) (take-add at len input) ∙ place_after-append limit Start (take at input) (take len (drop at input))
      ∙ ap (λ p. place_after limit p (take len (drop at input))) e
      ∙ ap (λ t. place_after limit place (take len t)) (sym (take_rest input at)) ∙ sym f

  pub whole_at : (n : ℕ) → n ≤ length input → At n ≡ Done → IsChunkedScan limit input (scan.Whole n)
  whole_at n within done =
      let read = done_reads limit 0 (take n input) done in (
        read.body,
        drop n input,
        (read.is_body, read.sizes, sym (take-append-drop n input) ∙ ap (λ t. t ++ drop n input) read.text),
        sym (length-take-le n input within) ∙ ap length read.text,
      )

  pub short : (n : ℕ) → length input ≤ n → is_settled (At n) ≡ false → IsChunkedScan limit input scan.Short
  short n all live = subst (IsUndecidedChunked limit) (take_all n input all) (open_is_undecided limit (take n input) live)

  -- the input at a byte
  at_byte : (n : ℕ) → n < length input → input ≡ take n input ++ get_or input n 0 ∷ drop (n + 1) input
  at_byte n inside = sym (take-append-drop n input) ∙ ap (λ t. take n input ++ t) (drop_more input n 0 inside)

  pub bad_at : (n : ℕ) → n < length input → is_settled (At n) ≡ false → At (n + 1) ≡ Bad → IsChunkedScan limit input scan.Bad
  bad_at n inside live bad =
      bad_decides limit input (take n input) (drop (n + 1) input) (get_or input n 0) (at_byte n inside) (open_is_undecided limit (take n input) live)
      (ap (place_after limit Start) (sym (take_more input n 0 inside)) ∙ bad)

  pub large_at : (n : ℕ) → n < length input → is_settled (At n) ≡ false → At (n + 1) ≡ TooLarge → IsChunkedScan limit input scan.TooLarge
  large_at n inside live large =
      let here : place_after limit Start (take n input ++ get_or input n 0 ∷ []) ≡ TooLarge = ap (place_after limit Start) (sym (take_more input n 0 inside)) ∙ large in
      large_decides limit input (take n input) (drop (n + 1) input) (get_or input n 0) (at_byte n inside) (open_is_undecided limit (take n input) live)
      here (ends_in_large limit (take n input) (get_or input n 0) live here)
