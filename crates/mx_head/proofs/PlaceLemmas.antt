-- Where bytes are in a text.
use Rattle.std.proofs.Common.{◌≡◌, ℕ, ◌≤◌, ◌-◌, List, ◌++◌, length, take, drop, slice_range, refl, sym, ap, ◌∙◌, arith, length-drop}
use Rattle.std.specs.Prelude.{Option, Some, None, IfSome, option_map}
use Rattle.std.proofs.lemmas.List.{take-append-le, drop-append-le}
use Rattle.httparse.specs.Spans.{IsWithin, span_bytes}
use Rattle.httparse.specs.declared.spans.Span.{Span}
use Rattle.mx_head.specs.Summary.{StandsAt}

-- a part of a prefix of a text is that part of the text
pub slice_front : (front rest : List ℕ) (start end : ℕ) → start ≤ end → end ≤ length front → slice_range (front ++ rest) start end ≡ slice_range front start end
slice_front front rest start end ordered within =
    ap (take (end - start)) (drop-append-le start front rest (omega (arith, ordered, within)))
    ∙ take-append-le (end - start) (drop start front) rest (omega (arith, length-drop start front, ordered, within))

-- where a span covers a value in a text, it covers it in a prefix of the text in which it is
pub stands_in_front : (text front rest : List ℕ) (at : Option Span) (value : Option (List ℕ)) → text ≡ front ++ rest
    → IfSome at (IsWithin (length front)) → option_map (span_bytes text) at ≡ value → StandsAt front at value
stands_in_front text front rest None None is within same = tt
stands_in_front text front rest None (Some value) is within same = cc
stands_in_front text front rest (Some s) None is within same = cc
stands_in_front text front rest (Some s) (Some value) is within same =
    let covered : span_bytes text s ≡ value = cc in
    (within, sym (slice_front front rest s.start s.end within.0 within.1) ∙ ap (λ (t : List ℕ). slice_range t s.start s.end) (sym is) ∙ covered)
