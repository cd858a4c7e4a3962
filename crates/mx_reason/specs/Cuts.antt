-- Where the bytes of an exchange end that decide nothing.
use Rattle.std.specs.Prelude.{◌≡◌, ℕ, ◌<◌, List, length, Ok}
use Rattle.httparse.specs.Grammar.{ResponseHead}
use Rattle.mx_types.specs.declared.method.Method.{Method}
use Rattle.mx_head.specs.declared.types.Framing.TheVariants as framing
use Rattle.mx_head.specs.Framing.{framing_of}
use Rattle.mx_head.specs.Heads.{HasNoHead}
use Rattle.mx_body.specs.Response.{StandsAtHead, StandsAtBody}
use Rattle.mx_reason.specs.declared.reason.Cut.{Cut}
use Rattle.mx_reason.specs.declared.reason.Cut.TheVariants.{Head, Counted, Chunked, Close}

-- rule reason-truncated: Where nothing is decided, the reason says in which part of a response the bytes end, and of a counted body how
-- many bytes of how many came.
--
-- in or before a head; or after the final head, in a body of this framing
abbrev pub IsCutIn : Method → List ℕ → Cut → Type 0
IsCutIn m wire Head = (hs : List ResponseHead) × (r : List ℕ) × StandsAtHead wire hs r × HasNoHead r
IsCutIn m wire (Counted came of) =
    (hs : List ResponseHead) × (h : ResponseHead) × (r : List ℕ) × StandsAtBody wire hs h r
    × (framing_of m h ≡ Ok (framing.Counted of)) × (came ≡ length r) × (came < of)
IsCutIn m wire Chunked =
    (hs : List ResponseHead) × (h : ResponseHead) × (r : List ℕ) × StandsAtBody wire hs h r × (framing_of m h ≡ Ok framing.Chunked)
IsCutIn m wire Close =
    (hs : List ResponseHead) × (h : ResponseHead) × (r : List ℕ) × StandsAtBody wire hs h r × (framing_of m h ≡ Ok framing.Close)
