-- A whole response (RFC 9112, sections 6 and 7): interim heads, the final head, and its body.
use Rattle.std.specs.Prelude.{◌≡◌, ◌≢◌, ℕ, ◌+◌, ◌<◌, ◌≤◌, ◌==◌, Bool, true, List, [], ◌∷◌, ◌++◌, length, All, flat_map, if◌then◌else◌, Ok}
use Rattle.httparse.specs.Grammar.{ResponseHead, print_response, status_code}
use Rattle.mx_types.specs.declared.method.Method.{Method}
use Rattle.mx_head.specs.declared.types.Framing.{Framing}
use Rattle.mx_head.specs.declared.types.Framing.TheVariants.{Empty, Counted, Chunked, Close}
use Rattle.mx_head.specs.Framing.{framing_of}
use Rattle.mx_head.specs.Heads.{IsHead}
use Rattle.mx_head.specs.Limits.{most_bytes, most_interim}
use Rattle.mx_body.specs.declared.part.Part.{Part}
use Rattle.mx_body.specs.Chunked.{IsChunked}

-- 100 to 199 (RFC 9110, section 15.2)
abbrev pub IsInterimStatus : ℕ → Type 0
IsInterimStatus status = (100 ≤ status) × (status < 200)

-- A head that is passed. One of status 101 would leave HTTP (RFC 9110, section 15.2.2) and isn't passed.
pub record IsInterim (h : ResponseHead) : Type 0 where
  pub head : IsHead h
  pub status : IsInterimStatus (status_code h)
  pub stays : status_code h ≢ 101

-- the heads that may come before the final one
pub record AreInterim (hs : List ResponseHead) : Type 0 where
  pub each : All IsInterim hs
  pub few : length hs ≤ most_interim

-- a head of any other status
pub record IsFinal (h : ResponseHead) : Type 0 where
  pub head : IsHead h
  pub status : ¬ (IsInterimStatus (status_code h))

-- the bytes of heads, one after the other
abbrev pub print_heads : List ResponseHead → List ℕ
print_heads hs = flat_map print_response hs

-- bytes are interim heads, and then rest
abbrev pub StandsAtHead : List ℕ → List ResponseHead → List ℕ → Type 0
StandsAtHead bytes hs rest = AreInterim hs × (bytes ≡ print_heads hs ++ rest)

-- bytes are interim heads, the final head h, and then rest
abbrev pub StandsAtBody : List ℕ → List ResponseHead → ResponseHead → List ℕ → Type 0
StandsAtBody bytes hs h rest = IsFinal h × StandsAtHead bytes hs (print_response h ++ rest)

-- the part of a body in one piece, which has n bytes from `at` on: none where it is empty
abbrev pub one_part : ℕ → ℕ → List Part
one_part at n = if n == 0 then [] else record { start = at; end = at + n } ∷ []

-- Body is a message body of that framing with this content (RFC 9112, section 6.3). The content is at these parts, once the body begins at
-- the offset `at`.
abbrev pub IsBody : Framing → Bool → ℕ → List ℕ → List Part → List ℕ → Type 0
IsBody Empty ended at body parts content = (body ≡ []) × (parts ≡ []) × (content ≡ [])
IsBody (Counted n) ended at body parts content =
    (length body ≡ n) × (parts ≡ one_part at n) × (content ≡ body)
IsBody Chunked ended at body parts content = IsChunked most_bytes at body parts content
IsBody Close ended at body parts content =
    (ended ≡ true) × (parts ≡ one_part at (length body)) × (content ≡ body)

-- what a response is made of
pub record Response : Type 0 where
  pub interim : List ResponseHead
  pub head : ResponseHead
  pub framing : Framing
  pub body : List ℕ
  pub parts : List Part
  pub content : List ℕ

-- the bytes before its body
abbrev pub heads_of : Response → List ℕ
heads_of r = print_heads r.interim ++ print_response r.head

-- bytes are the whole response r to that method; `ended` says that the input ends with them
pub record IsResponse (m : Method) (bytes : List ℕ) (ended : Bool) (r : Response) : Type 0 where
  pub stands : StandsAtBody bytes r.interim r.head r.body
  pub fits : length bytes ≤ most_bytes
  pub asked : framing_of m r.head ≡ Ok r.framing
  pub body : IsBody r.framing ended (length (heads_of r)) r.body r.parts r.content
