-- Laws of the content of a body, each the contract of a function of `laws`.
use Rattle.std.specs.Prelude.{◌≡◌, ℕ, Bool, List, ◌++◌}
use Rattle.mx_head.specs.declared.types.Framing.{Framing}
use Rattle.mx_flow.specs.Flows.{IsBodyOf, content_so_far}

-- the content of a whole body is the content so far, once all its bytes have come
abbrev pub WholeHasAll : Type 0
WholeHasAll =
    (limit : ℕ) (framing : Framing) (ended : Bool) (body content : List ℕ) → IsBodyOf limit framing ended body content
    → content ≡ content_so_far limit framing body

-- the content so far stays its prefix, whatever comes then
abbrev pub OnlyGrows : Type 0
OnlyGrows =
    (limit : ℕ) (framing : Framing) (came more : List ℕ)
    → (rest : List ℕ) × (content_so_far limit framing (came ++ more) ≡ content_so_far limit framing came ++ rest)

-- so it is a prefix of the content of each body that the bytes may still become
abbrev pub IsFrontOfEach : Type 0
IsFrontOfEach =
    (limit : ℕ) (framing : Framing) (ended : Bool) (came more content : List ℕ) → IsBodyOf limit framing ended (came ++ more) content
    → (rest : List ℕ) × (content ≡ content_so_far limit framing came ++ rest)
