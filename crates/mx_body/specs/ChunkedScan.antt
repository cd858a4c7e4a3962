-- What the first bytes of an input are, read as a chunked body with no size over a limit.
use Rattle.std.specs.Prelude.{◌≡◌, ℕ, List, [], ◌∷◌, ◌++◌, length}
use Rattle.mx_body.specs.declared.chunked.scan.ChunkedScan.{ChunkedScan}
use Rattle.mx_body.specs.declared.chunked.scan.ChunkedScan.TheVariants.{Whole, Short, TooLarge, Bad}
use Rattle.mx_body.specs.Chunked.{ChunkedBody, IsChunkedBody, HasSizes, chunked_bytes, MayBecomeChunked, EndsInLargeSize}

-- the input begins with the body, and the rest follows it
abbrev pub BeginsWithChunked : ℕ → List ℕ → ChunkedBody → List ℕ → Type 0
BeginsWithChunked limit input body rest =
    IsChunkedBody body × HasSizes limit body × (input ≡ chunked_bytes body ++ rest)

-- nothing is decided yet: the bytes can still become a chunked body, no prefix of them is one, and none ends in
-- a size over the limit
pub record IsUndecidedChunked (limit : ℕ) (bytes : List ℕ) : Type 0 where
  pub may_become : MayBecomeChunked bytes
  pub not_whole : (body : ChunkedBody) (rest : List ℕ) → IsChunkedBody body → ¬ (bytes ≡ chunked_bytes body ++ rest)
  pub small : (front rest : List ℕ) → bytes ≡ front ++ rest → ¬ (EndsInLargeSize limit front)

-- whatever follows, the input has no prefix that is a chunked body with no size over the limit
abbrev pub NeverHasChunked : ℕ → List ℕ → Type 0
NeverHasChunked limit input =
    (more : List ℕ) (body : ChunkedBody) (rest : List ℕ) → ¬ (BeginsWithChunked limit (input ++ more) body rest)

-- the input has a prefix of this kind, and nothing is decided before its last byte
abbrev pub IsDecidedBy : ℕ → List ℕ → (List ℕ → Type 0) → Type 0
IsDecidedBy limit input Kind =
    (front : List ℕ) × (b : ℕ) × (rest : List ℕ) × (input ≡ front ++ b ∷ rest)
    × IsUndecidedChunked limit front × Kind (front ++ b ∷ [])

-- what a scan found holds of the input
abbrev pub IsChunkedScan : ℕ → List ℕ → ChunkedScan → Type 0
IsChunkedScan limit input (Whole len) =
    (body : ChunkedBody) × (rest : List ℕ) × BeginsWithChunked limit input body rest × (len ≡ length (chunked_bytes body))
IsChunkedScan limit input Short = IsUndecidedChunked limit input
IsChunkedScan limit input TooLarge = IsDecidedBy limit input (EndsInLargeSize limit) × NeverHasChunked limit input
IsChunkedScan limit input Bad = IsDecidedBy limit input (λ bytes. ¬ (MayBecomeChunked bytes)) × NeverHasChunked limit input
