-- The grammar of chunked bodies is unambiguous, and none of its texts is a proper prefix of another.
use Rattle.std.proofs.Common.{◌≡◌, ℕ, Bool, true, false, ◌==◌, ◌||◌, List, [], ◌∷◌, ◌++◌, length, refl, sym, ap, ◌∙◌, arith}
use Rattle.std.specs.Prelude.{All, flat_map}
use Rattle.std.specs.List.{AllPass}
use Rattle.std.proofs.lemmas.List.{append_assoc}
use Rattle.std.proofs.lemmas.List.Elements.{All-nil, All-cons, All-head, All-tail}
use Rattle.std.proofs.lemmas.Bool.Decides.{nat_tests}
use Rattle.std.specs.Char.{is_ascii_hexdigit}
use Rattle.httparse.specs.Ascii.{crlf_bytes, semicolon}
use Rattle.httparse.specs.Grammar.{is_ows}
use Rattle.mx_body.specs.Chunked.{is_line_byte, IsChunkExtension, ChunkOpening, opening_bytes, chunk_size, IsChunkOpening, Chunk, chunk_bytes, IsChunk, IsTrailer, ChunkedBody, chunks_bytes, chunked_bytes, IsChunkedBody}
use Rattle.mx_body.proofs.ChunkedComplete.{pass_head, pass_tail, opens_no_digit}

-- the bytes of a class up to the first that is none
span_unique : (p : ℕ → Bool) (xs ys : List ℕ) (a b : ℕ) (us vs : List ℕ) → AllPass p xs → AllPass p ys → p a ≡ false → p b ≡ false
    → xs ++ a ∷ us ≡ ys ++ b ∷ vs → (xs ≡ ys) × (a ∷ us ≡ b ∷ vs)
span_unique p [] [] a b us vs are too stops ends e = (refl, e)
span_unique p [] (y ∷ ys) a b us vs are too stops ends e =
    let same : a ≡ y = cc in
    let one = pass_head p y ys too in
    let other : p y ≡ false = ap p (sym same) ∙ stops in
    absurd (cc)
span_unique p (x ∷ xs) [] a b us vs are too stops ends e =
    let same : x ≡ b = cc in
    let one = pass_head p x xs are in
    let other : p x ≡ false = ap p same ∙ ends in
    absurd (cc)
span_unique p (x ∷ xs) (y ∷ ys) a b us vs are too stops ends e =
    let same : x ≡ y = cc in
    let rest : xs ++ a ∷ us ≡ ys ++ b ∷ vs = cc in
    let later = span_unique p xs ys a b us vs (pass_tail p x xs are) (pass_tail p y ys too) stops ends rest in
    (λ i. same i ∷ later.0 i, later.1)

-- what follows lists of one length
append_unique : (xs ys us vs : List ℕ) → length xs ≡ length ys → xs ++ us ≡ ys ++ vs → (xs ≡ ys) × (us ≡ vs)
append_unique [] [] us vs long e = (refl, e)
append_unique [] (y ∷ ys) us vs long e = absurd (omega arith)
append_unique (x ∷ xs) [] us vs long e = absurd (omega arith)
append_unique (x ∷ xs) (y ∷ ys) us vs long e =
    let same : x ≡ y = cc in
    let rest : xs ++ us ≡ ys ++ vs = cc in
    let later = append_unique xs ys us vs (omega arith) rest in
    (λ i. same i ∷ later.0 i, later.1)

opens_line : (b : ℕ) → (is_ows b || b == semicolon) ≡ true → is_line_byte b ≡ true
opens_line b is = grind (arith, nat_tests)

extension_line : (bytes : List ℕ) → IsChunkExtension bytes → AllPass is_line_byte bytes
extension_line [] is = All-nil (λ b. is_line_byte b ≡ true)
extension_line (b ∷ bytes) is = All-cons (λ b. is_line_byte b ≡ true) b bytes (opens_line b is.0) is.1

-- what follows the digits begins with no digit
record StopsDigits (text : List ℕ) : Type 0 where
  first : ℕ
  rest : List ℕ
  is : text ≡ first ∷ rest
  stops : is_ascii_hexdigit first ≡ false

stops_digits : (extension rest : List ℕ) → IsChunkExtension extension → StopsDigits (extension ++ (crlf_bytes ++ rest))
stops_digits [] rest is = record { first = 13; rest = 10 ∷ rest; is = refl; stops = refl }
stops_digits (b ∷ bytes) rest is = record { first = b; rest = bytes ++ (crlf_bytes ++ rest); is = refl; stops = opens_no_digit b is.0 }

size_line_unique : (l k : ChunkOpening) (x y : List ℕ) → IsChunkOpening l → IsChunkOpening k → opening_bytes l ++ x ≡ opening_bytes k ++ y → (l ≡ k) × (x ≡ y)
size_line_unique l k x y is too e =
    let s = stops_digits l.extension x is.extension in
    let t = stops_digits k.extension y too.extension in
    let texts = sym (grouped l x) ∙ e ∙ grouped k y in
    let digits = span_unique is_ascii_hexdigit l.digits k.digits s.first t.first s.rest t.rest is.digits.1 too.digits.1 s.stops t.stops
    (ap (λ z. l.digits ++ z) (sym s.is) ∙ texts ∙ ap (λ z. k.digits ++ z) t.is) in
    let tails : l.extension ++ (crlf_bytes ++ x) ≡ k.extension ++ (crlf_bytes ++ y) = s.is ∙ digits.1 ∙ sym t.is in
    let extensions = span_unique is_line_byte l.extension k.extension 13 13 (10 ∷ x) (10 ∷ y) (extension_line l.extension is.extension) (extension_line k.extension too.extension) refl refl tails in
    let behind : x ≡ y = let h = extensions.1 in cc in
    (λ i. record { digits = digits.0 i; extension = extensions.0 i }, behind)
  where
    grouped : (l : ChunkOpening) (x : List ℕ) → opening_bytes l ++ x ≡ l.digits ++ (l.extension ++ (crlf_bytes ++ x))
    grouped l x = simp append_assoc

-- the chunks up to a last line
chunks_unique : (cs ds : List Chunk) (l k : ChunkOpening) (x y : List ℕ) → All IsChunk cs → All IsChunk ds → IsChunkOpening l → IsChunkOpening k
    → chunk_size l ≡ 0 → chunk_size k ≡ 0 → chunks_bytes cs ++ (opening_bytes l ++ x) ≡ chunks_bytes ds ++ (opening_bytes k ++ y)
    → (cs ≡ ds) × (l ≡ k) × (x ≡ y)
chunks_unique [] [] l k x y are too is has none zero e =
    let last = size_line_unique l k x y is has e in
    (refl, last.0, last.1)
chunks_unique [] (d ∷ ds) l k x y are too is has none zero e =
    let h = All-head IsChunk d ds too in
    let line = size_line_unique l d.line x _ is h.line (e ∙ grouped d (chunks_bytes ds) (opening_bytes k ++ y)) in
    let sizes : chunk_size l ≡ chunk_size d.line = ap chunk_size line.0 in
    absurd (omega (arith, h.sized, h.not_empty))
  where
    grouped : (c : Chunk) (later rest : List ℕ) → (chunk_bytes c ++ later) ++ rest ≡ opening_bytes c.line ++ (c.bytes ++ (crlf_bytes ++ (later ++ rest)))
    grouped c later rest = simp append_assoc
chunks_unique (c ∷ cs) [] l k x y are too is has none zero e =
    let h = All-head IsChunk c cs are in
    let line = size_line_unique c.line k _ y h.line has (sym (grouped c (chunks_bytes cs) (opening_bytes l ++ x)) ∙ e) in
    let sizes : chunk_size c.line ≡ chunk_size k = ap chunk_size line.0 in
    absurd (omega (arith, h.sized, h.not_empty))
  where
    grouped : (c : Chunk) (later rest : List ℕ) → (chunk_bytes c ++ later) ++ rest ≡ opening_bytes c.line ++ (c.bytes ++ (crlf_bytes ++ (later ++ rest)))
    grouped c later rest = simp append_assoc
chunks_unique (c ∷ cs) (d ∷ ds) l k x y are too is has none zero e =
    let g = All-head IsChunk c cs are in
    let h = All-head IsChunk d ds too in
    let line = size_line_unique c.line d.line _ _ g.line h.line (sym (grouped c (chunks_bytes cs) (opening_bytes l ++ x)) ∙ e ∙ grouped d (chunks_bytes ds) (opening_bytes k ++ y)) in
    let sizes : length c.bytes ≡ length d.bytes = sym g.sized ∙ ap chunk_size line.0 ∙ h.sized in
    let bytes = append_unique c.bytes d.bytes _ _ sizes line.1 in
    let behind : chunks_bytes cs ++ (opening_bytes l ++ x) ≡ chunks_bytes ds ++ (opening_bytes k ++ y) = let b = bytes.1 in cc in
    let later = chunks_unique cs ds l k x y (All-tail IsChunk c cs are) (All-tail IsChunk d ds too) is has none zero behind in
    (λ i. record { line = line.0 i; bytes = bytes.0 i } ∷ later.0 i, later.1, later.2)
  where
    grouped : (c : Chunk) (later rest : List ℕ) → (chunk_bytes c ++ later) ++ rest ≡ opening_bytes c.line ++ (c.bytes ++ (crlf_bytes ++ (later ++ rest)))
    grouped c later rest = simp append_assoc

-- the bytes of some trailer lines
abbrev lines : List (List ℕ) → List ℕ
lines ts = flat_map (λ t. t ++ crlf_bytes) ts

no_cr : (t : List ℕ) (rest tail : List ℕ) → IsTrailer t → ¬ (t ++ rest ≡ 13 ∷ tail)
no_cr [] rest tail is e = absurd (omega (arith, is.0))
no_cr (b ∷ t) rest tail is e =
    let cr : b ≡ 13 = cc in
    let one = pass_head is_line_byte b t is.1 in
    let other : is_line_byte b ≡ false = ap is_line_byte cr in
    absurd (cc)

trailers_unique : (ts us : List (List ℕ)) (x y : List ℕ) → All IsTrailer ts → All IsTrailer us → lines ts ++ (crlf_bytes ++ x) ≡ lines us ++ (crlf_bytes ++ y) → (ts ≡ us) × (x ≡ y)
trailers_unique [] [] x y are too e =
    let behind : x ≡ y = cc in
    (refl, behind)
trailers_unique [] (u ∷ us) x y are too e =
    absurd (no_cr u _ _ (All-head IsTrailer u us too) (sym (e ∙ grouped u (lines us) (crlf_bytes ++ y))))
  where
    grouped : (t later rest : List ℕ) → ((t ++ crlf_bytes) ++ later) ++ rest ≡ t ++ (crlf_bytes ++ (later ++ rest))
    grouped t later rest = simp append_assoc
trailers_unique (t ∷ ts) [] x y are too e =
    absurd (no_cr t _ _ (All-head IsTrailer t ts are) (sym (grouped t (lines ts) (crlf_bytes ++ x)) ∙ e))
  where
    grouped : (t later rest : List ℕ) → ((t ++ crlf_bytes) ++ later) ++ rest ≡ t ++ (crlf_bytes ++ (later ++ rest))
    grouped t later rest = simp append_assoc
trailers_unique (t ∷ ts) (u ∷ us) x y are too e =
    let g = All-head IsTrailer t ts are in
    let h = All-head IsTrailer u us too in
    let first = span_unique is_line_byte t u 13 13 _ _ g.1 h.1 refl refl (sym (grouped t (lines ts) (crlf_bytes ++ x)) ∙ e ∙ grouped u (lines us) (crlf_bytes ++ y)) in
    let behind : lines ts ++ (crlf_bytes ++ x) ≡ lines us ++ (crlf_bytes ++ y) = let b = first.1 in cc in
    let later = trailers_unique ts us x y (All-tail IsTrailer t ts are) (All-tail IsTrailer u us too) behind in
    (λ i. first.0 i ∷ later.0 i, later.1)
  where
    grouped : (t later rest : List ℕ) → ((t ++ crlf_bytes) ++ later) ++ rest ≡ t ++ (crlf_bytes ++ (later ++ rest))
    grouped t later rest = simp append_assoc

-- two bodies at the front of one text are one
pub body_unique : (body other : ChunkedBody) (x y : List ℕ) → IsChunkedBody body → IsChunkedBody other → chunked_bytes body ++ x ≡ chunked_bytes other ++ y → (body ≡ other) × (x ≡ y)
body_unique body other x y is too e =
    let front = chunks_unique body.chunks other.chunks body.last other.last _ _ is.chunks too.chunks is.last too.last is.ends too.ends (sym (grouped body x) ∙ e ∙ grouped other y) in
    let back = trailers_unique body.trailers other.trailers x y is.trailers too.trailers front.2 in
    (λ i. record { chunks = front.0 i; last = front.1 i; trailers = back.0 i }, back.1)
  where
    grouped : (body : ChunkedBody) (x : List ℕ) → chunked_bytes body ++ x ≡ chunks_bytes body.chunks ++ (opening_bytes body.last ++ (lines body.trailers ++ (crlf_bytes ++ x)))
    grouped body x =
        append_assoc (chunks_bytes body.chunks) _ x ∙ ap (λ t. chunks_bytes body.chunks ++ t) (append_assoc (opening_bytes body.last) _ x ∙ ap (λ t. opening_bytes body.last ++ t) (append_assoc (lines body.trailers) crlf_bytes x))
