-- A chunked body by the ABNF of RFC 9112, section 7.1, with what that takes over from RFC 9110: `BWS` and `OWS`
-- (5.6.3), `token` (5.6.2), `quoted-string` (5.6.4) and `field-line` (RFC 9112, section 5). The bodies here are
-- trees of `Chunked`; this says which of them the standard's own grammar has.
use Rattle.std.specs.Prelude.{◌≡◌, ℕ, ◌<◌, ◌⊎◌, not, ◌&&◌, ◌||◌, ◌==◌, List, [], ◌∷◌, ◌++◌, length, All, Option, Some, None, IsTrue, flat_map, reverse}
use Rattle.std.specs.List.{AllPass}
use Rattle.httparse.specs.Ascii.{semicolon, colon, digit_zero}
use Rattle.httparse.specs.Grammar.{is_ows, is_value_byte, IsToken}
use Rattle.mx_body.specs.Chunked.{IsChunkSize, ChunkOpening, chunk_size, Chunk, ChunkedBody, HasSizes, chunked_bytes, chunked_data}

-- b'"'
abbrev pub double_quote : ℕ
double_quote = 34

-- b'='
abbrev pub equals_sign : ℕ
equals_sign = 61

-- b'\\'
abbrev pub backslash : ℕ
backslash = 92

-- OWS and BWS: *( SP / HTAB )
abbrev pub AreBlanks : List ℕ → Type 0
AreBlanks bytes = AllPass is_ows bytes

-- a piece of a quoted string: qdtext, or quoted-pair = "\" ( HTAB / SP / VCHAR / obs-text )
pub data QuotedPiece : Type 0 where
  plain escaped : ℕ → QuotedPiece

abbrev pub print_piece : QuotedPiece → List ℕ
print_piece (plain b) = b ∷ []
print_piece (escaped b) = backslash ∷ b ∷ []

-- qdtext is HTAB, SP, VCHAR and obs-text but `"` and `\`
abbrev pub IsPiece : QuotedPiece → Type 0
IsPiece (plain b) = IsTrue (is_value_byte b && not (b == double_quote || b == backslash))
IsPiece (escaped b) = IsTrue (is_value_byte b)

-- quoted-string = DQUOTE *( qdtext / quoted-pair ) DQUOTE
abbrev pub IsQuotedString : List ℕ → Type 0
IsQuotedString bytes =
    (pieces : List QuotedPiece) × All IsPiece pieces × (bytes ≡ double_quote ∷ (flat_map print_piece pieces ++ double_quote ∷ []))

-- chunk-ext-val = token / quoted-string
abbrev pub IsExtensionValue : List ℕ → Type 0
IsExtensionValue bytes = IsToken bytes ⊎ IsQuotedString bytes

-- BWS "=" BWS chunk-ext-val
pub record Assigned : Type 0 where
  pub before : List ℕ
  pub behind : List ℕ
  pub value : List ℕ

abbrev pub print_assigned : Option Assigned → List ℕ
print_assigned None = []
print_assigned (Some a) = a.before ++ (equals_sign ∷ (a.behind ++ a.value))

abbrev pub IsAssigned : Option Assigned → Type 0
IsAssigned None = Unit {0}
IsAssigned (Some a) = AreBlanks a.before × AreBlanks a.behind × IsExtensionValue a.value

-- BWS ";" BWS chunk-ext-name [ BWS "=" BWS chunk-ext-val ]
pub record OneExtension : Type 0 where
  pub before : List ℕ
  pub behind : List ℕ
  pub name : List ℕ
  pub assigned : Option Assigned

abbrev pub print_one_extension : OneExtension → List ℕ
print_one_extension e = e.before ++ (semicolon ∷ (e.behind ++ (e.name ++ print_assigned e.assigned)))

-- chunk-ext-name = token
pub record IsOneExtension (e : OneExtension) : Type 0 where
  pub before : AreBlanks e.before
  pub behind : AreBlanks e.behind
  pub name : IsToken e.name
  pub assigned : IsAssigned e.assigned

-- chunk-ext = *( BWS ";" BWS chunk-ext-name [ BWS "=" BWS chunk-ext-val ] )
abbrev pub IsRfcExtension : List ℕ → Type 0
IsRfcExtension bytes =
    (extensions : List OneExtension) × All IsOneExtension extensions × (bytes ≡ flat_map print_one_extension extensions)

-- the first byte, if there is one, is no blank
abbrev pub BeginsWithText : List ℕ → Type 0
BeginsWithText [] = Unit {0}
BeginsWithText (b ∷ bytes) = IsTrue (not (is_ows b))

-- field-line = field-name ":" OWS field-value OWS
pub record FieldLine : Type 0 where
  pub name : List ℕ
  pub before : List ℕ
  pub value : List ℕ
  pub behind : List ℕ

abbrev pub print_field_line : FieldLine → List ℕ
print_field_line f = f.name ++ (colon ∷ (f.before ++ (f.value ++ f.behind)))

-- field-name = token; field-value = *field-content: visible bytes and obs-text, with blanks only between them
pub record IsFieldLine (f : FieldLine) : Type 0 where
  pub name : IsToken f.name
  pub before : AreBlanks f.before
  pub value : AllPass is_value_byte f.value
  pub begins : BeginsWithText f.value
  pub ends : BeginsWithText (reverse f.value)
  pub behind : AreBlanks f.behind

-- a field line without its CRLF
abbrev pub IsRfcTrailer : List ℕ → Type 0
IsRfcTrailer bytes = (line : FieldLine) × IsFieldLine line × (bytes ≡ print_field_line line)

-- chunk = chunk-size [ chunk-ext ] CRLF chunk-data CRLF; chunk-size = 1*HEXDIG; chunk-data = 1*OCTET, of which
-- the size gives the length
pub record IsRfcChunk (c : Chunk) : Type 0 where
  pub size : IsChunkSize c.line.digits
  pub extension : IsRfcExtension c.line.extension
  pub octets : 0 < length c.bytes
  pub sized : chunk_size c.line ≡ length c.bytes

-- last-chunk = 1*"0" [ chunk-ext ] CRLF
pub record IsRfcLast (l : ChunkOpening) : Type 0 where
  pub some : 0 < length l.digits
  pub zeros : AllPass (λ b. b == digit_zero) l.digits
  pub extension : IsRfcExtension l.extension

-- chunked-body = *chunk last-chunk trailer-section CRLF; trailer-section = *( field-line CRLF )
pub record IsRfcBody (body : ChunkedBody) : Type 0 where
  pub chunks : All IsRfcChunk body.chunks
  pub last : IsRfcLast body.last
  pub trailers : All IsRfcTrailer body.trailers

-- the extensions and the trailers of a body are the standard's
pub record HasRfcText (body : ChunkedBody) : Type 0 where
  pub chunks : All (λ c. IsRfcExtension c.line.extension) body.chunks
  pub last : IsRfcExtension body.last.extension
  pub trailers : All IsRfcTrailer body.trailers

-- the bytes are a chunked body by the standard, with this data and no size over the limit
abbrev pub IsRfcChunked : ℕ → List ℕ → List ℕ → Type 0
IsRfcChunked limit bytes data_bytes =
    (body : ChunkedBody) × IsRfcBody body × HasSizes limit body × (bytes ≡ chunked_bytes body) × (data_bytes ≡ chunked_data body)
