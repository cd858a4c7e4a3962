-- The chunked bodies of the standard's own grammar, and those of `Chunked`.
use Rattle.std.proofs.Common.{◌≡◌, ℕ, ◌+◌, ◌*◌, ◌<◌, Bool, true, false, eqb, ◌==◌, List, [], ◌∷◌, ◌++◌, length, Option, Some, None, refl, sym, ap, ◌∙◌, subst, ⊎_elim, arith}
use Rattle.std.specs.Prelude.{All, flat_map}
use Rattle.std.specs.List.{AllPass}
use Rattle.std.proofs.lemmas.List.{append_assoc, length-append}
use Rattle.std.proofs.lemmas.List.Elements.{All-nil, All-cons, All-head, All-tail, All-append, All-weaker}
use Rattle.std.proofs.lemmas.Bool.{eqb-true, and_parts}
use Rattle.std.proofs.lemmas.Bool.Decides.{nat_tests}
use Rattle.std.specs.Char.{digit_value, is_ascii_hexdigit}
use Rattle.std.specs.Str.Parse.{digits_value_after}
use Rattle.httparse.specs.Ascii.{semicolon, colon, digit_zero}
use Rattle.httparse.specs.Grammar.{is_ows, is_value_byte, is_token_byte, IsToken}
use Rattle.mx_body.specs.Chunked.{is_line_byte, IsChunkExtension, Chunk, IsChunk, IsTrailer, IsChunkedBody, chunk_parts}
use Rattle.mx_body.specs.ChunkedRfc.{QuotedPiece, plain, escaped, print_piece, IsPiece, IsQuotedString, Assigned, print_assigned, IsAssigned, OneExtension, print_one_extension, IsOneExtension, IsRfcExtension, IsRfcTrailer, IsRfcChunk}
use Rattle.mx_body.specs.ChunkedLaws.{RfcIsChunked, ChunkedIsRfc}
use Rattle.mx_body.proofs.ChunkedComplete.{pass_head, pass_tail, digits_value_after-ge}

-- a class without CR and LF
line_byte : (p : ℕ → Bool) → p 13 ≡ false → p 10 ≡ false → (b : ℕ) → p b ≡ true → is_line_byte b ≡ true
line_byte p no_cr no_lf b is = by_tests (eqb b 13) (eqb b 10) refl refl
  where
    by_tests : (t u : Bool) → eqb b 13 ≡ t → eqb b 10 ≡ u → is_line_byte b ≡ true
    by_tests true u cr lf = let other = ap p (eqb-true b 13 cr) in absurd (cc)
    by_tests false true cr lf = let other = ap p (eqb-true b 10 lf) in absurd (cc)
    by_tests false false cr lf = cc

abbrev AreLine : List ℕ → Type 0
AreLine bytes = AllPass is_line_byte bytes

all_line : (p : ℕ → Bool) → p 13 ≡ false → p 10 ≡ false → (bytes : List ℕ) → AllPass p bytes → AreLine bytes
all_line p no_cr no_lf bytes are = All-weaker (λ b. p b ≡ true) (λ b. is_line_byte b ≡ true) (line_byte p no_cr no_lf) bytes are

no_line : AreLine []
no_line = All-nil (λ b. is_line_byte b ≡ true)

both : (xs ys : List ℕ) → AreLine xs → AreLine ys → AreLine (xs ++ ys)
both xs ys = All-append (λ b. is_line_byte b ≡ true) xs ys

more : (b : ℕ) (bytes : List ℕ) → is_line_byte b ≡ true → AreLine bytes → AreLine (b ∷ bytes)
more b bytes = All-cons (λ b. is_line_byte b ≡ true) b bytes

token_line : (bytes : List ℕ) → IsToken bytes → AreLine bytes
unfolding is_token_byte
token_line bytes is = all_line is_token_byte refl refl bytes is.1

blank_line : (bytes : List ℕ) → AllPass is_ows bytes → AreLine bytes
blank_line bytes are = all_line is_ows refl refl bytes are

value_line : (bytes : List ℕ) → AllPass is_value_byte bytes → AreLine bytes
value_line bytes are = all_line is_value_byte refl refl bytes are

piece_line : (p : QuotedPiece) → IsPiece p → AreLine (print_piece p)
piece_line (plain b) is = more b [] (line_byte is_value_byte refl refl b (and_parts _ _ is).0) no_line
piece_line (escaped b) is = more 92 (b ∷ []) refl (more b [] (line_byte is_value_byte refl refl b is) no_line)

pieces_line : (ps : List QuotedPiece) → All IsPiece ps → AreLine (flat_map print_piece ps)
pieces_line [] are = no_line
pieces_line (p ∷ ps) are = both (print_piece p) _ (piece_line p (All-head IsPiece p ps are)) (pieces_line ps (All-tail IsPiece p ps are))

quoted_line : (bytes : List ℕ) → IsQuotedString bytes → AreLine bytes
quoted_line bytes (pieces, are, is) =
    subst AreLine (sym is) (more 34 _ refl (both (flat_map print_piece pieces) (34 ∷ []) (pieces_line pieces are) (more 34 [] refl no_line)))

assigned_line : (a : Option Assigned) → IsAssigned a → AreLine (print_assigned a)
assigned_line None is = no_line
assigned_line (Some a) is =
    both a.before _ (blank_line a.before is.0) (more 61 _ refl (both a.behind a.value (blank_line a.behind is.1) (⊎_elim (token_line a.value) (quoted_line a.value) is.2)))

-- what follows the `;` of an extension
abbrev behind_semicolon : OneExtension → List ℕ
behind_semicolon e = e.behind ++ (e.name ++ print_assigned e.assigned)

behind_line : (e : OneExtension) → IsOneExtension e → AreLine (behind_semicolon e)
behind_line e is = both e.behind _ (blank_line e.behind is.behind) (both e.name _ (token_line e.name is.name) (assigned_line e.assigned is.assigned))

extensions_line : (es : List OneExtension) → All IsOneExtension es → AreLine (flat_map print_one_extension es)
extensions_line [] are = no_line
extensions_line (e ∷ es) are =
    let is = All-head IsOneExtension e es are in
    both (print_one_extension e) _ (both e.before _ (blank_line e.before is.before) (more 59 _ refl (behind_line e is))) (extensions_line es (All-tail IsOneExtension e es are))

-- blanks, a semicolon and text
opens : (blanks text : List ℕ) → AllPass is_ows blanks → AreLine text → IsChunkExtension (blanks ++ semicolon ∷ text)
opens [] text are line = (refl, line)
opens (b ∷ blanks) text are line =
    let blank = pass_head is_ows b blanks are in
    (cc, both blanks _ (blank_line blanks (pass_tail is_ows b blanks are)) (more 59 text refl line))

extension_is : (bytes : List ℕ) → IsRfcExtension bytes → IsChunkExtension bytes
extension_is bytes (es, are, is) = subst IsChunkExtension (sym is) (by_list es are)
  where
    by_list : (es : List OneExtension) → All IsOneExtension es → IsChunkExtension (flat_map print_one_extension es)
    by_list [] are = tt
    by_list (e ∷ es) are =
        let one = All-head IsOneExtension e es are in
        let later = flat_map print_one_extension es in
        subst IsChunkExtension (sym (append_assoc e.before (semicolon ∷ behind_semicolon e) later))
        (opens e.before (behind_semicolon e ++ later) one.before (both (behind_semicolon e) later (behind_line e one) (extensions_line es (All-tail IsOneExtension e es are))))

trailer_is : (bytes : List ℕ) → IsRfcTrailer bytes → IsTrailer bytes
trailer_is bytes (f, line, is) =
    let rest = colon ∷ (f.before ++ (f.value ++ f.behind)) in
    let some : 0 < length bytes = omega (arith, ap length is, length-append f.name rest, line.name.0) in
    (some, subst AreLine (sym is) (both f.name rest (token_line f.name line.name) (more 58 _ refl (both f.before _ (blank_line f.before line.before) (both f.value f.behind (value_line f.value line.value) (blank_line f.behind line.behind))))))

chunk_is : (c : Chunk) → IsRfcChunk c → IsChunk c
chunk_is c is = record {
  line = record { digits = is.size; extension = extension_is c.line.extension is.extension };
  sized = is.sized;
  not_empty = is.octets;
}

-- the value of zeros
zeros_value : (ds : List ℕ) → AllPass (λ b. b == digit_zero) ds → digits_value_after 16 0 ds ≡ 0
zeros_value [] are = refl
zeros_value (d ∷ ds) are =
    let zero : d ≡ 48 = eqb-true d 48 (pass_head (λ b. b == digit_zero) d ds are) in
    ap (λ x. digits_value_after 16 (0 * 16 + digit_value x) ds) zero ∙ zeros_value ds (pass_tail (λ b. b == digit_zero) d ds are)

zero_is_digit : (b : ℕ) → (b == digit_zero) ≡ true → is_ascii_hexdigit b ≡ true
zero_is_digit b is = ap is_ascii_hexdigit (eqb-true b 48 is)

-- the digit of value 0
zero_digit : (b : ℕ) → is_ascii_hexdigit b ≡ true → digit_value b ≡ 0 → (b == digit_zero) ≡ true
zero_digit b hex none = grind (arith, nat_tests)

-- digits of value 0 are zeros
value_zeros : (ds : List ℕ) (n : ℕ) → AllPass is_ascii_hexdigit ds → digits_value_after 16 n ds ≡ 0 → AllPass (λ b. b == digit_zero) ds
value_zeros [] n hex none = All-nil (λ b. (b == digit_zero) ≡ true)
value_zeros (d ∷ ds) n hex none =
    let m = n * 16 + digit_value d in
    let small : digit_value d ≡ 0 = omega (arith, digits_value_after-ge ds m) in
    All-cons (λ b. (b == digit_zero) ≡ true) d ds (zero_digit d (pass_head is_ascii_hexdigit d ds hex) small) (value_zeros ds m (pass_tail is_ascii_hexdigit d ds hex) none)

pub rfc_there : RfcIsChunked
rfc_there limit at bytes data_bytes (body, is, small, text, data_is) =
    let last = is.last in
    let whole : IsChunkedBody body = record {
      chunks = All-weaker IsRfcChunk IsChunk chunk_is body.chunks is.chunks;
      last = record {
        digits = (last.some, All-weaker (λ b. (b == digit_zero) ≡ true) (λ b. is_ascii_hexdigit b ≡ true) zero_is_digit body.last.digits last.zeros);
        extension = extension_is body.last.extension last.extension;
      };
      ends = zeros_value body.last.digits last.zeros;
      trailers = All-weaker IsRfcTrailer IsTrailer trailer_is body.trailers is.trailers;
    } in
    (chunk_parts at body.chunks, (body, whole, small, text, refl, data_is))

pub rfc_back : ChunkedIsRfc
rfc_back limit at bytes data_bytes parts (body, is, small, text, parts_are, data_is) fit = (
  body,
  record {
    chunks = λ k d below. let c = is.chunks k d below in record { size = c.line.digits; extension = fit.chunks k d below; octets = c.not_empty; sized = c.sized };
    last = record { some = is.last.digits.0; zeros = value_zeros body.last.digits 0 is.last.digits.1 is.ends; extension = fit.last };
    trailers = fit.trailers;
  },
  small,
  text,
  data_is,
)
