-- Lines can be read back.
use Rattle.std.proofs.Common.{◌≡◌, ℕ, ◌<◌, ◌^◌, List, [], ◌∷◌, ◌++◌, map, refl, sym, ap, ◌∙◌, arith, append_assoc}
use Rattle.std.specs.Prelude.{decimal, Option, Some, None, is_some, option_map}
use Rattle.mx_types.specs.declared.code.Code.{Code}
use Rattle.mx_types.specs.declared.code.Code.TheVariants as codes_of
use Rattle.mx_types.specs.Code.{code_number}
use Rattle.mx_save_rules.specs.declared.code.SaveCode.{SaveCode}
use Rattle.mx_save_rules.specs.declared.code.SaveCode.TheVariants as code
use Rattle.mx_save_rules.specs.declared.end.Verdict.{Verdict}
use Rattle.mx_save_rules.specs.declared.end.Verdict.TheVariants as verdict
use Rattle.mx_save_rules.specs.Codes.{save_number}
use Rattle.mx_save_rules.specs.Words.{verdict_word}
use Rattle.mx_save_rules.specs.Ends.{EndValue, IsEnd, names_file}
use Rattle.mx_save_rules.specs.Texts.{shown, file_field, fields_text, end_line, lines_text}
use Rattle.mx_save_rules.specs.Laws.{told_line, LinesTell, IsOneLine}
use Rattle.mx_save_rules.proofs.Fields.{IsAbove, above_less, above_append, split, digits_above, number_ends, shown_above, word_above, verdict_same}

code_fits : (c : Code) → code_number c < 2 ^ 64
code_fits codes_of.Ok = omega arith
code_fits codes_of.UnsupportedProtocol = omega arith
code_fits codes_of.UrlMalformat = omega arith
code_fits codes_of.CouldntResolveHost = omega arith
code_fits codes_of.CouldntConnect = omega arith
code_fits codes_of.WeirdServerReply = omega arith
code_fits codes_of.PartialFile = omega arith
code_fits codes_of.WriteError = omega arith
code_fits codes_of.OutOfMemory = omega arith
code_fits codes_of.OperationTimedout = omega arith
code_fits codes_of.TooManyRedirects = omega arith
code_fits codes_of.GotNothing = omega arith
code_fits codes_of.SendError = omega arith
code_fits codes_of.RecvError = omega arith
code_fits codes_of.BadContentEncoding = omega arith
code_fits codes_of.FilesizeExceeded = omega arith
code_fits codes_of.TooLarge = omega arith

pub number_fits : (c : SaveCode) → save_number c < 2 ^ 64
number_fits (code.Transfer c) = code_fits c
number_fits code.HttpReturnedError = omega arith
number_fits code.WriteError = omega arith

file_above : (file : Option (List ℕ)) → IsAbove 32 (file_field file)
file_above None = (omega arith, tt)
file_above (Some name) = shown_above name

-- where both or neither are there
file_same : (f g : Option (List ℕ)) → is_some f ≡ is_some g → file_field f ≡ file_field g → option_map shown f ≡ option_map shown g
file_same None None there e = refl
file_same None (Some name) there e = absurd (cc)
file_same (Some name) None there e = absurd (cc)
file_same (Some name) (Some other) there e = ap Some e

-- the fields, with what follows the line
laid : List ℕ → ℕ → ℕ → ℕ → List ℕ → List ℕ → List ℕ → List ℕ
laid word number status len file url u =
    word ++ (32 ∷ (decimal number ++ (32 ∷ (decimal status ++ (32 ∷ (decimal len ++ (32 ∷ (file ++ (32 ∷ (url ++ 10 ∷ u))))))))))

line_laid : (word : List ℕ) (number status len : ℕ) (file url u : List ℕ)
    → fields_text word number status len file url ++ u ≡ laid word number status len file url u
unfolding fields_text laid
line_laid word number status len file url u = simp append_assoc

-- what two equal lines show
record Alike (x y : EndValue) (u v : List ℕ) : Type 0 where
  told : told_line x ≡ told_line y
  rest : u ≡ v

laid_of : EndValue → List ℕ → List ℕ
laid_of e u = laid (verdict_word e.verdict) (save_number e.code) e.status e.length (file_field e.file) (shown e.url) u

of_laid : (e : EndValue) (u : List ℕ) → end_line e ++ u ≡ laid_of e u
unfolding laid_of
of_laid e u = line_laid (verdict_word e.verdict) (save_number e.code) e.status e.length (file_field e.file) (shown e.url) u

tells_one : (x y : EndValue) (u v : List ℕ) → IsEnd x → IsEnd y → laid_of x u ≡ laid_of y v → Alike x y u v
unfolding laid_of laid
tells_one x y u v is is' e =
    let word = split 32 (verdict_word x.verdict) (verdict_word y.verdict) _ _ (above_less 32 34 (verdict_word x.verdict) (omega arith) (word_above x.verdict))
    (above_less 32 34 (verdict_word y.verdict) (omega arith) (word_above y.verdict)) e in
    let number = number_ends 32 (save_number x.code) (save_number y.code) _ _ (omega arith) (number_fits x.code) (number_fits y.code) word.1 in
    let status = number_ends 32 x.status y.status _ _ (omega arith) is.status_fits is'.status_fits number.1 in
    let len = number_ends 32 x.length y.length _ _ (omega arith) is.length_fits is'.length_fits status.1 in
    let file = split 32 (file_field x.file) (file_field y.file) _ _ (file_above x.file) (file_above y.file) len.1 in
    let url = split 10 (shown x.url) (shown y.url) u v (above_less 10 32 (shown x.url) (omega arith) (shown_above x.url))
    (above_less 10 32 (shown y.url) (omega arith) (shown_above y.url)) file.1 in
    let same = verdict_same x.verdict y.verdict word.0 in
    let there : is_some x.file ≡ is_some y.file = is.file ∙ ap names_file same ∙ sym is'.file in
    let named = file_same x.file y.file there file.0 in
    let n = number.0 in
    let s = status.0 in
    let l = len.0 in
    let w = url.0 in
    record { told = cc; rest = url.1 }

not_empty : (v : Verdict) (u : List ℕ) → [] ≡ verdict_word v ++ u → ⊥
not_empty verdict.Saved u e = cc
not_empty verdict.Done u e = cc
not_empty verdict.Skipped u e = cc
not_empty verdict.Failed u e = cc

not_laid : (e : EndValue) (u : List ℕ) → [] ≡ laid_of e u → ⊥
unfolding laid_of laid
not_laid e u bad = not_empty e.verdict _ bad

not_none : (e : EndValue) (u : List ℕ) → [] ≡ end_line e ++ u → ⊥
not_none e u bad = not_laid e u (bad ∙ of_laid e u)

pub lines_tell : LinesTell
lines_tell [] [] all all' e = refl
lines_tell [] (y ∷ ys) all all' e = absurd (not_none y (lines_text ys) e)
lines_tell (x ∷ xs) [] all all' e = absurd (not_none x (lines_text xs) (sym e))
lines_tell (x ∷ xs) (y ∷ ys) all all' e =
    let one = tells_one x y (lines_text xs) (lines_text ys) all.0 all'.0 (sym (of_laid x (lines_text xs)) ∙ e ∙ of_laid y (lines_text ys)) in
    let more = lines_tell xs ys all.1 all'.1 one.rest in
    ap (λ z. z ∷ map told_line xs) one.told ∙ ap (λ zs. told_line y ∷ zs) more

decimal_clear : (n : ℕ) → n < 2 ^ 64 → IsAbove 10 (decimal n)
decimal_clear n fits = above_less 10 47 (decimal n) (omega arith) (digits_above n fits)

front : List ℕ → ℕ → ℕ → ℕ → List ℕ → List ℕ → List ℕ
front word number status len file url =
    word ++ (32 ∷ (decimal number ++ (32 ∷ (decimal status ++ (32 ∷ (decimal len ++ (32 ∷ (file ++ (32 ∷ url)))))))))

front_is : (word : List ℕ) (number status len : ℕ) (file url : List ℕ) → fields_text word number status len file url ≡ front word number status len file url ++ 10 ∷ []
unfolding fields_text front
front_is word number status len file url = sym (simp append_assoc)

front_clear : (e : EndValue) → IsEnd e
    → IsAbove 10 (front (verdict_word e.verdict) (save_number e.code) e.status e.length (file_field e.file) (shown e.url))
unfolding front
front_clear e is =
    above_append 10 (verdict_word e.verdict) _ (above_less 10 34 (verdict_word e.verdict) (omega arith) (word_above e.verdict)) (
      omega arith,
      above_append 10 (decimal (save_number e.code)) _ (decimal_clear (save_number e.code) (number_fits e.code)) (
        omega arith,
        above_append 10 (decimal e.status) _ (decimal_clear e.status is.status_fits) (
          omega arith,
          above_append 10 (decimal e.length) _ (decimal_clear e.length is.length_fits) (
            omega arith,
            above_append 10 (file_field e.file) _ (above_less 10 32 (file_field e.file) (omega arith) (file_above e.file)) (
              omega arith,
              above_less 10 32 (shown e.url) (omega arith) (shown_above e.url),
            ),
          ),
        ),
      ),
    )

-- a line has no end of a line within
pub line_is_one : (e : EndValue) → IsEnd e → IsOneLine (end_line e)
line_is_one e is = record {
  front = front (verdict_word e.verdict) (save_number e.code) e.status e.length (file_field e.file) (shown e.url);
  is = front_is (verdict_word e.verdict) (save_number e.code) e.status e.length (file_field e.file) (shown e.url);
  visible = front_clear e is;
}
