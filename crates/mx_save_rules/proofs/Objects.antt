-- Objects can be read back.
use Rattle.std.proofs.Common.{◌≡◌, ℕ, ◌<◌, ◌≤◌, ◌^◌, Bool, true, nat_lt, List, [], ◌∷◌, ◌++◌, drop, get_or, map, refl, sym, ap, ◌∙◌, arith, append_assoc, inl, inr, ◌⊎◌}
use Rattle.std.specs.Prelude.{codes, decimal, Option, Some, None, option_map}
use Rattle.std.specs.List.{list_all}
use Rattle.std.proofs.lemmas.Bool.{and_parts, cases_lt}
use Rattle.std.proofs.lemmas.Bool.Decides.{nat_tests}
use Rattle.json.specs.Print.{escape, escape_byte, quoted}
use Rattle.json.proofs.Printed.Strings.{escape_byte_plain}
use Rattle.mx_save_rules.specs.declared.end.FramingWord.{FramingWord}
use Rattle.mx_save_rules.specs.declared.end.FramingWord.TheVariants as framing
use Rattle.mx_save_rules.specs.Codes.{save_number}
use Rattle.mx_save_rules.specs.Words.{verdict_word}
use Rattle.mx_save_rules.specs.Ends.{EndValue, IsEnd}
use Rattle.mx_save_rules.specs.Texts.{shown, json_text, framing_text, object_front, object_back, json_line, objects_text}
use Rattle.mx_save_rules.specs.Laws.{told_object, ObjectsTell, IsOneLine, EachIsOneLine}
use Rattle.mx_save_rules.proofs.Fields.{IsAbove, above_less, above_append, split, digits_above, number_ends, word_above, verdict_same, quoted_ends, upto, upto_sound}
use Rattle.mx_save_rules.proofs.Lines.{number_fits, line_is_one}

-- a string or null, before more
json_ends : (f g : Option (List ℕ)) (u v : List ℕ) → json_text f ++ u ≡ json_text g ++ v → (f ≡ g) × (u ≡ v)
json_ends None None u v e = (refl, ap (λ l. drop 4 l) e)
json_ends None (Some t) u v e = let bad : 110 ≡ 34 = ap (λ l. get_or l 0 0) e in absurd (omega (arith, bad))
json_ends (Some s) None u v e = let bad : 34 ≡ 110 = ap (λ l. get_or l 0 0) e in absurd (omega (arith, bad))
json_ends (Some s) (Some t) u v e = let same = quoted_ends s t u v e in (ap Some same.0, same.1)

framing_ends : (f g : Option FramingWord) (u v : List ℕ) → framing_text f ++ u ≡ framing_text g ++ v → (f ≡ g) × (u ≡ v)
framing_ends None None u v e = (refl, ap (λ l. drop 4 l) e)
framing_ends (Some framing.Length) (Some framing.Length) u v e = (refl, ap (λ l. drop 8 l) e)
framing_ends (Some framing.Chunked) (Some framing.Chunked) u v e = (refl, ap (λ l. drop 9 l) e)
framing_ends (Some framing.Close) (Some framing.Close) u v e = (refl, ap (λ l. drop 7 l) e)
framing_ends None (Some framing.Length) u v e = let bad : 110 ≡ 34 = ap (λ l. get_or l 0 0) e in absurd (omega (arith, bad))
framing_ends None (Some framing.Chunked) u v e = let bad : 110 ≡ 34 = ap (λ l. get_or l 0 0) e in absurd (omega (arith, bad))
framing_ends None (Some framing.Close) u v e = let bad : 110 ≡ 34 = ap (λ l. get_or l 0 0) e in absurd (omega (arith, bad))
framing_ends (Some framing.Length) None u v e = let bad : 34 ≡ 110 = ap (λ l. get_or l 0 0) e in absurd (omega (arith, bad))
framing_ends (Some framing.Chunked) None u v e = let bad : 34 ≡ 110 = ap (λ l. get_or l 0 0) e in absurd (omega (arith, bad))
framing_ends (Some framing.Close) None u v e = let bad : 34 ≡ 110 = ap (λ l. get_or l 0 0) e in absurd (omega (arith, bad))
framing_ends (Some framing.Length) (Some framing.Chunked) u v e = let bad : 108 ≡ 99 = ap (λ l. get_or l 1 0) e in absurd (omega (arith, bad))
framing_ends (Some framing.Length) (Some framing.Close) u v e = let bad : 108 ≡ 99 = ap (λ l. get_or l 1 0) e in absurd (omega (arith, bad))
framing_ends (Some framing.Chunked) (Some framing.Length) u v e = let bad : 99 ≡ 108 = ap (λ l. get_or l 1 0) e in absurd (omega (arith, bad))
framing_ends (Some framing.Chunked) (Some framing.Close) u v e = let bad : 104 ≡ 108 = ap (λ l. get_or l 2 0) e in absurd (omega (arith, bad))
framing_ends (Some framing.Close) (Some framing.Length) u v e = let bad : 99 ≡ 108 = ap (λ l. get_or l 1 0) e in absurd (omega (arith, bad))
framing_ends (Some framing.Close) (Some framing.Chunked) u v e = let bad : 108 ≡ 104 = ap (λ l. get_or l 2 0) e in absurd (omega (arith, bad))

-- the object, with what follows its line
laid : List ℕ → List ℕ → ℕ → ℕ → ℕ → List ℕ → ℕ → ℕ → List ℕ → List ℕ → List ℕ → List ℕ
laid url word number status len file hops tries frame error u =
    codes "{\"url\":" ++ (url ++ (codes ",\"verdict\":\"" ++ (word ++ (codes "\",\"code\":" ++ (decimal number ++ (codes ",\"status\":" ++ (decimal status
    ++ (codes ",\"length\":" ++ (decimal len ++ (codes ",\"file\":" ++ (file ++ (codes ",\"hops\":" ++ (decimal hops ++ (codes ",\"tries\":"
    ++ (decimal tries ++ (codes ",\"framing\":" ++ (frame ++ (codes ",\"error\":" ++ (error ++ (125 ∷ 10 ∷ u))))))))))))))))))))

object_laid : (url word : List ℕ) (number status len : ℕ) (file : List ℕ) (hops tries : ℕ) (frame error u : List ℕ)
    → (object_front url word number status len ++ object_back file hops tries frame error) ++ u ≡ laid url word number status len file hops tries frame error u
unfolding object_front object_back laid
object_laid url word number status len file hops tries frame error u = simp append_assoc

laid_of : EndValue → List ℕ → List ℕ
laid_of e u =
    laid (quoted (shown e.url)) (verdict_word e.verdict) (save_number e.code) e.status e.length (json_text (option_map shown e.file)) e.hops e.tries
    (framing_text e.framing) (json_text e.error) u

of_laid : (e : EndValue) (u : List ℕ) → json_line e ++ u ≡ laid_of e u
unfolding laid_of
of_laid e u = object_laid (quoted (shown e.url)) (verdict_word e.verdict) (save_number e.code) e.status e.length (json_text (option_map shown e.file)) e.hops e.tries
    (framing_text e.framing) (json_text e.error) u

record Alike (x y : EndValue) (u v : List ℕ) : Type 0 where
  told : told_object x ≡ told_object y
  rest : u ≡ v

tells_one : (x y : EndValue) (u v : List ℕ) → IsEnd x → IsEnd y → laid_of x u ≡ laid_of y v → Alike x y u v
unfolding laid_of laid
tells_one x y u v is is' e =
    let url = quoted_ends (shown x.url) (shown y.url) _ _ (ap (λ l. drop 7 l) e) in
    let word = split 34 (verdict_word x.verdict) (verdict_word y.verdict) _ _ (word_above x.verdict) (word_above y.verdict) (ap (λ l. drop 12 l) url.1) in
    let number = number_ends 44 (save_number x.code) (save_number y.code) _ _ (omega arith) (number_fits x.code) (number_fits y.code) (ap (λ l. drop 8 l) word.1) in
    let status = number_ends 44 x.status y.status _ _ (omega arith) is.status_fits is'.status_fits (ap (λ l. drop 9 l) number.1) in
    let len = number_ends 44 x.length y.length _ _ (omega arith) is.length_fits is'.length_fits (ap (λ l. drop 9 l) status.1) in
    let file = json_ends (option_map shown x.file) (option_map shown y.file) _ _ (ap (λ l. drop 7 l) len.1) in
    let hops = number_ends 44 x.hops y.hops _ _ (omega arith) is.hops_fit is'.hops_fit (ap (λ l. drop 8 l) file.1) in
    let tries = number_ends 44 x.tries y.tries _ _ (omega arith) is.tries_fit is'.tries_fit (ap (λ l. drop 8 l) hops.1) in
    let frame = framing_ends x.framing y.framing _ _ (ap (λ l. drop 10 l) tries.1) in
    let error = json_ends x.error y.error _ _ (ap (λ l. drop 9 l) frame.1) in
    let same = verdict_same x.verdict y.verdict word.0 in
    let a = url.0 in
    let b = number.0 in
    let c = status.0 in
    let d = len.0 in
    let f = file.0 in
    let g = hops.0 in
    let h = tries.0 in
    let i = frame.0 in
    let j = error.0 in
    record { told = cc; rest = ap (λ l. drop 2 l) error.1 }

not_laid : (e : EndValue) (u : List ℕ) → [] ≡ laid_of e u → ⊥
unfolding laid_of laid
not_laid e u bad = cc

not_none : (e : EndValue) (u : List ℕ) → [] ≡ json_line e ++ u → ⊥
not_none e u bad = not_laid e u (bad ∙ of_laid e u)

pub objects_tell : ObjectsTell
objects_tell [] [] all all' e = refl
objects_tell [] (y ∷ ys) all all' e = absurd (not_none y (objects_text ys) e)
objects_tell (x ∷ xs) [] all all' e = absurd (not_none x (objects_text xs) (sym e))
objects_tell (x ∷ xs) (y ∷ ys) all all' e =
    let one = tells_one x y (objects_text xs) (objects_text ys) all.0 all'.0 (sym (of_laid x (objects_text xs)) ∙ e ∙ of_laid y (objects_text ys)) in
    let more = objects_tell xs ys all.1 all'.1 one.rest in
    ap (λ z. z ∷ map told_object xs) one.told ∙ ap (λ zs. told_object y ∷ zs) more

-- ---- no end of a line within

abbrev is_clear : List ℕ → Bool
is_clear text = list_all (λ b. nat_lt 10 b) text

clear_above : (text : List ℕ) → is_clear text ≡ true → IsAbove 10 text
clear_above [] all = tt
clear_above (b ∷ text) all =
    let parts = and_parts (nat_lt 10 b) (is_clear text) all in
    let first : 10 < b = let test = parts.0 in grind (arith, nat_tests) in
    (first, clear_above text parts.1)

low_clear : upto (λ b. is_clear (escape_byte b)) 93 ≡ true
unfolding upto escape_byte
low_clear = refl

escape_byte_clear : (x : ℕ) → IsAbove 10 (escape_byte x)
escape_byte_clear x = go (cases_lt x 93) where
  go : (x < 93) ⊎ (93 ≤ x) → IsAbove 10 (escape_byte x)
  go (inl less) = clear_above (escape_byte x) (upto_sound (λ b. is_clear (escape_byte b)) 93 low_clear x less)
  go (inr more) =
      let plain = escape_byte_plain x (λ e. omega (arith, more, e)) (λ e. omega (arith, more, e)) (omega (arith, more)) in
      let above : 10 < x = omega (arith, more) in
      rw plain (above, tt)

escape_clear : (s : List ℕ) → IsAbove 10 (escape s)
escape_clear [] = tt
escape_clear (x ∷ s) = above_append 10 (escape_byte x) (escape s) (escape_byte_clear x) (escape_clear s)

quoted_clear : (s : List ℕ) → IsAbove 10 (quoted s)
quoted_clear s = (omega arith, above_append 10 (escape s) (34 ∷ []) (escape_clear s) (omega arith, tt))

json_clear : (f : Option (List ℕ)) → IsAbove 10 (json_text f)
json_clear None = clear_above (codes "null") refl
json_clear (Some s) = quoted_clear s

framing_clear : (f : Option FramingWord) → IsAbove 10 (framing_text f)
framing_clear None = clear_above (codes "null") refl
framing_clear (Some framing.Length) = clear_above (codes "\"length\"") refl
framing_clear (Some framing.Chunked) = clear_above (codes "\"chunked\"") refl
framing_clear (Some framing.Close) = clear_above (codes "\"close\"") refl

decimal_clear : (n : ℕ) → n < 2 ^ 64 → IsAbove 10 (decimal n)
decimal_clear n fits = above_less 10 47 (decimal n) (omega arith) (digits_above n fits)

-- a text that is clear, and more after it
and_then : (xs ys : List ℕ) → is_clear xs ≡ true → IsAbove 10 ys → IsAbove 10 (xs ++ ys)
and_then xs ys all more = above_append 10 xs ys (clear_above xs all) more

front_clear : (url word : List ℕ) (number status len : ℕ) → IsAbove 10 url → IsAbove 10 word → number < 2 ^ 64 → status < 2 ^ 64 → len < 2 ^ 64
    → IsAbove 10 (object_front url word number status len)
unfolding object_front
front_clear url word number status len u w n s l =
    and_then (codes "{\"url\":") _ refl (above_append 10 url _ u
    (and_then (codes ",\"verdict\":\"") _ refl (above_append 10 word _ w
    (and_then (codes "\",\"code\":") _ refl (above_append 10 (decimal number) _ (decimal_clear number n)
    (and_then (codes ",\"status\":") _ refl (above_append 10 (decimal status) _ (decimal_clear status s)
    (and_then (codes ",\"length\":") _ refl (above_append 10 (decimal len) (codes ",\"file\":") (decimal_clear len l) (clear_above (codes ",\"file\":") refl))))))))))

back : List ℕ → ℕ → ℕ → List ℕ → List ℕ → List ℕ
back file hops tries frame error =
    file ++ (codes ",\"hops\":" ++ (decimal hops ++ (codes ",\"tries\":" ++ (decimal tries ++ (codes ",\"framing\":" ++ (frame
    ++ (codes ",\"error\":" ++ (error ++ 125 ∷ []))))))))

back_is : (file : List ℕ) (hops tries : ℕ) (frame error : List ℕ) → object_back file hops tries frame error ≡ back file hops tries frame error ++ 10 ∷ []
unfolding object_back back
back_is file hops tries frame error = sym (simp append_assoc)

back_clear : (file : List ℕ) (hops tries : ℕ) (frame error : List ℕ) → IsAbove 10 file → hops < 2 ^ 64 → tries < 2 ^ 64 → IsAbove 10 frame → IsAbove 10 error
    → IsAbove 10 (back file hops tries frame error)
unfolding back
back_clear file hops tries frame error f h t r e =
    above_append 10 file _ f (and_then (codes ",\"hops\":") _ refl (above_append 10 (decimal hops) _ (decimal_clear hops h)
    (and_then (codes ",\"tries\":") _ refl (above_append 10 (decimal tries) _ (decimal_clear tries t)
    (and_then (codes ",\"framing\":") _ refl (above_append 10 frame _ r (and_then (codes ",\"error\":") _ refl
    (above_append 10 error (125 ∷ []) e (omega arith, tt)))))))))

object_is_one : (e : EndValue) → IsEnd e → IsOneLine (json_line e)
object_is_one e is =
    let first = object_front (quoted (shown e.url)) (verdict_word e.verdict) (save_number e.code) e.status e.length in
    let file = json_text (option_map shown e.file) in
    let frame = framing_text e.framing in
    let error = json_text e.error in
    record {
      front = first ++ back file e.hops e.tries frame error;
      is = ap (λ z. first ++ z) (back_is file e.hops e.tries frame error) ∙ sym (append_assoc first (back file e.hops e.tries frame error) (10 ∷ []));
      visible = above_append 10 first (back file e.hops e.tries frame error)
          (front_clear (quoted (shown e.url)) (verdict_word e.verdict) (save_number e.code) e.status e.length (quoted_clear (shown e.url))
          (above_less 10 34 (verdict_word e.verdict) (omega arith) (word_above e.verdict)) (number_fits e.code) is.status_fits is.length_fits)
          (back_clear file e.hops e.tries frame error (json_clear (option_map shown e.file)) is.hops_fit is.tries_fit (framing_clear e.framing) (json_clear e.error));
    }

pub each_is_one_line : EachIsOneLine
each_is_one_line e is = (line_is_one e is, object_is_one e is)
