-- What is printed can be read back.
use Rattle.std.proofs.Common.{◌≡◌, ◌≢◌, ℕ, ◌<◌, ◌+◌, ◌^◌, List, [], ◌∷◌, ◌++◌, length, drop, map, get_or, refl, ap, sym, ◌∙◌, arith, suc, append_assoc}
use Rattle.std.specs.Prelude.{codes, decimal}
use Rattle.std.specs.List.{AllByRecursion}
use Rattle.std.proofs.lemmas.List.{append_cancel_left}
use Rattle.std.proofs.lemmas.Fmt.{decimal_is_IsNumeral, decimal_injective}
use Rattle.std.proofs.lemmas.Str.Parse.{digit_at}
use Rattle.mx_types.specs.declared.code.Code.{Code}
use Rattle.mx_types.specs.declared.code.Code.TheVariants as code
use Rattle.mx_types.specs.Code.{code_number}
use Rattle.mx_text.specs.declared.fetched.Fetched.{Fetched}
use Rattle.mx_text.specs.Fetched.{code_of, status_of, body_of}
use Rattle.mx_text.specs.Texts.{transfer_line, transfer_text, texts_from}
use Rattle.mx_text.specs.Laws.{told, FitsIn64, TextsTell}

-- what is before the first c, and after it
split : (c : ℕ) (xs ys u v : List ℕ) → ((i : ℕ) → i < length xs → get_or xs i 0 ≢ c) → ((i : ℕ) → i < length ys → get_or ys i 0 ≢ c)
    → xs ++ c ∷ u ≡ ys ++ c ∷ v → (xs ≡ ys) × (u ≡ v)
split c [] [] u v p q e = (refl, ap (λ l. drop 1 l) e)
split c [] (y ∷ ys) u v p q e = absurd (q 0 (omega arith) (sym (ap (λ l. get_or l 0 0) e)))
split c (x ∷ xs) [] u v p q e = absurd (p 0 (omega arith) (ap (λ l. get_or l 0 0) e))
split c (x ∷ xs) (y ∷ ys) u v p q e =
    let first : x ≡ y = ap (λ l. get_or l 0 0) e in
    let rest = split c xs ys u v (λ i h. p (suc i) (omega (arith, h))) (λ i h. q (suc i) (omega (arith, h))) (ap (λ l. drop 1 l) e) in
    (ap (λ z. z ∷ xs) first ∙ ap (λ zs. y ∷ zs) rest.0, rest.1)

-- a number ends at a byte below the digits
number_ends : (c m n : ℕ) (u v : List ℕ) → c < 48 → m < 2 ^ 64 → n < 2 ^ 64
    → decimal m ++ c ∷ u ≡ decimal n ++ c ∷ v → (m ≡ n) × (u ≡ v)
number_ends c m n u v low mf nf e =
    let parts = split c (decimal m) (decimal n) u v
    (λ i h is. let digit = digit_at (decimal m) i (decimal_is_IsNumeral m mf).0.1 h in omega (arith, digit.0, is, low))
    (λ i h is. let digit = digit_at (decimal n) i (decimal_is_IsNumeral n nf).0.1 h in omega (arith, digit.0, is, low)) e in
    (decimal_injective m n mf nf parts.0, parts.1)

code_small : (c : Code) → code_number c < 2 ^ 64
code_small code.Ok = omega arith
code_small code.UnsupportedProtocol = omega arith
code_small code.UrlMalformat = omega arith
code_small code.CouldntResolveHost = omega arith
code_small code.CouldntConnect = omega arith
code_small code.WeirdServerReply = omega arith
code_small code.PartialFile = omega arith
code_small code.WriteError = omega arith
code_small code.OutOfMemory = omega arith
code_small code.OperationTimedout = omega arith
code_small code.TooManyRedirects = omega arith
code_small code.GotNothing = omega arith
code_small code.SendError = omega arith
code_small code.RecvError = omega arith
code_small code.BadContentEncoding = omega arith
code_small code.FilesizeExceeded = omega arith
code_small code.TooLarge = omega arith

-- texts of one length, each before more
same_front : (xs ys u v : List ℕ) → length xs ≡ length ys → xs ++ u ≡ ys ++ v → (xs ≡ ys) × (u ≡ v)
same_front [] [] u v same e = (refl, e)
same_front [] (y ∷ ys) u v same e = absurd (omega (arith, same))
same_front (x ∷ xs) [] u v same e = absurd (omega (arith, same))
same_front (x ∷ xs) (y ∷ ys) u v same e =
    let first : x ≡ y = ap (λ l. get_or l 0 0) e in
    let rest = same_front xs ys u v (omega (arith, same)) (ap (λ l. drop 1 l) e) in
    (ap (λ z. z ∷ xs) first ∙ ap (λ zs. y ∷ zs) rest.0, rest.1)

-- the line, with what follows it
laid : ℕ → ℕ → ℕ → ℕ → List ℕ → List ℕ
laid handle code status len u =
    codes "transfer " ++ (decimal handle ++ (codes " code " ++ (decimal code ++ (codes " status " ++ (decimal status
    ++ (codes " length " ++ (decimal len ++ 10 ∷ u)))))))

line_laid : (handle code status len : ℕ) (u : List ℕ) → transfer_line handle code status len ++ u ≡ laid handle code status len u
unfolding transfer_line laid
line_laid handle code status len u = simp append_assoc refl

laid_tells : (handle code status len code' status' len' : ℕ) (u v : List ℕ)
    → code < 2 ^ 64 → status < 2 ^ 64 → len < 2 ^ 64 → code' < 2 ^ 64 → status' < 2 ^ 64 → len' < 2 ^ 64
    → laid handle code status len u ≡ laid handle code' status' len' v
    → (code ≡ code') × (status ≡ status') × (len ≡ len') × (u ≡ v)
unfolding laid
laid_tells handle code status len code' status' len' u v cf sf lf cf' sf' lf' e =
    let one = append_cancel_left (decimal handle) _ _ (ap (λ l. drop 9 l) e) in
    let two = number_ends 32 code code' _ _ (omega arith) cf cf' (ap (λ l. drop 6 l) one) in
    let three = number_ends 32 status status' _ _ (omega arith) sf sf' (ap (λ l. drop 7 l) two.1) in
    let four = number_ends 10 len len' u v (omega arith) lf lf' (ap (λ l. drop 7 l) three.1) in
    (two.0, three.0, four.0, four.1)

told_alike : (x y : Fetched) → code_number (code_of x) ≡ code_number (code_of y) → status_of x ≡ status_of y → body_of x ≡ body_of y
    → told x ≡ told y
told_alike x y c s b = cc

-- the text of a handle, with what follows it
text_laid : (handle : ℕ) (x : Fetched) (rest : List ℕ)
    → transfer_text handle x ++ rest ≡ laid handle (code_number (code_of x)) (status_of x) (length (body_of x)) (body_of x ++ 10 ∷ rest)
text_laid handle x rest =
    append_assoc (transfer_line handle (code_number (code_of x)) (status_of x) (length (body_of x))) (body_of x ++ 10 ∷ []) rest
    ∙ line_laid handle (code_number (code_of x)) (status_of x) (length (body_of x)) ((body_of x ++ 10 ∷ []) ++ rest)
    ∙ ap (laid handle (code_number (code_of x)) (status_of x) (length (body_of x))) (append_assoc (body_of x) (10 ∷ []) rest)

first_byte : (handle : ℕ) (x : Fetched) (rest : List ℕ) → get_or (transfer_text handle x ++ rest) 0 0 ≡ 116
unfolding transfer_line
first_byte handle x rest = refl

tells : (handle : ℕ) (xs ys : List Fetched) → AllByRecursion FitsIn64 xs → AllByRecursion FitsIn64 ys
    → texts_from handle xs ≡ texts_from handle ys → map told xs ≡ map told ys
tells handle [] [] fits fits' e = refl
tells handle [] (y ∷ ys) fits fits' e =
    let first = first_byte handle y (texts_from (handle + 1) ys) in
    let none : 0 ≡ get_or (transfer_text handle y ++ texts_from (handle + 1) ys) 0 0 = ap (λ l. get_or l 0 0) e in
    absurd (omega (arith, first, none))
tells handle (x ∷ xs) [] fits fits' e =
    let first = first_byte handle x (texts_from (handle + 1) xs) in
    let none : get_or (transfer_text handle x ++ texts_from (handle + 1) xs) 0 0 ≡ 0 = ap (λ l. get_or l 0 0) e in
    absurd (omega (arith, first, none))
tells handle (x ∷ xs) (y ∷ ys) fits fits' e =
    let rest = texts_from (handle + 1) xs in
    let rest' = texts_from (handle + 1) ys in
    let line = laid_tells handle (code_number (code_of x)) (status_of x) (length (body_of x))
    (code_number (code_of y)) (status_of y) (length (body_of y)) (body_of x ++ 10 ∷ rest) (body_of y ++ 10 ∷ rest')
    (code_small (code_of x)) fits.0.status fits.0.body (code_small (code_of y)) fits'.0.status fits'.0.body
    (sym (text_laid handle x rest) ∙ e ∙ text_laid handle y rest') in
    let bodies = same_front (body_of x) (body_of y) (10 ∷ rest) (10 ∷ rest') line.2 line.3 in
    let one = told_alike x y line.0 line.1 bodies.0 in
    let more = tells (handle + 1) xs ys fits.1 fits'.1 (ap (λ l. drop 1 l) bodies.1) in
    ap (λ z. z ∷ map told xs) one ∙ ap (λ zs. told y ∷ zs) more

pub texts_tell : TextsTell
texts_tell some others fits fits' e = tells 0 some others fits fits' e
