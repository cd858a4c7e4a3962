-- What was read, once the input ended or enough of it was there.
use Rattle.std.proofs.Common.{◌≡◌, ◌≢◌, ℕ, ◌+◌, ◌<◌, ◌≤◌, List, [], ◌∷◌, ◌++◌, length, take, refl, sym, ◌∙◌, ap, subst, arith, append-nil, length-append}
use Rattle.std.specs.Prelude.{Option, Some, None, IfSome}
use Rattle.std.specs.Io.KnownBytes.{Consumes, IsAtEnd}
use Rattle.std.proofs.lemmas.List.{take_all}
use Rattle.std.proofs.KnownBytes.{Consumes-trans}
use Rattle.std.proofs.Math.Seq.{take-append_seam}
use Rattle.mx_run_local.specs.Reading.{bytes_read}

-- a read with room gave nothing, so nothing is left after the bytes, and they are few enough
pub ended : (old mid new : Option (List ℕ)) (bytes buffer : List ℕ) (most count : ℕ)
    → Consumes old mid bytes → count ≡ 0 → 0 < length buffer
    → Consumes mid new (take count buffer) × (count ≡ 0 → 0 < length buffer → IsAtEnd new)
    → length bytes ≤ most → IfSome old (λ xs. bytes ≡ bytes_read most xs)
unfolding bytes_read
ended None mid new bytes buffer most count front none room gave few = tt
ended (Some xs) None new bytes buffer most count front none room gave few = absurd front
ended (Some xs) (Some ys) None bytes buffer most count front none room gave few = absurd gave.0
ended (Some xs) (Some ys) (Some zs) bytes buffer most count front none room gave few =
    let nothing : take count buffer ≡ [] = rw none refl in
    let over : ys ≡ [] = gave.0 ∙ ap (λ z. z ++ zs) nothing ∙ gave.1 none room in
    let whole : xs ≡ bytes = front ∙ ap (λ z. bytes ++ z) over ∙ append-nil bytes in
    let fits : length xs ≤ most + 1 = rw whole (omega arith) in
    sym whole ∙ sym (take_all (most + 1) xs fits)

-- there is one byte more than the most
pub filled : (old new : Option (List ℕ)) (bytes : List ℕ) (most : ℕ)
    → Consumes old new bytes → length bytes ≡ most + 1
    → IfSome old (λ xs. bytes ≡ bytes_read most xs)
unfolding bytes_read
filled None new bytes most front full = tt
filled (Some xs) None bytes most front full = absurd front
filled (Some xs) (Some ys) bytes most front full =
    rw (← full, front) (sym (take-append_seam bytes ys))

-- a read gave nothing
pub given_none : (known mid left : Option (List ℕ)) (bytes buffer : List ℕ) (count : ℕ)
    → Consumes known mid bytes → Consumes mid left (take count buffer) → count ≡ 0 → Consumes known left bytes
given_none known mid left bytes buffer count front gave none =
    subst (Consumes known left) (append-nil bytes)
    (Consumes-trans known mid left bytes [] front (subst (λ n. Consumes mid left (take n buffer)) none gave))

-- a read gave something, so the input had bytes
pub had_bytes : (known mid left : Option (List ℕ)) (bytes got : List ℕ)
    → Consumes known mid bytes → Consumes mid left got → 0 < length got → known ≢ Some []
had_bytes None mid left bytes got front gave some = λ e. cc
had_bytes (Some (x ∷ xs)) mid left bytes got front gave some = λ e. cc
had_bytes (Some []) None left bytes got front gave some = absurd front
had_bytes (Some []) (Some ys) None bytes got front gave some = absurd gave
had_bytes (Some []) (Some ys) (Some zs) bytes got front gave some = λ e.
    let all : 0 ≡ length bytes + length ys = ap length front ∙ length-append bytes ys in
    let more : length ys ≡ length got + length zs = ap length gave ∙ length-append got zs in omega arith

-- nothing was read of an input without bytes
pub none_read : (known : Option (List ℕ)) (bytes : List ℕ) (most : ℕ)
    → IfSome known (λ xs. bytes ≡ bytes_read most xs) → known ≡ Some [] → bytes ≡ []
unfolding bytes_read
none_read None bytes most read e = cc
none_read (Some (x ∷ xs)) bytes most read e = cc
none_read (Some []) bytes most read e = read ∙ take_all (most + 1) [] (omega arith)
