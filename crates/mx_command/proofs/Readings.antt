-- What the values of options are read as.
use Rattle.std.proofs.Common.{◌≡◌, refl, ap, sym, arith, ℕ, suc, zero, ◌<◌, length, List, [], ◌∷◌, ◌++◌, map, take, Some, None, inl, inr}
use Rattle.std.specs.Prelude.{Option, Result, IfSome, slice_index_or, unwrap_or}
use Rattle.std.specs.Str.Parse.{ParsesUnsigned, ExplainsUnsignedError, HasUnsignedDigitsIfOk}
use Rattle.std.specs.declared.num.ParseIntError.{ParseIntError}
use Rattle.clap.specs.Words.{ReadsOne}
use Rattle.mx_types.specs.Method.{IsMethodOf}
use Rattle.mx_types.specs.declared.method.Method.{Method}
use Rattle.mx_command.specs.Given.{AreHeadersBy, IsHeaderBy, IsMethodBy, number_in}
use Rattle.mx_command.specs.declared.save.Header.{Header}

-- how std reads a number of so many bits
abbrev reads : ℕ → List ℕ → Result ℕ ParseIntError → Type 0
reads k t r = ParsesUnsigned k 10 t r × ExplainsUnsignedError 10 t r × HasUnsignedDigitsIfOk t r

-- a number that was read is the one that the text writes
pub number_read : (k : ℕ) (text : Option (List ℕ)) (read : Option ℕ) → (text ≡ None → read ≡ None)
    → ((t : List ℕ) → text ≡ Some t → ReadsOne (reads k) t read) → IfSome read (λ n. number_in text ≡ Some n)
number_read k text None absent given = tt
number_read k None (Some n) absent given = let bad : Some n ≡ None = absent refl in absurd (cc)
number_read k (Some t) (Some n) absent given = ap Some (sym (given t refl).0.1)

-- a method that was read is the one that the text names
pub method_read : (text : Option (List ℕ)) (read : Option Method) (other : Method) → (text ≡ None → read ≡ None)
    → ((t : List ℕ) → text ≡ Some t → ReadsOne IsMethodOf t read) → IsMethodBy text other (unwrap_or read other)
method_read text None other absent given = record {
  absent = λ e. refl;
  named = λ t e. inr ((given t e).1, refl);
}
method_read text (Some m) other absent given = record {
  absent = λ e. let bad : Some m ≡ None = absent e in absurd (cc);
  named = λ t e. inl (given t e);
}

-- one header field more
pub headers_at : {X : Type 0} (f : X → List ℕ) (xs : List X) (i : ℕ) (d : X) (hs : List Header) (h : Header) → i < length xs → AreHeadersBy (map f (take i xs)) hs
    → IsHeaderBy (f (slice_index_or xs i d)) h → AreHeadersBy (map f (take (suc i) xs)) (hs ++ h ∷ [])
headers_at f [] i d hs h small all by = absurd (omega (arith, small))
headers_at f (y ∷ ys) zero d [] h small all by = (by, tt)
headers_at f (y ∷ ys) zero d (g ∷ hs) h small all by = absurd all
headers_at f (y ∷ ys) (suc i) d [] h small all by = absurd all
headers_at f (y ∷ ys) (suc i) d (g ∷ hs) h small all by = (all.0, headers_at f ys i d hs h (omega (arith, small)) all.1 by)
