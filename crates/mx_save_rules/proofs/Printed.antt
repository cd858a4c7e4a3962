-- What is printed in parts.
use Rattle.std.proofs.Common.{◌≡◌, ℕ, List, [], ◌∷◌, ◌++◌, subst, append_assoc}
use Rattle.std.specs.Prelude.{Option, Result, Ok, Err, OnOk}
use Rattle.std.specs.Io.KnownBytes.{Appends}
use Rattle.std.proofs.KnownBytes.{Appends-trans}
use Rattle.mx_save_rules.specs.Texts.{front_text, fields_text, object_front, object_back}

-- a front is printed, and what follows it
pub then_printed : {A E : Type 0} (r : Result A E) (old mid new : Option (List ℕ)) (front back all : List ℕ) → front ++ back ≡ all
    → Appends old mid front → OnOk r (Appends mid new back) → OnOk r (Appends old new all)
then_printed (Ok a) old mid new front back all is first more = subst (Appends old new) is (Appends-trans old mid new front back first more)
then_printed (Err e) old mid new front back all is first more = tt

-- the parts of a line
pub line_parts : (word : List ℕ) (number status length : ℕ) (file url : List ℕ)
    → (front_text word number status length ++ file) ++ 32 ∷ (url ++ 10 ∷ []) ≡ fields_text word number status length file url
unfolding front_text fields_text
line_parts word number status length file url = simp append_assoc

-- the parts of an object, whose texts are those
pub object_parts : (url url' word : List ℕ) (number status length : ℕ) (file file' : List ℕ) (hops tries : ℕ) (framing error error' : List ℕ)
    → url ≡ url' → file ≡ file' → error ≡ error'
    → object_front url word number status length ++ object_back file hops tries framing error
    ≡ object_front url' word number status length ++ object_back file' hops tries framing error'
object_parts url url' word number status length file file' hops tries framing error error' a b c = cc
