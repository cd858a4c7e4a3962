-- What `get` prints shows what each handle ended with.
use Rattle.std.specs.Prelude.{◌≡◌, ℕ, ◌<◌, ◌^◌, List, length, map}
use Rattle.std.specs.List.{AllByRecursion}
use Rattle.mx_types.specs.Code.{code_number}
use Rattle.mx_text.specs.declared.fetched.Fetched.{Fetched}
use Rattle.mx_text.specs.Fetched.{code_of, status_of, body_of}
use Rattle.mx_text.specs.Texts.{texts_from}

-- what is printed of a handle: the number of its code, its status and its body
abbrev pub told : Fetched → ℕ × ℕ × List ℕ
told fetched = (code_number (code_of fetched), status_of fetched, body_of fetched)

-- the status and the length of the body are numbers of 64 bits
pub record FitsIn64 (fetched : Fetched) : Type 0 where
  pub status : status_of fetched < 2 ^ 64
  pub body : length (body_of fetched) < 2 ^ 64

-- Equal texts come only from handles that ended alike, whatever the bodies are.
abbrev pub TextsTell : Type 0
TextsTell = (some others : List Fetched) → AllByRecursion FitsIn64 some → AllByRecursion FitsIn64 others
    → texts_from 0 some ≡ texts_from 0 others → map told some ≡ map told others
