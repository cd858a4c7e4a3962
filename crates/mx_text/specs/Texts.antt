-- What `get` prints, and its exit status.
use Rattle.std.specs.Prelude.{ℕ, ◌+◌, ◌==◌, List, [], ◌∷◌, ◌++◌, length, codes, if◌then◌else◌}
use Rattle.std.specs.Fmt.{decimal}
use Rattle.mx_types.specs.Code.{code_number}
use Rattle.mx_text.specs.declared.fetched.Fetched.{Fetched}
use Rattle.mx_text.specs.Fetched.{code_of, status_of, body_of}

-- the line of a handle: the number of its code, its status, and the length of its body
unfoldable pub transfer_line : ℕ → ℕ → ℕ → ℕ → List ℕ
transfer_line handle code status len =
    codes "transfer " ++ (decimal handle ++ (codes " code " ++ (decimal code ++ (codes " status " ++ (decimal status
    ++ (codes " length " ++ (decimal len ++ 10 ∷ [])))))))

-- its line, its body, and the end of a line
abbrev pub transfer_text : ℕ → Fetched → List ℕ
transfer_text handle fetched =
    transfer_line handle (code_number (code_of fetched)) (status_of fetched) (length (body_of fetched))
    ++ (body_of fetched ++ 10 ∷ [])

-- rule get-output: `get` prints a line, the body and LF for each handle, in order; its exit status is the first number of a code that isn't
-- 0.
--
-- the texts of handles that are counted from this one
abbrev pub texts_from : ℕ → List Fetched → List ℕ
texts_from handle [] = []
texts_from handle (fetched ∷ rest) = transfer_text handle fetched ++ texts_from (handle + 1) rest

-- the first number of a code that isn't 0, in the order of the handles; 0 where there is none
abbrev pub exit_status : List Fetched → ℕ
exit_status [] = 0
exit_status (fetched ∷ rest) =
    if code_number (code_of fetched) == 0 then exit_status rest else code_number (code_of fetched)
