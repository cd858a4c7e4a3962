-- Codes differ by their numbers.
use Rattle.std.proofs.Common.{◌≡◌, ◌≢◌, ℕ, inl, inr, refl, sym, ap, ◌∙◌}
use Rattle.std.specs.Prelude.{if◌then◌else◌, ◌==◌}
use Rattle.std.proofs.lemmas.Bool.{cases_eq}
use Rattle.mx_types.specs.Code.{code_number}
use Rattle.mx_types.specs.declared.code.Code.{Code}
use Rattle.mx_types.specs.declared.code.Code.TheVariants as codes

-- the code of a number
abbrev numbered : ℕ → Code
numbered n =
    if n == 0 then codes.Ok
    else (if n == 1 then codes.UnsupportedProtocol
    else (if n == 3 then codes.UrlMalformat
    else (if n == 6 then codes.CouldntResolveHost
    else (if n == 7 then codes.CouldntConnect
    else (if n == 8 then codes.WeirdServerReply
    else (if n == 18 then codes.PartialFile
    else (if n == 23 then codes.WriteError
    else (if n == 27 then codes.OutOfMemory
    else (if n == 28 then codes.OperationTimedout
    else (if n == 47 then codes.TooManyRedirects
    else (if n == 52 then codes.GotNothing
    else (if n == 55 then codes.SendError
    else (if n == 56 then codes.RecvError
    else (if n == 61 then codes.BadContentEncoding
    else (if n == 63 then codes.FilesizeExceeded
    else codes.TooLarge)))))))))))))))

numbered-code_number : (c : Code) → numbered (code_number c) ≡ c
numbered-code_number codes.Ok = refl
numbered-code_number codes.UnsupportedProtocol = refl
numbered-code_number codes.UrlMalformat = refl
numbered-code_number codes.CouldntResolveHost = refl
numbered-code_number codes.CouldntConnect = refl
numbered-code_number codes.WeirdServerReply = refl
numbered-code_number codes.PartialFile = refl
numbered-code_number codes.WriteError = refl
numbered-code_number codes.OutOfMemory = refl
numbered-code_number codes.OperationTimedout = refl
numbered-code_number codes.TooManyRedirects = refl
numbered-code_number codes.GotNothing = refl
numbered-code_number codes.SendError = refl
numbered-code_number codes.RecvError = refl
numbered-code_number codes.BadContentEncoding = refl
numbered-code_number codes.FilesizeExceeded = refl
numbered-code_number codes.TooLarge = refl

-- codes that can't differ are the same
pub same_code : (a b : Code) → ¬ (a ≢ b) → a ≡ b
same_code a b not_other =
    elim (cases_eq (code_number a) (code_number b)) [
      | inl same ↦ sym (numbered-code_number a) ∙ ap numbered same ∙ numbered-code_number b
      | inr other ↦ absurd (not_other (λ e. other (ap code_number e)))
    ]
