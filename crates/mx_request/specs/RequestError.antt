-- The refusals of a request: their numbers, and the codes that a transfer would end with.
use Rattle.std.specs.Prelude.{ℕ}
use Rattle.mx_types.specs.declared.code.Code.{Code}
use Rattle.mx_types.specs.declared.code.Code.TheVariants as code
use Rattle.mx_request.specs.declared.error.RequestError.{RequestError}
use Rattle.mx_request.specs.declared.error.RequestError.TheVariants as refusal

-- the number of a refusal
abbrev pub refusal_number : RequestError → ℕ
refusal_number refusal.Scheme = 1
refusal_number refusal.Malformed = 2
refusal_number refusal.UserInfo = 3
refusal_number refusal.BadField = 4
refusal_number refusal.BodyTooLarge = 5
refusal_number refusal.OutOfMemory = 6

-- the code of a refusal (libcurl-errors(3); which refusal gives which is this engine's choice)
abbrev pub refusal_code : RequestError → Code
refusal_code refusal.Scheme = code.UnsupportedProtocol
refusal_code refusal.Malformed = code.UrlMalformat
refusal_code refusal.UserInfo = code.UrlMalformat
refusal_code refusal.BadField = code.UrlMalformat
refusal_code refusal.BodyTooLarge = code.FilesizeExceeded
refusal_code refusal.OutOfMemory = code.OutOfMemory
