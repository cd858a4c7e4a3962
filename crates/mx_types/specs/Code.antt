-- The numbers of the codes: those of libcurl-errors(3), and from 100 on this engine's own.
use Rattle.std.specs.Prelude.{ℕ, Bool, true, false}
use Rattle.mx_types.specs.declared.code.Code.{Code}
use Rattle.mx_types.specs.declared.code.Code.TheVariants as codes

-- the number of a code
abbrev pub code_number : Code → ℕ
code_number codes.Ok = 0
code_number codes.UnsupportedProtocol = 1
code_number codes.UrlMalformat = 3
code_number codes.CouldntResolveHost = 6
code_number codes.CouldntConnect = 7
code_number codes.WeirdServerReply = 8
code_number codes.PartialFile = 18
code_number codes.WriteError = 23
code_number codes.OutOfMemory = 27
code_number codes.OperationTimedout = 28
code_number codes.TooManyRedirects = 47
code_number codes.GotNothing = 52
code_number codes.SendError = 55
code_number codes.RecvError = 56
code_number codes.BadContentEncoding = 61
code_number codes.FilesizeExceeded = 63
code_number codes.TooLarge = 100

-- the codes of a link that can't be opened: the host wasn't found or wasn't reached, or memory was refused
abbrev pub is_link_code : Code → Bool
is_link_code codes.CouldntResolveHost = true
is_link_code codes.CouldntConnect = true
is_link_code codes.OutOfMemory = true
is_link_code _ = false
