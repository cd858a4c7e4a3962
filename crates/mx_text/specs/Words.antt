-- What is reported of a failure, in words.
use Rattle.std.specs.Prelude.{ℕ, List, [], ◌++◌, ◌==◌, codes, if◌then◌else◌, Option, Some, None}
use Rattle.std.specs.Fmt.{decimal}
use Rattle.mx_types.specs.declared.code.Code.{Code}
use Rattle.mx_types.specs.declared.code.Code.TheVariants as code
use Rattle.mx_reason.specs.declared.reason.Reason.{Reason}
use Rattle.mx_reason.specs.declared.reason.Defect.{Defect}
use Rattle.mx_reason.specs.declared.reason.Defect.TheVariants as what
use Rattle.mx_reason.specs.declared.reason.Fault.{Fault}
use Rattle.mx_reason.specs.declared.reason.Fault.TheVariants as fault
use Rattle.mx_reason.specs.declared.reason.Cut.{Cut}
use Rattle.mx_reason.specs.declared.reason.Cut.TheVariants as cut

-- what a code says (libcurl-errors(3)) where no bytes are known to be refused
abbrev pub code_words : Code → List ℕ
code_words code.Ok = codes "all went well"
code_words code.UnsupportedProtocol = codes "the scheme isn't http"
code_words code.UrlMalformat = codes "the URL doesn't parse, or has a user name or a password"
code_words code.CouldntResolveHost = codes "host not found"
code_words code.CouldntConnect = codes "the connection was refused, or could not be made"
code_words code.WeirdServerReply = codes "not an HTTP response"
code_words code.PartialFile = codes "the response ended within its body"
code_words code.WriteError = codes "the content could not be written"
code_words code.OutOfMemory = codes "out of memory"
code_words code.OperationTimedout = codes "timed out"
code_words code.TooManyRedirects = codes "too many redirects"
code_words code.GotNothing = codes "the connection ended before a byte came"
code_words code.SendError = codes "the request could not be sent"
code_words code.RecvError = codes "a read failed"
code_words code.BadContentEncoding = codes "a transfer coding other than one chunked"
code_words code.FilesizeExceeded = codes "the response is too large"
code_words code.TooLarge = codes "the head is too large"

-- what it says where the bytes that came end in a response
abbrev pub cut_words : Code → List ℕ
cut_words code.WeirdServerReply = codes "the response ended within its head"
cut_words c = code_words c

-- what is wrong where bytes are refused, with the section that says so
abbrev pub fault_words : Fault → List ℕ
fault_words fault.StatusLine = codes "it isn't allowed in a status line (RFC 9112, section 4)"
fault_words fault.FieldLine = codes "it isn't allowed in a field line (RFC 9112, sections 2.1 and 5)"
fault_words fault.ManyFields = codes "a 129th field line begins, and a head may have 128"
fault_words fault.LongHead = codes "a head has 65536 bytes, as many as it may, and doesn't end"
fault_words fault.InterimHead = codes "status 101, or a 17th interim response (RFC 9110, section 15.2)"
fault_words fault.BadFraming = codes "Content-Length isn't one number, or HTTP/1.0 has a Transfer-Encoding (RFC 9112, sections 6.1 and 6.3)"
fault_words fault.OtherCoding = codes "a transfer coding other than one chunked (RFC 9112, sections 6.1 and 7)"
fault_words (fault.LongBody n) = codes "with its Content-Length the response has more than 67108864 bytes (RFC 9112, section 6.2)"
fault_words fault.LargeChunk = codes "a chunk has more than 67108864 bytes (RFC 9112, section 7.1)"
fault_words fault.SizeLine = codes "it isn't allowed in the line of a chunk's size (RFC 9112, section 7.1)"
fault_words fault.ChunkEnd = codes "no CRLF follows a chunk's data (RFC 9112, section 7.1)"
fault_words fault.Trailer = codes "it isn't allowed in a trailer section (RFC 9112, section 7.1.2)"
fault_words fault.ManyBytes = codes "the response has more than 67108864 bytes"

-- How much of a response came: nothing is said where no byte did. Of a body whose length is known it is how many of its bytes; else how
-- many of the response's.
abbrev pub cut_text : ℕ → Cut → List ℕ
cut_text at cut.Head = if at == 0 then [] else (codes ": " ++ (decimal at ++ codes " bytes came, and no whole head"))
cut_text at (cut.Counted came of) = codes ": " ++ (decimal came ++ (codes " of " ++ (decimal of ++ codes " bytes of the body came")))
cut_text at cut.Chunked = codes ": " ++ (decimal at ++ codes " bytes came, and no last chunk")
cut_text at cut.Close = codes ": " ++ (decimal at ++ codes " bytes came, of a body that ends with its connection")

-- a response that is refused at a byte, counted from 1
abbrev pub refused_text : ℕ → Fault → List ℕ
refused_text at f = codes "the response is refused at byte " ++ (decimal at ++ (codes ": " ++ fault_words f))

abbrev pub what_text : Code → ℕ → Defect → List ℕ
what_text c at (what.Fault f) = refused_text at f
what_text c at (what.Cut x) = cut_words c ++ cut_text at x

-- rule program-failure-line: A failure's line has the URL, the words of its code or of what is wrong with the bytes, and the code's number.
--
-- what is reported of a failure: of its code, and of why the bytes that came aren't a whole response
abbrev pub told_text : Code → Option Reason → List ℕ
told_text c None = code_words c
told_text c (Some reason) = what_text c reason.at reason.what
