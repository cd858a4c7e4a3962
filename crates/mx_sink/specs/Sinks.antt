-- What a sink takes, and why it takes nothing.
use Rattle.std.specs.Prelude.{ℕ, Bool, true, false, List, [], take, codes, Result, Ok, Err}
use Rattle.mx_types.specs.declared.code.Code.{Code}
use Rattle.mx_types.specs.declared.code.Code.TheVariants as code
use Rattle.mx_sink.specs.declared.error.SinkError.{SinkError}
use Rattle.mx_sink.specs.declared.error.SinkError.TheVariants as error

-- what a call took of these bytes: as many as it answers, from the front, and none where it answers an error
abbrev pub taken : Result ℕ SinkError → List ℕ → List ℕ
taken (Ok n) bytes = take n bytes
taken (Err _) bytes = []

-- what a sink in memory took, and how many bytes it may take
pub record MemorySinkValue : Type 0 where
  pub got : List ℕ
  pub most : ℕ

-- the codes (libcurl-errors(3))
abbrev pub sink_code : SinkError → Code
sink_code error.WriteError = code.WriteError
sink_code error.OutOfMemory = code.OutOfMemory

-- whether it is one of them
abbrev pub is_sink_code : Code → Bool
is_sink_code code.WriteError = true
is_sink_code code.OutOfMemory = true
is_sink_code _ = false

abbrev pub sink_words : SinkError → List ℕ
sink_words error.WriteError = codes "the content could not be written"
sink_words error.OutOfMemory = codes "out of memory"
