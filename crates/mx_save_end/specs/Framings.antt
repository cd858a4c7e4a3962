-- How the end of a body was found, as far as it is reported (RFC 9112, section 6.3).
use Rattle.std.specs.Prelude.{◌≡◌, ◌⊎◌, ℕ, ◌+◌, List, Option, Some, None, Result, Ok, Err}
use Rattle.httparse.specs.Grammar.{ResponseHead}
use Rattle.mx_types.specs.declared.code.Code.{Code}
use Rattle.mx_types.specs.declared.method.Method.{Method}
use Rattle.mx_head.specs.declared.types.Framing.{Framing}
use Rattle.mx_head.specs.declared.types.Framing.TheVariants as framing
use Rattle.mx_head.specs.Framing.{framing_of}
use Rattle.mx_body.specs.Decision.{HasFinalHead}
use Rattle.mx_body.specs.Response.{StandsAtBody}
use Rattle.mx_body.specs.Steps.{IsBehind}
use Rattle.mx_save_rules.specs.declared.end.FramingWord.{FramingWord}
use Rattle.mx_save_rules.specs.declared.end.FramingWord.TheVariants as word
use Rattle.mx_save_end.specs.declared.framing.Step.{Step}
use Rattle.mx_save_end.specs.declared.framing.Step.TheVariants as step

-- what is reported of a framing: nothing where there is no body, or the framing is refused
abbrev pub word_of : Result Framing Code → Option FramingWord
word_of (Ok framing.Empty) = None
word_of (Ok (framing.Counted n)) = Some word.Length
word_of (Ok framing.Chunked) = Some word.Chunked
word_of (Ok framing.Close) = Some word.Close
word_of (Err code) = None

-- it is the framing of the final head of the input, by the method of the request; nothing where the input has no final head
abbrev pub TellsFraming : Method → List ℕ → Option FramingWord → Type 0
TellsFraming m input told =
    ((hs : List ResponseHead) × (h : ResponseHead) × (rest : List ℕ) × StandsAtBody input hs h rest × (told ≡ word_of (framing_of m h)))
    ⊎ (¬ (HasFinalHead input) × (told ≡ None))

-- Private: after so many interim heads, one more was passed, or the framing is known.
abbrev pub IsStepped : Method → List ℕ → ℕ → Step → Type 0
IsStepped m input passed (step.Passed end) = IsBehind input end (passed + 1)
IsStepped m input passed (step.Stopped told) = TellsFraming m input told
