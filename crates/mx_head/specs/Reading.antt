-- What `read_head` answers.
use Rattle.std.specs.Prelude.{ℕ, List}
use Rattle.httparse.specs.Grammar.{ResponseHead}
use Rattle.mx_head.specs.declared.types.HeadStep.{HeadStep}
use Rattle.mx_head.specs.declared.types.HeadStep.TheVariants as step
use Rattle.mx_head.specs.Heads.{ReadsHead, HasNoHead}
use Rattle.mx_head.specs.Faults.{head_code, head_line, MeetsAtHead, ComesFirst, MeetsNothing}
use Rattle.mx_head.specs.Summary.{Describes}

-- The head at the front of the input; else the fault of the first cause that its prefixes meet; else
-- that more bytes are needed, as none has met one.
abbrev pub IsStepOn : List ℕ → HeadStep → Type 0
IsStepOn input (step.Head x) =
    (h : ResponseHead) × (rest : List ℕ) × ReadsHead input h rest × Describes x h
IsStepOn input step.More = HasNoHead input × MeetsNothing MeetsAtHead input
IsStepOn input (step.Fault code) =
    HasNoHead input × ComesFirst head_code head_line MeetsAtHead input code
