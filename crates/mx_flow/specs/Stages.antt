-- Private: where the bytes of a response have led.
use Rattle.std.specs.Prelude.{◌≡◌, ℕ, ◌⊎◌, true, List, [], ◌++◌, length, take, drop, Ok, Err}
use Rattle.mx_types.specs.declared.code.Code.TheVariants as code
use Rattle.mx_types.specs.declared.method.Method.{Method}
use Rattle.mx_head.specs.Summary.{framing_by}
use Rattle.mx_body.specs.Decision.{HasFinalHead}
use Rattle.mx_body.specs.Steps.{HasHeadAt, IsFinalStepOn}
use Rattle.mx_body.specs.declared.heads.FinalStep.TheVariants as final
use Rattle.mx_flow.specs.Flows.{IsFlow, IsBodyOf, FlowValue, content_of}
use Rattle.mx_flow.specs.Streams.{StreamValue, IsTaken}
use Rattle.mx_flow.specs.declared.flow.BodyState.{BodyState}
use Rattle.mx_flow.specs.declared.flow.BodyState.TheVariants as state
use Rattle.mx_flow.specs.declared.stream_state.StreamState.{StreamState}
use Rattle.mx_flow.specs.declared.stream_state.StreamState.TheVariants as stand
use Rattle.mx_flow.specs.declared.stage.KeptHeads.{KeptHeads}
use Rattle.mx_flow.specs.declared.stage.Stage.{Stage}
use Rattle.mx_flow.specs.declared.stage.Stage.TheVariants as stage

-- the state of the bytes of a response, by that of its body's
abbrev pub stand_of : BodyState → StreamState
stand_of state.More = stand.More
stand_of state.Whole = stand.Whole
stand_of state.Bad = stand.Fault code.RecvError
stand_of state.TooLarge = stand.Fault code.FilesizeExceeded

-- the heads, the last of which is the final head
abbrev pub AreKept : KeptHeads → Type 0
AreKept kept = HasHeadAt kept.bytes.items kept.head (length kept.bytes.items)

-- bytes in which no final head has come
abbrev pub headless : Method → ℕ → List ℕ → StreamState → StreamValue
headless m limit bytes s = record { method = m; limit = limit; wire = bytes; heads = []; content = []; stand = s }

-- what contracts see at each stage
abbrev pub at_stage : Method → ℕ → Stage → StreamValue
at_stage m limit (stage.Heads heads) = headless m limit heads stand.More
at_stage m limit (stage.BadHeads heads c) = headless m limit heads (stand.Fault c)
at_stage m limit (stage.BadFraming kept c) =
    record { method = m; limit = limit; wire = kept.bytes.items; heads = kept.bytes.items; content = []; stand = stand.Fault c }
at_stage m limit (stage.Body kept flow) = record {
  method = m;
  limit = limit;
  wire = kept.bytes.items ++ flow.came;
  heads = kept.bytes.items;
  content = content_of flow;
  stand = stand_of flow.state;
}

-- what each stage says of the bytes
abbrev pub IsStage : Method → ℕ → Stage → Type 0
IsStage m limit (stage.Heads heads) = IsFinalStepOn heads final.More
IsStage m limit (stage.BadHeads heads c) = IsFinalStepOn heads (final.Fault c)
IsStage m limit (stage.BadFraming kept c) = AreKept kept × (framing_by m kept.head ≡ Err c)
IsStage m limit (stage.Body kept flow) = AreKept kept × (framing_by m kept.head ≡ Ok flow.framing) × (flow.limit ≡ limit) × IsFlow flow

-- the bytes after the first len ones, which were there before, were taken: n of them
abbrev pub IsTakenBehind : Method → ℕ → List ℕ → ℕ → Stage → ℕ → List ℕ → List ℕ → Type 0
IsTakenBehind m limit bytes len new n before after =
    IsTaken (headless m limit (take len bytes) stand.More) (at_stage m limit new) n (drop len bytes) before after

-- the heads that are kept are those of the bytes
pub record HasKept (s : StreamValue) (kept : KeptHeads) : Type 0 where
  pub own : AreKept kept
  pub came : List ℕ
  pub wire : s.wire ≡ kept.bytes.items ++ came
  pub heads : s.heads ≡ kept.bytes.items

-- no final head has come
pub record HasNoneKept (s : StreamValue) : Type 0 where
  pub none : ¬ (HasFinalHead s.wire)
  pub heads : s.heads ≡ []

-- the state of a body where the connection ends with it
abbrev pub HasBodyEnd : FlowValue → StreamState → Type 0
HasBodyEnd f stand.More = ⊥
HasBodyEnd f stand.Whole = IsBodyOf f.limit f.framing true f.came (content_of f)
HasBodyEnd f (stand.Fault c) =
    ((content : List ℕ) → ¬ (IsBodyOf f.limit f.framing true f.came content))
    × ((stand_of f.state ≡ stand.Fault c) ⊎ ((f.state ≡ state.More) × (c ≡ code.PartialFile)))
