-- Private: how far the bytes of an exchange have been read.
use Rattle.std.specs.Prelude.{◌≡◌, ℕ, ◌+◌, ◌-◌, false, List, length, drop, Ok, Option, None, option_map}
use Rattle.mx_types.specs.declared.method.Method.{Method}
use Rattle.mx_head.specs.declared.types.Framing.TheVariants.{Chunked}
use Rattle.mx_head.specs.Limits.{most_bytes}
use Rattle.mx_head.specs.Summary.{Summary, framing_by}
use Rattle.mx_body.specs.Decision.{HasFinalHead}
use Rattle.mx_body.specs.declared.part.Part.{Part}
use Rattle.mx_body.specs.ChunkedPlace.{is_settled}
use Rattle.mx_body.specs.ChunkedReader.{HasRead}
use Rattle.mx_body.specs.Steps.{HavePassed, HasHeadAt}
use Rattle.mx_body.specs.declared.chunked.reader.ChunkedReader.{ChunkedReader}
use Rattle.mx_body.specs.declared.progress.Phase.{Phase}
use Rattle.mx_body.specs.declared.progress.Phase.TheVariants as phase
use Rattle.mx_body.specs.declared.progress.Progress.{Progress}
use Rattle.mx_body.specs.declared.verdict.Verdict.{Verdict}
use Rattle.mx_body.specs.declared.verdict.Verdict.TheVariants.{More}

-- the status of the final head, as far as it was read
abbrev pub status_read : Phase → ℕ
status_read (phase.Heads passed) = 0
status_read (phase.Body head at) = head.status
status_read (phase.Chunks head at) = head.status

-- the place of the location of a head that ends at `at`
abbrev pub place_at : Summary → ℕ → Option Part
place_at head at = option_map (λ s. record { start = (at - head.len) + s.start; end = (at - head.len) + s.end }) head.location

-- where the location of the final head is, as far as that was read
abbrev pub location_read : Phase → Option Part
location_read (phase.Heads passed) = None
location_read (phase.Body head at) = place_at head at
location_read (phase.Chunks head at) = place_at head at

-- the final head is the one that was read, or there is none
abbrev pub KnowsHead : List ℕ → Phase → Type 0
KnowsHead wire (phase.Heads passed) = ¬ (HasFinalHead wire)
KnowsHead wire (phase.Body head at) = HasHeadAt wire head at
KnowsHead wire (phase.Chunks head at) = HasHeadAt wire head at

-- what the phase says of the bytes so far
abbrev pub IsPhase : Method → List ℕ → Phase → ChunkedReader → Type 0
IsPhase m wire (phase.Heads passed) r = HavePassed wire passed
IsPhase m wire (phase.Body head at) r = HasHeadAt wire head at
IsPhase m wire (phase.Chunks head at) r =
    HasHeadAt wire head at × (framing_by m head ≡ Ok Chunked)
    × HasRead most_bytes (drop at wire) r × (is_settled r.place ≡ false) × (r.at ≡ at)
    × (r.read ≡ length (drop at wire))

abbrev pub IsProgress : Method → List ℕ → Progress → Type 0
IsProgress m wire p = IsPhase m wire p.phase p.reader

-- while nothing is decided
abbrev pub IsProgressing : Method → List ℕ → Progress → Verdict → Type 0
IsProgressing m wire p v = v ≡ More → IsProgress m wire p
