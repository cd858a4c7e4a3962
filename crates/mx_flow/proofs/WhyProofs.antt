-- Why the bytes of a response whose content is handed on are no whole response.
use Rattle.std.proofs.Common.{◌≡◌, ℕ, ◌+◌, ◌≤◌, inl, inr, false, List, [], ◌++◌, length, refl, sym, ap, subst, ◌∙◌, arith, length-append}
use Rattle.std.proofs.lemmas.List.{take_all}
use Rattle.std.specs.Prelude.{IfSome, Option, Some, None}
use Rattle.mx_types.specs.declared.code.Code.{Code}
use Rattle.mx_types.specs.declared.method.Method.{Method}
use Rattle.mx_head.specs.Faults.{ComesFirst}
use Rattle.mx_head.specs.Limits.{most_bytes}
use Rattle.mx_body.specs.declared.verdict.Verdict.TheVariants as verdict
use Rattle.mx_body.specs.Causes.{cause_code, cause_line, Meets}
use Rattle.mx_body.specs.Decision.{HasFinalHead, IsVerdict, first_bytes}
use Rattle.mx_body.proofs.LawLemmas.{one_verdict}
use Rattle.mx_body.proofs.VerdictLemmas.{refused_framing}
use Rattle.mx_head.specs.declared.types.Framing.{Framing}
use Rattle.mx_head.specs.declared.types.Framing.TheVariants.{Empty, Counted, Chunked, Close}
use Rattle.mx_reason.specs.declared.reason.Cut.{Cut}
use Rattle.mx_reason.specs.declared.reason.Defect.{Defect}
use Rattle.mx_reason.specs.declared.reason.Defect.TheVariants as what
use Rattle.mx_reason.specs.declared.reason.Reason.{Reason}
use Rattle.mx_reason.specs.Cuts.{IsCutIn}
use Rattle.mx_reason.specs.Reasons.{IsDefectAt, IsReason}
use Rattle.mx_flow.specs.Flows.{FlowValue, HasState, IsOpen, IsBad}
use Rattle.mx_flow.specs.Responses.{HasCome}
use Rattle.mx_flow.specs.Streams.{HasBadFraming}
use Rattle.mx_flow.specs.Stages.{IsStage, at_stage, stand_of}
use Rattle.mx_flow.specs.Whys.{BreaksIn, EndsIn, HasDefect, IsCutWhereOpen, TellsWhy}
use Rattle.mx_flow.specs.declared.stage.KeptHeads.{KeptHeads}
use Rattle.mx_flow.specs.declared.stage.Stage.{Stage}
use Rattle.mx_flow.specs.declared.stage.Stage.TheVariants as stage
use Rattle.mx_flow.specs.declared.stream_state.StreamState.{StreamState}
use Rattle.mx_flow.specs.declared.stream_state.StreamState.TheVariants as stand
use Rattle.mx_flow.proofs.StageProofs.{kept_come, kept_refused}
use Rattle.mx_flow.proofs.StreamProofs.{none_asked}

-- where the bytes of a body end is where those of its response do
cut_in : (limit : ℕ) (m : Method) (wire : List ℕ) (framing : Framing) (came : List ℕ) (told : Cut) → HasCome m wire framing came → IsOpen limit framing came
    → EndsIn framing (length came) told → IsCutIn m wire told
cut_in limit m wire Empty came told come live is = absurd live
cut_in limit m wire (Counted n) came told come live is = subst (IsCutIn m wire) (sym is) (come.interim, come.head, came, come.stands, come.asked, refl, live.0)
cut_in limit m wire Chunked came told come live is = subst (IsCutIn m wire) (sym is) (come.interim, come.head, came, come.stands, come.asked)
cut_in limit m wire Close came told come live is = subst (IsCutIn m wire) (sym is) (come.interim, come.head, came, come.stands, come.asked)

-- what is wrong with a body is what is wrong with its response
module _ (m : Method) (limit : ℕ) (kept : KeptHeads) (f : FlowValue) (r : Reason) (is : IsStage m limit (stage.Body kept f)) (at : r.at ≡ length (kept.bytes.items ++ f.came)) where
  abbrev bytes : List ℕ
  bytes = kept.bytes.items ++ f.came

  by_defect : (w : Defect) → r.what ≡ w → HasDefect f w → TellsWhy limit m bytes r
  by_defect (what.Fault fault) told (bad, breaks) =
      let none = subst (HasState f.limit f.framing f.came) bad is.3 in
      let refused = subst (λ (n : ℕ). IsBad n f.framing f.came) is.2 none.1 in
      inr (inl (record {
        came = f.came;
        come = subst (λ (x : Framing). HasCome m bytes x f.came) refused.1 (kept_come m kept f.framing f.came is.0 is.1);
        bad = subst (λ (x : Framing). IsBad limit x f.came) refused.1 refused;
        at = at;
        fault = fault;
        what = told;
        in_part = subst (λ (n : ℕ). BreaksIn n f.came fault) is.2 breaks;
      }))
  by_defect (what.Cut told) same (more, ends) =
      let live = subst (HasState f.limit f.framing f.came) more is.3 in
      let open_there = subst (λ (n : ℕ). IsOpen n f.framing f.came) is.2 live in
      let come = kept_come m kept f.framing f.came is.0 is.1 in
      inr (inr (record {
        undecided = inr (f.framing, f.came, come, open_there);
        at = at;
        told = told;
        what = same;
        place = cut_in limit m bytes f.framing f.came told come open_there ends;
      }))

pub tells_why : (m : Method) (limit : ℕ) (kept : KeptHeads) (f : FlowValue) (r : Reason) → IsStage m limit (stage.Body kept f)
    → r.at ≡ length kept.bytes.items + length f.came → HasDefect f r.what → TellsWhy limit m (kept.bytes.items ++ f.came) r
tells_why m limit kept f r is at defect =
    by_defect m limit kept f r is (omega (arith, at, length-append kept.bytes.items f.came)) r.what refl defect

-- what is said of a reason at a stage: what it tells, and that it tells of a cut only where nothing is decided
abbrev pub Says : ℕ → Method → Stage → Option Reason → Type 0
Says limit m s o =
    IfSome o (TellsWhy limit m (at_stage m limit s).wire) × IfSome o (IsCutWhereOpen (at_stage m limit s).stand)

-- a reason of the heads
of_heads : (limit : ℕ) (m : Method) (wire : List ℕ) (o : Option Reason) → ((framing : Framing) (came : List ℕ) → HasCome m wire framing came → ⊥)
    → IfSome o (IsReason m wire) → IfSome o (TellsWhy limit m wire)
of_heads limit m wire None bodiless told = told
of_heads limit m wire (Some r) bodiless told = inl (record { bodiless = bodiless; tells = told })

-- it tells of no cut where the heads are refused
never_cut : (m : Method) (wire : List ℕ) (s : StreamState) (o : Option Reason) → (IsVerdict m wire false verdict.More → ⊥) → IfSome o (IsReason m wire)
    → IfSome o (IsCutWhereOpen s)
never_cut m wire s None decided told = told
never_cut m wire s (Some r) decided told = λ cut is. absurd (decided (subst (IsDefectAt m wire r.at) is told).1)

cut_open : (o : Option Reason) → IfSome o (IsCutWhereOpen stand.More)
cut_open None = tt
cut_open (Some r) = λ cut is. refl

first_all : (wire : List ℕ) → length wire ≤ most_bytes → first_bytes wire ≡ wire
unfolding first_bytes
first_all wire few = take_all most_bytes wire few

faultless : (m : Method) (wire : List ℕ) (c : Code) → ComesFirst cause_code cause_line (Meets m) wire c → IsVerdict m wire false verdict.More → ⊥
faultless m wire c f v = v.0.faultless f.front f.after f.cause (first_all wire v.1 ∙ f.is_prefix) f.meets

framed : (m : Method) (wire : List ℕ) (c : Code) → HasBadFraming m wire c → IsVerdict m wire false verdict.More → ⊥
framed m wire c b v = one_verdict m wire false verdict.More (verdict.Fault c) v (refused_framing m wire false b.0 b.1 [] c b.2 b.3)

bodiless : (m : Method) (wire : List ℕ) → (HasFinalHead wire → ⊥) → (framing : Framing) (came : List ℕ) → HasCome m wire framing came → ⊥
bodiless m wire none framing came come = none (come.interim, come.head, came, come.stands)

pub heads_say : (m : Method) (limit : ℕ) (s : Stage) (heads wire : List ℕ) (o : Option Reason) → s ≡ stage.Heads heads → IsStage m limit s → wire ≡ heads → IfSome o (IsReason m wire)
    → Says limit m s o
heads_say m limit s heads wire o same is all told =
    let own = subst (IsStage m limit) same is in
    subst (λ (t : Stage). Says limit m t o) (sym same)
    (of_heads limit m heads o (bodiless m heads own.0) (subst (λ (w : List ℕ). IfSome o (IsReason m w)) all told), cut_open o)

pub bad_heads_say : (m : Method) (limit : ℕ) (s : Stage) (heads wire : List ℕ) (c : Code) (o : Option Reason) → s ≡ stage.BadHeads heads c → IsStage m limit s → wire ≡ heads
    → IfSome o (IsReason m wire) → Says limit m s o
bad_heads_say m limit s heads wire c o same is all told =
    let own = subst (IsStage m limit) same is in
    let reason = subst (λ (w : List ℕ). IfSome o (IsReason m w)) all told in
    subst (λ (t : Stage). Says limit m t o) (sym same)
    (of_heads limit m heads o (bodiless m heads own.0) reason, never_cut m heads (stand.Fault c) o (faultless m heads c (own.1 m)) reason)

pub bad_framing_says : (m : Method) (limit : ℕ) (s : Stage) (kept : KeptHeads) (wire : List ℕ) (c : Code) (o : Option Reason) → s ≡ stage.BadFraming kept c → IsStage m limit s
    → wire ≡ kept.bytes.items → IfSome o (IsReason m wire) → Says limit m s o
bad_framing_says m limit s kept wire c o same is all told =
    let own = subst (IsStage m limit) same is in
    let bytes = kept.bytes.items in
    let refused = kept_refused m kept c own.0 own.1 in
    let reason = subst (λ (w : List ℕ). IfSome o (IsReason m w)) all told in
    subst (λ (t : Stage). Says limit m t o) (sym same) (
      of_heads limit m bytes o (none_asked m bytes c refused) reason,
      never_cut m bytes (stand.Fault c) o (framed m bytes c refused) reason,
    )

-- where a reason of a body is told
pub body_says : (m : Method) (limit : ℕ) (s : Stage) (kept : KeptHeads) (f : FlowValue) (len : ℕ) (o : Option Reason) → s ≡ stage.Body kept f → IsStage m limit s
    → len ≡ length kept.bytes.items → IfSome o (λ r. (r.at ≡ len + length f.came) × HasDefect f r.what) → Says limit m s o
body_says m limit s kept f len None same is all told = (told, told)
body_says m limit s kept f len (Some r) same is all told =
    subst (λ (t : Stage). Says limit m t (Some r)) (sym same) (
      tells_why m limit kept f r (subst (IsStage m limit) same is) (told.0 ∙ ap (λ (n : ℕ). n + length f.came) all) told.1,
      λ cut is. ap stand_of (subst (HasDefect f) is told.1).0,
    )
