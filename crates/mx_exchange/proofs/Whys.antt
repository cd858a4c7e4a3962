-- Why the bytes of a hop are no whole response.
use Rattle.std.proofs.Common.{◌≡◌, ◌⊎◌, ℕ, inl, inr, Bool, true, false, List, refl, sym, ap, subst, ◌∙◌}
use Rattle.std.specs.Prelude.{IfSome, Option, Some, None}
use Rattle.mx_types.specs.declared.code.Code.{Code}
use Rattle.mx_types.specs.declared.code.Code.TheVariants as code
use Rattle.mx_types.specs.declared.method.Method.{Method}
use Rattle.mx_body.specs.Decision.{EndsTooSoon}
use Rattle.mx_body.specs.declared.decoder.Stand.{Stand}
use Rattle.mx_body.specs.declared.decoder.Stand.TheVariants as stand
use Rattle.mx_link.specs.declared.answers.Answer.{Answer}
use Rattle.mx_link.specs.declared.answers.Answer.TheVariants as said
use Rattle.mx_line.specs.Endings.{EndsBy, by_bytes, by_end, by_fault, by_memory, Ends, code_of, fault_code, is_stop_code}
use Rattle.mx_reason.specs.declared.reason.Reason.{Reason}
use Rattle.mx_reader.specs.Judgements.{Judgement, Judges, StandsSo, BeginsWithFault, EndsWithFault}
use Rattle.mx_reader.specs.Readers.{ReaderValue, IsReader}
use Rattle.mx_reader.specs.Whys.{HasReason, HasNone, IsReasonOf, HasNoReason}
use Rattle.mx_reader.proofs.CodeLemmas.{codes_are_listed}
use Rattle.mx_exchange.specs.Exchanges.{HopValue}
use Rattle.mx_exchange.specs.Hops.{IsHop, TellsReason}
use Rattle.mx_exchange.proofs.HopLemmas.{whole_of}

-- it is that of the reader
module _ (o : HopValue) (r : ReaderValue) (limit : o.limit ≡ r.limit) (wire : o.wire ≡ r.wire) (method : r.method ≡ o.request.method)
    (parts : o.parts ≡ r.judgement.parts) (content : o.content ≡ r.judgement.content) (is : IsReader r) where
  judged : Judges o.limit o.request.method o.wire r.ended r.judgement
  judged =
      subst (λ (l : Option ℕ). Judges l o.request.method o.wire r.ended r.judgement) (sym limit)
      (subst (λ (w : List ℕ). Judges r.limit o.request.method w r.ended r.judgement) (sym wire)
      (subst (λ (m : Method). Judges r.limit m r.wire r.ended r.judgement) method is.judged))

  none_of : HasNoReason r → TellsReason o None
  none_of (inl complete) = inl (record { ended = r.ended; judgement = r.judgement; decided = judged; complete = complete; parts = parts; content = content })
  none_of (inr none) = inr (λ l same.
      subst (λ (w : List ℕ). HasNone l o.request.method w) (sym wire)
      (subst (λ (m : Method). HasNone l m r.wire) method (none l (sym limit ∙ same))))

  tells : (why : Option Reason) → IfSome why (IsReasonOf r) → (why ≡ None → HasNoReason r) → TellsReason o why
  tells None some none = none_of (none refl)
  tells (Some reason) some none = (
    some.0,
    limit ∙ some.1,
    subst (λ (w : List ℕ). HasReason some.0 o.request.method w reason) (sym wire)
        (subst (λ (m : Method). HasReason some.0 m r.wire reason) method some.2),
  )

pub tells_reason : (o : HopValue) (r : ReaderValue) → o.limit ≡ r.limit → o.wire ≡ r.wire → r.method ≡ o.request.method → o.parts ≡ r.judgement.parts
    → o.content ≡ r.judgement.content → IsReader r → (why : Option Reason) → IfSome why (IsReasonOf r) → (why ≡ None → HasNoReason r) → TellsReason o why
tells_reason o r limit wire method parts content is why some none = tells o r limit wire method parts content is why some none

-- no link ends with the code of a body that is too large, nor does a deadline
no_link : (last : Answer) (c : Code) → fault_code last ≡ Some c → c ≡ code.FilesizeExceeded → ⊥
no_link said.Connected c e large = cc
no_link said.ConnectBlocked c e large = cc
no_link said.ConnectFailed c e large = cc
no_link (said.Gave piece) c e large = cc
no_link said.ReadBlocked c e large = cc
no_link said.ReadEnded c e large = cc
no_link said.ReadFailed c e large = cc
no_link (said.Took piece) c e large = cc
no_link said.WriteBlocked c e large = cc
no_link said.WriteFailed c e large = cc

no_stop : (c : Code) (limit : Option ℕ) → is_stop_code c limit ≡ true → c ≡ code.FilesizeExceeded → ⊥
no_stop c limit listed large =
    let x : is_stop_code code.FilesizeExceeded limit ≡ true = ap (λ (k : Code). is_stop_code k limit) (sym large) ∙ listed in
    let bad : false ≡ true = x in
    cc

-- nor do bytes that end too soon
not_soon : (wire : List ℕ) (c : Code) → EndsTooSoon wire c → c ≡ code.FilesizeExceeded → ⊥
not_soon wire c (inl s) large = let e : code.GotNothing ≡ code.FilesizeExceeded = sym s.1 ∙ large in cc
not_soon wire c (inr (inl s)) large = let e : code.WeirdServerReply ≡ code.FilesizeExceeded = sym s.2 ∙ large in cc
not_soon wire c (inr (inr s)) large = let e : code.PartialFile ≡ code.FilesizeExceeded = sym s.1 ∙ large in cc

-- so the bytes say it, of which no reason is told
large_stand : (s : Stand) (c : Code) → code_of s ≡ Some c → c ≡ code.FilesizeExceeded → s ≡ stand.Fault code.FilesizeExceeded
large_stand stand.Complete c is large = let e : Some code.Ok ≡ Some code.FilesizeExceeded = is ∙ ap Some large in cc
large_stand stand.More c is large = cc
large_stand (stand.Fault f) c is large =
    let same : f ≡ c = (let k : Some f ≡ Some c = is in cc) in
    ap stand.Fault (same ∙ large)

large_judged : (limit : ℕ) (m : Method) (wire : List ℕ) (ended : Bool) (j : Judgement) → Judges (Some limit) m wire ended j → j.stand ≡ stand.Fault code.FilesizeExceeded
    → HasNone limit m wire
large_judged limit m wire ended j is large = by_fault (subst (StandsSo limit m wire ended j) large is.1).0
  where
    by_fault : BeginsWithFault limit m wire code.FilesizeExceeded j.content ⊎ EndsWithFault limit m wire ended code.FilesizeExceeded j.content → HasNone limit m wire
    by_fault (inl b) = record { front = b.front; behind = b.behind; is_prefix = b.is_prefix; none = inr (inr (inl b.fault)) }
    by_fault (inr e) = absurd (not_soon wire code.FilesizeExceeded e.soon refl)

large_ends : (limit : ℕ) (m : Method) (answers : List Answer) (wire : List ℕ) (j : Judgement) (c : Code) → EndsBy (Some limit) m answers wire j c → c ≡ code.FilesizeExceeded → HasNone limit m wire
large_ends limit m answers wire j c (by_bytes earlier piece e w h is) large = large_judged limit m wire false j h (large_stand j.stand c is large)
large_ends limit m answers wire j c (by_end earlier e w h is) large = large_judged limit m wire true j h (large_stand j.stand c is large)
large_ends limit m answers wire j c (by_fault earlier last e w more is) large = absurd (no_link last c is large)
large_ends limit m answers wire j c (by_memory earlier last e h w more) large = cc

pub large_has_none : (o : HopValue) → IsHop o → o.code ≡ code.FilesizeExceeded → TellsReason o None
large_has_none o h large = inr (λ limit same.
    by_end_of limit (subst (λ (l : Option ℕ). Ends l o.request.method o.is_reused o.answers o.wire h.judgement o.code) same h.ends))
  where
    by_end_of : (limit : ℕ) → Ends (Some limit) o.request.method o.is_reused o.answers o.wire h.judgement o.code → HasNone limit o.request.method o.wire
    by_end_of limit (inl e) = large_ends limit o.request.method o.answers o.wire h.judgement o.code e.0 large
    by_end_of limit (inr s) = absurd (no_stop o.code (Some limit) s.listed large)

pub whole_has_none : (o : HopValue) → IsHop o → o.code ≡ code.Ok → TellsReason o None
whole_has_none o h ok = inl (whole_of codes_are_listed o h ok)
