-- What follows from how an exchange ended.
use Rattle.std.proofs.Common.{◌≡◌, ◌≢◌, ℕ, ◌+◌, ◌≤◌, ◌<◌, ◌⊎◌, Bool, true, false, List, [], ◌++◌, length, take, drop, refl, sym, ◌∙◌, ap, subst, append-nil, length-append, arith, inl, inr, Some, None}
use Rattle.std.specs.Prelude.{◌||◌, ◌&&◌, ◌==◌, Option, slice_range}
use Rattle.std.proofs.Math.Seq.{drop-append_seam, take-length}
use Rattle.mx_types.specs.declared.code.Code.{Code}
use Rattle.mx_types.specs.declared.code.Code.TheVariants as code
use Rattle.mx_types.specs.declared.method.Method.{Method}
use Rattle.mx_body.specs.Decoder.{is_verdict_code, HasVerdictCode}
use Rattle.mx_body.specs.Parts.{joined}
use Rattle.mx_body.specs.declared.decoder.Stand.{Stand}
use Rattle.mx_body.specs.declared.decoder.Stand.TheVariants as stand
use Rattle.mx_body.specs.declared.part.Part.{Part}
use Rattle.mx_body.specs.declared.verdict.Verdict.{Verdict}
use Rattle.mx_body.specs.declared.verdict.Verdict.TheVariants as verdict
use Rattle.mx_reader.specs.Judgements.{Judgement, Judges, StandsSo, judgement_of}
use Rattle.mx_reader.specs.Laws.{WholeHasAll, CodesAreListed, IsWholeResponse}
use Rattle.mx_reader.specs.Readers.{IsKept, may_keep}
use Rattle.mx_link.specs.Answers.{given, given_by}
use Rattle.mx_link.specs.declared.answers.Answer.{Answer}
use Rattle.mx_link.specs.declared.answers.Answer.TheVariants as said
use Rattle.mx_line.specs.Endings.{EndsBy, by_bytes, by_end, by_fault, by_memory, Ends, HasMore, IsUndecided, code_of, fault_code, is_stop_code}
use Rattle.mx_exchange.specs.Exchanges.{HopValue}
use Rattle.mx_exchange.specs.Hops.{IsHop, IsWhole, HasBody, HasContent, IsFront, is_exchange_code, is_hop_code}
use Rattle.mx_head.specs.Limits.{most_bytes}
use Rattle.mx_line.specs.Order.{InOrder}
use Rattle.mx_exchange.specs.Exchanges.{capped, most_received}
use Rattle.mx_line.proofs.Judged.{none_held}
use Rattle.mx_line.proofs.Ordered.{given-push, given-same, FollowInOrder-last}

-- the code of a whole response is 0, and no other's is
complete_of : CodesAreListed → (limit : Option ℕ) (kind : Method) (wire : List ℕ) (e : Bool) (j : Judgement) (c : Code) → Judges limit kind wire e j → code_of j.stand ≡ Some c → c ≡ code.Ok
    → j.stand ≡ stand.Complete
complete_of law limit kind wire e j c h is ok = by_stand j.stand refl is where
  by_stand : (s : Stand) → j.stand ≡ s → code_of s ≡ Some c → s ≡ stand.Complete
  by_stand stand.Complete same is = refl
  by_stand stand.More same is = let x : None ≡ Some c = is in cc
  by_stand (stand.Fault f) same is =
      let listed : is_verdict_code f ≡ true = subst HasVerdictCode same (law limit kind wire e j h) in
      let same_code : f ≡ c = (let k : Some f ≡ Some c = is in cc) in
      let x : is_verdict_code code.Ok ≡ true = ap is_verdict_code (sym (same_code ∙ ok)) ∙ listed in
      cc

faulted : (last : Answer) (c : Code) → fault_code last ≡ Some c → c ≡ code.Ok → ⊥
faulted said.Connected c e ok = cc
faulted said.ConnectBlocked c e ok = cc
faulted said.ConnectFailed c e ok = cc
faulted (said.Gave piece) c e ok = cc
faulted said.ReadBlocked c e ok = cc
faulted said.ReadEnded c e ok = cc
faulted said.ReadFailed c e ok = cc
faulted (said.Took piece) c e ok = cc
faulted said.WriteBlocked c e ok = cc
faulted said.WriteFailed c e ok = cc

abbrev Decided : Option ℕ → Method → List ℕ → Judgement → Type 0
Decided limit kind wire j = (ended : Bool) × Judges limit kind wire ended j × (j.stand ≡ stand.Complete)

decided : CodesAreListed → (limit : Option ℕ) (kind : Method) (answers : List Answer) (wire : List ℕ) (j : Judgement) (c : Code) → EndsBy limit kind answers wire j c → c ≡ code.Ok
    → Decided limit kind wire j
decided law limit kind answers wire j c (by_bytes earlier piece e w h is) ok = (false, h, complete_of law limit kind wire false j c h is ok)
decided law limit kind answers wire j c (by_end earlier e w h is) ok = (true, h, complete_of law limit kind wire true j c h is ok)
decided law limit kind answers wire j c (by_fault earlier last e w m is) ok = absurd (faulted last c is ok)
decided law limit kind answers wire j c (by_memory earlier last e h w m) ok = cc

unstopped : (c : Code) (limit : Option ℕ) → is_stop_code c limit ≡ true → c ≡ code.Ok → ⊥
unstopped c limit listed ok =
    let x : is_stop_code code.Ok limit ≡ true = ap (λ (k : Code). is_stop_code k limit) (sym ok) ∙ listed in
    let bad : false ≡ true = x in
    cc

ends_decided : CodesAreListed → (limit : Option ℕ) (kind : Method) (reused : Bool) (answers : List Answer) (wire : List ℕ) (j : Judgement) (c : Code)
    → Ends limit kind reused answers wire j c → c ≡ code.Ok → Decided limit kind wire j
ends_decided law limit kind reused answers wire j c (inl e) ok = decided law limit kind answers wire j c e.0 ok
ends_decided law limit kind reused answers wire j c (inr s) ok = absurd (unstopped c limit s.listed ok)

pub whole_of : CodesAreListed → (o : HopValue) → IsHop o → o.code ≡ code.Ok → IsWhole o
whole_of law o h ok =
    let d = ends_decided law o.limit o.request.method o.is_reused o.answers o.wire h.judgement o.code h.ends ok in
    record { ended = d.0; judgement = h.judgement; decided = d.1; complete = d.2; parts = h.parts; content = h.content }

pub body_of : WholeHasAll → CodesAreListed → (o : HopValue) → IsHop o → o.code ≡ code.Ok → HasBody o
body_of law codes o h ok =
    let w = whole_of codes o h ok in
    let all = law o.limit o.request.method o.wire w.ended w.judgement w.decided w.complete in
    record {
      len = w.judgement.len;
      fits = all.within;
      ended = w.ended;
      response =
          subst (λ (l : List ℕ). IsWholeResponse o.limit o.request.method (take w.judgement.len o.wire) w.ended (joined o.wire o.parts ++ l)) (sym w.content)
          (subst (λ (ps : List Part). IsWholeResponse o.limit o.request.method (take w.judgement.len o.wire) w.ended (joined o.wire ps ++ w.judgement.content)) (sym w.parts) all.response);
    }

-- the judgement is that on the wire, however it ended
judged_by : (limit : Option ℕ) (kind : Method) (answers : List Answer) (wire : List ℕ) (j : Judgement) (c : Code) → EndsBy limit kind answers wire j c → (e : Bool) × Judges limit kind wire e j
judged_by limit kind answers wire j c (by_bytes earlier piece e w h is) = (false, h)
judged_by limit kind answers wire j c (by_end earlier e w h is) = (true, h)
judged_by limit kind answers wire j c (by_fault earlier last e w m is) = (false, m.0)
judged_by limit kind answers wire j c (by_memory earlier last e h w m) = (false, m.0)

judged : (limit : Option ℕ) (kind : Method) (reused : Bool) (answers : List Answer) (wire : List ℕ) (j : Judgement) (c : Code) → Ends limit kind reused answers wire j c → (e : Bool) × Judges limit kind wire e j
judged limit kind reused answers wire j c (inl e) = judged_by limit kind answers wire j c e.0
judged limit kind reused answers wire j c (inr s) = (false, s.more.0)

pub held_all : (o : HopValue) → IsHop o → o.limit ≡ None → (o.content ≡ []) × (o.kept ≡ o.wire)
held_all o h none =
    let j = judged o.limit o.request.method o.is_reused o.answers o.wire h.judgement o.code h.ends in
    (h.content ∙ none_held o.limit o.request.method o.wire j.0 h.judgement j.1 none, subst (λ (l : Option ℕ). IsKept l o.wire o.kept) none h.keeps)

-- of a response that is held the parts are the content
pub content_of : (o : HopValue) → IsHop o → HasBody o → o.limit ≡ None → HasContent o
content_of o h b none =
    let whole : IsWholeResponse None o.request.method (take b.len o.wire) b.ended (joined o.wire o.parts ++ o.content) =
    subst (λ (l : Option ℕ). IsWholeResponse l o.request.method (take b.len o.wire) b.ended (joined o.wire o.parts ++ o.content)) none b.response in
    record {
      len = b.len;
      fits = b.fits;
      ended = b.ended;
      response = whole.0;
      is = whole.1;
      content = sym (append-nil (joined o.wire o.parts)) ∙ ap (λ (l : List ℕ). joined o.wire o.parts ++ l) (sym (held_all o h none).0) ∙ sym whole.2;
    }

-- no parts of any other judgement
partless : (limit : Option ℕ) (kind : Method) (wire : List ℕ) (e : Bool) (j : Judgement) → Judges limit kind wire e j → (code_of j.stand ≡ Some code.Ok → ⊥) → j.parts ≡ []
partless (Some limit) kind wire e j h bad = h.0
partless None kind wire e j h bad = by_verdict h.0 h.2 where
  by_verdict : (v : Verdict) → j ≡ judgement_of v → j.parts ≡ []
  by_verdict (verdict.Complete status len parts keep) is = absurd (bad (ap (λ (k : Judgement). code_of k.stand) is))
  by_verdict verdict.More is = ap (λ (k : Judgement). k.parts) is
  by_verdict (verdict.Fault f) is = ap (λ (k : Judgement). k.parts) is

unwhole : (s : Stand) (c : Code) → code_of s ≡ Some c → (c ≡ code.Ok → ⊥) → code_of s ≡ Some code.Ok → ⊥
unwhole s c is bad ok = bad (let k : Some c ≡ Some code.Ok = sym is ∙ ok in cc)

unfinished : (s : Stand) → s ≡ stand.More → code_of s ≡ Some code.Ok → ⊥
unfinished s more ok = let k : None ≡ Some code.Ok = sym (ap code_of more) ∙ ok in cc

no_parts : (limit : Option ℕ) (kind : Method) (answers : List Answer) (wire : List ℕ) (j : Judgement) (c : Code) → EndsBy limit kind answers wire j c → (c ≡ code.Ok → ⊥) → j.parts ≡ []
no_parts limit kind answers wire j c (by_bytes earlier piece e w h is) bad = partless limit kind wire false j h (unwhole j.stand c is bad)
no_parts limit kind answers wire j c (by_end earlier e w h is) bad = partless limit kind wire true j h (unwhole j.stand c is bad)
no_parts limit kind answers wire j c (by_fault earlier last e w m is) bad = partless limit kind wire false j m.0 (unfinished j.stand m.1)
no_parts limit kind answers wire j c (by_memory earlier last e h w m) bad = partless limit kind wire false j m.0 (unfinished j.stand m.1)

-- nor of one of which more is to come
pub more_partless : (limit : Option ℕ) (kind : Method) (wire : List ℕ) (j : Judgement) → HasMore limit kind wire j → j.parts ≡ []
more_partless limit kind wire j m = partless limit kind wire false j m.0 (unfinished j.stand m.1)

pub parts_none : (o : HopValue) → IsHop o → o.code ≢ code.Ok → o.parts ≡ []
parts_none o h bad = h.parts ∙ none h.ends where
  none : Ends o.limit o.request.method o.is_reused o.answers o.wire h.judgement o.code → h.judgement.parts ≡ []
  none (inl e) = no_parts o.limit o.request.method o.answers o.wire h.judgement o.code e.0 bad
  none (inr s) = more_partless o.limit o.request.method o.wire h.judgement s.more

-- memory has all bytes where there are parts
pub kept_parts : (o : HopValue) → IsHop o → (o.kept ≡ o.wire) ⊎ (o.parts ≡ [])
kept_parts o h =
    let j = judged o.limit o.request.method o.is_reused o.answers o.wire h.judgement o.code h.ends in by_limit o.limit j.0 h.keeps j.1
  where
    by_limit : (limit : Option ℕ) (e : Bool) → IsKept limit o.wire o.kept → Judges limit o.request.method o.wire e h.judgement → (o.kept ≡ o.wire) ⊎ (o.parts ≡ [])
    by_limit None e k j = inl k
    by_limit (Some limit) e k j = inr (h.parts ∙ j.0)

-- so the bytes at the parts are in memory
kept_joined : (o : HopValue) → IsHop o → joined o.kept o.parts ≡ joined o.wire o.parts
kept_joined o h = elim (kept_parts o h) [
  | inl all ↦ ap (λ (l : List ℕ). joined l o.parts) all
  | inr none ↦ ap (λ (ps : List Part). joined o.kept ps) none ∙ ap (λ (ps : List Part). joined o.wire ps) (sym none)
]

pub all_joined : (o : HopValue) (i : ℕ) → IsHop o → i ≡ length o.parts → joined o.kept (take i o.parts) ≡ joined o.wire o.parts
all_joined o i h all = ap (λ (n : ℕ). joined o.kept (take n o.parts)) all ∙ ap (λ (ps : List Part). joined o.kept ps) (take-length o.parts) ∙ kept_joined o h

pub kept_slice : (o : HopValue) (i start end : ℕ) → IsHop o → i < length o.parts → slice_range o.kept start end ≡ slice_range o.wire start end
kept_slice o i start end h less = elim (kept_parts o h) [
  | inl all ↦ ap (λ (l : List ℕ). slice_range l start end) all
  | inr none ↦ let count : length o.parts ≡ 0 = ap (λ (ps : List Part). length ps) none in absurd (omega (arith, count, less))
]

-- the wire and what was left after it
abbrev Front : List ℕ → List Answer → Type 0
Front wire answers = (left : List ℕ) × (given answers ≡ wire ++ left)

whole_front : (wire : List ℕ) (answers : List Answer) → wire ≡ given answers → Front wire answers
whole_front wire answers w = ([], sym w ∙ sym (append-nil wire))

front_by : (limit : Option ℕ) (kind : Method) (answers : List Answer) (wire : List ℕ) (j : Judgement) (c : Code) → EndsBy limit kind answers wire j c → Front wire answers
front_by limit kind answers wire j c (by_bytes earlier piece e w h is) = whole_front wire answers w
front_by limit kind answers wire j c (by_end earlier e w h is) = whole_front wire answers w
front_by limit kind answers wire j c (by_fault earlier last e w m is) = whole_front wire answers w
front_by limit kind answers wire j c (by_memory earlier last e h w m) =
    (given_by last, ap given e.0 ∙ given-push earlier last ∙ ap (λ (l : List ℕ). l ++ given_by last) (sym w))

ends_front : (limit : Option ℕ) (kind : Method) (reused : Bool) (answers : List Answer) (wire : List ℕ) (j : Judgement) (c : Code) → Ends limit kind reused answers wire j c → Front wire answers
ends_front limit kind reused answers wire j c (inl e) = front_by limit kind answers wire j c e.0
ends_front limit kind reused answers wire j c (inr s) = whole_front wire answers s.wire_is

left_is : (xs ys zs : List ℕ) → xs ≡ ys ++ zs → xs ≡ ys ++ drop (length ys) xs
left_is xs ys zs e = e ∙ ap (λ (l : List ℕ). ys ++ l) (sym (ap (λ (l : List ℕ). drop (length ys) l) e ∙ drop-append_seam ys zs))

pub front_of_outcome : (o : HopValue) → IsHop o → IsFront o
front_of_outcome o h =
    let f = ends_front o.limit o.request.method o.is_reused o.answers o.wire h.judgement o.code h.ends in left_is (given o.answers) o.wire f.0 f.1

all_by : (limit : Option ℕ) (kind : Method) (answers : List Answer) (wire : List ℕ) (j : Judgement) (c : Code) → EndsBy limit kind answers wire j c → (c ≡ code.OutOfMemory → ⊥) → wire ≡ given answers
all_by limit kind answers wire j c (by_bytes earlier piece e w h is) other = w
all_by limit kind answers wire j c (by_end earlier e w h is) other = w
all_by limit kind answers wire j c (by_fault earlier last e w m is) other = w
all_by limit kind answers wire j c (by_memory earlier last e h w m) other = absurd (other refl)

pub all_of_outcome : (o : HopValue) → IsHop o → o.code ≢ code.OutOfMemory → o.wire ≡ given o.answers
all_of_outcome o h other = all h.ends where
  all : Ends o.limit o.request.method o.is_reused o.answers o.wire h.judgement o.code → o.wire ≡ given o.answers
  all (inl e) = all_by o.limit o.request.method o.answers o.wire h.judgement o.code e.0 other
  all (inr s) = s.wire_is

-- the codes
of_verdict : (c : Code) (limit : Option ℕ) → is_verdict_code c ≡ true → is_hop_code c limit ≡ true
of_verdict c limit is = ap (λ (b : Bool). b || is_exchange_code c limit) is

of_exchange : (c : Code) (limit : Option ℕ) → is_exchange_code c limit ≡ true → is_hop_code c limit ≡ true
of_exchange c limit is = ap (λ (b : Bool). is_verdict_code c || b) is ∙ elim (is_verdict_code c) as (λ v. (v || true) ≡ true) [ true ↦ refl | false ↦ refl ]

code_listed : CodesAreListed → (limit : Option ℕ) (kind : Method) (wire : List ℕ) (e : Bool) (j : Judgement) (c : Code) → Judges limit kind wire e j → code_of j.stand ≡ Some c → is_hop_code c limit ≡ true
code_listed law limit kind wire e j c h is = by_stand j.stand refl is where
  by_stand : (s : Stand) → j.stand ≡ s → code_of s ≡ Some c → is_hop_code c limit ≡ true
  by_stand stand.Complete at is = (let same : code.Ok ≡ c = (let k : Some code.Ok ≡ Some c = is in cc) in subst (λ (k : Code). is_hop_code k limit ≡ true) same refl)
  by_stand stand.More at is = let x : None ≡ Some c = is in cc
  by_stand (stand.Fault f) at is =
      let same : f ≡ c = (let k : Some f ≡ Some c = is in cc) in subst (λ (k : Code). is_hop_code k limit ≡ true) same (of_verdict f limit (subst HasVerdictCode at (law limit kind wire e j h)))

fault_is_listed : (last : Answer) (c : Code) (limit : Option ℕ) → fault_code last ≡ Some c → is_hop_code c limit ≡ true
fault_is_listed said.Connected c limit e = let x : None ≡ Some c = e in cc
fault_is_listed said.ConnectBlocked c limit e = let x : None ≡ Some c = e in cc
fault_is_listed said.ConnectFailed c limit e = let same : code.CouldntConnect ≡ c = (let k : Some code.CouldntConnect ≡ Some c = e in cc) in subst (λ (k : Code). is_hop_code k limit ≡ true) same refl
fault_is_listed (said.Gave piece) c limit e = let x : None ≡ Some c = e in cc
fault_is_listed said.ReadBlocked c limit e = let x : None ≡ Some c = e in cc
fault_is_listed said.ReadEnded c limit e = let x : None ≡ Some c = e in cc
fault_is_listed said.ReadFailed c limit e = let same : code.RecvError ≡ c = (let k : Some code.RecvError ≡ Some c = e in cc) in subst (λ (k : Code). is_hop_code k limit ≡ true) same refl
fault_is_listed (said.Took piece) c limit e = let x : None ≡ Some c = e in cc
fault_is_listed said.WriteBlocked c limit e = let x : None ≡ Some c = e in cc
fault_is_listed said.WriteFailed c limit e = let same : code.SendError ≡ c = (let k : Some code.SendError ≡ Some c = e in cc) in subst (λ (k : Code). is_hop_code k limit ≡ true) same refl

by_listed : CodesAreListed → (limit : Option ℕ) (kind : Method) (answers : List Answer) (wire : List ℕ) (j : Judgement) (c : Code) → EndsBy limit kind answers wire j c → is_hop_code c limit ≡ true
by_listed law limit kind answers wire j c (by_bytes earlier piece e w h is) = code_listed law limit kind wire false j c h is
by_listed law limit kind answers wire j c (by_end earlier e w h is) = code_listed law limit kind wire true j c h is
by_listed law limit kind answers wire j c (by_fault earlier last e w m is) = fault_is_listed last c limit is
by_listed law limit kind answers wire j c (by_memory earlier last e h w m) = refl

stop_listed : (c : Code) (limit : Option ℕ) → is_stop_code c limit ≡ true → is_exchange_code c limit ≡ true
stop_listed code.Ok limit is = let x : false ≡ true = is in cc
stop_listed code.UnsupportedProtocol limit is = let x : false ≡ true = is in cc
stop_listed code.UrlMalformat limit is = let x : false ≡ true = is in cc
stop_listed code.CouldntResolveHost limit is = refl
stop_listed code.CouldntConnect limit is = refl
stop_listed code.WeirdServerReply limit is = let x : false ≡ true = is in cc
stop_listed code.PartialFile limit is = let x : false ≡ true = is in cc
stop_listed code.WriteError limit is = is
stop_listed code.OutOfMemory limit is = refl
stop_listed code.OperationTimedout limit is = refl
stop_listed code.TooManyRedirects limit is = let x : false ≡ true = is in cc
stop_listed code.GotNothing limit is = let x : false ≡ true = is in cc
stop_listed code.SendError limit is = let x : false ≡ true = is in cc
stop_listed code.RecvError limit is = let x : false ≡ true = is in cc
stop_listed code.BadContentEncoding limit is = let x : false ≡ true = is in cc
stop_listed code.FilesizeExceeded limit is = let x : false ≡ true = is in cc
stop_listed code.TooLarge limit is = let x : false ≡ true = is in cc

pub outcome_listed : CodesAreListed → (o : HopValue) → IsHop o → is_hop_code o.code o.limit ≡ true
outcome_listed law o h = listed h.ends where
  listed : Ends o.limit o.request.method o.is_reused o.answers o.wire h.judgement o.code → is_hop_code o.code o.limit ≡ true
  listed (inl e) = by_listed law o.limit o.request.method o.answers o.wire h.judgement o.code e.0
  listed (inr s) = of_exchange o.code o.limit (stop_listed o.code o.limit s.listed)

-- how much came, where it is held
few : (limit : Option ℕ) (kind : Method) (answers : List Answer) → limit ≡ None → IsUndecided limit kind answers → length (given answers) ≤ most_bytes
few limit kind answers none u = (subst (λ (l : Option ℕ). IsUndecided l kind answers) none u).1.1

fault_gives : (last : Answer) (c : Code) → fault_code last ≡ Some c → given_by last ≡ []
fault_gives said.Connected c e = refl
fault_gives said.ConnectBlocked c e = refl
fault_gives said.ConnectFailed c e = refl
fault_gives (said.Gave piece) c e = let x : None ≡ Some c = e in cc
fault_gives said.ReadBlocked c e = refl
fault_gives said.ReadEnded c e = refl
fault_gives said.ReadFailed c e = refl
fault_gives (said.Took piece) c e = refl
fault_gives said.WriteBlocked c e = refl
fault_gives said.WriteFailed c e = refl

wire_bounded : (limit : Option ℕ) (kind : Method) (reused : Bool) (bytes : List ℕ) (answers : List Answer) (wire : List ℕ) (j : Judgement) (c : Code) → InOrder reused bytes answers
    → limit ≡ None → EndsBy limit kind answers wire j c → length wire ≤ most_received
wire_bounded limit kind reused bytes answers wire j c o none (by_bytes earlier piece e w h is) =
    let last = FollowInOrder-last reused bytes [] earlier (said.Gave piece) (rw e.0 at o) in
    let sum : length wire ≡ length (given earlier) + length piece = ap (λ (l : List ℕ). length l) (w ∙ ap given e.0 ∙ given-push earlier (said.Gave piece)) ∙ length-append (given earlier) piece in
    omega (arith, sum, few limit kind earlier none e.1, last.2)
wire_bounded limit kind reused bytes answers wire j c o none (by_end earlier e w h is) =
    let same : length wire ≡ length (given earlier) = ap (λ (l : List ℕ). length l) (w ∙ ap given e.0 ∙ given-same earlier said.ReadEnded refl) in
    omega (arith, same, few limit kind earlier none e.1)
wire_bounded limit kind reused bytes answers wire j c o none (by_fault earlier last e w m is) =
    let same : length wire ≡ length (given earlier) = ap (λ (l : List ℕ). length l) (w ∙ ap given e.0 ∙ given-same earlier last (fault_gives last c is)) in
    omega (arith, same, few limit kind earlier none e.1)
wire_bounded limit kind reused bytes answers wire j c o none (by_memory earlier last e h w m) =
    omega (arith, ap (λ (l : List ℕ). length l) w, few limit kind earlier none e.1)

pub received_bounded : (limit : Option ℕ) (kind : Method) (reused : Bool) (bytes : List ℕ) (answers : List Answer) (wire : List ℕ) (j : Judgement) (c : Code) → InOrder reused bytes answers
    → limit ≡ None → EndsBy limit kind answers wire j c → capped (length wire) ≤ most_received
received_bounded limit kind reused bytes answers wire j c o none e = omega (arith, wire_bounded limit kind reused bytes answers wire j c o none e)

-- the same of what came while nothing was decided
pub undecided_bounded : (limit : Option ℕ) (kind : Method) (answers : List Answer) → limit ≡ None → IsUndecided limit kind answers → capped (length (given answers)) ≤ most_received
undecided_bounded limit kind answers none u = omega (arith, few limit kind answers none u)

-- a link that is kept gave a whole response
keep_and : (keep same : Bool) → (keep && same) ≡ true → keep ≡ true
keep_and true same e = refl
keep_and false same e = e

kept_ok : (limit : Option ℕ) (kind : Method) (wire : List ℕ) (e : Bool) (j : Judgement) → Judges limit kind wire e j → may_keep j wire ≡ true → code_of j.stand ≡ Some code.Ok
kept_ok None kind wire e j h k = ap (λ (i : Judgement). code_of i.stand) h.2 ∙ by_verdict h.0 (ap (λ (i : Judgement). i.keep) (sym h.2) ∙ keep_and j.keep (j.len == length wire) k) where
  by_verdict : (v : Verdict) → (judgement_of v).keep ≡ true → code_of (judgement_of v).stand ≡ Some code.Ok
  by_verdict (verdict.Complete status len parts keep) k = refl
  by_verdict verdict.More k = let x : false ≡ true = k in cc
  by_verdict (verdict.Fault c) k = let x : false ≡ true = k in cc
kept_ok (Some limit) kind wire e j h k = by_stand j.stand h.1 where
  keeps : j.keep ≡ true
  keeps = keep_and j.keep (j.len == length wire) k

  by_stand : (s : Stand) → StandsSo limit kind wire e j s → code_of s ≡ Some code.Ok
  by_stand stand.Complete x = refl
  by_stand stand.More x = let both : false ≡ true = sym x.1.1 ∙ keeps in cc
  by_stand (stand.Fault c) x = let both : false ≡ true = sym x.1.1 ∙ keeps in cc

unkept : (limit : Option ℕ) (kind : Method) (wire : List ℕ) (j : Judgement) → HasMore limit kind wire j → may_keep j wire ≡ true → ⊥
unkept limit kind wire j m k = unfinished j.stand m.1 (kept_ok limit kind wire false j m.0 k)

pub kept_ends : (limit : Option ℕ) (kind : Method) (answers : List Answer) (wire : List ℕ) (j : Judgement) (c : Code) → EndsBy limit kind answers wire j c → may_keep j wire ≡ true
    → EndsBy limit kind answers wire j code.Ok
kept_ends limit kind answers wire j c (by_bytes earlier piece e w h is) k = by_bytes earlier piece e w h (kept_ok limit kind wire false j h k)
kept_ends limit kind answers wire j c (by_end earlier e w h is) k = by_end earlier e w h (kept_ok limit kind wire true j h k)
kept_ends limit kind answers wire j c (by_fault earlier last e w m is) k = absurd (unkept limit kind wire j m k)
kept_ends limit kind answers wire j c (by_memory earlier last e h w m) k = absurd (unkept limit kind wire j m k)
