-- What a run has written, and that a verdict on an ended input is printed.
use Rattle.std.proofs.Common.{◌≡◌, ◌≢◌, ℕ, ◌+◌, ◌<◌, ◌≤◌, Bool, List, [], ◌∷◌, ◌++◌, length, true, false, inl, inr, refl, sym, subst, ap, ◌∙◌, arith, length-append}
use Rattle.std.specs.Prelude.{Option, Some, Result, Ok, Err, IfOk, OnOk}
use Rattle.std.specs.Io.KnownBytes.{Appends, Keeps}
use Rattle.std.proofs.KnownBytes.{Appends-kept}
use Rattle.httparse.specs.Ascii.{space}
use Rattle.httparse.specs.Grammar.{ResponseHead, print_response, print_blank, print_version, print_reason, print_end, print_section}
use Rattle.mx_run_io.specs.Faults.{PrintsFault}
use Rattle.mx_types.specs.declared.method.Method.{Method}
use Rattle.mx_body.specs.declared.verdict.Verdict.{Verdict}
use Rattle.mx_body.specs.declared.verdict.Verdict.TheVariants.{Complete, More, Fault}
use Rattle.mx_body.specs.Response.{print_heads}
use Rattle.mx_body.specs.Decision.{IsVerdict, BeginsWithParts}
use Rattle.mx_body.specs.Laws.{ContentIs, CompleteHasContent}
use Rattle.mx_run_local.specs.Reading.{IsRead}
use Rattle.mx_run_local.specs.declared.reading.Received.{Received}
use Rattle.mx_run_local.specs.declared.reading.InputError.{InputError}
use Rattle.mx_run_local.specs.declared.reading.InputError.TheVariants.{Failed, OutOfMemory}
use Rattle.mx_run_local.specs.Body.{FitsIn, AnswersRead, PrintsReceived, text_of}

-- a verdict that is decided has its pieces in the bytes
content_fits : (m : Method) (wire : List ℕ) (ended : Bool) (v : Verdict) → v ≢ More → ContentIs m wire ended v → FitsIn wire v
content_fits m wire ended (Complete status len parts keep) decided content = (content.0, content.1)
content_fits m wire ended More decided content = absurd (decided refl)
content_fits m wire ended (Fault code) decided content = tt

-- an input that has ended is decided
ended_decides : (m : Method) (input : List ℕ) (v : Verdict) → IsVerdict m input true v → v ≢ More
ended_decides m input (Complete status len parts keep) is = λ e. cc
ended_decides m input More is = λ e. let both : true ≡ false = is.2 in cc
ended_decides m input (Fault code) is = λ e. cc

-- what was received has the pieces of its body
received_fits : (m : Method) (known left : Option (List ℕ)) (r : Received) → IsRead m known left r → CompleteHasContent
    → FitsIn r.decoder.wire r.decoder.verdict
received_fits m known left r read has =
    content_fits r.decoder.method r.decoder.wire r.decoder.ended r.decoder.verdict
    (ended_decides m read.bytes r.decoder.verdict read.received.decided)
    (has r.decoder.method r.decoder.wire r.decoder.ended r.decoder.verdict read.received.exact)

-- and is no more than was read
received_front : (m : Method) (known left : Option (List ℕ)) (r : Received) → IsRead m known left r
    → length r.decoder.wire ≤ r.len
received_front m known left r read =
    omega (arith, read.received.len, ap length read.received.whole, length-append r.decoder.wire read.received.behind)

-- the verdict's text and status answer what was read
answers_read : (m : Method) (known left old new : Option (List ℕ)) (r : Received) (status : ℕ) → IsRead m known left r → CompleteHasContent
    → PrintsReceived r (Appends old new) status → AnswersRead m known left (Appends old new) status
answers_read m known left old new r status read has printed =
    let all = read.received.whole in
    let v = r.decoder.verdict in
    inr (
      read.bytes,
      read.read,
      record {
        verdict = v;
        decided = read.received.decided;
        content = has m read.bytes true v read.received.decided;
        written = subst (λ x. Appends old new (text_of x v)) (sym all) (printed.written read.received.behind (read.received.len ∙ ap length all));
        status = printed.status;
      },
    )

-- out of memory is printed in place of an answer to an input with bytes
answers_short : {E : Type 0} (m : Method) (known left old new : Option (List ℕ)) (r : Result ℕ E)
    → IfOk r (PrintsFault 27 (Appends old new)) → known ≢ Some [] → IfOk r (AnswersRead m known left (Appends old new))
answers_short m known left old new (Ok status) printed some = inl (printed, some)
answers_short m known left old new (Err e) printed some = tt

-- whatever was received, what is printed answers it
pub answers : {E : Type 0} (m : Method) (known left old new : Option (List ℕ)) (received : Result Received InputError) (result : Result ℕ E)
    → IfOk received (IsRead m known left) → CompleteHasContent → (received ≡ Err OutOfMemory → known ≢ Some []) → received ≢ Err Failed
    → (received ≡ Err OutOfMemory → IfOk result (PrintsFault 27 (Appends old new)))
    → IfOk received (λ r. IfOk result (PrintsReceived r (Appends old new)))
    → IfOk result (AnswersRead m known left (Appends old new))
answers m known left old new (Ok r) (Ok status) read has some whole short printed = answers_read m known left old new r status read has printed
answers m known left old new (Ok r) (Err e) read has some whole short printed = tt
answers m known left old new (Err Failed) result read has some whole short printed = absurd (whole refl)
answers m known left old new (Err OutOfMemory) result read has some whole short printed = answers_short m known left old new result (short refl) (some refl)

-- what was received has the pieces of its body, and is no more than was read
pub all_fit : (m : Method) (known left : Option (List ℕ)) (received : Result Received InputError) → IfOk received (IsRead m known left)
    → CompleteHasContent → IfOk received (λ r. FitsIn r.decoder.wire r.decoder.verdict)
all_fit m known left (Ok r) read has = received_fits m known left r read has
all_fit m known left (Err e) read has = tt

pub all_in_front : (m : Method) (known left : Option (List ℕ)) (received : Result Received InputError) → IfOk received (IsRead m known left)
    → IfOk received (λ r. length r.decoder.wire ≤ r.len)
all_in_front m known left (Ok r) read = received_front m known left r read
all_in_front m known left (Err e) read = tt

-- what was printed is kept as the run ends
pub ended_answers : {E : Type 0} (m : Method) (known left old mid new : Option (List ℕ)) (printed : Result ℕ E) (status : ℕ) → printed ≡ Ok status
    → Keeps mid new → IfOk printed (AnswersRead m known left (Appends old mid)) → AnswersRead m known left (Appends old new) status
ended_answers m known left old mid new printed status is keeps answers =
    go (subst (λ r. IfOk r (AnswersRead m known left (Appends old mid))) is answers)
  where
    go : AnswersRead m known left (Appends old mid) status → AnswersRead m known left (Appends old new) status
    go (inl short) =
        inl (record { written = Appends-kept old mid new _ short.0.written keeps; status = short.0.status }, short.1)
    go (inr all) =
        inr (
          all.0,
          all.1,
          record {
            verdict = all.2.verdict;
            decided = all.2.decided;
            content = all.2.content;
            written = Appends-kept old mid new _ all.2.written keeps;
            status = all.2.status;
          },
        )

-- a head has bytes, and so has a response
head_bytes : (h : ResponseHead) → 0 < length (print_response h)
unfolding print_response
head_bytes h = go (print_blank h.blank) h.minor h.digits (print_reason h.reason) (print_end h.line_end) (print_section h.fields h.last)
  where
    go : (blank : List ℕ) (minor : ℕ) (digits reason end fields : List ℕ)
        → 0 < length (blank ++ print_version minor ++ space ∷ digits ++ reason ++ end ++ fields)
    go [] minor digits reason end fields = omega arith
    go (b ∷ blank) minor digits reason end fields = omega arith

pub response_bytes : (m : Method) (bytes : List ℕ) → bytes ≡ [] → BeginsWithParts m bytes true → ⊥
response_bytes m bytes none begins =
    let r = begins.0 in
    let b = begins.2 in
    let empty : length bytes ≡ 0 = ap length none in
    let whole : length bytes ≡ length b.bytes + length begins.1 = ap length b.whole ∙ length-append b.bytes begins.1 in
    let heads : length b.bytes ≡ length (print_heads r.interim) + length (print_response r.head ++ r.body) =
    ap length b.response.stands.1.1 ∙ length-append (print_heads r.interim) (print_response r.head ++ r.body) in
    let head : length (print_response r.head ++ r.body) ≡ length (print_response r.head) + length r.body =
    length-append (print_response r.head) r.body in
    let some : 0 < length (print_response r.head) = head_bytes r.head in omega arith
