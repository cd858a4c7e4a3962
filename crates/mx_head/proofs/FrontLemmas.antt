-- A proper prefix of a head is no head, and meets no cause of a fault.
use Rattle.std.proofs.Common.{◌≡◌, ℕ, true, false, not, inl, inr, ◌+◌, ◌<◌, ◌≤◌, List, [], ◌∷◌, ◌++◌, length, take, drop, sym, ap, subst, ◌∙◌, arith, append_assoc, length-append, length-drop, All}
use Rattle.std.specs.Prelude.{flat_map}
use Rattle.std.proofs.lemmas.Bool.{not-true, cases_lt}
use Rattle.std.proofs.lemmas.List.{append-nil, drop_all, take_all, get_or-drop, take-append-drop}
use Rattle.httparse.specs.Ascii.{crlf_bytes}
use Rattle.httparse.specs.Grammar.{LineEnd, crlf, lf, print_end, Field, print_field, IsField, ResponseHead, print_response, ReadsResponse, HasNoResponse, MayBecomeResponse}
use Rattle.httparse.proofs.GrammarLemmas.{response_prefix_free}
use Rattle.mx_head.specs.declared.types.HeadStep.TheVariants as step
use Rattle.mx_head.specs.declared.scan.Reached.{Reached}
use Rattle.mx_head.specs.declared.scan.HeadScan.{HeadScan}
use Rattle.mx_head.specs.Fronts.{IsFrontOfHead}
use Rattle.mx_head.specs.declared.lines.Place.{Place}
use Rattle.mx_head.specs.Faults.{HasAllFields}
use Rattle.mx_head.specs.Lines.{start, IsFull, HasFieldPast}
use Rattle.mx_head.specs.Reading.{IsStepOn}
use Rattle.mx_head.specs.Scan.{after_all, is_settled, is_open, HasScanned}
use Rattle.mx_head.proofs.LineLemmas.{front_of}
use Rattle.mx_head.proofs.FaultLemmas.{full_has_all, BeginsLine, fields_begin}
use Rattle.mx_head.proofs.HeadLines.{head_cut, head_scan, first_full}
use Rattle.mx_head.proofs.ScanComplete.{front_open, front_is_open}
use Rattle.mx_head.proofs.ScanLemmas.{open_front}
use Rattle.mx_head.proofs.StepLemmas.{more_step}

front_no_head : (text : List ℕ) → IsFrontOfHead text → HasNoResponse text
front_no_head text f h rest reads =
    let same = response_prefix_free text f.more h f.head rest [] reads f.reads in
    absurd (omega (arith, ap length same.1, length-append rest f.more, f.some))

front_not_past : (text : List ℕ) → IsFrontOfHead text → HasFieldPast text → ⊥
front_not_past text f p =
    let whole : p.front ++ (p.next ∷ (p.after ++ f.more)) ≡ print_response f.head =
    sym (append_assoc p.front (p.next ∷ p.after) f.more) ∙ sym (ap (λ (t : List ℕ). t ++ f.more) p.is) ∙ f.reads.1 ∙ append-nil (print_response f.head) in
    let cut = head_cut f.head f.reads.0 p.front (p.next ∷ (p.after ++ f.more)) whole p.full in
    at_end f.head.last (cut.goes ∙ ap (λ (t : List Field). flat_map print_field t ++ print_end f.head.last) (drop_all 128 f.head.fields f.few))
  where
    at_end : (end : LineEnd) → p.next ∷ (p.after ++ f.more) ≡ print_end end → ⊥
    at_end crlf e = p.not_return (cc)
    at_end lf e = p.not_feed (cc)

pub front_step : (text : List ℕ) → IsFrontOfHead text → length text < 65536 → IsStepOn text step.More
front_step text f small = more_step text (front_not_past text f) small (front_no_head text f) (f.more, f.head, f.reads)

-- a scan that has seen all of the text, and is open
pub scanned_more : (text : List ℕ) (scan : HeadScan) → HasScanned text scan → is_open scan ≡ true → scan.read ≡ length text → length text < 65536 → IsStepOn text step.More
scanned_more text scan s still all small =
    let whole : after_all text ≡ scan.reached = ap after_all (sym (take_all scan.read text (omega (arith, all)))) ∙ s.there in
    front_step text (open_front text (ap (λ (r : Reached). is_settled r.spot) whole ∙ not-true _ still)) small

-- ---- the other way: bytes that may become a head are a prefix of one that is taken

front_in : (text more : List ℕ) (h : ResponseHead) → HasNoResponse text → ReadsResponse (text ++ more) h [] → length h.fields ≤ 128 → IsFrontOfHead text
front_in text [] h none reads few = absurd (none h [] (reads.0, sym (append-nil text) ∙ reads.1))
front_in text (b ∷ more) h none reads few = record { more = b ∷ more; some = omega arith; head = h; reads = reads; few = few }

-- it has more field lines than are taken, and the text ends before the first that is one too many
front_trimmed : (text : List ℕ) → (HasFieldPast text → ⊥) → (more : List ℕ) (h : ResponseHead) → ReadsResponse (text ++ more) h [] → 128 < length h.fields → IsFrontOfHead text
front_trimmed text few more h reads many =
    let bytes : text ++ more ≡ print_response h = reads.1 ∙ append-nil (print_response h) in
    let counted = ap (λ (q : Place). q.lines) (head_scan h reads.0) in
    let u = first_full start (print_response h) (omega arith) (omega (arith, counted, many)) in
    let all : HasAllFields u.0 = full_has_all u.0 u.1 h (reads.0, sym u.2 ∙ sym (append-nil (print_response h))) u.3 in
    elim (cases_lt (length u.0) (length text)) [
      | inl longer ↦
          let r = front_of u.0 text u.1 more (sym (bytes ∙ u.2)) (omega (arith, longer)) in
          let cut = head_cut h reads.0 u.0 u.1 (sym u.2) u.3 in
          let left = drop 128 h.fields in
          let each : All IsField left = λ k d lt. subst IsField (sym (get_or-drop 128 h.fields k d)) (reads.0.fields (128 + k) d (omega (arith, length-drop 128 h.fields, lt))) in
          let begins = fields_begin left (print_end h.last) each (omega (arith, length-drop 128 h.fields, many)) in
          absurd (past u.0 r.0 u.3 r.1 begins (omega (arith, longer, ap length r.1, length-append u.0 r.0)) (sym r.2 ∙ cut.goes))
      | inr within ↦
          let r = front_of text u.0 more u.1 (bytes ∙ u.2) within in
          record {
            more = r.0 ++ crlf_bytes;
            some = omega (arith, length-append r.0 crlf_bytes);
            head = all.0;
            reads = (all.1.0, sym (append_assoc text r.0 crlf_bytes) ∙ ap (λ (t : List ℕ). t ++ crlf_bytes) (sym r.1) ∙ all.1.1);
            few = omega (arith, all.2);
          }
    ]
  where
    past : {rest : List ℕ} (u c : List ℕ) → IsFull u → text ≡ u ++ c → BeginsLine rest → 0 < length c → c ++ more ≡ rest → ⊥
    past u [] full is begins some e = absurd (omega (arith, some))
    past u (z ∷ c) full is begins some e =
        let same : z ≡ begins.first = let both : z ∷ (c ++ more) ≡ begins.first ∷ begins.others = e ∙ begins.is in cc in
        few (record {
          front = u;
          next = z;
          after = c;
          is = is;
          not_return = λ x. begins.not_return (sym same ∙ x);
          not_feed = λ x. begins.not_feed (sym same ∙ x);
          full = full;
        })

pub may_front : (text : List ℕ) → (HasFieldPast text → ⊥) → HasNoResponse text → MayBecomeResponse text → IsFrontOfHead text
may_front text few none may =
    elim (cases_lt 128 (length may.1.fields)) [
      | inl many ↦ front_trimmed text few may.0 may.1 may.2 many
      | inr small ↦ front_in text may.0 may.1 none may.2 small
    ]

-- a scan of a prefix of a head is open
pub scanned_open : (text : List ℕ) (scan : HeadScan) → HasScanned text scan → IsFrontOfHead text → is_open scan ≡ true
scanned_open text scan s f =
    let whole = subst (λ (t : List ℕ). is_settled (after_all t).spot ≡ false) (sym (take-append-drop scan.read text)) (front_open text f) in
    let there = front_is_open (take scan.read text) (drop scan.read text) whole in
    ap not (sym (ap (λ (r : Reached). is_settled r.spot) s.there) ∙ there)
