-- What is reported, one end further.
use Rattle.std.proofs.Common.{◌≡◌, ◌≢◌, ◌∙◌, refl, ap, sym, subst, inl, inr, arith, ℕ, ◌+◌, cond, length, Bool, true, false, List, [], ◌∷◌, ◌++◌, map, append_assoc, append-nil}
use Rattle.std.specs.Prelude.{◌⊎◌, Option, Some, None, sum_by}
use Rattle.std.specs.Io.KnownBytes.{Appends, Keeps}
use Rattle.std.proofs.KnownBytes.{Appends-kept, Appends-trans}
use Rattle.std.proofs.lemmas.List.{length-append}
use Rattle.std.proofs.lemmas.List.Sums.{sum_by_push}
use Rattle.mx_save_rules.specs.Ends.{EndValue, is_failure}
use Rattle.mx_save_rules.specs.Status.{after_note, after_notes, first_of}
use Rattle.mx_run_io.specs.Ends.{Wrote, has_failed_write, is_pending, writer_of}
use Rattle.mx_run_io.specs.declared.output.Output.{Output}
use Rattle.mx_save_rules.specs.declared.status.ExitStatus.{ExitStatus}
use Rattle.mx_save_rules.specs.declared.status.PlacedCode.{PlacedCode}
use Rattle.mx_save_book.specs.Lines.{AreLines, LinesValue, PrintedLineValue, counted, last_of, line_of, note_of, tally_of, text_of}
use Rattle.mx_save_book.specs.declared.tally.Tally.{Tally}

text_more : (json : Bool) (ts : List PrintedLineValue) (t : PrintedLineValue) → text_of json (ts ++ t ∷ []) ≡ text_of json ts ++ line_of json t.end
text_more json [] t = append-nil (line_of json t.end)
text_more json (s ∷ ts) t =
    ap (λ l. line_of json s.end ++ l) (text_more json ts t)
    ∙ sym (append_assoc (line_of json s.end) (text_of json ts) (line_of json t.end))

pub written_more : (old mid new : Option (List ℕ)) (json : Bool) (ts : List PrintedLineValue) (t : PrintedLineValue) → Appends old mid (text_of json ts) → Appends mid new (line_of json t.end)
    → Appends old new (text_of json (ts ++ t ∷ []))
written_more old mid new json ts t first more =
    subst (Appends old new) (sym (text_more json ts t)) (Appends-trans old mid new (text_of json ts) (line_of json t.end) first more)

pub noted_more : (first : Option PlacedCode) (ts : List PrintedLineValue) (t : PrintedLineValue) → after_notes first (map note_of (ts ++ t ∷ [])) ≡ after_note (after_notes first (map note_of ts)) (note_of t)
noted_more first [] t = refl
noted_more first (s ∷ ts) t = noted_more (after_note first (note_of s)) ts t

-- the output was left as it was, or has failed
pub left_on : {W : Type 0} (contents : W → Option (List ℕ)) (l : LinesValue W) (out : Output W) → AreLines contents l → (out ≡ l.output) ⊎ (has_failed_write out ≡ true)
    → AreLines contents (record l { output = out })
left_on contents l out are left =
    elim left [
      | inl same ↦ subst (λ o. AreLines contents (record l { output = o })) (sym same) are
      | inr failed ↦ record { written = λ well. absurd (well failed); flushed = λ well. absurd (well failed); status = are.status; tally = are.tally; last = are.last }
    ]

-- it was flushed
pub flushed_on : {W : Type 0} (contents : W → Option (List ℕ)) (l : LinesValue W) (out : Output W) → AreLines contents l → has_failed_write l.output ≢ true
    → Keeps (contents (writer_of l.output)) (contents (writer_of out)) → is_pending out ≡ false → AreLines contents (record l { output = out })
flushed_on contents l out are well keeps flushed = record {
  written = λ still. Appends-kept (contents (writer_of l.start)) (contents (writer_of l.output)) (contents (writer_of out)) (text_of l.json l.told) (are.written well) keeps;
  flushed = λ still. flushed;
  status = are.status;
  tally = are.tally;
  last = are.last;
}

-- one end more is counted
abbrev pub one_more : Tally → EndValue → Tally
one_more tally e = record {
  ended = counted (tally.ended + 1);
  failed = counted (tally.failed + cond (is_failure e.verdict) 1 0);
  bytes = counted (tally.bytes + e.length);
}

counted_more : (n more all : ℕ) → all ≡ n + more → counted (counted n + more) ≡ counted all
counted_more n more all is = omega (arith, is)

pub tally_more : (ts : List PrintedLineValue) (t : PrintedLineValue) → one_more (tally_of ts) t.end ≡ tally_of (ts ++ t ∷ [])
tally_more ts t =
    let failed : PrintedLineValue → ℕ = λ x. cond (is_failure x.end.verdict) 1 0 in
    let size : PrintedLineValue → ℕ = λ x. x.end.length in
    ap (λ n. record { ended = n; failed = counted (counted (sum_by failed ts) + failed t); bytes = counted (counted (sum_by size ts) + size t) })
    (counted_more (length ts) 1 (length (ts ++ t ∷ [])) (length-append ts (t ∷ [])))
    ∙ ap (λ n. record { ended = counted (length (ts ++ t ∷ [])); failed = n; bytes = counted (counted (sum_by size ts) + size t) })
    (counted_more (sum_by failed ts) (failed t) (sum_by failed (ts ++ t ∷ [])) (sum_by_push failed ts t))
    ∙ ap (λ n. record { ended = counted (length (ts ++ t ∷ [])); failed = counted (sum_by failed (ts ++ t ∷ [])); bytes = n })
    (counted_more (sum_by size ts) (size t) (sum_by size (ts ++ t ∷ [])) (sum_by_push size ts t))

last_more : (ts : List PrintedLineValue) (t : PrintedLineValue) → last_of (ts ++ t ∷ []) ≡ Some t.end
last_more [] t = refl
last_more (s ∷ []) t = refl
last_more (_ ∷ s ∷ ts) t = last_more (s ∷ ts) t

-- one end more was reported, and flushed
pub told_on : {W : Type 0} (contents : W → Option (List ℕ)) (l : LinesValue W) (out : Output W) (t : PrintedLineValue) (status : ExitStatus) (ts : List PrintedLineValue) (tally : Tally) → AreLines contents l
    → has_failed_write l.output ≢ true → Wrote contents l.output out (line_of l.json t.end) → is_pending out ≡ false
    → first_of status ≡ after_note (first_of l.status) (note_of t) → ts ≡ l.told ++ t ∷ [] → tally ≡ one_more l.tally t.end
    → AreLines contents (record l { status = status; output = out; told = ts; tally = tally; last = Some t.end })
told_on contents l out t status ts tally are well wrote flushed noted more counts =
    subst (λ x. AreLines contents (record l { status = status; output = out; told = x; tally = tally; last = Some t.end })) (sym more) (record {
      written = λ still. written_more (contents (writer_of l.start)) (contents (writer_of l.output)) (contents (writer_of out)) l.json l.told t (are.written well) wrote;
      flushed = λ still. flushed;
      status = noted ∙ ap (λ f. after_note f (note_of t)) are.status ∙ sym (noted_more None l.told t);
      tally = counts ∙ ap (λ x. one_more x t.end) are.tally ∙ tally_more l.told t;
      last = sym (last_more l.told t);
    })
