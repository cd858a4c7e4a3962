-- One end more is printed.
use Rattle.std.proofs.Common.{◌≡◌, ◌∙◌, refl, ap, sym, subst, ℕ, ◌+◌, ◌<◌, List, [], ◌∷◌, ◌++◌, length, true, inl, inr, arith, append_assoc, append-nil}
use Rattle.std.specs.Prelude.{◌==◌, Option, if◌then◌else◌}
use Rattle.std.proofs.KnownBytes.{Appends-trans}
use Rattle.std.proofs.lemmas.Bool.Decides.{eqb_tells}
use Rattle.mx_types.specs.Code.{code_number}
use Rattle.mx_run_io.specs.Ends.{Wrote, has_failed_write}
use Rattle.mx_text.specs.declared.fetched.Fetched.{Fetched}
use Rattle.mx_text.specs.Fetched.{code_of}
use Rattle.mx_text.specs.Texts.{transfer_text, texts_from, exit_status}
use Rattle.mx_run_get.specs.Printer.{PrinterValue, IsPrinter}

texts_push : (h : ℕ) (xs : List Fetched) (y : Fetched) → texts_from h (xs ++ y ∷ []) ≡ texts_from h xs ++ transfer_text (h + length xs) y
texts_push h [] y =
    let none : h + 0 ≡ h = omega arith in
    append-nil (transfer_text h y) ∙ ap (λ k. transfer_text k y) (sym none)
texts_push h (x ∷ xs) y =
    let next : h + 1 + length xs ≡ h + length (x ∷ xs) = omega arith in
    ap (λ t. transfer_text h x ++ t) (texts_push (h + 1) xs y ∙ ap (λ k. texts_from (h + 1) xs ++ transfer_text k y) next)
    ∙ sym (append_assoc (transfer_text h x) (texts_from (h + 1) xs) (transfer_text (h + length (x ∷ xs)) y))

status_push : (xs : List Fetched) (y : Fetched) → exit_status (xs ++ y ∷ []) ≡ (if exit_status xs == 0 then code_number (code_of y) else exit_status xs)
status_push [] y =
    elim (eqb_tells (code_number (code_of y)) 0) as (λ _. exit_status (y ∷ []) ≡ code_number (code_of y)) [
      | inl t ↦ rw t.0 (sym t.1)
      | inr f ↦ rw f.0 refl
    ]
status_push (x ∷ xs) y =
    elim (eqb_tells (code_number (code_of x)) 0) as (λ _. exit_status ((x ∷ xs) ++ y ∷ []) ≡ (if exit_status (x ∷ xs) == 0 then code_number (code_of y) else exit_status (x ∷ xs))) [
      | inl t ↦ rw t.0 (status_push xs y)
      | inr f ↦ rw (f.0, f.0) refl
    ]

-- the output has had one text more, and what is left of the end is kept
pub printed_more : {W : Type 0} (contents : W → Option (List ℕ)) (p q : PrinterValue W) (y : Fetched) (handle : ℕ)
    → (has_failed_write p.output ≡ true → has_failed_write q.output ≡ true) → handle ≡ length p.printed
    → Wrote contents p.output q.output (transfer_text handle y) → q.begun ≡ p.begun → q.printed ≡ p.printed ++ y ∷ []
    → q.status ≡ (if p.status == 0 then code_number (code_of y) else p.status) → q.status < 121 → IsPrinter contents p → IsPrinter contents q
printed_more contents p q y handle stays at wrote begun printed is small before = record {
  wrote = λ well.
      let all = before.wrote (λ failed. well (stays failed)) in
      let none : length p.printed ≡ 0 + length p.printed = omega arith in
      let text : texts_from 0 p.printed ++ transfer_text handle y ≡ texts_from 0 q.printed =
      ap (λ k. texts_from 0 p.printed ++ transfer_text k y) (at ∙ none) ∙ sym (texts_push 0 p.printed y) ∙ sym (ap (texts_from 0) printed) in
      let more = Appends-trans _ _ _ (texts_from 0 p.printed) (transfer_text handle y) all wrote in
      subst (λ b. Wrote contents b q.output (texts_from 0 q.printed)) (sym begun) (subst (λ t. Wrote contents p.begun q.output t) text more);
  status = is ∙ ap (λ s. if s == 0 then code_number (code_of y) else s) before.status ∙ sym (status_push p.printed y) ∙ sym (ap exit_status printed);
  small = small;
}
