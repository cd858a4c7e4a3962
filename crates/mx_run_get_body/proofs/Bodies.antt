-- A body that was written, by what its transfer ended with.
use Rattle.std.proofs.Common.{◌≡◌, ◌∙◌, refl, sym, ap, inl, inr, List, ℕ, [], ◌∷◌, ◌++◌, length, append-nil, length-append, arith}
use Rattle.std.specs.Prelude.{◌≢◌, ◌⊎◌, Bool, true, false, Option, Result, Ok, Err, OnOk, OnErr, is_ok}
use Rattle.mx_types.specs.declared.code.Code.{Code}
use Rattle.mx_types.specs.declared.code.Code.TheVariants as code
use Rattle.mx_exchange.specs.Hops.{HasBody}
use Rattle.mx_chain.specs.Outcomes.{OutcomeValue, IsEnd}
use Rattle.mx_run_io.specs.Ends.{has_failed_write, is_pending}
use Rattle.mx_run_get_body.specs.Bodies.{IsTrue, IsWritten, WriterSinkValue}

-- the code that is told where a code is the transfer's, or says that content couldn't be written, which has this reason
abbrev pub TellsCode : Code → Code → Type 0 → Type 0
TellsCode c d Reason = (c ≡ d) ⊎ ((c ≡ code.WriteError) × (d ≡ code.Ok) × Reason)

pub was_ok : {Reason : Type 0} (c d : Code) → TellsCode c d Reason → c ≡ code.Ok → d ≡ code.Ok
was_ok c d (inl e) ok = sym e ∙ ok
was_ok c d (inr e) ok = let bad : code.Ok ≡ code.WriteError = sym ok ∙ e.0 in cc

pub written : {W : Type 0} (contents : W → Option (List ℕ)) (o : OutcomeValue) (c : Code) (s : WriterSinkValue W) (rest : List ℕ) → IsEnd o → (o.code ≡ code.Ok → HasBody o.last)
    → (o.code ≡ code.Ok → o.content ≡ o.last.content) → TellsCode c o.code ((has_failed_write s.output ≡ true) ⊎ (rest ≢ [])) → o.content ≡ s.got ++ rest → (c ≡ code.Ok → rest ≡ [])
    → (c ≡ code.Ok → (has_failed_write s.output ≡ false) × (is_pending s.output ≡ false)) → IsTrue contents s → IsWritten contents o.request o c s
written contents o c s rest is body handed code_is prefix all flushed wrote = record {
  end = is;
  request_is = refl;
  code_is = code_is;
  rest = rest;
  prefix = prefix;
  flushed = flushed;
  wrote = wrote;
  whole = λ ok.
      let was = was_ok c o.code code_is ok in
      (body was, sym (handed was) ∙ prefix ∙ ap (λ (l : List ℕ). s.got ++ l) (all ok) ∙ append-nil s.got);
}

-- the code of a transfer of which all was written and flushed, or not
pub told_as : (c flushed own was : Code) (is_flushed is_all : Bool) (Failed Left : Type 0) → TellsCode c flushed (is_all ≡ false) → TellsCode flushed own (is_flushed ≡ false) → own ≡ was
    → (is_flushed ≡ false → Failed) → (is_all ≡ false → Left) → TellsCode c was (Failed ⊎ Left)
told_as c flushed own was is_flushed is_all Failed Left (inl is) (inl same) be failed left = inl (is ∙ same ∙ be)
told_as c flushed own was is_flushed is_all Failed Left (inl is) (inr e) be failed left = inr (is ∙ e.0, sym be ∙ e.1, inl (failed e.2))
told_as c flushed own was is_flushed is_all Failed Left (inr e) (inl same) be failed left = inr (e.0, sym be ∙ sym same ∙ e.1, inr (left e.2))
told_as c flushed own was is_flushed is_all Failed Left (inr e) (inr f) be failed left =
    let bad : code.Ok ≡ code.WriteError = sym e.1 ∙ f.0 in
    absurd (cc)

-- what holds where a call went well
pub where_ok : {A E : Type 0} (P : Type 0) (r : Result A E) → is_ok r ≡ true → OnOk r P → P
where_ok P (Ok value) ok holds = holds
where_ok P (Err error) ok holds = absurd (let both : false ≡ true = ok in cc)

pub where_failed : {A E : Type 0} (P : Type 0) (r : Result A E) → is_ok r ≡ false → OnErr r P → P
where_failed P (Ok value) failed holds = absurd (let both : true ≡ false = failed in cc)
where_failed P (Err error) failed holds = holds

-- nothing is left where there is neither
pub both_none : (xs ys : List ℕ) → length xs ≡ 0 → length ys ≡ 0 → xs ++ ys ≡ []
both_none [] [] one two = refl
both_none [] (y ∷ ys) one two = absurd (omega (arith, two))
both_none (x ∷ xs) ys one two = absurd (omega (arith, one))

-- and where nothing is left there is neither
pub none_both : (xs ys : List ℕ) → xs ++ ys ≡ [] → (length xs ≡ 0) × (length ys ≡ 0)
none_both xs ys none = (omega (arith, ap length none, length-append xs ys), omega (arith, ap length none, length-append xs ys))
