-- How a run of `get` ends.
use Rattle.std.proofs.Common.{◌≡◌, ◌≢◌, ◌∙◌, sym, subst, ℕ, List, [], length, take, inl, inr, arith, append-nil}
use Rattle.std.specs.Prelude.{Bool, Err, IfErr, IfOk, Ok, OnOk, Option, Result}
use Rattle.std.proofs.KnownBytes.{Appends-trans}
use Rattle.std.proofs.lemmas.List.{take_all}
use Rattle.mx_types.specs.Code.{code_number}
use Rattle.mx_types.specs.declared.code.Code.TheVariants as codes
use Rattle.mx_run_io.specs.Ends.{Wrote}
use Rattle.mx_run_io.specs.Faults.{PrintsFault, fault_line}
use Rattle.mx_run_io.specs.declared.output.Output.{Output}
use Rattle.mx_text.specs.Lines.{Writes, body_line}
use Rattle.mx_text.specs.declared.fetched.Fetched.{Fetched}
use Rattle.mx_text.specs.Texts.{texts_from, exit_status}
use Rattle.mx_run_get.specs.Asked.{AreEndsOf}
use Rattle.mx_run_get.specs.Causes.{cause_words}
use Rattle.mx_run_get.specs.Explained.{IsRunText}
use Rattle.mx_run_get.specs.Explains.{ExplainsUrls}
use Rattle.mx_run_get.specs.Run.{AnswersUrls, PrintsEnds, PrintsFirst, StopsAfter}
use Rattle.mx_run_get.specs.declared.error.FetchError.{FetchError}
use Rattle.mx_run_get.specs.declared.error.FetchError.TheVariants as cause

-- the ends of the first URLs are those of all, where they are as many
pub all_ends : (t m : ℕ) (urls : List (List ℕ)) (ends : List Fetched) → length ends ≡ length urls → AreEndsOf t m (take (length ends) urls) ends → AreEndsOf t m urls ends
all_ends t m urls ends count of = subst (λ us. AreEndsOf t m us ends) (take_all (length ends) urls (omega (arith, count))) of

-- all are printed
pub prints_all : (t m : ℕ) (urls : List (List ℕ)) (ends : List Fetched) (Written : List ℕ → Type 0) (status : ℕ) → length ends ≡ length urls
    → AreEndsOf t m (take (length ends) urls) ends → Written (texts_from 0 ends) → status ≡ exit_status ends → PrintsEnds t m urls Written status
prints_all t m urls ends Written status count of written is = record { ends = ends; of_urls = all_ends t m urls ends count of; written = written; status = is }

-- those of the first URLs are printed
pub prints_first : (t m : ℕ) (urls : List (List ℕ)) (ends : List Fetched) (Written : List ℕ → Type 0) → AreEndsOf t m (take (length ends) urls) ends
    → Written (texts_from 0 ends) → PrintsFirst t m urls [] Written
prints_first t m urls ends Written of written = record { ends = ends; of_urls = of; written = subst Written (sym (append-nil (texts_from 0 ends))) written }

-- and then a fault
pub stops_after : {W : Type 0} (contents : W → Option (List ℕ)) (old mid new : Output W) (t m : ℕ) (urls : List (List ℕ)) (status : ℕ)
    → PrintsFirst t m urls [] (Wrote contents old mid) → PrintsFault (code_number codes.OutOfMemory) (Wrote contents mid new) status
    → StopsAfter t m urls (Wrote contents old new) status
stops_after contents old mid new t m urls status first fault =
    let line = fault_line (code_number codes.OutOfMemory) in
    let texts = texts_from 0 first.ends in
    record {
      printed = record {
        ends = first.ends;
        of_urls = first.of_urls;
        written = Appends-trans _ _ _ texts line (subst (λ x. Wrote contents old mid x) (append-nil texts) first.written) fault.written;
      };
      status = fault.status;
    }

-- what a run prints, by its status
pub answers : {W : Type 0} (contents : W → Option (List ℕ)) (old mid new : Output W) (t m : ℕ) (urls : List (List ℕ)) (X : Type 0) (status : Result ℕ FetchError) (ends_with : ℕ)
    → IfOk status (λ s. PrintsEnds t m urls (Wrote contents old mid) s) → IfErr status (λ e. e ≢ cause.Unwritten → PrintsFirst t m urls [] (Wrote contents old mid))
    → IfOk status (λ s. (ends_with ≡ s) × (new ≡ mid)) → IfErr status (λ e. X → (e ≢ cause.Unwritten) × PrintsFault (code_number codes.OutOfMemory) (Wrote contents mid new) ends_with)
    → X → AnswersUrls t m urls (Wrote contents old new) ends_with
answers contents old mid new t m urls X (Ok s) ends_with all first ended stopped x =
    inl (subst (λ o. PrintsEnds t m urls (Wrote contents old o) ends_with) (sym ended.1) (subst (PrintsEnds t m urls (Wrote contents old mid)) (sym ended.0) all))
answers contents old mid new t m urls X (Err e) ends_with all first ended stopped x =
    let so = stopped x in inr (stops_after contents old mid new t m urls ends_with (first so.0) so.1)

-- of a run that printed these ends
pub all_printed : (t m : ℕ) (urls : List (List ℕ)) (ends : List Fetched) (Written : List ℕ → Type 0) (status : Result ℕ FetchError)
    → AreEndsOf t m (take (length ends) urls) ends → OnOk status (length ends ≡ length urls) → OnOk status (Written (texts_from 0 ends))
    → IfOk status (λ s. s ≡ exit_status ends) → IfOk status (λ s. PrintsEnds t m urls Written s)
all_printed t m urls ends Written (Ok s) of count written is = prints_all t m urls ends Written s count of written is
all_printed t m urls ends Written (Err e) of count written is = tt

pub first_printed : (t m : ℕ) (urls : List (List ℕ)) (ends : List Fetched) (Written : List ℕ → Type 0) (status : Result ℕ FetchError)
    → AreEndsOf t m (take (length ends) urls) ends → IfErr status (λ e. e ≢ cause.Unwritten → Written (texts_from 0 ends))
    → IfErr status (λ e. e ≢ cause.Unwritten → PrintsFirst t m urls [] Written)
first_printed t m urls ends Written (Ok s) of written = tt
first_printed t m urls ends Written (Err e) of written = λ other. prints_first t m urls ends Written of (written other)

-- and what it reports
pub explains : {W : Type 0} (contents : W → Option (List ℕ)) (old mid new : Output W) (t m : ℕ) (urls : List (List ℕ)) (ends : List Fetched) (met : Bool) (X Y : Type 0)
    → (Told : List ℕ → Type 0) (status : Result ℕ FetchError) (ends_with : ℕ) → AreEndsOf t m (take (length ends) urls) ends → OnOk status (length ends ≡ length urls)
    → OnOk status (Wrote contents old mid (texts_from 0 ends)) → IfErr status (λ e. e ≢ cause.Unwritten → Wrote contents old mid (texts_from 0 ends))
    → IfOk status (λ s. s ≡ exit_status ends) → IfOk status (λ s. (ends_with ≡ s) × (new ≡ mid))
    → IfErr status (λ e. X → (e ≢ cause.Unwritten) × PrintsFault (code_number codes.OutOfMemory) (Wrote contents mid new) ends_with)
    → OnOk status (Y → Writes (IsRunText urls ends met) Told) → IfErr status (λ e. X → Y → Told (body_line (cause_words e) 27))
    → X → Y → ExplainsUrls t m urls (Wrote contents old new) Told ends_with
explains contents old mid new t m urls ends met X Y Told (Ok s) ends_with of count written stopped is ended fault told why x y = inl (record {
  ends = ends;
  of_urls = all_ends t m urls ends count of;
  printed = subst (λ o. Wrote contents old o (texts_from 0 ends)) (sym ended.1) written;
  status = ended.0 ∙ is;
  met_limit = met;
  told = told y;
})
explains contents old mid new t m urls ends met X Y Told (Err e) ends_with of count written stopped is ended fault told why x y =
    let so = fault x in
    inr (record {
      cause = e;
      printed = stops_after contents old mid new t m urls ends_with (prints_first t m urls ends (Wrote contents old mid) of (stopped so.0)) so.1;
      told = why x y;
    })
