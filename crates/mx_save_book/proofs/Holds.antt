-- What is reported of a URL holds, by how it ended.
use Rattle.std.proofs.Common.{◌≡◌, ◌≢◌, ◌∙◌, refl, ap, sym, subst, ℕ, ◌<◌, ◌≤◌, List, ◌∷◌, ◌++◌, append_assoc, true, inl, inr, arith}
use Rattle.std.specs.Prelude.{Option, Some, None, ◌⊎◌, IfSome, IfOk, IfErr, Result, option_to_list, Ok, Err, codes as chars}
use Rattle.std.specs.List.{AllByRecursion, Contains}
use Rattle.mx_types.specs.declared.code.Code.{Code}
use Rattle.mx_types.specs.declared.code.Code.TheVariants as codes
use Rattle.mx_chain.specs.Outcomes.{OutcomeValue, IsEnd as IsTransferEnd}
use Rattle.mx_text.specs.Words.{told_text}
use Rattle.mx_folder.specs.declared.errors.FolderError.{FolderError}
use Rattle.mx_folder.specs.declared.steps.FolderCall.TheVariants as call
use Rattle.mx_folder.specs.declared.steps.Step.{Step}
use Rattle.mx_folder.specs.declared.steps.Step.TheVariants as steps
use Rattle.mx_folder.specs.Steps.{refusals, refused_calls}
use Rattle.mx_folder.specs.Words.{folder_words}
use Rattle.mx_text.specs.Failures.{IsFlowingWhy}
use Rattle.mx_reason.specs.declared.reason.Reason.{Reason}
use Rattle.mx_save.specs.Bodies.{left_of}
use Rattle.mx_save.specs.Ledgers.{LedgerValue}
use Rattle.mx_save.specs.Tries.{removal_of}
use Rattle.mx_save.specs.Words.{left_text, save_words, unsaved_text}
use Rattle.mx_save.specs.declared.error.SaveError.{SaveError}
use Rattle.mx_save.specs.declared.error.SaveError.TheVariants as unsaved
use Rattle.mx_save_rules.specs.Decisions.{IsDecision}
use Rattle.mx_save_rules.specs.declared.code.SaveCode.{SaveCode}
use Rattle.mx_save_rules.specs.declared.code.SaveCode.TheVariants as save
use Rattle.mx_save_rules.specs.declared.decision.Decision.{Decision}
use Rattle.mx_save_rules.specs.declared.decision.Decision.TheVariants as decision
use Rattle.mx_save_rules.specs.Rules.{is_retried}
use Rattle.mx_save_rules.specs.declared.end.Transferred.{Transferred}
use Rattle.mx_save_rules.specs.Ends.{EndValue, done_end, failed_end, saved_end, skipped_end}
use Rattle.mx_save_end.specs.Bodies.{IsWholeBody}
use Rattle.mx_save_end.specs.Framings.{TellsFraming}
use Rattle.mx_save_end.specs.Heard.{HeardValue, IsHeard, IsTransferred}
use Rattle.mx_save_end.specs.Said.{IsFailedWith, IsSaidBy, IsToldOf, unsaved_code}
use Rattle.mx_save_rules.specs.declared.asking.Asking.{Asking}
use Rattle.mx_save_book.specs.declared.job.Job.{Job}
use Rattle.mx_save_book.specs.Jobs.{Asks, CanAsk, HasFound, HasRefused, HoldsOf, IsEnding, IsNeeded, IsReported, IsTry, IsUnsavedFor, TellsLeft, told_refusals}
use Rattle.mx_save_book.proofs.Fails.{done_ok, needed_save, ok_or_not}

-- what is reported of an outcome
reported : (asking : Asking) (o : OutcomeValue) (tries : ℕ) (t : Transferred) (e : EndValue) → IsTransferred o tries t → IsTry asking tries
    → e.status ≡ t.status → e.hops ≡ t.hops → e.framing ≡ t.framing → e.tries ≡ t.tries → IsReported asking o e
reported asking o tries t e is once status hops framing tried = record {
  status = status ∙ is.status;
  hops = hops ∙ is.hops;
  framing = subst (TellsFraming o.last.request.method o.wire) (sym framing) is.framing;
  tries = subst (IsTry asking) (sym (tried ∙ is.tries)) once;
}

-- what is left of a part, and what is said of it
pub left_discarded : (old new : LedgerValue OutcomeValue) (said part : List ℕ) (left : Option FolderError) (words : Option (List ℕ)) → new.left ≡ left_of part left ++ old.left
    → words ≡ Some (said ++ left_text part left) → TellsLeft old new words
left_discarded old new said part None words is same = inl is
left_discarded old new said part (Some why) words is same =
    inr (part, said ++ chars "; the part ", chars " is left: " ++ folder_words why, is, same ∙ ap Some (sym (append_assoc said (chars "; the part ") (part ++ (chars " is left: " ++ folder_words why)))))

after_words : (said part : List ℕ) (left : FolderError) → (before : List ℕ) × (after : List ℕ) × (said ++ left_text part (Some left) ≡ before ++ (part ++ after))
after_words said part left =
    (said ++ chars "; the part ", chars " is left: " ++ folder_words left, sym (append_assoc said (chars "; the part ") (part ++ (chars " is left: " ++ folder_words left))))

left_said : (why : SaveError) (part : List ℕ) (left : FolderError) → (before : List ℕ) × (after : List ℕ) × (unsaved_text why (Some part) (Some left) ≡ before ++ (part ++ after))
left_said (unsaved.Create e) part left = (chars "the part ", chars " can't be made: " ++ save_words (unsaved.Create e), refl)
left_said (unsaved.Write e) part left = after_words (save_words (unsaved.Write e)) part left
left_said (unsaved.Flush e) part left = after_words (save_words (unsaved.Flush e)) part left
left_said (unsaved.Place e) part left = after_words (save_words (unsaved.Place e)) part left
left_said unsaved.OutOfMemory part left = after_words (save_words unsaved.OutOfMemory) part left

pub left_unsaved : (old new : LedgerValue OutcomeValue) (why : SaveError) (told_part : Option (List ℕ)) (part : List ℕ) (left : Option FolderError) (words : Option (List ℕ))
    → told_part ≡ Some part → new.left ≡ left_of part left ++ old.left → words ≡ Some (unsaved_text why (Some part) left) → TellsLeft old new words
left_unsaved old new why told_part part None words named is same = inl is
left_unsaved old new why told_part part (Some left) words named is same =
    let said = left_said why part left in
    inr (part, said.0, said.1, is, same ∙ ap Some said.2)

-- a body that was saved
pub saved : (asking : Asking) (job : Job) (old new : LedgerValue OutcomeValue) (o : OutcomeValue) (t : Transferred) (file : List ℕ) (e : EndValue)
    → new.entries ≡ (job.name, o) ∷ old.entries → file ≡ job.name → IsWholeBody o → Asks asking job.url.items o.request
    → IsDecision o.code o.last.request.method o.status asking.content_on_error decision.Save → IsTransferred o t.tries t → IsTry asking t.tries
    → new.left ≡ old.left → e ≡ saved_end job.url.items file t → IsEnding asking job o old new e
saved asking job old new o t file e is named whole asked decided told once removed same =
    subst (IsEnding asking job o old new) (sym same) (record {
      url = refl;
      grows = inr (refl, o, whole, is);
      name = named;
      holds = record {
        name = job.name;
        file = ap Some named;
        saved = subst (λ x. Contains x (job.name, o)) (sym is) (0, omega arith, refl);
        whole = whole;
        asked = asked;
        decided = decided;
        size = told.size whole.code;
        report = reported asking o t.tries t (saved_end job.url.items file t) told once refl refl refl refl;
      };
      left = inl removed;
    })

-- the folder has refused a call since the run began
since : (old new : LedgerValue OutcomeValue) → refusals old.start ≤ refusals old.steps → new.start ≡ old.start → refusals old.steps < refusals new.steps → refusals new.start < refusals new.steps
since old new before start more = omega (arith, more, before, ap refusals start)

-- one that wasn't
pub unsaved_by : (asking : Asking) (job : Job) (old new : LedgerValue OutcomeValue) (o : OutcomeValue) (t : Transferred) (why : SaveError) (told_part : Option (List ℕ)) (part : List ℕ) (left : Option FolderError) (e : EndValue)
    → IsTransferEnd o → why ≢ unsaved.OutOfMemory → told_part ≡ Some part → IsUnsavedFor asking o why → new.entries ≡ old.entries → Asks asking job.url.items o.request → IsTransferred o t.tries t → IsTry asking t.tries
    → refusals old.start ≤ refusals old.steps → new.start ≡ old.start → refusals old.steps < refusals new.steps
    → HasRefused new (told_refusals why (Some part) left) → new.left ≡ left_of part left ++ old.left
    → e ≡ failed_end job.url.items (unsaved_code why) t (Some (unsaved_text why told_part left)) → IsEnding asking job o old new e
unsaved_by asking job old new o t why told_part part left e is known named cause kept asked told once before start more calls removed same =
    subst (IsEnding asking job o old new) (sym (same ∙ ap (λ p. failed_end job.url.items (unsaved_code why) t (Some (unsaved_text why p left))) named)) (record {
      url = refl;
      grows = inl (refl, kept);
      name = tt;
      holds = inr (inl (record {
        is = is;
        asked = asked;
        report = reported asking o t.tries t (failed_end job.url.items (unsaved_code why) t (Some (unsaved_text why (Some part) left))) told once refl refl refl refl;
        why = why;
        known = known;
        cause = cause;
        part = part;
        left = left;
        code = refl;
        words = refl;
        refused = since old new before start more;
        calls = calls;
      }));
      left = left_unsaved old new why told_part part left (Some (unsaved_text why (Some part) left)) named removed refl;
    })

-- a URL for which no part could be made
pub unmade : (asking : Asking) (l : LedgerValue OutcomeValue) (url : List ℕ) (tries : ℕ) (t : Transferred) (why : SaveError) (part : Option (List ℕ)) (left : Option FolderError) (e : EndValue)
    → CanAsk asking url → IsTry asking tries → t ≡ record { status = 0; length = 0; framing = None; hops = 0; tries = tries } → left ≡ None
    → (why ≢ unsaved.OutOfMemory → refusals l.start < refusals l.steps) → HasRefused l (told_refusals why part None)
    → e ≡ failed_end url (unsaved_code why) t (Some (unsaved_text why part left)) → HoldsOf asking l e e.verdict
unmade asking l url tries t why part left e can once none gone refused calls same =
    subst (λ x. HoldsOf asking l x x.verdict) (sym same) (inr (inl (record {
      can = can;
      why = why;
      part = part;
      code = refl;
      words = ap (λ x. Some (unsaved_text why part x)) gone;
      refused = refused;
      calls = calls;
      untransferred = (ap (λ x. x.status) none, ap (λ x. x.hops) none, ap (λ x. x.framing) none);
      tries = subst (IsTry asking) (sym (ap (λ x. x.tries) none)) once;
    })))

-- of a response that has nothing to save
pub done : (asking : Asking) (job : Job) (old new : LedgerValue OutcomeValue) (o : OutcomeValue) (t : Transferred) (e : EndValue) → IsTransferEnd o → new.entries ≡ old.entries
    → Asks asking job.url.items o.request → IsDecision o.code o.last.request.method o.status asking.content_on_error decision.Done → IsTransferred o t.tries t → IsTry asking t.tries
    → new.left ≡ old.left → e ≡ done_end job.url.items t → IsEnding asking job o old new e
done asking job old new o t e is kept asked decided told once removed same =
    subst (IsEnding asking job o old new) (sym same) (record {
      url = refl;
      grows = inl (refl, kept);
      name = tt;
      holds = record {
        is = is;
        asked = asked;
        decided = decided;
        size = told.size (done_ok o.code o.last.request.method o.status asking.content_on_error decided);
        report = reported asking o t.tries t (done_end job.url.items t) told once refl refl refl refl;
      };
      left = inl removed;
    })

-- what is said of a failure, without the part that is left
record Says (of_whole : List ℕ) (o : OutcomeValue) (part : List ℕ) (left : Option FolderError) (text : List ℕ) : Type 0 where
  said : List ℕ
  whole : o.code ≡ codes.Ok → said ≡ of_whole
  failed : o.code ≢ codes.Ok → IsToldOf o said
  is : text ≡ said ++ left_text part left

says : (of_whole : List ℕ) (o : OutcomeValue) (c : Code) (reason : Option Reason) (part : List ℕ) (left : Option FolderError) (text : List ℕ)
    → IsSaidBy of_whole c reason part left text → c ≡ o.code → IsFlowingWhy o reason → Says of_whole o part left text
says of_whole o c reason part left text by same why =
    elim (ok_or_not c) [
      | inl ok ↦ record { said = of_whole; whole = λ e. refl; failed = λ bad. absurd (bad (sym same ∙ ok)); is = by.whole ok }
      | inr other ↦ record {
        said = told_text c reason;
        whole = λ e. absurd (other.0 (same ∙ e));
        failed = λ bad. (reason, why, ap (λ x. told_text x reason) same);
        is = by.failed other.0;
      }
    ]

-- of a transfer of which nothing is saved
pub failed : (asking : Asking) (job : Job) (old new : LedgerValue OutcomeValue) (o : OutcomeValue) (t : Transferred) (code : SaveCode) (c : Code) (reason : Option Reason) (part : List ℕ) (left : Option FolderError) (e : EndValue)
    → IsTransferEnd o → new.entries ≡ old.entries → Asks asking job.url.items o.request
    → IsDecision o.code o.last.request.method o.status asking.content_on_error (decision.Fail code) → IsTransferred o t.tries t → IsTry asking t.tries
    → c ≡ o.code → IsFlowingWhy o reason → HasRefused new (removal_of part left) → new.left ≡ left_of part left ++ old.left
    → IsFailedWith (chars "the status of the response isn't 2xx") job.url.items code t c reason part left e → IsEnding asking job o old new e
failed asking job old new o t code c reason part left e is kept asked decided told once same why removed still with =
    let s = says (chars "the status of the response isn't 2xx") o c reason part left with.text with.said same why in
    subst (IsEnding asking job o old new) (sym with.is) (record {
      url = refl;
      grows = inl (refl, kept);
      name = tt;
      holds = inl (record {
        is = is;
        asked = asked;
        decided = decided;
        report = reported asking o t.tries t (failed_end job.url.items code t (Some with.text)) told once refl refl refl refl;
        text = s.said;
        said = record { whole = s.whole; failed = s.failed };
        part = part;
        left = left;
        words = ap Some s.is;
        calls = removed;
      });
      left = left_discarded old new s.said part left (Some with.text) still (ap Some s.is);
    })

-- of one whose part is left
pub left : (asking : Asking) (job : Job) (old new : LedgerValue OutcomeValue) (o : OutcomeValue) (t : Transferred) (c : Code) (reason : Option Reason) (part : List ℕ) (answer : Option FolderError) (why : FolderError) (e : EndValue)
    → IsTransferEnd o
    → IsDecision o.code o.last.request.method o.status asking.content_on_error decision.Done ⊎ (is_retried asking.method o.code o.status ≡ true)
    → new.entries ≡ old.entries → Asks asking job.url.items o.request → IsTransferred o t.tries t → IsTry asking t.tries
    → c ≡ o.code → IsFlowingWhy o reason → answer ≡ Some why → HasRefused new (removal_of part answer) → new.left ≡ left_of part answer ++ old.left
    → IsFailedWith (chars "its body isn't saved") job.url.items save.WriteError t c reason part answer e → IsEnding asking job o old new e
left asking job old new o t c reason part answer why e is cause kept asked told once same reasons answered removed still with =
    let s = says (chars "its body isn't saved") o c reason part answer with.text with.said same reasons in
    subst (IsEnding asking job o old new) (sym with.is) (record {
      url = refl;
      grows = inl (refl, kept);
      name = tt;
      holds = inr (inr (record {
        is = is;
        asked = asked;
        cause = cause;
        report = reported asking o t.tries t (failed_end job.url.items save.WriteError t (Some with.text)) told once refl refl refl refl;
        text = s.said;
        said = record { whole = s.whole; failed = s.failed };
        part = part;
        why = why;
        code = refl;
        words = ap Some s.is ∙ ap (λ x. Some (s.said ++ left_text part x)) answered;
        calls = subst (λ x. HasRefused new (removal_of part x)) answered removed;
      }));
      left = left_discarded old new s.said part answer (Some with.text) still (ap Some s.is);
    })

-- why a body wasn't saved of which a write was refused
pub unsaved_for : (asking : Asking) (h : HeardValue) (why : SaveError) (error : FolderError) → IsHeard h → IfSome h.body IsWholeBody
    → IsDecision h.outcome.code h.outcome.last.request.method h.outcome.status asking.content_on_error h.decision → IsNeeded h.decision → h.is_sound ≡ true → why ≡ unsaved.Write error
    → IsUnsavedFor asking h.outcome why
unsaved_for asking h why error is whole decided needed sound same =
    let o = h.outcome in
    let Decided : Decision → Type 0 = IsDecision o.code o.last.request.method o.status asking.content_on_error in
    elim (is.sound sound) [
      | inl ok ↦ inl (
        whole_of h.body o is.body (λ none. is.bodiless none ok) whole,
        subst Decided (needed_save o.code o.last.request.method o.status asking.content_on_error h.decision decided needed ok) decided,
      )
      | inr sink ↦ inr (error, same, sink)
    ]
  where
    whole_of : (b : Option OutcomeValue) (o : OutcomeValue) → IfSome b (λ y. y ≡ o) → (b ≢ None) → IfSome b IsWholeBody → IsWholeBody o
    whole_of None o same some whole = absurd (some refl)
    whole_of (Some b) o same some whole = subst IsWholeBody same whole

-- the body that is known is the outcome's
pub body_is : (b : Option OutcomeValue) (x o : OutcomeValue) → b ≡ Some x → IfSome b (λ y. y ≡ o) → x ≡ o
body_is b x o is known = subst (λ z. IfSome z (λ y. y ≡ o)) is known

-- where an end was made
pub if_ok : {A E : Type 0} (P Q : A → Type 0) (r : Result A E) → ((x : A) → P x → Q x) → IfOk r P → IfOk r Q
if_ok P Q (Ok x) f p = f x p
if_ok P Q (Err e) f p = tt

-- where none was
pub if_err : {A E : Type 0} (P Q : E → Type 0) (r : Result A E) → ((x : E) → P x → Q x) → IfErr r P → IfErr r Q
if_err P Q (Ok a) f p = tt
if_err P Q (Err x) f p = f x p

-- of one that is skipped
pub skipped_holds : (asking : Asking) (l : LedgerValue OutcomeValue) (url name : List ℕ) (e : EndValue) → asking.skip_existing ≡ true → HasFound l name → e ≡ skipped_end url name
    → HoldsOf asking l e e.verdict
skipped_holds asking l url name e asked found same =
    subst (λ x. HoldsOf asking l x x.verdict) (sym same) (record { asked = asked; name = name; file = refl; found = found; untried = (refl, refl, refl, refl) })
